-- The first sync point behind the first packet, as packets are put behind and dropped in front.
use Rattle.std.proofs.Common.{◌≡◌, ℕ, ◌+◌, ◌<◌, true, false, List, [], ◌∷◌, ◌++◌, length, drop, Option, Some, None, arith, refl, ap, sym, ◌∙◌, inl, inr}
use Rattle.std.proofs.lemmas.Bool.{cases_Bool, ltb-true}
use Rattle.mc_packet.specs.declared.packet.Packet.{Packet}
use Rattle.mc_packet.specs.declared.packet.Pos.{Pos}
use Rattle.mc_journal.specs.Films.{rank}
use Rattle.mc_packet.specs.Choices.{or_else}
use Rattle.mc_queue.specs.Places.{Rise, behind, is_before, place}
use Rattle.mc_queue.specs.Queue.{first_of, first_that, is_sync}
use Rattle.mc_queue.specs.Blocks.{AreBlocks, BlocksState, Follows, Shape, block_at, flat, is_in_front, next_with}
use Rattle.mc_queue.proofs.Wanted.{first_both}

-- ---- packets more

pub with_more : (old more : List Packet) (next : Option Pos) → next ≡ first_that is_sync (drop 1 old) → next_with next (length old) more ≡ first_that is_sync (drop 1 (old ++ more))
with_more [] more None e = refl
with_more [] more (Some q) e = absurd (cc)
with_more (p ∷ ps) more None e = sym (first_both is_sync ps more ∙ ap (λ o. or_else o (first_that is_sync more)) (sym e))
with_more (p ∷ ps) more (Some q) e = sym (first_both is_sync ps more ∙ ap (λ o. or_else o (first_that is_sync more)) (sym e))

pub with_next : (old more : List Packet) (next : Option Pos) → next ≡ first_that is_sync (drop 1 old) → (count : ℕ) → count ≡ length old → (slice : List Packet) → slice ≡ more
    → next_with next count slice ≡ first_that is_sync (drop 1 (old ++ more))
with_next old more next e count f slice g = ap (λ n. next_with next n slice) f ∙ ap (λ ps. next_with next (length old) ps) g ∙ with_more old more next e

-- ---- packets less

-- where none is a sync point, none of the last ones is
none_behind : (cut : ℕ) (ps : List Packet) → first_that is_sync ps ≡ None → first_that is_sync (behind cut ps) ≡ None
none_behind cut [] e = refl
none_behind cut (p ∷ ps) e = elim (cases_Bool (is_before cut p)) [
  | inl y ↦ rw y (none_behind cut ps (rest p ps e))
  | inr n ↦ rw n e
]
  where
    rest : (p : Packet) (ps : List Packet) → first_that is_sync (p ∷ ps) ≡ None → first_that is_sync ps ≡ None
    rest p ps e = elim (cases_Bool p.sync) [ inl y ↦ absurd (let f : Some p.pos ≡ None = rw y at e in cc) | inr n ↦ rw n at e ]

none_of_rest : (ps : List Packet) → first_that is_sync ps ≡ None → first_that is_sync (drop 1 ps) ≡ None
none_of_rest [] e = refl
none_of_rest (p ∷ ps) e = elim (cases_Bool p.sync) [ inl y ↦ absurd (let f : Some p.pos ≡ None = rw y at e in cc) | inr n ↦ rw n at e ]

none_left : (cut : ℕ) (ps : List Packet) → first_that is_sync (drop 1 ps) ≡ None → first_that is_sync (drop 1 (behind cut ps)) ≡ None
none_left cut [] e = refl
none_left cut (p ∷ ps) e = elim (cases_Bool (is_before cut p)) [
  | inl y ↦ rw y (none_of_rest (behind cut ps) (none_behind cut ps e))
  | inr n ↦ rw n e
]

-- the packets that are left begin no earlier
begin_from : (track from to cut : ℕ) (ps : List Packet) (at : ℕ) → Rise track from to ps → is_in_front at (first_of (behind cut ps)) ≡ true → from < at
begin_from track from to cut [] at r e = absurd (let f : false ≡ true = e in cc)
begin_from track from to cut (p ∷ ps) at r e = elim (cases_Bool (is_before cut p)) [
  | inl y ↦ let m = begin_from track (place p + 1) to cut ps at r.2 (rw y at e) in let n = r.1 in omega arith
  | inr n ↦ let m = ltb-true (place p) at (rw n at e) in let o = r.1 in omega arith
]

stays_next : (track from to cut : ℕ) (ps : List Packet) (q : Pos) → Rise track from to ps → first_that is_sync (drop 1 ps) ≡ Some q → is_in_front (rank q) (first_of (behind cut ps)) ≡ true
    → first_that is_sync (drop 1 (behind cut ps)) ≡ Some q
stays_next track from to cut [] q r e f = absurd (cc)
stays_next track from to cut (p ∷ []) q r e f = absurd (cc)
stays_next track from to cut (p ∷ p' ∷ ps) q r e f = elim (cases_Bool (is_before cut p)) [
  | inl y ↦ rw y (elim (cases_Bool p'.sync) [
    | inl s ↦
        let i : p'.pos ≡ q = same (rw s at e) in
        let l = begin_from track (place p + 1) to cut (p' ∷ ps) (rank q) r.2 (rw y at f) in
        absurd (past p' ps (ap (λ (x : Pos). rank x) i) (rw y at f) r.2)
    | inr n ↦ stays_next track (place p + 1) to cut (p' ∷ ps) q r.2 (rw n at e) (rw y at f)
  ])
  | inr n ↦ rw n e
]
  where
    same : {a b : Pos} → Some a ≡ Some b → a ≡ b
    same e = cc

    past : (p' : Packet) (ps : List Packet) → place p' ≡ rank q → is_in_front (rank q) (first_of (behind cut (p' ∷ ps))) ≡ true → Rise track (place p + 1) to (p' ∷ ps) → ⊥
    past p' ps i f r = elim (cases_Bool (is_before cut p')) [
      | inl y ↦ let m = begin_from track (place p' + 1) to cut ps (rank q) r.2 (rw y at f) in omega arith
      | inr n ↦ let m = ltb-true (place p') (rank q) (rw n at f) in omega arith
    ]

pub follows : (track from to cut : ℕ) (old new : List Packet) (next result : Option Pos) → Rise track from to old → new ≡ behind cut old → next ≡ first_that is_sync (drop 1 old) → Follows next new result
    → result ≡ first_that is_sync (drop 1 new)
follows track from to cut old new None result r e f g = g ∙ sym (ap (λ ps. first_that is_sync (drop 1 ps)) e ∙ none_left cut old (sym f))
follows track from to cut old new (Some q) result r e f g = elim (cases_Bool (is_in_front (rank q) (first_of new))) [
  | inl y ↦
      let z : is_in_front (rank q) (first_of (behind cut old)) ≡ true = ap (λ ps. is_in_front (rank q) (first_of ps)) (sym e) ∙ y in
      let a : result ≡ Some q = rw y at g in
      a ∙ sym (ap (λ ps. first_that is_sync (drop 1 ps)) e ∙ stays_next track from to cut old q r (sym f) z)
  | inr n ↦ rw n at g
]

-- ---- in blocks

some_block : (bs : List (List Packet)) (n : ℕ) → n ≡ length bs → (n ≡ 0 → ⊥) → 0 < length bs
some_block [] n e f = absurd (f e)
some_block (b ∷ bs) n e f = omega arith

-- behind the first packet of the first block, and then in the others
pub next_in : (s : BlocksState) (b : List Packet) → AreBlocks s → 0 < length s.blocks → b ≡ block_at 0 s.blocks
    → first_that is_sync (drop 1 s.packets) ≡ or_else (first_that is_sync (drop 1 b)) (first_that is_sync (flat (drop 1 s.blocks)))
next_in s b a l e =
    ap (λ ps. first_that is_sync (drop 1 ps)) (sym a.all) ∙ by s.blocks a.shape l ∙ ap (λ c. or_else (first_that is_sync (drop 1 c)) (first_that is_sync (flat (drop 1 s.blocks)))) (sym e)
  where
    by : (bs : List (List Packet)) → Shape bs → 0 < length bs → first_that is_sync (drop 1 (flat bs)) ≡ or_else (first_that is_sync (drop 1 (block_at 0 bs))) (first_that is_sync (flat (drop 1 bs)))
    by [] s l = absurd (omega arith)
    by ([] ∷ bs) s l = let m = s.0 in absurd (omega arith)
    by ((p ∷ ps) ∷ bs) s l = first_both is_sync ps (flat bs)
