-- Search from the back, packet by packet in a block and block by block.
use Rattle.std.proofs.Common.{◌≡◌, ℕ, ◌+◌, ◌<◌, Bool, true, false, List, [], ◌∷◌, length, take, drop, get_or, refl, ap, sym, ◌∙◌, inl, inr}
use Rattle.std.specs.Prelude.{Some, None, if◌then◌else◌}
use Rattle.std.specs.List.{list_any}
use Rattle.std.specs.Prelude.{◌||◌}
use Rattle.std.proofs.lemmas.Bool.{cases_Bool}
use Rattle.std.proofs.lemmas.List.{drop_more, take-append-drop}
use Rattle.mc_packet.specs.declared.packet.Packet.{Packet}
use Rattle.mc_packet.specs.declared.packet.Pos.{Pos}
use Rattle.mc_packet.specs.Choices.{or_else}
use Rattle.mc_queue.specs.Queue.{find_last, last_that}
use Rattle.mc_queue.proofs.FromBack.{last_of_two}
use Rattle.mc_queue.specs.Blocks.{flat}
use Rattle.mc_queue.proofs.Shapes.{flat_from, flat_parted}

-- ---- in a list

last_of_one : (test : Packet → Bool) (p : Packet) → last_that test (p ∷ []) ≡ (if test p then Some p.pos else None)
last_of_one test p = elim (cases_Bool (test p)) [ inl y ↦ rw y refl | inr n ↦ rw n refl ]

-- one packet further to the front
pub one_back : (test : Packet → Bool) (ps : List Packet) (i : ℕ) (d : Packet) → i < length ps → last_that test (drop (i + 1) ps) ≡ None
    → last_that test (drop i ps) ≡ (if test (get_or ps i d) then Some (get_or ps i d).pos else None)
one_back test ps i d l n =
    let e : last_that test (drop i ps) ≡ or_else (last_that test (drop (i + 1) ps)) (last_that test (get_or ps i d ∷ [])) =
    ap (λ qs. last_that test qs) (drop_more ps i d l) ∙ last_of_two test (get_or ps i d ∷ []) (drop (i + 1) ps) in
    e ∙ ap (λ o. or_else o (last_that test (get_or ps i d ∷ []))) n ∙ last_of_one test (get_or ps i d)

-- what is found behind an index is found in all
pub found_behind : (test : Packet → Bool) (ps : List Packet) (i : ℕ) (p : Pos) → last_that test (drop i ps) ≡ Some p → last_that test ps ≡ Some p
found_behind test ps i p e =
    ap (λ qs. last_that test qs) (sym (take-append-drop i ps)) ∙ last_of_two test (take i ps) (drop i ps) ∙ ap (λ o. or_else o (last_that test (take i ps))) e

pub here : (test : Packet → Bool) (ps : List Packet) (i : ℕ) (d : Packet) → i < length ps → last_that test (drop (i + 1) ps) ≡ None → test (get_or ps i d) ≡ true
    → last_that test ps ≡ Some (get_or ps i d).pos
here test ps i d l n t = found_behind test ps i (get_or ps i d).pos (one_back test ps i d l n ∙ ap (λ b. if b then Some (get_or ps i d).pos else None) t)

pub not_here : (test : Packet → Bool) (ps : List Packet) (i : ℕ) (d : Packet) → i < length ps → last_that test (drop (i + 1) ps) ≡ None → test (get_or ps i d) ≡ false
    → last_that test (drop i ps) ≡ None
not_here test ps i d l n t = one_back test ps i d l n ∙ ap (λ b. if b then Some (get_or ps i d).pos else None) t

-- ---- in blocks

-- one block further to the front
pub block_back : (test : Packet → Bool) (bs : List (List Packet)) (i : ℕ) (d : List Packet) → i < length bs → last_that test (flat (drop (i + 1) bs)) ≡ None
    → last_that test (flat (drop i bs)) ≡ last_that test (get_or bs i d)
block_back test bs i d l n =
    ap (λ ps. last_that test ps) (flat_from bs i d l) ∙ last_of_two test (get_or bs i d) (flat (drop (i + 1) bs)) ∙ ap (λ o. or_else o (last_that test (get_or bs i d))) n

pub block_found : (test : Packet → Bool) (bs : List (List Packet)) (i : ℕ) (p : Pos) → last_that test (flat (drop i bs)) ≡ Some p → last_that test (flat bs) ≡ Some p
block_found test bs i p e =
    ap (λ ps. last_that test ps) (flat_parted bs i) ∙ last_of_two test (flat (take i bs)) (flat (drop i bs)) ∙ ap (λ o. or_else o (last_that test (flat (take i bs)))) e

-- ---- whether there is one

pub no_last : (test : Packet → Bool) (ps : List Packet) → list_any test ps ≡ false → find_last test ps ≡ None
no_last test [] e = refl
no_last test (p ∷ ps) e = elim (cases_Bool (test p)) [
  | inl y ↦ absurd (no (rw y at e))
  | inr n ↦ let m = no_last test ps (rw n at e) in rw (m, n) refl
]
  where
    no : true ≡ false → ⊥
    no e = cc

pub a_last : (test : Packet → Bool) (ps : List Packet) → list_any test ps ≡ true → (p : Packet) × (find_last test ps ≡ Some p)
a_last test [] e = absurd (no e)
  where
    no : false ≡ true → ⊥
    no e = cc
a_last test (p ∷ ps) e = elim (cases_Bool (list_any test ps)) [
  | inl y ↦ let m = a_last test ps y in (m.0, ap (λ o. or_else o (if test p then Some p else None)) m.1)
  | inr n ↦ (p, ap (λ o. or_else o (if test p then Some p else None)) (no_last test ps n) ∙ ap (λ b. if b then Some p else None) (mine (test p) (list_any test ps) e n))
]
  where
    mine : (a b : Bool) → (a || b) ≡ true → b ≡ false → a ≡ true
    mine true b e n = refl
    mine false b e n = absurd (cc)
