-- What a queue's look-ups find is what the definitions over packets find among its sync points.
use Rattle.std.proofs.Common.{◌≡◌, ℕ, ◌+◌, ◌≤◌, Bool, true, false, ◌&&◌, ◌||◌, ◌⊎◌, Option, Some, None, List, [], ◌∷◌, ℤ, arith, refl, ap, sym, ◌∙◌, inl, inr}
use Rattle.std.specs.Prelude.{if◌then◌else◌, int_le, int_lt}
use Rattle.std.specs.List.{filter, find, list_any}
use Rattle.std.specs.Option.{option_map}
use Rattle.std.proofs.lemmas.Bool.{cases_Bool, lt-leb, le-leb}
use Rattle.mc_packet.specs.declared.packet.Packet.{Packet}
use Rattle.mc_packet.specs.declared.packet.Pos.{Pos}
use Rattle.mc_packet.specs.declared.choice.Dir.{Dir}
use Rattle.mc_packet.specs.declared.choice.Dir.TheVariants.{Back, Forward}
use Rattle.mc_packet.specs.Choices.{or_else}
use Rattle.mc_journal.specs.Films.{rank, first, last, last_upto, first_from, sync_for}
use Rattle.mc_journal.specs.Ranges.{any_from, any_below}
use Rattle.mc_queue.specs.Places.{place, Rise, is_from}
use Rattle.mc_queue.specs.Queue.{QueueState, IsQueue, find_last, first_that, last_that, is_sync, is_sync_upto, is_sync_from, is_sync_before}
use Rattle.mc_range.specs.Serving.{at_place, sync_points}

-- ---- a packet that is found is the first one at its place

abbrev Is : Packet → List Packet → Type 0
Is p [] = ⊥
Is p (q ∷ ps) = (q ≡ p) ⊎ Is p ps

some : (a b : Packet) → Some a ≡ Some b → a ≡ b
some a b e = cc

clash : (p : Packet) (o : Option Packet) → o ≡ None → o ≡ Some p → ⊥
clash p o e f = cc

or_some : (a b : Option Packet) (p : Packet) → or_else a b ≡ Some p → (a ≡ Some p) ⊎ (b ≡ Some p)
or_some (Some x) b p e = inl e
or_some None b p e = inr e

or_none : {A : Type 0} (a : Option A) → or_else a None ≡ a
or_none (Some x) = refl
or_none None = refl

member_above : (track from to : ℕ) (ps : List Packet) (p : Packet) → Rise track from to ps → Is p ps → from ≤ place p
member_above track from to [] p r i = absurd i
member_above track from to (q ∷ ps) p r (inl z) = let e : place q ≡ place p = ap (λ x. place x) z in let m = r.1 in omega arith
member_above track from to (q ∷ ps) p r (inr i) = let m = r.1 in let n = member_above track (place q + 1) to ps p r.2 i in omega arith

at_member : (track from to : ℕ) (ps : List Packet) (p : Packet) → Rise track from to ps → Is p ps → find (is_from (place p)) ps ≡ Some p
at_member track from to [] p r i = absurd i
at_member track from to (q ∷ ps) p r (inl z) =
    let e : place q ≡ place p = ap (λ x. place x) z in
    let y : is_from (place p) q ≡ true = le-leb (place p) (place q) (omega arith) in
    rw y (ap (λ x. Some x) z)
at_member track from to (q ∷ ps) p r (inr i) =
    let m = member_above track (place q + 1) to ps p r.2 i in
    let n : is_from (place p) q ≡ false = lt-leb (place p) (place q) (omega arith) in
    rw n (at_member track (place q + 1) to ps p r.2 i)

found_member : (test : Packet → Bool) (ps : List Packet) (p : Packet) → find test ps ≡ Some p → Is p ps
found_member test [] p e = absurd cc
found_member test (q ∷ ps) p e = elim (cases_Bool (test q)) [
  | inl y ↦ inl (some q p (rw y at e))
  | inr n ↦ inr (found_member test ps p (rw n at e))
]

last_member : (test : Packet → Bool) (ps : List Packet) (p : Packet) → find_last test ps ≡ Some p → Is p ps
last_member test [] p e = absurd cc
last_member test (q ∷ ps) p e = elim (or_some (find_last test ps) (if test q then Some q else None) p e) [
  | inl a ↦ inr (last_member test ps p a)
  | inr b ↦ elim (cases_Bool (test q)) [
    | inl y ↦ inl (some q p (rw y at b))
    | inr n ↦ absurd (clash p (if test q then Some q else None) (rw n refl) b)
  ]
]

at_found : (q : QueueState) (o : Option Packet) → IsQueue q → ((p : Packet) → o ≡ Some p → Is p q.packets) → at_place q.packets (option_map (λ (p : Packet). p.pos) o) ≡ o
at_found q None i h = refl
at_found q (Some p) i h = at_member q.track (rank q.from) (rank q.to) q.packets p i.rise (h p refl)

-- the look-up for a test, and then the first packet at its place
found_first : (q : QueueState) (test : Packet → Bool) (place : Option Pos) (o : Option Packet) → IsQueue q → place ≡ first_that test q.packets
    → o ≡ at_place q.packets place → o ≡ find test q.packets
found_first q test place o i e f =
    f ∙ ap (λ x. at_place q.packets x) e ∙ at_found q (find test q.packets) i (found_member test q.packets)

found_last : (q : QueueState) (test : Packet → Bool) (place : Option Pos) (o : Option Packet) → IsQueue q → place ≡ last_that test q.packets
    → o ≡ at_place q.packets place → o ≡ find_last test q.packets
found_last q test place o i e f =
    f ∙ ap (λ x. at_place q.packets x) e ∙ at_found q (find_last test q.packets) i (last_member test q.packets)

-- ---- the same among the sync points

map_or : (a : Option Packet) (b : Bool) (p : Packet) → (or_else a (if b then Some p else None)) ≡ or_else a (if b then Some p else None)
map_or (Some x) b p = refl
map_or None true p = refl
map_or None false p = refl

upto_step : (b : Bool) (t : ℤ) (p : Packet) (rs : List Packet) (o : Option Packet) → last_upto t rs ≡ o
    → last_upto t ((if b then p ∷ rs else rs)) ≡ (or_else o (if b && int_le p.time t then Some p else None))
upto_step true t p rs o e = ap (λ x. or_else x (if int_le p.time t then Some p else None)) e ∙ sym (map_or o (int_le p.time t) p)
upto_step false t p rs o e = e ∙ sym (ap (λ x. x) (or_none o))

last_upto_synced : (t : ℤ) (ps : List Packet) → last_upto t (sync_points ps) ≡ (find_last (is_sync_upto t) ps)
last_upto_synced t [] = refl
last_upto_synced t (p ∷ ps) = upto_step p.sync t p (filter is_sync ps) (find_last (is_sync_upto t) ps) (last_upto_synced t ps)

last_step : (b : Bool) (p : Packet) (rs : List Packet) (o : Option Packet) → last rs ≡ o
    → last ((if b then p ∷ rs else rs)) ≡ (or_else o (if b then Some p else None))
last_step true p rs o e = ap (λ x. or_else x (Some p)) e ∙ sym (map_or o true p)
last_step false p rs o e = e ∙ sym (ap (λ x. x) (or_none o))

last_synced : (ps : List Packet) → last (sync_points ps) ≡ (find_last is_sync ps)
last_synced [] = refl
last_synced (p ∷ ps) = last_step p.sync p (filter is_sync ps) (find_last is_sync ps) (last_synced ps)

first_synced : (ps : List Packet) → first (sync_points ps) ≡ (find is_sync ps)
first_synced [] = refl
first_synced (p ∷ ps) = elim (cases_Bool p.sync) [ inl y ↦ rw y refl | inr n ↦ rw n (first_synced ps) ]

first_from_synced : (t : ℤ) (ps : List Packet) → first_from t (sync_points ps) ≡ (find (is_sync_from t) ps)
first_from_synced t [] = refl
first_from_synced t (p ∷ ps) = elim (cases_Bool p.sync) [
  | inl y ↦ elim (cases_Bool (int_le t p.time)) [ inl z ↦ rw (y, z) refl | inr m ↦ rw (y, m) (first_from_synced t ps) ]
  | inr n ↦ rw n (first_from_synced t ps)
]

pub any_from_is : (t : ℤ) (ps : List Packet) → any_from t (sync_points ps) ≡ list_any (is_sync_from t) ps
any_from_is t [] = refl
any_from_is t (p ∷ ps) = elim (cases_Bool p.sync) [
  | inl y ↦ rw y (ap (λ b. int_le t p.time || b) (any_from_is t ps))
  | inr n ↦ rw n (any_from_is t ps)
]

pub any_below_is : (t : ℤ) (ps : List Packet) → any_below t (sync_points ps) ≡ list_any (is_sync_before t) ps
any_below_is t [] = refl
any_below_is t (p ∷ ps) = elim (cases_Bool p.sync) [
  | inl y ↦ rw y (ap (λ b. int_lt p.time t || b) (any_below_is t ps))
  | inr n ↦ rw n (any_below_is t ps)
]

-- ---- what each look-up of the crate answers

pub last_upto_is : (q : QueueState) (t : ℤ) (place : Option Pos) (o : Option Packet) → IsQueue q → place ≡ last_that (is_sync_upto t) q.packets
    → o ≡ at_place q.packets place → o ≡ last_upto t (sync_points q.packets)
last_upto_is q t place o i e f = (found_last q (is_sync_upto t) place o i e f) ∙ sym (last_upto_synced t q.packets)

pub first_is : (q : QueueState) (place : Option Pos) (o : Option Packet) → IsQueue q → place ≡ first_that is_sync q.packets
    → o ≡ at_place q.packets place → o ≡ first (sync_points q.packets)
first_is q place o i e f = (found_first q is_sync place o i e f) ∙ sym (first_synced q.packets)

pub first_from_is : (q : QueueState) (t : ℤ) (place : Option Pos) (o : Option Packet) → IsQueue q → place ≡ first_that (is_sync_from t) q.packets
    → o ≡ at_place q.packets place → o ≡ first_from t (sync_points q.packets)
first_from_is q t place o i e f = (found_first q (is_sync_from t) place o i e f) ∙ sym (first_from_synced t q.packets)

pub last_is : (q : QueueState) (place : Option Pos) (o : Option Packet) → IsQueue q → place ≡ last_that is_sync q.packets
    → o ≡ at_place q.packets place → o ≡ last (sync_points q.packets)
last_is q place o i e f = (found_last q is_sync place o i e f) ∙ sym (last_synced q.packets)

pub no_sync : (dir : Dir) (t : ℤ) → sync_for dir t [] ≡ None
no_sync Back t = refl
no_sync Forward t = refl
