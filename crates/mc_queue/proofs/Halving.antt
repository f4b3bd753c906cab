-- Packets in rising order are parted by a place, and what halving finds is the first one from it on.
use Rattle.std.proofs.Common.{◌≡◌, ℕ, ◌+◌, ◌-◌, ◌*◌, ◌/◌, ◌<◌, ◌≤◌, min, true, false, zero, suc, List, [], ◌∷◌, length, slice_index_or, arith, refl, ap, sym, ◌∙◌, inl, inr}
use Rattle.std.specs.Prelude.{slice_get, Some, None}
use Rattle.std.specs.List.{find, AllWithin}
use Rattle.std.specs.List.Sorted.{IsPartitionedBy}
use Rattle.std.proofs.lemmas.Bool.{ltb-true, ltb-false, lt-ltb, le-leb, lt-leb, cases_Bool}
use Rattle.std.proofs.lemmas.List.{get_or_default}
use Rattle.std.proofs.lemmas.Option.{slice_get-get_or}
use Rattle.mc_packet.specs.declared.packet.Packet.{Packet}
use Rattle.mc_queue.specs.Places.{Rise, is_before, is_from, place}

from_least : (track from to j : ℕ) (d : Packet) (ps : List Packet) → Rise track from to ps → j < length ps → from ≤ place (slice_index_or ps j d)
from_least track from to j d [] r l = absurd (omega arith)
from_least track from to zero d (p ∷ ps) r l = r.1
from_least track from to (suc j) d (p ∷ ps) r l =
    let m = r.1 in
    let n = from_least track (place p + 1) to j d ps r.2 (omega arith) in
    omega arith

in_order : (track from to i j : ℕ) (d : Packet) (ps : List Packet) → Rise track from to ps → i ≤ j → j < length ps → place (slice_index_or ps i d) ≤ place (slice_index_or ps j d)
in_order track from to i j d [] r k l = absurd (omega arith)
in_order track from to zero zero d (p ∷ ps) r k l = omega arith
in_order track from to zero (suc j) d (p ∷ ps) r k l = let n = from_least track (place p + 1) to j d ps r.2 (omega arith) in omega arith
in_order track from to (suc i) zero d (p ∷ ps) r k l = absurd (omega arith)
in_order track from to (suc i) (suc j) d (p ∷ ps) r k l = in_order track (place p + 1) to i j d ps r.2 (omega arith) (omega arith)

pub parted : (track from to cut : ℕ) (ps : List Packet) → Rise track from to ps → IsPartitionedBy (is_before cut) ps
parted track from to cut ps r = λ i j d k l e.
    let o = in_order track from to i j d ps r k l in
    let m = ltb-true (place (slice_index_or ps j d)) cut e in
    lt-ltb (place (slice_index_or ps i d)) cut (omega arith)

pub found_at : (cut : ℕ) (ps : List Packet) (i : ℕ) → AllWithin (λ p. is_before cut p ≡ true) ps 0 i → AllWithin (λ p. is_before cut p ≡ false) ps i (length ps)
    → slice_get ps i ≡ find (is_from cut) ps
found_at cut [] i h k = refl
found_at cut (p ∷ ps) zero h k =
    let n = k 0 p (omega arith) (omega arith) in
    let y = le-leb cut (place p) (ltb-false (place p) cut n) in
    rw y refl
found_at cut (p ∷ ps) (suc i) h k =
    let y = h 0 p (omega arith) (omega arith) in
    let n = lt-leb cut (place p) (ltb-true (place p) cut y) in
    rw n (found_at cut ps i (λ a d l m. h (suc a) d (omega arith) (omega arith)) (λ a d l m. k (suc a) d (omega arith) (omega arith)))

-- where a packet stands before the place, those in front of it do too
pub low_on : (cut mid : ℕ) (x : Packet) (ps : List Packet) → IsPartitionedBy (is_before cut) ps → mid < length ps → x ≡ slice_index_or ps mid x → is_before cut x ≡ true
    → AllWithin (λ p. is_before cut p ≡ true) ps 0 (mid + 1)
low_on cut mid x ps h l e t = λ j d a b.
    let f : is_before cut (slice_index_or ps mid d) ≡ true = ap (λ p. is_before cut p) (sym (e ∙ get_or_default ps mid x d l)) ∙ t in
    h j mid d (omega arith) l f

-- and where it does not, those behind it do not either
pub high_on : (cut mid : ℕ) (x : Packet) (ps : List Packet) → IsPartitionedBy (is_before cut) ps → mid < length ps → x ≡ slice_index_or ps mid x → is_before cut x ≡ false
    → AllWithin (λ p. is_before cut p ≡ false) ps mid (length ps)
high_on cut mid x ps h l e t = λ j d a b.
    let f : is_before cut (slice_index_or ps mid d) ≡ false = ap (λ p. is_before cut p) (sym (e ∙ get_or_default ps mid x d l)) ∙ t in
    elim (cases_Bool (is_before cut (slice_index_or ps j d))) [
      | inl y ↦ absurd (no (sym (h mid j d a b y) ∙ f))
      | inr n ↦ n
    ]
  where
    no : true ≡ false → ⊥
    no e = cc

-- what stands at an index below the length
pub got_at : (ps : List Packet) (i : ℕ) (x : Packet) → i < length ps → x ≡ slice_index_or ps i x → slice_get ps i ≡ Some x
got_at ps i x l e = slice_get-get_or ps i x l ∙ ap (λ (p : Packet). Some p) (sym e)

pub got_none : (ps : List Packet) (i : ℕ) → length ps ≤ i → slice_get ps i ≡ None
got_none [] i l = refl
got_none (p ∷ ps) zero l = absurd (omega arith)
got_none (p ∷ ps) (suc i) l = got_none ps i (omega arith)

-- what one look takes of the steps that are left for so many packets, of which the near ones are looked at first
pub cost_step : (w w' near near' : ℕ) → w' < w → (near ≡ 0 → 2 * w' ≤ w) → near' ≡ near - 1 → 1 + (w' / 256 + min w' 256 + near') ≤ w / 256 + min w 256 + near
cost_step w w' zero near' l h e = let k = h refl in omega arith
cost_step w w' (suc n) near' l h e = omega arith
