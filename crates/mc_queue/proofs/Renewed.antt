-- The extreme times of what is left of a block whose sync points' times don't fall.
use Rattle.std.proofs.Common.{◌≡◌, arith, Bool, true, false, List, [], ◌∷◌, ◌++◌, ◌+◌, length, refl, ap, sym, ◌∙◌, inl, inr}
use Rattle.std.specs.Prelude.{Option, Some, None, ℤ, int_le, int_lt, is_some, if◌then◌else◌, ◌&&◌}
use Rattle.std.proofs.lemmas.Bool.{cases_Bool}
use Rattle.std.proofs.lemmas.Int.{ints}
use Rattle.mc_packet.specs.declared.packet.Packet.{Packet}
use Rattle.mc_packet.specs.declared.choice.Dir.{Dir}
use Rattle.mc_packet.specs.declared.choice.Dir.TheVariants.{Back, Forward}
use Rattle.mc_queue.specs.declared.kept.Kept.{Kept}
use Rattle.mc_queue.specs.Queue.{is_sync}
use Rattle.mc_queue.specs.Blocks.{any_packet, extreme, first_two, sync_time, IsAhead, IsOf, SyncsRise, first_time, ends, ends_with, grown, of_one}
use Rattle.mc_queue.proofs.Extremes.{with_one, weight_with_one}

abbrev timed : Bool → ℤ → Option ℤ
timed s t = if s then Some t else None

ahead_first : (t : ℤ) (o : Option ℤ) → IsAhead t o → first_two Forward (Some t) o ≡ Some t
ahead_first t None h = refl
ahead_first t (Some u) h = rw h refl

-- the least is the first
pub first_least : (ps : List Packet) → SyncsRise ps → first_time ps ≡ extreme Forward is_sync ps
first_least [] r = refl
first_least (p ∷ ps) r = elim (cases_Bool p.sync) [
  | inl y ↦ let a = ahead_first p.time (extreme Forward is_sync ps) (r.0 y) in rw y (sym a)
  | inr n ↦ rw n (first_least ps r.1)
]

-- there is a least time where there is a greatest, and it is at most that
pub record Both (least most : Option ℤ) : Type 0 where
  pub none : is_some least ≡ is_some most
  pub order : (a b : ℤ) → least ≡ Some a → most ≡ Some b → int_le a b ≡ true

both_more : (t : ℤ) (least most : Option ℤ) → Both least most → Both (first_two Forward (Some t) least) (first_two Back (Some t) most)
both_more t None None h = record { none = refl; order = λ a b e f. grind (arith, ints) }
both_more t None (Some b) h = absurd (let e = h.none in cc)
both_more t (Some a) None h = absurd (let e = h.none in cc)
both_more t (Some a) (Some b) h = let o = h.order a b refl refl in record { none = grind (arith, ints); order = λ c d e f. grind (arith, ints) }

pub both : (ps : List Packet) → Both (extreme Forward is_sync ps) (extreme Back is_sync ps)
both [] = record { none = refl; order = λ a b e f. absurd (cc) }
both (p ∷ ps) = elim (cases_Bool p.sync) [
  | inl y ↦ rw y (both_more p.time (extreme Forward is_sync ps) (extreme Back is_sync ps) (both ps))
  | inr n ↦ rw n (both ps)
]

last_greatest : (t : ℤ) (least most : Option ℤ) → Both least most → IsAhead t least → is_some least ≡ true → first_two Back (Some t) most ≡ most
last_greatest t None most h a s = absurd (cc)
last_greatest t (Some u) None h a s = absurd (let e = h.none in cc)
last_greatest t (Some u) (Some v) h a s = let o = h.order u v refl refl in grind (arith, ints)

-- ---- one more at the end

ends_rest : (t q : ℤ) (sync : Bool) (most : Option ℤ) → ends t (first_two Back (timed sync q) most) ≡ true → ends t most ≡ true
ends_rest t q false most e = e
ends_rest t q true None e = refl
ends_rest t q true (Some u) e = grind (arith, ints)

ends_first : (t q : ℤ) (most : Option ℤ) → ends t (first_two Back (Some q) most) ≡ true → int_le q t ≡ true
ends_first t q None e = e
ends_first t q (Some u) e = grind (arith, ints)

ahead_two : (q : ℤ) (a b : Option ℤ) → IsAhead q a → IsAhead q b → IsAhead q (first_two Forward a b)
ahead_two q None b h k = k
ahead_two q (Some x) None h k = h
ahead_two q (Some x) (Some y) h k = elim (cases_Bool (int_le x y)) [ inl z ↦ rw z h | inr n ↦ rw n k ]

pub rise_more : (ps : List Packet) (p : Packet) → SyncsRise ps → (p.sync ≡ true → ends p.time (extreme Back is_sync ps) ≡ true) → SyncsRise (ps ++ p ∷ [])
rise_more [] p r e = ((λ _. tt), tt)
rise_more (q ∷ ps) p r e = (
  (λ s. rw (with_one Forward is_sync ps p) (ahead_two q.time (extreme Forward is_sync ps) (sync_time p) (r.0 s) (elim (cases_Bool p.sync) [ inl y ↦ rw y (ends_first p.time q.time (extreme Back is_sync ps) (rw s at (e y))) | inr n ↦ rw n tt ]))),
  rise_more ps p r.1 (λ y. ends_rest p.time q.time q.sync (extreme Back is_sync ps) (e y)),
)

-- what a packet more does to the mark
marks : (mark : Bool) (ps : List Packet) (p : Packet) → (mark ≡ true → SyncsRise ps) → (mark && ends_with p (extreme Back is_sync ps)) ≡ true → SyncsRise (ps ++ p ∷ [])
marks false ps p h e = absurd (cc)
marks true ps p h e = rise_more ps p (h refl) (λ y. by (rw y at e))
  where
    by : ends p.time (extreme Back is_sync ps) ≡ true → ends p.time (extreme Back is_sync ps) ≡ true
    by e = e

long_one : (ps : List Packet) (p : Packet) → length (ps ++ p ∷ []) ≡ length ps + 1
long_one [] p = refl
long_one (q ∷ ps) p = let m = long_one ps p in omega arith

-- what is kept of a block with a packet more
pub is_grown : (k : Kept) (ps : List Packet) (p : Packet) → IsOf k ps → IsOf (grown p k) (ps ++ p ∷ [])
is_grown k ps p h = record {
  weight_is = let e = weight_with_one ps p in let w = h.weight_is in omega arith;
  least_is = ap (λ o. first_two Forward o (sync_time p)) h.least_is ∙ sym (with_one Forward is_sync ps p);
  most_is = ap (λ o. first_two Back o (sync_time p)) h.most_is ∙ sym (with_one Back is_sync ps p);
  greatest_is = ap (λ o. first_two Back o (Some p.time)) h.greatest_is ∙ sym (with_one Back any_packet ps p);
  count_is = let e = long_one ps p in let c = h.count_is in omega arith;
  rises = λ e. marks k.rising ps p h.rises (ap (λ o. k.rising && ends_with p o) (sym h.most_is) ∙ e);
}

first_none : (dir : Dir) (o : Option ℤ) → first_two dir o None ≡ o
first_none dir None = refl
first_none dir (Some x) = refl

-- and of a block of one packet
pub is_of_one : (p : Packet) → IsOf (of_one p) (p ∷ [])
is_of_one p = record {
  weight_is = let e = weight_with_one [] p in omega arith;
  least_is = sym (first_none Forward (sync_time p));
  most_is = sym (first_none Back (sync_time p));
  greatest_is = refl;
  count_is = refl;
  rises = λ e. ((λ s. tt), tt);
}

-- ---- one less at the front

pub no_sync_went : (dir : Dir) (p : Packet) (ps : List Packet) → p.sync ≡ false → extreme dir is_sync (p ∷ ps) ≡ extreme dir is_sync ps
no_sync_went dir p ps e = rw e refl

pub first_is_least : (p : Packet) (ps : List Packet) → SyncsRise (p ∷ ps) → first_time ps ≡ extreme Forward is_sync ps
first_is_least p ps r = first_least ps r.1

-- the greatest stays, if a sync point is left
pub most_stays : (p : Packet) (ps : List Packet) (t : ℤ) → p.sync ≡ true → SyncsRise (p ∷ ps) → extreme Forward is_sync ps ≡ Some t → extreme Back is_sync (p ∷ ps) ≡ extreme Back is_sync ps
most_stays p ps t e r s = rw e (last_greatest p.time (extreme Forward is_sync ps) (extreme Back is_sync ps) (both ps) (r.0 e) (ap (λ o. is_some o) s))

pub none_is_left : (ps : List Packet) → extreme Forward is_sync ps ≡ None → extreme Back is_sync ps ≡ None
none_is_left ps e = by (extreme Back is_sync ps) (sym (both ps).none ∙ ap (λ o. is_some o) e)
  where
    by : (o : Option ℤ) → is_some o ≡ false → o ≡ None
    by None f = refl
    by (Some t) f = absurd (cc)

-- the greatest of all stays, if the one that went is less
pub greatest_stays : (p : Packet) (ps : List Packet) (t : ℤ) → extreme Back any_packet (p ∷ ps) ≡ Some t → int_lt p.time t ≡ true → extreme Back any_packet ps ≡ Some t
greatest_stays p ps t e l = by (extreme Back any_packet ps) e
  where
    less : Some p.time ≡ Some t → ⊥
    less f = grind (arith, ints)

    by : (o : Option ℤ) → first_two Back (Some p.time) o ≡ Some t → o ≡ Some t
    by None f = absurd (grind (arith, ints))
    by (Some u) f = elim (cases_Bool (int_le u p.time)) [ inl y ↦ absurd (less (rw y at f)) | inr n ↦ rw n at f ]

pub rises_on : (p : Packet) (ps : List Packet) → SyncsRise (p ∷ ps) → SyncsRise ps
rises_on p ps r = r.1
