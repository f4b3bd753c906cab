-- A range that is fed, joined or cut.
use Rattle.std.proofs.Common.{◌≡◌, ℕ, ◌<◌, ◌≤◌, max, ◌==◌, Bool, true, false, List, [], ◌∷◌, Option, Some, None, arith, refl, ap, subst, sym, inl, inr}
use Rattle.std.specs.Prelude.{IfSome, if◌then◌else◌, nat_le, nat_lt}
use Rattle.std.specs.List.{AllByRecursion}
use Rattle.std.specs.Option.{option_map}
use Rattle.std.proofs.lemmas.Bool.{cases_Bool, cases_lt, eqb-true}
use Rattle.std.proofs.lemmas.Bool.Decides.{nat_tests}
use Rattle.mc_packet.specs.declared.choice.Choice.{Choice}
use Rattle.mc_packet.specs.declared.choice.Kind.{Kind}
use Rattle.mc_packet.specs.declared.walk.Ending.{Ending}
use Rattle.mc_packet.specs.declared.packet.Packet.{Packet}
use Rattle.mc_packet.specs.Choices.{or_else, has}
use Rattle.mc_journal.specs.Told.{Told}
use Rattle.mc_journal.specs.Films.{at, rank, first_lane, HasLanes}
use Rattle.mc_journal.specs.Ranges.{Span, Range, touches}
use Rattle.mc_journal.specs.Stands.{first_that, without_first, grown, fed_range, union_span, union_range, join_with, join_current, cut_span, cut_range, cut_last, cut_in}
use Rattle.mc_journal.specs.Allowed.{MayCut}
use Rattle.mc_journal.proofs.Lists.{all_to}
use Rattle.mc_journal.proofs.Seeking.{first_that-is, all_without}
use Rattle.mc_journal.proofs.Facts.{IsSound, Facts}

pub first_lane-mono : (m n : ℕ) → m ≤ n → first_lane m ≤ first_lane n
unfolding first_lane
first_lane-mono m n h = omega arith

pub before_block : (b : ℕ) (ps : List Packet) → AllByRecursion HasLanes ps → AllByRecursion (λ p. p.pos.block < b) ps → AllByRecursion (λ p. at p < first_lane b) ps
unfolding rank first_lane
before_block b [] lanes h = tt
before_block b (p ∷ ps) lanes h = (let l = lanes.0.0 in let m = h.0 in omega arith, before_block b ps lanes.1 h.1)

-- what an ending says of a mark
abbrev pub Closes : List Packet → Ending → ℕ → Ending → Type 0
Closes ps E m e = (e ≡ E) × AllByRecursion (λ p. at p < first_lane m) ps

pub closes_later : (ps : List Packet) (E : Ending) (m n : ℕ) (o : Option Ending) → m ≤ n → IfSome o (Closes ps E m) → IfSome o (Closes ps E n)
closes_later ps E m n None le h = h
closes_later ps E m n (Some e) le h = (h.0, all_to (λ p. at p < first_lane m) (λ p. at p < first_lane n) (λ p l. let g = first_lane-mono m n le in omega arith) ps h.1)

either_if : {A : Type 0} (P : A → Type 0) (a b : Option A) → IfSome a P → IfSome b P → IfSome (or_else a b) P
either_if P None b ha hb = hb
either_if P (Some x) b ha hb = ha

-- ---- a range is fed

grown_to : (o : Option Span) (place : ℕ) → IfSome (option_map (grown place) o) (λ s. place ≤ s.to)
grown_to None place = tt
grown_to (Some s) place = elim (cases_Bool (nat_le s.to place)) [ inl y ↦ rw y (omega arith) | inr n ↦ rw n (grind (arith, nat_tests)) ]

grown_from : (o : Option Span) (place n : ℕ) → IfSome o (λ s. s.from ≤ n) → IfSome (option_map (grown place) o) (λ s. s.from ≤ n)
grown_from None place n h = h
grown_from (Some s) place n h = elim (cases_Bool (nat_le s.to place)) [ inl y ↦ rw y h | inr n ↦ rw n h ]

mapped_if : {A B : Type 0} (f : A → B) (o : Option A) (P : Type 0) → IfSome o (λ s. P) → IfSome (option_map f o) (λ s. P)
mapped_if f None P h = h
mapped_if f (Some s) P h = h

mapped_none : {A B : Type 0} (f : A → B) (o : Option A) → o ≡ None → option_map f o ≡ None
mapped_none f o h = ap (option_map f) h

pub fed_step : (ps : List Packet) (E : Ending) (known : Kind → ℕ → Bool) (set : Choice) (current : Option Range) (others : List Range)
    (pend : Bool) (waiting : ℕ → Bool) (place : ℕ → ℕ) (gave : ℕ → List Told) (from : ℕ → ℕ) (block : ℕ) (ending : Option Ending)
    → Facts ps E known set current others pend waiting place gave from
    → IfSome current (λ r. r.ending ≡ None) → IfSome ending (Closes ps E block)
    → Facts ps E known set (option_map (fed_range block ending) current) others pend waiting place gave from
fed_step ps E known set None others pend waiting place gave from block ending f unended closes = f
fed_step ps E known set (Some r) others pend waiting place gave from block ending f unended closes = record {
  fits = f.fits;
  here = (
    record {
      ended = either_if (Closes ps E block) ending r.ending closes (rw unended tt);
      marked = λ k. grown_to (r.spans k) (first_lane block);
      owned = λ k. mapped_if (grown (first_lane block)) (r.spans k) (has set k ≡ true) (f.here.0.owned k);
    },
    f.here.1,
    record {
      ahead = λ k has_k. grown_from (r.spans k) (first_lane block) (place k) (f.here.2.ahead k has_k);
      blank = λ k has_k w. mapped_none (grown (first_lane block)) (r.spans k) (f.here.2.blank k has_k w);
    },
  );
  there = f.there;
  blank = f.blank;
  going = f.going;
}

-- ---- two ranges are united

union_marked : (a b : Option Span) (m n : ℕ) → IfSome a (λ s. first_lane m ≤ s.to) → IfSome b (λ s. first_lane n ≤ s.to)
    → IfSome (union_span a b) (λ s. first_lane (max m n) ≤ s.to)
union_marked None b m n ha hb = tt
union_marked (Some s) None m n ha hb = tt
union_marked (Some s) (Some q) m n ha hb = elim (cases_lt m n) [
  | inl l ↦ let e : max m n ≡ n = omega arith in rw e (omega arith)
  | inr g ↦ let e : max m n ≡ m = omega arith in rw e (omega arith)
]

union_owned : (a b : Option Span) (P : Type 0) → IfSome a (λ s. P) → IfSome (union_span a b) (λ s. P)
union_owned None b P h = tt
union_owned (Some s) None P h = tt
union_owned (Some s) (Some q) P h = h

union_ahead : (a b : Option Span) (n : ℕ) → IfSome a (λ s. s.from ≤ n) → IfSome (union_span a b) (λ s. s.from ≤ n)
union_ahead None b n h = tt
union_ahead (Some s) None n h = tt
union_ahead (Some s) (Some q) n h = omega arith

union_sound : (ps : List Packet) (E : Ending) (set : Choice) (r q : Range) → IsSound ps E set r → IsSound ps E set q → IsSound ps E set (union_range r q)
union_sound ps E set r q hr hq =
    let er = closes_later ps E r.mark (max r.mark q.mark) r.ending (omega arith) hr.ended in
    let eq = closes_later ps E q.mark (max r.mark q.mark) q.ending (omega arith) hq.ended in
    record {
      ended = elim (cases_Bool (nat_lt r.mark q.mark)) [
        | inl y ↦ rw y (either_if (Closes ps E (max r.mark q.mark)) q.ending r.ending eq er)
        | inr n ↦ rw n (either_if (Closes ps E (max r.mark q.mark)) r.ending q.ending er eq)
      ];
      marked = λ k. union_marked (r.spans k) (q.spans k) r.mark q.mark (hr.marked k) (hq.marked k);
      owned = λ k. union_owned (r.spans k) (q.spans k) (has set k ≡ true) (hr.owned k);
    }

joined_with : (ps : List Packet) (E : Ending) (known : Kind → ℕ → Bool) (set : Choice) (r : Range) (others : List Range) (o : Option Range) (less : List Range)
    (pend : Bool) (waiting : ℕ → Bool) (place : ℕ → ℕ) (gave : ℕ → List Told) (from : ℕ → ℕ)
    → Facts ps E known set (Some r) others pend waiting place gave from
    → IfSome o (IsSound ps E set) → AllByRecursion (IsSound ps E set) less
    → Facts ps E known set (join_with others r o less).current (join_with others r o less).others pend waiting place gave from
joined_with ps E known set r others None less pend waiting place gave from f so sl = f
joined_with ps E known set r others (Some q) less pend waiting place gave from f so sl = record {
  fits = f.fits;
  here = (
    union_sound ps E set r q f.here.0 so,
    f.here.1,
    record {
      ahead = λ k has_k. union_ahead (r.spans k) (q.spans k) (place k) (f.here.2.ahead k has_k);
      blank = λ k has_k w. ap (λ o. union_span o (q.spans k)) (f.here.2.blank k has_k w);
    },
  );
  there = sl;
  blank = f.blank;
  going = f.going;
}

weaken_if : {A : Type 0} (P Q : A → Type 0) (o : Option A) → IfSome o (λ r. P r × Q r) → IfSome o P
weaken_if P Q None h = h
weaken_if P Q (Some x) h = h.0

pub joined_step : (ps : List Packet) (E : Ending) (known : Kind → ℕ → Bool) (set : Choice) (current : Option Range) (others : List Range)
    (pend : Bool) (waiting : ℕ → Bool) (place : ℕ → ℕ) (gave : ℕ → List Told) (from : ℕ → ℕ)
    → Facts ps E known set current others pend waiting place gave from
    → Facts ps E known set (join_current set others current).current (join_current set others current).others pend waiting place gave from
joined_step ps E known set None others pend waiting place gave from f = f
joined_step ps E known set (Some r) others pend waiting place gave from f =
    joined_with ps E known set r others (first_that (touches set r) others) (without_first (touches set r) others) pend waiting place gave from f
    (weaken_if (IsSound ps E set) (λ q. touches set r q ≡ true) _ (first_that-is (IsSound ps E set) (touches set r) others f.there))
    (all_without (IsSound ps E set) (touches set r) others f.there)

-- ---- a range is cut

cut_marked : (o : Option Span) (b : Bool) (place m : ℕ) → IfSome o (λ s. m ≤ s.to) → IfSome (if b then option_map (cut_span place) o else o) (λ s. m ≤ s.to)
cut_marked None true place m h = h
cut_marked None false place m h = h
cut_marked (Some s) true place m h = h
cut_marked (Some s) false place m h = h

cut_owned : (o : Option Span) (b : Bool) (place : ℕ) (P : Type 0) → IfSome o (λ s. P) → IfSome (if b then option_map (cut_span place) o else o) (λ s. P)
cut_owned None true place P h = h
cut_owned None false place P h = h
cut_owned (Some s) true place P h = h
cut_owned (Some s) false place P h = h

cut_ahead : (o : Option Span) (b : Bool) (place n : ℕ) → (b ≡ true → place ≤ n) → IfSome o (λ s. s.from ≤ n) → IfSome (if b then option_map (cut_span place) o else o) (λ s. s.from ≤ n)
cut_ahead None true place n le h = h
cut_ahead None false place n le h = h
cut_ahead (Some s) true place n le h = le refl
cut_ahead (Some s) false place n le h = h

cut_none : (o : Option Span) (b : Bool) (place : ℕ) → o ≡ None → (if b then option_map (cut_span place) o else o) ≡ None
cut_none None true place h = refl
cut_none None false place h = refl
cut_none (Some s) b place h = absurd (cc)

cut_sound : (ps : List Packet) (E : Ending) (set : Choice) (k place : ℕ) (r : Range) → IsSound ps E set r → IsSound ps E set (cut_range k place r)
cut_sound ps E set k place r h = record {
  ended = h.ended;
  marked = λ j. cut_marked (r.spans j) (j == k) place (first_lane r.mark) (h.marked j);
  owned = λ j. cut_owned (r.spans j) (j == k) place (has set j ≡ true) (h.owned j);
}

cut_last_sound : (ps : List Packet) (E : Ending) (set : Choice) (k place : ℕ) (r : Range) (rs : List Range) → IsSound ps E set r → AllByRecursion (IsSound ps E set) rs
    → AllByRecursion (IsSound ps E set) (cut_last k place r rs)
cut_last_sound ps E set k place r [] h all = (cut_sound ps E set k place r h, tt)
cut_last_sound ps E set k place r (q ∷ rs) h all = (h, cut_last_sound ps E set k place q rs all.0 all.1)

pub cut_step : (ps : List Packet) (E : Ending) (known : Kind → ℕ → Bool) (set : Choice) (current : Option Range) (others : List Range)
    (pend : Bool) (waiting : ℕ → Bool) (place : ℕ → ℕ) (gave : ℕ → List Told) (from : ℕ → ℕ) (k low high : ℕ)
    → Facts ps E known set current others pend waiting place gave from
    → MayCut k low high (place k) current others
    → Facts ps E known set (cut_in k high current others).current (cut_in k high current others).others pend waiting place gave from
cut_step ps E known set None [] pend waiting place gave from k low high f may = f
cut_step ps E known set (Some r) [] pend waiting place gave from k low high f may = record {
  fits = f.fits;
  here = (
    cut_sound ps E set k high r f.here.0,
    f.here.1,
    record {
      ahead = λ j has_j. cut_ahead (r.spans j) (j == k) high (place j) (λ y. subst (λ i. high ≤ place i) (sym (eqb-true j k y)) may.1) (f.here.2.ahead j has_j);
      blank = λ j has_j w. cut_none (r.spans j) (j == k) high (f.here.2.blank j has_j w);
    },
  );
  there = f.there;
  blank = f.blank;
  going = f.going;
}
cut_step ps E known set current (r ∷ rs) pend waiting place gave from k low high f may = record {
  fits = f.fits;
  here = f.here;
  there = cut_last_sound ps E set k high r rs f.there.0 f.there.1;
  blank = f.blank;
  going = f.going;
}
