-- Starts that are found.
use Rattle.std.proofs.Common.{◌≡◌, ℕ, zero, suc, ◌≤◌, min, Bool, true, false, ◌&&◌, ◌||◌, List, [], ◌∷◌, ◌++◌, Option, Some, None, arith, refl, ap, subst, sym, ◌∙◌, inl, inr, take}
use Rattle.std.specs.Prelude.{map, IfSome, is_some, if◌then◌else◌, nat_lt}
use Rattle.std.specs.List.{AllByRecursion}
use Rattle.std.specs.Option.{option_map, option_map_or}
use Rattle.std.proofs.lemmas.Bool.{cases_Bool, and_parts}
use Rattle.std.proofs.lemmas.Bool.Decides.{nat_tests}
use Rattle.mc_packet.specs.declared.choice.Starts.{Starts}
use Rattle.mc_packet.specs.declared.choice.Choice.{Choice}
use Rattle.mc_packet.specs.declared.choice.Kind.{Kind}
use Rattle.mc_packet.specs.declared.walk.Ending.{Ending}
use Rattle.mc_packet.specs.declared.packet.Packet.{Packet}
use Rattle.mc_packet.specs.Choices.{or_else, has}
use Rattle.mc_journal.specs.Told.{Told, told}
use Rattle.mc_journal.specs.Films.{fresh, first_lane, HasLanes, IsRegular}
use Rattle.mc_journal.specs.Ranges.{Span, Range}
use Rattle.mc_journal.specs.Stands.{empty_span, start_given, new_range, add_spans, found_with}
use Rattle.mc_journal.proofs.Rests.{rest, rest-fresh}
use Rattle.mc_journal.proofs.Feeding.{Closes, first_lane-mono}
use Rattle.mc_journal.proofs.Facts.{IsSound, IsGoing, Facts}

all_front : {X : Type 0} (P : X → Type 0) (n : ℕ) (xs : List X) → AllByRecursion P xs → AllByRecursion P (take n xs)
all_front P zero xs h = tt
all_front P (suc n) [] h = h
all_front P (suc n) (x ∷ xs) h = (h.0, all_front P n xs h.1)

-- the span that a start gives, over the one that stands
abbrev given_span : Option ℕ → Option Span
given_span o = option_map (λ block. empty_span (first_lane block)) o

given_marked : (o : Option ℕ) (old : Option Span) (m n : ℕ) → IfSome o (λ b. m ≤ b) → IfSome old (λ s. first_lane n ≤ s.to)
    → IfSome (or_else (given_span o) old) (λ s. first_lane (min m n) ≤ s.to)
given_marked None None m n ho hold = tt
given_marked None (Some s) m n ho hold = let l = first_lane-mono (min m n) n (omega arith) in omega arith
given_marked (Some b) old m n ho hold = first_lane-mono (min m n) b (omega arith)

given_owned : (o : Option ℕ) (old : Option Span) (c d : Bool) → is_some o ≡ (c && d) → IfSome old (λ s. c ≡ true) → IfSome (or_else (given_span o) old) (λ s. c ≡ true)
given_owned None None c d e h = tt
given_owned None (Some s) c d e h = h
given_owned (Some b) old c d e h = (and_parts c d (sym e)).0

given_ahead : (o : Option ℕ) (old : Option Span) (n : ℕ) → IfSome old (λ s. s.from ≤ n) → IfSome (or_else (given_span o) old) (λ s. s.from ≤ option_map_or first_lane o n)
given_ahead None None n h = tt
given_ahead None (Some s) n h = h
given_ahead (Some b) old n h = omega arith

new_span : (o : Option ℕ) → given_span o ≡ or_else (given_span o) None
new_span None = refl
new_span (Some b) = refl

new_sound : (ps : List Packet) (E : Ending) (set : Choice) (starts : Starts) (unstarted : ℕ → Bool)
    → ((k : ℕ) → is_some (start_given set starts k) ≡ (has set k && unstarted k))
    → ((k : ℕ) → IfSome (start_given set starts k) (λ b. starts.mark.pos ≤ b))
    → IsSound ps E set (new_range set starts)
new_sound ps E set starts unstarted tracks least = record {
  ended = tt;
  marked = λ k. by_marked (start_given set starts k) starts.mark.pos (least k);
  owned = λ k. subst (λ o. IfSome o (λ s. has set k ≡ true)) (sym (new_span (start_given set starts k)))
      (given_owned (start_given set starts k) None (has set k) (unstarted k) (tracks k) tt);
}
  where
    by_marked : (o : Option ℕ) (m : ℕ) → IfSome o (λ b. m ≤ b) → IfSome (given_span o) (λ s. first_lane m ≤ s.to)
    by_marked None m h = h
    by_marked (Some b) m h = first_lane-mono m b h

added_ended : (ps : List Packet) (E : Ending) (m n : ℕ) (o : Option Ending) → IfSome o (Closes ps E n) → IfSome (if nat_lt m n then None else o) (Closes ps E (min m n))
added_ended ps E m n o h = elim (cases_Bool (nat_lt m n)) [
  | inl y ↦ rw y tt
  | inr off ↦ let e : min m n ≡ n = grind (arith, nat_tests) in rw (off, e) h
]

added_sound : (ps : List Packet) (E : Ending) (set : Choice) (starts : Starts) (unstarted : ℕ → Bool) (r : Range)
    → ((k : ℕ) → is_some (start_given set starts k) ≡ (has set k && unstarted k))
    → ((k : ℕ) → IfSome (start_given set starts k) (λ b. starts.mark.pos ≤ b))
    → IsSound ps E set r
    → IsSound ps E set (add_spans set starts r)
added_sound ps E set starts unstarted r tracks least h = record {
  ended = added_ended ps E starts.mark.pos r.mark r.ending h.ended;
  marked = λ k. given_marked (start_given set starts k) (r.spans k) starts.mark.pos r.mark (least k) (h.marked k);
  owned = λ k. given_owned (start_given set starts k) (r.spans k) (has set k) (unstarted k) (tracks k) (h.owned k);
}

-- what a start leaves of a track's reading
going_found : (ps : List Packet) (known : Kind → ℕ → Bool) (k : ℕ) (o : Option ℕ) (unstarted : Bool) (gave : List Told) (place from : ℕ) → AllByRecursion HasLanes ps
    → is_some o ≡ unstarted → (IsRegular ps known → IfSome o (λ b. b ≡ from))
    → (unstarted ≡ true → gave ≡ []) → (unstarted ≡ false → IsGoing ps known k gave place from)
    → IsGoing ps known k gave (option_map_or first_lane o place) from
going_found ps known k None unstarted gave place from lanes is exact none going = going (sym is)
going_found ps known k (Some b) unstarted gave place from lanes is exact none going = record {
  start = first_lane b;
  told = ap (λ xs. xs ++ map told (rest k (first_lane b) ps)) (none (sym is));
  exact = λ regular. rest-fresh k b ps lanes ∙ ap (λ c. fresh k c ps) (exact regular);
}

all_going : (ps : List Packet) (known : Kind → ℕ → Bool) (set : Choice) (starts : Starts) (pend : Bool) (waiting : ℕ → Bool) (place : ℕ → ℕ) (gave : ℕ → List Told) (from : ℕ → ℕ) → AllByRecursion HasLanes ps
    → ((k : ℕ) → is_some (start_given set starts k) ≡ (has set k && (pend || waiting k)))
    → (IsRegular ps known → (k : ℕ) → IfSome (start_given set starts k) (λ b. b ≡ from k))
    → ((k : ℕ) → has set k ≡ true → (pend || waiting k) ≡ true → gave k ≡ [])
    → ((k : ℕ) → has set k ≡ true → (pend || waiting k) ≡ false → IsGoing ps known k (gave k) (place k) (from k))
    → (k : ℕ) → has set k ≡ true → IsGoing ps known k (gave k) (option_map_or first_lane (start_given set starts k) (place k)) (from k)
all_going ps known set starts pend waiting place gave from lanes tracks exact none going k has_k =
    going_found ps known k (start_given set starts k) (pend || waiting k) (gave k) (place k) (from k) lanes
    (tracks k ∙ ap (λ c. c && (pend || waiting k)) has_k) (λ regular. exact regular k) (none k has_k) (going k has_k)

pub found_step : (ps : List Packet) (E : Ending) (known : Kind → ℕ → Bool) (set : Choice) (current : Option Range) (others : List Range)
    (pend : Bool) (waiting : ℕ → Bool) (place : ℕ → ℕ) (gave : ℕ → List Told) (from : ℕ → ℕ) (starts : Starts)
    → AllByRecursion HasLanes ps
    → Facts ps E known set current others pend waiting place gave from
    → ((k : ℕ) → is_some (start_given set starts k) ≡ (has set k && (pend || waiting k)))
    → (IsRegular ps known → (k : ℕ) → IfSome (start_given set starts k) (λ b. b ≡ from k))
    → ((k : ℕ) → IfSome (start_given set starts k) (λ b. starts.mark.pos ≤ b))
    → Facts ps E known set (found_with set starts others current).current (found_with set starts others current).others false (λ k. false)
    (λ k. option_map_or first_lane (start_given set starts k) (place k)) gave from
found_step ps E known set None others pend waiting place gave from starts lanes f tracks exact least = record {
  fits = f.fits;
  here = (
    new_sound ps E set starts (λ k. pend || waiting k) tracks least,
    refl,
    record {
      ahead = λ k has_k. subst (λ o. IfSome o (λ s. s.from ≤ option_map_or first_lane (start_given set starts k) (place k))) (sym (new_span (start_given set starts k)))
          (given_ahead (start_given set starts k) None (place k) tt);
      blank = λ k has_k w. absurd (cc);
    },
  );
  there = all_front (IsSound ps E set) 9 others f.there;
  blank = λ k has_k w. absurd (cc);
  going = λ k has_k w. all_going ps known set starts pend waiting place gave from lanes tracks exact f.blank f.going k has_k;
}
found_step ps E known set (Some r) others pend waiting place gave from starts lanes f tracks exact least = record {
  fits = f.fits;
  here = (
    added_sound ps E set starts (λ k. pend || waiting k) r tracks least f.here.0,
    refl,
    record {
      ahead = λ k has_k. given_ahead (start_given set starts k) (r.spans k) (place k) (f.here.2.ahead k has_k);
      blank = λ k has_k w. absurd (cc);
    },
  );
  there = f.there;
  blank = λ k has_k w. absurd (cc);
  going = λ k has_k w. all_going ps known set starts pend waiting place gave from lanes tracks exact f.blank f.going k has_k;
}
