-- A packet that is given, and an end that is told.
use Rattle.std.proofs.Common.{◌≡◌, ℕ, ◌+◌, ◌<◌, ◌≤◌, ◌==◌, Bool, true, List, [], ◌∷◌, ◌++◌, Option, Some, None, arith, ap, subst, sym, ◌∙◌, inl, inr, append_assoc}
use Rattle.std.specs.Prelude.{IfSome, is_some, map, if◌then◌else◌}
use Rattle.std.specs.List.{AllByRecursion}
use Rattle.std.proofs.lemmas.Bool.{cases_Bool, eqb-true}
use Rattle.mc_packet.specs.declared.choice.Choice.{Choice}
use Rattle.mc_packet.specs.declared.choice.Kind.{Kind}
use Rattle.mc_packet.specs.declared.walk.Ending.{Ending}
use Rattle.mc_packet.specs.declared.packet.Packet.{Packet}
use Rattle.mc_packet.specs.Choices.{has}
use Rattle.mc_journal.specs.Told.{Told, told}
use Rattle.mc_journal.specs.Films.{at, first, track_of, IsRising}
use Rattle.mc_journal.specs.Ranges.{Span, Range, in_span, within}
use Rattle.mc_journal.specs.Views.{from_place, next_in}
use Rattle.mc_journal.proofs.Lists.{all_to, all_kept, rising_kept}
use Rattle.mc_journal.proofs.Rests.{rest, rest-track, from_place-next, from_place-end, first_kept}
use Rattle.mc_journal.proofs.Facts.{IsGoing, Facts}

within_kept : (from to n : ℕ) (p : Packet) (ps : List Packet) → first (from_place n (within from to ps)) ≡ Some p → n ≤ at p
within_kept from to n p ps h = first_kept n p (within from to ps) h

pub give_one : (o : Option Span) (n k : ℕ) (p : Packet) (ps : List Packet) → IsRising ps → IfSome o (λ s. s.from ≤ n)
    → first (from_place n (in_span o (track_of k ps))) ≡ Some p
    → (rest k n ps ≡ p ∷ rest k (at p + 1) ps) × (n ≤ at p)
give_one None n k p ps rise ahead h = absurd (cc)
give_one (Some s) n k p ps rise ahead h = (
  rest-track k n ps ∙ from_place-next s.from s.to n p (track_of k ps) (rising_kept _ ps rise) ahead h ∙ ap (λ xs. p ∷ xs) (sym (rest-track k (at p + 1) ps)),
  within_kept s.from s.to n p (track_of k ps) h,
)

pub end_one : (o : Option Span) (n k m : ℕ) (ps : List Packet) → is_some o ≡ true → IfSome o (λ s. s.from ≤ n) → IfSome o (λ s. m ≤ s.to)
    → AllByRecursion (λ p. at p < m) ps
    → first (from_place n (in_span o (track_of k ps))) ≡ None
    → rest k n ps ≡ []
end_one None n k m ps is ahead marked all h = absurd (cc)
end_one (Some s) n k m ps is ahead marked all h =
    rest-track k n ps ∙ from_place-end s.from s.to n (track_of k ps) ahead
    (all_kept (λ p. at p < s.to) _ ps (all_to (λ p. at p < m) (λ p. at p < s.to) (λ p l. omega arith) ps all)) h

no_packet : (o : Option Span) (n k : ℕ) (p : Packet) (ps : List Packet) → o ≡ None → first (from_place n (in_span o (track_of k ps))) ≡ Some p → ⊥
no_packet None n k p ps e h = cc
no_packet (Some s) n k p ps e h = cc

ahead_after : (o : Option Span) (n m : ℕ) → n ≤ m → IfSome o (λ s. s.from ≤ n) → IfSome o (λ s. s.from ≤ m)
ahead_after None n m le h = h
ahead_after (Some s) n m le h = omega arith

going_on : (ps : List Packet) (known : Kind → ℕ → Bool) (k : ℕ) (gave : List Told) (place from : ℕ) (p : Packet)
    → rest k place ps ≡ p ∷ rest k (at p + 1) ps → IsGoing ps known k gave place from → IsGoing ps known k (gave ++ told p ∷ []) (at p + 1) from
going_on ps known k gave place from p e g = record {
  start = g.start;
  told = append_assoc gave (told p ∷ []) (map told (rest k (at p + 1) ps)) ∙ ap (λ xs. gave ++ map told xs) (sym e) ∙ g.told;
  exact = g.exact;
}

pub gave_step : (ps : List Packet) (E : Ending) (known : Kind → ℕ → Bool) (set : Choice) (current : Option Range) (others : List Range)
    (pend : Bool) (waiting : ℕ → Bool) (place : ℕ → ℕ) (gave : ℕ → List Told) (from : ℕ → ℕ) (p : Packet) → IsRising ps
    → Facts ps E known set current others pend waiting place gave from
    → has set p.track ≡ true → next_in ps p.track (place p.track) current ≡ Some p
    → Facts ps E known set current others pend waiting (λ k. if p.track == k then at p + 1 else place k) (λ k. if p.track == k then gave k ++ told p ∷ [] else gave k) from
gave_step ps E known set None others pend waiting place gave from p rise f sel h = absurd (cc)
gave_step ps E known set (Some r) others pend waiting place gave from p rise f sel h =
    let at_track : (k : ℕ) → (p.track == k) ≡ true → first (from_place (place k) (in_span (r.spans k) (track_of k ps))) ≡ Some p =
    λ k y. subst (λ j. next_in ps j (place j) (Some r) ≡ Some p) (eqb-true p.track k y) h in
    let one : (k : ℕ) → has set k ≡ true → (p.track == k) ≡ true → (rest k (place k) ps ≡ p ∷ rest k (at p + 1) ps) × (place k ≤ at p) =
    λ k has_k y. give_one (r.spans k) (place k) k p ps rise (f.here.2.ahead k has_k) (at_track k y) in
    record {
      fits = f.fits;
      here = (
        f.here.0,
        f.here.1,
        record {
          ahead = λ k has_k. elim (cases_Bool (p.track == k)) [
            | inl y ↦ rw y (ahead_after (r.spans k) (place k) (at p + 1) (let l = (one k has_k y).1 in omega arith) (f.here.2.ahead k has_k))
            | inr n ↦ rw n (f.here.2.ahead k has_k)
          ];
          blank = f.here.2.blank;
        },
      );
      there = f.there;
      blank = λ k has_k w. elim (cases_Bool (p.track == k)) [
        | inl y ↦ absurd (no_packet (r.spans k) (place k) k p ps (f.here.2.blank k has_k (rw f.here.1 at w)) (at_track k y))
        | inr n ↦ rw n (f.blank k has_k w)
      ];
      going = λ k has_k w. elim (cases_Bool (p.track == k)) [
        | inl y ↦ rw y (going_on ps known k (gave k) (place k) (from k) p (one k has_k y).0 (f.going k has_k w))
        | inr n ↦ rw n (f.going k has_k w)
      ];
    }
