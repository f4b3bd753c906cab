-- A journal whose every record is allowed is legal on a regular film, and gapless on any.
use Rattle.std.proofs.Common.{◌≡◌, ℕ, Bool, true, false, ◌||◌, List, [], ◌∷◌, ◌++◌, Option, Some, None, refl, ap, subst, sym, ◌∙◌, inl, inr}
use Rattle.std.specs.Prelude.{IfSome, IsSomeAnd, is_some, map}
use Rattle.std.proofs.lemmas.Bool.{cases_Bool}
use Rattle.std.proofs.lemmas.List.{append-nil, map-append}
use Rattle.mc_packet.specs.declared.choice.Choice.{Choice}
use Rattle.mc_packet.specs.declared.choice.Kind.{Kind}
use Rattle.mc_packet.specs.declared.walk.Ending.{Ending}
use Rattle.mc_packet.specs.declared.cache.Limits.{Limits}
use Rattle.mc_journal.specs.Told.{Told, told}
use Rattle.mc_journal.specs.declared.record.DemuxRecord.{DemuxRecord}
use Rattle.mc_journal.specs.declared.record.DemuxRecord.TheVariants.{Ended}
use Rattle.mc_packet.specs.declared.packet.Packet.{Packet}
use Rattle.mc_packet.specs.Choices.{has}
use Rattle.mc_journal.specs.Films.{Film, first_lane, track_of, IsFilm, IsRising, IsRegular}
use Rattle.mc_journal.specs.Ranges.{Span, Range}
use Rattle.mc_journal.specs.Readings.{selected, given, pending, waits}
use Rattle.mc_journal.specs.Views.{head, next_in}
use Rattle.mc_journal.specs.Legal.{IsEnd, reading, EndsWell, EndsLast, GaveFronts, GaveRuns, IsLegal, IsGapless}
use Rattle.mc_journal.specs.Allowed.{May, IsAllowed}
use Rattle.mc_journal.specs.Used.{IsUsed}
use Rattle.mc_journal.proofs.Lists.{rising_kept}
use Rattle.mc_journal.proofs.Rests.{rest, rest-track, from_place-suffix}
use Rattle.mc_journal.proofs.Giving.{end_one}
use Rattle.mc_journal.proofs.Facts.{Facts, Holds}
use Rattle.mc_journal.proofs.Feeding.{Closes}
use Rattle.mc_journal.proofs.Steps.{step}

pub holds : (film : Film) (h : List DemuxRecord) → IsFilm film.packets → IsAllowed film h → Holds film h
holds film [] is all = record { fits = refl; here = tt; there = tt; blank = λ k has_k w. absurd (cc); going = λ k has_k w. absurd (cc) }
holds film (r ∷ h) is all = step film h r is (holds film h is all.1) all.0

none_given : (xs ys : List Told) → xs ≡ [] → xs ++ ys ≡ ys
none_given xs ys e = ap (λ zs. zs ++ ys) e

-- ---- at one moment

gave_fronts : (film : Film) (h : List DemuxRecord) → Holds film h → IsRegular film.packets film.known → GaveFronts film.packets h
gave_fronts film h f regular k has_k = elim (cases_Bool (pending h || waits k h)) [
  | inl y ↦ (map told (reading film.packets k h), none_given (given k h) _ (f.blank k has_k y))
  | inr n ↦ let g = f.going k has_k n in (map told (rest k (head film.packets k h) film.packets), g.told ∙ ap (λ xs. map told xs) (g.exact regular))
]

rest_ends : (k n : ℕ) (ps : List Packet) → IsRising ps → IsEnd (rest k n ps) (track_of k ps)
rest_ends k n ps rise = let s = from_place-suffix n (track_of k ps) (rising_kept _ ps rise) in (s.0, ap (λ xs. s.0 ++ xs) (rest-track k n ps) ∙ s.1)

-- an end of a list is one of what is told of it
told_end : (xs ys zs : List Packet) → xs ++ ys ≡ zs → map told xs ++ map told ys ≡ map told zs
told_end xs ys zs e = sym (map-append told xs ys) ∙ ap (λ us. map told us) e

gave_runs : (film : Film) (h : List DemuxRecord) → IsRising film.packets → Holds film h → GaveRuns film.packets h
gave_runs film h rise f k has_k = elim (cases_Bool (pending h || waits k h)) [
  | inl y ↦ ([], map told (track_of k film.packets), none_given (given k h) _ (f.blank k has_k y))
  | inr n ↦
      let g = f.going k has_k n in
      let s = rest_ends k g.start film.packets rise in
      (map told s.0, map told (rest k (head film.packets k h) film.packets), ap (λ xs. map told s.0 ++ xs) g.told ∙ told_end s.0 _ _ s.1)
]

-- ---- where an end is told nothing is left

ended_at : (ps : List Packet) (E : Ending) (known : Kind → ℕ → Bool) (set : Choice) (current : Option Range) (others : List Range)
    (pend : Bool) (waiting : ℕ → Bool) (place : ℕ → ℕ) (gave : ℕ → List Told) (from : ℕ → ℕ) (k : ℕ) (e : Ending)
    → Facts ps E known set current others pend waiting place gave from → has set k ≡ true
    → IsSomeAnd current (λ r. (r.ending ≡ Some e) × (is_some (r.spans k) ≡ true)) → next_in ps k (place k) current ≡ None
    → (e ≡ E) × (rest k (place k) ps ≡ []) × ((pend || waiting k) ≡ false)
ended_at ps E known set None others pend waiting place gave from k e f has_k may none = absurd may
ended_at ps E known set (Some r) others pend waiting place gave from k e f has_k may none =
    let closes : Closes ps E r.mark e = subst (λ o. IfSome o (Closes ps E r.mark)) may.0 f.here.0.ended in (
      closes.0,
      end_one (r.spans k) (place k) k (first_lane r.mark) ps may.1 (f.here.2.ahead k has_k) (f.here.0.marked k) closes.1 none,
      elim (cases_Bool (pend || waiting k)) [
        | inl y ↦ absurd (let w : waiting k ≡ true = rw f.here.1 at y in let z = f.here.2.blank k has_k w in let s : is_some {T = Span} None ≡ true = rw z at may.1 in cc)
        | inr n ↦ n
      ],
    )

all_given : (xs zs : List Told) (ys : List Packet) → ys ≡ [] → xs ++ map told ys ≡ zs → xs ≡ zs
all_given xs zs ys e h = sym (append-nil xs) ∙ ap (λ us. xs ++ map told us) (sym e) ∙ h

end_well : (film : Film) (h : List DemuxRecord) (by k : ℕ) (e : Ending) → Holds film h → IsRegular film.packets film.known
    → May film h (Ended by k e) → EndsWell film.packets film.ending (Ended by k e ∷ h)
end_well film h by k e f regular may =
    let a = ended_at film.packets film.ending film.known (selected h) _ _ _ _ _ _ _ k e f may.0 may.1 may.2 in
    let g = f.going k may.0 a.2 in
    (may.0, all_given (given k h) _ _ a.1 g.told ∙ ap (λ xs. map told xs) (g.exact regular), a.0)

end_last : (film : Film) (h : List DemuxRecord) (by k : ℕ) (e : Ending) → IsRising film.packets → Holds film h
    → May film h (Ended by k e) → EndsLast film.packets film.ending (Ended by k e ∷ h)
end_last film h by k e rise f may =
    let a = ended_at film.packets film.ending film.known (selected h) _ _ _ _ _ _ _ k e f may.0 may.1 may.2 in
    let g = f.going k may.0 a.2 in
    let same : given k h ≡ map told (rest k g.start film.packets) = all_given (given k h) _ _ a.1 g.told in
    let s = rest_ends k g.start film.packets rise in
    (may.0, λ some. (map told s.0, ap (λ xs. map told s.0 ++ xs) same ∙ told_end s.0 _ _ s.1), a.0)

ends_well : (film : Film) (h : List DemuxRecord) (r : DemuxRecord) → Holds film h → IsRegular film.packets film.known → May film h r → EndsWell film.packets film.ending (r ∷ h)
ends_well film h (Ended by k e) f regular may = end_well film h by k e f regular may
ends_well film h _ f regular may = tt

ends_last : (film : Film) (h : List DemuxRecord) (r : DemuxRecord) → IsRising film.packets → Holds film h → May film h r → EndsLast film.packets film.ending (r ∷ h)
ends_last film h (Ended by k e) rise f may = end_last film h by k e rise f may
ends_last film h _ rise f may = tt

-- ---- at every moment

none_selected : false ≡ true → ⊥
none_selected e = cc

pub allowed-legal : (film : Film) (h : List DemuxRecord) → IsFilm film.packets → IsRegular film.packets film.known → IsAllowed film h → IsLegal film.packets film.ending h
allowed-legal film [] is regular all = λ k has_k. absurd (none_selected has_k)
allowed-legal film (r ∷ h) is regular all =
    let before = holds film h is all.1 in (
      gave_fronts film (r ∷ h) (step film h r is before all.0) regular,
      ends_well film h r before regular all.0,
      allowed-legal film h is regular all.1,
    )

pub allowed-gapless : (film : Film) (h : List DemuxRecord) → IsFilm film.packets → IsAllowed film h → IsGapless film.packets film.ending h
allowed-gapless film [] is all = λ k has_k. absurd (none_selected has_k)
allowed-gapless film (r ∷ h) is all =
    let before = holds film h is all.1 in (
      gave_runs film (r ∷ h) is.rising (step film h r is before all.0),
      ends_last film h r is.rising before all.0,
      allowed-gapless film h is all.1,
    )

pub used-allowed : (film : Film) (limits : Limits) (h : List DemuxRecord) → IsUsed film limits h → IsAllowed film h
used-allowed film limits [] all = tt
used-allowed film limits (r ∷ h) all = (all.0.0, used-allowed film limits h all.1)
