-- A demuxer has nothing to do exactly where its journal says so.
use Rattle.std.proofs.Common.{◌≡◌, ℕ, Bool, true, false, ◌&&◌, ◌||◌, not, Option, Some, None, List, refl, ap, sym, subst, ◌∙◌, inl, inr}
use Rattle.std.specs.Prelude.{ℤ, if◌then◌else◌, nat_le, reverse, is_some, IfSome}
use Rattle.std.specs.Option.{option_map}
use Rattle.std.proofs.lemmas.Bool.{cases_Bool}
use Rattle.mc_packet.specs.declared.choice.Choice.{Choice}
use Rattle.mc_packet.specs.declared.cache.Heads.{Heads}
use Rattle.mc_packet.specs.declared.walk.Ending.{Ending}
use Rattle.mc_packet.specs.declared.walk.Mark.{Mark}
use Rattle.mc_packet.specs.declared.packet.Packet.{Packet}
use Rattle.mc_packet.specs.Choices.{or_else, is_empty, lead_of}
use Rattle.mc_journal.specs.Choices.{kept_of, kept_track, meets, some_of}
use Rattle.mc_journal.specs.Films.{Film}
use Rattle.mc_journal.specs.Ranges.{Range}
use Rattle.mc_journal.specs.Readings.{failed, pending, selected, waits}
use Rattle.mc_journal.specs.Stands.{stand}
use Rattle.mc_journal.specs.Views.{ending_in as ending_told, forward, from_place, head, is_full as full_told, is_idle, is_placed, some_wants as some_want_told, wants as want_told, wants_in, wants_more}
use Rattle.mc_range.specs.Range.{RangeState, as_range, queue_of}
use Rattle.mc_range.specs.Serving.{HoldsFilm}
use Rattle.mc_cache.specs.Cache.{ending_in, mark_in}
use Rattle.mc_cache.proofs.Viewed.{ending_shown}
use Rattle.mc_calls.specs.declared.job.Job.TheVariants.{Idle}
use Rattle.mc_calls.specs.declared.waiting.Target.{Target}
use Rattle.mc_calls.specs.State.{DemuxState, ahead_in, forward_of, head_of}
use Rattle.mc_calls.specs.Jobs.{is_full, job_of, read_at, read_job, some_wants, start_job, wants}
use Rattle.mc_calls.specs.Demuxers.{IsDemux, IsPlaced}
use Rattle.mc_calls.specs.Film.{PlacesAre, StandsFor}
use Rattle.mc_calls.specs.Shows.{is_idle_job}
use Rattle.mc_calls.proofs.Forward.{ahead_told, forward-is}
use Rattle.mc_calls.proofs.Resting.{have_heads, own_set}
use Rattle.mc_calls.proofs.Showing.{failed_is, set_is}

-- ---- which job is none

idle_read : (n : ℕ) (fed : Bool) (o : Option Mark) → is_idle_job (read_at n fed o) ≡ not (is_some o)
idle_read n fed None = refl
idle_read n true (Some mark) = refl
idle_read n false (Some mark) = refl

idle_if : (full : Bool) (n : ℕ) (fed : Bool) (o : Option Mark) → is_idle_job (if full then Idle else read_at n fed o) ≡ (full || not (is_some o))
idle_if true n fed o = refl
idle_if false n fed o = idle_read n fed o

-- while something is selected, and some range is current or some track waits
idle_start : (d : DemuxState) (o : Option Target) (empty : Bool) → is_empty d.waiting ≡ empty → (o ≡ None → empty ≡ true → is_some (mark_in d.cache.current) ≡ true)
    → is_idle_job (start_job d o) ≡ (not (is_some o || not empty) && is_full d)
idle_start d (Some s) empty e h = refl
idle_start d None true e h =
    let there = h refl refl in
    let one : is_idle_job (read_job d) ≡ (is_full d || not (is_some (mark_in d.cache.current))) = idle_if (is_full d) d.number d.fed (mark_in d.cache.current) in
    rw e (one ∙ rw there (or_none (is_full d)))
  where
    or_none : (b : Bool) → (b || false) ≡ b
    or_none true = refl
    or_none false = refl
idle_start d None false e h = rw e refl

placed_mark : (set : Choice) (heads : Heads) (waiting : Choice) (o : Option Target) (current : Option RangeState) → IsPlaced set heads waiting o current → is_empty set ≡ false
    → o ≡ None → is_empty waiting ≡ true → is_some (mark_in current) ≡ true
placed_mark set heads waiting (Some s) current p some none e = absurd (cc)
placed_mark set heads waiting None (Some r) p some none e = refl
placed_mark set heads waiting None None p some none e = absurd (let f : is_empty set ≡ true = subst (λ (c : Choice). is_empty c ≡ true) p e in cc)

idle_job : (d : DemuxState) (empty bad : Bool) → IsDemux d → is_empty d.set ≡ empty → is_some d.failure ≡ bad
    → is_idle_job (job_of d) ≡ (empty || (bad || (not (is_some d.seeking || not (is_empty d.waiting)) && is_full d)))
idle_job d true bad i e f = rw e refl
idle_job d false true i e f = rw (e, f) refl
idle_job d false false i e f =
    rw (e, f) (idle_start d d.seeking (is_empty d.waiting) refl (placed_mark d.set d.heads d.waiting d.seeking d.cache.current i.placed e))

-- ---- tracks that wait

kept_some : (o : Option ℕ) (test : ℕ → Bool) → is_some (kept_track test o) ≡ meets o test
kept_some None test = refl
kept_some (Some k) test = elim (cases_Bool (test k)) [ inl y ↦ rw y refl | inr n ↦ rw n refl ]

some_or : (a b : Option ℕ) → is_some (or_else a b) ≡ (is_some a || is_some b)
some_or None b = refl
some_or (Some k) b = refl

turned : (v a s : Bool) → not (not (s || (v || a))) ≡ (v || (a || s))
turned true true true = refl
turned true true false = refl
turned true false true = refl
turned true false false = refl
turned false true true = refl
turned false true false = refl
turned false false true = refl
turned false false false = refl

some_kept : (set : Choice) (test : ℕ → Bool) → not (is_empty (kept_of set test)) ≡ some_of set test
some_kept set test =
    let v = kept_some set.video test in
    let a = kept_some set.audio test in
    let s = kept_some set.sub test in
    let k = kept_of set test in
    ap (λ b. not (not b)) (some_or k.sub (or_else k.video k.audio) ∙ ap (λ b. is_some k.sub || b) (some_or k.video k.audio))
    ∙ rw (v, a, s) (turned (meets set.video test) (meets set.audio test) (meets set.sub test))

-- ---- what is wanted

want_same : (ps : List Packet) (near : ℤ) (set : Choice) (heads : Heads) (n : ℕ → ℕ) (current : Option RangeState) (k : ℕ)
    → IfSome current (HoldsFilm ps) → IfSome current (PlacesAre set heads n)
    → wants_more near ((ahead_in set heads k current)) ≡ wants_in ps near k (n k) (option_map as_range current)
want_same ps near set heads n None k all places = refl
want_same ps near set heads n (Some r) k all places =
    sym (ap (λ (qs : List Packet). wants_more near (from_place (n k) qs)) (all k)
    ∙ ap (λ (qs : List Packet). wants_more near qs) (ahead_told (queue_of k r.queues) (head_of set heads k) (n k) (places k)))

meets_same : (o : Option ℕ) (f g : ℕ → Bool) → ((k : ℕ) → f k ≡ g k) → meets o f ≡ meets o g
meets_same None f g h = refl
meets_same (Some k) f g h = h k

abbrev asked : Choice → (ℕ → Bool) → Bool
asked set f = if is_some (lead_of set) then meets set.video f || meets set.audio f else meets set.sub f

asked_same : (set : Choice) (f g : ℕ → Bool) → ((k : ℕ) → f k ≡ g k) → asked set f ≡ asked set g
asked_same set f g h =
    let v = meets_same set.video f g h in
    let a = meets_same set.audio f g h in
    let s = meets_same set.sub f g h in
    rw (v, a, s) refl

want_is : (film : Film) (d : DemuxState) (k : ℕ) → StandsFor film d → wants d k ≡ want_told film.packets d.cache.limits (reverse d.journal) k
want_is film d k s =
    let h = reverse d.journal in
    want_same film.packets d.cache.limits.readahead d.set d.heads (λ j. head film.packets j h) d.cache.current k s.fits.held s.fits.places
    ∙ ap (λ (o : Option Range). wants_in film.packets d.cache.limits.readahead k (head film.packets k h) o) (sym s.fits.current_is)

some_want_is : (film : Film) (d : DemuxState) → StandsFor film d → some_wants d ≡ some_want_told film.packets d.cache.limits (reverse d.journal)
some_want_is film d s =
    asked_same d.set (wants d) (want_told film.packets d.cache.limits (reverse d.journal)) (λ k. want_is film d k s)
    ∙ ap (λ (c : Choice). asked c (want_told film.packets d.cache.limits (reverse d.journal))) (set_is film d s)

pub full_is : (film : Film) (d : DemuxState) → IsDemux d → StandsFor film d → is_full d ≡ full_told film.packets d.cache.limits (reverse d.journal)
full_is film d i s =
    let h = reverse d.journal in
    let end : is_some (ending_in d.cache.current) ≡ is_some (ending_told (stand film.packets h).current) =
    ap (λ (o : Option Ending). is_some o) (ending_shown d.cache.current ∙ ap (λ (o : Option Range). ending_told o) (sym s.fits.current_is)) in
    let octets : forward_of d ≡ forward film.packets h =
    sym (forward-is film d.cache.limits d.set d.cache.current d.cache.others d.heads d.seeking d.waiting d.switch d.failure d.ended h
    i.cache.current (own_set d i) (have_heads d.set d.heads d.waiting d.seeking d.cache.current i.placed) s.fits) in
    ap (λ b. b || (nat_le d.cache.limits.forward (forward_of d) || not (some_wants d))) end
    ∙ ap (λ n. is_some (ending_told (stand film.packets h).current) || (nat_le d.cache.limits.forward n || not (some_wants d))) octets
    ∙ ap (λ b. is_some (ending_told (stand film.packets h).current) || (nat_le d.cache.limits.forward (forward film.packets h) || not b)) (some_want_is film d s)

-- ---- nothing to do

placed_is : (film : Film) (d : DemuxState) → StandsFor film d → not (is_some d.seeking || not (is_empty d.waiting)) ≡ is_placed (reverse d.journal)
placed_is film d s =
    let h = reverse d.journal in
    ap (λ b. not (b || not (is_empty d.waiting))) (sym s.fits.seeks)
    ∙ ap (λ (c : Choice). not (pending h || not (is_empty c))) s.fits.waits_are
    ∙ ap (λ b. not (pending h || b)) (some_kept d.set (λ track. waits track h))
    ∙ ap (λ (c : Choice). not (pending h || some_of c (λ track. waits track h))) (set_is film d s)

pub idle_is : (film : Film) (d : DemuxState) → IsDemux d → StandsFor film d → is_idle_job (job_of d) ≡ is_idle film.packets d.cache.limits (reverse d.journal)
idle_is film d i s =
    let h = reverse d.journal in
    idle_job d (is_empty d.set) (is_some d.failure) i refl refl
    ∙ ap (λ (c : Choice). is_empty c || (is_some d.failure || (not (is_some d.seeking || not (is_empty d.waiting)) && is_full d))) (set_is film d s)
    ∙ ap (λ b. is_empty (selected h) || (b || (not (is_some d.seeking || not (is_empty d.waiting)) && is_full d))) (failed_is film d s)
    ∙ ap (λ b. is_empty (selected h) || (failed h || (b && is_full d))) (placed_is film d s)
    ∙ ap (λ b. is_empty (selected h) || (failed h || (is_placed h && b))) (full_is film d i s)
