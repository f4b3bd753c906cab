-- The job that comes next follows from the journal.
use Rattle.std.proofs.Common.{◌≡◌, ℕ, ◌<◌, zero, suc, arith, length, Bool, true, false, ◌||◌, Option, Some, None, List, [], ◌∷◌, refl, ap, sym, subst, ◌∙◌, inl, inr, ◌==◌}
use Rattle.std.specs.Prelude.{ℤ, Contains, if◌then◌else◌, reverse, is_some, IfSome, IsSomeAnd}
use Rattle.std.specs.List.{find, slice_index_or, AllByRecursion}
use Rattle.std.proofs.lemmas.List.Elements.{Contains-append_right}
use Rattle.std.specs.Option.{option_map}
use Rattle.std.proofs.lemmas.Bool.{cases_Bool, eq-eqb, eqb-true}
use Rattle.mc_packet.specs.declared.choice.Choice.{Choice}
use Rattle.mc_packet.specs.declared.choice.Dir.{Dir}
use Rattle.mc_packet.specs.declared.walk.Mark.{Mark}
use Rattle.mc_packet.specs.Choices.{is_empty}
use Rattle.mc_journal.specs.Choices.{kept_of}
use Rattle.mc_journal.specs.Films.{Film}
use Rattle.mc_journal.specs.Ranges.{Range}
use Rattle.mc_journal.specs.Readings.{failed, selected, waits}
use Rattle.mc_journal.specs.Stands.{stand}
use Rattle.mc_journal.specs.Views.{is_full as full_told}
use Rattle.mc_range.specs.Range.{RangeState, as_range}
use Rattle.mc_cache.specs.Cache.{in_front, mark_in}
use Rattle.mc_calls.specs.declared.job.Job.{Job}
use Rattle.mc_calls.specs.declared.job.Job.TheVariants.{SeekTo, Refresh, Resume, Read, Idle}
use Rattle.mc_calls.specs.declared.waiting.Switch.{Switch}
use Rattle.mc_calls.specs.declared.waiting.Target.{Target}
use Rattle.mc_calls.specs.State.{DemuxState}
use Rattle.mc_calls.specs.ByJournal.{AreOne, IsAwaited, awaited, job_by, mark_by, mark_in_told, read_by, start_by}
use Rattle.mc_calls.specs.Demuxers.{IsDemux, KeepsJob}
use Rattle.mc_calls.specs.Film.{StandsFor}
use Rattle.mc_calls.specs.Jobs.{is_full, job_of, read_at, read_job, start_job}
use Rattle.mc_calls.specs.Shows.{goal_of, pending_goal}
use Rattle.mc_calls.specs.Tied.{is_upto, last_switch, number_of, read_upto, told_marks}
use Rattle.mc_calls.proofs.Among.{Among, head_in}
use Rattle.mc_calls.proofs.Idling.{full_is}
use Rattle.mc_calls.proofs.Showing.{failed_is, pending_is, set_is}

-- ---- jobs of the same

same_seek : (n n' : ℕ) (s s' : Choice) (t : ℤ) (dir : Dir) → n ≡ n' → s ≡ s' → SeekTo n s t dir ≡ SeekTo n' s' t dir
same_seek n n' s s' t dir a b = rw (a, b) refl

same_refresh : (n n' : ℕ) (added added' : Choice) (w w' : Switch) → n ≡ n' → added ≡ added' → w ≡ w' → Refresh n added w.lead w.at ≡ Refresh n' added' w'.lead w'.at
same_refresh n n' added added' w w' a b e =
    ap (λ k. Refresh k added w.lead w.at) a ∙ ap (λ (c : Choice). Refresh n' c w.lead w.at) b ∙ ap (λ (x : Switch). Refresh n' added' x.lead x.at) e

same_read : (full full' : Bool) (n n' : ℕ) (fed fed' : Bool) (mark : Option Mark) → full ≡ full' → n ≡ n' → fed ≡ fed'
    → (if full then Idle else read_at n fed mark) ≡ (if full' then Idle else read_at n' fed' mark)
same_read full full' n n' fed fed' mark a b e = rw (a, b, e) refl

same_if : (b b' : Bool) (x x' y y' : Job) → b ≡ b' → x ≡ x' → y ≡ y' → (if b then x else y) ≡ (if b' then x' else y')
same_if b b' x x' y y' e f g = rw (e, f, g) refl

waiting_is : (film : Film) (d : DemuxState) → StandsFor film d → d.waiting ≡ awaited (reverse d.journal)
waiting_is film d s =
    let h = reverse d.journal in
    s.fits.waits_are ∙ ap (λ (c : Choice). kept_of c (λ track. waits track h)) (sym s.fits.set_is)

start_is : (film : Film) (d : DemuxState) (o : Option Target) → IsDemux d → StandsFor film d
    → start_job d o ≡ start_by film d.cache.limits (mark_in d.cache.current) (reverse d.journal) (option_map goal_of o)
start_is film d (Some t) i s = same_seek d.number (number_of (reverse d.journal)) d.set (selected (reverse d.journal)) t.t t.dir s.tied.number_is (set_is film d s)
start_is film d None i s =
    let h = reverse d.journal in
    let mark = mark_in d.cache.current in
    let w = waiting_is film d s in
    let read : read_job d ≡ read_by film d.cache.limits mark h =
    same_read (is_full d) (full_told film.packets d.cache.limits h) d.number (number_of h) d.fed (is_upto (read_upto h) mark) mark (full_is film d i s) s.tied.number_is s.tied.fed_is in
    same_if (is_empty d.waiting) (is_empty (awaited h)) (read_job d) (read_by film d.cache.limits mark h) (Refresh d.number d.waiting d.switch.lead d.switch.at)
    (Refresh (number_of h) (awaited h) (last_switch h).lead (last_switch h).at) (ap (λ (c : Choice). is_empty c) w) read
    (same_refresh d.number (number_of h) d.waiting (awaited h) d.switch (last_switch h) s.tied.number_is w s.tied.switch_is)

pub job_is : (film : Film) (d : DemuxState) → IsDemux d → StandsFor film d → job_of d ≡ job_by film d.cache.limits (mark_in d.cache.current) (reverse d.journal)
job_is film d i s =
    let h = reverse d.journal in
    let mark = mark_in d.cache.current in
    let set : is_empty d.set ≡ is_empty (selected h) = ap (λ (c : Choice). is_empty c) (set_is film d s) in
    let start = start_is film d d.seeking i s ∙ ap (λ (o : Option (ℤ × Dir)). start_by film d.cache.limits mark h o) (pending_is film d s) in
    same_if (is_empty d.set || is_some d.failure) (is_empty (selected h) || failed h) Idle Idle (start_job d d.seeking) (start_by film d.cache.limits mark h (pending_goal h))
    (ap (λ b. b || is_some d.failure) set ∙ ap (λ b. is_empty (selected h) || b) (failed_is film d s)) refl start

-- ---- the mark

place_is : (o : Option RangeState) → option_map (λ (m : Mark). m.pos) (mark_in o) ≡ option_map (λ (r : Range). r.mark) (option_map as_range o)
place_is None = refl
place_is (Some r) = refl

pub mark_place : (film : Film) (d : DemuxState) → StandsFor film d
    → option_map (λ (m : Mark). m.pos) (mark_in d.cache.current) ≡ option_map (λ (r : Range). r.mark) (stand film.packets (reverse d.journal)).current
mark_place film d s = place_is d.cache.current ∙ ap (λ (o : Option Range). option_map (λ (r : Range). r.mark) o) (sym s.fits.current_is)

-- one of a list is its first or one behind it
rest_in : (x m : Mark) (xs : List Mark) (k : ℕ) → k < length (x ∷ xs) → slice_index_or (x ∷ xs) k m ≡ m → (x.pos == m.pos) ≡ false → Contains xs m
rest_in x m xs zero l e o =
    absurd (let same : (x.pos == m.pos) ≡ true = eq-eqb x.pos m.pos (ap (λ (y : Mark). y.pos) e) in let bad : false ≡ true = sym o ∙ same in cc)
rest_in x m xs (suc j) l e o = (j, omega arith, e)

find_one : (marks : List Mark) (m : Mark) → ((x : Mark) → Contains marks x → x.pos ≡ m.pos → x ≡ m) → Contains marks m → find (λ (x : Mark). x.pos == m.pos) marks ≡ Some m
find_one [] m h c = absurd (let l = c.1 in omega arith)
find_one (x ∷ xs) m h c = elim (cases_Bool (x.pos == m.pos)) [
  | inl y ↦ let e : x ≡ m = h x (head_in x xs) (eqb-true x.pos m.pos y) in rw y (ap (λ (z : Mark). Some z) e)
  | inr o ↦
      let left : Contains xs m = rest_in x m xs c.0 c.1 c.2 o in
      rw o (find_one xs m (λ z i e. h z (Contains-append_right (x ∷ []) xs z i) e) left)
]

mark_one : (marks : List Mark) (o : Option RangeState) (rs : List RangeState) → AreOne marks → AllByRecursion (Among marks) (in_front o rs)
    → mark_in o ≡ mark_in_told marks (option_map as_range o)
mark_one marks None rs one a = refl
mark_one marks (Some r) rs one a = sym (find_one marks r.mark (λ x c e. one x r.mark c a.0 e) a.0)

pub mark_is : (film : Film) (d : DemuxState) → StandsFor film d → AreOne (told_marks (reverse d.journal)) → mark_in d.cache.current ≡ mark_by film (reverse d.journal)
mark_is film d s one =
    let marks = told_marks (reverse d.journal) in
    mark_one marks d.cache.current d.cache.others one s.tied.marks_are ∙ ap (λ (o : Option Range). mark_in_told marks o) (sym s.fits.current_is)

-- ---- a job whose outcome is awaited

resumes : (marks : List Mark) (mark : Mark) (o : Option RangeState) (rs : List RangeState) → AllByRecursion (Among marks) (in_front o rs)
    → IsSomeAnd o (λ r. (r.mark ≡ mark) × (r.ending ≡ None)) → IsSomeAnd (option_map as_range o) (λ (r : Range). r.mark ≡ mark.pos) × Contains marks mark
resumes marks mark None rs a h = absurd h
resumes marks mark (Some r) rs a h = (ap (λ (m : Mark). m.pos) h.0, subst (λ (m : Mark). Contains marks m) h.0 a.0)

kept_by : (film : Film) (d : DemuxState) (o : Option Job) → StandsFor film d → IfSome o (KeepsJob d) → IfSome o (IsAwaited film (reverse d.journal))
kept_by film d None s k = tt
kept_by film d (Some (SeekTo n set t dir)) s k =
    (k.is.0 ∙ s.tied.number_is, k.is.1 ∙ set_is film d s, sym (pending_is film d s) ∙ ap (λ (o : Option Target). option_map goal_of o) k.is.2)
kept_by film d (Some (Refresh n added lead at)) s k = (k.is.0 ∙ s.tied.number_is, k.is.1 ∙ waiting_is film d s, sym s.tied.switch_is ∙ k.is.3)
kept_by film d (Some (Resume n mark)) s k =
    let h = reverse d.journal in
    let there = resumes (told_marks h) mark d.cache.current d.cache.others s.tied.marks_are k.is.1 in
    (k.is.0 ∙ s.tied.number_is, subst (λ (o : Option Range). IsSomeAnd o (λ (r : Range). r.mark ≡ mark.pos)) (sym s.fits.current_is) there.0, there.1)
kept_by film d (Some (Read n)) s k = k.is.0 ∙ s.tied.number_is
kept_by film d (Some Idle) s k = absurd k.is

pub kept_is : (film : Film) (d : DemuxState) → IsDemux d → StandsFor film d → IfSome d.kept (IsAwaited film (reverse d.journal))
kept_is film d i s = kept_by film d d.kept s i.kept
