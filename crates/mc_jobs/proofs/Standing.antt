-- What a job came to, brought to the demuxer, keeps the film for which a driver stands.
use Rattle.std.proofs.Common.{◌≡◌, ℕ, true, List, [], ◌∷◌, map, Option, Some, None, Result, Ok, Err, ℤ, sym, ap, subst}
use Rattle.std.proofs.lemmas.List.Elements.{All-contains, All-from_recursion, Contains-append_left, Contains-append_right, Contains-push}
use Rattle.std.specs.Prelude.{Contains, IfSome, reverse}
use Rattle.std.specs.List.{AllByRecursion}
use Rattle.mc_packet.specs.declared.choice.Choice.{Choice}
use Rattle.mc_packet.specs.declared.choice.Dir.{Dir}
use Rattle.mc_packet.specs.declared.choice.Starts.{Starts as FoundStarts}
use Rattle.mc_packet.specs.declared.walk.Chunk.{Chunk as FilmChunk}
use Rattle.mc_packet.specs.declared.walk.Mark.{Mark}
use Rattle.mc_walk.specs.declared.plan.Plan.{Plan}
use Rattle.mc_walk.specs.Parts.{IsMark}
use Rattle.mc_walk.specs.Parts.IsMark.{at_end}
use Rattle.mc_journal.specs.declared.record.DemuxRecord.{DemuxRecord}
use Rattle.mc_packet.specs.Choices.{passes, is_known}
use Rattle.mc_journal.specs.Films.{is_listed}
use Rattle.mc_journal.specs.Readings.{waits}
use Rattle.mc_cursor.specs.declared.cursor.Cursor.{Cursor}
use Rattle.mc_cursor.specs.Standing.{StandsFor as CursorStandsFor, plan_for, at_mark}
use Rattle.mc_cursor.proofs.Standing.{opening_lies}
use Rattle.mc_index.specs.declared.index.Index.{Index}
use Rattle.mc_tracks.specs.Selection.{knows}
use Rattle.mc_index.specs.Scans.{IsIndexOf, IsPlan}
use Rattle.mc_range.specs.Range.{RangeState}
use Rattle.mc_cache.specs.Cache.{in_front, mark_in, ranges_of}
use Rattle.mc_calls.specs.declared.answer.DemuxError.{DemuxError}
use Rattle.mc_calls.specs.declared.answer.DemuxError.TheVariants.{Refused, JournalFull, NoMemory}
use Rattle.mc_calls.specs.declared.answer.Taken.{Taken}
use Rattle.mc_calls.specs.declared.answer.Taken.TheVariants.{Taken as WasTaken, Stale}
use Rattle.mc_calls.specs.declared.job.Job.{Job}
use Rattle.mc_calls.specs.declared.job.Job.TheVariants.{SeekTo, Refresh}
use Rattle.mc_calls.specs.declared.waiting.Failure.{Failure}
use Rattle.mc_calls.specs.declared.waiting.Switch.{Switch}
use Rattle.mc_calls.specs.State.{DemuxState}
use Rattle.mc_calls.specs.Demuxers.{IsDemux, KeepsJob}
use Rattle.mc_calls.specs.Film.{StandsFor, AreStartsOf, IsPartOf, failure_record}
use Rattle.mc_calls.specs.Marks.{AreAmong, marks_of}
use Rattle.mc_calls.specs.Outcomes.{Finds, Feeds, Fails}
use Rattle.mc_calls.specs.declared.waiting.Failure.TheVariants as failures
use Rattle.mc_jobs.specs.declared.brought.Brought.{Brought}
use Rattle.mc_jobs.specs.declared.brought.Brought.TheVariants.{Chunk, Starts, Failed, Starved}
use Rattle.mc_filmed.specs.Films.{film_for}
use Rattle.mc_jobs.specs.Driving.{StandTogether}
use Rattle.mc_jobs.specs.Working.{AreStarts, AreSeekStarts, AreSwitchStarts, IsChunkAt, IsPart, IsOfFilm, Stops, Takes, marks_in}
use Rattle.mc_jobs.proofs.Chosen.{selected-known, kept-known}
use Rattle.mc_jobs.proofs.Marking.{starts-mark}
use Rattle.mc_jobs.proofs.Parting.{is-part}
use Rattle.mc_jobs.proofs.Starts.{of-seek, of-switch}

-- ---- marks

abbrev HaveMark : (Mark → Type 0) → RangeState → Type 0
HaveMark P r = P r.mark

of-marks : (P : Mark → Type 0) (marks : List Mark) (rs : List RangeState) → AllByRecursion P marks → AllByRecursion (λ (r : RangeState). Contains marks r.mark) rs → AllByRecursion (HaveMark P) rs
of-marks P marks [] all among = tt
of-marks P marks (r ∷ rs) all among = (All-contains P marks r.mark (All-from_recursion P marks all) among.0, of-marks P marks rs all among.1)

to-marks : (P : Mark → Type 0) (rs : List RangeState) → AllByRecursion (HaveMark P) rs → AllByRecursion P (map (λ (r : RangeState). r.mark) rs)
to-marks P [] all = tt
to-marks P (r ∷ rs) all = (all.0, to-marks P rs all.1)

-- ranges whose marks are among those of other ranges have what these have
pub among-kept : (P : Mark → Type 0) (old new : DemuxState) → AllByRecursion (HaveMark P) (ranges_of old.cache) → AreAmong (marks_of old.cache) new.cache → AllByRecursion (HaveMark P) (ranges_of new.cache)
among-kept P old new all among = of-marks P (marks_of old.cache) (ranges_of new.cache) (to-marks P (ranges_of old.cache) all) among

-- the mark that is brought, if any
abbrev pub BringsMark : (Mark → Type 0) → Brought → Type 0
BringsMark P (Chunk c) = P c.to
BringsMark P (Starts s) = P s.mark
BringsMark P (Failed b a) = Unit {0}
BringsMark P Starved = Unit {0}

marks-brought : (P : Mark → Type 0) (brought : Brought) (marks : List Mark) → BringsMark P brought → AllByRecursion P marks → AllByRecursion P (marks_in brought marks)
marks-brought P (Chunk c) marks one all = (one, all)
marks-brought P (Starts s) marks one all = (one, all)
marks-brought P (Failed b a) marks one all = all
marks-brought P Starved marks one all = all

-- a cache has its own marks
further : (m : Mark) (marks : List Mark) (rs : List RangeState) → AllByRecursion (λ (r : RangeState). Contains marks r.mark) rs → AllByRecursion (λ (r : RangeState). Contains (m ∷ marks) r.mark) rs
further m marks [] h = tt
further m marks (r ∷ rs) h = (Contains-append_right (m ∷ []) marks r.mark h.0, further m marks rs h.1)

pub own-marks : (rs : List RangeState) → AllByRecursion (λ (r : RangeState). Contains (map (λ (q : RangeState). q.mark) rs) r.mark) rs
own-marks [] = tt
own-marks (r ∷ rs) =
    let marks = map (λ (q : RangeState). q.mark) rs in
    (Contains-append_left (r.mark ∷ []) marks r.mark (Contains-push [] r.mark), further r.mark marks rs (own-marks rs))

fails-cache : (n : ℕ) (failure : Failure) (own : DemuxRecord) (old : DemuxState) (taken : Taken) (new : DemuxState) → Fails n failure own old taken new → new.cache ≡ old.cache
fails-cache n failure own old WasTaken new h = ap (λ (d : DemuxState). d.cache) h.1
fails-cache n failure own old (Stale asked now) new h = ap (λ (d : DemuxState). d.cache) h.same

-- where a failure is taken down each mark is one of those before
pub among-fails : (n : ℕ) (failure : Failure) (own : DemuxRecord) (old : DemuxState) (taken : Taken) (new : DemuxState) → Fails n failure own old taken new → AreAmong (marks_of old.cache) new.cache
among-fails n failure own old taken new h =
    subst (λ c. AreAmong (marks_of old.cache) c) (sym (fails-cache n failure own old taken new h)) (own-marks (ranges_of old.cache))

brought-kept : (P : Mark → Type 0) (brought : Brought) (old new : DemuxState) → BringsMark P brought → AllByRecursion (HaveMark P) (ranges_of old.cache)
    → AreAmong (marks_in brought (marks_of old.cache)) new.cache → AllByRecursion (HaveMark P) (ranges_of new.cache)
brought-kept P brought old new one all among =
    of-marks P (marks_in brought (marks_of old.cache)) (ranges_of new.cache) (marks-brought P brought (marks_of old.cache) one (to-marks P (ranges_of old.cache) all)) among

-- ---- the last selection

feeds-switch : (n : ℕ) (c : FilmChunk) (old : DemuxState) (result : Result Taken DemuxError) (new : DemuxState) → Feeds n c old result new → new.switch ≡ old.switch
feeds-switch n c old (Ok WasTaken) new h = ap (λ (d : DemuxState). d.switch) h.2.changed
feeds-switch n c old (Ok (Stale asked now)) new h = ap (λ (d : DemuxState). d.switch) h.1.same
feeds-switch n c old (Err (Refused why)) new h = absurd h
feeds-switch n c old (Err JournalFull) new h = ap (λ (d : DemuxState). d.switch) h.1
feeds-switch n c old (Err NoMemory) new h = ap (λ (d : DemuxState). d.switch) h.1.changed

finds-switch : (n : ℕ) (s : FoundStarts) (old : DemuxState) (result : Result Taken DemuxError) (new : DemuxState) → Finds n s old result new → new.switch ≡ old.switch
finds-switch n s old (Ok WasTaken) new h = ap (λ (d : DemuxState). d.switch) h.2.changed
finds-switch n s old (Ok (Stale asked now)) new h = ap (λ (d : DemuxState). d.switch) h.1.same
finds-switch n s old (Err (Refused why)) new h = absurd h
finds-switch n s old (Err JournalFull) new h = ap (λ (d : DemuxState). d.switch) h.1
finds-switch n s old (Err NoMemory) new h = ap (λ (d : DemuxState). d.switch) h.1.changed

fails-switch : (n : ℕ) (failure : Failure) (own : DemuxRecord) (old : DemuxState) (result : Result Taken DemuxError) (new : DemuxState)
    → Stops (λ taken. Fails n failure own old taken new) result → new.switch ≡ old.switch
fails-switch n failure own old (Ok WasTaken) new h = ap (λ (d : DemuxState). d.switch) h.1
fails-switch n failure own old (Ok (Stale asked now)) new h = ap (λ (d : DemuxState). d.switch) h.same
fails-switch n failure own old (Err e) new h = absurd h

takes-switch : (n : ℕ) (brought : Brought) (old : DemuxState) (result : Result Taken DemuxError) (new : DemuxState) → Takes n brought old result new → new.switch ≡ old.switch
takes-switch n (Chunk c) old result new h = feeds-switch n c old result new h
takes-switch n (Starts s) old result new h = finds-switch n s old result new h
takes-switch n (Failed b a) old result new h = fails-switch n (failures.Failed b a) (failure_record (failures.Failed b a)) old result new h
takes-switch n Starved old result new h = fails-switch n failures.Starved (failure_record failures.Starved) old result new h

-- ---- the whole

pub film-plan : (octets : List ℕ) (c : Cursor) → CursorStandsFor octets c → IsPlan (plan_for octets c)
film-plan octets c stands = opening_lies octets c stands

-- the film's plan is the same from each mark
abbrev pub Moves : Cursor → Cursor → Type 0
Moves c c' = c' ≡ at_mark c c'.mark

pub same-plan : (octets : List ℕ) (c c' : Cursor) → Moves c c' → plan_for octets c' ≡ plan_for octets c
same-plan octets c c' moves = ap (plan_for octets) moves

-- what is brought is of the film
pub record IsOf (plan : Plan) (n : ℕ) (brought : Brought) (demux : DemuxState) : Type 0 where
  pub film : IsOfFilm (film_for plan) n brought demux
  pub mark : BringsMark (IsMark plan) brought

-- once it was brought, all stand together as before
pub brought-stands : (octets : List ℕ) (old new : DemuxState) (c c' : Cursor) (x x' : Index) (n : ℕ) (brought : Brought) (result : Result Taken DemuxError)
    → StandTogether octets old c x → Moves c c' → CursorStandsFor octets c' → IsIndexOf (plan_for octets c) x' → IsOf (plan_for octets c) n brought old
    → Takes n brought old result new → StandsFor (film_for (plan_for octets c)) new → AreAmong (marks_in brought (marks_of old.cache)) new.cache
    → StandTogether octets new c' x'
brought-stands octets old new c c' x x' n brought result s moves cursor index of takes film among =
    let plan = same-plan octets c c' moves in
    record {
      demux_is = subst (λ p. StandsFor (film_for p) new) (sym plan) film;
      cursor_is = cursor;
      index_is = subst (λ p. IsIndexOf p x') (sym plan) index;
      marks = subst (λ p. AllByRecursion (HaveMark (IsMark p)) (ranges_of new.cache)) (sym plan) (brought-kept (IsMark (plan_for octets c)) brought old new of.mark s.marks among);
      lead =
          subst (λ (p : Plan). passes new.switch.lead (is_listed (knows p.tracks)) ≡ true) (sym plan)
          (subst (λ (w : Switch). passes w.lead (is_listed (knows c.tracks)) ≡ true) (sym (takes-switch n brought old result new takes)) s.lead);
    }

-- ---- the starts of a seek

abbrev Keeps : DemuxState → Job → Type 0
Keeps d job = d.kept ≡ Some job

kept-is : (d : DemuxState) (job : Job) → IsDemux d → Keeps d job → KeepsJob d job
kept-is d job is kept = subst (λ o. IfSome o (KeepsJob d)) kept is.kept

-- the selected tracks are the film's
pub set-known : (plan : Plan) (d : DemuxState) → StandsFor (film_for plan) d → is_known (knows plan.tracks) d.set ≡ true
set-known plan d s = subst (λ set. is_known (knows plan.tracks) set ≡ true) s.fits.set_is (selected-known (film_for plan) d.cache.limits (reverse d.journal) s.fits.used)

pub waiting-known : (plan : Plan) (d : DemuxState) → StandsFor (film_for plan) d → is_known (knows plan.tracks) d.waiting ≡ true
waiting-known plan d s =
    subst (λ set. is_known (knows plan.tracks) set ≡ true) (sym s.fits.waits_are)
    (kept-known (knows plan.tracks) d.set (λ track. waits track (reverse d.journal)) (set-known plan d s))

pub seek-is : (plan : Plan) (d : DemuxState) (m n : ℕ) (set : Choice) (t : ℤ) (dir : Dir) (brought : Brought) → IsPlan plan → IsDemux d → StandsFor (film_for plan) d
    → Keeps d (SeekTo n set t dir) → AreSeekStarts plan set t dir brought → AreStarts set brought → IsOf plan m brought d
seek-is plan d m n set t dir (Chunk c) plan_is is s kept found fits = absurd fits
seek-is plan d m n set t dir (Starts starts) plan_is is s kept found fits =
    let k = (kept-is d (SeekTo n set t dir) is kept).is in
    let known : is_known (knows plan.tracks) set ≡ true = subst (λ c. is_known (knows plan.tracks) c ≡ true) (sym k.1) (set-known plan d s) in
    record {
      film = λ e. subst (λ o. IfSome o (AreStartsOf (film_for plan) starts)) (sym kept) (of-seek plan set dir t starts known found.0 found.1);
      mark = starts-mark plan starts plan_is found.0;
    }
seek-is plan d m n set t dir (Failed b a) plan_is is s kept found fits = record { film = tt; mark = tt }
seek-is plan d m n set t dir Starved plan_is is s kept found fits = record { film = tt; mark = tt }

pub added-is : (plan : Plan) (d : DemuxState) (m n : ℕ) (added : Choice) (lead : Option ℕ) (at : ℤ) (brought : Brought) → IsPlan plan → IsDemux d → StandsFor (film_for plan) d
    → passes d.switch.lead (is_listed (knows plan.tracks)) ≡ true
    → Keeps d (Refresh n added lead at) → AreSwitchStarts plan added lead at brought → AreStarts added brought → IsOf plan m brought d
added-is plan d m n added lead at (Chunk c) plan_is is s listed kept found fits = absurd fits
added-is plan d m n added lead at (Starts starts) plan_is is s listed kept found fits =
    let k = (kept-is d (Refresh n added lead at) is kept).is in
    let known : is_known (knows plan.tracks) added ≡ true = subst (λ c. is_known (knows plan.tracks) c ≡ true) (sym k.1) (waiting-known plan d s) in
    let leads : passes lead (is_listed (knows plan.tracks)) ≡ true = subst (λ (w : Switch). passes w.lead (is_listed (knows plan.tracks)) ≡ true) k.3 listed in
    record {
      film = λ e. subst (λ o. IfSome o (AreStartsOf (film_for plan) starts)) (sym kept) (of-switch plan added lead at starts known leads found.0 found.1);
      mark = starts-mark plan starts plan_is found.0;
    }
added-is plan d m n added lead at (Failed b a) plan_is is s listed kept found fits = record { film = tt; mark = tt }
added-is plan d m n added lead at Starved plan_is is s listed kept found fits = record { film = tt; mark = tt }

-- ---- a part

pub part-is : (plan : Plan) (d : DemuxState) (n : ℕ) (at : Mark) (brought : Brought) → IsPlan plan → StandsFor (film_for plan) d → IsMark plan at → IsChunkAt plan at brought → IsPart at brought
    → IsOf plan n brought d
part-is plan d n at (Chunk c) plan_is s mark is fits =
    record {
      film = subst (λ k. IsPartOf (film_for plan) k) (sym is) (is-part plan at plan_is s.fits.film_is mark);
      mark = subst (λ (k : FilmChunk). IsMark plan k.to) (sym is) (at_end at mark);
    }
part-is plan d n at (Starts s') plan_is s mark is fits = absurd fits
part-is plan d n at (Failed b a) plan_is s mark is fits = record { film = tt; mark = tt }
part-is plan d n at Starved plan_is s mark is fits = record { film = tt; mark = tt }

-- the current range's mark is one of the film
current-by : (P : Mark → Type 0) (at : Mark) (current : Option RangeState) (others : List RangeState) → Some at ≡ mark_in current → AllByRecursion (HaveMark P) (in_front current others) → P at
current-by P at None others is all = absurd (cc is)
current-by P at (Some r) others is all = let e : r.mark ≡ at = cc is in subst P e all.0

pub current-mark : (P : Mark → Type 0) (at : Mark) (d : DemuxState) → Some at ≡ mark_in d.cache.current → AllByRecursion (HaveMark P) (ranges_of d.cache) → P at
current-mark P at d is all = current-by P at d.cache.current d.cache.others is all
