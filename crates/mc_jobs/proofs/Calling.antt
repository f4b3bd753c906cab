-- What is asked of a demuxer keeps the film for which a driver stands.
use Rattle.std.proofs.Common.{◌≡◌, ℕ, true, List, ◌∷◌, map, Option, Some, None, Result, Ok, Err, ℤ, sym, ap, subst, ◌∙◌}
use Rattle.std.specs.Prelude.{Contains}
use Rattle.std.specs.List.{AllByRecursion}
use Rattle.mc_packet.specs.declared.choice.Dir.{Dir}
use Rattle.mc_packet.specs.declared.cache.CacheView.{CacheView}
use Rattle.mc_walk.specs.Parts.{IsMark}
use Rattle.mc_journal.specs.declared.record.DemuxRecord.{DemuxRecord}
use Rattle.mc_journal.specs.declared.record.Sought.{Sought as How}
use Rattle.mc_packet.specs.Choices.{lead_of, passes}
use Rattle.mc_journal.specs.Films.{is_listed}
use Rattle.mc_cursor.specs.declared.cursor.Cursor.{Cursor}
use Rattle.mc_cursor.specs.Standing.{plan_for}
use Rattle.mc_index.specs.declared.index.Index.{Index}
use Rattle.mc_tracks.specs.Selection.{knows}
use Rattle.mc_range.specs.Range.{RangeState}
use Rattle.mc_cache.specs.Cache.{CacheState, in_front, ranges_of}
use Rattle.mc_cache.specs.Changing.{IsSameButRoom, RoomierIn}
use Rattle.mc_calls.specs.declared.answer.DemuxError.{DemuxError}
use Rattle.mc_calls.specs.declared.answer.DemuxError.TheVariants.{Refused, JournalFull, NoMemory}
use Rattle.mc_calls.specs.declared.answer.Reading.{Reading}
use Rattle.mc_calls.specs.declared.answer.Selected.{Selected}
use Rattle.mc_calls.specs.declared.answer.Selected.TheVariants.{Same, Changed}
use Rattle.mc_calls.specs.declared.answer.Taken.{Taken}
use Rattle.mc_calls.specs.declared.answer.Taken.TheVariants.{Taken as WasTaken, Stale}
use Rattle.mc_calls.specs.declared.job.Job.{Job}
use Rattle.mc_calls.specs.declared.waiting.Failure.{Failure}
use Rattle.mc_calls.specs.declared.waiting.Switch.{Switch}
use Rattle.mc_calls.specs.Asking.{Asks}
use Rattle.mc_calls.specs.Film.{StandsFor}
use Rattle.mc_calls.specs.Marks.{AreAmong, marks_of}
use Rattle.mc_calls.specs.Outcomes.{Fails}
use Rattle.mc_calls.specs.Readings.{Reads, ReadsWith, record_of}
use Rattle.mc_calls.specs.Seeking.{Seeks}
use Rattle.mc_calls.specs.Selecting.{Selects}
use Rattle.mc_calls.specs.State.{DemuxState}
use Rattle.mc_calls.specs.Viewing.{Shows}
use Rattle.mc_jobs.specs.Driving.{StandTogether}
use Rattle.mc_filmed.specs.Films.{film_for}
use Rattle.mc_jobs.proofs.Chosen.{lead-listed}
use Rattle.mc_jobs.proofs.Standing.{among-kept, own-marks, set-known}

-- ---- what led at the last selection

seeks-switch : (by : ℕ) (t : ℤ) (dir : Dir) (old : DemuxState) (result : Result How DemuxError) (new : DemuxState) → Seeks by t dir old result new → new.switch ≡ old.switch
seeks-switch by t dir old (Ok how) new h = ap (λ (d : DemuxState). d.switch) h.3.changed
seeks-switch by t dir old (Err (Refused why)) new h = ap (λ (d : DemuxState). d.switch) h.3.changed
seeks-switch by t dir old (Err JournalFull) new h = ap (λ (d : DemuxState). d.switch) h.1
seeks-switch by t dir old (Err NoMemory) new h = ap (λ (d : DemuxState). d.switch) h.1.changed

with-switch : (by track : ℕ) (reading : Reading) (own : Option DemuxRecord) (old new : DemuxState) → ReadsWith by track reading own old new → new.switch ≡ old.switch
with-switch by track reading None old new h = ap (λ (d : DemuxState). d.switch) h
with-switch by track reading (Some own) old new h = ap (λ (d : DemuxState). d.switch) h.changed

reads-switch : (by track : ℕ) (old : DemuxState) (result : Result Reading DemuxError) (new : DemuxState) → Reads by track old result new → new.switch ≡ old.switch
reads-switch by track old (Ok reading) new h = with-switch by track reading (record_of by track reading) old new h.2
reads-switch by track old (Err (Refused why)) new h = absurd h
reads-switch by track old (Err JournalFull) new h = ap (λ (d : DemuxState). d.switch) h.1
reads-switch by track old (Err NoMemory) new h = ap (λ (d : DemuxState). d.switch) h.1.changed

shows-switch : (by : ℕ) (old : DemuxState) (result : Result CacheView DemuxError) (new : DemuxState) → Shows by old result new → new.switch ≡ old.switch
shows-switch by old (Ok view) new h = ap (λ (d : DemuxState). d.switch) h.2.changed
shows-switch by old (Err (Refused why)) new h = absurd h
shows-switch by old (Err JournalFull) new h = ap (λ (d : DemuxState). d.switch) h.1
shows-switch by old (Err NoMemory) new h = ap (λ (d : DemuxState). d.switch) h.1.changed

-- ---- the whole

pub same-stands : (octets : List ℕ) (old new : DemuxState) (c : Cursor) (x : Index) → StandTogether octets old c x → StandsFor (film_for (plan_for octets c)) new
    → AreAmong (marks_of old.cache) new.cache → new.switch ≡ old.switch → StandTogether octets new c x
same-stands octets old new c x s film among switch =
    record {
      demux_is = film;
      cursor_is = s.cursor_is;
      index_is = s.index_is;
      marks = among-kept (IsMark (plan_for octets c)) old new s.marks among;
      lead = subst (λ (w : Switch). passes w.lead (is_listed (knows c.tracks)) ≡ true) (sym switch) s.lead;
    }

pub seek-stands : (octets : List ℕ) (old new : DemuxState) (c : Cursor) (x : Index) (by : ℕ) (t : ℤ) (dir : Dir) (result : Result How DemuxError) → StandTogether octets old c x
    → StandsFor (film_for (plan_for octets c)) new → AreAmong (marks_of old.cache) new.cache → Seeks by t dir old result new → StandTogether octets new c x
seek-stands octets old new c x by t dir result s film among h = same-stands octets old new c x s film among (seeks-switch by t dir old result new h)

pub read-stands : (octets : List ℕ) (old new : DemuxState) (c : Cursor) (x : Index) (by track : ℕ) (result : Result Reading DemuxError) → StandTogether octets old c x
    → StandsFor (film_for (plan_for octets c)) new → AreAmong (marks_of old.cache) new.cache → Reads by track old result new → StandTogether octets new c x
read-stands octets old new c x by track result s film among h = same-stands octets old new c x s film among (reads-switch by track old result new h)

fails-switch : (n : ℕ) (failure : Failure) (own : DemuxRecord) (old : DemuxState) (taken : Taken) (new : DemuxState) → Fails n failure own old taken new → new.switch ≡ old.switch
fails-switch n failure own old WasTaken new h = ap (λ (d : DemuxState). d.switch) h.1
fails-switch n failure own old (Stale asked now) new h = ap (λ (d : DemuxState). d.switch) h.same

pub fails-stands : (octets : List ℕ) (old new : DemuxState) (c : Cursor) (x : Index) (n : ℕ) (failure : Failure) (own : DemuxRecord) (taken : Taken) → StandTogether octets old c x
    → StandsFor (film_for (plan_for octets c)) new → AreAmong (marks_of old.cache) new.cache → Fails n failure own old taken new → StandTogether octets new c x
fails-stands octets old new c x n failure own taken s film among h = same-stands octets old new c x s film among (fails-switch n failure own old taken new h)

own-again : (old new : CacheState) → new ≡ old → AreAmong (marks_of old) new
own-again old new e = subst (AreAmong (marks_of old)) (sym e) (own-marks (ranges_of old))

-- ---- marks where a cache has more room alone

room-by : (o n : Option RangeState) (os ns : List RangeState) → RoomierIn o n → ns ≡ os
    → AllByRecursion (λ (r : RangeState). Contains (map (λ (q : RangeState). q.mark) (in_front o os)) r.mark) (in_front n ns)
room-by None n os ns room e =
    subst (λ m. AllByRecursion (λ (r : RangeState). Contains (map (λ (q : RangeState). q.mark) os) r.mark) (in_front m ns)) (sym room)
    (subst (λ rs. AllByRecursion (λ (r : RangeState). Contains (map (λ (q : RangeState). q.mark) os) r.mark) rs) (sym e) (own-marks os))
room-by (Some r) None os ns room e = absurd room
room-by (Some r) (Some q) os ns room e =
    let marks = map (λ (p : RangeState). p.mark) (r ∷ os) in
    let own = own-marks (r ∷ os) in
    (subst (Contains marks) (sym room.mark_is) own.0, subst (λ rs. AllByRecursion (λ (p : RangeState). Contains marks p.mark) rs) (sym e) own.1)

room-among : (old new : CacheState) → IsSameButRoom old new → AreAmong (marks_of old) new
room-among old new h = room-by old.current new.current old.others new.others h.current h.others_is

-- ---- a look

shows-among : (by : ℕ) (old : DemuxState) (result : Result CacheView DemuxError) (new : DemuxState) → Shows by old result new → AreAmong (marks_of old.cache) new.cache
shows-among by old (Ok view) new h = own-again old.cache new.cache h.2.cache_is
shows-among by old (Err (Refused why)) new h = absurd h
shows-among by old (Err JournalFull) new h = own-again old.cache new.cache (ap (λ (d : DemuxState). d.cache) h.1)
shows-among by old (Err NoMemory) new h = room-among old.cache new.cache h.1.cache_is

pub show-stands : (octets : List ℕ) (old new : DemuxState) (c : Cursor) (x : Index) (by : ℕ) (result : Result CacheView DemuxError) → StandTogether octets old c x
    → StandsFor (film_for (plan_for octets c)) new → Shows by old result new → StandTogether octets new c x
show-stands octets old new c x by result s film h = same-stands octets old new c x s film (shows-among by old result new h) (shows-switch by old result new h)

-- ---- asking for a job

asks-switch : (old : DemuxState) (result : Result Job DemuxError) (new : DemuxState) → Asks old result new → new.switch ≡ old.switch
asks-switch old (Ok job) new h = ap (λ (d : DemuxState). d.switch) h.2.changed
asks-switch old (Err (Refused why)) new h = absurd h
asks-switch old (Err JournalFull) new h = ap (λ (d : DemuxState). d.switch) h.1
asks-switch old (Err NoMemory) new h = ap (λ (d : DemuxState). d.switch) h.1.changed

asks-among : (old : DemuxState) (result : Result Job DemuxError) (new : DemuxState) → Asks old result new → AreAmong (marks_of old.cache) new.cache
asks-among old (Ok job) new h = own-again old.cache new.cache (ap (λ (d : DemuxState). d.cache) h.2.changed)
asks-among old (Err (Refused why)) new h = absurd h
asks-among old (Err JournalFull) new h = own-again old.cache new.cache (ap (λ (d : DemuxState). d.cache) h.1)
asks-among old (Err NoMemory) new h = room-among old.cache new.cache h.1.cache_is

pub ask-stands : (octets : List ℕ) (old new : DemuxState) (c : Cursor) (x : Index) (result : Result Job DemuxError) → StandTogether octets old c x
    → StandsFor (film_for (plan_for octets c)) new → Asks old result new → StandTogether octets new c x
ask-stands octets old new c x result s film h = same-stands octets old new c x s film (asks-among old result new h) (asks-switch old result new h)

-- ---- a selection

abbrev LeadsIn : Cursor → DemuxState → Type 0
LeadsIn c d = passes d.switch.lead (is_listed (knows c.tracks)) ≡ true

leads-same : (c : Cursor) (old new : DemuxState) → new.switch ≡ old.switch → LeadsIn c old → LeadsIn c new
leads-same c old new e h = subst (λ (w : Switch). passes w.lead (is_listed (knows c.tracks)) ≡ true) (sym e) h

select-leads : (octets : List ℕ) (old new : DemuxState) (c : Cursor) (by : ℕ) (numbers : List ℕ) (at : ℤ) (result : Result Selected DemuxError) → LeadsIn c old
    → StandsFor (film_for (plan_for octets c)) new → Selects by numbers at old result new → LeadsIn c new
select-leads octets old new c by numbers at (Ok Same) s film h = leads-same c old new (ap (λ (d : DemuxState). d.switch) h.3) s
select-leads octets old new c by numbers at (Ok Changed) s film h =
    let e : new.switch.lead ≡ lead_of new.set = ap (λ (d : DemuxState). d.switch.lead) h.3.changed ∙ sym (ap (λ (d : DemuxState). lead_of d.set) h.3.changed) in
    subst (λ lead. passes lead (is_listed (knows c.tracks)) ≡ true) (sym e) (lead-listed (knows c.tracks) new.set (set-known (plan_for octets c) new film))
select-leads octets old new c by numbers at (Err (Refused why)) s film h = leads-same c old new (ap (λ (d : DemuxState). d.switch) h.2.changed) s
select-leads octets old new c by numbers at (Err JournalFull) s film h = leads-same c old new (ap (λ (d : DemuxState). d.switch) h.1) s
select-leads octets old new c by numbers at (Err NoMemory) s film h = leads-same c old new (ap (λ (d : DemuxState). d.switch) h.1.changed) s

pub select-stands : (octets : List ℕ) (old new : DemuxState) (c : Cursor) (x : Index) (by : ℕ) (numbers : List ℕ) (at : ℤ) (result : Result Selected DemuxError) → StandTogether octets old c x
    → StandsFor (film_for (plan_for octets c)) new → AreAmong (marks_of old.cache) new.cache → Selects by numbers at old result new → StandTogether octets new c x
select-stands octets old new c x by numbers at result s film among h =
    record {
      demux_is = film;
      cursor_is = s.cursor_is;
      index_is = s.index_is;
      marks = among-kept (IsMark (plan_for octets c)) old new s.marks among;
      lead = select-leads octets old new c by numbers at result s.lead film h;
    }
