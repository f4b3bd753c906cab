-- The steps of a world: when each may come, and what it leaves.
use Rattle.std.specs.Prelude.{◌≡◌, ℕ, ◌⊎◌, List, Option, Some, None, Result, Ok, Err, IsSomeAnd, reverse, ⊤}
use Rattle.mc_packet.specs.Choices.{track_of}
use Rattle.mc_packet.specs.declared.cache.CacheView.{CacheView}
use Rattle.mc_packet.specs.declared.choice.Choice.{Choice}
use Rattle.mc_packet.specs.declared.choice.Why.TheVariants.{NoTrack}
use Rattle.mc_packet.specs.declared.walk.Mark.{Mark}
use Rattle.mc_tracks.specs.Selection.{numbers_of}
use Rattle.mc_journal.specs.declared.record.Sought.{Sought}
use Rattle.mc_journal.specs.Films.{Film}
use Rattle.mc_journal.specs.Views.{view}
use Rattle.mc_calls.specs.declared.answer.DemuxError.{DemuxError}
use Rattle.mc_calls.specs.declared.answer.DemuxError.TheVariants.{Refused}
use Rattle.mc_calls.specs.declared.answer.Reading.TheVariants.{Unselected}
use Rattle.mc_calls.specs.declared.answer.Selected.{Selected}
use Rattle.mc_calls.specs.declared.answer.Taken.{Taken}
use Rattle.mc_calls.specs.declared.job.Job.{Job}
use Rattle.mc_calls.specs.Asking.{Asks}
use Rattle.mc_calls.specs.Demuxers.{IsDemux}
use Rattle.mc_calls.specs.Film.{StandsFor}
use Rattle.mc_calls.specs.Marks.{AreAmong, marks_of}
use Rattle.mc_calls.specs.Jobs.{kept_job}
use Rattle.mc_calls.specs.Readings.{Reads}
use Rattle.mc_calls.specs.Seeking.{Seeks}
use Rattle.mc_calls.specs.Selecting.{Selects}
use Rattle.mc_calls.specs.State.{DemuxState}
use Rattle.mc_calls.specs.Viewing.{Shows, view_of}
use Rattle.mc_jobs.specs.declared.brought.Brought.{Brought}
use Rattle.mc_jobs.specs.Doing.{number_of}
use Rattle.mc_jobs.specs.Working.{Brings, Takes, marks_in}
use Rattle.mc_jobs.specs.Working as jobs
use Rattle.mc_core.specs.declared.core_error.CoreError.{CoreError}
use Rattle.mc_player.specs.declared.record.Order.{Order}
use Rattle.mc_player.specs.declared.record.Order.TheVariants as order
use Rattle.mc_player.specs.declared.record.Outcome.{Outcome}
use Rattle.mc_player.specs.declared.record.Outcome.TheVariants as outcome
use Rattle.mc_player.specs.Orders.{opened}
use Rattle.mc_props.specs.declared.facts.Facts.{Facts}
use Rattle.mc_props.specs.declared.reading.Reading.{Reading}
use Rattle.mc_world.specs.declared.moves.Reply.{Reply}
use Rattle.mc_world.specs.declared.moves.Reply.TheVariants as reply
use Rattle.mc_world.specs.declared.moves.Step.{Step}
use Rattle.mc_world.specs.declared.moves.Step.TheVariants as step
use Rattle.mc_world.specs.declared.moves.WorldError.{WorldError}
use Rattle.mc_world.specs.declared.moves.WorldError.TheVariants as world
use Rattle.mc_world.specs.Calls.{Calls, Creates, Demuxes, Destroys, DoesWork, Ends, Learns, Plays, told_as}
use Rattle.mc_world.specs.Errors.{core_error, demux_error}
use Rattle.mc_world.specs.World.{WorldView, opening}

-- ---- when a step may come

-- the fact holds of the number of the job that is out
abbrev pub OnJob : WorldView → (ℕ → Type 0) → Type 0
OnJob w fact = IsSomeAnd w.job (λ job. IsSomeAnd (number_of job) fact)

-- a job is taken where none is out, and what is brought is an outcome of the one that is out; the core works
-- where no order is out, and an order is carried once and then done
abbrev pub May : WorldView → Step → Type 0
May w (step.Take by) = w.job ≡ None
May w (step.Bring by what) = OnJob w (λ n. Brings n what w.demux)
May w (step.Work by) = w.order ≡ None
May w (step.Carry by) = IsSomeAnd w.order (λ o. ⊤) × (w.carried ≡ None)
May w (step.Done by) = IsSomeAnd w.carried (λ x. ⊤)
May w s = ⊤

-- what is brought is of the film
abbrev pub IsOfFilm : Film → WorldView → Step → Type 0
IsOfFilm film w (step.Bring by what) = OnJob w (λ n. jobs.IsOfFilm film n what w.demux)
IsOfFilm film w s = ⊤

-- the marks from which ranges may be read on: with that which is brought, if any
abbrev pub marks_by : Step → List Mark → List Mark
marks_by (step.Bring by what) marks = marks_in what marks
marks_by s marks = marks

-- ---- what a step leaves

-- for want of memory nothing changed
abbrev pub Wants : WorldView → Result Reply WorldError → WorldView → Type 0
Wants old r new = (r ≡ Err world.NoMemory) × (new ≡ old)

-- a demuxer is as it was
pub record IsSame (old new : DemuxState) : Type 0 where
  pub same : new ≡ old
  pub marks : AreAmong (marks_of old.cache) new.cache
  pub demux : IsDemux new

-- the job that is out, behind a demand for one
abbrev pub job_after : Result Job DemuxError → Option Job
job_after (Ok job) = kept_job job
job_after (Err e) = None

abbrev pub TakesJob : WorldView → Result Reply WorldError → WorldView → Type 0
TakesJob old r new = (answer : Result Job DemuxError) × Asks old.demux answer new.demux
    × (r ≡ told_as reply.Take demux_error answer)
    × (new ≡ record old { demux = new.demux; job = job_after answer })

-- an outcome that was brought ends the job, a refusal leaves it out
abbrev pub job_left : Option Job → Result Taken DemuxError → Option Job
job_left job (Ok x) = None
job_left job (Err e) = job

abbrev pub BringsJob : Brought → ℕ → WorldView → Result Reply WorldError → WorldView → Type 0
BringsJob what n old r new = (answer : Result Taken DemuxError) × Takes n what old.demux answer new.demux
    × (r ≡ told_as reply.Bring demux_error answer)
    × (new ≡ record old { demux = new.demux; job = job_left old.job answer })

-- a read of the selected track of a kind; where none is selected nothing changes
abbrev pub ReadsTrack : ℕ → Option ℕ → WorldView → Result Reply WorldError → WorldView → Type 0
ReadsTrack by None old r new = (r ≡ Ok (reply.Read Unselected)) × (new ≡ old)
ReadsTrack by (Some k) old r new = Demuxes (Reads by k) reply.Read old r new

-- what the demuxer's cache tells, by the demuxer, and by its film and its journal
pub record IsView (d : DemuxState) (v : CacheView) : Type 0 where
  pub told : v ≡ view_of d
  pub film : (film : Film) → StandsFor film d → v ≡ view film.packets (reverse d.journal)

abbrev pub LearnsView : ℕ → WorldView → Result Reply WorldError → WorldView → Type 0
LearnsView by old r new = Wants old r new
    ⊎ ((v : CacheView) × IsView old.demux v × Plays (Learns by v) (λ u. reply.Learn) old r new)

-- the outcome of a seek that was carried: one that is refused since no track is selected is an outcome too
abbrev pub seek_outcome : Result Sought DemuxError → Result Outcome DemuxError
seek_outcome (Ok how) = Ok outcome.Sought
seek_outcome (Err (Refused NoTrack)) = Ok (outcome.Refused NoTrack)
seek_outcome (Err e) = Err e

abbrev pub select_outcome : Choice → Result Selected DemuxError → Result Outcome DemuxError
select_outcome set (Ok x) = Ok (outcome.Selected set)
select_outcome set (Err e) = Err e

-- the outcome is carried from now on
abbrev pub carried_after : Result Outcome DemuxError → Option Outcome
carried_after (Ok x) = Some x
carried_after (Err e) = None

abbrev pub IsCarried : Result Outcome DemuxError → WorldView → Result Reply WorldError → WorldView → Type 0
IsCarried x old r new = (r ≡ told_as reply.Carry demux_error x)
    × (new ≡ record old { demux = new.demux; carried = carried_after x })

-- what is loaded is known, and a seek or a selection is a call of the demuxer
abbrev pub Carries : ℕ → Order → WorldView → Result Reply WorldError → WorldView → Type 0
Carries by order.Load old r new = Wants old r new
    ⊎ ((r ≡ Ok (reply.Carry (opened (opening old)))) × (new ≡ record old { carried = Some (opened (opening old)) }))
Carries by (order.Seek t dir) old r new = (answer : Result Sought DemuxError)
    × Seeks by t dir old.demux answer new.demux × IsCarried (seek_outcome answer) old r new
Carries by (order.Select set at) old r new = (answer : Result Selected DemuxError)
    × Selects by (numbers_of set) at old.demux answer new.demux × IsCarried (select_outcome set answer) old r new
Carries by o old r new = ⊥

-- an order is done, and nothing is out any more; a refusal leaves both
abbrev pub done_after : Result Unit CoreError → WorldView → WorldView
done_after (Ok u) w = record w { order = None; carried = None }
done_after (Err e) w = w

abbrev pub Does : ℕ → Outcome → WorldView → Result Reply WorldError → WorldView → Type 0
Does by x old r new = (answer : Result Unit CoreError) × Ends by x old.core answer new.core
    × (r ≡ told_as (λ u. reply.Done) core_error answer) × (new ≡ done_after answer (record old { core = new.core }))

abbrev pub IsDone : ℕ → Outcome → WorldView → Result Reply WorldError → WorldView → Type 0
IsDone by x old r new = Wants old r new ⊎ Does by x old r new

-- ---- all steps

abbrev pub Stepped : (ℕ → Facts → Reading) → Step → WorldView → Result Reply WorldError → WorldView → Type 0
Stepped value (step.Seek by t dir) old r new = Demuxes (Seeks by t dir) reply.Seek old r new
Stepped value (step.Switch by set at) old r new = Demuxes (Selects by set at) reply.Switch old r new
Stepped value (step.Show by) old r new = Demuxes (Shows by) reply.Show old r new
Stepped value (step.Take by) old r new = TakesJob old r new
Stepped value (step.Bring by what) old r new = OnJob old (λ n. BringsJob what n old r new)
Stepped value (step.Read by kind) old r new = ReadsTrack by (track_of old.demux.set kind) old r new
Stepped value (step.Learn by) old r new = LearnsView by old r new
Stepped value (step.Work by) old r new = Plays (DoesWork value by) reply.Work old r new
Stepped value (step.Carry by) old r new = IsSomeAnd old.order (λ o. Carries by o old r new)
Stepped value (step.Done by) old r new = IsSomeAnd old.carried (λ x. IsDone by x old r new)
Stepped value (step.Create by name size) old r new = Plays (Creates by name size) reply.Create old r new
Stepped value (step.Destroy by c) old r new = Plays (Destroys value by c) (λ u. reply.Destroy) old r new
Stepped value (step.Call by c call) old r new = Plays (Calls value by c call) reply.Call old r new
