-- What a demuxer shows of itself to those who call it.
use Rattle.std.specs.Prelude.{ℤ, Bool, true, false, if◌then◌else◌, List, Option, None, ⊤}
use Rattle.std.specs.Option.{option_map}
use Rattle.mc_packet.specs.declared.choice.Dir.{Dir}
use Rattle.mc_journal.specs.declared.record.DemuxRecord.{DemuxRecord}
use Rattle.mc_journal.specs.declared.record.DemuxRecord.TheVariants.{Ended, Overfull, Faulted, Wanting}
use Rattle.mc_journal.specs.Readings.{pending, target, direction}
use Rattle.mc_calls.specs.declared.answer.Peek.{Peek}
use Rattle.mc_calls.specs.declared.answer.Peek.TheVariants.{Finish}
use Rattle.mc_calls.specs.declared.job.Job.{Job}
use Rattle.mc_calls.specs.declared.job.Job.TheVariants.{Idle}
use Rattle.mc_calls.specs.declared.waiting.Target.{Target}

-- an end, a fault or want of memory would be told
abbrev pub is_finish : Peek → Bool
is_finish Finish = true
is_finish _ = false

-- nothing is to be done
abbrev pub is_idle_job : Job → Bool
is_idle_job Idle = true
is_idle_job _ = false

-- the record of an answer to a reader that gives no packet
abbrev pub GivesNone : DemuxRecord → Type 0
GivesNone (Ended by track ending) = ⊤
GivesNone (Overfull by track forward max) = ⊤
GivesNone (Faulted by track before after) = ⊤
GivesNone (Wanting by track) = ⊤
GivesNone _ = ⊥

-- the time that a seek goes to, and its direction
abbrev pub goal_of : Target → ℤ × Dir
goal_of s = (s.t, s.dir)

-- those of the seek that a journal, newest record first, leaves pending
abbrev pub pending_goal : List DemuxRecord → Option (ℤ × Dir)
pending_goal h = if pending h then option_map {U = ℤ × Dir} (λ t. (t, direction h)) (target h) else None
