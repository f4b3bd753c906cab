-- What a driver would answer next, by its demuxer.
use Rattle.std.specs.Prelude.{◌≡◌, ℕ, Bool, true, ◌&&◌, List, reverse, pos, unwrap_or}
use Rattle.std.specs.Option.{option_map}
use Rattle.mc_packet.specs.declared.packet.Packet.{Packet}
use Rattle.mc_packet.specs.Choices.{has, lead_of}
use Rattle.mc_journal.specs.Films.{rank}
use Rattle.mc_journal.specs.Views.{time_of}
use Rattle.mc_cursor.specs.Standing.{plan_for}
use Rattle.mc_calls.specs.Demuxers.{IsDemux}
use Rattle.mc_calls.specs.Jobs.{job_of}
use Rattle.mc_calls.specs.Readings.{peek_at, reading_of}
use Rattle.mc_calls.specs.Shows.{goal_of, is_finish, is_idle_job}
use Rattle.mc_calls.specs.State.{DemuxState, next_in}
use Rattle.mc_journal.specs.Drives.{Readings, readings}
use Rattle.mc_lines.specs.Calls.{Ahead, AtRest, Fixed, Jobs, at}
use Rattle.mc_jobs.specs.declared.driver.Driver.{Driver}
use Rattle.mc_jobs.specs.Driving.{Drives}
use Rattle.mc_filmed.specs.Films.{choice_for, film_for}

abbrev pub place_of : Packet → ℕ
place_of p = rank p.pos

-- a read of a selected track would tell its end or a failure
abbrev pub would_tell : DemuxState → ℕ → Bool
would_tell d track = has d.set track && is_finish (peek_at (reading_of track d))

abbrev pub ahead_of : DemuxState → Ahead
ahead_of d = record {
  set = d.set;
  front = λ track. option_map place_of (next_in d.set d.heads track d.cache.current);
  tells = λ track. would_tell d track;
  idle = is_idle_job (job_of d);
  time = unwrap_or (time_of (lead_of d.set) (reverse d.journal)) (pos 0);
  choice = choice_for d.list;
  pending = option_map goal_of d.seeking;
}

abbrev pub jobs_of : DemuxState → Jobs
jobs_of d = record { number = d.number; kept = d.kept }

abbrev pub fixed_of : Driver → Fixed
fixed_of d = record { file = d.cursor.file.0; limits = d.demux.cache.limits }

-- all of it stands for the film of these octets, whose readings these are
pub record Stands (d : Driver) (octets : List ℕ) (rd : Readings) : Type 0 where
  pub drives : Drives octets d
  pub demux : IsDemux d.demux
  pub readings_are : rd ≡ readings (film_for (plan_for octets d.cursor)) d.demux.cache.limits (choice_for d.demux.list)
  -- so it answers next what its journal says, and at rest all that is cached can be read to the end
  pub shows : ahead_of d.demux ≡ at rd d.demux.journal
  pub rests : (ahead_of d.demux).idle ≡ true → AtRest rd d.demux.journal
