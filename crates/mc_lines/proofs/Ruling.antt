-- The laws of a driver as a machine.
use Rattle.std.proofs.Common.{◌≡◌, ℕ, List, refl, sym, subst}
use Rattle.mc_cursor.specs.Standing.{plan_for}
use Rattle.mc_calls.proofs.Idling.{idle_is}
use Rattle.mc_calls.proofs.Laws.{stands_ended}
use Rattle.mc_calls.proofs.Resting.{rests as demux_rests}
use Rattle.mc_calls.specs.Demuxers.{IsDemux}
use Rattle.mc_calls.specs.Jobs.{job_of}
use Rattle.mc_journal.specs.Drives.{Readings, readings}
use Rattle.mc_lines.specs.Calls.{AtRest, at}
use Rattle.mc_jobs.specs.declared.driver.Driver.{Driver}
use Rattle.mc_filmed.specs.Films.{film_for, choice_for}
use Rattle.mc_jobs.specs.Driving.{Drives}
use Rattle.mc_lines.specs.Machines.{Stands, ahead_of, fixed_of}
use Rattle.mc_lines.proofs.Rested.{idle_is_idle, rests}
use Rattle.mc_lines.proofs.Shown.{shown}
use Rattle.mc_lines.proofs.Staying.{Stays, still_readings}

-- what it stands for, and that it answers as its journal says
pub stands_for : (d : Driver) (octets : List ℕ) (rd : Readings) → Drives octets d → IsDemux d.demux → rd ≡ readings (film_for (plan_for octets d.cursor)) d.demux.cache.limits (choice_for d.demux.list) → Stands d octets rd
stands_for d octets rd drives is e =
    let film = film_for (plan_for octets d.cursor) in
    let m = d.demux in
    let s = drives.demux_is in
    record {
      drives = drives;
      demux = is;
      readings_are = e;
      shows = subst (λ (x : Readings). ahead_of m ≡ at x m.journal) (sym e) (shown film m is s);
      rests = λ idle. subst (λ (x : Readings). AtRest x m.journal) (sym e)
          (rests film m s (record { ended = λ k h. stands_ended film m k s h; told = λ none k h. demux_rests m k is (idle_is_idle (job_of m) idle) none h }) (ahead_of m).idle (idle_is film m is s) idle);
    }

-- ---- what is kept

-- a driver whose demuxer keeps its tracks and its limits, and whose cursor keeps its film, stands for the same readings
pub stands_on : (old new : Driver) (octets : List ℕ) (rd : Readings) → plan_for octets new.cursor ≡ plan_for octets old.cursor → Stays old.demux new.demux → IsDemux new.demux → Drives octets new → Stands old octets rd
    → Stands new octets rd
stands_on old new octets rd plan stays demux drives s =
    stands_for new octets rd drives demux (still_readings rd (plan_for octets old.cursor) (plan_for octets new.cursor) old.demux new.demux plan stays s.readings_are)

pub fixed_on : (old new : Driver) → new.cursor.file.0 ≡ old.cursor.file.0 → Stays old.demux new.demux → fixed_of new ≡ fixed_of old
fixed_on old new file stays = rw (file, stays.limits) refl
