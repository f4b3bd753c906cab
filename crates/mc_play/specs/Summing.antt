-- What is counted in a journal: the packets that were given.
use Rattle.std.specs.Prelude.{◌≡◌, ℕ, ◌+◌, ◌-◌, ◌^◌, min, false, List, [], ◌∷◌, length, map, sum_by, Result, Ok}
use Rattle.std.specs.Int.{int_max}
use Rattle.std.specs.List.{flat_map, list_any}
use Rattle.mc_packet.specs.declared.cache.Limits.{Limits}
use Rattle.mc_walk.specs.declared.plan.Plan.{Plan}
use Rattle.mc_walk.specs.Opening.{opened_film}
use Rattle.mc_gen.specs.declared.summary.Sums.{Sums}
use Rattle.mc_gen.specs.Summary.{last_of}
use Rattle.mc_journal.specs.declared.record.DemuxRecord.{DemuxRecord}
use Rattle.mc_journal.specs.declared.record.DemuxRecord.TheVariants.{Gave}
use Rattle.mc_journal.specs.Told.{Told}
use Rattle.mc_lines.specs.declared.halt.Halt.{Halt}
use Rattle.mc_play.specs.Asked.{drain_alone}
use Rattle.mc_play.specs.Run.{Plays, is_failed}

-- the packet that a record tells of
abbrev pub told_of : DemuxRecord → List Told
told_of (Gave by track pos time len sum sync key) = record { track = track; pos = pos; time = time; len = len; sum = sum; sync = sync; key = key } ∷ []
told_of _ = []

-- those that readers were given, in order
abbrev pub all_given : List DemuxRecord → List Told
all_given hd = flat_map told_of hd

-- as far as 64 bits count
abbrev pub counted : ℕ → ℕ
counted n = min n (2 ^ 64 - 1)

abbrev pub sums_told : List Told → Sums
sums_told ts = record {
  packets = counted (length ts);
  octets = counted (sum_by (λ (t : Told). t.len) ts);
  last = last_of (map (λ (t : Told). t.time) ts);
}

-- their number, the length of their payloads together, and the last of their times
unfoldable pub sums_in : List DemuxRecord → Sums
sums_in hd = sums_told (all_given hd)

-- what is counted with one record more
abbrev pub sums_with : Sums → DemuxRecord → Sums
sums_with s (Gave by track pos time len sum sync key) =
    record { packets = counted (s.packets + 1); octets = counted (s.octets + len); last = int_max s.last time }
sums_with s _ = s

-- ---- reading a film in memory to its end

-- it was played over the film that its octets are, and no read failed
pub record Drained (octets : List ℕ) (halt : Result Unit Halt) (hd : List DemuxRecord) : Type 0 where
  pub plan : Plan
  pub opened : opened_film octets ≡ Ok plan
  pub limits : Limits
  pub plays : Plays plan limits drain_alone halt hd
  pub unfailed : list_any is_failed hd ≡ false
