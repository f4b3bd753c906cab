-- The text of a journal: one line for each record, the oldest first.
use Rattle.std.specs.Prelude.{ℕ, ℤ, Bool, if◌then◌else◌, List, [], ◌∷◌, ◌++◌, codes, decimal}
use Rattle.std.specs.Fmt.{signed_decimal}
use Rattle.mc_packet.specs.declared.walk.Ending.{Ending}
use Rattle.mc_packet.specs.declared.walk.Ending.TheVariants.{Clean, Cut, Damaged}
use Rattle.mc_packet.specs.declared.walk.Fault.{Fault}
use Rattle.mc_packet.specs.declared.walk.Fault.TheVariants as faults
use Rattle.mc_packet.specs.declared.packet.Pos.{Pos}
use Rattle.mc_packet.specs.declared.choice.Choice.{Choice}
use Rattle.mc_journal.specs.declared.record.DemuxRecord.{DemuxRecord}
use Rattle.mc_journal.specs.declared.record.DemuxRecord.TheVariants.{Opened, Sought, Switched, Found, Fed, Failed, Starved, Dropped, Joined, Gave, Ended, Overfull, Faulted, Wanting, Shown, Refused}
use Rattle.mc_packet.specs.Choices.{nothing}
use Rattle.mc_script.specs.Text.{joined}
use Rattle.mc_script.specs.CacheText.{answer_text, seek_text, switch_text, drop_text, overfull_text, view_text, refused_text}

-- a frame that starts decoding, another one of a keyframe block, or any other
abbrev pub mark_text : Bool → Bool → List ℕ
mark_text sync key = if sync then codes "sync" else (if key then codes "key" else codes "inter")

abbrev pub fault_text : Fault → List ℕ
fault_text faults.BadId = codes "BadId"
fault_text faults.BadSize = codes "BadSize"
fault_text faults.NoSize = codes "NoSize"
fault_text faults.Overrun = codes "Overrun"
fault_text faults.TooLarge = codes "TooLarge"
fault_text faults.BadUint = codes "BadUint"
fault_text faults.NoTime = codes "NoTime"
fault_text faults.ShortBlock = codes "ShortBlock"
fault_text faults.BadLace = codes "BadLace"
fault_text faults.TimeRange = codes "TimeRange"
fault_text faults.BadGroup = codes "BadGroup"

abbrev pub ending_text : Ending → List ℕ
ending_text Clean = codes "clean\n"
ending_text (Cut at) = joined (codes "cut " ∷ decimal at ∷ codes "\n" ∷ [])
ending_text (Damaged at fault) = joined (codes "damaged " ∷ decimal at ∷ codes " " ∷ fault_text fault ∷ codes "\n" ∷ [])

-- which frame of which track, and when
abbrev pub place_text : ℕ → Pos → ℤ → List ℕ
place_text track pos time =
    joined (codes "give " ∷ decimal track ∷ codes " at " ∷ decimal pos.block ∷ codes "." ∷ decimal pos.lane ∷ codes " time " ∷ signed_decimal time ∷ [])

-- its payload and its mark
abbrev pub payload_text : ℕ → ℕ → List ℕ → List ℕ
payload_text len sum mark = joined (codes " len " ∷ decimal len ∷ codes " sum " ∷ decimal sum ∷ codes " " ∷ mark ∷ codes "\n" ∷ [])

abbrev pub track_end_text : ℕ → List ℕ
track_end_text track = joined (codes "end " ∷ decimal track ∷ codes " " ∷ [])

abbrev pub failed_text : ℕ → ℕ → List ℕ
failed_text before after = joined (codes "failed " ∷ decimal before ∷ codes " " ∷ decimal after ∷ codes "\n" ∷ [])

abbrev pub fault_line : ℕ → ℕ → ℕ → List ℕ
fault_line track before after = joined (codes "fault " ∷ decimal track ∷ codes " " ∷ decimal before ∷ codes " " ∷ decimal after ∷ codes "\n" ∷ [])

abbrev pub wanting_text : ℕ → List ℕ
wanting_text track = joined (codes "wanting " ∷ decimal track ∷ codes "\n" ∷ [])

-- the selected tracks behind a record, of those before it
abbrev pub set_after : Choice → DemuxRecord → Choice
set_after set (Opened by chosen) = chosen
set_after set (Sought by chosen t dir how) = chosen
set_after set (Switched by chosen added t) = chosen
set_after set _ = set

-- the lines of a record, or nothing, where these tracks are selected
abbrev pub line : Choice → DemuxRecord → List ℕ
line set (Opened by chosen) = []
line set (Sought by chosen t dir how) = seek_text t (answer_text dir how)
line set (Switched by chosen added t) = switch_text chosen t
line set (Found by starts) = []
line set (Fed by from to took ending) = []
line set (Dropped by removal) = drop_text removal.track removal.from removal.to removal.cause
line set (Joined by) = codes "join\n"
line set (Gave by track pos time len sum sync key) = place_text track pos time ++ payload_text len sum (mark_text sync key)
line set (Ended by track ending) = track_end_text track ++ ending_text ending
line set (Failed by before after) = failed_text before after
line set (Starved by) = codes "starved\n"
line set (Overfull by track forward max) = overfull_text track forward max
line set (Faulted by track before after) = fault_line track before after
line set (Wanting by track) = wanting_text track
line set (Shown by view) = view_text set view
line set (Refused by why) = refused_text why

-- the lines of records behind which these tracks were selected
abbrev pub lines_from : Choice → List DemuxRecord → List ℕ
lines_from set [] = []
lines_from set (r ∷ rs) = line set r ++ lines_from (set_after set r) rs

-- the selected tracks behind some records, of those before them
abbrev pub set_behind : Choice → List DemuxRecord → Choice
set_behind set [] = set
set_behind set (r ∷ rs) = set_behind (set_after set r) rs

abbrev pub transcript : List DemuxRecord → List ℕ
transcript h = lines_from nothing h
