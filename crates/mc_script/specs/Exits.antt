-- The statuses of a command, and the line that tells how it ended.
use Rattle.std.specs.Prelude.{ℕ, List, [], ◌∷◌, codes, decimal}
use Rattle.mc_tracks.specs.declared.refused.Refused.{Refused}
use Rattle.mc_tracks.specs.declared.refused.Refused.TheVariants as refusals
use Rattle.mc_script.specs.declared.acts.ScriptWhy.{ScriptWhy}
use Rattle.mc_script.specs.declared.acts.ScriptWhy.TheVariants as whys
use Rattle.mc_script.specs.declared.exit.Exit.{Exit}
use Rattle.mc_script.specs.declared.exit.Exit.TheVariants.{Done, NoMemory, Usage, Shelf, Sink, File, Script, JournalFull}
use Rattle.mc_script.specs.Text.{joined}

abbrev pub status_of : Exit → ℕ
status_of Done = 0
status_of NoMemory = 1
status_of Usage = 2
status_of (Shelf cause) = 3
status_of Sink = 4
status_of (File refused) = 5
status_of (Script line why) = 6
status_of JournalFull = 7

abbrev pub refused_name : Refused → List ℕ
refused_name refusals.NotEbml = codes "NotEbml"
refused_name refusals.Version = codes "Version"
refused_name refusals.DocType = codes "DocType"
refused_name refusals.NoSegment = codes "NoSegment"
refused_name refusals.NoInfo = codes "NoInfo"
refused_name refusals.NoTracks = codes "NoTracks"
refused_name (refusals.Broken at) = codes "Broken"
refused_name refusals.NoNumber = codes "NoNumber"
refused_name refusals.TwiceNumber = codes "TwiceNumber"
refused_name refusals.ScaleZero = codes "ScaleZero"
refused_name refusals.TooMany = codes "TooMany"

abbrev pub why_text : ScriptWhy → List ℕ
why_text whys.Size = codes "Size"
why_text whys.Utf8 = codes "Utf8"
why_text whys.Word = codes "Word"
why_text whys.Number = codes "Number"

-- what is said on standard error, without the line's end
abbrev pub exit_text : Exit → List ℕ
exit_text Done = []
exit_text NoMemory = codes "mcplay: out of memory"
exit_text Usage = codes "mcplay: usage: mcplay run [--forward=N] [--back=N] [--readahead=N] FILE [SCRIPT]"
exit_text (Shelf cause) = codes "mcplay: cannot read"
exit_text Sink = codes "mcplay: cannot write"
exit_text (File (refusals.Broken at)) = joined (codes "mcplay: file refused: Broken " ∷ decimal at ∷ [])
exit_text (File refused) = joined (codes "mcplay: file refused: " ∷ refused_name refused ∷ [])
exit_text (Script line why) = joined (codes "mcplay: script line " ∷ decimal line ∷ codes ": " ∷ why_text why ∷ [])
exit_text JournalFull = codes "mcplay: journal full"
