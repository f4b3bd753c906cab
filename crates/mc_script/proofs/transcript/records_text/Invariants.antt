use Rattle.std.proofs.Common.{◌≡◌, string_bytes, ◌++◌, drop}
use Rattle.mc_script.specs.Transcript.{lines_from, set_behind}
use Rattle.mc_script.proofs.transcript.records_text.Given as goal

-- the text so far, and the lines of the records that are left, are the text of all
abbrev pub invariant-loop-entry : goal.invariant-loop-entry
invariant-loop-entry l = (string_bytes l.text ++ lines_from l.selected (drop l.entry-index l.records) ≡ lines_from l.fn.set l.records)
    × (set_behind l.selected (drop l.entry-index l.records) ≡ set_behind l.fn.set l.records)
