use Rattle.std.proofs.Common.{◌≡◌, ◌++◌, string_bytes, take}
use Rattle.mc_playlist.specs.Text.{changes_text}
use Rattle.mc_playlist.proofs.text.push_changes.Given as goal

abbrev pub invariant-loop-change : goal.invariant-loop-change
invariant-loop-change l = string_bytes l.out ≡ string_bytes l.initial.out ++ changes_text (take l.change-index l.changes)
