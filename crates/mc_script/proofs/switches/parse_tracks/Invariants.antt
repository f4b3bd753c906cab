use Rattle.std.proofs.Common.{◌≡◌, ◌++◌, List, ℕ, drop}
use Rattle.std.specs.Prelude.{Option, Some, None}
use Rattle.mc_script.specs.Forms.{tracks_of}
use Rattle.mc_script.proofs.switches.parse_tracks.Given as goal

-- numbers before others
abbrev pub behind : List ℕ → Option (List ℕ) → Option (List ℕ)
behind ns None = None
behind ns (Some more) = Some (ns ++ more)

abbrev pub invariant-loop-word : goal.invariant-loop-word
invariant-loop-word l = behind l.tracks (tracks_of (drop l.word-index l.words)) ≡ tracks_of l.words
