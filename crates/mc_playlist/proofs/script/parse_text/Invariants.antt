use Rattle.std.proofs.Common.{map}
use Rattle.mc_playlist.proofs.ReadingLemmas.{IsReadTo}
use Rattle.mc_playlist.proofs.script.parse_text.Given as goal

abbrev pub invariant-loop-line : goal.invariant-loop-line
invariant-loop-line l = IsReadTo l.reading (map (λ line. line.now) l.yielded)
