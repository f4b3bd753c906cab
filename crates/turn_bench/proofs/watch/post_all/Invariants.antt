use Rattle.std.proofs.Common.{◌≡◌}
use Rattle.turn_bench.specs.Posts.{UpTo}
use Rattle.turn_bench.proofs.watch.post_all.Given as goal

abbrev pub invariant-loop-seq : goal.invariant-loop-seq
invariant-loop-seq g l = record { board : l.poster.board ≡ l.fn.poster.board; posted : UpTo l.seq l.poster.posted }
