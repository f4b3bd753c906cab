use Rattle.std.proofs.Common.{◌≡◌, take}
use Rattle.mc_queue.specs.Queue.{is_sync}
use Rattle.mc_queue.specs.Blocks.{extreme}
use Rattle.mc_queue.proofs.kept.sync_extreme.Given as goal

abbrev pub invariant-loop-i : goal.invariant-loop-i
invariant-loop-i l = l.best ≡ extreme l.dir is_sync (take l.i l.packets.items)
