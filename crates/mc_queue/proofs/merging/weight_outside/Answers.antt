use Rattle.std.proofs.Common.{arith}
use Rattle.mc_journal.specs.Films.{rank}
use Rattle.mc_queue.proofs.Rising.{less_weight_outside}
use Rattle.mc_queue.proofs.merging.weight_outside.Goals as goal

pub overflow_add-result : goal.overflow_add-result
overflow_add-result c =
    let l = less_weight_outside (rank c.args.from) (rank c.args.to) c.args.packets.now.items c.requires.order in
    let a = c.weight_ahead.ensures in
    let b = c.weight_behind.ensures in
    let f = c.requires.fits in
    omega arith
