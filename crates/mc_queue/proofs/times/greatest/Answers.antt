use Rattle.std.proofs.Common.{rules, ◌≤◌, length}
use Rattle.mc_queue.proofs.Nearest.{greatest_of_all}
use Rattle.mc_queue.proofs.times.greatest.Goals as goal

pub returns : goal.returns
returns g c =
    let l : length c.args.blocks.now.blocks ≤ c.loop-at.at = search rules in
    greatest_of_all c.args.blocks.now.blocks c.args.blocks.now.packets c.loop-at.at c.loop-at.best c.count-at-end.ensures.blocks.all l c.loop-at.invariant
