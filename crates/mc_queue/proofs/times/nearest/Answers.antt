use Rattle.std.proofs.Common.{rules, ◌≤◌, false, length}
use Rattle.mc_queue.specs.Times.{is_wanted}
use Rattle.mc_queue.proofs.Nearest.{nearest_of_all}
use Rattle.mc_queue.proofs.times.nearest.Goals as goal

pub returns : goal.returns
returns g c =
    let l : length c.args.blocks.now.blocks ≤ c.loop-at.at = search rules in
    nearest_of_all c.args.dir (is_wanted c.args.dir false c.args.past) c.args.blocks.now.blocks c.args.blocks.now.packets c.loop-at.at c.loop-at.best c.count-at-end.ensures.blocks.all l c.loop-at.invariant
