use Rattle.std.proofs.Common.{arith}
use Rattle.mc_cache.proofs.Spare.{front_fits, front_parts}
use Rattle.mc_cache.proofs.rooms.count_all_at.Goals as goal

pub returns-clause-few : goal.returns-clause-few
returns-clause-few c =
    let a = c.count_front-ahead.ensures.value in
    let b = c.count_at.ensures.value in
    let p = front_parts c.args.track c.args.front.now c.args.others.now in
    let f = front_fits c.args.track c.args.front.now c.args.others.now c.requires in
    omega arith
