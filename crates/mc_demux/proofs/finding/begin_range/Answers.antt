use Rattle.std.proofs.Common.{arith}
use Rattle.mc_calls.proofs.Starting.{few_drops}
use Rattle.mc_demux.proofs.finding.begin_range.Goals as goal

pub tell_drops-requires : goal.tell_drops-requires
tell_drops-requires c =
    let few = few_drops c.args.set c.args.starts.now c.in_ok-drops.drops c.args.cache.now c.start_range.new.self c.mark-mark.ensures.cache c.requires.none c.in_ok-drops.ensures.ok in
    let room = c.requires.room in
    record { room = omega arith }

pub returns-clause-len : goal.returns-clause-len
returns-clause-len c =
    let few = few_drops c.args.set c.args.starts.now c.in_ok-drops.drops c.args.cache.now c.start_range.new.self c.mark-mark.ensures.cache c.requires.none c.in_ok-drops.ensures.ok in
    omega arith
