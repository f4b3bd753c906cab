use Rattle.mc_walk.proofs.Lacing.{time_fits}
use Rattle.mc_walk.proofs.front.times_fit.Goals as goal

pub loop-lane-preserved : goal.loop-lane-preserved
loop-lane-preserved c =
    time_fits c.args.place.now c.args.head.relative c.loop-lane.lane c.args.count c.in-Some._time _ c.loop-lane-test.true c.in-Some.ensures c.loop-lane.invariant
