use Rattle.std.proofs.Common.{◌≡◌, true, rules, w64}
use Rattle.std.proofs.lemmas.Int.{to_z-of_z}
use mir.Val.{SFits}
use Rattle.mc_range.specs.Bounds.{serves_time}
use Rattle.mc_range.proofs.Bounded.{served_next}
use Rattle.mc_range.proofs.bounding.first_served.Goals as goal

pub returns-then-serves_time : goal.returns-then-serves_time
returns-then-serves_time c =
    let f : SFits w64 c.in-Some.t = search rules in
    let y : serves_time c.args.queues.now c.args.ended c.args.set c.in-Some.t ≡ true = search rules in
    rw (to_z-of_z w64 c.in-Some.t f) (served_next c.args.dir (serves_time c.args.queues.now c.args.ended c.args.set) c.loop-t.past c.in-Some.t c.args.queue.now.packets c.loop-t.invariant c.in-Some.ensures y)
