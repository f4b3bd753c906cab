use Rattle.std.proofs.Common.{rules, w64, sym}
use Rattle.std.proofs.lemmas.Int.{to_z-of_z}
use mir.Val.{SFits}
use Rattle.mc_range.specs.Bounds.{serves_time}
use Rattle.mc_range.proofs.Extremes.{bounds_some}
use Rattle.mc_range.proofs.bounding.bounds_by.Goals as goal

pub returns : goal.returns
returns c =
    let f : SFits w64 c.in_ok-least.least = search rules in
    let g : SFits w64 c.in_ok-greatest.greatest = search rules in
    rw (to_z-of_z w64 c.in_ok-least.least f, to_z-of_z w64 c.in_ok-greatest.greatest g)
    (sym (bounds_some (serves_time c.args.queues.now c.args.ended c.args.set) c.args.ended c.args.queue.now.packets _ _ c.in_ok-least.ensures c.in_ok-greatest.ensures))
