use Rattle.std.proofs.Common.{◌++◌, take, ap, sym, ◌∙◌, arith}
use Rattle.std.proofs.lemmas.List.{append_assoc}
use Rattle.mc_cache.specs.Removals.{removals_of, removals_of_all}
use Rattle.mc_cache.proofs.Told.{next_range}
use Rattle.mc_cache.proofs.removals.push_ranges.Goals as goal

pub loop-range-preserved : goal.loop-range-preserved
loop-range-preserved c =
    let i = c.loop-range.range-index in
    let rs = c.args.ranges.now in
    let r = c.range-item.result in
    let n = next_range c.args.cause rs i r (omega arith) in
    let e = ap (λ x. removals_of_all c.args.cause (take i rs) ++ removals_of c.args.cause x) c.range-item.is in
    record {
      told = c.push_all.ensures.items ∙ ap (λ x. x ++ removals_of c.args.cause r) c.loop-range.invariant.told
          ∙ append_assoc c.args.drops.now.items (removals_of_all c.args.cause (take i rs)) (removals_of c.args.cause r)
          ∙ ap (λ x. c.args.drops.now.items ++ x) (e ∙ sym n);
      room =
          let a = c.push_all.ensures.few in
          let b = c.push_all.ensures.room in
          let d = c.loop-range.invariant.room in
          let t = c.loop-range-test.true in
          omega arith;
    }
