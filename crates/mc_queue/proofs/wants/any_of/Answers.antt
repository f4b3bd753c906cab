use Rattle.std.proofs.Common.{arith, rules, true, false, ◌≡◌, ◌<◌, length, ap, sym, ◌∙◌}
use Rattle.std.specs.List.{list_any}
use Rattle.mc_queue.specs.Blocks.{bound}
use Rattle.mc_queue.specs.Wants.{wanted, has_wanted}
use Rattle.mc_queue.proofs.Shapes.{within_bound}
use Rattle.mc_queue.proofs.Wanted.{any_wanted, any_block, any_other}
use Rattle.mc_queue.proofs.wants.any_of.Goals as goal

pub returns-then-has_wanted-clause-value : goal.returns-then-has_wanted-clause-value
returns-then-has_wanted-clause-value g c =
    let z : 0 < c.loop-at.at = search rules in
    let y : list_any (wanted c.args.want) c.block.result ≡ true =
    sym (any_wanted c.args.want c.block.result) ∙ ap (λ s. has_wanted c.args.want s) (sym c.summary.ensures.value) ∙ sym c.has_wanted.ensures ∙ c.if-has_wanted.true in
    any_block (wanted c.args.want) c.args.blocks.now.blocks c.loop-at.at c.block.result c.loop-at.invariant.within z c.block.ensures y
    ∙ ap (λ ps. list_any (wanted c.args.want) ps) c.count-at.ensures.blocks.all

pub returns-then-has_wanted-clause-cost : goal.returns-then-has_wanted-clause-cost
returns-then-has_wanted-clause-cost g c =
    let b = within_bound c.args.blocks.now.blocks c.count-at.ensures.blocks.shape in
    let e = ap (λ ps. bound (length ps)) c.count-at.ensures.blocks.all in
    let i = c.loop-at.invariant.cost in
    let z : 0 < c.loop-at.at = search rules in
    let s = c.summary.ensures.cost in
    omega arith

pub loop-at-preserved : goal.loop-at-preserved
loop-at-preserved g c =
    let w = c.loop-at.invariant.within in
    let z : 0 < c.loop-at.at = search rules in
    let y : list_any (wanted c.args.want) c.block.result ≡ false =
    sym (any_wanted c.args.want c.block.result) ∙ ap (λ s. has_wanted c.args.want s) (sym c.summary.ensures.value) ∙ sym c.has_wanted.ensures ∙ c.if-has_wanted.false in
    let i = c.loop-at.invariant.cost in
    let s = c.summary.ensures.cost in
    record {
      within = omega arith;
      none = any_other (wanted c.args.want) c.args.blocks.now.blocks c.loop-at.at c.block.result w z c.loop-at.invariant.none c.block.ensures y;
      cost = omega arith;
    }

pub returns-clause-cost : goal.returns-clause-cost
returns-clause-cost g c =
    let b = within_bound c.args.blocks.now.blocks c.count-at.ensures.blocks.shape in
    let e = ap (λ ps. bound (length ps)) c.count-at.ensures.blocks.all in
    let i = c.loop-at.invariant.cost in
    omega arith
