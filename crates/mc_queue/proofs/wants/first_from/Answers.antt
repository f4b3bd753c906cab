use Rattle.std.proofs.Common.{arith, rules, true, false, ◌≡◌, ◌<◌, length, drop, ap, sym, ◌∙◌}
use Rattle.std.specs.List.{list_any}
use Rattle.mc_queue.specs.Queue.{first_that}
use Rattle.mc_queue.specs.Blocks.{bound, flat}
use Rattle.mc_queue.specs.Wants.{wanted, has_wanted}
use Rattle.mc_queue.proofs.Shapes.{within_bound}
use Rattle.mc_queue.proofs.Wanted.{any_wanted, front_block, front_other}
use Rattle.mc_queue.proofs.wants.first_from.Goals as goal

pub returns-then-has_wanted-clause-value : goal.returns-then-has_wanted-clause-value
returns-then-has_wanted-clause-value g c =
    let l : c.loop-at.at < length c.args.blocks.now.blocks = search rules in
    let y : list_any (wanted c.args.want) c.block-block.result ≡ true =
    sym (any_wanted c.args.want c.block-block.result) ∙ ap (λ s. has_wanted c.args.want s) (sym c.summary-summary.ensures.value) ∙ sym c.has_wanted.ensures ∙ c.if-has_wanted.true in
    c.first_in.ensures.value
    ∙ front_block (wanted c.args.want) (first_that (wanted c.args.want) (flat (drop c.args.from c.args.blocks.now.blocks))) c.args.blocks.now.blocks c.loop-at.at c.block-block.result l c.loop-at.invariant.first c.block-block.ensures y

pub returns-then-has_wanted-clause-cost : goal.returns-then-has_wanted-clause-cost
returns-then-has_wanted-clause-cost g c =
    let b = within_bound c.args.blocks.now.blocks c.count-at-end.ensures.blocks.shape in
    let e = ap (λ ps. bound (length ps)) c.count-at-end.ensures.blocks.all in
    let i = c.loop-at.invariant.cost in
    let t : c.loop-at.at < length c.args.blocks.now.blocks = search rules in
    let s = c.summary-summary.ensures.cost in
    let f = c.summary-summary.ensures.few in
    let l = c.first_in.ensures.cost in
    omega arith

pub loop-at-preserved : goal.loop-at-preserved
loop-at-preserved g c =
    let l : c.loop-at.at < length c.args.blocks.now.blocks = search rules in
    let n : list_any (wanted c.args.want) c.block-block.result ≡ false =
    sym (any_wanted c.args.want c.block-block.result) ∙ ap (λ s. has_wanted c.args.want s) (sym c.summary-summary.ensures.value) ∙ sym c.has_wanted.ensures ∙ c.if-has_wanted.false in
    let i = c.loop-at.invariant.cost in
    let s = c.summary-summary.ensures.cost in
    record {
      first = front_other (wanted c.args.want) (first_that (wanted c.args.want) (flat (drop c.args.from c.args.blocks.now.blocks))) c.args.blocks.now.blocks c.loop-at.at c.block-block.result l c.loop-at.invariant.first c.block-block.ensures n;
      within = omega arith;
      cost = omega arith;
    }

pub returns-clause-cost : goal.returns-clause-cost
returns-clause-cost g c =
    let b = within_bound c.args.blocks.now.blocks c.count-at-end.ensures.blocks.shape in
    let e = ap (λ ps. bound (length ps)) c.count-at-end.ensures.blocks.all in
    let i = c.loop-at.invariant.cost in
    let w = c.loop-at.invariant.within in
    omega arith
