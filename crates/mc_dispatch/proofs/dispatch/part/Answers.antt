use Rattle.std.proofs.Common.{◌≡◌, ◌+◌, ◌-◌, suc, length, filter, arith, ap, ◌∙◌, length-append}
use Rattle.mc_dispatch.specs.Queue.{is_named}
use Rattle.mc_dispatch.proofs.Parting.{goes_on, ends, length-parts}
use Rattle.mc_dispatch.proofs.dispatch.part.Goals as goal

pub loop-preserved : goal.loop-preserved
loop-preserved c =
    let test = c.loop-test.true in
    let more : c.len-budget.result - c.loop.counter ≡ suc (c.len-budget.result - (c.loop.counter + 1)) = omega arith in
    record {
      parting = goes_on _ _ _ _ _ _ _ _ _ more c.loop.invariant.parting c.turn_one.ensures.turned;
      room = c.turn_one.ensures.room;
      space = c.turn_one.ensures.space ∙ c.loop.invariant.space;
      capacity = c.turn_one.ensures.capacity ∙ c.loop.invariant.capacity;
    }

pub returns-clause-kept : goal.returns-clause-kept
returns-clause-kept c =
    let test = c.loop-test.false in
    let none : c.len-budget.result - c.loop.counter ≡ 0 = omega arith in
    (ends _ _ _ _ _ _ _ none c.loop.invariant.parting).0

pub returns-clause-removed : goal.returns-clause-removed
returns-clause-removed c =
    let test = c.loop-test.false in
    let none : c.len-budget.result - c.loop.counter ≡ 0 = omega arith in
    (ends _ _ _ _ _ _ _ none c.loop.invariant.parting).1

pub returns-clause-parted : goal.returns-clause-parted
returns-clause-parted c =
    let test = is_named c.args.client c.args.id in
    let kept = ap (λ rs. length rs) (returns-clause-kept c) in
    let removed = ap (λ rs. length rs) (returns-clause-removed c) in
    let joined = length-append c.args.removed.now.items (filter test c.args.queue.now.items) in
    let parts = length-parts test c.args.queue.now.items in
    omega arith
