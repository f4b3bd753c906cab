use Rattle.std.proofs.Common.{◌+◌, sym, ◌∙◌}
use Rattle.mc_film.proofs.Walking.{goes_on, ends, is_done}
use Rattle.mc_film.proofs.step.walk_on.Goals as goal

pub returns-in-End : goal.returns-in-End
returns-in-End c =
    rw (← c.loop.invariant.budget) (ends c.loop.packets (c.len-budget.result + 1) c.loop.counter c.args.plan.now c.loop.place c.loop.level c.in-End.ending _ c.loop-test.true (sym c.in-End.is ∙ c.in_ok-ending.ensures.value) c.loop.invariant.joined)

pub loop-preserved : goal.loop-preserved
loop-preserved c =
    let rises = rw c.in-On.is at c.in_ok-ending.ensures.rises in
    record {
      within = rises.1;
      budget = c.loop.invariant.budget;
      joined = rw c.in_ok-append_block-in-On.ensures (goes_on c.loop.packets (c.len-budget.result + 1) c.loop.counter c.args.plan.now c.loop.place c.in-On.to c.loop.level c.in-On.inner c.in-On.block _ c.loop-test.true (sym c.in-On.is ∙ c.in_ok-ending.ensures.value) c.loop.invariant.joined);
    }

pub returns : goal.returns
returns c =
    rw (← c.loop.invariant.budget) (is_done c.loop.packets (c.len-budget.result + 1) c.loop.counter c.args.plan.now c.loop.place c.loop.level _ c.loop-test.false c.loop.invariant.joined)
