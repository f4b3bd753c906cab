use Rattle.std.proofs.Common.{◌≡◌, ◌+◌, None, Some, sym, ◌∙◌}
use Rattle.mc_walk.specs.declared.plan.Step.TheVariants.{On}
use Rattle.mc_walk.specs.Walk.{step_at}
use Rattle.mc_film.proofs.Chunking.{goes_on, gives, ends, is_done}
use Rattle.mc_film.proofs.chunk.read_chunk.Goals as goal

pub returns-in-End : goal.returns-in-End
returns-in-End c =
    c.last_chunk.ensures ∙ ends c.args.mark (c.len-budget.result + 1) c.loop.counter c.args.plan.now c.loop.place c.loop.level c.in-End.ending _ c.loop-test.true (sym c.in-End.is ∙ c.in_ok-ending.ensures.value) c.loop.invariant.same

pub returns-in-Some : goal.returns-in-Some
returns-in-Some c =
    let step : On c.in-On.to c.in-On.inner (Some c.in-Some.packets) ≡ step_at c.args.plan.now c.loop.place c.loop.level =
    rw c.in-Some.is at (sym c.in-On.is ∙ c.in_ok-ending.ensures.value) in
    c.block_chunk.ensures ∙ gives c.args.mark (c.len-budget.result + 1) c.loop.counter c.args.plan.now c.loop.place c.in-On.to c.loop.level c.in-On.inner c.in-Some.packets _ c.loop-test.true step c.loop.invariant.same

pub loop-preserved : goal.loop-preserved
loop-preserved c =
    let step : On c.in-On.to c.in-On.inner None ≡ step_at c.args.plan.now c.loop.place c.loop.level =
    rw c.in_default.is at (sym c.in-On.is ∙ c.in_ok-ending.ensures.value) in
    let rises = rw c.in-On.is at c.in_ok-ending.ensures.rises in
    record {
      within = rises.1;
      budget = c.loop.invariant.budget;
      same = goes_on c.args.mark (c.len-budget.result + 1) c.loop.counter c.args.plan.now c.loop.place c.in-On.to c.loop.level c.in-On.inner _ c.loop-test.true step c.loop.invariant.same;
    }

pub returns : goal.returns
returns c = c.last_chunk-2.ensures ∙ is_done c.args.mark (c.len-budget.result + 1) c.loop.counter c.args.plan.now c.loop.place c.loop.level _ c.loop-test.false c.loop.invariant.same
