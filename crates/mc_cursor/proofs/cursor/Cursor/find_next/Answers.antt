use Rattle.std.proofs.Common.{◌≡◌, ◌<◌, ◌≤◌, length, None, arith}
use Rattle.mc_walk.specs.declared.plan.Step.TheVariants.{End, On}
use Rattle.mc_walk.specs.Walk.{step_at}
use Rattle.mc_cursor.specs.Standing.{plan_for}
use Rattle.mc_cursor.specs.Steps.{taken_of, taken_step}
use Rattle.mc_cursor.proofs.Chunks.{keeps_more, told_later, so_far_goes_on, so_far_reach}
use Rattle.mc_cursor.proofs.Reaching.{next_end, next_block, refused}
use Rattle.mc_cursor.proofs.cursor.Cursor.find_next.Goals as goal

pub returns-in_err-ending-clause-err : goal.returns-in_err-ending-clause-err
returns-in_err-ending-clause-err g c = refused c.from_residual.result (λ octets told stands.
    let so_far = c.loop-ending.invariant.told octets told stands in
    let told' = told_later _ _ _ _ _ _ c.args.self.now.file.0 octets c.loop-ending.invariant.kept told in
    so_far_reach octets c.args.self.now c.loop-ending.place c.loop-ending.level _ _ _ so_far (c.step.ensures.reach octets told' so_far.within))

pub returns-in-End-clause-value : goal.returns-in-End-clause-value
returns-in-End-clause-value g c = λ octets told stands.
    let so_far = c.loop-ending.invariant.told octets told stands in
    let told' = told_later _ _ _ _ _ _ c.args.self.now.file.0 octets c.loop-ending.invariant.kept told in
    let step : End c.in-End.ending ≡ step_at (plan_for octets c.args.self.now) c.loop-ending.place c.loop-ending.level =
    rw c.in-End.is at (c.in_ok-ending.ensures.value octets told' so_far.within).0 in
    next_end octets c.args.self.now c.loop-ending.place c.loop-ending.level c.in-End.ending _ _ so_far step

pub returns-in-Block-clause-value : goal.returns-in-Block-clause-value
returns-in-Block-clause-value g c = λ octets told stands.
    let so_far = c.loop-ending.invariant.told octets told stands in
    let told' = told_later _ _ _ _ _ _ c.args.self.now.file.0 octets c.loop-ending.invariant.kept told in
    let both = c.in_ok-ending.ensures.value octets told' so_far.within in
    let step : taken_step c.in-Block.block (taken_of (plan_for octets c.args.self.now) c.loop-ending.place c.in-Block.block) ≡ step_at (plan_for octets c.args.self.now) c.loop-ending.place c.loop-ending.level =
    rw c.in-Block.is at both.0 in
    let within : c.in-Block.block.at ≤ length octets = rw c.in-Block.is at both.1 in
    next_block octets c.args.self.now c.loop-ending.place c.loop-ending.level c.in-Block.block _ _ so_far step within

pub loop-ending-preserved : goal.loop-ending-preserved
loop-ending-preserved g c =
    let on = c.in-On in
    let onward : c.loop-ending.place < on.to = rw on.is at c.in_ok-ending.ensures.onward in
    record {
      later = omega (arith, c.step.ensures.cause.later);
      kept = keeps_more _ _ _ _ _ _ _ _ _ c.loop-ending.invariant.kept c.step.ensures.kept;
      positive = omega (arith, onward);
      onward = omega (arith, onward, c.loop-ending.invariant.onward);
      told = λ octets told stands.
          let so_far = c.loop-ending.invariant.told octets told stands in
          let told' = told_later _ _ _ _ _ _ c.args.self.now.file.0 octets c.loop-ending.invariant.kept told in
          let step : On on.to on.inner None ≡ step_at (plan_for octets c.args.self.now) c.loop-ending.place c.loop-ending.level =
          rw on.is at (c.in_ok-ending.ensures.value octets told' so_far.within).0 in
          so_far_goes_on octets c.args.self.now c.loop-ending.place on.to c.loop-ending.level on.inner _ _ _ so_far step (c.step.ensures.reach octets told' so_far.within);
    }
