use Rattle.mc_journal.specs.declared.record.Cause.TheVariants.{Mismatch}
use Rattle.mc_cache.specs.Removals.{removals_of}
use Rattle.mc_cache.proofs.United.{weighs, room_left, less_room, roomier_weighs}
use Rattle.mc_cache.proofs.Spare.{room_kept}
use Rattle.std.proofs.Common.{◌++◌, ◌∙◌, ap, arith, rules, refl, true, false}
use Rattle.mc_cache.proofs.joining.join_one.Goals as goal

pub returns-in-Ok-clause-weight : goal.returns-in-Ok-clause-weight
returns-in-Ok-clause-weight c = weighs c.args.range.now c.args.other c.join.new.self c.join.new.other c.mark.ensures.range c.in-Ok.ensures.ok

pub returns-in-Ok-clause-space : goal.returns-in-Ok-clause-space
returns-in-Ok-clause-space c = λ rs h. room_left c.args.range.now c.args.other c.join.new.self c.join.new.other rs c.mark.ensures.range c.mark-2.ensures.range c.join.ensures.range c.requires.touch c.in-Ok.ensures.ok h

pub returns-in-Err-Mismatch-clause-weight : goal.returns-in-Err-Mismatch-clause-weight
returns-in-Err-Mismatch-clause-weight c = let e = roomier_weighs c.args.range.now c.join.new.self c.in-Err-Mismatch.ensures.same.0 in omega arith

pub returns-in-Err-Mismatch-clause-space : goal.returns-in-Err-Mismatch-clause-space
returns-in-Err-Mismatch-clause-space c = λ rs h. room_kept rs 0 c.args.range.now c.join.new.self c.in-Err-Mismatch.ensures.same.0 (less_room c.args.other rs 0 c.args.range.now h)

pub returns-in-Ok-clause-value : goal.returns-in-Ok-clause-value
returns-in-Ok-clause-value c = (true, refl, (c.join.new.other, c.in-Ok.ensures.ok, refl))

pub returns-in-Err-Mismatch-clause-value : goal.returns-in-Err-Mismatch-clause-value
returns-in-Err-Mismatch-clause-value c = (false, refl, (c.in-Err-Mismatch.pos, c.in-Err-Mismatch.ours, c.in-Err-Mismatch.theirs, search rules, c.in-Err-Mismatch.ensures.same.0, c.push_all.ensures.items ∙ ap (λ r. c.args.drops.now.items ++ removals_of (Mismatch c.in-Err-Mismatch.pos c.in-Err-Mismatch.ours c.in-Err-Mismatch.theirs) r) c.in-Err-Mismatch.ensures.same.1))
