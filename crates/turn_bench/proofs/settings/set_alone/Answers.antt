use Rattle.std.proofs.Common.{rules, [], ap, ◌∙◌, ◌++◌, ◌≡◌}
use Rattle.mc_turn.specs.Laws.{may_leave, seen_whole, worked_none}
use Rattle.turn_bench.specs.Settings.{Holds, client_of, set_to}
use Rattle.turn_bench.proofs.settings.set_alone.Goals as goal

pub leave-requires-clause-extends : goal.leave-requires-clause-extends
leave-requires-clause-extends g c = may_leave client_of (Holds c.args.value) 0 c.in_ok-turn.pass c.in_ok-turn.pass c.enter-settings.new.pass c.enter-settings.result c.set-done.new.self
    (worked_none client_of (Holds c.args.value) 0 c.in_ok-turn.pass (search rules)) (search rules) c.enter-settings.ensures.pass c.set-done.ensures.grows

pub returns : goal.returns
returns g c =
    let found = seen_whole client_of 1 c.in_ok-turn.pass c.enter-settings.result (search rules) (search rules) c.enter-settings.ensures.seen in
    let begun : c.enter-settings.result ≡ [] = found ∙ search rules in
    record { set = (c.set-done.result, c.close.ensures.whole (search rules) ∙ (ap (λ k. k.seen) c.leave.ensures.pass ∙ (c.set-done.ensures.added ∙ ap (λ l. l ++ set_to c.set-done.result 0 c.args.value) begun))) }
