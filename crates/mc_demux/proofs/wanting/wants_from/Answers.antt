use Rattle.std.proofs.Common.{ap, ◌∙◌}
use Rattle.std.specs.List.{list_all}
use Rattle.mc_packet.specs.declared.cache.Limits.{Limits}
use Rattle.mc_calls.specs.Wanting.{held_from, is_near}
use Rattle.mc_calls.proofs.Nearness.{some_near}
use Rattle.mc_demux.proofs.wanting.wants_from.Goals as goal

pub returns-in-Some : goal.returns-in-Some
returns-in-Some c =
    let e = ap (λ (l : Limits). list_all (λ q. is_near c.in-Some.first.now.time l.readahead q.time) (held_from c.args.track c.args.head c.args.cache.now.current)) c.limits-limits.ensures.value in
    c.are_near.ensures ∙ (e ∙ some_near c.args.cache.now c.args.track c.args.head c.in-Some.first.now c.limits-limits.ensures.cache c.in-Some.ensures.value)
