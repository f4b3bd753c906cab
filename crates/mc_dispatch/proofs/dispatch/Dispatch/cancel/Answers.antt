use Rattle.std.proofs.Common.{rules, ◌≡◌, List, ap, ◌∙◌}
use Rattle.std.proofs.lemmas.Fn.{filter_same}
use Rattle.mc_dispatch.specs.Queue.{QueueState, after_removal, has_ticket, without}
use Rattle.mc_dispatch.specs.declared.request.Request.{Request}
use Rattle.mc_dispatch.proofs.dispatch.Dispatch.cancel.Goals as goal

pub returns-clause-after : goal.returns-clause-after
returns-clause-after c =
    let kept : c.retain.new.self.items ≡ without (has_ticket c.args.ticket) c.self.inside.requests.items =
    filter_same _ _ _ (λ x b f' k. search rules) _ _ c.retain.ensures.filtered in
    let at : List Request → QueueState = λ rs. record { requests = rs; reserved = c.self.inside.reserved } in
    ap at kept ∙ ap (λ (s : QueueState). after_removal s (has_ticket c.args.ticket)) c.self.view_is
