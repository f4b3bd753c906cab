use Rattle.std.proofs.Common.{rules, ◌≡◌, List, length, arith, ap, ◌∙◌}
use Rattle.std.proofs.lemmas.Fn.{filter_same}
use Rattle.mc_dispatch.specs.Queue.{QueueState, after_removal, is_of, without}
use Rattle.mc_dispatch.specs.declared.request.Request.{Request}
use Rattle.mc_dispatch.proofs.Parting.{length-parts}
use Rattle.mc_dispatch.proofs.dispatch.Dispatch.drop_client.Goals as goal

pub returns-clause-after : goal.returns-clause-after
returns-clause-after c =
    let kept : c.retain.new.self.items ≡ without (is_of c.args.client) c.self.inside.requests.items =
    filter_same _ _ _ (λ x b f' k. search rules) _ _ c.retain.ensures.filtered in
    let at : List Request → QueueState = λ rs. record { requests = rs; reserved = c.self.inside.reserved } in
    ap at kept ∙ ap (λ (s : QueueState). after_removal s (is_of c.args.client)) c.self.view_is

pub returns-clause-count : goal.returns-clause-count
returns-clause-count c =
    let before : c.len-before.result ≡ length c.args.self.now.requests = search rules in
    let after : c.len.result ≡ length c.retain.new.self.items = search rules in
    let kept : length c.retain.new.self.items ≡ length (without (is_of c.args.client) c.args.self.now.requests) =
    ap (λ (s : QueueState). length s.requests) (returns-clause-after c) in
    let parts = length-parts (is_of c.args.client) c.args.self.now.requests in
    omega arith
