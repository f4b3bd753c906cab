use Rattle.std.proofs.Common.{rules, ◌≡◌, List, ap, subst, sym, ◌∙◌}
use Rattle.std.proofs.lemmas.Fn.{filter_same}
use Rattle.mc_client.specs.Client.{ClientState, after_unobserve}
use Rattle.mc_client.specs.Watches.{Fresh, without_id}
use Rattle.mc_client.specs.declared.watch.Watch.{Watch}
use Rattle.mc_client.proofs.Flags.{fresh_without}
use Rattle.mc_client.proofs.client.Client.unobserve.Goals as goal

pub returns-clause-after : goal.returns-clause-after
returns-clause-after c =
    let kept : c.retain.new.self.items ≡ without_id c.args.id c.self.inside.watches.items = filter_same _ _ _ (λ x b f' k. search rules) _ _ c.retain.ensures.filtered in
    let at : List Watch → ClientState = λ ws. record { name = c.self.inside.name; ring = c.self.inside.ring; watches = ws; off = c.self.inside.off.keys } in
    ap at kept ∙ ap (λ (s : ClientState). after_unobserve s c.args.id) c.self.view_is

pub returns-clause-fresh : goal.returns-clause-fresh
returns-clause-fresh c = λ stated entries facts h.
    let kept : c.retain.new.self.items ≡ without_id c.args.id c.args.self.now.watches = ap (λ (s : ClientState). s.watches) (returns-clause-after c) in
    subst (Fresh stated entries facts) (sym kept) (fresh_without stated entries facts c.args.id c.args.self.now.watches h)
