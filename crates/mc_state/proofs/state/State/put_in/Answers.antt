use Rattle.std.proofs.Common.{◌≡◌, ℕ, ◌<◌, List, length, sym, ap, subst, Some, None, [], ◌∷◌, ◌++◌, ◌∙◌, reverse}
use Rattle.slab.specs.Slab.{get, Updates}
use Rattle.mc_client.specs.Client.{new_client}
use Rattle.mc_dispatch.specs.declared.request.ClientNo.{ClientNo}
use Rattle.mc_player.specs.Journals.{named}
use Rattle.mc_state.specs.Stands.{CoreState}
use Rattle.mc_state.proofs.Coming.{created_next, updates_at}
use Rattle.mc_state.proofs.Steps.{quiet_in}
use Rattle.mc_state.proofs.state.State.put_in.Goals as goal

pub invariant_of-self-2 : goal.invariant_of-self-2
invariant_of-self-2 g c =
    let few = subst (λ (d : CoreState). length d.order < 64) (sym c.self.view_is) c.requires.few in
    let key = subst (λ (d : CoreState). d.clients.vacant_key ≡ c.args.c.0) (sym c.self.view_is) c.requires.key in
    let unnamed = subst (λ (d : CoreState). named (reverse d.journal) c.args.name ≡ None) (sym c.self.view_is) c.requires.unnamed in
    let at : c.insert_reserved.result ≡ c.args.c.0 = c.insert_reserved.ensures.key ∙ key in
    let free : get c.self.inside.clients c.args.c.0 ≡ None = subst (λ (x : ℕ). get c.self.inside.clients x ≡ None) at c.insert_reserved.ensures.was_vacant in
    let put : Updates c.self.inside.clients c.insert_reserved.new.self c.args.c.0 (Some (new_client c.args.name c.args.size)) =
    updates_at _ _ _ _ _ _ c.insert_reserved.ensures.updates at c.requires.client in
    let os : c.push_reserved.new.self.items ≡ c.self.inside.order.items ++ c.args.c ∷ [] =
    c.push_reserved.ensures.items ∙ ap (λ (xs : List ClientNo). xs ++ c.args.c ∷ []) c.reserve.ensures.items in
    created_next g.M.Meaning.value _ c.args.by c.args.c c.args.name c.args.size c.insert_reserved.new.self _ _ _
    c.self.invariant (quiet_in g.M.Meaning.value _ _ c.self.view_is c.requires.quiet) free put c.requires.fits few unnamed os c.push_reserved-2.ensures.items
