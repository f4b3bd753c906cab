use Rattle.std.proofs.Common.{List, ap, ◌∙◌, reverse}
use Rattle.std.specs.List.{find}
use Rattle.mc_dispatch.specs.declared.request.ClientNo.{ClientNo}
use Rattle.mc_player.specs.Journals.{is_name, named}
use Rattle.mc_deeds.specs.Clients.{name_at}
use Rattle.mc_state.specs.Stands.{CoreState}
use Rattle.mc_state.proofs.Coming.{found_named}
use Rattle.mc_state.proofs.state.State.named.Goals as goal

pub returns : goal.returns
returns g c =
    c.copied.ensures ∙ c.find_named.ensures
    ∙ ap (λ (xs : List ClientNo). find (λ x. is_name c.args.name.now (name_at c.self.inside.clients x)) xs) c.deref.ensures.value
    ∙ found_named g.M.Meaning.value _ c.args.name.now c.self.invariant
    ∙ ap (λ (d : CoreState). named (reverse d.journal) c.args.name.now) c.self.view_is
