use Rattle.std.proofs.Common.{rules, ◌≡◌, ℕ, List, ◌∙◌, ap, None, [], ◌∷◌, ◌++◌}
use Rattle.mc_dispatch.specs.declared.call.Call.TheVariants as call
use Rattle.mc_props.specs.Entries.{place_of, property_part}
use Rattle.mc_player.specs.Rules.{done_if}
use Rattle.mc_player.specs.declared.record.Answer.{Answer}
use Rattle.mc_player.specs.declared.record.CoreRecord.TheVariants.{Called}
use Rattle.mc_state.proofs.Answered.{observed_next}
use Rattle.mc_state.proofs.Steps.{lives_in, quiet_in}
use Rattle.mc_state.proofs.state.State.observe.Goals as goal

pub invariant_of-self-2 : goal.invariant_of-self-2
invariant_of-self-2 g c =
    let js : c.push_reserved.new.self.items ≡ c.self.inside.journal.items ++ Called c.args.by c.args.c None (call.Observe c.args.id c.args.name c.args.format) (done_if c.in_ok-done.done) ∷ [] =
    c.push_reserved.ensures.items
    ∙ ap (λ (a : Answer). c.self.inside.journal.items ++ Called c.args.by c.args.c None (call.Observe c.args.id c.in_ok-told.told c.args.format) a ∷ []) c.done_if.ensures
    ∙ ap (λ (x : List ℕ). c.self.inside.journal.items ++ Called c.args.by c.args.c None (call.Observe c.args.id x c.args.format) (done_if c.in_ok-done.done) ∷ []) c.in_ok-told.ensures in
    let placed : c.find-entry.result ≡ place_of (property_part c.args.name) c.self.inside.table = search rules in
    observed_next g.M.Meaning.value _ c.args.by c.args.c c.args.id c.args.name c.args.format c.find-entry.result c.in_ok-done.done c.observe_at.new.clients _ _ c.self.invariant
    (quiet_in g.M.Meaning.value _ _ c.self.view_is c.requires.quiet) (lives_in _ _ _ c.self.view_is c.requires.lives)
    placed c.in_ok-done.ensures.here c.observe_at.ensures.others js
