use Rattle.std.proofs.Common.{refl}
use Rattle.client_rows.proofs.changes.set_pause.Goals as goal

-- only the pause changes
pub returns : goal.returns
returns g c = c.flag.ensures.fresh c.args.facts.now _ (record { pause = λ h. cc; mute = λ _. refl; path = λ _. refl; tracks = λ _. refl; loaded = λ _. refl; set = λ _. refl; cache = λ _. refl }) c.requires
