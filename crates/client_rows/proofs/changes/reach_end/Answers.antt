use Rattle.std.proofs.Common.{refl}
use Rattle.client_rows.proofs.changes.reach_end.Goals as goal

-- only the view changes
pub returns : goal.returns
returns g c = c.flag.ensures.fresh c.args.facts.now _ (record { pause = λ _. refl; mute = λ _. refl; path = λ _. refl; tracks = λ _. refl; loaded = λ _. refl; set = λ _. refl; cache = λ h. cc }) c.requires
