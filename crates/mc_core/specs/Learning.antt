-- The restart that may be due where a view is learned.
use Rattle.std.specs.Prelude.{◌≡◌, ℕ, Bool, []}
use Rattle.std.specs.Bool.{MatchBool}
use Rattle.mc_ring.specs.declared.event.Event.TheVariants as event
use Rattle.mc_props.specs.declared.facts.Facts.{Facts}
use Rattle.mc_props.specs.declared.reading.Reading.{Reading}
use Rattle.mc_state.specs.Pushing.{ComesWith, coming}
use Rattle.mc_state.specs.Stands.{CoreState}

-- a restart is still to be told to each client, or nothing is to come
abbrev pub MayRestart : (ℕ → Facts → Reading) → Bool → CoreState → Type 0
MayRestart value due s = MatchBool due (ComesWith value event.PlaybackRestart s.order [] s)
    (coming value s ≡ [])
