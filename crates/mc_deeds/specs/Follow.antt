-- What follows a taken request or an outcome.
use Rattle.std.specs.Prelude.{◌≡◌, ℕ, IsTrue, List, [], ◌∷◌, ◌++◌, length, ⊤}
use Rattle.std.specs.List.{AllByRecursion}
use Rattle.mc_dispatch.specs.declared.request.ClientNo.{ClientNo}
use Rattle.mc_ring.specs.Event.{enters_ring}
use Rattle.mc_ring.specs.declared.event.Event.{Event}
use Rattle.mc_ring.specs.declared.event.Event.TheVariants as event
use Rattle.mc_props.specs.declared.facts.Facts.{Facts}
use Rattle.mc_player.specs.declared.record.CoreRecord.{CoreRecord}
use Rattle.mc_player.specs.Effects.{Effect, Write, pushes_to}
use Rattle.mc_player.specs.Lives.{Table}
use Rattle.mc_deeds.specs.declared.follow.Twice.{Twice}
use Rattle.mc_deeds.specs.declared.follow.Follow.{Follow}
use Rattle.mc_deeds.specs.declared.follow.Follow.TheVariants as follow

-- both are this event
pub record IsTwice (e : Event) (p : Twice) : Type 0 where
  pub first : p.event ≡ e
  pub second : p.told ≡ e

-- the effects that it stands for, where these are the clients
abbrev pub plan_follow : Table → List CoreRecord → List ClientNo → Follow → List Effect
plan_follow t h cs follow.Nothing = []
plan_follow t h cs (follow.Writes mask facts) = Write mask ∷ []
plan_follow t h cs (follow.Sends words events) = pushes_to t (event.Message words) h cs
plan_follow t h cs (follow.SendsTo c p) = pushes_to t p.event h (c ∷ [])
plan_follow t h cs follow.Quits =
    pushes_to t (event.EndFile 3) h cs ++ pushes_to t event.Shutdown h cs
plan_follow t h cs (follow.Loads facts) =
    pushes_to t event.StartFile h cs ++ Write 12 ∷ pushes_to t event.FileLoaded h cs
plan_follow t h cs follow.Seeks = pushes_to t event.Seek h cs

-- it has these facts, and messages for so many clients
abbrev pub FitsFollow : Facts → ℕ → Follow → Type 0
FitsFollow f n follow.Nothing = ⊤
FitsFollow f n (follow.Writes mask facts) = facts ≡ f
FitsFollow f n (follow.Sends words events) =
    AllByRecursion (IsTwice (event.Message words)) events.items × (length events.items ≡ n)
FitsFollow f n (follow.SendsTo c p) = (p.told ≡ p.event) × IsTrue (enters_ring p.event)
FitsFollow f n follow.Quits = ⊤
FitsFollow f n (follow.Loads facts) = facts ≡ f
FitsFollow f n follow.Seeks = ⊤
