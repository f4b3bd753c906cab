-- A world whose two journals tell one story so far, and the steps that keep it so.
use Rattle.std.specs.Prelude.{◌≡◌, ℕ, ◌==◌, false, List, [], ◌∷◌, Result, ⊤}
use Rattle.mc_journal.specs.Films.{Film}
use Rattle.mc_calls.specs.Film.{StandsFor}
use Rattle.mc_core.specs.Core.{IsCore, history}
use Rattle.mc_props.specs.declared.facts.Facts.{Facts}
use Rattle.mc_props.specs.declared.reading.Reading.{Reading}
use Rattle.mc_story.specs.Steps.{Both}
use Rattle.mc_story.specs.Tie.{IsTied}
use Rattle.mc_steps.specs.Calls.{newest_first}
use Rattle.mc_world.specs.declared.moves.Reply.{Reply}
use Rattle.mc_world.specs.declared.moves.Step.{Step}
use Rattle.mc_world.specs.declared.moves.Step.TheVariants as step
use Rattle.mc_world.specs.declared.moves.WorldError.{WorldError}
use Rattle.mc_world.specs.Steps.{May, Stepped}
use Rattle.mc_world.specs.World.{WorldView, opening}

-- the two journals of a world, the order that is out, and what it came to where it was carried
abbrev pub both : WorldView → Both
both w = record {
  hd = newest_first w.demux;
  hc = history w.core;
  order = w.order;
  carried = w.carried;
}

-- the player's caller number is n: each carry bears it, and no seek or selection of the driver does
abbrev pub IsUnder : ℕ → Step → Type 0
IsUnder n (step.Carry by) = by ≡ n
IsUnder n (step.Seek by t dir) = (by == n) ≡ false
IsUnder n (step.Switch by set at) = (by == n) ≡ false
IsUnder n s = ⊤

-- the demuxer stands for the film, the core is one whose properties mean this, the film that is
-- loaded has the demuxer's tracks, and the two journals with what is out between them are tied
pub record InStory (n : ℕ) (value : ℕ → Facts → Reading) (film : Film) (w : WorldView)
    : Type 0 where
  pub demux : StandsFor film w.demux
  pub core : IsCore value w.core
  pub tracks : w.demux.list ≡ w.tracks
  pub tied : IsTied n film (opening w) (both w)

-- a step that might come is made under the right number, and leaves a demuxer of the film and a
-- core
pub record IsMade (n : ℕ) (value : ℕ → Facts → Reading) (film : Film) (s : Step)
    (old : WorldView) (r : Result Reply WorldError) (new : WorldView) : Type 0 where
  pub under : IsUnder n s
  pub may : May old s
  pub made : Stepped value s old r new
  pub demux : StandsFor film new.demux
  pub core : IsCore value new.core

-- these steps with their answers, one behind the other
abbrev pub Runs : ℕ → (ℕ → Facts → Reading) → Film → List (Step × Result Reply WorldError)
    → WorldView → WorldView → Type 0
Runs n value film [] old new = new ≡ old
Runs n value film (s ∷ steps) old new =
    (mid : WorldView) × IsMade n value film s.0 old s.1 mid × Runs n value film steps mid new
