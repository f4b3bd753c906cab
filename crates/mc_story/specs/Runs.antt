-- A world's steps as data, and what a list of them does to its two journals.
use Rattle.std.specs.Prelude.{◌≡◌, ℕ, ◌==◌, true, false, List, [], ◌∷◌, ℤ, ⊤}
use Rattle.mc_packet.specs.declared.choice.Choice.{Choice}
use Rattle.mc_packet.specs.declared.choice.Dir.{Dir}
use Rattle.mc_journal.specs.Films.{Film}
use Rattle.mc_journal.specs.Used.{is_still}
use Rattle.mc_player.specs.declared.record.Outcome.{Outcome}
use Rattle.mc_player.specs.Lives.{Table}
use Rattle.mc_player.specs.Orders.{Opening}
use Rattle.mc_player.specs.Rules.{IsAllowed}
use Rattle.mc_story.specs.Steps.{Adds, Both, Calling, Carrying, Demuxing, Doing, Learning, SeekAdds, Seeing, SwitchAdds, Working, is_plain}

-- the steps, with the caller's number where a record bears it. `Other` is every step of the demuxer
-- that is no seek and no selection: a look, a job and its outcome, a read. `Client` is every step
-- of a client: it comes, goes, or calls. `Others` is all that others than this caller did since it
-- last looked, where many call
pub data Step : Type 0 where
  Seek : ℕ → ℤ → Dir → Step
  Switch : ℕ → Choice → ℤ → Step
  Other : Step
  Learn : ℕ → Step
  Work : ℕ → Step
  Carry : ℕ → Step
  Done : ℕ → Step
  Client : Step
  Others : ℕ → Step

-- what each step does
abbrev pub StepOf : Film → Opening → Table → Step → Both → Both → Type 0
StepOf film w t (Seek by time dir) s s' =
    Demuxing (λ hd new. (x : Outcome) × SeekAdds by time dir hd x new) s s'
StepOf film w t (Switch by set at) s s' = Demuxing (SwitchAdds by set at) s s'
StepOf film w t Other s s' = Demuxing (Adds is_plain) s s'
StepOf film w t (Learn by) s s' = Learning film by s s'
StepOf film w t (Work by) s s' = Working t by s s'
StepOf film w t (Carry by) s s' = Carrying w by s s'
StepOf film w t (Done by) s s' = Doing by s s'
StepOf film w t Client s s' = Calling s s'
StepOf film w t (Others n) s s' = Seeing n s s'

-- a step, with what the two types keep: a demuxer is at rest between its calls, and each record of
-- a player was allowed
pub record Stepped (film : Film) (w : Opening) (t : Table) (step : Step) (s s' : Both)
    : Type 0 where
  pub at_rest : is_still film.packets s.hd ≡ true
  pub allowed : IsAllowed t s'.hc
  pub is : StepOf film w t step s s'

-- a list of steps, one behind the other
abbrev pub Runs : Film → Opening → Table → List Step → Both → Both → Type 0
Runs film w t [] s s' = s ≡ s'
Runs film w t (step ∷ steps) s s' =
    (mid : Both) × Stepped film w t step s mid × Runs film w t steps mid s'

-- the player's caller number is n: each carry bears it, and no seek or selection of the driver does
abbrev pub IsUnder : ℕ → Step → Type 0
IsUnder n (Carry by) = by ≡ n
IsUnder n (Seek by t dir) = (by == n) ≡ false
IsUnder n (Switch by set at) = (by == n) ≡ false
IsUnder n (Others m) = m ≡ n
IsUnder n step = ⊤
