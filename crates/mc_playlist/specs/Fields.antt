-- The fields of a list's facts, as bits of a mask.
use Rattle.std.specs.Prelude.{◌≡◌, ℕ, Bool, true, not}
use Rattle.mc_props.specs.Fields.{has_field}
use Rattle.mc_playlist.specs.declared.acts.ListAct.{ListAct}
use Rattle.mc_playlist.specs.declared.acts.ListAct.TheVariants.{Step, Play, PlayAll, Watch}
use Rattle.mc_playlist.specs.declared.facts.ListFacts.{ListFacts}
use Rattle.mc_playlist.specs.declared.steps.ListStep.{ListStep}
use Rattle.mc_playlist.specs.declared.steps.ListStep.TheVariants as steps

-- two facts have the same in each field that passes the test: 1 the names, 2 the place, 4 how often
-- an entry was played
pub record AgreeOn (seen : ℕ → Bool) (f g : ListFacts) : Type 0 where
  pub names : seen 1 ≡ true → f.names ≡ g.names
  pub pos : seen 2 ≡ true → f.pos ≡ g.pos
  pub plays : seen 4 ≡ true → f.plays ≡ g.plays

-- they agree on the mask's fields
abbrev pub Agree : ℕ → ListFacts → ListFacts → Type 0
Agree mask f g = AgreeOn (has_field mask) f g

-- they agree on all fields but the mask's
abbrev pub AgreeOutside : ℕ → ListFacts → ListFacts → Type 0
AgreeOutside mask f g = AgreeOn (λ bit. not (has_field mask bit)) f g

-- the fields that a step may change
abbrev pub step_fields : ListStep → ℕ
step_fields (steps.Add name) = 1
step_fields (steps.Remove i) = 3
step_fields (steps.Move i j) = 3
step_fields steps.Clear = 3
step_fields steps.Next = 2
step_fields steps.Prev = 2
step_fields (steps.Jump i) = 2
step_fields steps.Played = 6

abbrev pub act_fields : ListAct → ℕ
act_fields (Step s) = step_fields s
act_fields Play = 6
act_fields PlayAll = 6
act_fields (Watch name) = 0
