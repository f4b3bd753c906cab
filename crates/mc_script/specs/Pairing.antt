-- What is true of the acts of every script: a job is taken and given in turn, and numbers and times are in their bounds.
use Rattle.std.specs.Prelude.{◌≡◌, ◌≤◌, ℕ, ℤ, pos, neg_ℤ, ◌≤ℤ◌, ◌^◌, Bool, true, not, List, [], ◌∷◌, Option, Some, None, ⊤}
use Rattle.std.specs.List.{AllByRecursion}
use Rattle.mc_script.specs.declared.acts.Act.{Act}
use Rattle.mc_script.specs.declared.acts.Act.TheVariants as acts
use Rattle.mc_script.specs.Script.{out_after}

-- whether an act may stand where a job is out, or none is
abbrev pub may_act : Act → Bool → Bool
may_act (acts.Seek t dir) out = true
may_act (acts.Switch set at) out = true
may_act acts.Show out = true
may_act (acts.Demux count) out = not out
may_act acts.DemuxTake out = not out
may_act acts.DemuxGive out = out
may_act (acts.Read kind count) out = true
may_act acts.Drain out = not out

-- each act may stand in its place; whether a job is out before them
abbrev pub IsPaired : Bool → List (ℕ × Act) → Type 0
IsPaired out [] = ⊤
IsPaired out (act ∷ acts) = (may_act act.1 out ≡ true) × IsPaired (out_after act.1 out) acts

-- a time at most 2^62 nanoseconds on either side of 0
abbrev pub IsNear : ℤ → Type 0
IsNear t = (neg_ℤ (pos (2 ^ 62)) ≤ℤ t) × (t ≤ℤ pos (2 ^ 62))

abbrev pub IsNearIfAny : Option ℤ → Type 0
IsNearIfAny None = ⊤
IsNearIfAny (Some t) = IsNear t

-- 1 to 1000000
abbrev pub IsCount : ℕ → Type 0
IsCount n = (1 ≤ n) × (n ≤ 1000000)

-- an act's counts and times are in their bounds
abbrev pub IsBounded : Act → Type 0
IsBounded (acts.Seek t dir) = IsNear t
IsBounded (acts.Switch set at) = IsNearIfAny at
IsBounded acts.Show = ⊤
IsBounded (acts.Demux count) = IsCount count
IsBounded acts.DemuxTake = ⊤
IsBounded acts.DemuxGive = ⊤
IsBounded (acts.Read kind count) = IsCount count
IsBounded acts.Drain = ⊤

-- so are those of all acts
abbrev pub AreBounded : List (ℕ × Act) → Type 0
AreBounded acts = AllByRecursion (λ act. IsBounded act.1) acts
