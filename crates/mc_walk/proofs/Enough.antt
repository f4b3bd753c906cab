-- A walk and a part are the same for each number of steps that is enough, and where a part ends.
use Rattle.std.proofs.Common.{◌≡◌, ℕ, zero, suc, ◌-◌, ◌<◌, ◌≤◌, length, Some, None, refl, ap, arith}
use Rattle.mc_packet.specs.declared.walk.Level.{Level}
use Rattle.mc_walk.specs.declared.plan.Plan.{Plan}
use Rattle.mc_walk.specs.declared.plan.Step.{Step}
use Rattle.mc_walk.specs.declared.plan.Step.TheVariants.{End, On}
use Rattle.mc_walk.specs.Walk.{step_at, walk, after, in_front, packets_in, Rest, Rises}
use Rattle.mc_walk.specs.Parts.{Part, part, part_after}
use Rattle.mc_walk.proofs.Rising.{step-rises}

-- ---- enough steps

after-same : (step : Step) (place len : ℕ) (f g : ℕ → Level → Rest) → Rises place len step
    → ((to : ℕ) (inner : Level) → place < to → to ≤ len → f to inner ≡ g to inner) → after step f ≡ after step g
after-same (End ending) place len f g rises same = refl
after-same (On to inner block) place len f g rises same = ap (in_front (packets_in block)) (same to inner rises.0 rises.1)

-- there are fewer steps from a place on than octets behind it and one
pub walk-enough : (n m : ℕ) (plan : Plan) (place : ℕ) (level : Level) → place ≤ length plan.octets → length plan.octets - place < n → length plan.octets - place < m
    → walk n plan place level ≡ walk m plan place level
unfolding walk
walk-enough zero m plan place level in_film enough enough' = absurd (omega arith)
walk-enough (suc n) zero plan place level in_film enough enough' = absurd (omega arith)
walk-enough (suc n) (suc m) plan place level in_film enough enough' =
    after-same (step_at plan place level) place (length plan.octets) (λ to inner. walk n plan to inner) (λ to inner. walk m plan to inner) (step-rises plan place level in_film)
    (λ to inner onward within. walk-enough n m plan to inner within (omega arith) (omega arith))

part_after-same : (step : Step) (place len : ℕ) (level : Level) (f g : ℕ → Level → Part) → Rises place len step
    → ((to : ℕ) (inner : Level) → place < to → to ≤ len → f to inner ≡ g to inner) → part_after place level step f ≡ part_after place level step g
part_after-same (End ending) place len level f g rises same = refl
part_after-same (On to inner None) place len level f g rises same = same to inner rises.0 rises.1
part_after-same (On to inner (Some packets)) place len level f g rises same = refl

pub part-enough : (n m : ℕ) (plan : Plan) (place : ℕ) (level : Level) → place ≤ length plan.octets → length plan.octets - place < n → length plan.octets - place < m
    → part n plan place level ≡ part m plan place level
unfolding part
part-enough zero m plan place level in_film enough enough' = absurd (omega arith)
part-enough (suc n) zero plan place level in_film enough enough' = absurd (omega arith)
part-enough (suc n) (suc m) plan place level in_film enough enough' =
    part_after-same (step_at plan place level) place (length plan.octets) level (λ to inner. part n plan to inner) (λ to inner. part m plan to inner) (step-rises plan place level in_film)
    (λ to inner onward within. part-enough n m plan to inner within (omega arith) (omega arith))

-- ---- where a part ends

-- at its place or behind it, within the film, and behind it where the film goes on
abbrev pub EndsOnward : ℕ → ℕ → Part → Type 0
EndsOnward place len p = (place ≤ p.to.pos) × (p.to.pos ≤ len) × (p.ending ≡ None → place < p.to.pos)

part_after-to : (step : Step) (place len : ℕ) (level : Level) (f : ℕ → Level → Part) → place ≤ len → Rises place len step
    → ((to : ℕ) (inner : Level) → place < to → to ≤ len → EndsOnward to len (f to inner)) → EndsOnward place len (part_after place level step f)
part_after-to (End ending) place len level f in_film rises to_end = (omega arith, in_film, λ goes_on. absurd (cc goes_on))
part_after-to (On to inner None) place len level f in_film rises to_end =
    let further = to_end to inner rises.0 rises.1 in
    (omega arith, further.1, λ goes_on. let behind = further.2 goes_on in omega arith)
part_after-to (On to inner (Some packets)) place len level f in_film rises to_end = (omega arith, rises.1, λ goes_on. rises.0)

pub part-to : (n : ℕ) (plan : Plan) (place : ℕ) (level : Level) → place ≤ length plan.octets → EndsOnward place (length plan.octets) (part n plan place level)
unfolding part
part-to zero plan place level in_film = (omega arith, in_film, λ goes_on. absurd (cc goes_on))
part-to (suc n) plan place level in_film =
    part_after-to (step_at plan place level) place (length plan.octets) level (λ to inner. part n plan to inner) in_film (step-rises plan place level in_film)
    (λ to inner onward within. part-to n plan to inner within)
