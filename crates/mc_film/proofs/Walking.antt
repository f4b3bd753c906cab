-- A walk step by step.
use Rattle.std.proofs.Common.{◌≡◌, ℕ, zero, suc, ◌+◌, ◌-◌, ◌<◌, ◌≤◌, List, ◌++◌, Option, refl, sym, ap, ◌∙◌, append_assoc, arith}
use Rattle.std.proofs.lemmas.List.{append-nil}
use Rattle.mc_packet.specs.declared.packet.Packet.{Packet}
use Rattle.mc_packet.specs.declared.walk.Ending.{Ending}
use Rattle.mc_packet.specs.declared.walk.Ending.TheVariants.{Clean}
use Rattle.mc_packet.specs.declared.walk.Level.{Level}
use Rattle.mc_walk.specs.declared.plan.Plan.{Plan}
use Rattle.mc_walk.specs.declared.plan.Step.TheVariants.{End, On}
use Rattle.mc_walk.specs.Walk.{walk, after, in_front, packets_in, step_at, Rest}

now : (budget i : ℕ) (plan : Plan) (place : ℕ) (level : Level) → i < budget
    → walk (budget - i) plan place level ≡ after (step_at plan place level) (λ to inner. walk (budget - (i + 1)) plan to inner)
unfolding walk
now budget i plan place level lt = let k : budget - i ≡ suc (budget - (i + 1)) = omega arith in rw k refl

pub goes_on : (packets : List Packet) (budget i : ℕ) (plan : Plan) (place to : ℕ) (level inner : Level) (block : Option (List Packet)) (total : Rest) → i < budget → On to inner block ≡ step_at plan place level
    → in_front packets (walk (budget - i) plan place level) ≡ total → in_front (packets ++ packets_in block) (walk (budget - (i + 1)) plan to inner) ≡ total
goes_on packets budget i plan place to level inner block total lt step so_far =
    let one : in_front packets (walk (budget - i) plan place level) ≡ in_front (packets ++ packets_in block) (walk (budget - (i + 1)) plan to inner) =
    rw (now budget i plan place level lt, ← step) (ap (λ (x : List Packet). (x, (walk (budget - (i + 1)) plan to inner).1)) (sym (append_assoc packets (packets_in block) (walk (budget - (i + 1)) plan to inner).0))) in
    sym one ∙ so_far

pub ends : (packets : List Packet) (budget i : ℕ) (plan : Plan) (place : ℕ) (level : Level) (ending : Ending) (total : Rest) → i < budget → End ending ≡ step_at plan place level
    → in_front packets (walk (budget - i) plan place level) ≡ total → (packets, ending) ≡ total
ends packets budget i plan place level ending total lt step so_far =
    let one : in_front packets (walk (budget - i) plan place level) ≡ (packets, ending) =
    rw (now budget i plan place level lt, ← step) (ap (λ (x : List Packet). (x, ending)) (append-nil packets)) in
    sym one ∙ so_far

pub is_done : (packets : List Packet) (budget i : ℕ) (plan : Plan) (place : ℕ) (level : Level) (total : Rest) → budget ≤ i
    → in_front packets (walk (budget - i) plan place level) ≡ total → (packets, Clean) ≡ total
unfolding walk
is_done packets budget i plan place level total le so_far =
    let k : budget - i ≡ zero = omega arith in
    let one : in_front packets (walk (budget - i) plan place level) ≡ (packets, Clean) = rw k (ap (λ (x : List Packet). (x, Clean)) (append-nil packets)) in
    sym one ∙ so_far
