-- A walk to the end of a part, step by step.
use Rattle.std.proofs.Common.{◌≡◌, ℕ, zero, suc, ◌+◌, ◌-◌, ◌<◌, ◌≤◌, List, [], Some, None, refl, sym, ◌∙◌, arith}
use Rattle.mc_packet.specs.declared.packet.Packet.{Packet}
use Rattle.mc_packet.specs.declared.walk.Ending.{Ending}
use Rattle.mc_packet.specs.declared.walk.Ending.TheVariants.{Clean}
use Rattle.mc_packet.specs.declared.walk.Level.{Level}
use Rattle.mc_packet.specs.declared.walk.Mark.{Mark}
use Rattle.mc_packet.specs.declared.walk.Chunk.{Chunk}
use Rattle.mc_walk.specs.declared.plan.Plan.{Plan}
use Rattle.mc_walk.specs.declared.plan.Step.TheVariants.{End, On}
use Rattle.mc_walk.specs.Walk.{step_at}
use Rattle.mc_walk.specs.Parts.{mark, part, part_after, chunk_of}

-- the chunk from a mark on that a walk of so many steps comes to
abbrev pub chunk_by : Mark → ℕ → Plan → ℕ → Level → Chunk
chunk_by from n plan place level = chunk_of from (part n plan place level)

now : (from : Mark) (budget i : ℕ) (plan : Plan) (place : ℕ) (level : Level) → i < budget
    → chunk_by from (budget - i) plan place level ≡ chunk_of from (part_after place level (step_at plan place level) (λ to inner. part (budget - (i + 1)) plan to inner))
unfolding part
now from budget i plan place level lt = let k : budget - i ≡ suc (budget - (i + 1)) = omega arith in rw k refl

pub goes_on : (from : Mark) (budget i : ℕ) (plan : Plan) (place to : ℕ) (level inner : Level) (total : Chunk) → i < budget → On to inner None ≡ step_at plan place level
    → chunk_by from (budget - i) plan place level ≡ total → chunk_by from (budget - (i + 1)) plan to inner ≡ total
goes_on from budget i plan place to level inner total lt step so_far =
    let one : chunk_by from (budget - i) plan place level ≡ chunk_by from (budget - (i + 1)) plan to inner =
    rw (now from budget i plan place level lt, ← step) refl in sym one ∙ so_far

pub gives : (from : Mark) (budget i : ℕ) (plan : Plan) (place to : ℕ) (level inner : Level) (packets : List Packet) (total : Chunk) → i < budget
    → On to inner (Some packets) ≡ step_at plan place level → chunk_by from (budget - i) plan place level ≡ total
    → record { from = from; to = mark to inner; packets = packets; ending = None } ≡ total
gives from budget i plan place to level inner packets total lt step so_far =
    let one : chunk_by from (budget - i) plan place level ≡ record { from = from; to = mark to inner; packets = packets; ending = None } =
    rw (now from budget i plan place level lt, ← step) refl in sym one ∙ so_far

pub ends : (from : Mark) (budget i : ℕ) (plan : Plan) (place : ℕ) (level : Level) (ending : Ending) (total : Chunk) → i < budget → End ending ≡ step_at plan place level
    → chunk_by from (budget - i) plan place level ≡ total → record { from = from; to = mark place level; packets = []; ending = Some ending } ≡ total
ends from budget i plan place level ending total lt step so_far =
    let one : chunk_by from (budget - i) plan place level ≡ record { from = from; to = mark place level; packets = []; ending = Some ending } =
    rw (now from budget i plan place level lt, ← step) refl in sym one ∙ so_far

pub is_done : (from : Mark) (budget i : ℕ) (plan : Plan) (place : ℕ) (level : Level) (total : Chunk) → budget ≤ i
    → chunk_by from (budget - i) plan place level ≡ total → record { from = from; to = mark place level; packets = []; ending = Some Clean } ≡ total
unfolding part
is_done from budget i plan place level total le so_far =
    let k : budget - i ≡ zero = omega arith in
    let one : chunk_by from (budget - i) plan place level ≡ record { from = from; to = mark place level; packets = []; ending = Some Clean } = rw k refl in
    sym one ∙ so_far
