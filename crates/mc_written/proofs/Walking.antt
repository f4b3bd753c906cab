-- The walk from element to element, where each stands whole.
use Rattle.std.proofs.Common.{◌≡◌, ℕ, zero, suc, ◌+◌, ◌-◌, ◌<◌, ◌≤◌, ◌^◌, true, false, List, [], length, Option, Some, None, Ok, refl, sym, ap, ◌∙◌, arith, length-append, ltb}
use Rattle.std.proofs.lemmas.Bool.{le-ltb, ne_eqb}
use Rattle.std.specs.Prelude.{slice_range, ◌==◌}
use Rattle.mc_packet.specs.declared.packet.Packet.{Packet}
use Rattle.mc_packet.specs.declared.walk.Ending.{Ending}
use Rattle.mc_packet.specs.declared.walk.Level.{Level}
use Rattle.mc_packet.specs.declared.walk.Level.TheVariants as levels
use Rattle.mc_ebml.specs.declared.read.Head.{Head}
use Rattle.mc_ebml.specs.declared.read.Size.TheVariants.{Known}
use Rattle.mc_ebml.specs.Element.{head_at}
use Rattle.mc_ebml.specs.Written.{is_id, head_octets, element_octets}
use Rattle.mc_ebml.specs.Ids.{CLUSTER}
use Rattle.mc_walk.specs.declared.plan.Plan.{Plan}
use Rattle.mc_walk.specs.declared.plan.Step.TheVariants.{End, On}
use Rattle.mc_walk.specs.Moves.{settle, reenter, move_of, level_end, runs_past, role_of, opens_cluster}
use Rattle.mc_walk.specs.Walk.{step_at, moved, passed, walk, Rest, in_front, packets_in}
use Rattle.mc_written.proofs.Lower.{Lower}
use Rattle.mc_written.specs.Elements.{Element, element_text}
use Rattle.mc_written.proofs.Standing.{Stands, second_part, lies, range_is, head_stands, head_long}

-- ---- enough steps

-- the walk from a place on, with each number of steps that is enough
abbrev pub Walks : Plan → ℕ → Level → Rest → Type 0
Walks plan at level rest = (n : ℕ) → length plan.octets + 1 ≤ at + n → walk n plan at level ≡ rest

pub walks_on : (plan : Plan) (at to : ℕ) (level inner : Level) (block : Option (List Packet)) (rest : Rest) → at ≤ length plan.octets → at < to
    → step_at plan at level ≡ On to inner block → Walks plan to inner rest → Walks plan at level (in_front (packets_in block) rest)
unfolding walk
walks_on plan at to level inner block rest within onward step more zero enough = absurd (omega arith)
walks_on plan at to level inner block rest within onward step more (suc n) enough = rw step (ap (in_front (packets_in block)) (more n (omega arith)))

pub walks_end : (plan : Plan) (at : ℕ) (level : Level) (ending : Ending) → at ≤ length plan.octets → step_at plan at level ≡ End ending → Walks plan at level ([], ending)
unfolding walk
walks_end plan at level ending within step zero enough = absurd (omega arith)
walks_end plan at level ending within step (suc n) enough = rw step refl

pub walks_as : (plan : Plan) (at : ℕ) (level other : Level) (rest : Rest) → step_at plan at level ≡ step_at plan at other → Walks plan at other rest → Walks plan at level rest
unfolding walk
walks_as plan at level other rest same more zero enough = more zero enough
walks_as plan at level other rest same more (suc n) enough = rw same (more (suc n) enough)

-- ---- one step

-- at a head
pub step_head : (plan : Plan) (at : ℕ) (level : Level) (h : Head) → plan.segment_end ≡ None → at < length plan.octets → head_at plan.octets at ≡ Ok h
    → step_at plan at level ≡ moved plan at (move_of None (settle level at) h.id h.body h.size)
unfolding step_at
step_head plan at level h endless before head =
    let more : (at == length plan.octets) ≡ false = ne_eqb at (length plan.octets) (λ e. omega arith) in
    rw (endless, more, head) refl

-- at a whole element that is not entered
pub step_pass : (law : Lower) (plan : Plan) (at : ℕ) (level inner : Level) (e : Element) → plan.segment_end ≡ None → is_id e.0 ≡ true → length e.1 < 2 ^ 56 - 1
    → Stands plan.octets at (element_text e) → reenter (settle level at) e.0 ≡ inner → runs_past (level_end inner) (at + length (element_text e)) ≡ false
    → opens_cluster inner e.0 ≡ false → step_at plan at level ≡ passed plan at (role_of inner e.0) e.1 (at + length (element_text e)) inner
unfolding element_octets
step_pass law plan at level inner e endless is small s entered inside other =
    let heads : List ℕ = head_octets e.0 (Known (length e.1)) in
    let long = head_long e.0 (Known (length e.1)) in
    let body_at : ℕ = at + length heads in
    let head = head_stands law plan.octets e.1 at e.0 (Known (length e.1)) is small s in
    let lie = lies plan.octets (element_text e) at s in
    let stop : body_at + length e.1 ≡ at + length (element_text e) = omega (arith, length-append heads e.1) in
    let range : slice_range plan.octets body_at (at + length (element_text e)) ≡ e.1 =
    range_is plan.octets e.1 body_at (at + length (element_text e)) (second_part plan.octets heads e.1 at s) (sym stop) in
    let whole : ltb (length plan.octets) (at + length (element_text e)) ≡ false = le-ltb (length plan.octets) (at + length (element_text e)) lie in
    step_head plan at level (record { id = e.0; size = Known (length e.1); body = body_at }) endless (omega (arith, length-append heads e.1)) head
    ∙ rw (entered, stop, inside, other, whole, range) refl

-- at a Cluster of known size, which is entered
pub step_enter : (law : Lower) (plan : Plan) (at : ℕ) (body : List ℕ) → plan.segment_end ≡ None → length body < 2 ^ 56 - 1 → Stands plan.octets at (element_text (CLUSTER, body))
    → step_at plan at levels.Segment ≡ On (at + length (head_octets CLUSTER (Known (length body)))) (levels.Cluster None (Some (at + length (element_text (CLUSTER, body))))) None
unfolding element_octets
step_enter law plan at body endless small s =
    let heads : List ℕ = head_octets CLUSTER (Known (length body)) in
    let long = head_long CLUSTER (Known (length body)) in
    let head = head_stands law plan.octets body at CLUSTER (Known (length body)) refl small s in
    let lie = lies plan.octets (element_text (CLUSTER, body)) at s in
    let stop : at + length heads + length body ≡ at + length (element_text (CLUSTER, body)) = omega (arith, length-append heads body) in
    step_head plan at levels.Segment (record { id = CLUSTER; size = Known (length body); body = at + length heads }) endless (omega (arith, length-append heads body)) head
    ∙ rw stop refl
