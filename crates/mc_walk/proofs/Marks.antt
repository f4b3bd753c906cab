-- The place of a block element, with the level that its Cluster has there, is a mark from which that block element is read.
use Rattle.std.proofs.Common.{◌≡◌, ℕ, zero, suc, ◌+◌, ◌<◌, ◌≤◌, List, ◌∷◌, length, Some, None, Result, Ok, Err, refl, sym, ap, ◌∙◌, subst, arith}
use Rattle.std.specs.Prelude.{⊤, ◌||◌, ◌==◌, nat_lt, slice_range}
use Rattle.std.proofs.lemmas.Bool.{cond_both}
use Rattle.mc_packet.specs.declared.packet.Packet.{Packet}
use Rattle.mc_packet.specs.declared.walk.Fault.{Fault}
use Rattle.mc_packet.specs.declared.walk.Level.{Level}
use Rattle.mc_packet.specs.declared.walk.Level.TheVariants as levels
use Rattle.mc_packet.specs.declared.walk.Mark.{Mark}
use Rattle.mc_ebml.specs.declared.read.Head.{Head}
use Rattle.mc_ebml.specs.declared.read.Size.{Size}
use Rattle.mc_ebml.specs.declared.read.Size.TheVariants.{Known, Unknown}
use Rattle.mc_ebml.specs.declared.read.EbmlError.{EbmlError}
use Rattle.mc_ebml.specs.declared.read.EbmlError.TheVariants as errors
use Rattle.mc_ebml.specs.Element.{head_at, uint_of}
use Rattle.mc_walk.specs.declared.plan.Plan.{Plan}
use Rattle.mc_walk.specs.declared.plan.Step.{Step}
use Rattle.mc_walk.specs.declared.plan.Step.TheVariants.{End, On}
use Rattle.mc_walk.specs.declared.movement.Role.{Role}
use Rattle.mc_walk.specs.declared.movement.Role.TheVariants as roles
use Rattle.mc_walk.specs.Blocks.{block_element_of}
use Rattle.mc_walk.specs.Moves.{settle, reenter, is_segment_child, level_end, runs_past, role_of, opens_cluster, move_in}
use Rattle.mc_walk.specs.Walk.{stands_at, stamped, blocked, time_of, passed, moved, headed, step_at, steps}
use Rattle.mc_walk.specs.Frames.{Comes, BlockElement}
use Rattle.mc_walk.specs.Frames.Comes.{here}
use Rattle.mc_walk.specs.Parts.{mark, Part, part, part_after, part_at, place_of, level_of, IsMark}
use Rattle.mc_walk.specs.Parts.IsMark.{at_opening, at_end, at_block}
use Rattle.mc_walk.proofs.Joining.{place-of, level-of, comes-within}
use Rattle.mc_walk.proofs.Framing.{Framed, step-framed, comes-further}

-- ---- a block element changes no level

abbrev StaysIn : Level → Step → Type 0
StaysIn level (End ending) = ⊤
StaysIn level (On to inner None) = ⊤
StaysIn level (On to inner (Some packets)) = inner ≡ level

stamped-stays : (place stop : ℕ) (level inner : Level) (time : Result ℕ EbmlError) → StaysIn level (stamped place stop inner time)
stamped-stays place stop level levels.Segment time = tt
stamped-stays place stop level (levels.Cluster old end) (Ok time) = tt
stamped-stays place stop level (levels.Cluster old end) (Err e) = tt

blocked-stays : (place stop : ℕ) (level : Level) (packets : Result (List Packet) Fault) → StaysIn level (blocked place stop level packets)
blocked-stays place stop level (Ok packets) = refl
blocked-stays place stop level (Err fault) = tt

passed-stays : (plan : Plan) (place : ℕ) (role : Role) (body : List ℕ) (stop : ℕ) (level : Level) → StaysIn level (passed plan place role body stop level)
passed-stays plan place roles.Other body stop level = tt
passed-stays plan place roles.Timestamp body stop level = stamped-stays place stop level level (uint_of body)
passed-stays plan place roles.SimpleBlock body stop level =
    blocked-stays place stop level (block_element_of plan.tracks plan.scale place (time_of level) roles.SimpleBlock body)
passed-stays plan place roles.BlockGroup body stop level =
    blocked-stays place stop level (block_element_of plan.tracks plan.scale place (time_of level) roles.BlockGroup body)

unknown-stays : (plan : Plan) (place : ℕ) (level inner : Level) (id at : ℕ) → StaysIn level (moved plan place (move_in plan.segment_end inner id at Unknown))
unknown-stays plan place level inner id at =
    cond_both (opens_cluster inner id) _ _ (λ m. StaysIn level (moved plan place m))
    (λ e. cond_both (runs_past plan.segment_end at) _ _ (λ m. StaysIn level (moved plan place m)) (λ e. tt) (λ e. tt)) (λ e. tt)

known-stays : (plan : Plan) (place : ℕ) (level inner : Level) (id at size : ℕ) → ((body : List ℕ) → StaysIn level (passed plan place (role_of inner id) body (at + size) inner))
    → StaysIn level (moved plan place (move_in plan.segment_end inner id at (Known size)))
known-stays plan place level inner id at size each =
    cond_both (runs_past (level_end inner) (at + size) || runs_past plan.segment_end (at + size)) _ _ (λ m. StaysIn level (moved plan place m)) (λ e. tt)
    (λ e. cond_both (opens_cluster inner id) _ _ (λ m. StaysIn level (moved plan place m)) (λ e. tt)
    (λ e. cond_both (nat_lt (length plan.octets) (at + size)) _ _ (StaysIn level) (λ e. tt) (λ e. each (slice_range plan.octets at (at + size)))))

-- at the same level, or among the children of the Segment, where no block element stands
same-stays : (plan : Plan) (place : ℕ) (level : Level) (id at : ℕ) (size : Size) → StaysIn level (moved plan place (move_in plan.segment_end level id at size))
same-stays plan place level id at Unknown = unknown-stays plan place level level id at
same-stays plan place level id at (Known size) = known-stays plan place level level id at size (λ body. passed-stays plan place (role_of level id) body (at + size) level)

segment-stays : (plan : Plan) (place : ℕ) (level : Level) (id at : ℕ) (size : Size) → StaysIn level (moved plan place (move_in plan.segment_end levels.Segment id at size))
segment-stays plan place level id at Unknown = unknown-stays plan place level levels.Segment id at
segment-stays plan place level id at (Known size) = known-stays plan place level levels.Segment id at size (λ body. tt)

element-stays : (plan : Plan) (place : ℕ) (level : Level) (id at : ℕ) (size : Size)
    → StaysIn level (moved plan place (move_in plan.segment_end (reenter (settle level place) id) id at size))
element-stays plan place levels.Segment id at size = segment-stays plan place levels.Segment id at size
element-stays plan place (levels.Cluster time None) id at size =
    cond_both (is_segment_child id) _ _ (λ inner. StaysIn (levels.Cluster time None) (moved plan place (move_in plan.segment_end inner id at size)))
    (λ e. segment-stays plan place (levels.Cluster time None) id at size) (λ e. same-stays plan place (levels.Cluster time None) id at size)
element-stays plan place (levels.Cluster time (Some end)) id at size =
    cond_both (end == place) _ _ (λ inner. StaysIn (levels.Cluster time (Some end)) (moved plan place (move_in plan.segment_end (reenter inner id) id at size)))
    (λ e. segment-stays plan place (levels.Cluster time (Some end)) id at size) (λ e. same-stays plan place (levels.Cluster time (Some end)) id at size)

headed-stays : (plan : Plan) (place : ℕ) (level : Level) (h : Result Head EbmlError) → StaysIn level (headed plan place (settle level place) h)
headed-stays plan place level (Ok h) = element-stays plan place level h.id h.body h.size
headed-stays plan place level (Err errors.Short) = tt
headed-stays plan place level (Err errors.BadId) = tt
headed-stays plan place level (Err errors.BadSize) = tt
headed-stays plan place level (Err errors.BadUint) = tt
headed-stays plan place level (Err errors.BadText) = tt

step-stays : (plan : Plan) (place : ℕ) (level : Level) → StaysIn level (step_at plan place level)
unfolding step_at
step-stays plan place level =
    cond_both (stands_at plan.segment_end place || place == length plan.octets) _ _ (StaysIn level) (λ e. tt) (λ e. headed-stays plan place level (head_at plan.octets place))

-- ---- the block element of a part

abbrev From : Plan → ℕ → Level → Type 0
From plan place level = Comes plan plan.opening levels.Segment place level

-- a part with a packet is that of a block element
abbrev pub IsOfBlock : Plan → Part → Type 0
IsOfBlock plan p = (b : BlockElement plan) × (p ≡ record { to = mark b.to b.inner; packets = b.frames; ending = None })

abbrev GivesBlock : Plan → Part → Type 0
GivesBlock plan q = (p : Packet) (ps : List Packet) → q.packets ≡ p ∷ ps → IsOfBlock plan q

step-gives : (plan : Plan) (place : ℕ) (level : Level) (f : ℕ → Level → Part) → From plan place level → (step : Step) → step_at plan place level ≡ step
    → ((to : ℕ) (inner : Level) → From plan to inner → GivesBlock plan (f to inner)) → GivesBlock plan (part_after place level step f)
step-gives plan place level f comes (End ending) is on = λ p ps has. absurd (cc has)
step-gives plan place level f comes (On to inner None) is on = on to inner (comes-further plan plan.opening levels.Segment place level to inner None comes is)
step-gives plan place level f comes (On to inner (Some packets)) is on = λ p ps has.
    (record { place = place; level = level; to = to; inner = inner; frames = packets; stands = comes; holds = is }, refl)

part-gives : (n : ℕ) (plan : Plan) (place : ℕ) (level : Level) → From plan place level → GivesBlock plan (part n plan place level)
unfolding part
part-gives zero plan place level comes = λ p ps has. absurd (cc has)
part-gives (suc n) plan place level comes =
    step-gives plan place level (λ to inner. part n plan to inner) comes (step_at plan place level) refl (λ to inner further. part-gives n plan to inner further)

-- ---- the walk comes to each mark

abbrev Reaches : Plan → Part → Type 0
Reaches plan p = From plan p.to.pos p.to.level

step-reaches : (plan : Plan) (place : ℕ) (level : Level) (f : ℕ → Level → Part) → From plan place level → (step : Step) → step_at plan place level ≡ step
    → ((to : ℕ) (inner : Level) → From plan to inner → Reaches plan (f to inner)) → Reaches plan (part_after place level step f)
step-reaches plan place level f comes (End ending) is on = comes
step-reaches plan place level f comes (On to inner None) is on = on to inner (comes-further plan plan.opening levels.Segment place level to inner None comes is)
step-reaches plan place level f comes (On to inner (Some packets)) is on = comes-further plan plan.opening levels.Segment place level to inner (Some packets) comes is

part-reaches : (n : ℕ) (plan : Plan) (place : ℕ) (level : Level) → From plan place level → Reaches plan (part n plan place level)
unfolding part
part-reaches zero plan place level comes = comes
part-reaches (suc n) plan place level comes =
    step-reaches plan place level (λ to inner. part n plan to inner) comes (step_at plan place level) refl (λ to inner further. part-reaches n plan to inner further)

-- a mark behind the first octet stands for its own place and level
at-mark : (plan : Plan) (m : Mark) → 0 < m.pos → From plan m.pos m.level → From plan (place_of plan m) (level_of m)
at-mark plan m behind comes = rw (place-of plan m behind, level-of m behind) comes

mark-comes : (plan : Plan) (m : Mark) → 0 < plan.opening → plan.opening ≤ length plan.octets → IsMark plan m → From plan (place_of plan m) (level_of m)
mark-comes plan m behind opens at_opening = here plan.opening levels.Segment
mark-comes plan m behind opens (at_end before is) =
    let comes = part-reaches (steps plan) plan (place_of plan before) (level_of before) (mark-comes plan before behind opens is) in
    let further = comes-within plan plan.opening levels.Segment (part_at plan before).to.pos (part_at plan before).to.level comes opens in
    at-mark plan (part_at plan before).to (omega (arith, further.0)) comes
mark-comes plan m behind opens (at_block b) =
    let further = comes-within plan plan.opening levels.Segment b.place b.level b.stands opens in
    at-mark plan (mark b.place b.level) (omega (arith, further.0)) b.stands

-- ---- the part from the mark of a block element

part-of : (plan : Plan) (b : BlockElement plan) → part (steps plan) plan b.place b.level ≡ record { to = mark b.to b.inner; packets = b.frames; ending = None }
unfolding part
part-of plan b = let k : steps plan ≡ suc (length plan.octets) = omega arith in rw (k, b.holds) refl

element-part : (plan : Plan) (b : BlockElement plan) → 0 < b.place → part_at plan (mark b.place b.level) ≡ record { to = mark b.to b.inner; packets = b.frames; ending = None }
element-part plan b behind = rw (place-of plan (mark b.place b.level) behind, level-of (mark b.place b.level) behind) (part-of plan b)

element-level : (plan : Plan) (b : BlockElement plan) → b.inner ≡ b.level
element-level plan b = rw b.holds at (step-stays plan b.place b.level)

element-place : (plan : Plan) (b : BlockElement plan) (p : Packet) (ps : List Packet) → b.frames ≡ p ∷ ps → p.pos.block ≡ b.place
element-place plan b p ps is =
    let framed : Framed b.place (On b.to b.inner (Some (p ∷ ps))) = rw (b.holds, is) at (step-framed plan b.place b.level) in framed.0.0.0

-- the mark of a part's block element, and the part from there
abbrev pub IsBlockAt : Plan → Mark → Mark → Type 0
IsBlockAt plan m at = IsMark plan at × (part_at plan at ≡ part_at plan m)

by-element : (plan : Plan) (m : Mark) (p : Packet) (ps : List Packet) → 0 < plan.opening → plan.opening ≤ length plan.octets → (part_at plan m).packets ≡ p ∷ ps → IsOfBlock plan (part_at plan m)
    → IsBlockAt plan m (mark p.pos.block (part_at plan m).to.level)
by-element plan m p ps behind opens has of =
    let b = of.0 in
    let frames : b.frames ≡ p ∷ ps = sym (ap (λ (q : Part). q.packets) of.1) ∙ has in
    let level : (part_at plan m).to.level ≡ b.level = ap (λ (q : Part). q.to.level) of.1 ∙ element-level plan b in
    let further = comes-within plan plan.opening levels.Segment b.place b.level b.stands opens in
    let place = element-place plan b p ps frames in
    let same : mark p.pos.block (part_at plan m).to.level ≡ mark b.place b.level = cc (place, level) in
    subst (IsBlockAt plan m) (sym same) (at_block b, element-part plan b (omega (arith, further.0)) ∙ sym of.1)

-- a packet of a part tells a mark from which the same part is read
pub block-marked : (plan : Plan) (m : Mark) (p : Packet) (ps : List Packet) → 0 < plan.opening → plan.opening ≤ length plan.octets → IsMark plan m → (part_at plan m).packets ≡ p ∷ ps
    → IsBlockAt plan m (mark p.pos.block (part_at plan m).to.level)
block-marked plan m p ps behind opens is has =
    by-element plan m p ps behind opens has (part-gives (steps plan) plan (place_of plan m) (level_of m) (mark-comes plan m behind opens is) p ps has)
