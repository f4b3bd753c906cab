-- The walk over Clusters that stand one behind the other up to the film's end.
use Rattle.std.proofs.Common.{◌≡◌, ℕ, ◌+◌, ◌-◌, ◌<◌, ◌≤◌, ◌^◌, Bool, true, false, List, [], ◌∷◌, length, Option, Some, None, refl, ◌∙◌, subst, arith, length-append, ltb, eq-eqb}
use Rattle.std.proofs.lemmas.Bool.{le-ltb, ne_eqb}
use Rattle.std.specs.Prelude.{◌==◌}
use Rattle.std.specs.List.{AllByRecursion}
use Rattle.mc_packet.specs.declared.walk.Ending.TheVariants.{Clean}
use Rattle.mc_packet.specs.declared.walk.Level.TheVariants as levels
use Rattle.mc_ebml.specs.declared.read.Size.TheVariants.{Known}
use Rattle.mc_ebml.specs.Written.{is_id, head_octets, element_octets}
use Rattle.mc_ebml.specs.Ids.{CLUSTER, TIMESTAMP}
use Rattle.mc_walk.specs.declared.plan.Plan.{Plan}
use Rattle.mc_walk.specs.declared.plan.Step.TheVariants.{End, On}
use Rattle.mc_walk.specs.Walk.{step_at, Rest, in_front}
use Rattle.mc_written.proofs.Lower.{Lower}
use Rattle.mc_written.specs.Elements.{Element, element_text, number}
use Rattle.mc_written.specs.Clusters.{Block, block, blocks_text, Cluster, cluster, cluster_body, clusters_text, packet_at, packets_at, blocks_begin, clusters_packets, CanBeRead, CanBeEntered}
use Rattle.mc_written.proofs.Standing.{Stands, first_part, second_part, lies, head_long}
use Rattle.mc_written.proofs.Lengths.{element_long, number_small, block_short, cluster_short}
use Rattle.mc_written.proofs.Walking.{Walks, walks_on, walks_end, walks_as, step_pass, step_enter}
use Rattle.mc_written.proofs.Blocks.{block_reads}

-- ---- the steps

-- another child of the Segment is passed over
pub step_skip : (law : Lower) (plan : Plan) (at : ℕ) (e : Element) → plan.segment_end ≡ None → is_id e.0 ≡ true → length e.1 < 2 ^ 56 - 1 → (e.0 == CLUSTER) ≡ false
    → Stands plan.octets at (element_text e) → step_at plan at levels.Segment ≡ On (at + length (element_text e)) levels.Segment None
step_skip law plan at e endless is small other s = step_pass law plan at levels.Segment levels.Segment e endless is small s refl refl (rw other refl)

step_stamp : (law : Lower) (plan : Plan) (at end time : ℕ) → plan.segment_end ≡ None → time < 2 ^ 64 → Stands plan.octets at (element_text (number TIMESTAMP time))
    → at + length (element_text (number TIMESTAMP time)) ≤ end
    → step_at plan at (levels.Cluster None (Some end)) ≡ On (at + length (element_text (number TIMESTAMP time))) (levels.Cluster (Some time) (Some end)) None
step_stamp law plan at end time endless fits s inside =
    let e : Element = number TIMESTAMP time in
    let long = element_long e in
    let short = number_small time in
    let within : (end == at) ≡ false = ne_eqb end at (λ same. omega arith) in
    let not_past : ltb end (at + length (element_text e)) ≡ false = le-ltb end (at + length (element_text e)) inside in
    step_pass law plan at (levels.Cluster None (Some end)) (levels.Cluster None (Some end)) e endless refl (omega arith) s (rw within refl) not_past refl
    ∙ rw (law.integers time fits) refl

step_block : (law : Lower) (plan : Plan) (at end time : ℕ) (b : Block) → plan.segment_end ≡ None → CanBeRead plan.tracks plan.scale time b → Stands plan.octets at (element_text (block b))
    → at + length (element_text (block b)) ≤ end
    → step_at plan at (levels.Cluster (Some time) (Some end)) ≡ On (at + length (element_text (block b))) (levels.Cluster (Some time) (Some end)) (Some (packet_at plan.scale time at b ∷ []))
step_block law plan at end time b endless can s inside =
    let e : Element = block b in
    let long = element_long e in
    let fits = block_short plan.tracks plan.scale time b can in
    let within : (end == at) ≡ false = ne_eqb end at (λ same. omega arith) in
    let not_past : ltb end (at + length (element_text e)) ≡ false = le-ltb end (at + length (element_text e)) inside in
    step_pass law plan at (levels.Cluster (Some time) (Some end)) (levels.Cluster (Some time) (Some end)) e endless refl (omega arith) s (rw within refl) not_past refl
    ∙ rw (block_reads law plan.tracks plan.scale time at b can) refl

-- at its end a Cluster is left
cluster_left : (plan : Plan) (time : Option ℕ) (end : ℕ) → plan.segment_end ≡ None → end ≤ length plan.octets
    → step_at plan end (levels.Cluster time (Some end)) ≡ step_at plan end levels.Segment
unfolding step_at
cluster_left plan time end endless within = chosen (end == length plan.octets) refl
  where
    left : (end == end) ≡ true
    left = eq-eqb end end refl

    not_cut : ltb (length plan.octets) end ≡ false
    not_cut = le-ltb (length plan.octets) end within

    chosen : (b : Bool) → (end == length plan.octets) ≡ b → step_at plan end (levels.Cluster time (Some end)) ≡ step_at plan end levels.Segment
    chosen true e = rw (endless, e, not_cut) refl
    chosen false e = rw (endless, e, left) refl

at_end : (plan : Plan) (at : ℕ) → plan.segment_end ≡ None → at ≡ length plan.octets → step_at plan at levels.Segment ≡ End Clean
unfolding step_at
at_end plan at endless e = rw (endless, eq-eqb at (length plan.octets) e) refl

-- ---- the walk

pub blocks_walk : (law : Lower) (plan : Plan) (time end at : ℕ) (bs : List Block) (rest : Rest) → plan.segment_end ≡ None → Stands plan.octets at (blocks_text bs)
    → at + length (blocks_text bs) ≡ end → AllByRecursion (CanBeRead plan.tracks plan.scale time) bs → Walks plan end (levels.Cluster (Some time) (Some end)) rest
    → Walks plan at (levels.Cluster (Some time) (Some end)) (in_front (packets_at plan.scale time at bs) rest)
blocks_walk law plan time end at [] rest endless s e all more =
    let here : end ≡ at = omega arith in
    subst (λ (n : ℕ). Walks plan n (levels.Cluster (Some time) (Some end)) rest) here more
blocks_walk law plan time end at (b ∷ bs) rest endless s e all more =
    let text : List ℕ = element_text (block b) in
    let long = element_long (block b) in
    let lie = lies plan.octets (blocks_text (b ∷ bs)) at s in
    let sum = length-append text (blocks_text bs) in
    let step = step_block law plan at end time b endless all.0 (first_part plan.octets text (blocks_text bs) at s) (omega arith) in
    walks_on plan at (at + length text) (levels.Cluster (Some time) (Some end)) (levels.Cluster (Some time) (Some end)) (Some (packet_at plan.scale time at b ∷ []))
    (in_front (packets_at plan.scale time (at + length text) bs) rest) (omega arith) (omega arith) step
    (blocks_walk law plan time end (at + length text) bs rest endless (second_part plan.octets text (blocks_text bs) at s) (omega arith) all.1 more)

pub cluster_walk : (law : Lower) (plan : Plan) (at : ℕ) (c : Cluster) (rest : Rest) → plan.segment_end ≡ None → Stands plan.octets at (element_text (cluster c)) → CanBeEntered plan.tracks plan.scale c
    → Walks plan (at + length (element_text (cluster c))) levels.Segment rest → Walks plan at levels.Segment (in_front (packets_at plan.scale c.time (blocks_begin at c) c.blocks) rest)
unfolding element_octets
cluster_walk law plan at c rest endless s can more =
    let heads : List ℕ = head_octets CLUSTER (Known (length (cluster_body c))) in
    let stamp : List ℕ = element_text (number TIMESTAMP c.time) in
    let end : ℕ = at + length (element_text (cluster c)) in
    let long = head_long CLUSTER (Known (length (cluster_body c))) in
    let stamp_long = element_long (number TIMESTAMP c.time) in
    let lie = lies plan.octets (element_text (cluster c)) at s in
    let sum = length-append heads (cluster_body c) in
    let body_sum = length-append stamp (blocks_text c.blocks) in
    let body = second_part plan.octets heads (cluster_body c) at s in
    let blocks = second_part plan.octets stamp (blocks_text c.blocks) (at + length heads) body in
    let stamped = step_stamp law plan (at + length heads) end c.time endless can.time (first_part plan.octets stamp (blocks_text c.blocks) (at + length heads) body) (omega arith) in
    let left = walks_as plan end (levels.Cluster (Some c.time) (Some end)) levels.Segment rest (cluster_left plan (Some c.time) end endless lie) more in
    let inside = blocks_walk law plan c.time end (at + length heads + length stamp) c.blocks rest endless blocks (omega arith) can.blocks left in
    walks_on plan at (at + length heads) levels.Segment (levels.Cluster None (Some end)) None (in_front (packets_at plan.scale c.time (blocks_begin at c) c.blocks) rest)
    (omega arith) (omega arith) (step_enter law plan at (cluster_body c) endless (cluster_short plan.tracks plan.scale c can) s)
    (walks_on plan (at + length heads) (at + length heads + length stamp) (levels.Cluster None (Some end)) (levels.Cluster (Some c.time) (Some end)) None
    (in_front (packets_at plan.scale c.time (blocks_begin at c) c.blocks) rest) (omega arith) (omega arith) stamped inside)

-- Clusters up to the film's end
pub clusters_walk : (law : Lower) (plan : Plan) (at : ℕ) (cs : List Cluster) → plan.segment_end ≡ None → Stands plan.octets at (clusters_text cs) → at + length (clusters_text cs) ≡ length plan.octets
    → AllByRecursion (CanBeEntered plan.tracks plan.scale) cs → Walks plan at levels.Segment (clusters_packets plan.scale at cs, Clean)
clusters_walk law plan at [] endless s e all = walks_end plan at levels.Segment Clean (omega arith) (at_end plan at endless (omega arith))
clusters_walk law plan at (c ∷ cs) endless s e all =
    let text : List ℕ = element_text (cluster c) in
    let sum = length-append text (clusters_text cs) in
    cluster_walk law plan at c (clusters_packets plan.scale (at + length text) cs, Clean) endless (first_part plan.octets text (clusters_text cs) at s) all.0
    (clusters_walk law plan (at + length text) cs endless (second_part plan.octets text (clusters_text cs) at s) (omega arith) all.1)
