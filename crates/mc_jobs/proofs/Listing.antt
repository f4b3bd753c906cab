-- A film's list: its places rise, its lanes are small, and only frame 0 of a block is a sync point.
use Rattle.std.proofs.Common.{◌≡◌, ℕ, zero, suc, ◌+◌, ◌-◌, ◌<◌, ◌≤◌, Bool, true, List, [], ◌∷◌, ◌++◌, length, drop, Option, Some, None, Result, Ok, Err, refl, ap, inl, inr, arith}
use Rattle.std.proofs.lemmas.Bool.{cases_Bool, cond_both, and_parts, eqb-true}
use Rattle.std.proofs.lemmas.List.{length-replicate}
use Rattle.std.proofs.lemmas.List.Elements.{All-head, All-take, All-drop}
use Rattle.std.specs.Prelude.{IfOk, IfSome, ⊤, sum, slice_range, option_map, ◌==◌, ◌&&◌, ◌||◌, ◌%◌, ◌/◌, nat_lt, nat_le}
use Rattle.std.specs.List.{AllByRecursion}
use Rattle.mc_packet.specs.declared.packet.Packet.{Packet}
use Rattle.mc_packet.specs.declared.walk.Fault.{Fault}
use Rattle.mc_packet.specs.declared.walk.Level.{Level}
use Rattle.mc_packet.specs.declared.walk.Level.TheVariants as levels
use Rattle.mc_packet.specs.Shape.{StandsBefore, InOrder}
use Rattle.mc_ebml.specs.declared.read.Head.{Head}
use Rattle.mc_ebml.specs.declared.read.EbmlError.{EbmlError}
use Rattle.mc_ebml.specs.declared.read.EbmlError.TheVariants as errors
use Rattle.mc_ebml.specs.Element.{head_at, uint_of}
use Rattle.mc_block.specs.declared.error.BlockError.{BlockError}
use Rattle.mc_block.specs.declared.parts.BlockBody.{BlockBody}
use Rattle.mc_block.specs.declared.parts.BlockHead.{BlockHead}
use Rattle.mc_block.specs.declared.parts.Place.{Place}
use Rattle.mc_block.specs.Frames.{Front, ◌then◌, size_in_front, next_size, coded_sizes, fixed_sizes, lace_sizes, spans, fitted, laced, lacing_of, has_lace, is_laced, frames_in, frames_of}
use Rattle.mc_block.specs.Group.{children_of, first_block}
use Rattle.mc_block.specs.Block.{head_of, is_large, simple_body_of, block_in, block_among, group_body_of, frame_time, in_range, is_key, packets_from, packets_of, track_of, ◌>>=◌ as ◌and_then◌}
use Rattle.mc_block.proofs.Laces.{single_frame}
use Rattle.mc_tracks.specs.declared.track.Track.{Track}
use Rattle.mc_walk.specs.declared.plan.Plan.{Plan}
use Rattle.mc_walk.specs.declared.plan.Step.{Step}
use Rattle.mc_walk.specs.declared.plan.Step.TheVariants.{End, On}
use Rattle.mc_walk.specs.declared.movement.Role.{Role}
use Rattle.mc_walk.specs.declared.movement.Role.TheVariants as roles
use Rattle.mc_walk.specs.declared.movement.Move.{Move}
use Rattle.mc_walk.specs.declared.movement.Move.TheVariants as moves
use Rattle.mc_walk.specs.Moves.{settle, move_of}
use Rattle.mc_walk.specs.Blocks.{◌>>=◌, faulted, some_body, body_in, known_track, timed, tracked, opened, block_element_of}
use Rattle.mc_walk.specs.Walk.{stands_at, stamped, blocked, time_of, passed, moved, headed, step_at, steps, walk, after, film_walk, Rest}
use Rattle.mc_walk.proofs.Framing.{are-its-frames}
use Rattle.mc_outside.specs.Shelf.{AreBytes}
use Rattle.mc_journal.specs.Films.{IsFilm, IsRising, HasLanes, at, rank}
use Rattle.mc_filmed.specs.Films.{plan_packets}
use Rattle.mc_index.specs.Scans.{IsPlan}

-- ---- octets

range-octets : (octets : List ℕ) (from to : ℕ) → AreBytes octets → AreBytes (slice_range octets from to)
range-octets octets from to all = All-take (λ b. b < 256) (to - from) (drop from octets) (All-drop (λ b. b < 256) from octets all)

-- ---- how many frames a block has

abbrev Counts : ℕ → List ℕ × List ℕ → Type 0
Counts n x = length x.0 ≡ n

front-counts : (size n : ℕ) (r : Front (List ℕ)) → IfSome r (Counts n) → IfSome (size_in_front size r) (Counts (suc n))
front-counts size n None h = tt
front-counts size n (Some x) h = ap suc h

then-counts : {A : Type 0} (n : ℕ) (r : Front A) (next : A → List ℕ → Front (List ℕ)) → ((x : A) (left : List ℕ) → IfSome (next x left) (Counts n)) → IfSome (r then next) (Counts n)
then-counts n None next each = tt
then-counts n (Some x) next each = each x.0 x.1

coded-counts : (lacing : _) (n : ℕ) (before : Option ℕ) (octets : List ℕ) → IfSome (coded_sizes lacing n before octets) (Counts n)
coded-counts lacing zero before octets = refl
coded-counts lacing (suc n) before octets =
    then-counts (suc n) (next_size lacing before octets) (λ size left. size_in_front size (coded_sizes lacing n (Some size) left))
    (λ size left. front-counts size n (coded_sizes lacing n (Some size) left) (coded-counts lacing n (Some size) left))

fixed-counts : (n : ℕ) (octets : List ℕ) → IfSome (fixed_sizes n octets) (Counts n)
fixed-counts n octets = cond_both (length octets % (n + 1) == 0) _ _ (λ r. IfSome r (Counts n)) (λ e. length-replicate n (length octets / (n + 1))) (λ e. tt)

spans-count : (from stop : ℕ) (sizes : List ℕ) → length (spans from stop sizes) ≡ suc (length sizes)
spans-count from stop [] = refl
spans-count from stop (size ∷ sizes) = ap suc (spans-count (from + size) stop sizes)

abbrev AreFew : List (ℕ × ℕ) → Type 0
AreFew frames = length frames ≤ 256

fitted-few : (stop n : ℕ) (r : Front (List ℕ)) → n < 256 → IfSome r (Counts n) → IfOk (fitted stop r) AreFew
fitted-few stop n None small counts = tt
fitted-few stop n (Some x) small counts =
    cond_both (nat_le (sum x.0) (length x.1)) _ _ (λ r. IfOk r AreFew)
    (λ e. let count = spans-count (stop - length x.1) stop x.0 in omega (arith, count, counts, small)) (λ e. tt)

laced-few : (lacing : _) (rest : List ℕ) → ((n : ℕ) (octets : List ℕ) → IfSome (lace_sizes lacing n octets) (Counts n)) → AreBytes rest → IfOk (laced lacing rest) AreFew
laced-few lacing [] counts all = tt
laced-few lacing (n ∷ octets) counts all =
    fitted-few (length (n ∷ octets)) n (lace_sizes lacing n octets) (All-head (λ b. b < 256) n octets all) (counts n octets)

lacing-counts : (flags n : ℕ) (octets : List ℕ) → IfSome (lace_sizes (lacing_of flags) n octets) (Counts n)
lacing-counts flags n octets =
    let bits = flags / 2 % 4 in
    cond_both (bits == 0) _ _ (λ lacing. IfSome (coded_sizes lacing n None octets) (Counts n) → IfSome (lace_sizes lacing n octets) (Counts n)) (λ e h. h) (λ e.
    cond_both (bits == 1) _ _ (λ lacing. IfSome (coded_sizes lacing n None octets) (Counts n) → IfSome (lace_sizes lacing n octets) (Counts n)) (λ e h. h) (λ e.
    cond_both (bits == 2) _ _ (λ lacing. IfSome (coded_sizes lacing n None octets) (Counts n) → IfSome (lace_sizes lacing n octets) (Counts n)) (λ e h. fixed-counts n octets) (λ e h. h)))
    (coded-counts (lacing_of flags) n None octets)

laced-frames : (flags : ℕ) (rest : List ℕ) → is_laced flags ≡ true → frames_of flags rest ≡ laced (lacing_of flags) rest
unfolding frames_of
laced-frames flags rest =
    let bits = flags / 2 % 4 in
    cond_both (bits == 0) _ _ (λ lacing. has_lace lacing ≡ true → frames_in lacing rest ≡ laced lacing rest) (λ e h. absurd (cc h)) (λ e.
    cond_both (bits == 1) _ _ (λ lacing. has_lace lacing ≡ true → frames_in lacing rest ≡ laced lacing rest) (λ e h. refl) (λ e.
    cond_both (bits == 2) _ _ (λ lacing. has_lace lacing ≡ true → frames_in lacing rest ≡ laced lacing rest) (λ e h. refl) (λ e h. refl)))

frames-few : (flags : ℕ) (rest : List ℕ) → AreBytes rest → IfOk (frames_of flags rest) AreFew
frames-few flags rest all = elim (cases_Bool (is_laced flags)) [
  | inl laces ↦ rw (laced-frames flags rest laces) (laced-few (lacing_of flags) rest (lacing-counts flags) all)
  | inr alone ↦ rw (single_frame flags rest alone) (omega arith)
]

-- ---- the lanes of a block's packets

abbrev IsLaned : Packet → Type 0
IsLaned p = HasLanes (p)

abbrev AreLaned : List Packet → Type 0
AreLaned ps = AllByRecursion IsLaned ps

and-laned : (p : Packet) (packets : Result (List Packet) BlockError) → IsLaned p → IfOk packets AreLaned → IfOk (packets and_then (λ ps. Ok (p ∷ ps))) AreLaned
and-laned p (Err e) one others = tt
and-laned p (Ok ps) one others = (one, others)

sync-first : (key : Bool) (lane : ℕ) → (key && lane == 0) ≡ true → lane ≡ 0
sync-first key lane e = eqb-true lane 0 (and_parts key (lane == 0) e).1

from-laned : (place : Place) (head : BlockHead) (key : Bool) (rest : List ℕ) (lane : ℕ) (frames : List (ℕ × ℕ)) → lane + length frames ≤ 256
    → IfOk (packets_from place head key rest lane frames) AreLaned
from-laned place head key rest lane [] few = tt
from-laned place head key rest lane (frame ∷ frames) few =
    cond_both (in_range (frame_time place head.relative lane)) _ _
    (λ packet. IfOk (packet and_then (λ p. packets_from place head key rest (lane + 1) frames and_then (λ ps. Ok (p ∷ ps)))) AreLaned)
    (λ e. and-laned _ (packets_from place head key rest (lane + 1) frames) (omega arith, λ sync. sync-first key lane sync) (from-laned place head key rest (lane + 1) frames (omega arith)))
    (λ e. tt)

block-then : {X Y : Type 0} (P : X → Type 0) (Q : Y → Type 0) (r : Result X BlockError) (f : X → Result Y BlockError) → IfOk r P → ((x : X) → P x → IfOk (f x) Q) → IfOk (r and_then f) Q
block-then P Q (Ok x) f h each = each x h
block-then P Q (Err e) f h each = tt

abbrev Any : {X : Type 0} → X → Type 0
Any x = ⊤

any : {X E : Type 0} (r : Result X E) → IfOk r Any
any (Ok x) = tt
any (Err e) = tt

packets-laned : (place : Place) (body : BlockBody) → AreBytes body.octets → IfOk (packets_of place body) AreLaned
unfolding packets_of
packets-laned place body all =
    block-then Any AreLaned (head_of body.octets) _ (any (head_of body.octets)) (λ head _.
    block-then AreFew AreLaned (frames_of head.flags (drop head.at body.octets)) _ (frames-few head.flags (drop head.at body.octets) (All-drop (λ b. b < 256) head.at body.octets all)) (λ frames few.
    from-laned place head (is_key body.keyframe head.flags) (drop head.at body.octets) 0 frames (omega arith)))

-- ---- the block of an element

abbrev HasOctets : Option BlockBody → Type 0
HasOctets found = IfSome found (λ body. AreBytes body.octets)

simple-octets : (octets : List ℕ) → AreBytes octets → IfOk (some_body (simple_body_of octets)) HasOctets
simple-octets octets all = cond_both (is_large octets) _ _ (λ r. IfOk (some_body r) HasOctets) (λ e. tt) (λ e. all)

by-option : {C : Type 0} (f : Option C → Result (Option BlockBody) BlockError) → IfOk (f None) HasOctets → ((c : C) → IfOk (f (Some c)) HasOctets) → (o : Option C) → IfOk (f o) HasOctets
by-option f none some None = none
by-option f none some (Some c) = some c

map-octets : {C : Type 0} (f : C → BlockBody) → ((c : C) → AreBytes (f c).octets) → (o : Option C) → HasOctets (option_map f o)
map-octets f each None = tt
map-octets f each (Some c) = each c

group-octets : (octets : List ℕ) → AreBytes octets → IfOk (group_body_of octets) HasOctets
unfolding group_body_of
group-octets octets all = cond_both (is_large octets) _ _ (λ (r : Result (Option BlockBody) BlockError). IfOk r HasOctets) (λ e. tt) (λ e.
    by-option (block_among octets) tt (λ cs. map-octets (block_in octets cs) (λ c. range-octets octets c.at c.stop all) (first_block cs)) (children_of octets))

body-octets : (role : Role) (octets : List ℕ) → AreBytes octets → IfOk (body_in role octets) HasOctets
body-octets roles.SimpleBlock octets all = simple-octets octets all
body-octets roles.BlockGroup octets all = group-octets octets all
body-octets roles.Other octets all = tt
body-octets roles.Timestamp octets all = tt

faulted-ok : {X : Type 0} (P : X → Type 0) (r : Result X BlockError) → IfOk r P → IfOk (faulted r) P
faulted-ok P (Ok x) h = h
faulted-ok P (Err e) h = tt

fault-then : {X Y : Type 0} (P : X → Type 0) (Q : Y → Type 0) (r : Result X Fault) (f : X → Result Y Fault) → IfOk r P → ((x : X) → P x → IfOk (f x) Q) → IfOk (r >>= f) Q
fault-then P Q (Ok x) f h each = each x h
fault-then P Q (Err e) f h each = tt

timed-laned : (place scale : ℕ) (time : Option ℕ) (body : BlockBody) (duration : Option ℕ) → AreBytes body.octets → IfOk (timed place scale time body duration) AreLaned
timed-laned place scale None body duration all = tt
timed-laned place scale (Some time) body duration all =
    let there : Place = record { pos = place; cluster_time = time; scale = scale; duration = duration } in
    faulted-ok AreLaned (packets_of there body) (packets-laned there body all)

tracked-laned : (place scale : ℕ) (time : Option ℕ) (body : BlockBody) (track : Option Track) → AreBytes body.octets → IfOk (tracked place scale time body track) AreLaned
tracked-laned place scale time body None all = tt
tracked-laned place scale time body (Some t) all = timed-laned place scale time body t.duration all

opened-laned : (tracks : List Track) (place scale : ℕ) (time : Option ℕ) (body : Option BlockBody) → HasOctets body → IfOk (opened tracks place scale time body) AreLaned
opened-laned tracks place scale time None all = tt
opened-laned tracks place scale time (Some body) all =
    fault-then Any AreLaned (faulted (track_of body.octets)) _ (any (faulted (track_of body.octets))) (λ n _. tracked-laned place scale time body (known_track tracks n) all)

element-laned : (tracks : List Track) (scale place : ℕ) (time : Option ℕ) (role : Role) (octets : List ℕ) → AreBytes octets
    → IfOk (block_element_of tracks scale place time role octets) AreLaned
unfolding block_element_of
element-laned tracks scale place time role octets all =
    fault-then HasOctets AreLaned (faulted (body_in role octets)) _ (faulted-ok HasOctets (body_in role octets) (body-octets role octets all))
    (λ body found. opened-laned tracks place scale time body found)

-- ---- the packets of a step

abbrev GivesLaned : Step → Type 0
GivesLaned (End ending) = ⊤
GivesLaned (On to inner None) = ⊤
GivesLaned (On to inner (Some packets)) = AreLaned packets

stamped-laned : (place stop : ℕ) (level : Level) (time : Result ℕ EbmlError) → GivesLaned (stamped place stop level time)
stamped-laned place stop levels.Segment time = tt
stamped-laned place stop (levels.Cluster old end) (Ok time) = tt
stamped-laned place stop (levels.Cluster old end) (Err e) = tt

blocked-laned : (place stop : ℕ) (level : Level) (packets : Result (List Packet) Fault) → IfOk packets AreLaned → GivesLaned (blocked place stop level packets)
blocked-laned place stop level (Ok packets) laned = laned
blocked-laned place stop level (Err fault) laned = tt

passed-laned : (plan : Plan) (place : ℕ) (role : Role) (body : List ℕ) (stop : ℕ) (level : Level) → AreBytes body → GivesLaned (passed plan place role body stop level)
passed-laned plan place roles.Other body stop level all = tt
passed-laned plan place roles.Timestamp body stop level all = stamped-laned place stop level (uint_of body)
passed-laned plan place roles.SimpleBlock body stop level all =
    blocked-laned place stop level (block_element_of plan.tracks plan.scale place (time_of level) roles.SimpleBlock body)
    (element-laned plan.tracks plan.scale place (time_of level) roles.SimpleBlock body all)
passed-laned plan place roles.BlockGroup body stop level all =
    blocked-laned place stop level (block_element_of plan.tracks plan.scale place (time_of level) roles.BlockGroup body)
    (element-laned plan.tracks plan.scale place (time_of level) roles.BlockGroup body all)

moved-laned : (plan : Plan) (place : ℕ) (m : Move) → AreBytes plan.octets → GivesLaned (moved plan place m)
moved-laned plan place (moves.Fault fault) all = tt
moved-laned plan place (moves.Enter to level) all = tt
moved-laned plan place (moves.Pass role from stop level) all =
    cond_both (nat_lt (length plan.octets) stop) _ _ GivesLaned (λ e. tt)
    (λ e. passed-laned plan place role (slice_range plan.octets from stop) stop level (range-octets plan.octets from stop all))

headed-laned : (plan : Plan) (place : ℕ) (level : Level) (h : Result Head EbmlError) → AreBytes plan.octets → GivesLaned (headed plan place level h)
headed-laned plan place level (Ok h) all = moved-laned plan place (move_of plan.segment_end level h.id h.body h.size) all
headed-laned plan place level (Err errors.Short) all = tt
headed-laned plan place level (Err errors.BadId) all = tt
headed-laned plan place level (Err errors.BadSize) all = tt
headed-laned plan place level (Err errors.BadUint) all = tt
headed-laned plan place level (Err errors.BadText) all = tt

step-laned : (plan : Plan) (place : ℕ) (level : Level) → AreBytes plan.octets → GivesLaned (step_at plan place level)
unfolding step_at
step-laned plan place level all =
    cond_both (stands_at plan.segment_end place || place == length plan.octets) _ _ GivesLaned (λ e. tt)
    (λ e. headed-laned plan place (settle level place) (head_at plan.octets place) all)

-- ---- the packets of a walk

laned-append : (xs ys : List Packet) → AreLaned xs → AreLaned ys → AreLaned (xs ++ ys)
laned-append [] ys h g = g
laned-append (x ∷ xs) ys h g = (h.0, laned-append xs ys h.1 g)

after-laned : (step : Step) (on : ℕ → Level → Rest) → GivesLaned step → ((to : ℕ) (inner : Level) → AreLaned (on to inner).0) → AreLaned (after step on).0
after-laned (End ending) on one others = tt
after-laned (On to inner None) on one others = others to inner
after-laned (On to inner (Some packets)) on one others = laned-append packets (on to inner).0 one (others to inner)

walk-laned : (n : ℕ) (plan : Plan) (place : ℕ) (level : Level) → AreBytes plan.octets → AreLaned (walk n plan place level).0
unfolding walk
walk-laned zero plan place level all = tt
walk-laned (suc n) plan place level all =
    after-laned (step_at plan place level) (λ to inner. walk n plan to inner) (step-laned plan place level all) (λ to inner. walk-laned n plan to inner all)

-- ---- the list

lanes-fit : (ps : List Packet) → AreLaned ps → AllByRecursion HasLanes ps
lanes-fit [] laned = tt
lanes-fit (p ∷ ps) laned = (laned.0, lanes-fit ps laned.1)

rank-below : (p q : Packet) → p.pos.lane < 65536 → StandsBefore p q → at (p) < at (q)
unfolding rank
rank-below p q small (inl less) = omega arith
rank-below p q small (inr same) = let block = same.0 in let lane = same.1 in omega (arith, block, lane)

all-below : (p : Packet) (ps : List Packet) → p.pos.lane < 65536 → AllByRecursion (StandsBefore p) ps → AllByRecursion (λ q. at (p) < at q) ps
all-below p [] small before = tt
all-below p (q ∷ qs) small before = (rank-below p q small before.0, all-below p qs small before.1)

places-rise : (ps : List Packet) → InOrder ps → AreLaned ps → IsRising ps
places-rise [] order laned = tt
places-rise (p ∷ ps) order laned = (all-below p ps laned.0.0 order.0, places-rise ps order.1 laned.1)

-- what stands in a file is a film's list
pub is-film : (plan : Plan) → IsPlan plan → AreBytes plan.octets → IsFilm (plan_packets plan)
is-film plan is all =
    let laned = walk-laned (steps plan) plan plan.opening levels.Segment all in
    record {
      rising = places-rise (film_walk plan).0 (are-its-frames plan is.1).once laned;
      lanes = lanes-fit (film_walk plan).0 laned;
    }
