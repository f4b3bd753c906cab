-- Each packet of a film can be written again as a block of its own.
use Rattle.std.proofs.Common.{◌≡◌, ℕ, zero, suc, ◌-◌, ◌<◌, ◌≤◌, ◌^◌, Bool, true, false, cond, List, [], ◌∷◌, ◌++◌, length, drop, get_or, Option, Some, None, Result, Ok, Err, refl, arith, length-take, length-drop, IfOk, All, ltb, ltb-false}
use Rattle.std.proofs.lemmas.Bool.{cond_both}
use Rattle.std.proofs.lemmas.List.Elements.{All-tail}
use Rattle.std.proofs.lemmas.List.Sums.{sum_by-cons}
use Rattle.std.specs.Prelude.{⊤, ◌||◌, ◌==◌, nat_lt, slice_range, sum_by}
use Rattle.mc_packet.specs.declared.packet.Packet.{Packet}
use Rattle.mc_packet.specs.declared.walk.Fault.{Fault}
use Rattle.mc_packet.specs.declared.walk.Level.{Level}
use Rattle.mc_packet.specs.declared.walk.Level.TheVariants as levels
use Rattle.mc_ebml.specs.declared.read.Head.{Head}
use Rattle.mc_ebml.specs.declared.read.EbmlError.{EbmlError}
use Rattle.mc_ebml.specs.declared.read.EbmlError.TheVariants as errors
use Rattle.mc_ebml.specs.Element.{head_at, uint_of}
use Rattle.mc_block.specs.declared.error.BlockError.{BlockError}
use Rattle.mc_block.specs.declared.error.BlockError.TheVariants.{TooLarge}
use Rattle.mc_block.specs.declared.parts.BlockBody.{BlockBody}
use Rattle.mc_block.specs.declared.parts.Place.{Place}
use Rattle.mc_block.specs.Group.{children_of, first_block}
use Rattle.std.specs.Prelude.{option_map}
use Rattle.mc_block.specs.Block.{track_of, packets_of, simple_body_of, group_body_of, block_among, block_in, AreOfBlock, NumbersAreSmall, PacketsAreOfBlocks}
use Rattle.mc_tracks.specs.declared.track.Track.{Track}
use Rattle.mc_tracks.specs.TrackList.{numbered, is_known}
use Rattle.mc_walk.specs.declared.plan.Plan.{Plan}
use Rattle.mc_walk.specs.declared.plan.Step.{Step}
use Rattle.mc_walk.specs.declared.plan.Step.TheVariants.{End, On}
use Rattle.mc_walk.specs.declared.movement.Role.{Role}
use Rattle.mc_walk.specs.declared.movement.Role.TheVariants as roles
use Rattle.mc_walk.specs.declared.movement.Move.{Move}
use Rattle.mc_walk.specs.declared.movement.Move.TheVariants as moves
use Rattle.mc_walk.specs.Moves.{settle, move_of}
use Rattle.mc_walk.specs.Blocks.{faulted, some_body, body_in, unless_encoded, known_track, timed, tracked, opened, block_element_of}
use Rattle.mc_walk.specs.Walk.{stands_at, stamped, blocked, time_of, passed, moved, headed, step_at, walk, after, Rest}
use Rattle.mc_walk.specs.Again.{CanBeAgain, AreAgain}

-- as in the definitions of the walk
abbrev walk_then : {A B : Type 0} → Result A Fault → (A → Result B Fault) → Result B Fault
walk_then (Ok x) f = f x
walk_then (Err e) f = Err e

-- ---- a block

within_sum : (ps : List Packet) (k : ℕ) (d : Packet) → k < length ps → length (get_or ps k d).body ≤ sum_by (λ (p : Packet). length p.body) ps
within_sum [] k d lt = absurd (omega arith)
within_sum (p ∷ ps) zero d lt = omega (arith, sum_by-cons (λ (p : Packet). length p.body) p ps)
within_sum (p ∷ ps) (suc k) d lt = omega (arith, sum_by-cons (λ (p : Packet). length p.body) p ps, within_sum ps k d (omega arith))

by_index : (tracks : List Track) (ps : List Packet) → All (CanBeAgain tracks) ps → AreAgain tracks ps
by_index tracks [] all = tt
by_index tracks (p ∷ ps) all = (all 0 p (omega arith), by_index tracks ps (All-tail (CanBeAgain tracks) p ps all))

again : (tracks : List Track) (place : Place) (octets : List ℕ) (n : ℕ) (ps : List Packet) → is_known tracks n ≡ true → track_of octets ≡ Ok n → n < 2 ^ 56 → length octets ≤ 67108864
    → AreOfBlock place octets ps → AreAgain tracks ps
again tracks place octets n ps known is small short law = by_index tracks ps (λ k d lt.
    let its = law.tracks k d lt in
    let same : (get_or ps k d).track ≡ n = cc (its, is) in
    record {
      known = rw same known;
      narrow = omega (arith, same, small);
      near = law.times k d lt;
      size = rw same (omega (arith, law.room n is, within_sum ps k d lt, short));
    })

timed_again : (blocks : PacketsAreOfBlocks) (tracks : List Track) (place scale n : ℕ) (time : Option ℕ) (body : BlockBody) (duration : Option ℕ) → is_known tracks n ≡ true → track_of body.octets ≡ Ok n → n < 2 ^ 56
    → length body.octets ≤ 67108864 → IfOk (timed place scale time body duration) (AreAgain tracks)
timed_again blocks tracks place scale n None body duration known is small short = tt
timed_again blocks tracks place scale n (Some time) body duration known is small short = go (packets_of at body) (blocks at body)
  where
    at : Place
    at = record { pos = place; cluster_time = time; scale = scale; duration = duration }

    go : (r : Result (List Packet) BlockError) → IfOk r (AreOfBlock at body.octets) → IfOk (faulted r) (AreAgain tracks)
    go (Err e) law = tt
    go (Ok ps) law = again tracks at body.octets n ps known is small short law

tracked_again : (blocks : PacketsAreOfBlocks) (tracks : List Track) (place scale n : ℕ) (time : Option ℕ) (body : BlockBody) (found : Option Track) → numbered n tracks ≡ found → track_of body.octets ≡ Ok n → n < 2 ^ 56
    → length body.octets ≤ 67108864 → IfOk (tracked place scale time body (unless_encoded found)) (AreAgain tracks)
tracked_again blocks tracks place scale n time body None there is small short = tt
tracked_again blocks tracks place scale n time body (Some t) there is small short = by_test t.encoded refl
  where
    by_test : (b : Bool) → t.encoded ≡ b → IfOk (tracked place scale time body (cond b None (Some t))) (AreAgain tracks)
    by_test true e = tt
    by_test false e = timed_again blocks tracks place scale n time body t.duration (rw (there, e) refl) is small short

opened_again : (blocks : PacketsAreOfBlocks) (numbers : NumbersAreSmall) (tracks : List Track) (place scale : ℕ) (time : Option ℕ) (body : BlockBody) → length body.octets ≤ 67108864 → IfOk (opened tracks place scale time (Some body)) (AreAgain tracks)
opened_again blocks numbers tracks place scale time body short = go (track_of body.octets) refl (numbers body.octets)
  where
    go : (r : Result ℕ BlockError) → track_of body.octets ≡ r → IfOk r (λ n. n < 2 ^ 56) → IfOk (walk_then (faulted r) (λ n. tracked place scale time body (known_track tracks n))) (AreAgain tracks)
    go (Err e) is small = tt
    go (Ok n) is small = tracked_again blocks tracks place scale n time body (numbered n tracks) refl is small short

-- ---- the body of a block element is small

by_option : {A : Type 0} (Q : Option A → Type 0) → Q None → ((a : A) → Q (Some a)) → (o : Option A) → Q o
by_option Q none some None = none
by_option Q none some (Some a) = some a

abbrev Small : Option BlockBody → Type 0
Small None = ⊤
Small (Some body) = length body.octets ≤ 67108864

mapped : {A : Type 0} (f : A → BlockBody) → ((a : A) → length (f a).octets ≤ 67108864) → (o : Option A) → Small (option_map f o)
mapped f small None = tt
mapped f small (Some a) = small a

slice_small : (octets : List ℕ) (from to : ℕ) → length octets ≤ 67108864 → length (slice_range octets from to) ≤ 67108864
slice_small octets from to short = omega (arith, length-take (to - from) (drop from octets), length-drop from octets)

group_small : (octets : List ℕ) → IfOk (group_body_of octets) Small
unfolding group_body_of
group_small octets = by_test (ltb 67108864 (length octets)) refl
  where
    by_test : (b : Bool) → ltb 67108864 (length octets) ≡ b → IfOk (cond b (Err TooLarge) (block_among octets (children_of octets))) Small
    by_test true e = tt
    by_test false e =
        let short : length octets ≤ 67108864 = ltb-false 67108864 (length octets) e in
        by_option (λ cs. IfOk (block_among octets cs) Small) tt (λ cs. mapped (block_in octets cs) (λ c. slice_small octets c.at c.stop short) (first_block cs)) (children_of octets)

simple_small : (octets : List ℕ) → IfOk (some_body (simple_body_of octets)) Small
simple_small octets = by_test (ltb 67108864 (length octets)) refl
  where
    by_test : (b : Bool) → ltb 67108864 (length octets) ≡ b → IfOk (some_body (cond b (Err TooLarge) (Ok (record { octets = octets; keyframe = None })))) Small
    by_test true e = tt
    by_test false e = ltb-false 67108864 (length octets) e

body_small : (role : Role) (octets : List ℕ) → IfOk (body_in role octets) Small
body_small roles.Other octets = tt
body_small roles.Timestamp octets = tt
body_small roles.SimpleBlock octets = simple_small octets
body_small roles.BlockGroup octets = group_small octets

pub element_again : (blocks : PacketsAreOfBlocks) (numbers : NumbersAreSmall) (tracks : List Track) (scale place : ℕ) (time : Option ℕ) (role : Role) (octets : List ℕ) → IfOk (block_element_of tracks scale place time role octets) (AreAgain tracks)
unfolding block_element_of
element_again blocks numbers tracks scale place time role octets = go (body_in role octets) (body_small role octets)
  where
    go : (r : Result (Option BlockBody) BlockError) → IfOk r Small → IfOk (walk_then (faulted r) (λ body. opened tracks place scale time body)) (AreAgain tracks)
    go (Err e) small = tt
    go (Ok None) small = tt
    go (Ok (Some body)) small = opened_again blocks numbers tracks place scale time body small

-- ---- the walk

abbrev StepAgain : List Track → Step → Type 0
StepAgain tracks (End ending) = ⊤
StepAgain tracks (On to inner None) = ⊤
StepAgain tracks (On to inner (Some packets)) = AreAgain tracks packets

stamped_again : (tracks : List Track) (place stop : ℕ) (level : Level) (time : Result ℕ EbmlError) → StepAgain tracks (stamped place stop level time)
stamped_again tracks place stop levels.Segment time = tt
stamped_again tracks place stop (levels.Cluster old end) (Ok time) = tt
stamped_again tracks place stop (levels.Cluster old end) (Err e) = tt

blocked_again : (tracks : List Track) (place stop : ℕ) (level : Level) (packets : Result (List Packet) Fault) → IfOk packets (AreAgain tracks) → StepAgain tracks (blocked place stop level packets)
blocked_again tracks place stop level (Ok packets) h = h
blocked_again tracks place stop level (Err fault) h = tt

passed_again : (blocks : PacketsAreOfBlocks) (numbers : NumbersAreSmall) (plan : Plan) (place : ℕ) (role : Role) (body : List ℕ) (stop : ℕ) (level : Level) → StepAgain plan.tracks (passed plan place role body stop level)
passed_again blocks numbers plan place roles.Other body stop level = tt
passed_again blocks numbers plan place roles.Timestamp body stop level = stamped_again plan.tracks place stop level (uint_of body)
passed_again blocks numbers plan place roles.SimpleBlock body stop level =
    blocked_again plan.tracks place stop level (block_element_of plan.tracks plan.scale place (time_of level) roles.SimpleBlock body) (element_again blocks numbers plan.tracks plan.scale place (time_of level) roles.SimpleBlock body)
passed_again blocks numbers plan place roles.BlockGroup body stop level =
    blocked_again plan.tracks place stop level (block_element_of plan.tracks plan.scale place (time_of level) roles.BlockGroup body) (element_again blocks numbers plan.tracks plan.scale place (time_of level) roles.BlockGroup body)

moved_again : (blocks : PacketsAreOfBlocks) (numbers : NumbersAreSmall) (plan : Plan) (place : ℕ) (m : Move) → StepAgain plan.tracks (moved plan place m)
moved_again blocks numbers plan place (moves.Fault fault) = tt
moved_again blocks numbers plan place (moves.Enter to level) = tt
moved_again blocks numbers plan place (moves.Pass role at stop level) =
    cond_both (nat_lt (length plan.octets) stop) _ _ (StepAgain plan.tracks) (λ e. tt) (λ e. passed_again blocks numbers plan place role (slice_range plan.octets at stop) stop level)

headed_again : (blocks : PacketsAreOfBlocks) (numbers : NumbersAreSmall) (plan : Plan) (place : ℕ) (level : Level) (h : Result Head EbmlError) → StepAgain plan.tracks (headed plan place level h)
headed_again blocks numbers plan place level (Ok h) = moved_again blocks numbers plan place (move_of plan.segment_end level h.id h.body h.size)
headed_again blocks numbers plan place level (Err errors.Short) = tt
headed_again blocks numbers plan place level (Err errors.BadId) = tt
headed_again blocks numbers plan place level (Err errors.BadSize) = tt
headed_again blocks numbers plan place level (Err errors.BadUint) = tt
headed_again blocks numbers plan place level (Err errors.BadText) = tt

pub step_again : (blocks : PacketsAreOfBlocks) (numbers : NumbersAreSmall) (plan : Plan) (place : ℕ) (level : Level) → StepAgain plan.tracks (step_at plan place level)
unfolding step_at
step_again blocks numbers plan place level =
    cond_both (stands_at plan.segment_end place || place == length plan.octets) _ _ (StepAgain plan.tracks) (λ e. tt)
    (λ e. headed_again blocks numbers plan place (settle level place) (head_at plan.octets place))

joined : (tracks : List Track) (ps qs : List Packet) → AreAgain tracks ps → AreAgain tracks qs → AreAgain tracks (ps ++ qs)
joined tracks [] qs h g = g
joined tracks (p ∷ ps) qs h g = (h.0, joined tracks ps qs h.1 g)

after_again : (tracks : List Track) (step : Step) (f : ℕ → Level → Rest) → StepAgain tracks step → ((to : ℕ) (inner : Level) → AreAgain tracks (f to inner).0) → AreAgain tracks (after step f).0
after_again tracks (End ending) f h on = tt
after_again tracks (On to inner None) f h on = on to inner
after_again tracks (On to inner (Some ps)) f h on = joined tracks ps (f to inner).0 h (on to inner)

pub walk_again : (blocks : PacketsAreOfBlocks) (numbers : NumbersAreSmall) (n : ℕ) (plan : Plan) (place : ℕ) (level : Level) → AreAgain plan.tracks (walk n plan place level).0
unfolding walk
walk_again blocks numbers zero plan place level = tt
walk_again blocks numbers (suc n) plan place level = after_again plan.tracks (step_at plan place level) (λ to inner. walk n plan to inner) (step_again blocks numbers plan place level) (λ to inner. walk_again blocks numbers n plan to inner)
