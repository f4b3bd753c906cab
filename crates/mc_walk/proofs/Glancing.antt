-- The first 12 octets of a block tell its packet, its lace or its first fault.
use Rattle.std.proofs.Common.{◌≡◌, ℕ, suc, ◌+◌, ◌-◌, ◌≤◌, Bool, true, false, List, [], ◌∷◌, length, take, drop, Option, Some, None, Result, Ok, Err, refl, sym, ap, ◌∙◌, arith, lit≤}
use Rattle.std.specs.Prelude.{IfOk, nat_lt, ◌==◌, ⊤}
use Rattle.std.proofs.lemmas.Bool.{cond_both}
use Rattle.std.proofs.lemmas.Bool.Decides.{nat_tests}
use Rattle.std.proofs.lemmas.List.{drop-take, drop-drop}
use Rattle.mc_ebml.specs.declared.read.Coded.{Coded}
use Rattle.mc_ebml.specs.declared.read.EbmlError.{EbmlError}
use Rattle.mc_ebml.specs.Element.{width, coded_from, coded_at}
use Rattle.mc_block.specs.declared.error.BlockError.{BlockError}
use Rattle.mc_block.specs.declared.error.BlockError.TheVariants.{ShortBlock}
use Rattle.mc_block.specs.declared.parts.Place.{Place}
use Rattle.mc_block.specs.declared.parts.BlockHead.{BlockHead}
use Rattle.mc_block.specs.declared.parts.BlockBody.{BlockBody}
use Rattle.mc_block.specs.Frames.{is_laced}
use Rattle.mc_block.specs.Block.{◌>>=◌, number_of, track_of, behind_track, head_of, frame_time, in_range, is_key, packets_from, packets_behind, packets_of}
use Rattle.mc_block.proofs.Laces.{single_frame}
use Rattle.mc_block.proofs.Heads.{coded_window}
use Rattle.mc_block.proofs.Laced.{no_lace}
use Rattle.mc_tracks.specs.declared.track.Track.{Track}
use Rattle.mc_walk.specs.Blocks.{faulted, known_track, timed, tracked, some_opened}
use Rattle.mc_walk.specs.Glances.{marked, laced_glance, unless_laced, headed_glance, timed_glance, tracked_glance, numbered_glance, glance_of, Tells}

-- ---- a block's track number and its head

width_all : (b : ℕ) → width b ≤ 8
width_all b = grind (arith, nat_tests)

coded_narrow : (r : List ℕ) → IfOk (coded_from r) (λ n. n.width ≤ 8)
coded_narrow [] = tt
coded_narrow (b ∷ bs) =
    cond_both (b == 0) _ _ (λ r. IfOk r (λ n. n.width ≤ 8)) (λ e. tt) (λ e.
    cond_both (nat_lt (length (b ∷ bs)) (width b)) _ _ (λ r. IfOk r (λ n. n.width ≤ 8)) (λ e. tt) (λ e. width_all b))

pub track_front : (body : List ℕ) → track_of (take 12 body) ≡ track_of body
unfolding track_of coded_at
track_front body = ap (λ (c : Result Coded EbmlError). number_of c >>= (λ n. Ok n.value)) (sym (coded_window 12 body (lit≤ tt)))

three : (n : Coded) (k : ℕ) (rest : List ℕ) → behind_track n (take (suc (suc (suc k))) rest) ≡ behind_track n rest
three n k [] = refl
three n k (a ∷ []) = refl
three n k (a ∷ b ∷ []) = refl
three n k (a ∷ b ∷ c ∷ rest) = refl

cut_front : (n m k : ℕ) (octets : List ℕ) → k ≡ n + m → drop n (take k octets) ≡ take m (drop n octets)
cut_front n m k octets e = rw e (drop-take n m octets)

behind_front : (n : Coded) (body : List ℕ) → n.width ≤ 8 → behind_track n (drop n.width (take 12 body)) ≡ behind_track n (drop n.width body)
behind_front n body le =
    let k : ℕ = 9 - n.width in
    ap (behind_track n) (cut_front n.width (suc (suc (suc k))) 12 body (omega arith)) ∙ three n k (drop n.width body)

head_by : (body : List ℕ) (c : Result Coded EbmlError) → IfOk c (λ n. n.width ≤ 8)
    → number_of c >>= (λ n. behind_track n (drop n.width (take 12 body))) ≡ number_of c >>= (λ n. behind_track n (drop n.width body))
head_by body (Ok n) le = behind_front n body le
head_by body (Err e) le = refl

pub head_front : (body : List ℕ) → head_of (take 12 body) ≡ head_of body
unfolding head_of coded_at
head_front body =
    ap (λ (c : Result Coded EbmlError). number_of c >>= (λ n. behind_track n (drop n.width (take 12 body)))) (sym (coded_window 12 body (lit≤ tt)))
    ∙ head_by body (coded_from body) (coded_narrow body)

-- ---- their only fault

abbrev IsShort : {X : Type 0} → Result X BlockError → Type 0
IsShort (Ok x) = ⊤
IsShort (Err e) = e ≡ ShortBlock

track_short : (octets : List ℕ) → IsShort (track_of octets)
unfolding track_of
track_short octets = go (coded_at octets 0)
  where
    go : (c : Result Coded EbmlError) → IsShort (number_of c >>= (λ n. Ok n.value))
    go (Ok n) = tt
    go (Err e) = refl

head_short : (octets : List ℕ) → IsShort (head_of octets)
unfolding head_of
head_short octets = go (coded_at octets 0)
  where
    behind : (n : Coded) (rest : List ℕ) → IsShort (behind_track n rest)
    behind n [] = refl
    behind n (a ∷ []) = refl
    behind n (a ∷ b ∷ []) = refl
    behind n (a ∷ b ∷ flags ∷ rest) = tt

    go : (c : Result Coded EbmlError) → IsShort (number_of c >>= (λ n. behind_track n (drop n.width octets)))
    go (Ok n) = behind n (drop n.width octets)
    go (Err e) = refl

-- ---- what is told

one_frame : (place : Place) (head : BlockHead) (key : Bool) (octets front rest : List ℕ) (is : Bool) → in_range (frame_time place head.relative 0) ≡ is
    → Tells octets (unless_laced false place head key front) (marked (faulted (packets_from place head key rest 0 ((0, length rest) ∷ []))))
one_frame place head key octets front rest true e = rw e refl
one_frame place head key octets front rest false e = rw e refl

-- the octets that are seen of a lace
cut_at : (at m : ℕ) (octets : List ℕ) → at ≤ m → drop at (take m octets) ≡ take (m - at) (drop at octets)
cut_at at m octets le = cut_front at (m - at) m octets (omega (arith, le))

next_dropped : (at n : ℕ) (octets others : List ℕ) → drop at octets ≡ n ∷ others → drop (at + 1) octets ≡ others
next_dropped at n octets others is = sym (drop-drop' 1 at octets) ∙ ap (drop 1) is
  where
    drop-drop' : (i at : ℕ) (octets : List ℕ) → drop i (drop at octets) ≡ drop (at + i) octets
    drop-drop' i at octets = drop-drop i at octets

lace_by : (place : Place) (head : BlockHead) (key : Bool) (octets : List ℕ) (k : ℕ) (rest : List ℕ) → drop head.at octets ≡ rest → is_laced head.flags ≡ true
    → Tells octets (laced_glance place head key (take (suc k) rest)) (marked (faulted (packets_behind place head key (drop head.at octets))))
lace_by place head key octets k [] is laced = rw (is, no_lace head.flags laced) refl
lace_by place head key octets k (n ∷ others) is laced = record {
  laced = laced;
  counted = is ∙ ap (λ (xs : List ℕ). n ∷ xs) (sym (next_dropped head.at n octets others is));
  same = refl;
}

by_lacing : (laced : Bool) (place : Place) (head : BlockHead) (key : Bool) (front octets : List ℕ) → is_laced head.flags ≡ laced → head.at ≤ 11 → front ≡ take 12 octets
    → Tells octets (unless_laced laced place head key front) (marked (faulted (packets_behind place head key (drop head.at octets))))
by_lacing true place head key front octets is near cut =
    let k : 12 - head.at ≡ suc (11 - head.at) = omega (arith, near) in
    let seen : drop head.at front ≡ take (suc (11 - head.at)) (drop head.at octets) = ap (drop head.at) cut ∙ cut_at head.at 12 octets (omega (arith, near)) ∙ rw k refl in
    rw seen (lace_by place head key octets (11 - head.at) (drop head.at octets) refl is)
by_lacing false place head key front octets is near cut =
    rw (single_frame head.flags (drop head.at octets) is) (one_frame place head key octets front (drop head.at octets) (in_range (frame_time place head.relative 0)) refl)

abbrev body_of : List ℕ → Option Bool → BlockBody
body_of octets keyframe = record { octets = octets; keyframe = keyframe }

-- a head ends within 11 octets
abbrev IsNear : Result BlockHead BlockError → Type 0
IsNear (Ok head) = head.at ≤ 11
IsNear (Err e) = ⊤

head_near : (octets : List ℕ) → IsNear (head_of octets)
unfolding head_of coded_at
head_near octets = go (coded_from octets) (coded_narrow octets)
  where
    behind : (n : Coded) (rest : List ℕ) → n.width ≤ 8 → IsNear (behind_track n rest)
    behind n [] le = tt
    behind n (a ∷ []) le = tt
    behind n (a ∷ b ∷ []) le = tt
    behind n (a ∷ b ∷ flags ∷ rest) le = omega (arith, le)

    go : (c : Result Coded EbmlError) → IfOk c (λ n. n.width ≤ 8) → IsNear (number_of c >>= (λ n. behind_track n (drop n.width octets)))
    go (Ok n) le = behind n (drop n.width octets) le
    go (Err e) le = tt

by_head : (place : Place) (keyframe : Option Bool) (front octets : List ℕ) (head : Result BlockHead BlockError) → IsShort head → IsNear head → front ≡ take 12 octets
    → Tells octets (headed_glance place keyframe front head) (marked (faulted (head >>= (λ head. packets_behind place head (is_key keyframe head.flags) (drop head.at octets)))))
by_head place keyframe front octets (Ok head) short near cut = by_lacing (is_laced head.flags) place head (is_key keyframe head.flags) front octets refl near cut
by_head place keyframe front octets (Err e) short near cut = rw short refl

in_time : (place scale : ℕ) (time : Option ℕ) (keyframe : Option Bool) (front octets : List ℕ) (duration : Option ℕ) → head_of front ≡ head_of octets → front ≡ take 12 octets
    → Tells octets (timed_glance place scale time keyframe front duration) (marked (timed place scale time (body_of octets keyframe) duration))
unfolding packets_of
in_time place scale None keyframe front octets duration same cut = refl
in_time place scale (Some time) keyframe front octets duration same cut =
    rw same (by_head (record { pos = place; cluster_time = time; scale = scale; duration = duration }) keyframe front octets (head_of octets) (head_short octets) (head_near octets) cut)

by_track : (place scale : ℕ) (time : Option ℕ) (keyframe : Option Bool) (front octets : List ℕ) (track : Option Track) → head_of front ≡ head_of octets → front ≡ take 12 octets
    → Tells octets (tracked_glance place scale time keyframe front track) (marked (tracked place scale time (body_of octets keyframe) track))
by_track place scale time keyframe front octets None same cut = refl
by_track place scale time keyframe front octets (Some t) same cut = in_time place scale time keyframe front octets t.duration same cut

by_number : (tracks : List Track) (place scale : ℕ) (time : Option ℕ) (keyframe : Option Bool) (front octets : List ℕ) (number : Result ℕ BlockError)
    → number ≡ track_of octets → IsShort number → head_of front ≡ head_of octets → front ≡ take 12 octets
    → Tells octets (numbered_glance tracks place scale time keyframe front number) (marked (some_opened tracks place scale time (body_of octets keyframe)))
by_number tracks place scale time keyframe front octets (Ok n) is short same cut = rw (← is) (by_track place scale time keyframe front octets (known_track tracks n) same cut)
by_number tracks place scale time keyframe front octets (Err e) is short same cut = rw (← is, short) refl

-- the octets with which a block begins tell its first packet, or its lace
pub tells : (tracks : List Track) (scale place : ℕ) (time : Option ℕ) (keyframe : Option Bool) (front octets : List ℕ) → front ≡ take 12 octets
    → Tells octets (glance_of tracks scale place time keyframe front) (marked (some_opened tracks place scale time (record { octets = octets; keyframe = keyframe })))
tells tracks scale place time keyframe front octets cut =
    let number : track_of front ≡ track_of octets = ap track_of cut ∙ track_front octets in
    let head : head_of front ≡ head_of octets = ap head_of cut ∙ head_front octets in
    rw number (by_number tracks place scale time keyframe front octets (track_of octets) refl (track_short octets) head cut)
