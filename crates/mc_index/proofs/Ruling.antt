-- On a regular film the answered starts are those of the rule, and reads end by the places where it is settled.
use Rattle.std.proofs.Common.{◌≡◌, ℕ, Bool, true, false, List, Option, Some, None, ℤ, refl, sym, ap, subst, ◌∙◌, arith}
use Rattle.std.proofs.lemmas.Bool.{eq-eqb, ne_eqb}
use Rattle.std.specs.Prelude.{◌==◌, ◌&&◌, not}
use Rattle.std.specs.Option.{option_map}
use Rattle.mc_packet.specs.declared.choice.Choice.{Choice}
use Rattle.mc_packet.specs.declared.choice.Kind.{Kind}
use Rattle.mc_packet.specs.declared.choice.Kind.TheVariants.{Video, Audio, Sub}
use Rattle.mc_packet.specs.declared.choice.Dir.{Dir}
use Rattle.mc_packet.specs.declared.choice.Dir.TheVariants.{Back}
use Rattle.mc_packet.specs.declared.packet.Packet.{Packet}
use Rattle.mc_walk.specs.declared.plan.Plan.{Plan}
use Rattle.mc_packet.specs.Choices.{passes, is_known, is_distinct, is_other, is_track}
use Rattle.mc_journal.specs.Films.{IsRegular, is_listed, block_of, time_or, sync_for, track_sync, video_sync, audio_sync, audio_dir, least_of, start_of, last_for, switch_start, film_syncs, start_by as rule_start}
use Rattle.mc_journal.proofs.Starting.{video_listed, audio_listed}
use Rattle.mc_index.specs.declared.entry.Point.{Point}
use Rattle.mc_index.specs.declared.search.Around.{Around}
use Rattle.mc_index.specs.Answers.{AreStarts, ReadsUntil}
use Rattle.mc_filmed.specs.Films.{plan_packets}
use Rattle.mc_index.specs.Fronts.{film_points}
use Rattle.mc_tracks.specs.Selection.{knows}
use Rattle.mc_index.specs.Scans.{point_of}
use Rattle.mc_index.specs.Searches.{IsNear, Rises, chosen, point_time, point_mark, track_mark, least_mark, mark_or_opening, start_by, sub_mark, seek_starts, switch_starts}
use Rattle.mc_index.proofs.Choosing.{near-chosen, near-before, time-of}
use Rattle.mc_index.proofs.Marking.{mark-pos}
use Rattle.mc_index.proofs.Placing.{min-by}

-- ---- which tracks

and-both : (a b : Bool) → (a && b) ≡ true → (a ≡ true) × (b ≡ true)
and-both true b e = (refl, e)
and-both false b e = absurd (cc e)

pub listed-rises : (plan : Plan) (track : Option ℕ) → IsRegular (plan_packets plan) (knows plan.tracks) → passes track (is_listed (knows plan.tracks)) ≡ true → Rises plan track
listed-rises plan None regular listed = tt
listed-rises plan (Some k) regular listed = regular k listed

pub video-rises : (plan : Plan) (set : Choice) → IsRegular (plan_packets plan) (knows plan.tracks) → is_known (knows plan.tracks) set ≡ true → Rises plan set.video
video-rises plan set regular known = listed-rises plan set.video regular (video_listed (knows plan.tracks) set known)

pub audio-rises : (plan : Plan) (set : Choice) → IsRegular (plan_packets plan) (knows plan.tracks) → is_known (knows plan.tracks) set ≡ true → Rises plan set.audio
audio-rises plan set regular known = listed-rises plan set.audio regular (audio_listed (knows plan.tracks) set known)

pub known-distinct : (known : Kind → ℕ → Bool) (set : Choice) → is_known known set ≡ true → is_distinct set ≡ true
known-distinct known set e =
    let one = (and-both (passes set.video (known Video)) _ e).1 in
    let two = (and-both (passes set.audio (known Audio)) _ one).1 in
    (and-both (passes set.sub (known Sub)) _ two).1

not-true : (b : Bool) → not b ≡ true → b ≡ false
not-true true e = absurd (cc e)
not-true false e = refl

-- a track of one kind is none of another
other-before : (o : Option ℕ) (k : ℕ) → is_other o (Some k) ≡ true → is_track o k ≡ false
other-before None k e = refl
other-before (Some n) k e = not-true (n == k) e

other-behind : (o : Option ℕ) (k : ℕ) → is_other (Some k) o ≡ true → is_track o k ≡ false
other-behind None k e = refl
other-behind (Some n) k e = ne_eqb n k (λ same. let yes' : (k == n) ≡ true = eq-eqb k n (sym same) in let off : (k == n) ≡ false = not-true (k == n) e in cc (yes', off))

own : (k : ℕ) → is_track (Some k) k ≡ true
own k = eq-eqb k k refl

-- ---- the starts of a seek

block-of : (plan : Plan) (o : Option Packet) → (point_mark (option_map (point_of plan) o)).pos ≡ block_of o
block-of plan None = refl
block-of plan (Some p) = mark-pos plan p.pos.block

least-start : (o o' : Option ℕ) (p q : Option Point) → (mark_or_opening (least_mark (track_mark o p) (track_mark o' q))).pos ≡ least_of o o' (point_mark p).pos (point_mark q).pos
least-start None None p q = refl
least-start None (Some k) p q = refl
least-start (Some k) None p q = refl
least-start (Some k) (Some j) p q = min-by (point_mark p) (point_mark q)

abbrev point_in : Plan → Option Packet → Option Point
point_in plan o = option_map (point_of plan) o

video-start : (plan : Plan) (set : Choice) (V A : Option Packet) (o : Option ℕ) → set.video ≡ o → start_by (track_mark o (point_in plan V)) ≡ option_map (rule_start set V A) o
video-start plan set V A None e = refl
video-start plan set V A (Some k) e =
    let mine : is_track set.video k ≡ true = ap (λ (x : Option ℕ). is_track x k) e ∙ own k in
    rw mine (ap Some (block-of plan V))

audio-start : (plan : Plan) (set : Choice) (V A : Option Packet) (o : Option ℕ) → set.audio ≡ o → is_distinct set ≡ true
    → start_by (track_mark o (point_in plan A)) ≡ option_map (rule_start set V A) o
audio-start plan set V A None e distinct = refl
audio-start plan set V A (Some k) e distinct =
    let apart : is_other set.video (Some k) ≡ true = rw (← e) (and-both (is_other set.video set.audio) _ distinct).0 in
    let video : is_track set.video k ≡ false = other-before set.video k apart in
    let mine : is_track set.audio k ≡ true = ap (λ (x : Option ℕ). is_track x k) e ∙ own k in
    rw (video, mine) (ap Some (block-of plan A))

sub-start : (plan : Plan) (set : Choice) (V A : Option Packet) (o : Option ℕ) → set.sub ≡ o → is_distinct set ≡ true
    → start_by (sub_mark o (least_mark (track_mark set.video (point_in plan V)) (track_mark set.audio (point_in plan A)))) ≡ option_map (rule_start set V A) o
sub-start plan set V A None e distinct = refl
sub-start plan set V A (Some k) e distinct =
    let more = (and-both (is_other set.video set.audio) _ distinct).1 in
    let parts = and-both (is_other set.video set.sub) (is_other set.audio set.sub) more in
    let apart : is_other set.video (Some k) ≡ true = rw (← e) parts.0 in
    let apart' : is_other set.audio (Some k) ≡ true = rw (← e) parts.1 in
    let video : is_track set.video k ≡ false = other-before set.video k apart in
    let audio : is_track set.audio k ≡ false = other-before set.audio k apart' in
    rw (video, audio) (ap Some (least-start set.video set.audio (point_in plan V) (point_in plan A) ∙ ap (λ n. least_of set.video set.audio n (point_mark (point_in plan A)).pos) (block-of plan V)
    ∙ ap (least_of set.video set.audio (block_of V)) (block-of plan A)))

points-start : (plan : Plan) (set : Choice) (V A : Option Packet) → is_distinct set ≡ true → AreStarts set (rule_start set V A) (seek_starts set (point_in plan V) (point_in plan A))
points-start plan set V A distinct = record {
  video = video-start plan set V A set.video refl;
  audio = audio-start plan set V A set.audio refl distinct;
  sub = sub-start plan set V A set.sub refl distinct;
}

abbrev video_of : Plan → Choice → Dir → ℤ → Option Packet
video_of plan set dir t = video_sync (film_syncs (plan_packets plan)) set dir t

pub seek-time : (plan : Plan) (set : Choice) (dir : Dir) (t : ℤ) (a : Around) → IsNear plan set.video t a → Rises plan set.video
    → point_time t (chosen dir t a) ≡ time_or t (video_of plan set dir t)
seek-time plan set dir t a near rise = time-of plan t (video_of plan set dir t) (chosen dir t a) (near-chosen plan set.video dir t a near rise)

pub seek-starts : (plan : Plan) (set : Choice) (dir : Dir) (t : ℤ) (a b : Around) → IsRegular (plan_packets plan) (knows plan.tracks) → is_known (knows plan.tracks) set ≡ true
    → IsNear plan set.video t a → IsNear plan set.audio (point_time t (chosen dir t a)) b
    → AreStarts set (start_of (plan_packets plan) set dir t) (seek_starts set (chosen dir t a) (chosen (audio_dir set.video dir) (point_time t (chosen dir t a)) b))
seek-starts plan set dir t a b regular known near beside =
    let V = video_of plan set dir t in
    let A = audio_sync (film_syncs (plan_packets plan)) set dir t in
    let rise = video-rises plan set regular known in
    let video : chosen dir t a ≡ point_in plan V = near-chosen plan set.video dir t a near rise in
    let time = seek-time plan set dir t a near rise in
    let audio : chosen (audio_dir set.video dir) (point_time t (chosen dir t a)) b ≡ point_in plan A =
    near-chosen plan set.audio (audio_dir set.video dir) (point_time t (chosen dir t a)) b beside (audio-rises plan set regular known)
    ∙ ap (λ time. option_map (point_of plan) (track_sync (film_points plan) (audio_dir set.video dir) time set.audio)) time in
    let place : ℕ → ℕ = start_of (plan_packets plan) set dir t in
    let whole : AreStarts set place (seek_starts set (point_in plan V) (point_in plan A)) = points-start plan set V A (known-distinct (knows plan.tracks) set known) in
    let one : AreStarts set place (seek_starts set (chosen dir t a) (point_in plan A)) = subst (λ p. AreStarts set place (seek_starts set p (point_in plan A))) (sym video) whole in
    subst (λ p. AreStarts set place (seek_starts set (chosen dir t a) p)) (sym audio) one

-- ---- the starts of a switch

pub near-last : (plan : Plan) (lead : Option ℕ) (t : ℤ) (a : Around) → IsNear plan lead t a → Rises plan lead → a.before ≡ point_in plan (last_for (plan_packets plan) t lead)
near-last plan None t a near rise = ap (λ (x : Around). x.before) near
near-last plan (Some track) t a near rise = near-before plan track t a near rise

back-start : (plan : Plan) (added : Choice) (lead : Option ℕ) (at : ℤ) (a : Around) (o : Option ℕ) → ((k : ℕ) → o ≡ Some k → is_track added.sub k ≡ false) → IsNear plan o at a → Rises plan o
    → start_by (track_mark o (chosen Back at a)) ≡ option_map (switch_start (plan_packets plan) lead added at) o
back-start plan added lead at a None other near rise = refl
back-start plan added lead at a (Some k) other near rise =
    let off = other k refl in
    rw off (ap Some (ap (λ p. (point_mark p).pos) (near-chosen plan (Some k) Back at a near rise) ∙ block-of plan (sync_for Back at (film_points plan k))))

lead-start : (plan : Plan) (added : Choice) (lead : Option ℕ) (at : ℤ) (p : Option Point) (o : Option ℕ) → added.sub ≡ o → p ≡ point_in plan (last_for (plan_packets plan) at lead)
    → start_by (track_mark o p) ≡ option_map (switch_start (plan_packets plan) lead added at) o
lead-start plan added lead at p None e is = refl
lead-start plan added lead at p (Some k) e is =
    let mine : is_track added.sub k ≡ true = ap (λ (x : Option ℕ). is_track x k) e ∙ own k in
    rw mine (ap Some (ap (λ q. (point_mark q).pos) is ∙ block-of plan (last_for (plan_packets plan) at lead)))

pub switch-starts : (plan : Plan) (added : Choice) (lead : Option ℕ) (at : ℤ) (a b : Around) (p : Option Point) → IsRegular (plan_packets plan) (knows plan.tracks)
    → is_known (knows plan.tracks) added ≡ true → IsNear plan added.video at a → IsNear plan added.audio at b
    → ((k : ℕ) → added.sub ≡ Some k → p ≡ point_in plan (last_for (plan_packets plan) at lead))
    → AreStarts added (switch_start (plan_packets plan) lead added at) (switch_starts added (chosen Back at a) (chosen Back at b) p)
switch-starts plan added lead at a b p regular known near beside before =
    let more = (and-both (is_other added.video added.audio) _ (known-distinct (knows plan.tracks) added known)).1 in
    let parts = and-both (is_other added.video added.sub) (is_other added.audio added.sub) more in
    record {
      video = back-start plan added lead at a added.video (λ k e. other-behind added.sub k (rw (← e) parts.0)) near (video-rises plan added regular known);
      audio = back-start plan added lead at b added.audio (λ k e. other-behind added.sub k (rw (← e) parts.1)) beside (audio-rises plan added regular known);
      sub = sub-by added.sub refl;
    }
  where
    sub-by : (o : Option ℕ) → added.sub ≡ o → start_by (track_mark o p) ≡ option_map (switch_start (plan_packets plan) lead added at) o
    sub-by None e = refl
    sub-by (Some k) e = lead-start plan added lead at p (Some k) e (before k e)

-- ---- how far is read

pub reads-first : (plan : Plan) (f g : List Packet → Bool) (before now : ℕ) → ReadsUntil plan f before now → ReadsUntil plan (λ ps. f ps && g ps) before now
reads-first plan f g before now reads = λ n m ps front shown. reads n m ps front (and-both (f ps) (g ps) shown).0

pub reads-then : (plan : Plan) (f g : List Packet → Bool) (before between now : ℕ) → ReadsUntil plan f before between → ReadsUntil plan g between now → ReadsUntil plan (λ ps. f ps && g ps) before now
reads-then plan f g before between now reads more = λ n m ps front shown.
    let both = and-both (f ps) (g ps) shown in
    let far = reads n m ps front both.0 in
    let further = more n m ps front both.1 in
    omega (arith, far, further)
