-- What the answered starts are: blocks of the film with their marks, on any film, and on a regular one those of the rule.
use Rattle.std.proofs.Common.{◌≡◌, ℕ, Bool, true, false, List, [], ◌∷◌, ◌++◌, Option, Some, None, ℤ, refl, sym, ap, subst, ◌∙◌, inl, inr, arith, min}
use Rattle.std.proofs.lemmas.Bool.{cond_both, cases_Bool}
use Rattle.std.proofs.lemmas.Bool.Decides.{nat_tests}
use Rattle.std.proofs.lemmas.List.Elements.{Contains-append_left, Contains-append_right, Contains-push}
use Rattle.std.specs.Prelude.{◌==◌, ◌&&◌, nat_le, IfSome, is_some, if◌then◌else◌, Contains}
use Rattle.std.specs.Option.{option_map, option_map_or}
use Rattle.std.specs.List.{AllByRecursion, filter}
use Rattle.mc_packet.specs.declared.choice.Choice.{Choice}
use Rattle.mc_packet.specs.declared.choice.Dir.{Dir}
use Rattle.mc_packet.specs.declared.choice.Dir.TheVariants.{Back, Forward}
use Rattle.mc_packet.specs.declared.packet.Packet.{Packet}
use Rattle.mc_packet.specs.declared.walk.Mark.{Mark}
use Rattle.mc_walk.specs.declared.plan.Plan.{Plan}
use Rattle.mc_walk.specs.Parts.{opening_mark}
use Rattle.mc_walk.specs.Walk.{film_walk}
use Rattle.mc_packet.specs.Choices.{or_else}
use Rattle.mc_journal.specs.Films.{first, last}
use Rattle.mc_journal.specs.Used.{least_start, place_of_starts}
use Rattle.mc_index.specs.declared.entry.Point.{Point}
use Rattle.mc_index.specs.declared.search.Around.{Around}
use Rattle.mc_index.specs.Answers.{IsAround, IsStart, AreOfBlocks, AreFor}
use Rattle.mc_index.specs.Fronts.{film_points}
use Rattle.mc_filmed.specs.Films.{plan_packets}
use Rattle.mc_filmed.specs.Marks.{mark_at}
use Rattle.mc_index.specs.Scans.{point_of}
use Rattle.mc_index.specs.Searches.{IsNear, chosen, is_at, track_mark, least_mark, mark_or_opening, start_by, starts_by, sub_mark, seek_starts, switch_starts}
use Rattle.mc_index.proofs.Marking.{mark-pos}

-- ---- the film's packets

abbrev IsOf : List Packet → Packet → Type 0
IsOf film p = (q : Packet) × Contains film q × (p ≡ q)

contains-first : (q : Packet) (qs : List Packet) → Contains (q ∷ qs) q
contains-first q qs = Contains-append_left (q ∷ []) qs q (Contains-push [] q)

all-film : (film ps : List Packet) → ((q : Packet) → Contains ps q → Contains film q) → AllByRecursion (IsOf film) ps
all-film film [] on = tt
all-film film (q ∷ qs) on = ((q, on q (contains-first q qs), refl), all-film film qs (λ r h. on r (Contains-append_right (q ∷ []) qs r h)))

all-kept : (P : Packet → Type 0) (test : Packet → Bool) (xs : List Packet) → AllByRecursion P xs → AllByRecursion P (filter test xs)
all-kept P test [] h = tt
all-kept P test (x ∷ xs) h =
    elim (test x) as (λ b. AllByRecursion P (if b then x ∷ filter test xs else filter test xs)) [ true ↦ (h.0, all-kept P test xs h.1) | false ↦ all-kept P test xs h.1 ]

all-front : (P : Packet → Type 0) (xs ys : List Packet) → AllByRecursion P (xs ++ ys) → AllByRecursion P xs
all-front P [] ys all = tt
all-front P (x ∷ xs) ys all = (all.0, all-front P xs ys all.1)

all-back : (P : Packet → Type 0) (xs ys : List Packet) → AllByRecursion P (xs ++ ys) → AllByRecursion P ys
all-back P [] ys all = all
all-back P (x ∷ xs) ys all = all-back P xs ys all.1

some-or_else : (P : Packet → Type 0) (o : Option Packet) (x : Packet) → IfSome o P → P x → IfSome (or_else o (Some x)) P
some-or_else P None x h p = p
some-or_else P (Some y) x h p = h

last-all : (P : Packet → Type 0) (xs : List Packet) → AllByRecursion P xs → IfSome (last xs) P
last-all P [] all = tt
last-all P (x ∷ xs) all = some-or_else P (last xs) x (last-all P xs all.1) all.0

first-all : (P : Packet → Type 0) (xs : List Packet) → AllByRecursion P xs → IfSome (first xs) P
first-all P [] all = tt
first-all P (x ∷ xs) all = all.0

-- ---- sync points of the film

-- the mark at a place where the film has a block, or the opening mark
pub record IsPlaced (plan : Plan) (m : Mark) : Type 0 where
  pub start : IsStart plan m.pos
  pub mark : m ≡ mark_at plan m.pos

pub opening-placed : (plan : Plan) → IsPlaced plan opening_mark
opening-placed plan = record { start = inl refl; mark = refl }

abbrev pub IsKnown : Plan → Option Point → Type 0
IsKnown plan p = IfSome p (λ x. IsPlaced plan x.mark)

film-placed : (plan : Plan) (p : Packet) → IsOf (film_walk plan).0 p → IsPlaced plan (mark_at plan p.pos.block)
film-placed plan p of =
    let at = mark-pos plan p.pos.block in
    let block : of.0.pos.block ≡ (mark_at plan p.pos.block).pos = ap (λ (x : Packet). x.pos.block) (sym of.2) ∙ sym at in
    record { start = inr (of.0, of.1, block); mark = ap (mark_at plan) (sym at) }

known-by : (plan : Plan) (o : Option Packet) (p : Option Point) → p ≡ option_map (point_of plan) o → IfSome o (IsOf (film_walk plan).0) → IsKnown plan p
known-by plan None p e of = subst (IsKnown plan) (sym e) tt
known-by plan (Some q) p e of = subst (IsKnown plan) (sym e) (film-placed plan q of)

points-plan : (plan : Plan) (track : ℕ) → AllByRecursion (IsOf (film_walk plan).0) (film_points plan track)
points-plan plan track = all-kept (IsOf (film_walk plan).0) (λ p. p.track == track && p.sync) (plan_packets plan) (all-film (film_walk plan).0 (film_walk plan).0 (λ q h. h))

pub before-known : (plan : Plan) (track : ℕ) (t : ℤ) (a : Around) → IsAround plan track t a → IsKnown plan a.before
before-known plan track t a around =
    let P = IsOf (film_walk plan).0 in
    let all = subst (AllByRecursion P) around.whole (points-plan plan track) in
    known-by plan (last around.earlier) a.before around.before (last-all P around.earlier (all-front P around.earlier around.later all))

pub after-known : (plan : Plan) (track : ℕ) (t : ℤ) (a : Around) → IsAround plan track t a → IsKnown plan a.after
after-known plan track t a around =
    let P = IsOf (film_walk plan).0 in
    let all = subst (AllByRecursion P) around.whole (points-plan plan track) in
    known-by plan (first around.later) a.after around.after (first-all P around.later (all-back P around.earlier around.later all))

or_else-known : (plan : Plan) (p q : Option Point) → IsKnown plan p → IsKnown plan q → IsKnown plan (or_else p q)
or_else-known plan None q h g = g
or_else-known plan (Some x) q h g = h

chosen-known : (plan : Plan) (dir : Dir) (t : ℤ) (a : Around) → IsKnown plan a.before → IsKnown plan a.after → IsKnown plan (chosen dir t a)
chosen-known plan Back t a h g = or_else-known plan a.before a.after h g
chosen-known plan Forward t a h g =
    cond_both (is_at t a.before) a.before (or_else a.after a.before) (IsKnown plan) (λ e. h) (λ e. or_else-known plan a.after a.before g h)

near-parts : (plan : Plan) (track : Option ℕ) (t : ℤ) (a : Around) → IsNear plan track t a → IsKnown plan a.before × IsKnown plan a.after
near-parts plan None t a near = (subst (λ (x : Around). IsKnown plan x.before) (sym near) tt, subst (λ (x : Around). IsKnown plan x.after) (sym near) tt)
near-parts plan (Some track) t a near = (before-known plan track t a near, after-known plan track t a near)

pub near-known : (plan : Plan) (track : Option ℕ) (dir : Dir) (t : ℤ) (a : Around) → IsNear plan track t a → IsKnown plan (chosen dir t a)
near-known plan track dir t a near = let both = near-parts plan track t a near in chosen-known plan dir t a both.0 both.1

pub near-before_known : (plan : Plan) (track : Option ℕ) (t : ℤ) (a : Around) → IsNear plan track t a → IsKnown plan a.before
near-before_known plan track t a near = (near-parts plan track t a near).0

-- ---- their marks

abbrev pub ArePlaced : Plan → Option Mark → Type 0
ArePlaced plan m = IfSome m (IsPlaced plan)

pub track-placed : (plan : Plan) (track : Option ℕ) (p : Option Point) → IsKnown plan p → ArePlaced plan (track_mark track p)
track-placed plan None p h = tt
track-placed plan (Some k) None h = opening-placed plan
track-placed plan (Some k) (Some p) h = h

least-placed : (plan : Plan) (a b : Option Mark) → ArePlaced plan a → ArePlaced plan b → ArePlaced plan (least_mark a b)
least-placed plan None b h g = g
least-placed plan (Some a) None h g = h
least-placed plan (Some a) (Some b) h g = cond_both (nat_le a.pos b.pos) a b (IsPlaced plan) (λ e. h) (λ e. g)

opened-placed : (plan : Plan) (m : Option Mark) → ArePlaced plan m → IsPlaced plan (mark_or_opening m)
opened-placed plan None h = opening-placed plan
opened-placed plan (Some m) h = h

sub-placed : (plan : Plan) (sub : Option ℕ) (m : Option Mark) → ArePlaced plan m → ArePlaced plan (sub_mark sub m)
sub-placed plan None m h = tt
sub-placed plan (Some k) m h = opened-placed plan m h

start-placed : (plan : Plan) (m : Option Mark) → ArePlaced plan m → IfSome (start_by m) (IsStart plan)
start-placed plan None h = tt
start-placed plan (Some m) h = h.start

-- ---- the mark at the least start

pub min-by : (a b : Mark) → (if nat_le a.pos b.pos then a else b).pos ≡ min a.pos b.pos
min-by a b = elim (cases_Bool (nat_le a.pos b.pos)) [
  | inl le ↦ rw le (grind (arith, nat_tests))
  | inr more ↦ rw more (grind (arith, nat_tests))
]

start-least : (a b : Option Mark) → start_by (least_mark a b) ≡ least_start (start_by a) (start_by b)
start-least None b = refl
start-least (Some a) None = refl
start-least (Some a) (Some b) = ap Some (min-by a b)

start-opened : (m : Option Mark) → (mark_or_opening m).pos ≡ option_map_or (λ block. block) (start_by m) 0
start-opened None = refl
start-opened (Some m) = refl

pub least-is : (video audio sub : Option Mark) → (starts_by video audio sub).mark.pos ≡ place_of_starts (starts_by video audio sub)
least-is video audio sub =
    start-opened (least_mark video (least_mark audio sub))
    ∙ ap (λ (o : Option ℕ). option_map_or (λ block. block) o 0) (start-least video (least_mark audio sub) ∙ ap (least_start (start_by video)) (start-least audio sub))

pub starts-placed : (plan : Plan) (video audio sub : Option Mark) → ArePlaced plan video → ArePlaced plan audio → ArePlaced plan sub → AreOfBlocks plan (starts_by video audio sub)
starts-placed plan video audio sub v a s = record {
  video = start-placed plan video v;
  audio = start-placed plan audio a;
  sub = start-placed plan sub s;
  marked = (opened-placed plan (least_mark video (least_mark audio sub)) (least-placed plan video (least_mark audio sub) v (least-placed plan audio sub a s))).mark
      ∙ ap (mark_at plan) (least-is video audio sub);
}

pub seek-placed : (plan : Plan) (set : Choice) (video audio : Option Point) → IsKnown plan video → IsKnown plan audio → AreOfBlocks plan (seek_starts set video audio)
seek-placed plan set video audio v a =
    let vm = track_mark set.video video in
    let am = track_mark set.audio audio in
    let vp = track-placed plan set.video video v in
    let ap' = track-placed plan set.audio audio a in
    starts-placed plan vm am (sub_mark set.sub (least_mark vm am)) vp ap' (sub-placed plan set.sub (least_mark vm am) (least-placed plan vm am vp ap'))

pub switch-placed : (plan : Plan) (added : Choice) (video audio lead : Option Point) → IsKnown plan video → IsKnown plan audio → IsKnown plan lead
    → AreOfBlocks plan (switch_starts added video audio lead)
switch-placed plan added video audio lead v a l =
    starts-placed plan (track_mark added.video video) (track_mark added.audio audio) (track_mark added.sub lead)
    (track-placed plan added.video video v) (track-placed plan added.audio audio a) (track-placed plan added.sub lead l)

-- ---- for just the tracks of a set

some-track : (track : Option ℕ) (p : Option Point) → is_some (start_by (track_mark track p)) ≡ is_some track
some-track None p = refl
some-track (Some k) p = refl

some-sub : (sub : Option ℕ) (m : Option Mark) → is_some (start_by (sub_mark sub m)) ≡ is_some sub
some-sub None m = refl
some-sub (Some k) m = refl

pub seek-for : (set : Choice) (video audio : Option Point) → AreFor set (seek_starts set video audio)
seek-for set video audio =
    let vm = track_mark set.video video in
    let am = track_mark set.audio audio in
    record {
      video = some-track set.video video;
      audio = some-track set.audio audio;
      sub = some-sub set.sub (least_mark vm am);
      least = least-is vm am (sub_mark set.sub (least_mark vm am));
    }

pub switch-for : (added : Choice) (video audio lead : Option Point) → AreFor added (switch_starts added video audio lead)
switch-for added video audio lead = record {
  video = some-track added.video video;
  audio = some-track added.audio audio;
  sub = some-track added.sub lead;
  least = least-is (track_mark added.video video) (track_mark added.audio audio) (track_mark added.sub lead);
}
