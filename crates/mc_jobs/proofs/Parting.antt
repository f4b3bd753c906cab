-- A chunk of a film is a part of it: all its packets from one mark to the next.
use Rattle.std.proofs.Common.{◌≡◌, ℕ, ◌<◌, ◌≤◌, List, [], ◌∷◌, ◌++◌, length, Option, Some, None, refl, sym, ap, subst, ◌∙◌, arith}
use Rattle.std.proofs.lemmas.List.{append-nil}
use Rattle.std.proofs.lemmas.List.Elements.{filter-append}
use Rattle.std.proofs.lemmas.Bool.{cond_both}
use Rattle.std.proofs.lemmas.Bool.Decides.{nat_tests}
use Rattle.std.specs.Prelude.{false, ◌==◌, ◌&&◌, nat_le, nat_lt, IfSome}
use Rattle.std.specs.List.{AllByRecursion}
use Rattle.mc_packet.specs.declared.packet.Packet.{Packet}
use Rattle.mc_packet.specs.declared.walk.Ending.{Ending}
use Rattle.mc_packet.specs.declared.walk.Level.TheVariants as levels
use Rattle.mc_packet.specs.declared.walk.Mark.{Mark}
use Rattle.mc_walk.specs.declared.plan.Plan.{Plan}
use Rattle.mc_walk.specs.Walk.{steps, Rest, in_front, film_walk}
use Rattle.mc_walk.specs.Parts.{mark, Part, part_at, place_of, level_of, joined_after, chunk_at, IsMark}
use Rattle.mc_walk.specs.Parts.IsMark.{at_end, at_opening, at_block}
use Rattle.mc_walk.proofs.Enough.{part-to, EndsOnward}
use Rattle.mc_walk.proofs.Joining.{place-of, level-of, mark-lies, comes-within, walk-by_part, from_mark}
use Rattle.mc_journal.specs.Films.{IsFilm, HasLanes, at, rank, first_lane}
use Rattle.mc_journal.specs.Ranges.{within}
use Rattle.mc_journal.proofs.Within.{in_below, within-past, within-whole}
use Rattle.mc_filmed.specs.Films.{plan_packets, film_for}
use Rattle.mc_index.specs.Scans.{IsPlan}
use Rattle.mc_index.proofs.Fronts.{mark-under}
use Rattle.mc_calls.specs.Film.{IsPartOf}
use Rattle.mc_jobs.proofs.Lying.{IsBehind, IsBefore, all-append, behind-earlier, before-later, walk-behind, part-lies, from_end, walk-parts, in_front-append, Falls, comes-falls}

-- ---- what stands before a mark

abbrev pub FallsAt : Plan → Mark → Type 0
FallsAt plan m = Falls plan (film_walk plan) (place_of plan m) (level_of m) m.pos

-- a mark behind the first octet stands for its own place
falls-there : (plan : Plan) (m : Mark) → 0 < m.pos → Falls plan (film_walk plan) m.pos m.level m.pos → FallsAt plan m
falls-there plan m behind falls = rw (place-of plan m behind, level-of m behind) falls

-- each mark stands for a place behind the first octet
eqb-false : (n : ℕ) → (n == 0) ≡ false → 0 < n
eqb-false n e = grind (arith, nat_tests)

pub place-positive : (plan : Plan) (m : Mark) → IsPlan plan → 0 < place_of plan m
place-positive plan m is = cond_both (m.pos == 0) plan.opening m.pos (λ place. 0 < place) (λ e. is.0) (λ e. eqb-false m.pos e)

falls-on : (plan : Plan) (m : Mark) → IsPlan plan → place_of plan m ≤ length plan.octets → FallsAt plan m → FallsAt plan (part_at plan m).to
falls-on plan m is lies falls =
    let p = part_at plan m in
    let onward : EndsOnward (place_of plan m) (length plan.octets) p = part-to (steps plan) plan (place_of plan m) (level_of m) lies in
    let inside = part-lies (steps plan) plan (place_of plan m) (level_of m) lies in
    let under = mark-under plan m in
    falls-there plan p.to (let h = onward.0 in let g = place-positive plan m is in omega arith) (record {
      front = falls.front ++ p.packets;
      joined = falls.joined ∙ ap (in_front falls.front) (walk-parts (steps plan) plan (place_of plan m) (level_of m) lies (omega arith)) ∙ sym (in_front-append falls.front p.packets (from_end plan p));
      before = all-append (IsBefore p.to.pos) falls.front p.packets (before-later m.pos p.to.pos falls.front (let h = onward.0 in omega arith) falls.before) inside.before;
    })

-- a film is what stands before a mark of it, and the walk from there on
pub falls-at : (plan : Plan) (m : Mark) → IsPlan plan → IsMark plan m → FallsAt plan m
falls-at plan m is at_opening = record { front = []; joined = refl; before = tt }
falls-at plan m is (at_end before mark) = falls-on plan before is (mark-lies plan before is.1 mark) (falls-at plan before is mark)
falls-at plan m is (at_block b) =
    let there = comes-falls plan (steps plan) plan.opening levels.Segment b.place b.level b.stands is.1 (omega arith) in
    let on = comes-within plan plan.opening levels.Segment b.place b.level b.stands is.1 in
    falls-there plan (mark b.place b.level) (let h = on.0 in let g = is.0 in omega arith) there

-- ---- places of blocks as numbers

block-low : (from : ℕ) (p : Packet) → HasLanes p → p.pos.block < from → at p < first_lane from
unfolding rank first_lane
block-low from p lanes less = let h = lanes.0 in omega arith

block-high : (to : ℕ) (p : Packet) → to ≤ p.pos.block → first_lane to ≤ at p
unfolding rank first_lane
block-high to p less = omega arith

lanes-front : (xs ys : List Packet) → AllByRecursion HasLanes (xs ++ ys) → AllByRecursion HasLanes xs
lanes-front [] ys h = tt
lanes-front (x ∷ xs) ys h = (h.0, lanes-front xs ys h.1)

lanes-back : (xs ys : List Packet) → AllByRecursion HasLanes (xs ++ ys) → AllByRecursion HasLanes ys
lanes-back [] ys h = h
lanes-back (x ∷ xs) ys h = lanes-back xs ys h.1

places-low : (from : ℕ) (ps : List Packet) → AllByRecursion HasLanes ps → AllByRecursion (IsBefore from) ps → AllByRecursion (λ p. at p < first_lane from) ps
places-low from [] lanes h = tt
places-low from (p ∷ ps) lanes h = (block-low from (p) lanes.0 h.0, places-low from ps lanes.1 h.1)

places-high : (to : ℕ) (ps : List Packet) → AllByRecursion (IsBehind to) ps → AllByRecursion (λ p. first_lane to ≤ at p) ps
places-high to [] h = tt
places-high to (p ∷ ps) h = (block-high to (p) h.0, places-high to ps h.1)

within-below : (from to : ℕ) (ps : List Packet) → AllByRecursion (λ p. at p < from) ps → within from to ps ≡ []
within-below from to [] h = refl
within-below from to (p ∷ ps) h =
    let e = within-below from to ps h.1 in
    rw (in_below from to (at p) h.0, e) refl

-- ---- the packets of a part

-- three runs of packets, of which the middle one lies between two places
within-middle : (from to : ℕ) (xs ys zs : List Packet) → AllByRecursion (λ p. at p < from) xs → AllByRecursion (λ p. from ≤ at p) ys → AllByRecursion (λ p. at p < to) ys
    → AllByRecursion (λ p. to ≤ at p) zs → within from to (xs ++ (ys ++ zs)) ≡ ys
within-middle from to xs ys zs low behind before high =
    let test = λ (p : Packet). nat_le from (at p) && nat_lt (at p) to in
    filter-append test xs (ys ++ zs) ∙ ap (λ l. l ++ within from to (ys ++ zs)) (within-below from to xs low)
    ∙ filter-append test ys zs ∙ ap (λ l. l ++ within from to zs) (within-whole from to ys behind before)
    ∙ ap (λ l. ys ++ l) (within-past from to zs high) ∙ append-nil ys

middle-within : (from to : ℕ) (xs ys zs : List Packet) → AllByRecursion HasLanes (xs ++ (ys ++ zs)) → AllByRecursion (IsBefore from) xs
    → AllByRecursion (IsBehind from) ys → AllByRecursion (IsBefore to) ys → AllByRecursion (IsBehind to) zs
    → ys ≡ within (first_lane from) (first_lane to) (xs ++ (ys ++ zs))
middle-within from to xs ys zs lanes low behind before high =
    let of_ys = lanes-front ys zs (lanes-back xs (ys ++ zs) lanes) in
    sym (within-middle (first_lane from) (first_lane to) xs ys zs (places-low from xs (lanes-front xs (ys ++ zs) lanes) low)
    (places-high from ys behind) (places-low to ys of_ys before) (places-high to zs high))

-- ---- the ending of a part

ends-walk : (p : Part) (ending : Ending) (on : Mark → Rest) → p.ending ≡ Some ending → joined_after p on ≡ (p.packets, ending)
ends-walk p ending on ends = rw ends refl

blocks-before : (to : ℕ) (ps : List Packet) → AllByRecursion (IsBefore to) ps → AllByRecursion (λ (p : Packet). p.pos.block < to) ps
blocks-before to [] h = tt
blocks-before to (p ∷ ps) h = (h.0, blocks-before to ps h.1)

abbrev EndsAt : Plan → ℕ → Ending → Type 0
EndsAt plan to e = (e ≡ (film_walk plan).1) × AllByRecursion (λ (p : Packet). p.pos.block < to) (plan_packets plan)

-- where the part has an ending it is the film's, and all packets stand before the part's end
ends-by : (plan : Plan) (m : Mark) → IsPlan plan → IsMark plan m → FallsAt plan m → (ending : Option Ending) → (part_at plan m).ending ≡ ending → IfSome ending (EndsAt plan (part_at plan m).to.pos)
ends-by plan m is mark falls None none = tt
ends-by plan m is mark falls (Some e) ends =
    let p = part_at plan m in
    let lies = mark-lies plan m is.1 mark in
    let onward : EndsOnward (place_of plan m) (length plan.octets) p = part-to (steps plan) plan (place_of plan m) (level_of m) lies in
    let inside = part-lies (steps plan) plan (place_of plan m) (level_of m) lies in
    let under = mark-under plan m in
    let last = walk-by_part (steps plan) (steps plan) plan (place_of plan m) (level_of m) lies (omega arith) (omega arith) ∙ ends-walk p e (from_mark (steps plan) plan) ends in
    let whole = falls.joined ∙ ap (in_front falls.front) last in
    let packets : (film_walk plan).0 ≡ falls.front ++ p.packets = ap (λ (r : Rest). r.0) whole in
    let all = all-append (IsBefore p.to.pos) falls.front p.packets (before-later m.pos p.to.pos falls.front (let h = onward.0 in omega arith) falls.before) inside.before in
    (sym (ap (λ (r : Rest). r.1) whole), subst (λ ps. AllByRecursion (λ (q : Packet). q.pos.block < p.to.pos) ps) (sym packets) (blocks-before p.to.pos (falls.front ++ p.packets) all))

-- the chunk at a mark of a film is a part of it
pub is-part : (plan : Plan) (m : Mark) → IsPlan plan → IsFilm (plan_packets plan) → IsMark plan m → IsPartOf (film_for plan) (chunk_at plan m)
is-part plan m is film mark =
    let p = part_at plan m in
    let lies = mark-lies plan m is.1 mark in
    let onward : EndsOnward (place_of plan m) (length plan.octets) p = part-to (steps plan) plan (place_of plan m) (level_of m) lies in
    let inside = part-lies (steps plan) plan (place_of plan m) (level_of m) lies in
    let under = mark-under plan m in
    let falls = falls-at plan m is mark in
    let rest = from_end plan p in
    let whole = falls.joined ∙ ap (in_front falls.front) (walk-parts (steps plan) plan (place_of plan m) (level_of m) lies (omega arith)) in
    let packets : (film_walk plan).0 ≡ falls.front ++ (p.packets ++ rest.0) = ap (λ (r : Rest). r.0) whole in
    let lanes = subst (λ ps. AllByRecursion HasLanes ps) packets film.lanes in
    record {
      part = refl;
      onward = let h = onward.0 in omega arith;
      packets =
          middle-within m.pos p.to.pos falls.front p.packets rest.0 lanes falls.before (behind-earlier m.pos (place_of plan m) p.packets under inside.behind) inside.before
          (walk-behind (steps plan) plan p.to.pos p.to.level onward.1)
          ∙ ap (λ ps. within (first_lane m.pos) (first_lane p.to.pos) ps) (sym packets);
      ends = ends-by plan m is mark falls p.ending refl;
    }
