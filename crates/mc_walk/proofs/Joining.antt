-- A film's parts, one behind the other, are the film.
use Rattle.std.proofs.Common.{◌≡◌, ℕ, zero, suc, ◌-◌, ◌<◌, ◌≤◌, List, length, Option, Some, None, refl, sym, ap, ◌∙◌, arith}
use Rattle.std.proofs.lemmas.Bool.{ne_eqb, cond_both}
use Rattle.std.specs.Prelude.{◌==◌}
use Rattle.mc_packet.specs.declared.packet.Packet.{Packet}
use Rattle.mc_packet.specs.declared.walk.Ending.{Ending}
use Rattle.mc_packet.specs.declared.walk.Level.{Level}
use Rattle.mc_packet.specs.declared.walk.Level.TheVariants as levels
use Rattle.mc_packet.specs.declared.walk.Mark.{Mark}
use Rattle.mc_walk.specs.declared.plan.Plan.{Plan}
use Rattle.mc_walk.specs.declared.plan.Step.{Step}
use Rattle.mc_walk.specs.declared.plan.Step.TheVariants.{End, On}
use Rattle.mc_walk.specs.Walk.{step_at, steps, walk, after, in_front, Rest, Rises}
use Rattle.mc_walk.specs.Parts.{mark, Part, part, part_after, part_at, place_of, level_of, joined, joined_after, opening_mark, PartsAreWhole, IsMark}
use Rattle.mc_walk.specs.Parts.IsMark.{at_opening, at_end, at_block}
use Rattle.mc_walk.specs.Frames.{Comes}
use Rattle.mc_walk.specs.Frames.Comes.{here, onward}
use Rattle.mc_walk.proofs.Rising.{step-rises}
use Rattle.mc_walk.proofs.Enough.{walk-enough, part-to, EndsOnward}

-- ---- a part, and then the walk from its end

joined-as : (to : Mark) (packets : List Packet) (ending : Option Ending) (f g : Mark → Rest) → (ending ≡ None → f to ≡ g to)
    → joined_after (record { to = to; packets = packets; ending = ending }) f ≡ joined_after (record { to = to; packets = packets; ending = ending }) g
joined-as to packets None f g same = ap (in_front packets) (same refl)
joined-as to packets (Some ending) f g same = refl

joined-same : (p : Part) (f g : Mark → Rest) → (p.ending ≡ None → f p.to ≡ g p.to) → joined_after p f ≡ joined_after p g
joined-same p f g same = joined-as p.to p.packets p.ending f g same

-- the walk from a mark on
abbrev pub from_mark : ℕ → Plan → Mark → Rest
from_mark k plan m = walk k plan m.pos m.level

step-joined : (step : Step) (n k : ℕ) (plan : Plan) (place : ℕ) (level : Level) → Rises place (length plan.octets) step → length plan.octets - place < suc n → length plan.octets - place ≤ k
    → ((to : ℕ) (inner : Level) → place < to → to ≤ length plan.octets → walk n plan to inner ≡ joined_after (part n plan to inner) (from_mark k plan))
    → after step (λ to inner. walk n plan to inner) ≡ joined_after (part_after place level step (λ to inner. part n plan to inner)) (from_mark k plan)
step-joined (End ending) n k plan place level rises enough enough' on = refl
step-joined (On to inner None) n k plan place level rises enough enough' on = on to inner rises.0 rises.1
step-joined (On to inner (Some packets)) n k plan place level rises enough enough' on =
    ap (in_front packets) (walk-enough n k plan to inner rises.1 (let h = rises.0 in omega arith) (let h = rises.0 in omega arith))

-- the walk from a place on is its part from there on, and then the walk from where that part ends
pub walk-by_part : (n k : ℕ) (plan : Plan) (place : ℕ) (level : Level) → place ≤ length plan.octets → length plan.octets - place < n → length plan.octets - place ≤ k
    → walk n plan place level ≡ joined_after (part n plan place level) (from_mark k plan)
unfolding walk part
walk-by_part zero k plan place level in_film enough enough' = absurd (omega arith)
walk-by_part (suc n) k plan place level in_film enough enough' =
    step-joined (step_at plan place level) n k plan place level (step-rises plan place level in_film) enough enough'
    (λ to inner onward within. walk-by_part n k plan to inner within (omega arith) (omega arith))

-- ---- all parts

-- a mark behind the film's first octet is its own place
pub place-of : (plan : Plan) (m : Mark) → 0 < m.pos → place_of plan m ≡ m.pos
place-of plan m behind = rw (ne_eqb m.pos 0 (λ e. omega arith)) refl

pub level-of : (m : Mark) → 0 < m.pos → level_of m ≡ m.level
level-of m behind = rw (ne_eqb m.pos 0 (λ e. omega arith)) refl

-- the parts from a mark on are the walk from there on
pub joined-walks : (n : ℕ) (plan : Plan) (m : Mark) → place_of plan m ≤ length plan.octets → length plan.octets - place_of plan m < n
    → joined n plan m ≡ walk (steps plan) plan (place_of plan m) (level_of m)
unfolding joined
joined-walks zero plan m in_film enough = absurd (omega arith)
joined-walks (suc n) plan m in_film enough =
    let p = part_at plan m in
    let to_end : EndsOnward (place_of plan m) (length plan.octets) p = part-to (steps plan) plan (place_of plan m) (level_of m) in_film in
    let further : p.ending ≡ None → joined n plan p.to ≡ from_mark (steps plan) plan p.to = λ goes_on.
    let behind = to_end.2 goes_on in
    let from_start : 0 < p.to.pos = omega arith in
    let at = place-of plan p.to from_start in
    joined-walks n plan p.to (rw at to_end.1) (rw at (omega arith)) ∙ rw (at, level-of p.to from_start) refl in
    joined-same p (λ next. joined n plan next) (from_mark (steps plan) plan) further
    ∙ sym (walk-by_part (steps plan) (steps plan) plan (place_of plan m) (level_of m) in_film (omega arith) (omega arith))

pub parts-are-whole : (plan : Plan) → plan.opening ≤ length plan.octets → PartsAreWhole plan
parts-are-whole plan in_film = joined-walks (steps plan) plan opening_mark in_film (omega arith)

-- ---- marks

place-lies : (plan : Plan) (m : Mark) → plan.opening ≤ length plan.octets → m.pos ≤ length plan.octets → place_of plan m ≤ length plan.octets
place-lies plan m opens in_film = cond_both (m.pos == 0) plan.opening m.pos (λ place. place ≤ length plan.octets) (λ e. opens) (λ e. in_film)

-- a place to which the walk comes stands behind its start, and within the film
pub comes-within : (plan : Plan) (place : ℕ) (level : Level) (last : ℕ) (final : Level) → Comes plan place level last final → place ≤ length plan.octets
    → (place ≤ last) × (last ≤ length plan.octets)
comes-within plan place level _ _ (here _ _) in_film = (omega arith, in_film)
comes-within plan place level last final (onward _ _ to inner block _ _ step further) in_film =
    let rises = rw step at (step-rises plan place level in_film) in
    let on = comes-within plan to inner last final further rises.1 in
    (let h = rises.0 in let g = on.0 in omega arith, on.1)

-- a mark from which the film can be read on stands for a place within it
pub mark-lies : (plan : Plan) (m : Mark) → plan.opening ≤ length plan.octets → IsMark plan m → place_of plan m ≤ length plan.octets
mark-lies plan m opens at_opening = opens
mark-lies plan m opens (at_end before is) =
    place-lies plan (part_at plan before).to opens (part-to (steps plan) plan (place_of plan before) (level_of before) (mark-lies plan before opens is)).1
mark-lies plan m opens (at_block b) = place-lies plan (mark b.place b.level) opens (comes-within plan plan.opening levels.Segment b.place b.level b.stands opens).1
