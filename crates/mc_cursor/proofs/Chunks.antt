-- Step by step to the end of a part.
use Rattle.std.proofs.Common.{◌≡◌, ℕ, suc, ◌+◌, ◌<◌, ◌≤◌, max, List, [], length, Option, Some, None, refl, sym, ap, ◌∙◌, arith}
use Rattle.mc_packet.specs.declared.packet.Packet.{Packet}
use Rattle.mc_packet.specs.declared.walk.Ending.{Ending}
use Rattle.mc_packet.specs.declared.walk.Level.{Level}
use Rattle.mc_outside.specs.Shelf.{Files, Opened, content, KeepsRead}
use Rattle.mc_walk.specs.declared.plan.Plan.{Plan}
use Rattle.mc_walk.specs.declared.plan.Step.{Step}
use Rattle.mc_walk.specs.declared.plan.Step.TheVariants.{End, On}
use Rattle.mc_walk.specs.Walk.{step_at, steps}
use Rattle.mc_walk.specs.Parts.{mark, Part, part, part_after, part_at, level_of}
use Rattle.mc_walk.proofs.Rising.{step-rises}
use Rattle.mc_walk.proofs.Enough.{part-enough, part-to}
use Rattle.mc_cursor.specs.declared.cursor.Cursor.{Cursor}
use Rattle.mc_cursor.specs.Causes.{Keeps}
use Rattle.mc_cursor.specs.Standing.{plan_for, StandsFor, start_of, ReadsPart}
use Rattle.mc_cursor.specs.Steps.{ReadsUpTo}

-- ---- what is kept

pub keeps_none : (f : Option Files) (o : Opened) (r : ℕ) → Keeps f f o o r r
keeps_none f o r = record { same_files = refl; same_opened = refl; further = omega arith }

pub keeps_more : (f f' f'' : Option Files) (o o' o'' : Opened) (r r' r'' : ℕ) → Keeps f f' o o' r r' → Keeps f' f'' o' o'' r' r'' → Keeps f f'' o o'' r r''
keeps_more f f' f'' o o' o'' r r' r'' k l =
    record { same_files = l.same_files ∙ k.same_files; same_opened = l.same_opened ∙ k.same_opened; further = omega (arith, k.further, l.further) }

pub keeps_read : (f f' : Option Files) (o o' : Opened) (r r' a : ℕ) → KeepsRead f f' o o' r r' a → Keeps f f' o o' r r'
keeps_read f f' o o' r r' a k = record { same_files = k.same_files; same_opened = k.same_opened; further = k.later }

pub told_later : (f f' : Option Files) (o o' : Opened) (r r' file : ℕ) (octets : List ℕ) → Keeps f f' o o' r r' → content f o file ≡ Some octets → content f' o' file ≡ Some octets
told_later f f' o o' r r' file octets k told = cc (k.same_files, k.same_opened, told)

-- ---- one step of a part

part_step : (plan : Plan) (place : ℕ) (level : Level)
    → part (steps plan) plan place level ≡ part_after place level (step_at plan place level) (λ to inner. part (length plan.octets) plan to inner)
unfolding part
part_step plan place level = let k : steps plan ≡ suc (length plan.octets) = omega arith in rw k refl

pub part_ends : (plan : Plan) (place : ℕ) (level : Level) (ending : Ending) → End ending ≡ step_at plan place level
    → part (steps plan) plan place level ≡ record { to = mark place level; packets = []; ending = Some ending }
part_ends plan place level ending step = part_step plan place level ∙ rw (← step) refl

pub part_gives : (plan : Plan) (place to : ℕ) (level inner : Level) (packets : List Packet) → On to inner (Some packets) ≡ step_at plan place level
    → part (steps plan) plan place level ≡ record { to = mark to inner; packets = packets; ending = None }
part_gives plan place to level inner packets step = part_step plan place level ∙ rw (← step) refl

rises_to : (plan : Plan) (place to : ℕ) (level inner : Level) (block : Option (List Packet)) → On to inner block ≡ step_at plan place level → place ≤ length plan.octets
    → (place < to) × (to ≤ length plan.octets)
rises_to plan place to level inner block step within = rw (← step) at (step-rises plan place level within)

part_goes_on : (plan : Plan) (place to : ℕ) (level inner : Level) → On to inner None ≡ step_at plan place level → place ≤ length plan.octets
    → part (steps plan) plan place level ≡ part (steps plan) plan to inner
part_goes_on plan place to level inner step within =
    let rises = rises_to plan place to level inner None step within in
    let one : part (steps plan) plan place level ≡ part (length plan.octets) plan to inner = part_step plan place level ∙ rw (← step) refl in
    one ∙ part-enough (length plan.octets) (steps plan) plan to inner rises.1 (omega (arith, rises.0, rises.1)) (omega arith)

-- ---- so far

-- a walk from the cursor's mark has come to a place, and has read at most 12 octets behind it
pub record SoFar (octets : List ℕ) (cursor : Cursor) (place : ℕ) (level : Level) (before now : ℕ) : Type 0 where
  pub within : place ≤ length octets
  pub same : part (steps (plan_for octets cursor)) (plan_for octets cursor) place level ≡ part_at (plan_for octets cursor) cursor.mark
  pub near : now ≤ max before (place + 12)

pub so_far_starts : (octets : List ℕ) (cursor : Cursor) (reach : ℕ) → StandsFor octets cursor → SoFar octets cursor (start_of cursor) (level_of cursor.mark) reach reach
so_far_starts octets cursor reach stands = record { within = stands.within; same = refl; near = omega arith }

pub so_far_goes_on : (octets : List ℕ) (cursor : Cursor) (place to : ℕ) (level inner : Level) (before now after : ℕ) → SoFar octets cursor place level before now
    → On to inner None ≡ step_at (plan_for octets cursor) place level → ReadsUpTo (step_at (plan_for octets cursor) place level) now after → SoFar octets cursor to inner before after
so_far_goes_on octets cursor place to level inner before now after so_far step reads =
    let rises = rises_to (plan_for octets cursor) place to level inner None step so_far.within in
    let asked : after ≤ max now (to + 12) = rw (← step) at reads in
    record {
      within = rises.1;
      same = sym (part_goes_on (plan_for octets cursor) place to level inner step so_far.within) ∙ so_far.same;
      near = omega (arith, so_far.near, asked, rises.0);
    }

reach_by : (octets : List ℕ) (cursor : Cursor) (place : ℕ) (level : Level) (before now after : ℕ) → SoFar octets cursor place level before now
    → (step : Step) → step ≡ step_at (plan_for octets cursor) place level → ReadsUpTo step now after → ReadsPart (part_at (plan_for octets cursor) cursor.mark) before after
reach_by octets cursor place level before now after so_far (End ending) step reads = λ none.
    let e : (part_at (plan_for octets cursor) cursor.mark).ending ≡ Some ending =
    ap (λ (p : Part). p.ending) (sym so_far.same ∙ part_ends (plan_for octets cursor) place level ending step) in
    absurd (cc (e, none))
reach_by octets cursor place level before now after so_far (On to inner None) step reads = λ none.
    let rises = rises_to (plan_for octets cursor) place to level inner None step so_far.within in
    let onward = part-to (steps (plan_for octets cursor)) (plan_for octets cursor) to inner rises.1 in
    let e : (part_at (plan_for octets cursor) cursor.mark).to.pos ≡ (part (steps (plan_for octets cursor)) (plan_for octets cursor) to inner).to.pos =
    ap (λ (p : Part). p.to.pos) (sym so_far.same ∙ part_goes_on (plan_for octets cursor) place to level inner step so_far.within) in
    omega (arith, so_far.near, reads, rises.0, onward.0, e)
reach_by octets cursor place level before now after so_far (On to inner (Some packets)) step reads = λ none.
    let rises = rises_to (plan_for octets cursor) place to level inner (Some packets) step so_far.within in
    let e : (part_at (plan_for octets cursor) cursor.mark).to.pos ≡ to =
    ap (λ (p : Part). p.to.pos) (sym so_far.same ∙ part_gives (plan_for octets cursor) place to level inner packets step) in
    omega (arith, so_far.near, reads, rises.0, e)

pub so_far_reach : (octets : List ℕ) (cursor : Cursor) (place : ℕ) (level : Level) (before now after : ℕ) → SoFar octets cursor place level before now
    → ReadsUpTo (step_at (plan_for octets cursor) place level) now after → ReadsPart (part_at (plan_for octets cursor) cursor.mark) before after
so_far_reach octets cursor place level before now after so_far reads =
    reach_by octets cursor place level before now after so_far (step_at (plan_for octets cursor) place level) refl reads
