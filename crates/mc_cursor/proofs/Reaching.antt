-- From a mark to what ends its part.
use Rattle.std.proofs.Common.{◌≡◌, ℕ, ◌+◌, ◌<◌, ◌≤◌, max, List, [], ◌∷◌, length, Option, Some, None, Result, Ok, Err, refl, sym, ap, ◌∙◌, subst, arith}
use Rattle.std.specs.Prelude.{OnErr, IfSome}
use Rattle.mc_packet.specs.declared.packet.Packet.{Packet}
use Rattle.mc_packet.specs.declared.walk.Ending.{Ending}
use Rattle.mc_packet.specs.declared.walk.Level.{Level}
use Rattle.mc_packet.specs.declared.walk.Mark.{Mark}
use Rattle.mc_walk.specs.declared.front.BlockMark.{BlockMark}
use Rattle.mc_walk.specs.declared.plan.Plan.{Plan}
use Rattle.mc_walk.specs.declared.plan.Step.TheVariants.{End}
use Rattle.mc_walk.specs.Walk.{step_at, steps}
use Rattle.mc_walk.specs.Parts.{mark, Part, part, part_at, chunk_of, chunk_at, IsMark}
use Rattle.mc_walk.specs.Glances.{first_mark}
use Rattle.mc_cursor.specs.declared.cursor.Cursor.{Cursor}
use Rattle.mc_cursor.specs.declared.head.HeadChunk.{HeadChunk}
use Rattle.mc_cursor.specs.declared.next.Next.TheVariants as nexts
use Rattle.mc_cursor.specs.declared.step.Unread.{Unread}
use Rattle.mc_walk.proofs.Marks.{block-marked}
use Rattle.mc_cursor.specs.Heads.{IsBlockAt, BlockIsMark, head_chunk_of, part_by, IsNext, mark_taken, head_by}
use Rattle.mc_cursor.specs.Standing.{plan_for, StandsFor, ReadsPart}
use Rattle.mc_cursor.specs.Steps.{taken_of, taken_step}
use Rattle.mc_cursor.proofs.Standing.{opening_lies}
use Rattle.mc_cursor.proofs.Chunks.{SoFar, part_ends, part_gives}

pub next_end : (octets : List ℕ) (cursor : Cursor) (place : ℕ) (level : Level) (ending : Ending) (before now : ℕ) → SoFar octets cursor place level before now
    → End ending ≡ step_at (plan_for octets cursor) place level → IsNext octets cursor (mark place level) (nexts.End ending)
next_end octets cursor place level ending before now so_far step =
    record { same = sym so_far.same ∙ part_ends (plan_for octets cursor) place level ending step; begins = tt }

taken_part : (plan : Plan) (place : ℕ) (level : Level) (b : Unread) (taken : Result (List Packet) Ending) → taken_step b taken ≡ step_at plan place level
    → part (steps plan) plan place level ≡ part_by (mark place level) b taken
taken_part plan place level b (Ok packets) step = part_gives plan place b.stop level b.level packets step
taken_part plan place level b (Err ending) step = part_ends plan place level ending step

pub next_block : (octets : List ℕ) (cursor : Cursor) (place : ℕ) (level : Level) (b : Unread) (before now : ℕ) → SoFar octets cursor place level before now
    → taken_step b (taken_of (plan_for octets cursor) place b) ≡ step_at (plan_for octets cursor) place level → b.at ≤ length octets → IsNext octets cursor (mark place level) (nexts.Block b)
next_block octets cursor place level b before now so_far step within = record {
  same = sym so_far.same ∙ taken_part (plan_for octets cursor) place level b (taken_of (plan_for octets cursor) place b) step;
  begins = within;
}

-- ---- chunks

pub end_chunk : (octets : List ℕ) (cursor : Cursor) (at : Mark) (ending : Ending) → IsNext octets cursor at (nexts.End ending)
    → record { from = cursor.mark; to = at; packets = []; ending = Some ending } ≡ chunk_at (plan_for octets cursor) cursor.mark
end_chunk octets cursor at ending next = ap (chunk_of cursor.mark) (sym next.same)

pub block_chunk : (octets : List ℕ) (cursor : Cursor) (at : Mark) (b : Unread) (taken : Result (List Packet) Ending) → IsNext octets cursor at (nexts.Block b)
    → taken ≡ taken_of (plan_for octets cursor) at.pos b → chunk_of cursor.mark (part_by at b taken) ≡ chunk_at (plan_for octets cursor) cursor.mark
block_chunk octets cursor at b taken next is = ap (λ t. chunk_of cursor.mark (part_by at b t)) is ∙ ap (chunk_of cursor.mark) (sym next.same)

pub end_head : (octets : List ℕ) (cursor : Cursor) (at : Mark) (ending : Ending) → IsNext octets cursor at (nexts.End ending)
    → record { from = cursor.mark; to = at; block = None; ending = Some ending } ≡ head_chunk_of (chunk_at (plan_for octets cursor) cursor.mark)
end_head octets cursor at ending next = ap head_chunk_of (end_chunk octets cursor at ending next)

head_taken : (from at : Mark) (b : Unread) (taken : Result (List Packet) Ending) → head_by from at b (mark_taken taken) ≡ head_chunk_of (chunk_of from (part_by at b taken))
head_taken from at b (Ok packets) = refl
head_taken from at b (Err ending) = refl

pub block_head : (octets : List ℕ) (cursor : Cursor) (at : Mark) (b : Unread) (first : Result (Option BlockMark) Ending) → IsNext octets cursor at (nexts.Block b)
    → first ≡ mark_taken (taken_of (plan_for octets cursor) at.pos b) → head_by cursor.mark at b first ≡ head_chunk_of (chunk_at (plan_for octets cursor) cursor.mark)
block_head octets cursor at b first next is =
    let taken = taken_of (plan_for octets cursor) at.pos b in
    ap (head_by cursor.mark at b) is ∙ head_taken cursor.mark at b taken ∙ ap head_chunk_of (block_chunk octets cursor at b taken next refl)

-- ---- the mark of its block element

mark_by : (plan : Plan) (m : Mark) (packets : List Packet) → 0 < plan.opening → plan.opening ≤ length plan.octets → IsMark plan m → (part_at plan m).packets ≡ packets
    → IfSome (first_mark packets) (λ b. IsBlockAt plan m (mark b.pos (part_at plan m).to.level))
mark_by plan m [] behind opens is has = tt
mark_by plan m (p ∷ ps) behind opens is has = let both = block-marked plan m p ps behind opens is has in record { is_mark = both.0; same = both.1 }

pub block_is_mark : (octets : List ℕ) (cursor : Cursor) (k : HeadChunk) → StandsFor octets cursor → k ≡ head_chunk_of (chunk_at (plan_for octets cursor) cursor.mark)
    → IsMark (plan_for octets cursor) cursor.mark → BlockIsMark (plan_for octets cursor) k
block_is_mark octets cursor k stands is at =
    let lies = opening_lies octets cursor stands in
    let m = cursor.mark in
    let by : BlockIsMark (plan_for octets cursor) (head_chunk_of (chunk_at (plan_for octets cursor) m)) =
    mark_by (plan_for octets cursor) m (part_at (plan_for octets cursor) m).packets lies.0 lies.1 at refl in
    subst (BlockIsMark (plan_for octets cursor)) (sym is) by

-- ---- how far they read

pub end_reach : (octets : List ℕ) (cursor : Cursor) (at : Mark) (ending : Ending) (before now : ℕ) → IsNext octets cursor at (nexts.End ending)
    → ReadsPart (part_at (plan_for octets cursor) cursor.mark) before now
end_reach octets cursor at ending before now next = λ none.
    let e : (part_at (plan_for octets cursor) cursor.mark).ending ≡ Some ending = ap (λ (p : Part). p.ending) next.same in
    absurd (cc (e, none))

taken_reach : (at : Mark) (b : Unread) (taken : Result (List Packet) Ending) (before now : ℕ) → now ≤ max before (b.stop + 12) → ReadsPart (part_by at b taken) before now
taken_reach at b (Ok packets) before now le = λ none. le
taken_reach at b (Err ending) before now le = λ none. absurd (cc none)

pub block_reach : (octets : List ℕ) (cursor : Cursor) (at : Mark) (b : Unread) (before between now : ℕ) → IsNext octets cursor at (nexts.Block b) → at.pos < b.stop
    → between ≤ max before (at.pos + 12) → now ≤ max between b.stop → ReadsPart (part_at (plan_for octets cursor) cursor.mark) before now
block_reach octets cursor at b before between now next behind near further =
    rw next.same (taken_reach at b (taken_of (plan_for octets cursor) at.pos b) before now (omega (arith, behind, near, further)))

-- ---- what is said of a refused call

pub refused : {T E P : Type 0} (r : Result T E) → P → OnErr r P
refused (Ok x) p = tt
refused (Err e) p = p
