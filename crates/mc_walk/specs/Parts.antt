-- A film from mark to mark: each part runs to just past the next block element, or to the film's ending.
use Rattle.std.specs.Prelude.{◌≡◌, ℕ, zero, suc, ◌==◌, if◌then◌else◌, List, [], Option, Some, None}
use Rattle.mc_packet.specs.declared.packet.Packet.{Packet}
use Rattle.mc_packet.specs.declared.walk.Ending.{Ending}
use Rattle.mc_packet.specs.declared.walk.Ending.TheVariants.{Clean}
use Rattle.mc_packet.specs.declared.walk.Level.{Level}
use Rattle.mc_packet.specs.declared.walk.Level.TheVariants as levels
use Rattle.mc_packet.specs.declared.walk.Mark.{Mark}
use Rattle.mc_packet.specs.declared.walk.Chunk.{Chunk}
use Rattle.mc_walk.specs.declared.plan.Plan.{Plan}
use Rattle.mc_walk.specs.declared.plan.Step.{Step}
use Rattle.mc_walk.specs.declared.plan.Step.TheVariants.{End, On}
use Rattle.mc_walk.specs.Walk.{step_at, steps, Rest, in_front, film_walk}
use Rattle.mc_walk.specs.Frames.{BlockElement}

abbrev pub mark : ℕ → Level → Mark
mark place level = record { pos = place; level = level }

-- the opening mark, at offset 0, stands for the Segment's first child
abbrev pub opening_mark : Mark
opening_mark = mark 0 levels.Segment

abbrev pub place_of : Plan → Mark → ℕ
place_of plan m = if m.pos == 0 then plan.opening else m.pos

abbrev pub level_of : Mark → Level
level_of m = if m.pos == 0 then levels.Segment else m.level

-- where a part ends, the packets of its block element, and the film's ending where that came first
pub record Part : Type 0 where
  pub to : Mark
  pub packets : List Packet
  pub ending : Option Ending

abbrev pub part_after : ℕ → Level → Step → (ℕ → Level → Part) → Part
part_after place level (End ending) on = record { to = mark place level; packets = []; ending = Some ending }
part_after place level (On to inner None) on = on to inner
part_after place level (On to inner (Some packets)) on = record { to = mark to inner; packets = packets; ending = None }

-- the part from a place on, of at most so many steps
unfoldable pub part : ℕ → Plan → ℕ → Level → Part
part zero plan place level = record { to = mark place level; packets = []; ending = Some Clean }
part (suc n) plan place level = part_after place level (step_at plan place level) (λ to inner. part n plan to inner)

-- the part from a mark on
abbrev pub part_at : Plan → Mark → Part
part_at plan m = part (steps plan) plan (place_of plan m) (level_of m)

abbrev pub chunk_of : Mark → Part → Chunk
chunk_of m p = record { from = m; to = p.to; packets = p.packets; ending = p.ending }

-- the chunk from a mark on
abbrev pub chunk_at : Plan → Mark → Chunk
chunk_at plan m = chunk_of m (part_at plan m)

-- ---- the parts joined

abbrev pub joined_after : Part → (Mark → Rest) → Rest
joined_after p on = by_ending p.ending
  where
    by_ending : Option Ending → Rest
    by_ending (Some ending) = (p.packets, ending)
    by_ending None = in_front p.packets (on p.to)

-- one part behind the other, at most so many
unfoldable pub joined : ℕ → Plan → Mark → Rest
joined zero plan m = ([], Clean)
joined (suc n) plan m = joined_after (part_at plan m) (λ next. joined n plan next)

-- the parts from the opening on are the film
abbrev pub PartsAreWhole : Plan → Type 0
PartsAreWhole plan = joined (steps plan) plan opening_mark ≡ film_walk plan

-- ---- marks

-- a mark from which the film can be read on: the opening, the end of a part, and the place of a block element with its level
pub data IsMark (plan : Plan) : Mark → Type 0 where
  at_opening : IsMark plan opening_mark
  at_end : (m : Mark) → IsMark plan m → IsMark plan (part_at plan m).to
  at_block : (b : BlockElement plan) → IsMark plan (mark b.place b.level)
