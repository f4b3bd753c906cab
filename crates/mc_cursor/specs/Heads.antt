-- What ends a part, before its block element is read, and a chunk without its payloads.
use Rattle.std.specs.Prelude.{◌≡◌, ℕ, ◌<◌, ◌≤◌, List, [], length, Option, Some, None, IfSome, Result, Ok, Err, ⊤}
use Rattle.mc_packet.specs.declared.packet.Packet.{Packet}
use Rattle.mc_packet.specs.declared.walk.Chunk.{Chunk}
use Rattle.mc_packet.specs.declared.walk.Ending.{Ending}
use Rattle.mc_packet.specs.declared.walk.Mark.{Mark}
use Rattle.mc_walk.specs.declared.front.BlockMark.{BlockMark}
use Rattle.mc_walk.specs.declared.plan.Plan.{Plan}
use Rattle.mc_walk.specs.Glances.{first_mark}
use Rattle.mc_walk.specs.Parts.{mark, Part, part_at, IsMark}
use Rattle.mc_cursor.specs.declared.cursor.Cursor.{Cursor}
use Rattle.mc_cursor.specs.declared.head.HeadChunk.{HeadChunk}
use Rattle.mc_cursor.specs.declared.next.Next.{Next}
use Rattle.mc_cursor.specs.declared.next.Next.TheVariants as nexts
use Rattle.mc_cursor.specs.declared.step.Unread.{Unread}
use Rattle.mc_cursor.specs.Standing.{plan_for}
use Rattle.mc_cursor.specs.Steps.{IsBlock, taken_of}

-- a chunk with the first packet of its block in short
abbrev pub head_chunk_of : Chunk → HeadChunk
head_chunk_of c = record { from = c.from; to = c.to; block = first_mark c.packets; ending = c.ending }

-- a mark at which the block element of a part stands, and from which the same part is read
pub record IsBlockAt (plan : Plan) (m at : Mark) : Type 0 where
  pub is_mark : IsMark plan at
  pub same : part_at plan at ≡ part_at plan m

-- so is its place, with the level of the part's end
abbrev pub BlockIsMark : Plan → HeadChunk → Type 0
BlockIsMark plan k = IfSome k.block (λ b. IsBlockAt plan k.from (mark b.pos k.to.level))

-- the part that a block element ends, by its packets or the ending at its place
abbrev pub part_by : Mark → Unread → Result (List Packet) Ending → Part
part_by at b (Ok packets) = record { to = mark b.stop b.level; packets = packets; ending = None }
part_by at b (Err ending) = record { to = at; packets = []; ending = Some ending }

-- the part that ends with what is next at a mark
abbrev pub part_to : Plan → Mark → Next → Part
part_to plan at (nexts.End ending) = record { to = at; packets = []; ending = Some ending }
part_to plan at (nexts.Block b) = part_by at b (taken_of plan at.pos b)

abbrev pub NextBegins : ℕ → Next → Type 0
NextBegins len (nexts.End ending) = ⊤
NextBegins len (nexts.Block b) = b.at ≤ len

-- the part from the cursor's mark ends with what is next at another mark
pub record IsNext (octets : List ℕ) (c : Cursor) (at : Mark) (next : Next) : Type 0 where
  pub same : part_at (plan_for octets c) c.mark ≡ part_to (plan_for octets c) at next
  pub begins : NextBegins (length octets) next

-- what is next stands at an offset
abbrev pub NextLies : ℕ → Next → Type 0
NextLies place (nexts.End ending) = ⊤
NextLies place (nexts.Block b) = (place < b.at) × (b.at ≤ b.stop) × IsBlock b.role

-- of a block element only the head was read
abbrev pub IsNextUnread : Next → Type 0
IsNextUnread (nexts.End ending) = ⊥
IsNextUnread (nexts.Block b) = ⊤

-- the first of the packets in short, or the ending
abbrev pub mark_taken : Result (List Packet) Ending → Result (Option BlockMark) Ending
mark_taken (Ok packets) = Ok (first_mark packets)
mark_taken (Err ending) = Err ending

abbrev pub head_by : Mark → Mark → Unread → Result (Option BlockMark) Ending → HeadChunk
head_by from at b (Ok block) = record { from = from; to = mark b.stop b.level; block = block; ending = None }
head_by from at b (Err ending) = record { from = from; to = at; block = None; ending = Some ending }
