-- What a film's packets are: the frames of the block elements that stand in its walk.
use Rattle.std.specs.Prelude.{◌≡◌, ℕ, List, Option, Some, Contains}
use Rattle.mc_packet.specs.declared.packet.Packet.{Packet}
use Rattle.mc_packet.specs.Shape.{InOrder}
use Rattle.mc_packet.specs.declared.walk.Level.{Level}
use Rattle.mc_packet.specs.declared.walk.Level.TheVariants as levels
use Rattle.mc_walk.specs.declared.plan.Plan.{Plan}
use Rattle.mc_walk.specs.declared.plan.Step.TheVariants.{On}
use Rattle.mc_walk.specs.Walk.{step_at}

-- the walk from one place comes to another
pub data Comes (plan : Plan) : ℕ → Level → ℕ → Level → Type 0 where
  here : (place : ℕ) (level : Level) → Comes plan place level place level
  onward : (place : ℕ) (level : Level) (to : ℕ) (inner : Level) (block : Option (List Packet)) (last : ℕ) (final : Level)
      → step_at plan place level ≡ On to inner block → Comes plan to inner last final → Comes plan place level last final

-- a block element that stands in the film's walk, at this offset, with the packets that are its frames (none of a track
-- that is not known)
pub record BlockElement (plan : Plan) : Type 0 where
  pub place : ℕ
  pub level : Level
  pub to : ℕ
  pub inner : Level
  pub frames : List Packet
  pub stands : Comes plan plan.opening levels.Segment place level
  pub holds : step_at plan place level ≡ On to inner (Some frames)

-- a packet is a frame of a block element at its offset
pub record IsFrame (plan : Plan) (p : Packet) : Type 0 where
  pub block : BlockElement plan
  pub among : Contains block.frames p
  pub offset : p.pos.block ≡ block.place

-- each packet is a frame of a block element that stands in the walk, at its offset; each frame of such a block element
-- is a packet; and each of them is there once
pub record AreItsFrames (plan : Plan) (packets : List Packet) : Type 0 where
  pub are_frames : (p : Packet) → Contains packets p → IsFrame plan p
  pub has_frames : (b : BlockElement plan) (p : Packet) → Contains b.frames p → Contains packets p
  pub once : InOrder packets
