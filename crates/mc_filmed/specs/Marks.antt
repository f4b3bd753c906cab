-- The mark at each of a film's blocks, from which a part of it can be read.
use Rattle.std.specs.Prelude.{ℕ, zero, suc, ◌==◌, Bool, false, if◌then◌else◌, List, [], ◌∷◌, Option, Some, None}
use Rattle.mc_packet.specs.declared.packet.Packet.{Packet}
use Rattle.mc_packet.specs.declared.walk.Ending.{Ending}
use Rattle.mc_packet.specs.declared.walk.Level.{Level}
use Rattle.mc_packet.specs.declared.walk.Level.TheVariants as levels
use Rattle.mc_packet.specs.declared.walk.Mark.{Mark}
use Rattle.mc_walk.specs.declared.plan.Plan.{Plan}
use Rattle.mc_walk.specs.Parts.{mark, opening_mark, part_at}
use Rattle.mc_walk.specs.Walk.{steps}

-- the block element of these packets stands at a place
abbrev pub stands_first : ℕ → List Packet → Bool
stands_first place [] = false
stands_first place (p ∷ ps) = p.pos.block == place

abbrev pub unless_ended : Option Ending → Level → Level
unless_ended None level = level
unless_ended (Some ending) level = levels.Segment

-- the level of the part that ends with the block element at a place, from a mark on
unfoldable pub level_from : ℕ → Plan → Mark → ℕ → Level
level_from zero plan m place = levels.Segment
level_from (suc n) plan m place =
    if stands_first place (part_at plan m).packets then (part_at plan m).to.level
    else unless_ended (part_at plan m).ending (level_from n plan (part_at plan m).to place)

-- the mark at the block of a place, with the level that its Cluster has there; of place 0 the opening mark
abbrev pub mark_at : Plan → ℕ → Mark
mark_at plan place = if place == 0 then opening_mark else mark place (level_from (steps plan) plan opening_mark place)
