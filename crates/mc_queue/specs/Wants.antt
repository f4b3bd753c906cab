-- Which sync points a look-up asks for, and whether a block has one.
use Rattle.std.specs.Prelude.{Bool, int_le, int_lt, is_some}
use Rattle.mc_packet.specs.declared.packet.Packet.{Packet}
use Rattle.mc_queue.specs.Queue.{is_sync, is_sync_upto, is_sync_from, is_sync_before}
use Rattle.mc_queue.specs.Blocks.{passes}
use Rattle.mc_queue.specs.declared.kept.Summary.{Summary}
use Rattle.mc_queue.specs.declared.wants.Want.{Want}
use Rattle.mc_queue.specs.declared.wants.Want.TheVariants.{Any, Upto, From, Before}

-- a packet is one of them
abbrev pub wanted : Want → Packet → Bool
wanted Any p = is_sync p
wanted (Upto t) p = is_sync_upto t p
wanted (From t) p = is_sync_from t p
wanted (Before t) p = is_sync_before t p

-- a block has one, as its summary tells
abbrev pub has_wanted : Want → Summary → Bool
has_wanted Any s = is_some s.least
has_wanted (Upto t) s = passes (λ x. int_le x t) s.least
has_wanted (From t) s = passes (λ x. int_le t x) s.most
has_wanted (Before t) s = passes (λ x. int_lt x t) s.least
