-- Which of the packets that are cached are written: those of a span of time, from a sync point of the lead on.
use Rattle.std.specs.Prelude.{ℕ, Bool, true, ◌&&◌, nat_le, ◌==◌, if◌then◌else◌, List, [], ◌∷◌, filter, find, option_map, Option, Some, None, ℤ, int_le, int_lt}
use Rattle.std.specs.Option.{option_or}
use Rattle.mc_packet.specs.declared.packet.Packet.{Packet}

-- a sync point of the lead, and one that is not past a time
abbrev pub is_lead : ℕ → Packet → Bool
is_lead lead p = p.sync && p.track == lead

abbrev pub is_upto : ℕ → ℤ → Packet → Bool
is_upto lead time p = is_lead lead p && int_le p.time time

-- the blocks of the last and of the first packet that pass a test
abbrev pub last_block : (Packet → Bool) → List Packet → Option ℕ
last_block test [] = None
last_block test (p ∷ ps) = option_or (last_block test ps) (if test p then Some p.pos.block else None)

abbrev pub first_block : (Packet → Bool) → List Packet → Option ℕ
first_block test ps = option_map (λ (p : Packet). p.pos.block) (find test ps)

abbrev pub last_upto : ℕ → Option ℤ → List Packet → Option ℕ
last_upto lead None ps = None
last_upto lead (Some time) ps = last_block (is_upto lead time) ps

-- the block at which they begin: that of the lead's last sync point not past `from`, else of its first
abbrev pub anchor : ℕ → Option ℤ → List Packet → Option ℕ
anchor lead from ps = option_or (last_upto lead from ps) (first_block (is_lead lead) ps)

abbrev pub is_below : Option ℤ → ℤ → Bool
is_below None time = true
is_below (Some to) time = int_lt time to

abbrev pub is_chosen : ℕ → Option ℤ → Packet → Bool
is_chosen block to p = nat_le block p.pos.block && is_below to p.time

abbrev pub from_anchor : Option ℕ → Option ℤ → List Packet → List Packet
from_anchor None to ps = []
from_anchor (Some block) to ps = filter (is_chosen block to) ps

-- those from that block on whose time is below `to`; none without a lead, or without a sync point of it
abbrev pub chosen : Option ℕ → Option ℤ → Option ℤ → List Packet → List Packet
chosen None from to ps = []
chosen (Some lead) from to ps = from_anchor (anchor lead from ps) to ps
