-- What a record tells of a packet.
use Rattle.std.specs.Prelude.{ℕ, ℤ, Bool, length}
use Rattle.mc_packet.specs.Payload.{checksum}
use Rattle.mc_packet.specs.declared.packet.Packet.{Packet}
use Rattle.mc_packet.specs.declared.packet.Pos.{Pos}
use Rattle.mc_journal.specs.declared.record.DemuxRecord.{DemuxRecord}
use Rattle.mc_journal.specs.declared.record.DemuxRecord.TheVariants.{Gave}

-- a packet with the length and the checksum of its payload in the payload's place
pub record Told : Type 0 where
  pub track : ℕ
  pub pos : Pos
  pub time : ℤ
  pub len : ℕ
  pub sum : ℕ
  pub sync : Bool
  pub key : Bool

abbrev pub told : Packet → Told
told p = record { track = p.track; pos = p.pos; time = p.time; len = length p.body; sum = checksum p.body; sync = p.sync; key = p.key }

-- the record of a packet that a reader was given
abbrev pub gave_by : ℕ → Packet → DemuxRecord
gave_by by p = Gave by p.track p.pos p.time (length p.body) (checksum p.body) p.sync p.key
