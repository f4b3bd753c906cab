-- What a packet says of its track, wherever in a film it stands.
use Rattle.std.specs.Prelude.{ℕ, Bool, List, map, ℤ}
use Rattle.mc_packet.specs.declared.packet.Packet.{Packet}

pub record Content : Type 0 where
  pub track : ℕ
  pub time : ℤ
  pub key : Bool
  pub body : List ℕ

abbrev pub content : Packet → Content
content p = record { track = p.track; time = p.time; key = p.key; body = p.body }

abbrev pub contents : List Packet → List Content
contents ps = map content ps
