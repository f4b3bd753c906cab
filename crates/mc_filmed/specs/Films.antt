-- The film of which a demuxer's journal tells, by a file's octets, and the tracks that are selected by number.
use Rattle.std.specs.Prelude.{ℕ, List, Option, Some, None, Result, Ok, Err}
use Rattle.mc_packet.specs.declared.choice.Choice.{Choice}
use Rattle.mc_packet.specs.declared.choice.Why.{Why}
use Rattle.mc_packet.specs.declared.packet.Packet.{Packet}
use Rattle.mc_tracks.specs.declared.track.Track.{Track}
use Rattle.mc_tracks.specs.Selection.{choice_of, knows, refusal_of}
use Rattle.mc_walk.specs.declared.plan.Plan.{Plan}
use Rattle.mc_walk.specs.Walk.{film_walk}
use Rattle.mc_walk.specs.Parts.{part_at}
use Rattle.mc_journal.specs.Films.{Film}
use Rattle.mc_filmed.specs.Marks.{mark_at}

-- its packets, in file order
abbrev pub plan_packets : Plan → List Packet
plan_packets plan = (film_walk plan).0

-- its packets, its ending, the tracks whose blocks can be read, its parts from mark to mark, and the marks at its blocks
abbrev pub film_for : Plan → Film
film_for plan = record {
  packets = plan_packets plan;
  ending = (film_walk plan).1;
  known = knows plan.tracks;
  part = λ m. record { to = (part_at plan m).to; ending = (part_at plan m).ending };
  mark_at = mark_at plan;
}

abbrev pub refused_or : Option Why → Choice → Result Choice Why
refused_or None set = Ok set
refused_or (Some why) set = Err why

-- the choice that numbers make of a list's tracks, or its refusal
abbrev pub choice_for : List Track → List ℕ → Result Choice Why
choice_for list numbers = refused_or (refusal_of list numbers) (choice_of list numbers)
