-- A film read from its opening up to a mark, its tracks, and the mark at each of its blocks.
use Rattle.std.specs.Prelude.{◌≡◌, ℕ, ◌+◌, Bool, false, not, ◌&&◌, ◌||◌, List, [], ◌++◌, ◌∷◌, map, None, ℤ, int_le}
use Rattle.std.specs.List.{filter}
use Rattle.mc_packet.specs.declared.choice.Kind.{Kind}
use Rattle.mc_packet.specs.declared.choice.Kind.TheVariants.{Video, Audio}
use Rattle.mc_packet.specs.declared.packet.Packet.{Packet}
use Rattle.mc_packet.specs.declared.walk.Mark.{Mark}
use Rattle.mc_tracks.specs.declared.track.Track.{Track}
use Rattle.mc_tracks.specs.TrackList.{is_of}
use Rattle.mc_walk.specs.declared.plan.Plan.{Plan}
use Rattle.mc_walk.specs.Parts.{opening_mark, part_at}
use Rattle.mc_journal.specs.Films.{syncs}
use Rattle.mc_filmed.specs.Films.{plan_packets}

-- a film read up to a mark: so many block elements stand before it, with these packets
pub data Front (plan : Plan) : ℕ → Mark → List Packet → Type 0 where
  at_opening : Front plan 0 opening_mark []
  read_on : (n : ℕ) (m : Mark) (ps : List Packet) → Front plan n m ps → (part_at plan m).ending ≡ None
      → Front plan (n + 1) (part_at plan m).to (ps ++ (part_at plan m).packets)

-- ---- the film's list

-- the film's sync points of a track
abbrev pub film_points : Plan → ℕ → List Packet
film_points plan track = syncs track (plan_packets plan)

abbrev pub is_readable : Kind → Track → Bool
is_readable kind t = is_of kind t.kind && not t.encoded

-- the numbers of the video and audio tracks whose blocks can be read
abbrev pub leads_of : List Track → List ℕ
leads_of tracks = map (λ (t : Track). t.no) (filter (λ (t : Track). is_readable Video t || is_readable Audio t) tracks)

-- a sync point later than a time
abbrev pub any_past : ℤ → List Packet → Bool
any_past t [] = false
any_past t (p ∷ ps) = not (int_le p.time t) || any_past t ps
