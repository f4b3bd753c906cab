-- Two journals over the first film of `mc_journal`, worked out by hand, and wrong ones. Each has
-- its newest record first.
use Rattle.std.specs.Prelude.{ℕ, pos, false, true, List, [], ◌∷◌, Some, None, codes}
use Rattle.mc_packet.specs.declared.choice.Choice.{Choice}
use Rattle.mc_packet.specs.declared.choice.Dir.TheVariants.{Back, Forward}
use Rattle.mc_packet.specs.declared.choice.Kind.{Kind}
use Rattle.mc_packet.specs.declared.choice.Kind.TheVariants.{Video, Audio}
use Rattle.mc_packet.specs.declared.choice.Why.TheVariants.{NoTrack}
use Rattle.mc_packet.specs.declared.cache.CacheView.{CacheView}
use Rattle.mc_tracks.specs.declared.track.Track.{Track}
use Rattle.mc_journal.specs.declared.record.Sought.TheVariants.{Cached, Sent}
use Rattle.mc_journal.specs.declared.record.DemuxRecord.{DemuxRecord}
use Rattle.mc_journal.specs.declared.record.DemuxRecord.TheVariants.{Opened, Sought, Switched, Refused}
use Rattle.mc_packet.specs.Choices.{nothing}
use Rattle.mc_journal.specs.Views.{view}
use Rattle.mc_journal.specs.WorkedFilms.{one_packets, opening, c0, c1, v86, v143}
use Rattle.mc_journal.specs.Worked.{both, found, read, tracks, video}
use Rattle.mc_player.specs.declared.record.Order.TheVariants as order
use Rattle.mc_player.specs.declared.record.Outcome.TheVariants as outcome
use Rattle.mc_player.specs.declared.record.CoreRecord.{CoreRecord}
use Rattle.mc_player.specs.declared.record.CoreRecord.TheVariants.{Learned, Wrote, Ordered, Did}
use Rattle.mc_props.specs.First.{first_facts}
use Rattle.mc_player.specs.Orders.{Opening, opened}

abbrev pub alone : Choice
alone = tracks (Some 1) None

abbrev pub track : ℕ → Kind → Track
track n kind = record {
  no = n;
  uid = 0;
  kind = kind;
  codec = codes "V_TEST";
  name = [];
  language = codes "eng";
  default = true;
  duration = None;
  encoded = false;
}

-- the first film, as it is opened: a video and an audio track, and both are selected
abbrev pub film_one : Opening
film_one = record { path = codes "F1"; tracks = track 1 Video ∷ track 2 Audio ∷ []; set = both }

-- a part is read and given; the player seeks; a part is read and given there; the player selects
-- the video track alone, and the driver seeks; the player selects nothing, and its seek is refused
abbrev pub hd : List DemuxRecord
hd =
    Refused 1 NoTrack
    ∷ Switched 1 nothing nothing (pos 120000000)
    ∷ Sought 0 alone (pos 0) Back Cached
    ∷ Switched 1 alone nothing (pos 120000000)
    ∷ video v143
    ∷ read (c1 143) (c1 150) 1
    ∷ found (Some 143) (Some 150) (c1 143)
    ∷ Sought 1 both (pos 200000000) Back Sent
    ∷ video v86
    ∷ read opening (c0 93) 1
    ∷ Opened 0 both ∷ []

-- what is learned before anything is read
abbrev pub view_opened : CacheView
view_opened = view one_packets (Opened 0 both ∷ [])

-- after the first packet
abbrev pub view_given : CacheView
view_given = view one_packets (video v86 ∷ read opening (c0 93) 1 ∷ Opened 0 both ∷ [])

-- the same set is selected twice: the second order leaves no record of the demuxer. The last seek
-- has no outcome yet
abbrev pub hc : List CoreRecord
hc =
    Ordered 1 (order.Seek (pos 5) Forward)
    ∷ Did 1 (outcome.Selected nothing)
    ∷ Ordered 1 (order.Select nothing (pos 120000000))
    ∷ Did 1 (outcome.Selected alone)
    ∷ Ordered 1 (order.Select alone (pos 120000000))
    ∷ Did 1 (outcome.Selected alone)
    ∷ Ordered 1 (order.Select alone (pos 120000000))
    ∷ Did 1 outcome.Sought
    ∷ Ordered 1 (order.Seek (pos 200000000) Back)
    ∷ Wrote 1 16 first_facts
    ∷ Learned 1 view_given
    ∷ Did 1 (opened film_one)
    ∷ Ordered 1 order.Load
    ∷ Wrote 1 16 first_facts
    ∷ Learned 1 view_opened ∷ []

-- ---- wrong ones

-- a seek is answered by another outcome
abbrev pub hc_other : List CoreRecord
hc_other = Did 1 (outcome.Selected both) ∷ Ordered 1 (order.Seek (pos 200000000) Back) ∷ []

-- a seek was refused, and the player is told that it was done
abbrev pub hc_lied : List CoreRecord
hc_lied = Did 1 outcome.Sought ∷ Ordered 1 (order.Seek (pos 200000000) Back) ∷ []

-- a seek that the player never ordered
abbrev pub hc_none : List CoreRecord
hc_none = Did 1 (opened film_one) ∷ Ordered 1 order.Load ∷ []

abbrev pub hd_sought : List DemuxRecord
hd_sought = Sought 1 both (pos 200000000) Back Sent ∷ Opened 0 both ∷ []

abbrev pub hd_refused : List DemuxRecord
hd_refused = Refused 1 NoTrack ∷ Opened 0 nothing ∷ []

-- a selection that was left out, of a set that was not selected there
abbrev pub hc_left_out : List CoreRecord
hc_left_out = Did 1 (outcome.Selected alone) ∷ Ordered 1 (order.Select alone (pos 0)) ∷ []

-- so was one of nothing, which is selected just before the film is opened
abbrev pub hc_nothing : List CoreRecord
hc_nothing = Did 1 (outcome.Selected nothing) ∷ Ordered 1 (order.Select nothing (pos 0)) ∷ []

-- the views skip back
abbrev pub hd_given : List DemuxRecord
hd_given = video v86 ∷ read opening (c0 93) 1 ∷ Opened 0 both ∷ []

abbrev pub hc_back : List CoreRecord
hc_back = Learned 1 view_opened ∷ Learned 1 view_given ∷ []

-- a view that was never the cache's
abbrev pub view_invented : CacheView
view_invented = record {
  ranges = [];
  forward = 1;
  back = 0;
  bof = false;
  ending = None;
  time = Some (pos 7);
  playing = false;
  ended = false;
}

abbrev pub hc_invented : List CoreRecord
hc_invented = Learned 1 view_invented ∷ []

-- the file is loaded twice
abbrev pub hc_twice : List CoreRecord
hc_twice = Did 1 (opened film_one) ∷ Ordered 1 order.Load ∷ hc_none

-- a seek is carried twice, or under the driver's number; and other tracks than the order's
abbrev pub hc_sought : List CoreRecord
hc_sought = Did 1 outcome.Sought ∷ Ordered 1 (order.Seek (pos 200000000) Back) ∷ hc_none

abbrev pub hd_carried_twice : List DemuxRecord
hd_carried_twice = Sought 1 both (pos 200000000) Back Sent ∷ hd_sought

abbrev pub hd_drivers : List DemuxRecord
hd_drivers = Sought 0 both (pos 200000000) Back Sent ∷ Opened 0 both ∷ []

abbrev pub hd_other_set : List DemuxRecord
hd_other_set = Switched 1 nothing nothing (pos 0) ∷ Opened 0 both ∷ []
