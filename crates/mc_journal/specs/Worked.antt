-- Journals over the films of specs/WorkedFilms, worked out by hand: what each script has to leave, record by record, the
-- oldest first. `read` is a part that the demuxer reads, `video` and `audio` a packet that is given to its reader.
use Rattle.std.specs.Prelude.{ℕ, ℤ, false, true, List, [], ◌∷◌, Option, Some, None, pos, negsuc}
use Rattle.mc_packet.specs.declared.choice.Choice.{Choice}
use Rattle.mc_packet.specs.declared.choice.Dir.TheVariants.{Back, Forward}
use Rattle.mc_packet.specs.declared.choice.Why.TheVariants.{NoTrack, UnknownTrack}
use Rattle.mc_packet.specs.declared.packet.Pos.{Pos}
use Rattle.mc_packet.specs.declared.walk.Ending.TheVariants.{Clean}
use Rattle.mc_packet.specs.declared.walk.Mark.{Mark}
use Rattle.mc_packet.specs.declared.cache.Limits.{Limits}
use Rattle.mc_packet.specs.declared.cache.RangeView.{RangeView}
use Rattle.mc_packet.specs.declared.cache.CacheView.{CacheView}
use Rattle.mc_journal.specs.declared.record.Cause.{Cause}
use Rattle.mc_journal.specs.declared.record.Cause.TheVariants.{Limit, TrackChanged}
use Rattle.mc_journal.specs.declared.record.Sought.TheVariants.{Cached, Sent}
use Rattle.mc_journal.specs.declared.record.DemuxRecord.{DemuxRecord}
use Rattle.mc_journal.specs.declared.record.DemuxRecord.TheVariants.{Opened, Sought, Switched, Found, Fed, Dropped, Joined, Ended, Overfull, Shown, Failed, Faulted, Refused}
use Rattle.mc_packet.specs.declared.packet.Packet.{Packet}
use Rattle.mc_journal.specs.Told.{gave_by}
use Rattle.mc_journal.specs.WorkedFilms.{opening, c0, c1, c2, d0, a100, a113, a114, a127, a128, a150, a157, a171, a185, a207, a214, a93, b120, b141, b169, v106, v107, v121, v134, v143, v155, v164, v178, v200, v221, v86}
use Rattle.mc_journal.specs.Used.{onto}

-- ---- words

-- the limits of a program that is told none: in octets, and in nanoseconds
abbrev pub usual : Limits
usual = record { forward = 157286400; back = 52428800; readahead = pos 1000000000 }

abbrev pub tracks : Option ℕ → Option ℕ → Choice
tracks video audio = record { video = video; audio = audio; sub = None }

abbrev pub both : Choice
both = tracks (Some 1) (Some 2)

abbrev pub start : List DemuxRecord
start = Opened 0 both ∷ []

-- a part is read, of which this track takes a packet
abbrev pub read : Mark → Mark → ℕ → DemuxRecord
read from to track = Fed 5 from to (Some track) None

-- a part is read whose packet no selected track takes
abbrev pub pass_by : Mark → Mark → DemuxRecord
pass_by from to = Fed 5 from to None None

-- the film's ending is read
abbrev pub finish : Mark → DemuxRecord
finish m = Fed 5 m m None (Some Clean)

abbrev pub video : Packet → DemuxRecord
video p = gave_by 2 p

abbrev pub audio : Packet → DemuxRecord
audio p = gave_by 3 p

abbrev pub seek : ℤ → DemuxRecord
seek t = Sought 0 both t Back Sent

abbrev pub cached_seek : ℤ → DemuxRecord
cached_seek t = Sought 0 both t Back Cached

abbrev pub found : Option ℕ → Option ℕ → Mark → DemuxRecord
found video audio mark = Found 5 (record { video = video; audio = audio; sub = None; mark = mark })

abbrev pub place : ℕ → ℕ → Pos
place block lane = record { block = block; lane = lane }

abbrev pub drops : ℕ → ℕ → Pos → Cause → DemuxRecord
drops by track to cause = Dropped by (record { track = track; from = place 0 0; to = to; cause = cause })

-- one range with the bounds START and END, both tracks from 0.0 to lane 0 of a block
abbrev pub range_to : ℕ → ℕ → ℕ → RangeView
range_to low high to = record {
  bounds = Some (pos low, pos high);
  spans = record { video = Some (place 0 0, place to 0); audio = Some (place 0 0, place to 0); sub = None };
}

-- ---- a wrong one: the tracks that are selected are switched to

abbrev pub switched_to_same : List DemuxRecord
switched_to_same = Switched 0 both (tracks None None) (pos 0) ∷ start

-- ---- drain: the whole first film is read and given

abbrev pub drain_0 : List DemuxRecord
drain_0 =
    read opening (c0 93) 1
    ∷ video v86
    ∷ read (c0 93) (c0 100) 2
    ∷ audio a93
    ∷ read (c0 100) (c0 107) 2
    ∷ audio a100
    ∷ read (c0 107) (c0 114) 1
    ∷ video v107
    ∷ read (c0 114) (c0 121) 2
    ∷ audio a114
    ∷ read (c0 121) (c0 128) 1
    ∷ video v121
    ∷ read (c0 128) (c0 135) 2
    ∷ audio a128 ∷ []

abbrev pub drain_1 : List DemuxRecord
drain_1 =
    read (c0 135) (c1 150) 1
    ∷ video v143
    ∷ read (c1 150) (c1 157) 2
    ∷ audio a150
    ∷ read (c1 157) (c1 164) 2
    ∷ audio a157
    ∷ read (c1 164) (c1 171) 1
    ∷ video v164
    ∷ read (c1 171) (c1 178) 2
    ∷ audio a171
    ∷ read (c1 178) (c1 185) 1
    ∷ video v178
    ∷ read (c1 185) (c1 192) 2
    ∷ audio a185 ∷ []

abbrev pub drain_2 : List DemuxRecord
drain_2 =
    read (c1 192) (c2 207) 1
    ∷ video v200
    ∷ read (c2 207) (c2 214) 2
    ∷ audio a207
    ∷ read (c2 214) (c2 221) 2
    ∷ audio a214
    ∷ read (c2 221) (c2 228) 1
    ∷ video v221 ∷ []

abbrev pub drain_end : List DemuxRecord
drain_end =
    finish (c2 228)
    ∷ Ended 2 1 Clean
    ∷ Ended 3 2 Clean ∷ []

abbrev pub drained : List DemuxRecord
drained = onto drain_end (onto drain_2 (onto drain_1 (onto drain_0 start)))

-- ---- seek 0.2, drain: the seek is sent, and the film is read from the keyframe at 120 ms on

abbrev pub sent_seek : List DemuxRecord
sent_seek =
    seek (pos 200000000)
    ∷ found (Some 143) (Some 150) (c1 143) ∷ []

abbrev pub from_keyframe : List DemuxRecord
from_keyframe =
    read (c1 143) (c1 150) 1
    ∷ video v143
    ∷ read (c1 150) (c1 157) 2
    ∷ audio a150
    ∷ read (c1 157) (c1 164) 2
    ∷ audio a157
    ∷ read (c1 164) (c1 171) 1
    ∷ video v164
    ∷ read (c1 171) (c1 178) 2
    ∷ audio a171
    ∷ read (c1 178) (c1 185) 1
    ∷ video v178
    ∷ read (c1 185) (c1 192) 2
    ∷ audio a185 ∷ []

abbrev pub sent : List DemuxRecord
sent = onto drain_end (onto drain_2 (onto from_keyframe (onto sent_seek start)))

-- ---- demux 13, seek 0.13, show, demux, show: a later keyframe may be unread, so the seek is sent; its range is joined

abbrev pub reads_0 : List DemuxRecord
reads_0 =
    read opening (c0 93) 1
    ∷ read (c0 93) (c0 100) 2
    ∷ read (c0 100) (c0 107) 2
    ∷ read (c0 107) (c0 114) 1
    ∷ read (c0 114) (c0 121) 2
    ∷ read (c0 121) (c0 128) 1
    ∷ read (c0 128) (c0 135) 2 ∷ []

abbrev pub reads_1 : List DemuxRecord
reads_1 =
    read (c0 135) (c1 150) 1
    ∷ read (c1 150) (c1 157) 2
    ∷ read (c1 157) (c1 164) 2
    ∷ read (c1 164) (c1 171) 1
    ∷ read (c1 171) (c1 178) 2
    ∷ read (c1 178) (c1 185) 1 ∷ []

-- nothing is current, and all 13 packets of 65 octets are behind
abbrev pub view_sent : CacheView
view_sent = record {
  ranges = range_to 0 120000000 185 ∷ [];
  forward = 0;
  back = 845;
  bof = false;
  ending = None;
  time = Some (pos 130000000);
  playing = false;
  ended = false;
}

-- three packets of each track are ahead
abbrev pub view_joined : CacheView
view_joined = record {
  ranges = range_to 0 120000000 185 ∷ [];
  forward = 390;
  back = 455;
  bof = true;
  ending = None;
  time = Some (pos 130000000);
  playing = false;
  ended = false;
}

abbrev pub joins : List DemuxRecord
joins =
    seek (pos 130000000)
    ∷ Shown 0 view_sent
    ∷ found (Some 143) (Some 150) (c1 143)
    ∷ Joined 5
    ∷ Shown 0 view_joined ∷ []

abbrev pub joined : List DemuxRecord
joined = onto joins (onto reads_1 (onto reads_0 start))

-- ---- drain, seek 1, drain: the ending is cached, so the last keyframe is the right one

abbrev pub past_the_end : List DemuxRecord
past_the_end =
    cached_seek (pos 1000000000)
    ∷ video v200
    ∷ audio a207
    ∷ audio a214
    ∷ video v221
    ∷ Ended 2 1 Clean
    ∷ Ended 3 2 Clean ∷ []

abbrev pub drained_twice : List DemuxRecord
drained_twice = onto past_the_end drained

-- ---- drain, seek -1: nothing lies before the first keyframe

abbrev pub before_the_start : List DemuxRecord
before_the_start = Sought 0 both (negsuc 999999999) Back Cached ∷ drained

-- ---- demux 7, seek 0.24, demux 6, seek 0, demux 8, show: two ranges that meet from before, the second with the ending

abbrev pub second_range : List DemuxRecord
second_range =
    seek (pos 240000000)
    ∷ found (Some 200) (Some 207) (c2 200)
    ∷ read (c2 200) (c2 207) 1
    ∷ read (c2 207) (c2 214) 2
    ∷ read (c2 214) (c2 221) 2
    ∷ read (c2 221) (c2 228) 1
    ∷ finish (c2 228)
    ∷ cached_seek (pos 0) ∷ []

abbrev pub meets_second : List DemuxRecord
meets_second =
    read (c0 135) (c1 150) 1
    ∷ read (c1 150) (c1 157) 2
    ∷ read (c1 157) (c1 164) 2
    ∷ read (c1 164) (c1 171) 1
    ∷ read (c1 171) (c1 178) 2
    ∷ read (c1 178) (c1 185) 1
    ∷ read (c1 185) (c1 192) 2
    ∷ read (c1 192) (c2 207) 1
    ∷ Joined 5 ∷ []

-- all is ahead
abbrev pub view_whole : CacheView
view_whole = record {
  ranges = range_to 0 280000000 228 ∷ [];
  forward = 1170;
  back = 0;
  bof = true;
  ending = Some Clean;
  time = Some (pos 0);
  playing = false;
  ended = false;
}

abbrev pub two_ranges : List DemuxRecord
two_ranges = Shown 0 view_whole ∷ onto meets_second (onto second_range (onto reads_0 start))

-- ---- with a limit of 0 octets behind: demux 2, read video, read audio, seek 0

abbrev pub none_behind : Limits
none_behind = record { forward = 157286400; back = 0; readahead = pos 1000000000 }

abbrev pub dropping : List DemuxRecord
dropping =
    read opening (c0 93) 1
    ∷ read (c0 93) (c0 100) 2
    ∷ video v86
    ∷ drops 2 1 (place 86 1) (Limit 65 0)
    ∷ audio a93
    ∷ drops 3 2 (place 93 1) (Limit 65 0)
    ∷ seek (pos 0) ∷ []

abbrev pub dropped : List DemuxRecord
dropped = onto dropping start

-- ---- with a limit of 1 octet ahead: demux 2, read audio, read video, demux, read audio

abbrev pub one_ahead : Limits
one_ahead = record { forward = 1; back = 52428800; readahead = pos 1000000000 }

abbrev pub filling : List DemuxRecord
filling =
    read opening (c0 93) 1
    ∷ Overfull 3 2 65 1
    ∷ video v86
    ∷ read (c0 93) (c0 100) 2
    ∷ audio a93 ∷ []

abbrev pub overfull : List DemuxRecord
overfull = onto filling start

-- ---- the second film: demux 7, read video 2, read audio 2, switch 1 3 at 0.15, drain

abbrev pub first_seven : List DemuxRecord
first_seven =
    read opening (d0 113) 1
    ∷ read (d0 113) (d0 120) 2
    ∷ pass_by (d0 120) (d0 127)
    ∷ read (d0 127) (d0 134) 2
    ∷ read (d0 134) (d0 141) 1
    ∷ pass_by (d0 141) (d0 148)
    ∷ read (d0 148) (d0 155) 2 ∷ []

abbrev pub switches : List DemuxRecord
switches =
    video v106
    ∷ video v134
    ∷ audio a113
    ∷ audio a127
    ∷ Switched 0 (tracks (Some 1) (Some 3)) (tracks None (Some 3)) (pos 150000000)
    ∷ drops 0 2 (place 155 0) TrackChanged
    ∷ found None (Some 141) (d0 141) ∷ []

abbrev pub other_audio : List DemuxRecord
other_audio =
    read (d0 141) (d0 148) 3
    ∷ audio b141
    ∷ pass_by (d0 148) (d0 155)
    ∷ read (d0 155) (d0 162) 1
    ∷ video v155
    ∷ pass_by (d0 162) (d0 169)
    ∷ read (d0 169) (d0 176) 3
    ∷ audio b169
    ∷ finish (d0 176)
    ∷ Ended 2 1 Clean
    ∷ Ended 3 3 Clean ∷ []

abbrev pub switched : List DemuxRecord
switched = onto other_audio (onto switches (onto first_seven start))

-- ---- a read that fails: demux 2, read video, read audio, seek 0, drain

abbrev pub fails : List DemuxRecord
fails =
    read opening (c0 93) 1
    ∷ Failed 5 0 1
    ∷ video v86
    ∷ Faulted 3 2 0 1 ∷ []

abbrev pub begins_again : List DemuxRecord
begins_again =
    seek (pos 0)
    ∷ found (Some 86) (Some 93) (c0 86)
    ∷ Joined 5
    ∷ video v86
    ∷ read (c0 93) (c0 100) 2
    ∷ audio a93
    ∷ read (c0 100) (c0 107) 2
    ∷ audio a100
    ∷ read (c0 107) (c0 114) 1
    ∷ video v107
    ∷ read (c0 114) (c0 121) 2
    ∷ audio a114
    ∷ read (c0 121) (c0 128) 1
    ∷ video v121
    ∷ read (c0 128) (c0 135) 2
    ∷ audio a128 ∷ []

abbrev pub failed_read : List DemuxRecord
failed_read = onto drain_end (onto drain_2 (onto drain_1 (onto begins_again (onto fails start))))

-- ---- switch 9, switch, seek 0: nothing is selected then

abbrev pub refusals : List DemuxRecord
refusals =
    Refused 0 (UnknownTrack 9)
    ∷ Switched 0 (tracks None None) (tracks None None) (pos 0)
    ∷ Refused 0 NoTrack ∷ []

abbrev pub refused : List DemuxRecord
refused = onto refusals start

-- ---- the second film: switch 1 3 at 0.15, switch 3 at 0, drain: track 3 still waits, and is added again

abbrev pub added_twice : List DemuxRecord
added_twice =
    Switched 0 (tracks (Some 1) (Some 3)) (tracks None (Some 3)) (pos 150000000)
    ∷ Switched 0 (tracks None (Some 3)) (tracks None (Some 3)) (pos 0)
    ∷ found None (Some 120) (d0 120) ∷ []

abbrev pub third_track : List DemuxRecord
third_track =
    pass_by opening (d0 113)
    ∷ pass_by (d0 113) (d0 120)
    ∷ read (d0 120) (d0 127) 3
    ∷ audio b120
    ∷ pass_by (d0 127) (d0 134)
    ∷ pass_by (d0 134) (d0 141)
    ∷ read (d0 141) (d0 148) 3
    ∷ audio b141
    ∷ pass_by (d0 148) (d0 155)
    ∷ pass_by (d0 155) (d0 162)
    ∷ pass_by (d0 162) (d0 169)
    ∷ read (d0 169) (d0 176) 3
    ∷ audio b169
    ∷ finish (d0 176)
    ∷ Ended 3 3 Clean ∷ []

abbrev pub waited : List DemuxRecord
waited = onto third_track (onto added_twice start)

-- ---- seek 0.2, switch 2 at 0: the seek is pending, so it is sent again for audio alone

abbrev pub sent_again : List DemuxRecord
sent_again =
    seek (pos 200000000)
    ∷ Switched 0 (tracks None (Some 2)) (tracks None None) (pos 0)
    ∷ Sought 0 (tracks None (Some 2)) (pos 200000000) Back Sent
    ∷ found None (Some 171) (c1 171)
    ∷ read (c1 171) (c1 178) 2
    ∷ audio a171 ∷ []

abbrev pub repeated : List DemuxRecord
repeated = onto sent_again start

-- ---- forward seeks

-- drain, seek 0.13 forward, drain: the keyframe at 240 ms is the first at or after it, since one before it is cached; audio is
-- read from its last frame at or before 240 ms
abbrev pub forward_past : List DemuxRecord
forward_past =
    Sought 0 both (pos 130000000) Forward Cached
    ∷ video v200
    ∷ audio a207
    ∷ audio a214
    ∷ video v221
    ∷ Ended 2 1 Clean
    ∷ Ended 3 2 Clean ∷ []

abbrev pub drained_forward : List DemuxRecord
drained_forward = onto forward_past drained

-- drain, seek 0.3 forward: none is at or after it, and the ending is cached, so it is the last one
abbrev pub forward_to_last : List DemuxRecord
forward_to_last = video v200 ∷ Sought 0 both (pos 300000000) Forward Cached ∷ drained

-- demux 7, seek 0.13 forward: nothing at or after it is cached yet
abbrev pub forward_sent : List DemuxRecord
forward_sent = Sought 0 both (pos 130000000) Forward Sent ∷ onto reads_0 start

-- seek 0.24, demux 3, seek 0.24 forward: a keyframe at the target itself serves
abbrev pub forward_exact : List DemuxRecord
forward_exact =
    seek (pos 240000000)
    ∷ found (Some 200) (Some 207) (c2 200)
    ∷ read (c2 200) (c2 207) 1
    ∷ read (c2 207) (c2 214) 2
    ∷ Sought 0 both (pos 240000000) Forward Cached ∷ []

abbrev pub forward_at : List DemuxRecord
forward_at = onto forward_exact start

-- ---- journals that no demuxer may leave

-- a seek answered from the last cached keyframe, though a later one may be unread
abbrev pub too_early : List DemuxRecord
too_early = cached_seek (pos 130000000) ∷ onto reads_1 (onto reads_0 start)

-- a forward seek answered from a later keyframe, though an earlier one may be unread
abbrev pub too_late : List DemuxRecord
too_late = Sought 0 both (pos 130000000) Forward Cached ∷ onto (seek (pos 240000000) ∷ found (Some 200) (Some 207) (c2 200) ∷ read (c2 200) (c2 207) 1 ∷ read (c2 207) (c2 214) 2 ∷ []) start

-- a packet given before the one in front of it
abbrev pub skips : List DemuxRecord
skips = audio a100 ∷ onto reads_0 start

-- an end told before the last packet
abbrev pub ends_early : List DemuxRecord
ends_early = Ended 2 1 Clean ∷ onto (read (c1 192) (c2 207) 1 ∷ read (c2 207) (c2 214) 2 ∷ read (c2 214) (c2 221) 2 ∷ read (c2 221) (c2 228) 1 ∷ finish (c2 228) ∷ []) (onto drain_1 (onto drain_0 start))

-- a join left out
abbrev pub unjoined : List DemuxRecord
unjoined = Shown 0 view_joined ∷ onto (seek (pos 130000000) ∷ found (Some 143) (Some 150) (c1 143) ∷ []) (onto reads_1 (onto reads_0 start))
