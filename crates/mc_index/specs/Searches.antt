-- What a look-up finds on its way.
use Rattle.std.specs.Prelude.{◌≡◌, ℕ, ◌^◌, ◌<◌, ◌==◌, nat_le, Bool, true, false, if◌then◌else◌, List, find, Option, Some, None, ℤ, int_le, ⊤}
use Rattle.mc_packet.specs.declared.choice.Choice.{Choice}
use Rattle.mc_packet.specs.declared.choice.Dir.{Dir}
use Rattle.mc_packet.specs.declared.choice.Dir.TheVariants.{Back, Forward}
use Rattle.mc_packet.specs.declared.choice.Starts.{Starts}
use Rattle.mc_packet.specs.declared.packet.Packet.{Packet}
use Rattle.mc_packet.specs.declared.walk.Ending.{Ending}
use Rattle.mc_packet.specs.declared.walk.Mark.{Mark}
use Rattle.mc_walk.specs.declared.plan.Plan.{Plan}
use Rattle.mc_walk.specs.Parts.{opening_mark}
use Rattle.mc_cursor.specs.declared.head.HeadChunk.{HeadChunk}
use Rattle.mc_packet.specs.Choices.{or_else}
use Rattle.mc_journal.specs.Choices.{OnTrack}
use Rattle.mc_journal.specs.Films.{TimesRise, audio_dir}
use Rattle.mc_index.specs.declared.entry.Point.{Point}
use Rattle.mc_index.specs.declared.entry.LastSync.{LastSync}
use Rattle.mc_index.specs.declared.entry.Entry.{Entry}
use Rattle.mc_index.specs.declared.search.Around.{Around}
use Rattle.mc_index.specs.declared.search.Since.{Since}
use Rattle.mc_index.specs.declared.search.Found.{Found}
use Rattle.mc_index.specs.declared.search.Found.TheVariants as found
use Rattle.mc_index.specs.Fronts.{Front, film_points}
use Rattle.mc_index.specs.Entries.{is_upto, track_point}
use Rattle.mc_index.specs.Scans.{last_point}
use Rattle.mc_index.specs.Answers.{IsAround, ReadsUntil, shows}

-- the film was read up to the mark, and of the track no sync point before it is known to be later than t
pub record IsSince (plan : Plan) (track : ℕ) (t : ℤ) (s : Since) : Type 0 where
  pub blocks : ℕ
  pub packets : List Packet
  pub read : Front plan blocks s.mark packets
  pub before : s.before ≡ last_point plan packets track
  pub upto : is_upto t s.before ≡ true

-- what an entry tells of a track that it lists, unless that has a later sync point
abbrev pub since_of : ℤ → Mark → Option LastSync → Option Since
since_of t m None = None
since_of t m (Some l) = if is_upto t l.point then Some (record { mark = m; before = l.point }) else None

abbrev pub since_in : ℕ → ℤ → Entry → Option Since
since_in track t e = since_of t e.mark (find (λ (l : LastSync). l.track == track) e.tracks.items)

-- ---- reading on by a head

abbrev pub found_point : ℤ → Option Point → Found
found_point t None = found.Other
found_point t (Some p) = if int_le p.time t then found.Upto p else found.Past p

abbrev pub unless_ended : Option Ending → Found → Found
unless_ended None f = f
unless_ended (Some ending) f = found.End

-- what a head tells of a track and a time
abbrev pub found_by : ℕ → ℤ → HeadChunk → Found
found_by track t k = unless_ended k.ending (found_point t (track_point track k k.block))

-- the film did not end there
abbrev pub IsOn : Found → Type 0
IsOn found.End = ⊥
IsOn _ = ⊤

-- where the look-up goes on, it does so behind its place
abbrev pub GoesOn : Found → Mark → Mark → Type 0
GoesOn found.Other from to = (from.pos < to.pos) × (to.pos < 2 ^ 64)
GoesOn (found.Upto p) from to = (from.pos < to.pos) × (to.pos < 2 ^ 64)
GoesOn (found.Past p) from to = ⊤
GoesOn found.End from to = ⊤

-- ---- the answer for a track that may be none

abbrev pub no_around : Around
no_around = record { before = None; after = None }

abbrev pub IsNear : Plan → Option ℕ → ℤ → Around → Type 0
IsNear plan None t a = a ≡ no_around
IsNear plan (Some track) t a = IsAround plan track t a

-- the times of the track's sync points rise
abbrev pub Rises : Plan → Option ℕ → Type 0
Rises plan track = OnTrack track (λ k. TimesRise (film_points plan k))

abbrev pub NearReads : Plan → Option ℕ → ℤ → ℕ → ℕ → Type 0
NearReads plan track t before now = Rises plan track → ReadsUntil plan (λ packets. shows packets t track) before now

-- ---- which of them a seek asks for

abbrev pub is_at : ℤ → Option Point → Bool
is_at t None = false
is_at t (Some p) = int_le t p.time

abbrev pub chosen : Dir → ℤ → Around → Option Point
chosen Back t a = or_else a.before a.after
chosen Forward t a = if is_at t a.before then a.before else or_else a.after a.before

abbrev pub point_time : ℤ → Option Point → ℤ
point_time t None = t
point_time t (Some p) = p.time

-- ---- the starts, by the mark of each

abbrev pub point_mark : Option Point → Mark
point_mark None = opening_mark
point_mark (Some p) = p.mark

abbrev pub track_mark : Option ℕ → Option Point → Option Mark
track_mark None p = None
track_mark (Some track) p = Some (point_mark p)

abbrev pub least_mark : Option Mark → Option Mark → Option Mark
least_mark None b = b
least_mark (Some a) None = Some a
least_mark (Some a) (Some b) = Some (if nat_le a.pos b.pos then a else b)

abbrev pub mark_or_opening : Option Mark → Mark
mark_or_opening None = opening_mark
mark_or_opening (Some m) = m

abbrev pub start_by : Option Mark → Option ℕ
start_by None = None
start_by (Some m) = Some m.pos

abbrev pub starts_by : Option Mark → Option Mark → Option Mark → Starts
starts_by video audio sub = record {
  video = start_by video;
  audio = start_by audio;
  sub = start_by sub;
  mark = mark_or_opening (least_mark video (least_mark audio sub));
}

-- a subtitle starts where the first of the others does
abbrev pub sub_mark : Option ℕ → Option Mark → Option Mark
sub_mark None least = None
sub_mark (Some track) least = Some (mark_or_opening least)

abbrev pub seek_starts : Choice → Option Point → Option Point → Starts
seek_starts set video audio =
    starts_by (track_mark set.video video) (track_mark set.audio audio)
    (sub_mark set.sub (least_mark (track_mark set.video video) (track_mark set.audio audio)))

abbrev pub switch_starts : Choice → Option Point → Option Point → Option Point → Starts
switch_starts added video audio lead = starts_by (track_mark added.video video) (track_mark added.audio audio) (track_mark added.sub lead)

-- ---- by the sync points next to the times

-- the time by which audio beside video looks for its own
abbrev pub reference : Dir → ℤ → Around → ℤ
reference dir t lead = point_time t (chosen dir t lead)

abbrev pub seek_of : Choice → Dir → ℤ → Around → Around → Starts
seek_of set dir t lead beside = seek_starts set (chosen dir t lead) (chosen (audio_dir set.video dir) (reference dir t lead) beside)

abbrev pub switch_of : Choice → ℤ → Around → Around → Around → Starts
switch_of added at video audio lead = switch_starts added (chosen Back at video) (chosen Back at audio) lead.before
