-- A film's packets in file order, its sync points, and the place at which a seek or a switch starts to read each track:
-- over the whole film, as mpv's `seek` and track switching choose it.
use Rattle.std.specs.Prelude.{◌≡◌, ℕ, ◌+◌, ◌*◌, ◌<◌, ◌==◌, nat_le, min, Bool, true, ◌&&◌, ◌||◌, if◌then◌else◌, List, [], ◌∷◌, Option, Some, None, ℤ, ◌<ℤ◌, int_le, ⊤}
use Rattle.std.specs.List.{filter, AllByRecursion}
use Rattle.mc_packet.specs.declared.packet.Pos.{Pos}
use Rattle.mc_packet.specs.declared.choice.Choice.{Choice}
use Rattle.mc_packet.specs.declared.choice.Kind.{Kind}
use Rattle.mc_packet.specs.declared.choice.Kind.TheVariants.{Video, Audio}
use Rattle.mc_packet.specs.declared.choice.Dir.{Dir}
use Rattle.mc_packet.specs.declared.choice.Dir.TheVariants.{Back, Forward}
use Rattle.mc_packet.specs.declared.walk.Ending.{Ending}
use Rattle.mc_packet.specs.declared.walk.Mark.{Mark}
use Rattle.mc_packet.specs.declared.packet.Packet.{Packet}
use Rattle.mc_packet.specs.Choices.{or_else, is_track}

-- ---- places

-- places in order, as numbers: by block, then by frame, which is below 65,536
unfoldable pub rank : Pos → ℕ
rank p = p.block * 65536 + p.lane

-- the place of frame 0 of a block
unfoldable pub first_lane : ℕ → ℕ
first_lane block = block * 65536

abbrev pub at : Packet → ℕ
at p = rank p.pos

-- the places rise
abbrev pub IsRising : List Packet → Type 0
IsRising [] = ⊤
IsRising (p ∷ ps) = AllByRecursion (λ q. at p < at q) ps × IsRising ps

-- a frame's number fits its type, and a sync point is frame 0 of its block
abbrev pub HasLanes : Packet → Type 0
HasLanes p = (p.pos.lane < 65536) × (p.sync ≡ true → p.pos.lane ≡ 0)

-- packets that can be a film's
pub record IsFilm (ps : List Packet) : Type 0 where
  pub rising : IsRising ps
  pub lanes : AllByRecursion HasLanes ps

-- ---- the film as a journal tells of it

-- where the part of a film from a mark ends, and the film's ending where it came there
pub record Part : Type 0 where
  pub to : Mark
  pub ending : Option Ending

-- a film's packets and ending; which tracks it lists under which kind, whose blocks can be read; its parts from mark to
-- mark; and the mark at a block, of which the one at 0 is the opening mark
pub record Film : Type 0 where
  pub packets : List Packet
  pub ending : Ending
  pub known : Kind → ℕ → Bool
  pub part : Mark → Part
  pub mark_at : ℕ → Mark

abbrev pub is_fresh : ℕ → ℕ → Packet → Bool
is_fresh track block p = p.track == track && nat_le block p.pos.block

-- the packets of a track whose block stands at an offset or behind it, in file order
abbrev pub fresh : ℕ → ℕ → List Packet → List Packet
fresh track block packets = filter (is_fresh track block) packets

-- ---- sync points

-- the packets of a track
abbrev pub track_of : ℕ → List Packet → List Packet
track_of track ps = filter (λ p. p.track == track) ps

-- the sync points of a track, in file order
abbrev pub syncs : ℕ → List Packet → List Packet
syncs track ps = filter (λ p. p.track == track && p.sync) ps

abbrev pub film_syncs : List Packet → ℕ → List Packet
film_syncs ps track = syncs track ps

-- the times rise strictly
abbrev pub TimesRise : List Packet → Type 0
TimesRise [] = ⊤
TimesRise (p ∷ ps) = AllByRecursion (λ q. p.time <ℤ q.time) ps × TimesRise ps

-- a track that the film lists as video or audio
abbrev pub is_listed : (Kind → ℕ → Bool) → ℕ → Bool
is_listed known track = known Video track || known Audio track

-- a regular film: the times of each such track's sync points rise
abbrev pub IsRegular : List Packet → (Kind → ℕ → Bool) → Type 0
IsRegular ps known = (track : ℕ) → is_listed known track ≡ true → TimesRise (syncs track ps)

abbrev pub first : List Packet → Option Packet
first [] = None
first (p ∷ ps) = Some p

abbrev pub last : List Packet → Option Packet
last [] = None
last (p ∷ ps) = or_else (last ps) (Some p)

-- the last in file order with a time at most t
abbrev pub last_upto : ℤ → List Packet → Option Packet
last_upto t [] = None
last_upto t (p ∷ ps) = or_else (last_upto t ps) (if int_le p.time t then Some p else None)

-- the first in file order with a time at least t
abbrev pub first_from : ℤ → List Packet → Option Packet
first_from t [] = None
first_from t (p ∷ ps) = if int_le t p.time then Some p else first_from t ps

-- the sync point that a seek to t asks for: the last one at or before t, else the first; or the first one at or after t,
-- else the last
abbrev pub sync_for : Dir → ℤ → List Packet → Option Packet
sync_for Back t ps = or_else (last_upto t ps) (first ps)
sync_for Forward t ps = or_else (first_from t ps) (last ps)

-- ---- starts of a seek

abbrev pub block_of : Option Packet → ℕ
block_of None = 0
block_of (Some p) = p.pos.block

abbrev pub time_or : ℤ → Option Packet → ℤ
time_or t None = t
time_or t (Some p) = p.time

-- of a track that may be none, by the sync points of each track
abbrev pub track_sync : (ℕ → List Packet) → Dir → ℤ → Option ℕ → Option Packet
track_sync syncs_of dir t None = None
track_sync syncs_of dir t (Some track) = sync_for dir t (syncs_of track)

-- the selected video track's, which leads
abbrev pub video_sync : (ℕ → List Packet) → Choice → Dir → ℤ → Option Packet
video_sync syncs_of set dir t = track_sync syncs_of dir t set.video

-- beside a video track audio looks back, from the time of the video track's sync point
abbrev pub audio_dir : Option ℕ → Dir → Dir
audio_dir None dir = dir
audio_dir (Some video) dir = Back

-- the selected audio track's
abbrev pub audio_sync : (ℕ → List Packet) → Choice → Dir → ℤ → Option Packet
audio_sync syncs_of set dir t = track_sync syncs_of (audio_dir set.video dir) (time_or t (video_sync syncs_of set dir t)) set.audio

-- the least of the blocks that a video and an audio track start at, or 0 without any
abbrev pub least_of : Option ℕ → Option ℕ → ℕ → ℕ → ℕ
least_of (Some v) (Some a) m n = min m n
least_of (Some v) None m n = m
least_of None (Some a) m n = n
least_of None None m n = 0

abbrev pub start_by : Choice → Option Packet → Option Packet → ℕ → ℕ
start_by set video audio track =
    if is_track set.video track then block_of video
    else (if is_track set.audio track then block_of audio
    else least_of set.video set.audio (block_of video) (block_of audio))

-- the block at which each track of the set starts after a seek to t, by these sync points
abbrev pub start_with : (ℕ → List Packet) → Choice → Dir → ℤ → ℕ → ℕ
start_with syncs_of set dir t track = start_by set (video_sync syncs_of set dir t) (audio_sync syncs_of set dir t) track

-- the same by those of the whole film
abbrev pub start_of : List Packet → Choice → Dir → ℤ → ℕ → ℕ
start_of ps set dir t track = start_with (film_syncs ps) set dir t track

-- ---- the start of a switch

abbrev pub last_for : List Packet → ℤ → Option ℕ → Option Packet
last_for ps t None = None
last_for ps t (Some track) = last_upto t (syncs track ps)

-- the block at which an added track starts at the time t: at its last sync point at or before t, else its first; a subtitle
-- at the lead's last one at or before t; else at 0
abbrev pub switch_start : List Packet → Option ℕ → Choice → ℤ → ℕ → ℕ
switch_start ps lead added t track =
    if is_track added.sub track then block_of (last_for ps t lead) else block_of (sync_for Back t (syncs track ps))
