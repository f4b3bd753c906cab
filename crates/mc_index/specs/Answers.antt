-- What an index answers of a film: the starts of a seek and of a switch.
use Rattle.std.specs.Prelude.{◌≡◌, ◌⊎◌, ℕ, ◌+◌, ◌≤◌, max, Bool, true, false, ◌&&◌, List, ◌++◌, Contains, Option, Some, None, is_some, IfSome, ℤ, int_le}
use Rattle.std.specs.Option.{option_map}
use Rattle.mc_packet.specs.declared.choice.Choice.{Choice}
use Rattle.mc_packet.specs.declared.choice.Dir.{Dir}
use Rattle.mc_packet.specs.declared.choice.Starts.{Starts}
use Rattle.mc_packet.specs.declared.packet.Packet.{Packet}
use Rattle.mc_packet.specs.declared.walk.Mark.{Mark}
use Rattle.mc_walk.specs.declared.plan.Plan.{Plan}
use Rattle.mc_walk.specs.Walk.{film_walk}
use Rattle.mc_packet.specs.Choices.{is_known, passes}
use Rattle.mc_journal.specs.Films.{IsRegular, is_listed, syncs, first, last, film_syncs, video_sync, time_or, start_of, switch_start}
use Rattle.mc_journal.specs.Used.{place_of_starts}
use Rattle.mc_index.specs.declared.entry.Point.{Point}
use Rattle.mc_index.specs.declared.search.Around.{Around}
use Rattle.mc_index.specs.Fronts.{Front, film_points, any_past}
use Rattle.mc_filmed.specs.Films.{plan_packets}
use Rattle.mc_tracks.specs.Selection.{knows}
use Rattle.mc_filmed.specs.Marks.{mark_at}
use Rattle.mc_index.specs.Scans.{point_of}

-- ---- where the sync points of a track meet at a time

-- the film's sync points of a track fall into two runs: the last of the first one, if any, is at the time or before it, and
-- the first of the second one, if any, is later
pub record IsAround (plan : Plan) (track : ℕ) (t : ℤ) (a : Around) : Type 0 where
  pub earlier : List Packet
  pub later : List Packet
  pub whole : film_points plan track ≡ earlier ++ later
  pub before : a.before ≡ option_map (point_of plan) (last earlier)
  pub upto : IfSome (last earlier) (λ p. int_le p.time t ≡ true)
  pub after : a.after ≡ option_map (point_of plan) (first later)
  pub past : IfSome (first later) (λ p. int_le p.time t ≡ false)

-- ---- the starts

abbrev pub start_at : Option Point → ℕ
start_at None = 0
start_at (Some p) = p.mark.pos

-- a start is 0 or the place of a block
abbrev pub IsStart : Plan → ℕ → Type 0
IsStart plan place = (place ≡ 0) ⊎ ((p : Packet) × Contains (film_walk plan).0 p × (p.pos.block ≡ place))

-- each start is one, and the mark is that at the least of them
pub record AreOfBlocks (plan : Plan) (s : Starts) : Type 0 where
  pub video : IfSome s.video (IsStart plan)
  pub audio : IfSome s.audio (IsStart plan)
  pub sub : IfSome s.sub (IsStart plan)
  pub marked : s.mark ≡ mark_at plan (place_of_starts s)

-- starts for just the tracks of a set, and the mark at the least of them, whatever was read
pub record AreFor (set : Choice) (s : Starts) : Type 0 where
  pub video : is_some s.video ≡ is_some set.video
  pub audio : is_some s.audio ≡ is_some set.audio
  pub sub : is_some s.sub ≡ is_some set.sub
  pub least : s.mark.pos ≡ place_of_starts s

-- the starts of the tracks of a set, by the place of each
pub record AreStarts (set : Choice) (place : ℕ → ℕ) (s : Starts) : Type 0 where
  pub video : s.video ≡ option_map place set.video
  pub audio : s.audio ≡ option_map place set.audio
  pub sub : s.sub ≡ option_map place set.sub

-- on a regular film, for tracks that it lists
abbrev pub OnRegular : Plan → Choice → Type 0 → Type 0
OnRegular plan set fact = IsRegular (plan_packets plan) (knows plan.tracks) → is_known (knows plan.tracks) set ≡ true → fact

-- those of a seek to t, by the rule over the whole film
abbrev pub SeekStarts : Plan → Choice → Dir → ℤ → Starts → Type 0
SeekStarts plan set dir t s = OnRegular plan set (AreStarts set (start_of (plan_packets plan) set dir t) s)

-- a lead is none or a track that the film lists as video or audio
abbrev pub is_lead : Plan → Option ℕ → Bool
is_lead plan lead = passes lead (is_listed (knows plan.tracks))

-- those of a switch at a time
abbrev pub SwitchStarts : Plan → Choice → Option ℕ → ℤ → Starts → Type 0
SwitchStarts plan added lead at s =
    OnRegular plan added (is_lead plan lead ≡ true → AreStarts added (switch_start (plan_packets plan) lead added at) s)

-- ---- how far is read

-- of a needed track the packets show a sync point later than a time
abbrev pub shows : List Packet → ℤ → Option ℕ → Bool
shows packets t None = true
shows packets t (Some track) = any_past t (syncs track packets)

-- reads go at most 12 octets past any place by which the packets pass a test
abbrev pub ReadsUntil : Plan → (List Packet → Bool) → ℕ → ℕ → Type 0
ReadsUntil plan test before now = (n : ℕ) (m : Mark) (packets : List Packet) → Front plan n m packets → test packets ≡ true → now ≤ max before (m.pos + 12)

-- a seek needs the video track past its target, and the audio track past its own reference time
abbrev pub seek_shown : Plan → Choice → Dir → ℤ → List Packet → Bool
seek_shown plan set dir t packets =
    shows packets t set.video && shows packets (time_or t (video_sync (film_syncs (plan_packets plan)) set dir t)) set.audio

abbrev pub SeekReads : Plan → Choice → Dir → ℤ → ℕ → ℕ → Type 0
SeekReads plan set dir t before now = OnRegular plan set (ReadsUntil plan (seek_shown plan set dir t) before now)

-- a switch needs the added tracks past its time, and for a subtitle the lead
abbrev pub needed_lead : Option ℕ → Option ℕ → Option ℕ
needed_lead None lead = None
needed_lead (Some track) lead = lead

abbrev pub switch_shown : Choice → Option ℕ → ℤ → List Packet → Bool
switch_shown added lead at packets =
    shows packets at added.video && (shows packets at added.audio && shows packets at (needed_lead added.sub lead))

abbrev pub SwitchReads : Plan → Choice → Option ℕ → ℤ → ℕ → ℕ → Type 0
SwitchReads plan added lead at before now =
    OnRegular plan added (is_lead plan lead ≡ true → ReadsUntil plan (switch_shown added lead at) before now)
