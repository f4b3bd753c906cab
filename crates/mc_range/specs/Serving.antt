-- Which seeks a range serves, and from where its tracks are then read: the rule over a film's list, by what the queues hold.
use Rattle.std.specs.Prelude.{◌≡◌, ℕ, ◌==◌, nat_le, Bool, ◌&&◌, ◌||◌, int_le, if◌then◌else◌, List, [], Option, Some, None, ℤ, is_some, IfSome, IsSomeAnd}
use Rattle.std.specs.List.{filter, find}
use Rattle.mc_packet.specs.declared.packet.Packet.{Packet}
use Rattle.mc_packet.specs.declared.packet.Pos.{Pos}
use Rattle.mc_packet.specs.declared.cache.Heads.{Heads}
use Rattle.mc_packet.specs.declared.choice.Choice.{Choice}
use Rattle.mc_packet.specs.declared.choice.Dir.{Dir}
use Rattle.mc_packet.specs.Choices.{lead_of, passes}
use Rattle.mc_journal.specs.Films.{rank, first_lane, block_of, time_or, video_sync, audio_sync, audio_dir, least_of}
use Rattle.mc_journal.specs.Ranges.{Span, on_span, served, held, any_from, any_below}
use Rattle.mc_queue.specs.Places.{is_from}
use Rattle.mc_queue.specs.Queue.{QueueState, is_sync}
use Rattle.mc_range.specs.declared.queues.Queues.{Queues}
use Rattle.mc_range.specs.Range.{RangeState, as_range, place_at, queue_of, spans_of}

-- ---- what a range holds, as a journal tells of it

abbrev pub sync_points : List Packet → List Packet
sync_points ps = (filter is_sync ps)

abbrev pub packets_in : Option QueueState → List Packet
packets_in None = []
packets_in (Some q) = q.packets

-- the sync points of a track that it holds
abbrev pub syncs_of : Queues → ℕ → List Packet
syncs_of qs track = sync_points (packets_in (queue_of track qs))

-- ---- the rule, by the spans and the held sync points of each track

abbrev pub serves_track : (ℕ → Option Span) → Bool → (ℕ → List Packet) → Dir → ℤ → ℕ → Bool
serves_track spans ended syncs dir t track = on_span (spans track) (λ s. served dir s.from ended t (syncs track))

-- a subtitle that starts at a block
abbrev pub serves_sub : (ℕ → Option Span) → Choice → ℕ → ℕ → Bool
serves_sub spans set block track =
    on_span (spans track) (λ s. if is_some (lead_of set) then nat_le s.from (first_lane block) && nat_le (first_lane block) s.to else s.from == 0)

-- the block at which it starts
abbrev pub sub_block : (ℕ → List Packet) → Choice → Dir → ℤ → ℕ
sub_block syncs set dir t = least_of set.video set.audio (block_of (video_sync syncs set dir t)) (block_of (audio_sync syncs set dir t))

abbrev pub serves_by : (ℕ → Option Span) → Bool → (ℕ → List Packet) → Choice → Dir → ℤ → Bool
serves_by spans ended syncs set dir t =
    passes set.video (serves_track spans ended syncs dir t)
    && (passes set.audio (serves_track spans ended syncs (audio_dir set.video dir) (time_or t (video_sync syncs set dir t)))
    && passes set.sub (serves_sub spans set (sub_block syncs set dir t)))

-- the same of one queue by the sync point that it has for the seek: whether nothing lies before it, whether the ending is
-- there, and whether another sync point at or behind the time, or below it, is there
abbrev pub back_by : Bool → Bool → Bool → ℤ → Option Packet → Bool
back_by begins ended ahead t None = begins && ended
back_by begins ended ahead t (Some p) = if int_le p.time t then ahead || ended else begins

abbrev pub forward_by : Bool → Bool → Bool → ℤ → Option Packet → Bool
forward_by begins ended below t None = ended && begins
forward_by begins ended below t (Some p) = if int_le t p.time then int_le p.time t || (below || begins) else ended

-- a queue serves a seek back, or forward, by the sync point that it has for it
abbrev pub serves_back : QueueState → Bool → ℤ → Option Packet → Bool
serves_back q ended t sync = back_by (rank q.from == 0) ended (any_from t (sync_points q.packets)) t sync

abbrev pub serves_forward : QueueState → Bool → ℤ → Option Packet → Bool
serves_forward q ended t sync = forward_by (rank q.from == 0) ended (any_below t (sync_points q.packets)) t sync

-- ---- the heads

-- a selected track is read from frame 0 of a block
abbrev pub head_at : Option ℕ → ℕ → Option Pos
head_at None block = None
head_at (Some track) block = Some (place_at block)

abbrev pub heads_by : (ℕ → List Packet) → Choice → Dir → ℤ → Heads
heads_by syncs set dir t = record {
  video = head_at set.video (block_of (video_sync syncs set dir t));
  audio = head_at set.audio (block_of (audio_sync syncs set dir t));
  sub = head_at set.sub (sub_block syncs set dir t);
}

abbrev pub heads_in : Queues → Bool → Choice → ℤ → Dir → Option Heads
heads_in qs ended set t dir = if serves_by (spans_of qs) ended (syncs_of qs) set dir t then Some (heads_by (syncs_of qs) set dir t) else None

-- what `serves` answers
abbrev pub heads_of : RangeState → Choice → ℤ → Dir → Option Heads
heads_of r set t dir = heads_in r.queues (is_some r.ending) set t dir

-- ---- the film's list

-- the range holds exactly the film's packets of each track in the track's span
abbrev pub HoldsFilm : List Packet → RangeState → Type 0
HoldsFilm ps r = (track : ℕ) → held (as_range r) ps track ≡ (packets_in (queue_of track r.queues))

-- each selected track's head is at its place
pub record AreHeads (set : Choice) (place : ℕ → ℕ) (h : Heads) : Type 0 where
  pub video : IfSome set.video (λ track. IsSomeAnd h.video (λ p. rank p ≡ place track))
  pub audio : IfSome set.audio (λ track. IsSomeAnd h.audio (λ p. rank p ≡ place track))
  pub sub : IfSome set.sub (λ track. IsSomeAnd h.sub (λ p. rank p ≡ place track))

-- ---- a packet by its place

-- the packet at a place that a look-up found
abbrev pub at_place : List Packet → Option Pos → Option Packet
at_place ps None = None
at_place ps (Some p) = find (is_from (rank p)) ps

-- the first packet of a queue, if there is one, at a place or behind it
abbrev pub first_from : Pos → Option QueueState → Option Packet
first_from place None = None
first_from place (Some q) = find (is_from (rank place)) q.packets
