-- A range as contracts see it: the queues of the selected tracks, and how it begins and touches another.
use Rattle.std.specs.Prelude.{◌≡◌, ◌≤◌, ℕ, ◌+◌, ◌==◌, Bool, true, false, ◌&&◌, if◌then◌else◌, length, Option, Some, None, IsSomeAnd, ⊤}
use Rattle.std.specs.Option.{option_map}
use Rattle.mc_packet.specs.declared.packet.Pos.{Pos}
use Rattle.mc_packet.specs.declared.choice.Choice.{Choice}
use Rattle.mc_packet.specs.declared.choice.Starts.{Starts}
use Rattle.mc_packet.specs.declared.walk.Ending.{Ending}
use Rattle.mc_packet.specs.declared.walk.Mark.{Mark}
use Rattle.mc_packet.specs.Choices.{or_else, is_distinct}
use Rattle.mc_journal.specs.Films.{rank, first_lane}
use Rattle.mc_journal.specs.Ranges.{Range, Span, touches}
use Rattle.mc_queue.specs.Places.{weights}
use Rattle.mc_queue.specs.Queue.{QueueState, IsQueue, IsNew, with_spare}
use Rattle.mc_range.specs.declared.queues.Queues.{Queues}

-- the selected tracks; a queue for each kind whose start is known; up to where the film was read; and its ending where
-- it was reached
pub record RangeState : Type 0 where
  pub set : Choice
  pub queues : Queues
  pub mark : Mark
  pub ending : Option Ending

abbrev pub range_of : Choice → Queues → Mark → Option Ending → RangeState
range_of set queues mark ending = record { set = set; queues = queues; mark = mark; ending = ending }

-- the place of frame 0 of a block
abbrev pub place_at : ℕ → Pos
place_at block = record { block = block; lane = 0 }

-- ---- what is true of every range

-- a queue holds the selected track of its kind, and reaches the mark
abbrev pub QueueIn : Option ℕ → Mark → Option QueueState → Type 0
QueueIn track mark None = ⊤
QueueIn track mark (Some q) = (track ≡ Some q.track) × (first_lane mark.pos ≤ rank q.to) × IsQueue q

pub record QueuesIn (set : Choice) (mark : Mark) (qs : Queues) : Type 0 where
  pub video : QueueIn set.video mark qs.video
  pub audio : QueueIn set.audio mark qs.audio
  pub sub : QueueIn set.sub mark qs.sub

pub record IsRange (r : RangeState) : Type 0 where
  pub distinct : is_distinct r.set ≡ true
  pub held : QueuesIn r.set r.mark r.queues

-- ---- the queue of a track

abbrev pub is_of : ℕ → Option QueueState → Bool
is_of track None = false
is_of track (Some q) = q.track == track

abbrev pub own : ℕ → Option QueueState → Option QueueState
own track q = if is_of track q then q else None

abbrev pub queue_of : ℕ → Queues → Option QueueState
queue_of track qs = or_else (own track qs.video) (or_else (own track qs.audio) (own track qs.sub))

abbrev pub count : Option QueueState → ℕ
count None = 0
count (Some q) = length q.packets

abbrev pub weight_in : Option QueueState → ℕ
weight_in None = 0
weight_in (Some q) = weights q.packets

-- the weight of all packets
abbrev pub weight_of_all : Queues → ℕ
weight_of_all qs = weight_in qs.video + (weight_in qs.audio + weight_in qs.sub)

-- ---- a new range

-- a selected track with a start has an empty queue there, another none
abbrev pub StartsAt : Option ℕ → Option ℕ → Option QueueState → Type 0
StartsAt (Some track) (Some at) q = IsSomeAnd q (λ s. IsNew track (place_at at) s)
StartsAt (Some track) None q = q ≡ None
StartsAt None start q = q ≡ None

pub record IsBegun (set : Choice) (starts : Starts) (r : RangeState) : Type 0 where
  pub set_is : r.set ≡ set
  pub video : StartsAt set.video starts.video r.queues.video
  pub audio : StartsAt set.audio starts.audio r.queues.audio
  pub sub : StartsAt set.sub starts.sub r.queues.sub
  pub mark_is : r.mark ≡ starts.mark
  pub no_ending : r.ending ≡ None

-- ---- room

-- the same with as much room or more
abbrev pub Roomier : Option QueueState → Option QueueState → Type 0
Roomier None q = q ≡ None
Roomier (Some o) q = IsSomeAnd q (λ n. (n ≡ with_spare o n.spare) × (o.spare ≤ n.spare))

pub record AreRoomier (old new : Queues) : Type 0 where
  pub video : Roomier old.video new.video
  pub audio : Roomier old.audio new.audio
  pub sub : Roomier old.sub new.sub

pub record IsRoomier (old new : RangeState) : Type 0 where
  pub set_is : new.set ≡ old.set
  pub queues : AreRoomier old.queues new.queues
  pub mark_is : new.mark ≡ old.mark
  pub ending_is : new.ending ≡ old.ending

-- ---- the range of the definitions over a film's list

abbrev pub span_of : QueueState → Span
span_of q = record { from = rank q.from; to = rank q.to }

abbrev pub spans_of : Queues → ℕ → Option Span
spans_of qs track = option_map span_of (queue_of track qs)

abbrev pub as_range : RangeState → Range
as_range r = record { spans = spans_of r.queues; mark = r.mark.pos; ending = r.ending }

-- ---- two ranges that touch

abbrev pub is_same : Option ℕ → Option ℕ → Bool
is_same None None = true
is_same None (Some b) = false
is_same (Some a) None = false
is_same (Some a) (Some b) = a == b

abbrev pub is_same_set : Choice → Choice → Bool
is_same_set a b = is_same a.video b.video && (is_same a.audio b.audio && is_same a.sub b.sub)

-- they are of one set, and touch over it
abbrev pub meets_range : RangeState → RangeState → Bool
meets_range r q = is_same_set r.set q.set && touches r.set (as_range r) (as_range q)
