-- What lies at the readers' heads in a range or behind them, and the next drop of the packets in front of them.
use Rattle.std.specs.Prelude.{◌≡◌, ◌≤◌, ⊤, ℕ, ◌+◌, nat_le, nat_lt, if◌then◌else◌, Option, Some, None, IsSomeAnd}
use Rattle.mc_packet.specs.declared.packet.Packet.{Packet}
use Rattle.mc_packet.specs.declared.packet.Pos.{Pos}
use Rattle.mc_packet.specs.declared.cache.Heads.{Heads}
use Rattle.mc_packet.specs.declared.choice.Kind.{Kind}
use Rattle.mc_packet.specs.declared.choice.Kind.TheVariants.{Video, Audio, Sub}
use Rattle.mc_journal.specs.Films.{rank}
use Rattle.mc_queue.specs.Places.{place, weights}
use Rattle.mc_journal.specs.Views.{from_place}
use Rattle.mc_queue.specs.Queue.{QueueState, DropsTo, first_of, next_cut}
use Rattle.mc_queue.specs.Union.{earlier}
use Rattle.mc_range.specs.declared.queues.Queues.{Queues}
use Rattle.mc_range.specs.declared.cutting.Cut.{Cut}
use Rattle.mc_range.specs.declared.cutting.Victim.{Victim}
use Rattle.mc_range.specs.Range.{RangeState}
use Rattle.mc_range.specs.Tracks.{queue_under, with_queue}

-- ---- weights from the heads on

abbrev pub weight_ahead : Option Pos → Option QueueState → ℕ
weight_ahead None q = 0
weight_ahead (Some head) None = 0
weight_ahead (Some head) (Some q) = weights (from_place (rank head) q.packets)

-- of each queue that has a head the packets at it or behind it
abbrev pub weight_from : Heads → Queues → ℕ
weight_from heads qs = weight_ahead heads.video qs.video + (weight_ahead heads.audio qs.audio + weight_ahead heads.sub qs.sub)

-- ---- which queue is cut

abbrev pub head_under : Kind → Heads → Option Pos
head_under Video heads = heads.video
head_under Audio heads = heads.audio
head_under Sub heads = heads.sub

-- the place up to which a kind's queue may be cut, where there is one
abbrev pub bound_under : Kind → Option Heads → Option Pos
bound_under kind None = None
bound_under kind (Some heads) = head_under kind heads

-- a first packet that may be dropped: with a head, one before it
abbrev pub cuttable : Option Pos → Option Packet → Option Packet
cuttable head None = None
cuttable None (Some p) = Some p
cuttable (Some head) (Some p) = if nat_lt (place p) (rank head) then Some p else None

abbrev pub first_cuttable : Option Pos → Option QueueState → Option Packet
first_cuttable head None = None
first_cuttable head (Some q) = cuttable head (first_of q.packets)

-- a kind with the place of the first packet that may be dropped
abbrev pub victim_under : Kind → Option Packet → Option Victim
victim_under kind None = None
victim_under kind (Some p) = Some (record { kind = kind; place = p.pos })

abbrev pub earlier_victim : Option Victim → Option Victim → Option Victim
earlier_victim None b = b
earlier_victim (Some a) None = Some a
earlier_victim (Some a) (Some b) = if nat_le (rank a.place) (rank b.place) then Some a else Some b

abbrev pub victim_in : Kind → Option Heads → Queues → Option Victim
victim_in kind heads qs = victim_under kind (first_cuttable (bound_under kind heads) (queue_under kind qs))

-- the least of the kinds' first packets
abbrev pub victim : Option Heads → Queues → Option Victim
victim heads qs = earlier_victim (victim_in Video heads qs) (earlier_victim (victim_in Audio heads qs) (victim_in Sub heads qs))

-- ---- what becomes of it

-- the next sync point after the first packet, else the end; with a head, at most that
abbrev pub cut_at : Option Pos → QueueState → Pos
cut_at None q = next_cut q
cut_at (Some head) q = earlier head (next_cut q)

-- its track and the places
abbrev pub cut_of : Option Pos → QueueState → Cut
cut_of head q = record { track = q.track; from = q.from; to = cut_at head q }

-- a queue is dropped up to its cut, which is told
abbrev pub CutsOne : Option Pos → Option QueueState → Option QueueState → Option Cut → Type 0
CutsOne head None n c = ⊥
CutsOne head (Some q) n c = (c ≡ Some (cut_of head q)) × IsSomeAnd n (λ m. DropsTo (cut_at head q) q m)

-- the victim's queue, and the others are as they were; without a victim all are
abbrev pub Cuts : Option Heads → Queues → Queues → Option Victim → Option Cut → Type 0
Cuts heads old new None c = (c ≡ None) × (new ≡ old)
Cuts heads old new (Some v) c =
    CutsOne (bound_under v.kind heads) (queue_under v.kind old) (queue_under v.kind new) c × (new ≡ with_queue v.kind (queue_under v.kind new) old)

-- the one next drop of a range
pub record IsCut (heads : Option Heads) (old new : RangeState) (c : Option Cut) : Type 0 where
  pub set_is : new.set ≡ old.set
  pub queues : Cuts heads old.queues new.queues (victim heads old.queues) c
  pub mark_is : new.mark ≡ old.mark
  pub ending_is : new.ending ≡ old.ending

-- a head, if there is one, stands in a queue or behind it; and there is that queue
abbrev pub IsAhead : Option Pos → QueueState → Type 0
IsAhead None q = ⊤
IsAhead (Some head) q = rank q.from ≤ rank head

abbrev pub IsAheadIn : Option Pos → Option QueueState → Type 0
IsAheadIn head None = ⊥
IsAheadIn head (Some q) = IsAhead head q
