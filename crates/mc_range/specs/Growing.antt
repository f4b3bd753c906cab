-- What a range becomes when a part of the film behind its mark is fed to it.
use Rattle.std.specs.Prelude.{◌≡◌, ◌≤◌, ◌<◌, ℕ, ◌+◌, ◌++◌, ◌==◌, nat_lt, Bool, true, false, ◌||◌, length, List, [], ◌∷◌, Option, Some, None, IsSomeAnd, ⊤}
use Rattle.std.specs.List.{filter}
use Rattle.mc_packet.specs.declared.packet.Packet.{Packet}
use Rattle.mc_packet.specs.declared.packet.Pos.{Pos}
use Rattle.mc_packet.specs.declared.choice.Kind.{Kind}
use Rattle.mc_packet.specs.declared.choice.Kind.TheVariants.{Video, Audio, Sub}
use Rattle.mc_packet.specs.declared.walk.Chunk.{Chunk}
use Rattle.mc_packet.specs.Choices.{or_else}
use Rattle.mc_journal.specs.Films.{rank}
use Rattle.mc_queue.specs.Places.{Rise, behind}
use Rattle.mc_journal.specs.Views.{from_place}
use Rattle.mc_queue.specs.Queue.{QueueState, IsQueue, with_packets}
use Rattle.mc_queue.specs.Union.{later}
use Rattle.mc_range.specs.declared.queues.Queues.{Queues}
use Rattle.mc_range.specs.Range.{RangeState, place_at}

abbrev pub of_track : ℕ → List Packet → List Packet
of_track track ps = filter (λ p. p.track == track) ps

-- what a queue takes of packets: those of its track at its end or behind it
abbrev pub news : List Packet → QueueState → List Packet
news ps q = from_place (rank q.to) (of_track q.track ps)

-- they are put behind its own, and it reaches up to the place, where it did not reach further
pub record Extends (upto : Pos) (ps : List Packet) (old new : QueueState) : Type 0 where
  pub grown : new ≡ with_packets old old.from (later old.to upto) (old.packets ++ news ps old) new.spare
  pub room_used : old.spare ≤ new.spare + length (news ps old)

abbrev pub ExtendsIn : Pos → List Packet → Option QueueState → Option QueueState → Type 0
ExtendsIn upto ps None q = q ≡ None
ExtendsIn upto ps (Some o) q = IsSomeAnd q (λ n. Extends upto ps o n)

pub record ExtendsAll (upto : Pos) (ps : List Packet) (old new : Queues) : Type 0 where
  pub video : ExtendsIn upto ps old.video new.video
  pub audio : ExtendsIn upto ps old.audio new.audio
  pub sub : ExtendsIn upto ps old.sub new.sub

-- the track of a queue that takes packets
abbrev pub track_with : ℕ → List Packet → Option ℕ
track_with track [] = None
track_with track (p ∷ ps) = Some track

abbrev pub takes : List Packet → Option QueueState → Option ℕ
takes ps None = None
takes ps (Some q) = track_with q.track (news ps q)

abbrev pub taker : List Packet → Queues → Option ℕ
taker ps qs = or_else (takes ps qs.video) (or_else (takes ps qs.audio) (takes ps qs.sub))

-- a queue takes more packets than it has room for
abbrev pub lacks : List Packet → Option QueueState → Bool
lacks ps None = false
lacks ps (Some q) = nat_lt q.spare (length (news ps q))

abbrev pub lacks_room : List Packet → Queues → Bool
lacks_room ps qs = lacks ps qs.video || (lacks ps qs.audio || lacks ps qs.sub)

-- a range that was fed a chunk
pub record IsFed (c : Chunk) (old new : RangeState) : Type 0 where
  pub set_is : new.set ≡ old.set
  pub queues : ExtendsAll (place_at c.to.pos) c.packets old.queues new.queues
  pub mark_is : new.mark ≡ c.to
  pub ending_is : new.ending ≡ or_else c.ending old.ending

-- ---- the parts of a call

-- packets of one track that rise up to a place
abbrev pub RiseTogether : Pos → List Packet → Type 0
RiseTogether upto [] = ⊤
RiseTogether upto (p ∷ ps) = Rise p.track 0 (rank upto) (p ∷ ps)

-- the track of the first one
abbrev pub first_track : List Packet → Option ℕ
first_track [] = None
first_track (p ∷ ps) = Some p.track

-- the first one is dropped because it stands before the place; or none is
abbrev pub DropsOne : ℕ → List Packet → List Packet → Bool → Type 0
DropsOne cut old new false = (new ≡ old) × (behind cut old ≡ old)
DropsOne cut old new true = (behind cut new ≡ behind cut old) × (length new < length old)

-- a queue, if there is one, is sound
abbrev pub IsSound : Option QueueState → Type 0
IsSound None = ⊤
IsSound (Some q) = IsQueue q

-- a queue, if there is one, takes none of the packets; or all are of its track
abbrev pub IsForeign : List Packet → Option QueueState → Type 0
IsForeign ps None = ⊤
IsForeign ps (Some q) = of_track q.track ps ≡ []

abbrev pub AreOwn : Pos → List Packet → Option QueueState → Type 0
AreOwn upto ps None = ⊤
AreOwn upto ps (Some q) = Rise q.track 0 (rank upto) ps

-- two queues of different tracks, where there are two
abbrev pub AreApart : Option QueueState → Option QueueState → Type 0
AreApart (Some a) (Some b) = (a.track == b.track) ≡ false
AreApart a b = ⊤

pub record AllApart (qs : Queues) : Type 0 where
  pub video_audio : AreApart qs.video qs.audio
  pub video_sub : AreApart qs.video qs.sub
  pub audio_sub : AreApart qs.audio qs.sub

-- which kind's queue holds the packets' track: the others then take none
abbrev pub Owns : Pos → List Packet → Queues → Option Kind → Type 0
Owns upto ps qs None = IsForeign ps qs.video × IsForeign ps qs.audio × IsForeign ps qs.sub
Owns upto ps qs (Some Video) = AreOwn upto ps qs.video × IsForeign ps qs.audio × IsForeign ps qs.sub
Owns upto ps qs (Some Audio) = AreOwn upto ps qs.audio × IsForeign ps qs.video × IsForeign ps qs.sub
Owns upto ps qs (Some Sub) = AreOwn upto ps qs.sub × IsForeign ps qs.video × IsForeign ps qs.audio

pub record AllSound (qs : Queues) : Type 0 where
  pub video : IsSound qs.video
  pub audio : IsSound qs.audio
  pub sub : IsSound qs.sub
