-- Two ranges that touch, joined: the union of each queue; or where their packets differ.
use Rattle.std.specs.Prelude.{◌≡◌, ◌≤◌, ◌+◌, nat_lt, nat_le, Bool, true, false, ◌||◌, if◌then◌else◌, Option, Some, None, Result, Ok, Err, IsSomeAnd, ⊤}
use Rattle.mc_packet.specs.declared.walk.Ending.{Ending}
use Rattle.mc_packet.specs.declared.walk.Mark.{Mark}
use Rattle.mc_packet.specs.Choices.{or_else}
use Rattle.mc_queue.specs.declared.differences.Difference.{Difference}
use Rattle.mc_queue.specs.declared.queue.UnionError.{UnionError}
use Rattle.mc_queue.specs.declared.queue.UnionError.TheVariants.{NoMemory, Mismatch}
use Rattle.mc_queue.specs.Queue.{QueueState, with_packets}
use Rattle.mc_queue.specs.Union.{Meet, Compared, earlier, later, united, added}
use Rattle.mc_range.specs.declared.queues.Queues.{Queues}
use Rattle.mc_range.specs.declared.joining.Numbered.{Numbered}
use Rattle.mc_range.specs.Range.{RangeState, AreRoomier}

-- ---- two queues of a kind

-- they meet, or there are none
abbrev pub MeetIn : Option QueueState → Option QueueState → Type 0
MeetIn None None = ⊤
MeetIn None (Some o) = ⊥
MeetIn (Some q) None = ⊥
MeetIn (Some q) (Some o) = Meet q o

-- the first place at which they differ, if there is one
abbrev pub ComparedIn : Option QueueState → Option QueueState → Option Difference → Type 0
ComparedIn None b d = d ≡ None
ComparedIn (Some q) None d = d ≡ None
ComparedIn (Some q) (Some o) d = Compared q o d

-- both together, each packet once
pub record IsUnion (q o n : QueueState) : Type 0 where
  pub both : n ≡ with_packets q (earlier q.from o.from) (later q.to o.to) (united q o) n.spare
  pub room_used : q.spare ≤ n.spare + added q o

abbrev pub UnitesIn : Option QueueState → Option QueueState → Option QueueState → Type 0
UnitesIn None b n = n ≡ None
UnitesIn (Some q) None n = n ≡ Some q
UnitesIn (Some q) (Some o) n = IsSomeAnd n (λ u. IsUnion q o u)

-- the first takes more packets than it has room for
abbrev pub lacks_for : Option QueueState → Option QueueState → Bool
lacks_for None b = false
lacks_for (Some q) None = false
lacks_for (Some q) (Some o) = nat_lt q.spare (added q o)

-- the first has room for what it takes
abbrev pub HasRoom : Option QueueState → Option QueueState → Type 0
HasRoom None b = ⊤
HasRoom (Some q) None = ⊤
HasRoom (Some q) (Some o) = added q o ≤ q.spare

-- ---- all queues

pub record HaveRoom (qs os : Queues) : Type 0 where
  pub video : HasRoom qs.video os.video
  pub audio : HasRoom qs.audio os.audio
  pub sub : HasRoom qs.sub os.sub

pub record AllMeet (qs os : Queues) : Type 0 where
  pub video : MeetIn qs.video os.video
  pub audio : MeetIn qs.audio os.audio
  pub sub : MeetIn qs.sub os.sub

pub record AllCompared (qs os : Queues) (v a s : Option Difference) : Type 0 where
  pub video : ComparedIn qs.video os.video v
  pub audio : ComparedIn qs.audio os.audio a
  pub sub : ComparedIn qs.sub os.sub s

pub record AllUnited (qs os new : Queues) : Type 0 where
  pub video : UnitesIn qs.video os.video new.video
  pub audio : UnitesIn qs.audio os.audio new.audio
  pub sub : UnitesIn qs.sub os.sub new.sub

abbrev pub lacks_any : Queues → Queues → Bool
lacks_any qs os = lacks_for qs.video os.video || (lacks_for qs.audio os.audio || lacks_for qs.sub os.sub)

-- without any queue
abbrev pub no_queues : Queues
no_queues = record { video = None; audio = None; sub = None }

-- ---- which difference is told

-- a difference with the number of its track
abbrev pub numbered : Option QueueState → Option Difference → Option Numbered
numbered None d = None
numbered (Some q) None = None
numbered (Some q) (Some d) = Some (record { track = q.track; difference = d })

-- that of the track with the lesser number
abbrev pub lesser : Option Numbered → Option Numbered → Option Numbered
lesser None b = b
lesser (Some a) None = Some a
lesser (Some a) (Some b) = if nat_le a.track b.track then Some a else Some b

abbrev pub difference_in : Option Numbered → Option Difference
difference_in None = None
difference_in (Some n) = Some n.difference

-- the first difference of each track's queues, and of these that of the least track
abbrev pub FirstDifference : Queues → Queues → Option Difference → Type 0
FirstDifference qs os d =
    (video : Option Difference) × (audio : Option Difference) × (sub : Option Difference) × AllCompared qs os video audio sub
    × (d ≡ difference_in (lesser (numbered qs.video video) (lesser (numbered qs.audio audio) (numbered qs.sub sub))))

-- ---- what a join gives

-- the greater of two marks, the first where they are at one offset
abbrev pub greater : Mark → Mark → Mark
greater a b = if nat_lt a.pos b.pos then b else a

-- the ending of the range with the greater mark, or that of the other where only it has one
abbrev pub joined_ending : RangeState → RangeState → Option Ending
joined_ending r o = if nat_lt r.mark.pos o.mark.pos then or_else o.ending r.ending else or_else r.ending o.ending

pub record IsJoined (r o r' o' : RangeState) : Type 0 where
  pub agreed : FirstDifference r.queues o.queues None
  pub set_is : r'.set ≡ r.set
  pub queues : AllUnited r.queues o.queues r'.queues
  pub mark_is : r'.mark ≡ greater r.mark o.mark
  pub ending_is : r'.ending ≡ joined_ending r o
  pub emptied : o' ≡ record { set = o.set; queues = no_queues; mark = o.mark; ending = o.ending }

-- a refusal: too little room for what agrees, or the first difference
abbrev pub JoinRefused : RangeState → RangeState → UnionError → Type 0
JoinRefused r o NoMemory = FirstDifference r.queues o.queues None × (lacks_any r.queues o.queues ≡ true)
JoinRefused r o (Mismatch pos ours other) = FirstDifference r.queues o.queues (Some (record { pos = pos; ours = ours; other = other }))

-- the same at the level of the queues
abbrev pub QueuesJoin : Queues → Queues → Result Unit UnionError → Queues → Queues → Type 0
QueuesJoin qs os (Ok _) qs' os' = FirstDifference qs os None × AllUnited qs os qs' × (os' ≡ no_queues)
QueuesJoin qs os (Err NoMemory) qs' os' = FirstDifference qs os None × (lacks_any qs os ≡ true) × AreRoomier qs qs' × (os' ≡ os)
QueuesJoin qs os (Err (Mismatch pos ours other)) qs' os' =
    FirstDifference qs os (Some (record { pos = pos; ours = ours; other = other })) × (qs' ≡ qs) × (os' ≡ os)
