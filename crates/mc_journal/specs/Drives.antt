-- What those who drive a demuxer leave in its journal: their seeks, switches and looks, turns of the demuxer, reads and drains.
-- Journals have their oldest record first.
use Rattle.std.specs.Prelude.{◌≡◌, ℕ, ◌<◌, ◌≤◌, ◌==◌, Bool, true, false, ◌||◌, ◌&&◌, not, if◌then◌else◌, List, [], ◌∷◌, ◌++◌, length, drop, reverse, count_by, Option, Some, None, ℤ, pos, Result, Ok, Err, IfSome, is_some, unwrap_or, ⊤}
use Rattle.std.specs.List.{list_any}
use Rattle.std.specs.Option.{option_map}
use Rattle.mc_packet.specs.declared.choice.Choice.{Choice}
use Rattle.mc_packet.specs.declared.choice.Dir.{Dir}
use Rattle.mc_packet.specs.declared.choice.Kind.{Kind}
use Rattle.mc_packet.specs.declared.choice.Kind.TheVariants.{Video, Audio, Sub}
use Rattle.mc_packet.specs.declared.choice.Why.{Why}
use Rattle.mc_packet.specs.declared.choice.Why.TheVariants.{NoTrack}
use Rattle.mc_packet.specs.declared.cache.Limits.{Limits}
use Rattle.mc_packet.specs.Choices.{has, is_empty, lead_of, track_of}
use Rattle.mc_journal.specs.declared.record.Sought.TheVariants.{Sent}
use Rattle.mc_journal.specs.declared.record.DemuxRecord.{DemuxRecord}
use Rattle.mc_journal.specs.declared.record.DemuxRecord.TheVariants.{Sought, Switched, Found, Fed, Failed, Starved, Gave, Ended, Overfull, Faulted, Wanting, Shown, Refused}
use Rattle.mc_journal.specs.Callers.{by_of, demuxer, reader}
use Rattle.mc_journal.specs.Films.{Film, at, rank}
use Rattle.mc_journal.specs.Readings.{selected, follows, target, direction, failed}
use Rattle.mc_journal.specs.Views.{is_idle, next, time_of}
use Rattle.mc_journal.specs.Used.{can_end}

-- a journal with its newest record first
abbrev pub newest : List DemuxRecord → List DemuxRecord
newest h = reverse h

-- ---- what is read off a journal

pub record Readings : Type 0 where
  -- the place of the packet at a track's head
  pub front : List DemuxRecord → ℕ → Option ℕ
  -- a read of the track would tell its end or a failure
  pub tells : List DemuxRecord → ℕ → Bool
  -- the demuxer has nothing to do
  pub idle : List DemuxRecord → Bool
  -- the time that a look shows, or 0
  pub time : List DemuxRecord → ℤ
  -- the choice that these numbers make over the film's tracks, or its refusal
  pub choice : List ℕ → Result Choice Why

-- a selected track has no packet at its head, and its end can be told, or a read failed
abbrev pub can_tell : Film → List DemuxRecord → ℕ → Bool
can_tell film h track = has (selected h) track && (not (is_some (next film.packets h track)) && (can_end film.packets h track || failed h))

-- of a film, under these limits
abbrev pub readings : Film → Limits → (List ℕ → Result Choice Why) → Readings
readings film limits choice = record {
  front = λ h track. option_map at (next film.packets (newest h) track);
  tells = λ h track. can_tell film (newest h) track;
  idle = λ h. is_idle film.packets limits (newest h);
  time = λ h. unwrap_or (time_of (lead_of (selected (newest h))) (newest h)) (pos 0);
  choice = choice;
}

abbrev pub selection : List DemuxRecord → Choice
selection h = selected (newest h)

-- ---- records of one sort

-- what a turn of the demuxer brought
abbrev pub is_outcome : DemuxRecord → Bool
is_outcome (Found by starts) = true
is_outcome (Fed by from to took ending) = true
is_outcome (Failed by before after) = true
is_outcome (Starved by) = true
is_outcome _ = false

abbrev pub outcomes : List DemuxRecord → ℕ
outcomes part = count_by is_outcome part

-- a seek or a switch: a job that was taken before is stale
abbrev pub is_order : DemuxRecord → Bool
is_order (Sought by set t dir how) = true
is_order (Switched by set added t) = true
is_order _ = false

abbrev pub is_gave : DemuxRecord → Bool
is_gave (Gave by track place time len sum sync key) = true
is_gave _ = false

abbrev pub gaves : List DemuxRecord → ℕ
gaves part = count_by is_gave part

-- an answer of a read that is no packet
abbrev pub is_answer : DemuxRecord → Bool
is_answer (Ended by track ending) = true
is_answer (Overfull by track forward max) = true
is_answer (Faulted by track before after) = true
is_answer (Wanting by track) = true
is_answer _ = false

-- it tells the reader of this number the end of this track, or a failure
abbrev pub tells_reader : ℕ → ℕ → DemuxRecord → Bool
tells_reader n k (Ended by track ending) = by == n && track == k
tells_reader n k (Faulted by track before after) = by == n && track == k
tells_reader n k (Wanting by track) = by == n && track == k
tells_reader n k _ = false

-- ---- each record in its place

-- each record may stand behind those before it
abbrev pub Each : (List DemuxRecord → DemuxRecord → Type 0) → List DemuxRecord → List DemuxRecord → Type 0
Each May a [] = ⊤
Each May a (r ∷ rs) = May a r × Each May (a ++ r ∷ []) rs

-- the last record bears the number
abbrev pub EndsUnder : ℕ → List DemuxRecord → Type 0
EndsUnder by [] = ⊥
EndsUnder by (r ∷ []) = by ≡ by_of r
EndsUnder by (r ∷ q ∷ rs) = EndsUnder by (q ∷ rs)

-- ---- seek, switch, show

-- one seek of the selected tracks by this caller, or where there is none its refusal
abbrev pub SeekLeaves : ℕ → ℤ → Dir → List DemuxRecord → List DemuxRecord → DemuxRecord → Type 0
SeekLeaves n t dir before a (Sought by set time way how) =
    (a ≡ []) × (by ≡ n) × (time ≡ t) × (way ≡ dir) × (set ≡ selection before) × (is_empty set ≡ false)
SeekLeaves n t dir before a (Refused by why) = (a ≡ []) × (by ≡ n) × (why ≡ NoTrack) × (is_empty (selection before) ≡ true)
SeekLeaves n t dir before a _ = ⊥

-- a seek that was pending is sent again, of the tracks that were switched to
pub record IsRepeated (h : List DemuxRecord) (set : Choice) (t : ℤ) (dir : Dir) : Type 0 where
  pub due : follows (newest h) ≡ true
  pub tracks : set ≡ selection h
  pub time : target (newest h) ≡ Some t
  pub way : dir ≡ direction (newest h)

-- one switch by this caller to the choice of the numbers, and a pending seek again; or the choice's refusal
abbrev pub SwitchLeaves : ℕ → Readings → List ℕ → Option ℤ → List DemuxRecord → List DemuxRecord → DemuxRecord → Type 0
SwitchLeaves n rd numbers time before a (Switched by set added t) =
    (a ≡ []) × (by ≡ n) × (t ≡ unwrap_or time (rd.time before)) × (rd.choice numbers ≡ Ok set)
SwitchLeaves n rd numbers time before a (Sought by set t dir how) = (by ≡ n) × (how ≡ Sent) × IsRepeated (before ++ a) set t dir
SwitchLeaves n rd numbers time before a (Refused by why) = (a ≡ []) × (by ≡ n) × (rd.choice numbers ≡ Err why)
SwitchLeaves n rd numbers time before a _ = ⊥

-- one look at the cache by this caller
abbrev pub ShowLeaves : ℕ → List DemuxRecord → DemuxRecord → Type 0
ShowLeaves n a (Shown by view) = (a ≡ []) × (by ≡ n)
ShowLeaves n a _ = ⊥

-- ---- demux

-- an outcome of the demuxer, of so many at most
abbrev pub TurnsLeave : ℕ → List DemuxRecord → DemuxRecord → Type 0
TurnsLeave n a (Found by starts) = (by ≡ demuxer) × (outcomes a < n)
TurnsLeave n a (Fed by from to took ending) = (by ≡ demuxer) × (outcomes a < n)
TurnsLeave n a (Failed by before after) = (by ≡ demuxer) × (outcomes a < n)
TurnsLeave n a (Starved by) = (by ≡ demuxer) × (outcomes a < n)
TurnsLeave n a _ = ⊥

-- a job that was taken at this journal leaves nothing where it is brought: a seek or a switch stands between, or the demuxer was
-- idle there; nor does one that was not taken
abbrev pub gives_none : Readings → List DemuxRecord → Option (List DemuxRecord) → Bool
gives_none rd before None = true
gives_none rd before (Some taken) = list_any is_order (drop (length taken) before) || rd.idle taken

-- ---- read

-- the read is of the kind's selected track, fewer than so many packets were given, and no other answer
pub record Asks (kind : Kind) (n : ℕ) (before a : List DemuxRecord) (by k : ℕ) : Type 0 where
  pub under : by ≡ reader kind
  pub track : track_of (selection before) kind ≡ Some k
  pub fewer : gaves a < n
  pub on : list_any is_answer a ≡ false

-- the packet at the head, or an answer where there is none
abbrev pub ReadLeaves : Readings → Kind → ℕ → List DemuxRecord → List DemuxRecord → DemuxRecord → Type 0
ReadLeaves rd kind n before a (Gave by k place time len sum sync key) = Asks kind n before a by k × (rd.front (before ++ a) k ≡ Some (rank place))
ReadLeaves rd kind n before a (Ended by k ending) = Asks kind n before a by k × (rd.front (before ++ a) k ≡ None)
ReadLeaves rd kind n before a (Overfull by k forward max) = Asks kind n before a by k × (rd.front (before ++ a) k ≡ None)
ReadLeaves rd kind n before a (Faulted by k faults faults') = Asks kind n before a by k × (rd.front (before ++ a) k ≡ None)
ReadLeaves rd kind n before a (Wanting by k) = Asks kind n before a by k × (rd.front (before ++ a) k ≡ None)
ReadLeaves rd kind n before a _ = ⊥

-- ---- drain

-- what a drain does next: a packet is given, an end or a failure is told, or the demuxer turns
pub data Step : Type 0 where
  give : Kind → ℕ → Step
  tell : Kind → ℕ → Step
  turn : Step

abbrev pub OfEach : Choice → (ℕ → Type 0) → Type 0
OfEach set P = IfSome set.video P × IfSome set.audio P × IfSome set.sub P

-- of the tracks that are left, the packet at the least head; where there is none, the track of the least number whose end or
-- failure can be told; else a turn
abbrev pub IsNextStep : Readings → List DemuxRecord → Choice → Step → Type 0
IsNextStep rd h left (give kind k) = (track_of left kind ≡ Some k)
    × ((place : ℕ) × (rd.front h k ≡ Some place) × OfEach left (λ j. IfSome (rd.front h j) (λ other. place ≤ other)))
IsNextStep rd h left (tell kind k) = (track_of left kind ≡ Some k) × OfEach left (λ j. rd.front h j ≡ None)
    × (rd.tells h k ≡ true) × OfEach left (λ j. rd.tells h j ≡ true → k ≤ j)
IsNextStep rd h left turn = OfEach left (λ j. rd.front h j ≡ None) × OfEach left (λ j. rd.tells h j ≡ false)

abbrev pub IsTold : Readings → List DemuxRecord → Choice → ℕ → ℕ → Type 0
IsTold rd h left by k = (kind : Kind) × (by ≡ reader kind) × IsNextStep rd h left (tell kind k)

abbrev pub DrainLeaves : Readings → List DemuxRecord → Choice → DemuxRecord → Type 0
DrainLeaves rd h left (Gave by k place time len sum sync key) = (kind : Kind) × (by ≡ reader kind) × (rd.front h k ≡ Some (rank place)) × IsNextStep rd h left (give kind k)
DrainLeaves rd h left (Ended by k ending) = IsTold rd h left by k
DrainLeaves rd h left (Faulted by k faults faults') = IsTold rd h left by k
DrainLeaves rd h left (Wanting by k) = IsTold rd h left by k
DrainLeaves rd h left (Found by starts) = (by ≡ demuxer) × IsNextStep rd h left turn
DrainLeaves rd h left (Fed by from to took ending) = (by ≡ demuxer) × IsNextStep rd h left turn
DrainLeaves rd h left (Failed by faults faults') = (by ≡ demuxer) × IsNextStep rd h left turn
DrainLeaves rd h left (Starved by) = (by ≡ demuxer) × IsNextStep rd h left turn
DrainLeaves rd h left _ = ⊥

abbrev pub still_left : Kind → List DemuxRecord → Option ℕ → Option ℕ
still_left kind part None = None
still_left kind part (Some k) = if list_any (tells_reader (reader kind) k) part then None else Some k

-- the tracks whose readers were told no end and no failure
abbrev pub untold : Choice → List DemuxRecord → Choice
untold set part = record { video = still_left Video part set.video; audio = still_left Audio part set.audio; sub = still_left Sub part set.sub }
