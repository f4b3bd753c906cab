-- Which record may come next in a journal, so far as what readers are given depends on it. A journal has its newest record
-- first, and these rules read off the records so far.
use Rattle.std.specs.Prelude.{◌≡◌, ℕ, ◌≤◌, ◌<◌, Bool, true, false, ◌||◌, not, List, [], ◌∷◌, Option, Some, None, ℤ, is_some, IfSome, IsSomeAnd, ⊤}
use Rattle.std.specs.Bool.{MatchBool}
use Rattle.std.specs.List.{AllByRecursion}
use Rattle.mc_packet.specs.declared.choice.Choice.{Choice}
use Rattle.mc_packet.specs.declared.choice.Starts.{Starts}
use Rattle.mc_packet.specs.declared.choice.Dir.{Dir}
use Rattle.mc_packet.specs.declared.walk.Ending.{Ending}
use Rattle.mc_journal.specs.declared.record.Cause.{Cause}
use Rattle.mc_journal.specs.declared.record.Cause.TheVariants.{Limit, TooMany, TrackChanged, Mismatch}
use Rattle.mc_journal.specs.declared.record.Sought.{Sought as How}
use Rattle.mc_journal.specs.declared.record.Sought.TheVariants.{Cached, Sent}
use Rattle.mc_journal.specs.declared.record.DemuxRecord.{DemuxRecord}
use Rattle.mc_journal.specs.declared.record.DemuxRecord.TheVariants.{Opened, Sought, Switched, Found, Fed, Failed, Starved, Dropped, Joined, Gave, Ended, Overfull, Faulted, Wanting, Shown, Refused}
use Rattle.mc_packet.specs.declared.packet.Packet.{Packet}
use Rattle.mc_packet.specs.Choices.{has, is_empty, is_known}
use Rattle.mc_journal.specs.Choices.{meets, some_of, kept_of, OnTrack}
use Rattle.mc_journal.specs.Told.{Told, told}
use Rattle.mc_journal.specs.Films.{Film, rank, IsRegular}
use Rattle.mc_journal.specs.Ranges.{Range, serves, touches}
use Rattle.mc_journal.specs.Readings.{selected, read_from, pending, waits, follows, target, direction, switcher, failed}
use Rattle.mc_journal.specs.Stands.{stand, ranges_of, first_that}
use Rattle.mc_journal.specs.Views.{head, next}

-- ---- a seek

abbrev pub how_by : Bool → How
how_by true = Cached
how_by false = Sent

-- a range that the journal leaves serves a seek of the set
abbrev pub is_served : List Packet → List DemuxRecord → Choice → Dir → ℤ → Bool
is_served ps h set dir t = is_some (first_that (serves ps set dir t) (ranges_of (stand ps h)))

-- it is of the selected tracks. Behind a switch that came while one was pending it is that one, sent again by the same
-- caller; else something is selected, and it is answered from the cache exactly where a range serves it
abbrev pub MaySeek : List Packet → List DemuxRecord → ℕ → Choice → ℤ → Dir → How → Type 0
MaySeek ps h by set t dir how = (set ≡ selected h) × MatchBool (follows h)
    ((how ≡ Sent) × (target h ≡ Some t) × (dir ≡ direction h) × (switcher h ≡ Some by))
    ((is_empty set ≡ false) × (how ≡ how_by (is_served ps h set dir t)))

-- ---- a selection

abbrev pub is_added : List DemuxRecord → ℕ → Bool
is_added h track = not (has (selected h) track) || waits track h

-- the tracks of a set that were not selected, or that wait
abbrev pub added_by : List DemuxRecord → Choice → Choice
added_by h set = kept_of set (is_added h)

-- it names tracks of the film, each under its kind, and is not the selection that stands
abbrev pub MaySwitch : Film → List DemuxRecord → Choice → Choice → Type 0
MaySwitch film h set added = (is_known film.known set ≡ true) × (added ≡ added_by h set) × (set ≡ selected h → ⊥)

-- ---- starts

-- for each track of the set, with the start that stands under its kind
abbrev pub EachStart : Choice → Starts → (ℕ → Option ℕ → Type 0) → Type 0
EachStart set starts P =
    OnTrack set.video (λ track. P track starts.video) × OnTrack set.audio (λ track. P track starts.audio) × OnTrack set.sub (λ track. P track starts.sub)

-- a track's start is to be found: each one's after a seek that was sent, else that of a track that waits
abbrev pub is_sought : List DemuxRecord → ℕ → Bool
is_sought h track = pending h || waits track h

-- a start stands under just those kinds whose selected track passes
abbrev pub StartsOf : Choice → (ℕ → Bool) → Starts → Type 0
StartsOf set test starts =
    (is_some starts.video ≡ meets set.video test) × (is_some starts.audio ≡ meets set.audio test) × (is_some starts.sub ≡ meets set.sub test)

-- starts are found for just these tracks; on a regular film each is the place from which the track is to be read. The
-- answered mark lies at or before each of them
pub record MayFind (film : Film) (h : List DemuxRecord) (starts : Starts) : Type 0 where
  pub sound : failed h ≡ false
  pub some : (pending h || some_of (selected h) (λ track. waits track h)) ≡ true
  pub tracks : StartsOf (selected h) (is_sought h) starts
  pub exact : IsRegular film.packets film.known → EachStart (selected h) starts (λ track start. IfSome start (λ block. block ≡ read_from film.packets track h))
  pub least : EachStart (selected h) starts (λ track start. IfSome start (λ block. starts.mark.pos ≤ block))

-- ---- a part of the film

-- it is read on from the current range's mark, where the ending is not cached yet; where the ending comes it is the film's,
-- and all packets lie before the new mark
pub record MayFeed (film : Film) (h : List DemuxRecord) (from to : ℕ) (ending : Option Ending) : Type 0 where
  pub sound : failed h ≡ false
  pub here : IsSomeAnd (stand film.packets h).current (λ r. (r.ending ≡ None) × (r.mark ≡ from))
  pub onward : from ≤ to
  pub ends : IfSome ending (λ e. (e ≡ film.ending) × AllByRecursion (λ p. p.pos.block < to) film.packets)

-- ---- a drop

abbrev pub Cuts : ℕ → ℕ → ℕ → Range → Type 0
Cuts track from to r = IsSomeAnd (r.spans track) (λ s. (s.from ≡ from) × (from ≤ to) × (to ≤ s.to))

abbrev pub MayCut : ℕ → ℕ → ℕ → ℕ → Option Range → List Range → Type 0
MayCut track from to place current [] = IsSomeAnd current (Cuts track from to) × (to ≤ place)
MayCut track from to place current (r ∷ []) = Cuts track from to r
MayCut track from to place current (r ∷ q ∷ rs) = MayCut track from to place current (q ∷ rs)

-- the limit cuts the last range that isn't current, else the current one, there at most up to the head. Ranges of one film
-- never differ
abbrev pub MayDrop : List Packet → List DemuxRecord → ℕ → ℕ → ℕ → Cause → Type 0
MayDrop ps h track from to (Limit back max) = MayCut track from to (head ps track h) (stand ps h).current (stand ps h).others
MayDrop ps h track from to (TooMany count) = ⊤
MayDrop ps h track from to TrackChanged = ⊤
MayDrop ps h track from to (Mismatch place ours other) = ⊥

-- ---- a join

abbrev pub touched : Choice → List Range → Option Range → Bool
touched set others None = false
touched set others (Some r) = is_some (first_that (touches set r) others)

-- another range touches the current one
abbrev pub joinable : List Packet → List DemuxRecord → Bool
joinable ps h = touched (selected h) (stand ps h).others (stand ps h).current

-- ---- a reader's answers

-- the packet at the head is given, and told as it is
abbrev pub MayGive : List Packet → List DemuxRecord → Told → Type 0
MayGive ps h t = (has (selected h) t.track ≡ true) × IsSomeAnd (next ps h t.track) (λ p. told p ≡ t)

-- an end is told where nothing is at the head, and the current range has its ending and a span of the track
abbrev pub MayEnd : List Packet → List DemuxRecord → ℕ → Ending → Type 0
MayEnd ps h track ending = (has (selected h) track ≡ true)
    × IsSomeAnd (stand ps h).current (λ r. (r.ending ≡ Some ending) × (is_some (r.spans track) ≡ true))
    × (next ps h track ≡ None)

-- another answer comes where nothing is at the head
abbrev pub MayWait : List Packet → List DemuxRecord → ℕ → Bool → Type 0
MayWait ps h track fault = (has (selected h) track ≡ true) × (next ps h track ≡ None) × (failed h ≡ fault)

-- ---- each record

abbrev pub May : Film → List DemuxRecord → DemuxRecord → Type 0
May film h (Opened by set) = (h ≡ []) × (is_known film.known set ≡ true)
May film h (Sought by set t dir how) = MaySeek film.packets h by set t dir how
May film h (Switched by set added t) = MaySwitch film h set added
May film h (Found by starts) = MayFind film h starts
May film h (Fed by from to took ending) = MayFeed film h from.pos to.pos ending
May film h (Failed by before after) = failed h ≡ false
May film h (Starved by) = failed h ≡ false
May film h (Dropped by removal) = MayDrop film.packets h removal.track (rank removal.from) (rank removal.to) removal.cause
May film h (Joined by) = joinable film.packets h ≡ true
May film h (Gave by track pos time len sum sync key) =
    MayGive film.packets h (record { track = track; pos = pos; time = time; len = len; sum = sum; sync = sync; key = key })
May film h (Ended by track ending) = MayEnd film.packets h track ending
May film h (Overfull by track bytes max) = MayWait film.packets h track false
May film h (Faulted by track before after) = MayWait film.packets h track true
May film h (Wanting by track) = MayWait film.packets h track true
May film h (Shown by view) = ⊤
May film h (Refused by why) = ⊤

-- every record of the journal may come after those before it
abbrev pub IsAllowed : Film → List DemuxRecord → Type 0
IsAllowed film [] = ⊤
IsAllowed film (r ∷ h) = May film h r × IsAllowed film h
