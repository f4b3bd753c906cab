-- A journal whose every record stands in its place: besides what may come next, the numbers that each record tells, the
-- drops that are due, the joins that have to come, and in which order.
use Rattle.std.specs.Prelude.{◌≡◌, ℕ, ◌≤◌, ◌<◌, min, nat_le, nat_lt, Bool, true, false, ◌&&◌, ◌||◌, not, if◌then◌else◌, List, [], ◌∷◌, ◌++◌, Option, Some, None, is_some, IsSomeAnd, ⊤, drop}
use Rattle.std.specs.List.{filter}
use Rattle.std.specs.Option.{option_map_or}
use Rattle.mc_packet.specs.declared.choice.Choice.{Choice}
use Rattle.mc_packet.specs.declared.choice.Starts.{Starts}
use Rattle.mc_packet.specs.declared.choice.Why.{Why}
use Rattle.mc_packet.specs.declared.choice.Why.TheVariants.{NoTrack}
use Rattle.mc_packet.specs.declared.cache.Limits.{Limits}
use Rattle.mc_journal.specs.declared.record.Cause.{Cause}
use Rattle.mc_journal.specs.declared.record.Cause.TheVariants.{Limit, TooMany, TrackChanged}
use Rattle.mc_journal.specs.declared.record.DemuxRecord.{DemuxRecord}
use Rattle.mc_journal.specs.declared.record.DemuxRecord.TheVariants.{Opened, Sought, Switched, Found, Fed, Failed, Starved, Dropped, Joined, Overfull, Faulted, Wanting, Shown, Refused}
use Rattle.mc_packet.specs.declared.packet.Packet.{Packet}
use Rattle.mc_packet.specs.Choices.{or_else, has, is_empty}
use Rattle.mc_journal.specs.Choices.{kept_of}
use Rattle.mc_journal.specs.Films.{Film, at, rank, first_lane, first, track_of, IsRegular}
use Rattle.mc_journal.specs.Ranges.{Span, Range, held, within}
use Rattle.mc_journal.specs.Readings.{selected, follows, last_fault}
use Rattle.mc_journal.specs.Stands.{Stand, stand, grown}
use Rattle.mc_journal.specs.Views.{head, forward, back, view}
use Rattle.mc_journal.specs.Allowed.{joinable, May}

-- ---- the cut that a limit asks for

-- the first packet of a track that may be cut: in the current range one before the head
abbrev pub cuttable : Option ℕ → List Packet → Option Packet
cuttable None ps = first ps
cuttable (Some place) [] = None
cuttable (Some place) (p ∷ ps) = if nat_lt (at p) place then Some p else None

abbrev pub earlier : Option Packet → Option Packet → Option Packet
earlier None q = q
earlier (Some p) None = Some p
earlier (Some p) (Some q) = if nat_le (at p) (at q) then Some p else Some q

abbrev pub cut_first : List Packet → (ℕ → Option ℕ) → Range → Option ℕ → Option Packet
cut_first ps upto r None = None
cut_first ps upto r (Some track) = cuttable (upto track) (held r ps track)

-- the least of the tracks' first packets
abbrev pub victim : List Packet → Choice → (ℕ → Option ℕ) → Range → Option Packet
victim ps set upto r = earlier (cut_first ps upto r set.video) (earlier (cut_first ps upto r set.audio) (cut_first ps upto r set.sub))

abbrev pub at_most : Option ℕ → ℕ → ℕ
at_most None n = n
at_most (Some m) n = min m n

-- the next sync point after the first packet, else the end of the span
abbrev pub next_sync : ℕ → List Packet → ℕ
next_sync to [] = to
next_sync to (p ∷ ps) = option_map_or at (first (filter (λ q. q.sync) ps)) to

-- the track and the places are those of the cut
abbrev pub IsCut : List Packet → Choice → (ℕ → Option ℕ) → ℕ → ℕ → ℕ → Range → Type 0
IsCut ps set upto track from to r =
    IsSomeAnd (victim ps set upto r) (λ p. p.track ≡ track)
    × IsSomeAnd (r.spans track) (λ s. (from ≡ s.from) × (to ≡ at_most (upto track) (next_sync s.to (held r ps track))))

-- in the last range that isn't current, else in the current one, up to the head at most
abbrev pub CutsIn : List Packet → Choice → (ℕ → ℕ) → ℕ → ℕ → ℕ → Option Range → List Range → Type 0
CutsIn ps set place track from to current [] = IsSomeAnd current (IsCut ps set (λ k. Some (place k)) track from to)
CutsIn ps set place track from to current (r ∷ []) = IsCut ps set (λ k. None) track from to r
CutsIn ps set place track from to current (r ∷ q ∷ rs) = CutsIn ps set place track from to current (q ∷ rs)

-- ---- the drops that a selection or an eleventh range leaves to be told

pub record Due : Type 0 where
  pub track : ℕ
  pub from : ℕ
  pub to : ℕ
  pub cause : Cause

abbrev pub due_span : Cause → ℕ → Option Span → Bool → List Due
due_span cause track None some = []
due_span cause track (Some s) some = if some then record { track = track; from = s.from; to = s.to; cause = cause } ∷ [] else []

abbrev pub due_track : Cause → List Packet → Range → Option ℕ → List Due
due_track cause ps r None = []
due_track cause ps r (Some track) = due_span cause track (r.spans track) (is_some (first (held r ps track)))

abbrev pub put_in : Due → List Due → List Due
put_in d [] = d ∷ []
put_in d (e ∷ es) = if nat_le d.track e.track then d ∷ e ∷ es else e ∷ put_in d es

abbrev pub put_all : List Due → List Due → List Due
put_all [] es = es
put_all (d ∷ ds) es = put_in d (put_all ds es)

-- the spans of a range that hold packets, by rising track
abbrev pub due_range : Cause → List Packet → Choice → Range → List Due
due_range cause ps set r = put_all (due_track cause ps r set.video) (put_all (due_track cause ps r set.audio) (due_track cause ps r set.sub))

abbrev pub due_ranges : Cause → List Packet → Choice → List Range → List Due
due_ranges cause ps set [] = []
due_ranges cause ps set (r ∷ rs) = due_range cause ps set r ++ due_ranges cause ps set rs

-- of the current range the tracks that the new set lacks, then all other ranges
abbrev pub due_switch : List Packet → Choice → Choice → Stand → List Due
due_switch ps old new st =
    option_map_or (due_range TrackChanged ps (kept_of old (λ track. not (has new track)))) st.current [] ++ due_ranges TrackChanged ps old st.others

-- beside a new current range the tenth of the others
abbrev pub due_found : List Packet → Choice → Stand → List Due
due_found ps set st = option_map_or (λ r. []) st.current (due_ranges (TooMany 11) ps set (drop 9 st.others))

abbrev pub due : List Packet → List DemuxRecord → List Due
due ps [] = []
due ps (Switched by set added t ∷ h) = due_switch ps (selected h) set (stand ps h)
due ps (Sought by set t dir how ∷ h) = if follows h then due ps h else []
due ps (Found by starts ∷ h) = due_found ps (selected h) (stand ps h)
due ps (Dropped by removal ∷ h) = drop 1 (due ps h)
due ps (_ ∷ h) = []

-- the next drop that is due
abbrev pub IsDue : List Due → ℕ → ℕ → ℕ → Cause → Type 0
IsDue [] track from to cause = ⊥
IsDue (d ∷ ds) track from to cause = (d.track ≡ track) × (d.from ≡ from) × (d.to ≡ to) × (d.cause ≡ cause)

-- ---- what comes next

abbrev pub is_too_many : Cause → Bool
is_too_many (TooMany count) = true
is_too_many _ = false

-- joins come directly behind starts and parts, and behind the drops of an eleventh range
abbrev pub joins_now : List DemuxRecord → Bool
joins_now (Found by starts ∷ h) = true
joins_now (Fed by from to took ending ∷ h) = true
joins_now (Joined by ∷ h) = true
joins_now (Dropped by removal ∷ h) = is_too_many removal.cause && joins_now h
joins_now _ = false

abbrev pub is_begun : List DemuxRecord → Bool
is_begun [] = false
is_begun (r ∷ h) = true

abbrev pub are_told : List Due → Bool
are_told [] = true
are_told (d ∷ ds) = false

-- the journal is begun, no seek has to be sent again, no drop is due, and no join has to come
abbrev pub is_still : List Packet → List DemuxRecord → Bool
is_still ps h = is_begun h && (not (follows h) && (are_told (due ps h) && not (joins_now h && joinable ps h)))

abbrev pub is_dropped_in_turn : List Packet → List DemuxRecord → Cause → Bool
is_dropped_in_turn ps h (Limit bytes max) = is_still ps h
is_dropped_in_turn ps h _ = not (follows h)

-- a seek that repeats a pending one comes first, then the drops that are due, then the joins, then anything else
abbrev pub is_in_turn : List Packet → List DemuxRecord → DemuxRecord → Bool
is_in_turn ps h (Opened by set) = true
is_in_turn ps h (Sought by set t dir how) = follows h || is_still ps h
is_in_turn ps h (Dropped by removal) = is_dropped_in_turn ps h removal.cause
is_in_turn ps h (Joined by) = are_told (due ps h) && joins_now h
is_in_turn ps h _ = is_still ps h

-- ---- what a record tells

-- the current range has its ending and a span of the track, so that its end can be told
abbrev pub ends_in : ℕ → Option Range → Bool
ends_in track None = false
ends_in track (Some r) = is_some r.ending && is_some (r.spans track)

abbrev pub can_end : List Packet → List DemuxRecord → ℕ → Bool
can_end ps h track = ends_in track (stand ps h).current

-- a span that is read on to a block gains a packet
abbrev pub gains : List Packet → ℕ → ℕ → Option Span → Bool
gains ps block track None = false
gains ps block track (Some s) = is_some (first (within s.to (grown (first_lane block) s).to (track_of track ps)))

abbrev pub gains_in : List Packet → ℕ → Option Range → ℕ → Bool
gains_in ps block None track = false
gains_in ps block (Some r) track = gains ps block track (r.spans track)

abbrev pub any_track : Choice → Option ℕ
any_track set = or_else set.video (or_else set.audio set.sub)

-- the selected track that takes packets of a part up to a block, or none
abbrev pub taker : List Packet → List DemuxRecord → ℕ → Option ℕ
taker ps h block = any_track (kept_of (selected h) (gains_in ps block (stand ps h).current))

abbrev pub TellsDrop : List Packet → Limits → List DemuxRecord → ℕ → ℕ → ℕ → Cause → Type 0
TellsDrop ps limits h track from to (Limit bytes max) = (bytes ≡ back ps h) × (max ≡ limits.back) × (max < bytes)
    × CutsIn ps (selected h) (λ k. head ps k h) track from to (stand ps h).current (stand ps h).others
TellsDrop ps limits h track from to cause = IsDue (due ps h) track from to cause

abbrev pub least_start : Option ℕ → Option ℕ → Option ℕ
least_start None b = b
least_start (Some a) None = Some a
least_start (Some a) (Some b) = Some (min a b)

-- the place of the least start, or 0 without any
abbrev pub place_of_starts : Starts → ℕ
place_of_starts starts = option_map_or (λ block. block) (least_start starts.video (least_start starts.audio starts.sub)) 0

-- the fault that a reader is told is the last one
abbrev pub IsFailure : Option DemuxRecord → ℕ → ℕ → Type 0
IsFailure (Some (Failed by b a)) before after = (b ≡ before) × (a ≡ after)
IsFailure _ before after = ⊥

abbrev pub IsWant : Option DemuxRecord → Type 0
IsWant (Some (Starved by)) = ⊤
IsWant _ = ⊥

abbrev pub TellsWhy : List DemuxRecord → Why → Type 0
TellsWhy h NoTrack = is_empty (selected h) ≡ true
TellsWhy h _ = ⊤

-- the numbers, tracks, places and marks of a record
abbrev pub Tells : Film → Limits → List DemuxRecord → DemuxRecord → Type 0
Tells film limits h (Found by starts) = IsRegular film.packets film.known → starts.mark ≡ film.mark_at (place_of_starts starts)
Tells film limits h (Fed by from to took ending) = (film.part from ≡ record { to = to; ending = ending }) × (took ≡ taker film.packets h to.pos)
Tells film limits h (Dropped by removal) = TellsDrop film.packets limits h removal.track (rank removal.from) (rank removal.to) removal.cause
Tells film limits h (Overfull by track bytes max) = (bytes ≡ forward film.packets h) × (max ≡ limits.forward) × (max ≤ bytes) × (can_end film.packets h track ≡ false)
Tells film limits h (Faulted by track before after) = IsFailure (last_fault h) before after × (can_end film.packets h track ≡ false)
Tells film limits h (Wanting by track) = IsWant (last_fault h) × (can_end film.packets h track ≡ false)
Tells film limits h (Shown by shown) = shown ≡ view film.packets h
Tells film limits h (Refused by why) = TellsWhy h why
Tells film limits h _ = ⊤

-- the record may come next, in its turn, and tells what is so
abbrev pub IsNext : Film → Limits → List DemuxRecord → DemuxRecord → Type 0
IsNext film limits h r = May film h r × (is_in_turn film.packets h r ≡ true) × Tells film limits h r

-- every record stands in its place, the newest first
abbrev pub IsUsed : Film → Limits → List DemuxRecord → Type 0
IsUsed film limits [] = ⊤
IsUsed film limits (r ∷ h) = IsNext film limits h r × IsUsed film limits h

-- ---- a part of a journal, the oldest record first

-- records added one by one in front of a journal
abbrev pub onto : List DemuxRecord → List DemuxRecord → List DemuxRecord
onto [] h = h
onto (r ∷ rs) h = onto rs (r ∷ h)

-- each of them stands in its place behind the journal and those before it
abbrev pub AreNext : Film → Limits → List DemuxRecord → List DemuxRecord → Type 0
AreNext film limits h [] = ⊤
AreNext film limits h (r ∷ rs) = IsNext film limits h r × AreNext film limits (r ∷ h) rs
