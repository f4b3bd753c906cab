-- What a journal says of each track. Here a journal has its newest record first.
use Rattle.std.specs.Prelude.{ℕ, ◌==◌, Bool, true, false, ◌&&◌, not, if◌then◌else◌, List, [], ◌∷◌, ◌++◌, Option, Some, None, ℤ, is_some}
use Rattle.mc_packet.specs.declared.choice.Choice.{Choice}
use Rattle.mc_packet.specs.declared.choice.Dir.{Dir}
use Rattle.mc_packet.specs.declared.choice.Dir.TheVariants.{Back}
use Rattle.mc_journal.specs.declared.record.Sought.TheVariants.{Cached, Sent}
use Rattle.mc_journal.specs.declared.record.DemuxRecord.{DemuxRecord}
use Rattle.mc_journal.specs.declared.record.DemuxRecord.TheVariants.{Opened, Sought, Switched, Found, Failed, Starved, Gave, Refused}
use Rattle.mc_packet.specs.declared.packet.Packet.{Packet}
use Rattle.mc_packet.specs.Choices.{has, lead_of, nothing}
use Rattle.mc_journal.specs.Told.{Told}
use Rattle.mc_journal.specs.Films.{start_of, switch_start}

-- the selected tracks
abbrev pub selected : List DemuxRecord → Choice
selected [] = nothing
selected (Opened by set ∷ h) = set
selected (Sought by set t dir how ∷ h) = set
selected (Switched by set added t ∷ h) = set
selected (_ ∷ h) = selected h

-- the offset of the block from which a selected track is read: 0 after the opening, the start of the last seek over the whole film,
-- or that of the switch that added the track
abbrev pub read_from : List Packet → ℕ → List DemuxRecord → ℕ
read_from ps track [] = 0
read_from ps track (Opened by set ∷ h) = 0
read_from ps track (Sought by set t dir how ∷ h) = if has set track then start_of ps set dir t track else read_from ps track h
read_from ps track (Switched by set added t ∷ h) = if has added track then switch_start ps (lead_of set) added t track else read_from ps track h
read_from ps track (_ ∷ h) = read_from ps track h

-- what a selected track's reader was given since then, in order, as it is told
abbrev pub given : ℕ → List DemuxRecord → List Told
given track [] = []
given track (Opened by set ∷ h) = []
given track (Sought by set t dir how ∷ h) = if has set track then [] else given track h
given track (Switched by set added t ∷ h) = if has added track then [] else given track h
given track (Gave by n pos time len sum sync key ∷ h) =
    if n == track then given track h ++ record { track = n; pos = pos; time = time; len = len; sum = sum; sync = sync; key = key } ∷ [] else given track h
given track (_ ∷ h) = given track h

-- a seek was sent, and its starts are not found yet
abbrev pub pending : List DemuxRecord → Bool
pending [] = false
pending (Opened by set ∷ h) = false
pending (Sought by set t dir Cached ∷ h) = false
pending (Sought by set t dir Sent ∷ h) = true
pending (Found by starts ∷ h) = false
pending (_ ∷ h) = pending h

-- a track was added by a switch, and its start is not found yet
abbrev pub waits : ℕ → List DemuxRecord → Bool
waits track [] = false
waits track (Opened by set ∷ h) = false
waits track (Sought by set t dir how ∷ h) = if has set track then false else waits track h
waits track (Switched by set added t ∷ h) = if has added track then true else waits track h
waits track (Found by starts ∷ h) = false
waits track (_ ∷ h) = waits track h

-- a switch came while a seek was pending: the next record is the seek that repeats it, of the new set
abbrev pub follows : List DemuxRecord → Bool
follows (Switched by set added t ∷ h) = pending h
follows _ = false

-- the target of the last seek, if there was one
abbrev pub target : List DemuxRecord → Option ℤ
target [] = None
target (Opened by set ∷ h) = None
target (Sought by set t dir how ∷ h) = Some t
target (_ ∷ h) = target h

-- its direction
abbrev pub direction : List DemuxRecord → Dir
direction [] = Back
direction (Sought by set t dir how ∷ h) = dir
direction (_ ∷ h) = direction h

-- the caller of the newest switch
abbrev pub switcher : List DemuxRecord → Option ℕ
switcher (Switched by set added t ∷ h) = Some by
switcher _ = None

-- the last failed read, or want of memory, since the last opening, seek or switch
abbrev pub last_fault : List DemuxRecord → Option DemuxRecord
last_fault [] = None
last_fault (Opened by set ∷ h) = None
last_fault (Sought by set t dir how ∷ h) = None
last_fault (Switched by set added t ∷ h) = None
last_fault (Failed by before after ∷ h) = Some (Failed by before after)
last_fault (Starved by ∷ h) = Some (Starved by)
last_fault (_ ∷ h) = last_fault h

abbrev pub failed : List DemuxRecord → Bool
failed h = is_some (last_fault h)

-- ---- what one caller asked

-- a seek that repeats a pending one belongs to its switch
abbrev pub is_asked : ℕ → List DemuxRecord → DemuxRecord → Bool
is_asked n h (Sought by set t dir how) = by == n && not (follows h)
is_asked n h (Switched by set added t) = by == n
is_asked n h (Refused by why) = by == n
is_asked n h _ = false

-- the seeks, selections and refusals of a caller, the newest first
abbrev pub asked : ℕ → List DemuxRecord → List DemuxRecord
asked n [] = []
asked n (r ∷ h) = if is_asked n h r then r ∷ asked n h else asked n h
