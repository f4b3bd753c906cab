-- What the next job rests on besides ranges, heads and what is awaited, as a journal, newest record first, tells it.
use Rattle.std.specs.Prelude.{◌≡◌, ℕ, ◌+◌, ◌==◌, Bool, false, if◌then◌else◌, List, [], ◌∷◌, Option, Some, None, pos}
use Rattle.mc_packet.specs.declared.walk.Mark.{Mark}
use Rattle.mc_journal.specs.declared.record.DemuxRecord.{DemuxRecord}
use Rattle.mc_journal.specs.declared.record.DemuxRecord.TheVariants.{Opened, Sought, Switched, Found, Fed, Failed, Starved}
use Rattle.mc_packet.specs.Choices.{lead_of}
use Rattle.mc_journal.specs.Readings.{follows}
use Rattle.mc_cache.specs.Cache.{CacheState, mark_in}
use Rattle.mc_calls.specs.declared.waiting.Switch.{Switch}
use Rattle.mc_calls.specs.Marks.{AreAmong}
use Rattle.mc_calls.specs.Opening.{opening}

-- ---- readings

abbrev pub no_switch : Switch
no_switch = record { lead = None; at = pos 0 }

-- the lead and the time of the last switch; none and 0 before any
abbrev pub last_switch : List DemuxRecord → Switch
last_switch [] = no_switch
last_switch (Opened by set ∷ h) = no_switch
last_switch (Switched by set added t ∷ h) = record { lead = lead_of set; at = t }
last_switch (_ ∷ h) = last_switch h

-- the number that the next job bears: 1 behind the opening, and one more behind each seek, switch and outcome. A seek that
-- repeats a pending one belongs to its switch
abbrev pub number_of : List DemuxRecord → ℕ
number_of [] = 0
number_of (Opened by set ∷ h) = 1
number_of (Sought by set t dir how ∷ h) = if follows h then number_of h else number_of h + 1
number_of (Switched by set added t ∷ h) = number_of h + 1
number_of (Found by starts ∷ h) = number_of h + 1
number_of (Fed by from to took ending ∷ h) = number_of h + 1
number_of (Failed by before after ∷ h) = number_of h + 1
number_of (Starved by ∷ h) = number_of h + 1
number_of (_ ∷ h) = number_of h

-- the place up to which the last part of the film was read; none where a seek, a switch or another outcome came since then
abbrev pub read_upto : List DemuxRecord → Option ℕ
read_upto [] = None
read_upto (Opened by set ∷ h) = None
read_upto (Sought by set t dir how ∷ h) = None
read_upto (Switched by set added t ∷ h) = None
read_upto (Found by starts ∷ h) = None
read_upto (Fed by from to took ending ∷ h) = Some to.pos
read_upto (Failed by before after ∷ h) = None
read_upto (Starved by ∷ h) = None
read_upto (_ ∷ h) = read_upto h

-- the marks that it tells: the opening one, those of starts, and those up to which the film was read
abbrev pub told_marks : List DemuxRecord → List Mark
told_marks [] = []
told_marks (Opened by set ∷ h) = opening ∷ told_marks h
told_marks (Found by starts ∷ h) = starts.mark ∷ told_marks h
told_marks (Fed by from to took ending ∷ h) = to ∷ told_marks h
told_marks (_ ∷ h) = told_marks h

-- ---- a demuxer that remembers them

-- it is read on from that place
abbrev pub is_upto : Option ℕ → Option Mark → Bool
is_upto None mark = false
is_upto (Some place) None = false
is_upto (Some place) (Some m) = m.pos == place

-- the last selection and the number are those of the journal; it is read on behind the last part where that ended at the
-- current range's mark; and each range is read on from a mark that the journal tells
pub record IsTied (switch : Switch) (number : ℕ) (fed : Bool) (c : CacheState) (h : List DemuxRecord) : Type 0 where
  pub switch_is : switch ≡ last_switch h
  pub number_is : number ≡ number_of h
  pub fed_is : fed ≡ is_upto (read_upto h) (mark_in c.current)
  pub marks_are : AreAmong (told_marks h) c
