-- Scripts and what they leave in a journal of the first worked film, worked out by hand.
use Rattle.std.specs.Prelude.{ℕ, List, [], ◌∷◌, ◌++◌, None, Err, pos}
use Rattle.mc_packet.specs.declared.choice.Dir.TheVariants.{Back}
use Rattle.mc_packet.specs.declared.choice.Kind.TheVariants.{Video, Audio}
use Rattle.mc_packet.specs.declared.choice.Why.TheVariants.{NoTrack, UnknownTrack}
use Rattle.mc_journal.specs.declared.record.DemuxRecord.{DemuxRecord}
use Rattle.mc_journal.specs.declared.record.DemuxRecord.TheVariants.{Opened, Refused}
use Rattle.mc_packet.specs.Choices.{nothing}
use Rattle.mc_journal.specs.WorkedFilms.{one, opening, c0, v86, a93}
use Rattle.mc_journal.specs.Worked.{audio, drain_0, drain_1, drain_2, read, seek, start, usual, video}
use Rattle.mc_script.specs.declared.acts.Act.{Act}
use Rattle.mc_script.specs.declared.acts.Act.TheVariants as acts
use Rattle.mc_journal.specs.Drives.{Readings, readings}

-- the first film, which has no track that a script names
abbrev pub on_one : Readings
on_one = readings one usual (λ numbers. Err (UnknownTrack 9))

-- demux take, seek 0.2, demux give: the job is stale, and nothing is left of it
abbrev pub stale : List (ℕ × Act)
stale = (1, acts.DemuxTake) ∷ (2, acts.Seek (pos 200000000) Back) ∷ (3, acts.DemuxGive) ∷ []

abbrev pub stale_left : List DemuxRecord
stale_left = seek (pos 200000000) ∷ []

-- demux take, demux give: the outcome of the job
abbrev pub halves : List (ℕ × Act)
halves = (1, acts.DemuxTake) ∷ (2, acts.DemuxGive) ∷ []

abbrev pub halves_left : List DemuxRecord
halves_left = read opening (c0 93) 1 ∷ []

-- demux 2, read video, read audio 2: two parts are read; video is given its first packet, audio its first and no second
abbrev pub reads : List (ℕ × Act)
reads = (1, acts.Demux 2) ∷ (2, acts.Read Video 1) ∷ (4, acts.Read Audio 2) ∷ []

abbrev pub two_parts : List DemuxRecord
two_parts = read opening (c0 93) 1 ∷ read (c0 93) (c0 100) 2 ∷ []

abbrev pub reads_left : List DemuxRecord
reads_left = two_parts ++ video v86 ∷ audio a93 ∷ []

-- switch 9, seek 0, drain where nothing is selected: two refusals, and nothing to read
abbrev pub refusals : List (ℕ × Act)
refusals = (1, acts.Switch (9 ∷ []) None) ∷ (2, acts.Seek (pos 0) Back) ∷ (3, acts.Drain) ∷ []

abbrev pub unselected : List DemuxRecord
unselected = Opened 0 nothing ∷ []

abbrev pub refusals_left : List DemuxRecord
refusals_left = Refused 0 (UnknownTrack 9) ∷ Refused 0 NoTrack ∷ []

-- drain where all packets are read and given: the ending is read, and then told to the readers by rising track
abbrev pub last_drain : List (ℕ × Act)
last_drain = (1, acts.Drain) ∷ []

abbrev pub all_given : List DemuxRecord
all_given = start ++ (drain_0 ++ (drain_1 ++ drain_2))

-- ---- what is not played

-- a seek that leaves nothing
abbrev pub seek_line : List (ℕ × Act)
seek_line = (1, acts.Seek (pos 200000000) Back) ∷ []

-- a part too many for demux 1
abbrev pub one_turn : List (ℕ × Act)
one_turn = (1, acts.Demux 1) ∷ []
