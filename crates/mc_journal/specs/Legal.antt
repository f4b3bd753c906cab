-- What a reader was given, against a fresh reading of the film: on a regular film, and on any.
use Rattle.std.specs.Prelude.{◌≡◌, ◌≢◌, ℕ, true, List, [], ◌∷◌, ◌++◌, map, ⊤}
use Rattle.mc_packet.specs.declared.walk.Ending.{Ending}
use Rattle.mc_journal.specs.declared.record.DemuxRecord.{DemuxRecord}
use Rattle.mc_journal.specs.declared.record.DemuxRecord.TheVariants.{Ended}
use Rattle.mc_packet.specs.declared.packet.Packet.{Packet}
use Rattle.mc_journal.specs.Told.{told}
use Rattle.mc_journal.specs.Films.{fresh, track_of}
use Rattle.mc_journal.specs.Readings.{selected, read_from, given}
use Rattle.mc_packet.specs.Choices.{has}

-- a list begins with another
abbrev pub IsFront : {X : Type 0} → List X → List X → Type 0
IsFront {X} xs ys = (rest : List X) × (xs ++ rest ≡ ys)

-- the track's whole reading from where it starts
abbrev pub reading : List Packet → ℕ → List DemuxRecord → List Packet
reading packets track h = fresh track (read_from packets track h) packets

-- each selected track's reader was given a front of its reading, as a record tells of packets
abbrev pub GaveFronts : List Packet → List DemuxRecord → Type 0
GaveFronts packets h = (track : ℕ) → has (selected h) track ≡ true → IsFront (given track h) (map told (reading packets track h))

-- a reader is told an end only of a selected track, once it was given all, and then the film's ending
abbrev pub EndsWell : List Packet → Ending → List DemuxRecord → Type 0
EndsWell packets ending (Ended by track e ∷ h) =
    (has (selected h) track ≡ true) × (given track h ≡ map told (reading packets track h)) × (e ≡ ending)
EndsWell packets ending _ = ⊤

-- so at every moment of the journal, the newest record first
abbrev pub IsLegal : List Packet → Ending → List DemuxRecord → Type 0
IsLegal packets ending [] = GaveFronts packets []
IsLegal packets ending (r ∷ h) = GaveFronts packets (r ∷ h) × EndsWell packets ending (r ∷ h) × IsLegal packets ending h

-- ---- on any film

-- packets that follow each other in a list with none between
abbrev pub IsRun : {X : Type 0} → List X → List X → Type 0
IsRun {X} xs ys = (before : List X) × (rest : List X) × (before ++ (xs ++ rest) ≡ ys)

-- a list ends with another
abbrev pub IsEnd : {X : Type 0} → List X → List X → Type 0
IsEnd {X} xs ys = (before : List X) × (before ++ xs ≡ ys)

-- each selected track's reader was given packets of its track with none left out between them
abbrev pub GaveRuns : List Packet → List DemuxRecord → Type 0
GaveRuns packets h = (track : ℕ) → has (selected h) track ≡ true → IsRun (given track h) (map told (track_of track packets))

-- a reader is told the film's ending, and, where it was given packets, only once no packet of its track comes behind them
abbrev pub EndsLast : List Packet → Ending → List DemuxRecord → Type 0
EndsLast packets ending (Ended by track e ∷ h) =
    (has (selected h) track ≡ true) × (given track h ≢ [] → IsEnd (given track h) (map told (track_of track packets))) × (e ≡ ending)
EndsLast packets ending _ = ⊤

-- so at every moment of the journal, the newest record first
abbrev pub IsGapless : List Packet → Ending → List DemuxRecord → Type 0
IsGapless packets ending [] = GaveRuns packets []
IsGapless packets ending (r ∷ h) = GaveRuns packets (r ∷ h) × EndsLast packets ending (r ∷ h) × IsGapless packets ending h
