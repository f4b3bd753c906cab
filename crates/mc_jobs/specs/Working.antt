-- What the job of a demuxer came to.
use Rattle.std.specs.Prelude.{◌≡◌, ℕ, ◌≤◌, List, ◌∷◌, Option, Result, Ok, Err, IfSome, ℤ, ⊤}
use Rattle.mc_packet.specs.Shape.{HasShape}
use Rattle.mc_packet.specs.declared.choice.Choice.{Choice}
use Rattle.mc_packet.specs.declared.choice.Dir.{Dir}
use Rattle.mc_packet.specs.declared.walk.Mark.{Mark}
use Rattle.mc_walk.specs.declared.plan.Plan.{Plan}
use Rattle.mc_walk.specs.Parts.{chunk_at}
use Rattle.mc_journal.specs.Films.{Film}
use Rattle.mc_index.specs.Answers.{AreOfBlocks, SeekStarts, SwitchStarts}
use Rattle.mc_calls.specs.declared.answer.DemuxError.{DemuxError}
use Rattle.mc_calls.specs.declared.answer.Taken.{Taken}
use Rattle.mc_calls.specs.declared.waiting.Failure.TheVariants as failures
use Rattle.mc_calls.specs.Film.{AreStartsOf, IsPartOf, failure_record}
use Rattle.mc_calls.specs.Outcomes.{AreStartsFor, BringsStarts, BringsPart, BringsFailure, HasRisen, Finds, Feeds, Fails}
use Rattle.mc_calls.specs.State.{DemuxState}
use Rattle.mc_jobs.specs.declared.brought.Brought.{Brought}
use Rattle.mc_jobs.specs.declared.brought.Brought.TheVariants.{Chunk, Starts, Failed, Starved}

-- ---- what was read, whatever the file holds

-- starts for just these tracks, or a failure
abbrev pub AreStarts : Choice → Brought → Type 0
AreStarts set (Chunk c) = ⊥
AreStarts set (Starts s) = AreStartsFor set s
AreStarts set (Failed b a) = ⊤
AreStarts set Starved = ⊤

-- a part from this mark on, or a failure
abbrev pub IsPart : Mark → Brought → Type 0
IsPart at (Chunk c) = (c.from ≡ at) × HasShape c
IsPart at (Starts s) = ⊥
IsPart at (Failed b a) = ⊤
IsPart at Starved = ⊤

-- a failed read bears counts of faults between which the shelf's count rose, and which lie in these bounds
abbrev pub CountsFit : ℕ → ℕ → Brought → Type 0
CountsFit before now (Failed b a) = HasRisen b a × (before ≤ b) × (a ≤ now)
CountsFit before now _ = ⊤

-- ---- what was read of a film

-- the starts that an index finds for a seek
abbrev pub AreSeekStarts : Plan → Choice → ℤ → Dir → Brought → Type 0
AreSeekStarts plan set t dir (Starts s) = AreOfBlocks plan s × SeekStarts plan set dir t s
AreSeekStarts plan set t dir _ = ⊤

-- those for tracks that are added
abbrev pub AreSwitchStarts : Plan → Choice → Option ℕ → ℤ → Brought → Type 0
AreSwitchStarts plan added lead at (Starts s) = AreOfBlocks plan s × SwitchStarts plan added lead at s
AreSwitchStarts plan added lead at _ = ⊤

-- the chunk at a mark
abbrev pub IsChunkAt : Plan → Mark → Brought → Type 0
IsChunkAt plan at (Chunk c) = c ≡ chunk_at plan at
IsChunkAt plan at _ = ⊤

-- ---- bringing it

-- it fits the job that a demuxer keeps
abbrev pub Brings : ℕ → Brought → DemuxState → Type 0
Brings n (Chunk c) d = BringsPart n c d
Brings n (Starts s) d = BringsStarts n s d
Brings n (Failed b a) d = BringsFailure n d × HasRisen b a
Brings n Starved d = BringsFailure n d

-- it is of the film
abbrev pub IsOfFilm : Film → ℕ → Brought → DemuxState → Type 0
IsOfFilm film n (Chunk c) d = IsPartOf film c
IsOfFilm film n (Starts s) d = n ≡ d.number → IfSome d.kept (AreStartsOf film s)
IsOfFilm film n (Failed b a) d = ⊤
IsOfFilm film n Starved d = ⊤

-- a failure is always taken down
abbrev pub Stops : (Taken → Type 0) → Result Taken DemuxError → Type 0
Stops fact (Ok taken) = fact taken
Stops fact (Err e) = ⊥

-- what bringing it answers and leaves
abbrev pub Takes : ℕ → Brought → DemuxState → Result Taken DemuxError → DemuxState → Type 0
Takes n (Chunk c) old result new = Feeds n c old result new
Takes n (Starts s) old result new = Finds n s old result new
Takes n (Failed b a) old result new = Stops (λ taken. Fails n (failures.Failed b a) (failure_record (failures.Failed b a)) old taken new) result
Takes n Starved old result new = Stops (λ taken. Fails n failures.Starved (failure_record failures.Starved) old taken new) result

-- the mark that it brings, if any
abbrev pub marks_in : Brought → List Mark → List Mark
marks_in (Chunk c) marks = c.to ∷ marks
marks_in (Starts s) marks = s.mark ∷ marks
marks_in (Failed b a) marks = marks
marks_in Starved marks = marks
