-- How a run ends, and what it leaves.
use Rattle.std.specs.Prelude.{◌≡◌, ◌⊎◌, ℕ, Bool, true, false, if◌then◌else◌, List, [], ◌∷◌, reverse, Option, Some, None, Result, Ok, Err, ⊤}
use Rattle.std.specs.List.{list_any}
use Rattle.mc_packet.specs.declared.choice.Choice.{Choice}
use Rattle.mc_packet.specs.declared.cache.Limits.{Limits}
use Rattle.mc_outside.specs.Causes.{Rose}
use Rattle.mc_outside.specs.Shelf.{Files}
use Rattle.mc_outside.specs.Sink.{Grows as TextGrows, GrowsByFront}
use Rattle.mc_outside.specs.declared.sink.SinkError.{SinkError}
use Rattle.mc_outside.specs.declared.sink.SinkError.TheVariants as faults
use Rattle.mc_tracks.specs.TrackList.{default_choice_of}
use Rattle.mc_walk.specs.declared.plan.Plan.{Plan}
use Rattle.mc_walk.specs.Opening.{opened_film}
use Rattle.mc_filmed.specs.Films.{plan_packets, film_for, choice_for}
use Rattle.mc_tracks.specs.Selection.{knows}
use Rattle.mc_journal.specs.declared.record.DemuxRecord.{DemuxRecord}
use Rattle.mc_journal.specs.declared.record.DemuxRecord.TheVariants.{Opened, Failed, Starved}
use Rattle.mc_journal.specs.Films.{IsRegular}
use Rattle.mc_journal.specs.Legal.{IsGapless, IsLegal}
use Rattle.mc_journal.specs.Used.{IsUsed, is_still}
use Rattle.mc_script.specs.declared.acts.Act.{Act}
use Rattle.mc_script.specs.declared.exit.Exit.{Exit}
use Rattle.mc_script.specs.declared.exit.Exit.TheVariants as exits
use Rattle.mc_script.specs.declared.exit.ShelfCause.{ShelfCause}
use Rattle.mc_script.specs.declared.exit.ShelfCause.TheVariants as causes
use Rattle.mc_script.specs.declared.options.RunLine.{RunLine}
use Rattle.mc_journal.specs.Drives.{readings}
use Rattle.mc_script.specs.Options.{run_line}
use Rattle.mc_script.specs.Transcript.{transcript}
use Rattle.mc_lines.specs.declared.halt.Halt.{Halt}
use Rattle.mc_lines.specs.declared.halt.Halt.TheVariants as halts
use Rattle.mc_lines.specs.Lines.{Grows, IsFull}
use Rattle.mc_lines.specs.Runs.{Runs}
use Rattle.mc_play.specs.Asked.{FileIs, ScriptIs, Stopped, name_at}

-- ---- the steps

-- A script was played over a film: each record of the journal stands in its place, under these limits, and nothing that is
-- owed behind the last one is left out: no drop, no join, and no seek that has to be sent again. So what each reader
-- was given since its last seek or switch is a front of a fresh reading where the film is regular, and a run of its track's
-- packets in any case. The journal is one opening with the default tracks, and behind it what the lines leave, one after the
-- other: all of them, or, where it halts, those before it and a part of the next.
pub record Plays (plan : Plan) (limits : Limits) (lines : List (ℕ × Act)) (halt : Result Unit Halt) (hd : List DemuxRecord) : Type 0 where
  pub runs : Runs (readings (film_for plan) limits (choice_for plan.tracks)) lines (Opened 0 (default_choice_of plan.tracks) ∷ []) hd halt
  pub used : IsUsed (film_for plan) limits (reverse hd)
  pub still : is_still (plan_packets plan) (reverse hd) ≡ true
  pub legal : IsRegular (plan_packets plan) (knows plan.tracks) → IsLegal (plan_packets plan) (film_for plan).ending (reverse hd)
  pub gapless : IsGapless (plan_packets plan) (film_for plan).ending (reverse hd)

-- the told film's; where none is told, any
abbrev pub PlaysFilm : Option Files → List (List ℕ) → RunLine → List (ℕ × Act) → Result Unit Halt → List DemuxRecord → Type 0
PlaysFilm files words line lines halt hd =
    FileIs files (name_at words line.file) (λ octets. (plan : Plan) × (opened_film octets ≡ Ok plan) × Plays plan line.limits lines halt hd)

-- the steps of the script that the words name were made over the film that they name. Whatever the shelf tells, one opening
-- stands first, and each failure bears counts of faults between those before and now
pub record Stepped (files : Option Files) (words : List (List ℕ)) (line : RunLine) (before now : ℕ) (halt : Result Unit Halt) (hd : List DemuxRecord) : Type 0 where
  pub lines : List (ℕ × Act)
  pub script : ScriptIs files words line.script lines
  pub film : PlaysFilm files words line lines halt hd
  pub set : Choice
  pub grows : Grows before now (Opened 0 set ∷ []) hd
  pub full : IsFull hd halt

-- ---- the ways to end

-- the counts of faults of a shelf and of a sink, before and after
pub record Counts : Type 0 where
  pub shelf_before : ℕ
  pub shelf_now : ℕ
  pub sink_before : ℕ
  pub sink_now : ℕ

-- of the shelf before and now, and of the sink before and now
abbrev pub counts_of : ℕ → ℕ → ℕ → ℕ → Counts
counts_of a b c d = record { shelf_before = a; shelf_now = b; sink_before = c; sink_now = d }

abbrev pub is_failed : DemuxRecord → Bool
is_failed (Failed by before after) = true
is_failed _ = false

abbrev pub is_starved : DemuxRecord → Bool
is_starved (Starved by) = true
is_starved _ = false

-- a shelf's refusal: nothing was done, or a read failed among the steps
abbrev pub ShelfEnds : Option Files → List (List ℕ) → RunLine → ℕ → ℕ → List DemuxRecord → ShelfCause → Type 0
ShelfEnds files words line before now hd cause =
    ((hd ≡ []) × Stopped files words line before now (exits.Shelf cause))
    ⊎ (Stepped files words line before now (Ok tt) hd × (list_any is_failed hd ≡ true) × (cause ≡ causes.Rose before now) × Rose before now)

-- whether the steps were reached, and the cause of each way to end, of a line that the words say
abbrev pub EndsLine : Option Files → List (List ℕ) → RunLine → Counts → List DemuxRecord → Exit → Type 0
EndsLine files words line n hd exits.Done =
    Stepped files words line n.shelf_before n.shelf_now (Ok tt) hd × (list_any is_failed hd ≡ false) × (list_any is_starved hd ≡ false)
EndsLine files words line n hd exits.Sink = ((halt : Result Unit Halt) × Stepped files words line n.shelf_before n.shelf_now halt hd) × Rose n.sink_before n.sink_now
EndsLine files words line n hd exits.JournalFull = Stepped files words line n.shelf_before n.shelf_now (Err halts.JournalFull) hd
EndsLine files words line n hd exits.NoMemory = (hd ≡ []) ⊎ ((halt : Result Unit Halt) × Stepped files words line n.shelf_before n.shelf_now halt hd)
EndsLine files words line n hd (exits.Shelf cause) = ShelfEnds files words line n.shelf_before n.shelf_now hd cause
EndsLine files words line n hd (exits.Script at why) = (hd ≡ []) × Stopped files words line n.shelf_before n.shelf_now (exits.Script at why)
EndsLine files words line n hd (exits.File refused) = (hd ≡ []) × Stopped files words line n.shelf_before n.shelf_now (exits.File refused)
EndsLine files words line n hd exits.Usage = ⊥

abbrev pub IsUsage : Exit → Type 0
IsUsage exits.Usage = ⊤
IsUsage _ = ⊥

-- the words are not in the grammar exactly at `Usage`
abbrev pub Ends : Option Files → List (List ℕ) → Option RunLine → Counts → List DemuxRecord → Exit → Type 0
Ends files words None n hd exit = IsUsage exit × (hd ≡ [])
Ends files words (Some line) n hd exit = EndsLine files words line n hd exit

-- so a run of these words ends
abbrev pub RunEnds : Option Files → List (List ℕ) → Counts → List DemuxRecord → Exit → Type 0
RunEnds files words n hd exit = Ends files words (run_line words) n hd exit

-- ---- the text

-- what a told sink has then: the whole transcript, a front of it, or nothing more
abbrev pub Written : Option (List ℕ) → Option (List ℕ) → List DemuxRecord → Exit → Type 0
Written old new hd exits.Done = TextGrows old new (transcript hd)
Written old new hd (exits.Shelf cause) = TextGrows old new (transcript hd)
Written old new hd exits.JournalFull = TextGrows old new (transcript hd)
Written old new hd exits.NoMemory = GrowsByFront old new (transcript hd)
Written old new hd exits.Sink = GrowsByFront old new (transcript hd)
Written old new hd exits.Usage = new ≡ old
Written old new hd (exits.File refused) = new ≡ old
Written old new hd (exits.Script line why) = new ≡ old

-- how writing went
abbrev pub WroteWell : Option (List ℕ) → Option (List ℕ) → List DemuxRecord → Result Unit SinkError → Type 0
WroteWell old new hd (Ok done) = TextGrows old new (transcript hd)
WroteWell old new hd (Err e) = GrowsByFront old new (transcript hd)

abbrev pub WriteFits : ℕ → ℕ → Result Unit SinkError → Type 0
WriteFits before now (Ok done) = ⊤
WriteFits before now (Err faults.NoMemory) = ⊤
WriteFits before now (Err faults.Failed) = Rose before now

-- ---- which of them

-- where a read failed among the steps, the shelf
abbrev pub shelf_exit : Bool → ℕ → ℕ → Exit
shelf_exit failed before now = if failed then exits.Shelf (causes.Rose before now) else exits.Done

abbrev pub halt_exit : Result Unit Halt → Bool → ℕ → ℕ → Exit
halt_exit (Ok u) failed before now = shelf_exit failed before now
halt_exit (Err halts.JournalFull) failed before now = exits.JournalFull
halt_exit (Err halts.NoMemory) failed before now = exits.NoMemory

abbrev pub write_exit : Result Unit SinkError → Result Unit Halt → Bool → ℕ → ℕ → Exit
write_exit (Ok u) halt failed before now = halt_exit halt failed before now
write_exit (Err faults.NoMemory) halt failed before now = exits.NoMemory
write_exit (Err faults.Failed) halt failed before now = exits.Sink

abbrev pub wants_memory : Result Unit Halt → Bool
wants_memory (Err halts.NoMemory) = true
wants_memory _ = false

-- want of memory comes before a fault of the sink, that before a full journal, and that before a fault of the shelf
abbrev pub exit_for : List DemuxRecord → Result Unit Halt → Result Unit SinkError → ℕ → ℕ → Exit
exit_for hd halt wrote before now =
    if wants_memory halt then exits.NoMemory else (if list_any is_starved hd then exits.NoMemory else write_exit wrote halt (list_any is_failed hd) before now)
