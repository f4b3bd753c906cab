-- What is owed where nothing stands in the way: a run plays every line of its script, and its drains read all selected tracks to
-- their ends.
use Rattle.std.specs.Prelude.{◌≡◌, ℕ, ◌<◌, ◌==◌, Bool, true, false, ◌&&◌, List, [], ◌∷◌, length, Option, Some, None, Ok, IfSome, ⊤}
use Rattle.std.specs.List.{list_any}
use Rattle.mc_packet.specs.declared.choice.Kind.{Kind}
use Rattle.mc_packet.specs.declared.choice.Kind.TheVariants.{Video, Audio, Sub}
use Rattle.mc_outside.specs.Causes.{Rose}
use Rattle.mc_outside.specs.Shelf.{Files}
use Rattle.mc_tracks.specs.TrackList.{default_choice_of}
use Rattle.mc_walk.specs.declared.plan.Plan.{Plan}
use Rattle.mc_walk.specs.Opening.{opened_film}
use Rattle.mc_journal.specs.declared.record.DemuxRecord.{DemuxRecord}
use Rattle.mc_journal.specs.declared.record.DemuxRecord.TheVariants.{Opened, Ended}
use Rattle.mc_filmed.specs.Films.{film_for, choice_for}
use Rattle.mc_script.specs.declared.acts.Act.{Act}
use Rattle.mc_script.specs.declared.acts.Act.TheVariants as acts
use Rattle.mc_script.specs.declared.exit.Exit.{Exit}
use Rattle.mc_script.specs.declared.exit.Exit.TheVariants as exits
use Rattle.mc_script.specs.declared.options.RunLine.{RunLine}
use Rattle.mc_script.specs.Plays.{Leaves, taken_after}
use Rattle.mc_journal.specs.Drives.{Readings, readings, selection}
use Rattle.mc_journal.specs.Callers.{reader}
use Rattle.mc_play.specs.Asked.{FileIs, ScriptIs, name_at}
use Rattle.mc_script.specs.Options.{run_line}
use Rattle.mc_play.specs.Run.{Counts}

-- ---- drains to the ends

-- it tells the reader of this number the end of this track
abbrev pub ends_reader : ℕ → ℕ → DemuxRecord → Bool
ends_reader n k (Ended by track ending) = by == n && track == k
ends_reader n k _ = false

-- the reader of a kind's track was told its end
abbrev pub IsEnded : List DemuxRecord → Kind → Option ℕ → Type 0
IsEnded part kind track = IfSome track (λ k. list_any (ends_reader (reader kind) k) part ≡ true)

-- by what a drain leaves, the reader of each selected track was
abbrev pub EndsAll : Act → List DemuxRecord → List DemuxRecord → Type 0
EndsAll acts.Drain before part = IsEnded part Video (selection before).video × IsEnded part Audio (selection before).audio × IsEnded part Sub (selection before).sub
EndsAll _ before part = ⊤

-- the lines were played, one after the other, and each drain was one to the ends
abbrev pub PlayedOut : Readings → List (ℕ × Act) → Option (List DemuxRecord) → List DemuxRecord → List DemuxRecord → Type 0
PlayedOut rd [] out old new = new ≡ old
PlayedOut rd (line ∷ lines) out old new =
    (mid : List DemuxRecord) × ((l : Leaves rd line.1 out old mid) × EndsAll line.1 old l.part) × PlayedOut rd lines (taken_after line.1 out old) mid new

-- ---- what is there, and what then comes

-- the shelf tells its files; those that the words name are there, the script in its grammar and the film with a whole header
abbrev pub HasAll : Option Files → List (List ℕ) → RunLine → Type 0
HasAll None words line = ⊥
HasAll (Some files) words line =
    ((lines : List (ℕ × Act)) × ScriptIs (Some files) words line.script lines)
    × ((octets : List ℕ) × (files (name_at words line.file) ≡ Some octets) × ((plan : Plan) × (opened_film octets ≡ Ok plan)))

-- no count of faults rose or stands at its last value
abbrev pub IsQuiet : Counts → Type 0
IsQuiet n = (Rose n.shelf_before n.shelf_now → ⊥) × (Rose n.sink_before n.sink_now → ⊥)

-- all lines of the named script were played out over the named film; only want of memory may come in the place of that
abbrev pub Fulfils : Option Files → List (List ℕ) → RunLine → List DemuxRecord → Exit → Type 0
Fulfils files words line hd exits.Done =
    (lines : List (ℕ × Act)) × ScriptIs files words line.script lines
    × FileIs files (name_at words line.file) (λ octets. (plan : Plan) × (opened_film octets ≡ Ok plan)
    × PlayedOut (readings (film_for plan) line.limits (choice_for plan.tracks)) lines None (Opened 0 (default_choice_of plan.tracks) ∷ []) hd)
Fulfils files words line hd exits.NoMemory = ⊤
Fulfils files words line hd _ = ⊥

-- so it is of words in their grammar where all is there, no count of faults rose, and the journal is not full
abbrev pub Completes : Option Files → List (List ℕ) → Option RunLine → Counts → List DemuxRecord → Exit → Type 0
Completes files words None n hd exit = ⊤
Completes files words (Some line) n hd exit = HasAll files words line → IsQuiet n → length hd < 16000000 → Fulfils files words line hd exit

-- of these words
abbrev pub RunCompletes : Option Files → List (List ℕ) → Counts → List DemuxRecord → Exit → Type 0
RunCompletes files words n hd exit = Completes files words (run_line words) n hd exit
