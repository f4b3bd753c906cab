-- Why nothing was done, by the file, the script or the film that was not opened.
use Rattle.std.proofs.Common.{◌≡◌, ℕ, List, Option, Some, None, Result, Ok, Err, sym, ap, subst, inl, inr}
use Rattle.std.specs.Prelude.{IfErr, IfOk}
use Rattle.mc_outside.specs.Shelf.{Files, Opened, Lacks, content}
use Rattle.mc_script.specs.declared.acts.Act.{Act}
use Rattle.mc_script.specs.declared.exit.Exit.{Exit}
use Rattle.mc_script.specs.declared.exit.Exit.TheVariants as exits
use Rattle.mc_script.specs.declared.exit.ShelfCause.TheVariants as causes
use Rattle.mc_script.specs.declared.options.RunLine.{RunLine}
use Rattle.mc_script.specs.Script.{script_of}
use Rattle.mc_walk.specs.Opening.{opened_film}
use Rattle.mc_cursor.specs.declared.cursor.Cursor.{Cursor}
use Rattle.mc_cursor.specs.Reads.{Told}
use Rattle.mc_play.specs.Asked.{FileIs, ScriptIs, Stopped, name_at}
use Rattle.mc_play.specs.Opening.{BeginStops, FileStops, FilmStops, IsOpened, LinesStop, OpensFile, OpensFilm, ReadsScript, ScriptStops}

-- ---- what is said of told octets is said of the file

pub of_file : (files : Option Files) (opened : Opened) (name : List ℕ) (file : ℕ) (P : List ℕ → Type 0) → OpensFile files opened name file → Told (content files opened file) P → FileIs files name P
of_file None opened name file P h told = tt
of_file (Some files) opened name file P h told = (h.0, h.1, told h.0 h.2)

-- ---- the script

file_script : (files : Option Files) (words : List (List ℕ)) (n before now : ℕ) (exit : Exit) → FileStops files words n before now exit → ScriptStops files words (Some n) before now exit
file_script files words n before now exits.NoMemory h = tt
file_script files words n before now (exits.Shelf (causes.Rose b a)) h = h
file_script files words n before now (exits.Shelf (causes.NoFile w)) h =
    (ap (λ (x : ℕ). Some x) h.0, subst (λ (x : ℕ). Lacks files (name_at words x)) (sym h.0) h.1)
file_script files words n before now _ h = absurd h

pub file_scripts : {T : Type 0} (files : Option Files) (words : List (List ℕ)) (n before now : ℕ) (r : Result T Exit) → IfErr r (FileStops files words n before now) → IfErr r (ScriptStops files words (Some n) before now)
file_scripts files words n before now (Ok x) h = h
file_scripts files words n before now (Err e) h = file_script files words n before now e h

lines_script : (files : Option Files) (opened : Opened) (words : List (List ℕ)) (n file before now : ℕ) (exit : Exit) → OpensFile files opened (name_at words n) file → LinesStop (content files opened file) before now exit
    → ScriptStops files words (Some n) before now exit
lines_script files opened words n file before now exits.NoMemory opens h = tt
lines_script files opened words n file before now (exits.Shelf (causes.Rose b a)) opens h = h
lines_script files opened words n file before now (exits.Shelf (causes.NoFile w)) opens h = absurd h
lines_script files opened words n file before now (exits.Script line why) opens h = of_file files opened (name_at words n) file (λ octets. script_of octets ≡ Err (line, why)) opens h
lines_script files opened words n file before now _ opens h = absurd h

pub lines_scripts : {T : Type 0} (files files' : Option Files) (opened : Opened) (words : List (List ℕ)) (n file before now : ℕ) (r : Result T Exit) → files' ≡ files → OpensFile files' opened (name_at words n) file
    → IfErr r (LinesStop (content files' opened file) before now) → IfErr r (ScriptStops files words (Some n) before now)
lines_scripts files files' opened words n file before now (Ok x) e opens h = h
lines_scripts files files' opened words n file before now (Err x) e opens h = subst (λ (f : Option Files). ScriptStops f words (Some n) before now x) e (lines_script files' opened words n file before now x opens h)

pub lines_read : (files files' : Option Files) (opened : Opened) (words : List (List ℕ)) (n file : ℕ) (r : Result (List (ℕ × Act)) Exit) → files' ≡ files → OpensFile files' opened (name_at words n) file
    → IfOk r (λ lines. Told (content files' opened file) (ReadsScript lines)) → IfOk r (ScriptIs files words (Some n))
lines_read files files' opened words n file (Ok lines) e opens h =
    subst (λ (f : Option Files). FileIs f (name_at words n) (ReadsScript lines)) e (of_file files' opened (name_at words n) file (ReadsScript lines) opens h)
lines_read files files' opened words n file (Err x) e opens h = h

-- ---- the film

file_film : (files : Option Files) (words : List (List ℕ)) (n before now : ℕ) (exit : Exit) → FileStops files words n before now exit → FilmStops files words n before now exit
file_film files words n before now exits.NoMemory h = tt
file_film files words n before now (exits.Shelf (causes.Rose b a)) h = h
file_film files words n before now (exits.Shelf (causes.NoFile w)) h = h
file_film files words n before now _ h = absurd h

pub file_films : {T : Type 0} (files : Option Files) (words : List (List ℕ)) (n before now : ℕ) (r : Result T Exit) → IfErr r (FileStops files words n before now) → IfErr r (FilmStops files words n before now)
file_films files words n before now (Ok x) h = h
file_films files words n before now (Err e) h = file_film files words n before now e h

begin_film : (files : Option Files) (opened : Opened) (words : List (List ℕ)) (n file before now : ℕ) (exit : Exit) → OpensFile files opened (name_at words n) file → BeginStops (content files opened file) before now exit
    → FilmStops files words n before now exit
begin_film files opened words n file before now exits.NoMemory opens h = tt
begin_film files opened words n file before now (exits.Shelf (causes.Rose b a)) opens h = h
begin_film files opened words n file before now (exits.Shelf (causes.NoFile w)) opens h = absurd h
begin_film files opened words n file before now (exits.File refused) opens h = of_file files opened (name_at words n) file (λ octets. opened_film octets ≡ Err refused) opens h
begin_film files opened words n file before now _ opens h = absurd h

pub begin_films : {T : Type 0} (files files' : Option Files) (opened : Opened) (words : List (List ℕ)) (n file before now : ℕ) (r : Result T Exit) → files' ≡ files → OpensFile files' opened (name_at words n) file
    → IfErr r (BeginStops (content files' opened file) before now) → IfErr r (FilmStops files words n before now)
begin_films files files' opened words n file before now (Ok x) e opens h = h
begin_films files files' opened words n file before now (Err x) e opens h = subst (λ (f : Option Files). FilmStops f words n before now x) e (begin_film files' opened words n file before now x opens h)

opened_at : (files : Option Files) (opened : Opened) (name : List ℕ) (file : ℕ) (c : Cursor) → c.file.0 ≡ file → OpensFile files opened name file → Told (content files opened file) (λ octets. OpensFilm octets c) → IsOpened files opened name c
opened_at None opened name file c e opens told = tt
opened_at (Some files) opened name file c e opens told = (opens.0, opens.1, subst (λ (n : ℕ). content (Some files) opened n ≡ Some opens.0) (sym e) opens.2, told opens.0 opens.2)

pub film_opened : (files files' files'' : Option Files) (opened opened' : Opened) (name : List ℕ) (file : ℕ) (r : Result Cursor Exit) → files' ≡ files → opened' ≡ opened → OpensFile files opened name file
    → IfOk r (λ c. Told (content files opened file) (λ octets. OpensFilm octets c) × (c.file.0 ≡ file)) → IfOk r (IsOpened files' opened' name)
film_opened files files' files'' opened opened' name file (Ok c) e f opens h =
    subst (λ (x : Option Files). IsOpened x opened' name c) (sym e) (subst (λ (x : Opened). IsOpened files x name c) (sym f) (opened_at files opened name file c h.1 opens h.0))
film_opened files files' files'' opened opened' name file (Err x) e f opens h = h

-- ---- both

script_stop : (files : Option Files) (words : List (List ℕ)) (line : RunLine) (before now : ℕ) (exit : Exit) → ScriptStops files words line.script before now exit → Stopped files words line before now exit
script_stop files words line before now exits.NoMemory h = tt
script_stop files words line before now (exits.Shelf (causes.Rose b a)) h = h
script_stop files words line before now (exits.Shelf (causes.NoFile w)) h = (inr h.0, h.1)
script_stop files words line before now (exits.Script n why) h = h
script_stop files words line before now exits.Usage h = absurd h
script_stop files words line before now (exits.File refused) h = absurd h
script_stop files words line before now exits.Done h = absurd h
script_stop files words line before now exits.Sink h = absurd h
script_stop files words line before now exits.JournalFull h = absurd h

pub script_stops : {T : Type 0} (files : Option Files) (words : List (List ℕ)) (line : RunLine) (before now : ℕ) (r : Result T Exit) → IfErr r (ScriptStops files words line.script before now) → IfErr r (Stopped files words line before now)
script_stops files words line before now (Ok x) h = h
script_stops files words line before now (Err e) h = script_stop files words line before now e h

film_stop : (files : Option Files) (words : List (List ℕ)) (line : RunLine) (lines : List (ℕ × Act)) (before now : ℕ) (exit : Exit) → ScriptIs files words line.script lines → FilmStops files words line.file before now exit
    → Stopped files words line before now exit
film_stop files words line lines before now exits.NoMemory s h = tt
film_stop files words line lines before now (exits.Shelf (causes.Rose b a)) s h = h
film_stop files words line lines before now (exits.Shelf (causes.NoFile w)) s h = (inl h.0, subst (λ (n : ℕ). Lacks files (name_at words n)) (sym h.0) h.1)
film_stop files words line lines before now (exits.File refused) s h = ((lines, s), h)
film_stop files words line lines before now (exits.Script n why) s h = absurd h
film_stop files words line lines before now exits.Usage s h = absurd h
film_stop files words line lines before now exits.Done s h = absurd h
film_stop files words line lines before now exits.Sink s h = absurd h
film_stop files words line lines before now exits.JournalFull s h = absurd h

pub film_stops : {T : Type 0} (files files' : Option Files) (words : List (List ℕ)) (line : RunLine) (lines : List (ℕ × Act)) (before now : ℕ) (r : Result T Exit) → files' ≡ files → ScriptIs files words line.script lines
    → IfErr r (FilmStops files' words line.file before now) → IfErr r (Stopped files words line before now)
film_stops files files' words line lines before now (Ok x) e s h = h
film_stops files files' words line lines before now (Err x) e s h = film_stop files words line lines before now x s (subst (λ (f : Option Files). FilmStops f words line.file before now x) e h)
