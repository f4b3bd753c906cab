-- What is printed of a list's script: what became of each line, and what then is new.
use Rattle.std.specs.Prelude.{ℕ, nat_le, Bool, not, ◌==◌, ◌&&◌, ◌||◌, if◌then◌else◌, List, [], ◌∷◌, ◌++◌, length, map, drop, slice_get, Option, Some, None, Result, Ok, Err, codes, decimal}
use Rattle.std.specs.List.{flat_map, list_all}
use Rattle.mc_script.specs.Text.{joined}
use Rattle.mc_value.specs.Values.{json_of, json_string}
use Rattle.mc_props.specs.declared.entries.PropEntry.{PropEntry}
use Rattle.mc_props.specs.declared.reading.Reading.{Reading}
use Rattle.mc_props.specs.declared.reading.Reading.TheVariants.{Is, Unavailable}
use Rattle.mc_playlist.specs.Records.{acted, after_act, first_played}
use Rattle.mc_playlist.specs.Steps.{empty_list}
use Rattle.mc_playlist.specs.Table.{Stated}
use Rattle.mc_playlist.specs.Watches.{changes_of, told, watched}
use Rattle.mc_playlist.specs.declared.acts.ListAct.{ListAct}
use Rattle.mc_playlist.specs.declared.acts.ListAct.TheVariants.{Step, Play, PlayAll, Watch}
use Rattle.mc_playlist.specs.declared.acts.ListRecord.{ListRecord}
use Rattle.mc_playlist.specs.declared.facts.ListFacts.{ListFacts}
use Rattle.mc_playlist.specs.declared.steps.ListError.{ListError}
use Rattle.mc_playlist.specs.declared.text.FilmRun.{FilmRun}
use Rattle.mc_playlist.specs.declared.text.FilmRun.TheVariants.{Transcript, Refused}
use Rattle.mc_playlist.specs.declared.watched.Change.{Change}
use Rattle.mc_playlist.specs.declared.watched.Watched.{Watched}

-- ---- words

-- a character from `!` to `~`, and none of `"`, `\` and `#`
abbrev pub is_plain_char : ℕ → Bool
is_plain_char c = nat_le 33 c && (nat_le c 126 && not (c == 34 || (c == 92 || c == 35)))

abbrev pub is_plain : List ℕ → Bool
is_plain w = not (length w == 0) && list_all is_plain_char w

-- a word as it is printed: as JSON where it is empty or has another character
abbrev pub printed : List ℕ → List ℕ
printed w = if is_plain w then w else json_string w

-- ---- changes

abbrev pub reading_text : Reading → List ℕ
reading_text (Is v) = json_of v
reading_text Unavailable = codes "unavailable"

-- change NAME JSON
abbrev pub change_text : Change → List ℕ
change_text c = joined (codes "change " ∷ printed c.name ∷ codes " " ∷ reading_text c.reading
    ∷ codes "\n" ∷ [])

abbrev pub changes_text : List Change → List ℕ
changes_text cs = flat_map change_text cs

-- ---- films

-- file INDEX NAME
abbrev pub file_text : ℕ → List ℕ → List ℕ
file_text place name = joined (codes "file " ∷ decimal place ∷ codes " " ∷ printed name ∷ [])

-- behind it, its transcript, or why it was refused
abbrev pub outcome_text : FilmRun → List ℕ
outcome_text (Transcript text) = joined (codes "\n" ∷ text ∷ [])
outcome_text (Refused cause) = joined (codes " refused " ∷ cause ∷ codes "\n" ∷ [])

-- a film that was played
abbrev pub run_text : ℕ → List ℕ → FilmRun → List ℕ
run_text place name run = file_text place name ++ outcome_text run

-- the first of the runs is the film's; a film without a run has no lines
abbrev pub film_text : ℕ → Option (List ℕ) → List FilmRun → List ℕ
film_text place None runs = []
film_text place (Some name) [] = []
film_text place (Some name) (run ∷ runs) = run_text place name run

abbrev pub played_text : Option ℕ → ListFacts → List FilmRun → List ℕ
played_text None f runs = []
played_text (Some place) f runs = film_text place (slice_get f.names place) runs

-- ---- lines of a script

-- the place of the film that a line plays, if it plays one
abbrev pub film_of : ListAct → ListFacts → Option ℕ
film_of (Step step) f = None
film_of Play f = f.pos
film_of PlayAll f = first_played f
film_of (Watch name) f = None

-- the runs of the films still to come
abbrev pub runs_left : Option ℕ → List FilmRun → List FilmRun
runs_left None runs = runs
runs_left (Some place) runs = drop 1 runs

-- what is watched behind a line
abbrev pub watches_left : Result (List Watched) ListError → List Watched → List Watched
watches_left (Ok ws') ws = ws'
watches_left (Err e) ws = ws

abbrev pub watches_after : List PropEntry → ListAct → List Watched → List Watched
watches_after entries (Step step) ws = ws
watches_after entries Play ws = ws
watches_after entries PlayAll ws = ws
watches_after entries (Watch name) ws = watches_left (watched entries name ws) ws

abbrev pub refused_text : Result ListFacts ListError → List ℕ
refused_text (Err e) = codes "refused\n"
refused_text (Ok f') = []

-- what is known before a line: the list, what is watched, with what was last told of it, and the
-- runs of the films still to come
pub record Told : Type 0 where
  pub facts : ListFacts
  pub watches : List Watched
  pub runs : List FilmRun

-- the lines of one line of the script: the film that it plays, or that it is refused, and then each
-- watched property whose stated function of the list as it is then differs from what was last told,
-- or that never was
abbrev pub act_text : Stated → List PropEntry → Told → ListAct → List ℕ
act_text stated entries t act = played_text (film_of act t.facts) t.facts t.runs
    ++ (refused_text (acted entries act t.facts)
    ++ changes_text (changes_of stated (after_act entries t.facts act)
    (watches_after entries act t.watches)))

-- what is known behind it: all that is watched was told
abbrev pub told_after : Stated → List PropEntry → Told → ListAct → Told
told_after stated entries t act = record {
  facts = after_act entries t.facts act;
  watches = map (told stated (after_act entries t.facts act))
      (watches_after entries act t.watches);
  runs = runs_left (film_of act t.facts) t.runs;
}

-- the lines of records, from where these things are known
abbrev pub text_from : Stated → List PropEntry → Told → List ListRecord → List ℕ
text_from stated entries t [] = []
text_from stated entries t (r ∷ rs) = act_text stated entries t r.act
    ++ text_from stated entries (told_after stated entries t r.act) rs

-- at the script's start
abbrev pub nothing_told : List FilmRun → Told
nothing_told runs = record { facts = empty_list; watches = []; runs = runs }

-- the lines of a script's records, and of the runs of the films that they play, in order
abbrev pub list_text : Stated → List PropEntry → List ListRecord → List FilmRun → List ℕ
list_text stated entries records runs = text_from stated entries (nothing_told runs) records
