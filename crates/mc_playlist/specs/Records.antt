-- What lines make of a list: one line, and the records of a script, one after the other.
use Rattle.std.specs.Prelude.{◌≡◌, ℕ, List, fold, take, Option, Some, None, Result, Ok, Err}
use Rattle.mc_props.specs.Entries.{place_of}
use Rattle.mc_props.specs.declared.entries.PropEntry.{PropEntry}
use Rattle.mc_playlist.specs.Steps.{count, empty_list, kept_place, played, stepped}
use Rattle.mc_playlist.specs.declared.acts.ListAct.{ListAct}
use Rattle.mc_playlist.specs.declared.acts.ListAct.TheVariants.{Step, Play, PlayAll, Watch}
use Rattle.mc_playlist.specs.declared.acts.ListRecord.{ListRecord}
use Rattle.mc_playlist.specs.declared.facts.ListFacts.{ListFacts}
use Rattle.mc_playlist.specs.declared.steps.ListError.{ListError}
use Rattle.mc_playlist.specs.declared.steps.ListError.TheVariants as errors

-- ---- one line

-- the list's place, or the first entry's where it has none
abbrev pub place_or_first : Option ℕ → ℕ → Option ℕ
place_or_first None n = kept_place n 0
place_or_first (Some p) n = Some p

abbrev pub first_played : ListFacts → Option ℕ
first_played f = place_or_first f.pos (count f)

-- to watch a name changes nothing, and wants an entry of that name
abbrev pub watching : Option ℕ → ListFacts → Result ListFacts ListError
watching None f = Err errors.NotFound
watching (Some place) f = Ok f

-- what a line makes of a list, or why it is refused, where a table has these entries. Of a `play
-- all` it is what one film makes of it: it counts as one `play`, from 0 where the list has no place
abbrev pub acted : List PropEntry → ListAct → ListFacts → Result ListFacts ListError
acted entries (Step step) f = stepped step f
acted entries Play f = played f.pos f
acted entries PlayAll f = played (first_played f) f
acted entries (Watch name) f = watching (place_of name entries) f

-- a call's answer, and the list that it leaves: as it should be, or refused, and then as before; it
-- may want memory, and the list is then as before
abbrev pub Leaves : Result ListFacts ListError → ListFacts → ListFacts
    → Result (Unit {0}) ListError → Type 0
Leaves wanted f f' (Ok done) = wanted ≡ Ok f'
Leaves wanted f f' (Err errors.NoMemory) = f' ≡ f
Leaves wanted f f' (Err e) = (wanted ≡ Err e) × (f' ≡ f)

-- ---- lines in order

-- what a step leaves: nothing changes where it is refused
abbrev pub left_by : Result ListFacts ListError → ListFacts → ListFacts
left_by (Ok f') f = f'
left_by (Err e) f = f

abbrev pub after_act : List PropEntry → ListFacts → ListAct → ListFacts
after_act entries f act = left_by (acted entries act f) f

-- the list after the first records of a script's
abbrev pub facts_at : List PropEntry → List ListRecord → ℕ → ListFacts
facts_at entries records i =
    fold (λ f (r : ListRecord). after_act entries f r.act) empty_list (take i records)
