-- Watched properties of a list: what each was last given, and what is news to it.
use Rattle.std.specs.Prelude.{◌≡◌, ℕ, Bool, true, false, not, ◌||◌, if◌then◌else◌, List, [], ◌∷◌, ◌++◌, map, filter, All, Option, Some, None, IfSome, is_some, Result, Ok, Err}
use Rattle.std.specs.List.{list_any}
use Rattle.std.specs.Str.{bytes_eq}
use Rattle.mc_value.specs.Sameness.{same_value}
use Rattle.mc_props.specs.Entries.{place_of}
use Rattle.mc_props.specs.Fields.{share_field}
use Rattle.mc_props.specs.Readings.{mask_at}
use Rattle.mc_props.specs.declared.entries.PropEntry.{PropEntry}
use Rattle.mc_props.specs.declared.reading.Reading.{Reading}
use Rattle.mc_props.specs.declared.reading.Reading.TheVariants.{Is, Unavailable}
use Rattle.mc_playlist.specs.Fields.{AgreeOutside}
use Rattle.mc_playlist.specs.Table.{Stated}
use Rattle.mc_playlist.specs.declared.facts.ListFacts.{ListFacts}
use Rattle.mc_playlist.specs.declared.steps.ListError.{ListError}
use Rattle.mc_playlist.specs.declared.steps.ListError.TheVariants as errors
use Rattle.mc_playlist.specs.declared.watched.Change.{Change}
use Rattle.mc_playlist.specs.declared.watched.Watched.{Watched}

-- what a watched property shows at these facts
abbrev pub now : Stated → ListFacts → Watched → Reading
now stated f w = stated w.place f

-- its place is where the table has its name
abbrev pub IsPlaced : List PropEntry → Watched → Type 0
IsPlaced entries w = Some w.place ≡ place_of w.name entries

-- where it was given, it was last given what it shows
abbrev pub IsGiven : Stated → ListFacts → Watched → Type 0
IsGiven stated f w = IfSome w.given (λ r. r ≡ now stated f w)

-- watches are current for facts: each one that was given was last given what it shows at them
pub record Current (stated : Stated) (entries : List PropEntry) (f : ListFacts)
    (ws : List Watched) : Type 0 where
  pub placed : All (IsPlaced entries) ws
  pub given : All (IsGiven stated f) ws

-- they are current for some facts that agree with these outside a mask
abbrev pub CurrentBut : Stated → List PropEntry → ℕ → ListFacts → List Watched → Type 0
CurrentBut stated entries mask f ws = (g : ListFacts) × AgreeOutside mask g f
    × Current stated entries g ws

-- what a call leaves is current for all facts for which what it found was
abbrev pub KeepsCurrent : Stated → List PropEntry → List Watched → List Watched → Type 0
KeepsCurrent stated entries ws ws' = (f : ListFacts) → Current stated entries f ws
    → Current stated entries f ws'

-- ---- watching

-- a property that is watched from now on, at a place in the table
abbrev pub new_watched : List ℕ → ℕ → Watched
new_watched name place = record { name = name; place = place; given = None }

abbrev pub is_watched : List ℕ → List Watched → Bool
is_watched name ws = list_any (λ (w : Watched). bytes_eq w.name name) ws

-- a name that is watched already keeps its place; another one is watched behind the others
abbrev pub watched_at : Option ℕ → List ℕ → List Watched → Result (List Watched) ListError
watched_at None name ws = Err errors.NotFound
watched_at (Some place) name ws =
    if is_watched name ws then Ok ws else Ok (ws ++ new_watched name place ∷ [])

abbrev pub watched : List PropEntry → List ℕ → List Watched → Result (List Watched) ListError
watched entries name ws = watched_at (place_of name entries) name ws

-- the answer to a name, and the watches that it leaves: refused, and then as before, or watched;
-- it may want memory, and they are then as before
abbrev pub Watches : Result (List Watched) ListError → List Watched → List Watched
    → Result (Unit {0}) ListError → Type 0
Watches wanted ws ws' (Ok done) = wanted ≡ Ok ws'
Watches wanted ws ws' (Err errors.NoMemory) = ws' ≡ ws
Watches wanted ws ws' (Err e) = (wanted ≡ Err e) × (ws' ≡ ws)

-- ---- changes

-- both have no value, or the same one
abbrev pub same_reading : Reading → Reading → Bool
same_reading (Is v) (Is w) = same_value v w
same_reading Unavailable Unavailable = true
same_reading _ _ = false

abbrev pub was_given : Option Reading → Reading → Bool
was_given None r = false
was_given (Some last) r = same_reading last r

-- it was last given what it shows
abbrev pub is_settled : Stated → ListFacts → Watched → Bool
is_settled stated f w = was_given w.given (now stated f w)

-- a change that tells what it shows
abbrev pub change_to : Watched → Reading → Change
change_to w r = record { name = w.name; reading = r }

-- what is new, in order of watching: each watched property whose reading differs from the last
-- given, or that was never given
abbrev pub changes_of : Stated → ListFacts → List Watched → List Change
changes_of stated f ws =
    map (λ w. change_to w (now stated f w)) (filter (λ w. not (is_settled stated f w)) ws)

-- a watched property that was given what it shows
abbrev pub with_given : Watched → Reading → Watched
with_given w r = record { name = w.name; place = w.place; given = Some r }

abbrev pub told : Stated → ListFacts → Watched → Watched
told stated f w = with_given w (now stated f w)

-- ---- what is read for that

-- it was never given, or a field of the mask is one of its entry's
abbrev pub is_due : List PropEntry → ℕ → Watched → Bool
is_due entries mask w =
    not (is_some w.given) || share_field (mask_at entries (Some w.place)) mask

-- a reader answers for it where it is due
abbrev pub AnswersIfDue : (ℕ → Type 0) → List PropEntry → ℕ → Watched → Type 0
AnswersIfDue answers entries mask w = is_due entries mask w ≡ true → answers w.place

-- what it is to be given, if anything
abbrev pub news_of : Stated → ListFacts → Watched → Option Reading
news_of stated f w = if is_settled stated f w then None else Some (now stated f w)

-- it is not read unless it is due: it shows what it was last given
abbrev pub IsSure : Stated → List PropEntry → ℕ → ListFacts → Watched → Type 0
IsSure stated entries mask f w = is_due entries mask w ≡ false → is_settled stated f w ≡ true

-- a watched property that is given its news, where there is any
abbrev pub given : Watched → Option Reading → Watched
given w None = w
given w (Some r) = with_given w r

-- watches that are, in order
abbrev pub noted : List (Option Reading) → List Watched → List Watched
noted [] ws = ws
noted (r ∷ rs) [] = []
noted (r ∷ rs) (w ∷ ws) = given w r ∷ noted rs ws
