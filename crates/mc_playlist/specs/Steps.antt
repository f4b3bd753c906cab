-- A list of films, and what each step makes of it.
use Rattle.std.specs.Prelude.{◌≡◌, ℕ, suc, zero, ◌+◌, ◌-◌, ◌<◌, ◌≤◌, ◌^◌, min, ◌==◌, nat_lt, nat_le, Bool, if◌then◌else◌, List, [], ◌∷◌, ◌++◌, length, slice_get, insert, remove, Option, Some, None, IfSome, Result, Ok, Err, ⊤}
use Rattle.std.specs.Option.{option_to_list}
use Rattle.mc_playlist.specs.declared.facts.ListFacts.{ListFacts}
use Rattle.mc_playlist.specs.declared.steps.ListStep.{ListStep}
use Rattle.mc_playlist.specs.declared.steps.ListStep.TheVariants.{Add, Remove, Move, Clear, Next, Prev, Jump, Played}
use Rattle.mc_playlist.specs.declared.steps.ListError.{ListError}
use Rattle.mc_playlist.specs.declared.steps.ListError.TheVariants as errors

-- no entries, no place, and nothing was played
abbrev pub empty_list : ListFacts
empty_list = record { names = []; pos = None; plays = 0 }

-- what is true of every list: it has at most 10,000 entries, and its place is that of one
pub record IsList (f : ListFacts) : Type 0 where
  pub few : length f.names ≤ 10000
  pub inside : IfSome f.pos (λ p. p < length f.names)

abbrev pub count : ListFacts → ℕ
count f = length f.names

-- a list with other names and another place
abbrev pub with_names : ListFacts → List (List ℕ) → Option ℕ → ListFacts
with_names f names pos = record { names = names; pos = pos; plays = f.plays }

-- ---- names

-- the place of an entry, or of the end, once entry I is taken out
abbrev pub place_without : ℕ → ℕ → ℕ
place_without i k = if nat_lt i k then k - 1 else k

-- an entry is put in at a place, where there is one
abbrev pub put_in : Option (List ℕ) → ℕ → List (List ℕ) → List (List ℕ)
put_in None k names = names
put_in (Some name) k names = insert names k name

-- entry I is taken out, and stands then before what was entry J, or last
abbrev pub moved : ℕ → ℕ → List (List ℕ) → List (List ℕ)
moved i j names = put_in (slice_get names i) (place_without i j) (remove names i)

-- the entry at a place alone
abbrev pub alone : ℕ → List (List ℕ) → List (List ℕ)
alone p names = option_to_list (slice_get names p)

-- ---- places

-- a place, where an entry stands there
abbrev pub kept_place : ℕ → ℕ → Option ℕ
kept_place n p = if nat_lt p n then Some p else None

-- the list's place once entry I of so many is taken out
abbrev pub pos_without : ℕ → ℕ → Option ℕ → Option ℕ
pos_without i n None = None
pos_without i n (Some p) =
    if nat_lt i p then Some (p - 1) else if i == p then kept_place (n - 1) p else Some p

-- the place of entry P once entry I stands before what was entry J: one further where I is put in
-- before it
abbrev pub place_moved : ℕ → ℕ → ℕ → ℕ
place_moved i j p =
    if i == p then place_without i j else
    if nat_le (place_without i j) (place_without i p) then place_without i p + 1 else
    place_without i p

abbrev pub pos_moved : ℕ → ℕ → Option ℕ → Option ℕ
pos_moved i j None = None
pos_moved i j (Some p) = Some (place_moved i j p)

-- the place behind the list's, and the one before it
abbrev pub next_place : Option ℕ → ℕ
next_place None = 0
next_place (Some p) = p + 1

abbrev pub place_before : Option ℕ → Option ℕ
place_before None = None
place_before (Some zero) = None
place_before (Some (suc p)) = Some p

-- ---- steps

-- no entry is at the place that is wanted
abbrev pub no_entry : ℕ → ListFacts → Result ListFacts ListError
no_entry wanted f = Err (errors.NoEntry wanted (count f))

-- the list's place is this one, where there is one; else the one that is wanted is told
abbrev pub placed : Option ℕ → ℕ → ListFacts → Result ListFacts ListError
placed None wanted f = no_entry wanted f
placed (Some p) wanted f = Ok (with_names f f.names (Some p))

-- the list's place becomes this one, where there is one; else the one that is wanted is told, and
-- nothing changed
abbrev pub GoesTo : Option ℕ → ℕ → ListFacts → ListFacts → Result (Unit {0}) ListError → Type 0
GoesTo None wanted f f' answer = (answer ≡ Err (errors.NoEntry wanted (count f))) × (f' ≡ f)
GoesTo (Some p) wanted f f' answer = (answer ≡ Ok tt) × (f' ≡ with_names f f.names (Some p))

-- all entries but the one at the list's place go
abbrev pub cleared : Option ℕ → ListFacts → ListFacts
cleared None f = with_names f [] None
cleared (Some p) f = with_names f (alone p f.names) (Some 0)

-- the entry at the list's place was played
abbrev pub played : Option ℕ → ListFacts → Result ListFacts ListError
played None f = no_entry 0 f
played (Some p) f = Ok (record {
  names = f.names;
  pos = kept_place (count f) (p + 1);
  plays = min (f.plays + 1) (2 ^ 32 - 1);
})

-- entry I of the list goes
abbrev pub removed : ℕ → ListFacts → ListFacts
removed i f = with_names f (remove f.names i) (pos_without i (count f) f.pos)

-- entry I goes before what was entry J, and the list's place stays with its entry
abbrev pub reordered : ℕ → ℕ → ListFacts → ListFacts
reordered i j f = with_names f (moved i j f.names) (pos_moved i j f.pos)

-- what a step makes of a list, or why it is refused
abbrev pub stepped : ListStep → ListFacts → Result ListFacts ListError
stepped (Add name) f =
    if nat_lt (count f) 10000 then Ok (with_names f (f.names ++ name ∷ []) f.pos)
    else Err errors.TooMany
stepped (Remove i) f = if nat_lt i (count f) then Ok (removed i f) else no_entry i f
stepped (Move i j) f =
    if nat_lt i (count f) then
    (if nat_le j (count f) then Ok (reordered i j f) else no_entry j f)
    else no_entry i f
stepped Clear f = Ok (cleared f.pos f)
stepped Next f = placed (kept_place (count f) (next_place f.pos)) (next_place f.pos) f
stepped Prev f = placed (place_before f.pos) 0 f
stepped (Jump i) f = placed (kept_place (count f) i) i f
stepped Played f = played f.pos f

-- a step that may want memory
abbrev pub WantsMemory : ListStep → Type 0
WantsMemory (Add name) = ⊤
WantsMemory step = ⊥

-- a step's answer, and the list that it leaves: as it should be, or refused, and then as before;
-- and it may want memory, and the list is then as before
abbrev pub Steps : ListStep → ListFacts → ListFacts → Result (Unit {0}) ListError → Type 0
Steps step f f' (Ok done) = stepped step f ≡ Ok f'
Steps step f f' (Err errors.NoMemory) = WantsMemory step × (f' ≡ f)
Steps step f f' (Err e) = (stepped step f ≡ Err e) × (f' ≡ f)
