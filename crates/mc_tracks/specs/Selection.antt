-- Which tracks the numbers of a selection name, and why it is refused.
use Rattle.std.specs.Prelude.{◌≡◌, ℕ, ◌==◌, Bool, true, false, ◌&&◌, not, if◌then◌else◌, List, [], ◌∷◌, Option, Some, None, is_some}
use Rattle.std.specs.List.{find, list_any}
use Rattle.std.specs.Option.{option_map}
use Rattle.mc_packet.specs.declared.choice.Choice.{Choice}
use Rattle.mc_packet.specs.declared.choice.Kind.{Kind}
use Rattle.mc_packet.specs.declared.choice.Kind.TheVariants.{Video, Audio, Sub}
use Rattle.mc_packet.specs.declared.choice.Why.{Why}
use Rattle.mc_packet.specs.declared.choice.Why.TheVariants.{UnknownTrack, Unsupported, TwoOfKind}
use Rattle.mc_packet.specs.Choices.{or_else, is_known}
use Rattle.mc_tracks.specs.declared.track.Track.{Track}
use Rattle.mc_tracks.specs.TrackList.{numbered, is_of}

abbrev pub is_listed_as : Kind → Option Track → Bool
is_listed_as kind None = false
is_listed_as kind (Some t) = is_of kind t.kind

abbrev pub is_coded : Option Track → Bool
is_coded None = false
is_coded (Some t) = t.encoded

-- a track of the kind whose blocks can be read
abbrev pub knows : List Track → Kind → ℕ → Bool
knows list kind track = is_listed_as kind (numbered track list) && not (is_coded (numbered track list))

abbrev pub is_same_kind : Option Track → Option Track → Bool
is_same_kind (Some a) b = is_listed_as a.kind b
is_same_kind None b = false

-- the two are not one, and of one kind
abbrev pub is_twin : List Track → ℕ → ℕ → Bool
is_twin list a b = not (a == b) && is_same_kind (numbered a list) (numbered b list)

-- the first number whose kind another one before it has
abbrev pub first_twin : List Track → List ℕ → List ℕ → Option ℕ
first_twin list seen [] = None
first_twin list seen (n ∷ ns) = if list_any (is_twin list n) seen then Some n else first_twin list (n ∷ seen) ns

-- a number that is not listed; else one of a track whose blocks can't be read; else one of a second track of a kind
abbrev pub refusal_of : List Track → List ℕ → Option Why
refusal_of list numbers =
    or_else (option_map UnknownTrack (find (λ n. not (is_some (numbered n list))) numbers))
    (or_else (option_map Unsupported (find (λ n. is_coded (numbered n list)) numbers)) (option_map TwoOfKind (first_twin list [] numbers)))

-- the first of each kind
abbrev pub choice_of : List Track → List ℕ → Choice
choice_of list numbers = record {
  video = find (λ n. is_listed_as Video (numbered n list)) numbers;
  audio = find (λ n. is_listed_as Audio (numbered n list)) numbers;
  sub = find (λ n. is_listed_as Sub (numbered n list)) numbers;
}

abbrev pub with_number : Option ℕ → List ℕ → List ℕ
with_number None ns = ns
with_number (Some n) ns = n ∷ ns

-- the numbers of a set, as a selection takes them
abbrev pub numbers_of : Choice → List ℕ
numbers_of set = with_number set.video (with_number set.audio (with_number set.sub []))

-- a known set is selected by its numbers
abbrev pub NumbersSelect : Type 0
NumbersSelect = (list : List Track) (set : Choice) → is_known (knows list) set ≡ true
    → (refusal_of list (numbers_of set) ≡ None) × (choice_of list (numbers_of set) ≡ set)
