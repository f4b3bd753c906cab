-- What is asked of a list of tracks.
use Rattle.std.specs.Prelude.{◌≡◌, ◌≢◌, ℕ, zero, suc, ◌^◌, ◌<◌, ◌≤◌, Bool, true, false, not, ◌&&◌, ◌==◌, nat_eq, List, map, filter, find, slice_get, slice_index_or, take, length, All, Option, Some, None, option_map, IfSome}
use Rattle.std.specs.List.{IsDistinct}
use Rattle.std.specs.Str.{IsUtf8}
use Rattle.mc_packet.specs.declared.choice.Kind.{Kind}
use Rattle.mc_packet.specs.declared.choice.Kind.TheVariants.{Video, Audio, Sub}
use Rattle.mc_packet.specs.declared.choice.Choice.{Choice}
use Rattle.mc_tracks.specs.declared.track.Track.{Track}

-- the track of a number
abbrev pub numbered : ℕ → List Track → Option Track
numbered n tracks = find (λ (t : Track). n == t.no) tracks

-- no two tracks have one number
abbrev pub HaveDistinctNumbers : List Track → Type 0
HaveDistinctNumbers tracks = IsDistinct nat_eq (map (λ (t : Track). t.no) tracks)

-- a UTF-8 text of at most 65,536 octets, none of which is zero
pub record IsPlainText (octets : List ℕ) : Type 0 where
  pub short : length octets ≤ 65536
  pub no_zero : All (λ b. b ≢ 0) octets
  pub utf8 : IsUtf8 octets

pub record IsListed (t : Track) : Type 0 where
  pub positive : 0 < t.no
  pub codec : IsPlainText t.codec
  pub name : IsPlainText t.name
  pub language : IsPlainText t.language
  pub duration : IfSome t.duration (λ n. 0 < n)

-- its numbers fit 64 bits
pub record HasNumbers (t : Track) : Type 0 where
  pub number : t.no < 2 ^ 64
  pub uid : t.uid < 2 ^ 64
  pub duration : IfSome t.duration (λ n. n < 2 ^ 64)

-- what every film's list of tracks is, over any octets
pub record IsTrackList (tracks : List Track) : Type 0 where
  pub few : length tracks ≤ 64
  pub distinct : HaveDistinctNumbers tracks
  pub each : All IsListed tracks

abbrev pub is_of : Kind → Kind → Bool
is_of Video Video = true
is_of Audio Audio = true
is_of Sub Sub = true
is_of _ _ = false

-- the tracks of a kind, in the order of the list
abbrev pub all_of_kind : Kind → List Track → List Track
all_of_kind kind tracks = filter (λ (t : Track). is_of kind t.kind) tracks

-- the one of this place among the tracks of its kind, which are counted from 1
abbrev pub track_of_kind : Kind → ℕ → List Track → Option Track
track_of_kind kind zero tracks = None
track_of_kind kind (suc id) tracks = slice_get (all_of_kind kind tracks) id

abbrev pub is_readable : Option Track → Bool
is_readable None = false
is_readable (Some t) = not t.encoded

-- whether a number is a known track's: it is listed and its blocks are not encoded
abbrev pub is_known : List Track → ℕ → Bool
is_known tracks n = is_readable (numbered n tracks)

abbrev pub or_else : Option Track → Option Track → Option Track
or_else (Some t) other = Some t
or_else None other = other

-- a track of a kind that is not encoded, and one that is default besides
abbrev pub is_playable : Kind → Track → Bool
is_playable kind t = is_of kind t.kind && not t.encoded

abbrev pub is_default : Kind → Track → Bool
is_default kind t = is_of kind t.kind && not t.encoded && t.default

-- the first track of a kind that is default and not encoded, else the first that is not encoded
abbrev pub preferred : Kind → List Track → Option Track
preferred kind tracks = or_else (find (is_default kind) tracks) (find (is_playable kind) tracks)

abbrev pub number_of : Option Track → Option ℕ
number_of found = option_map (λ (t : Track). t.no) found

-- what is played at first: video and audio, and no subtitle
unfoldable pub default_choice_of : List Track → Choice
default_choice_of tracks =
    record { video = number_of (preferred Video tracks); audio = number_of (preferred Audio tracks); sub = None }

-- in a list of distinct numbers that of each track is none of those before it
abbrev pub NumbersAreNew : Type 0
NumbersAreNew = (tracks : List Track) (i : ℕ) (t : Track) → i < length tracks → t ≡ slice_index_or tracks i t
    → HaveDistinctNumbers tracks → numbered t.no (take i tracks) ≡ None
