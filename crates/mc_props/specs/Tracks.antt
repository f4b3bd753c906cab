-- The list of tracks as a value, and the selected track of a kind.
use Rattle.std.specs.Prelude.{ℕ, suc, pos, ◌-◌, ◌^◌, min, Bool, false, ◌==◌, List, [], ◌∷◌, ◌++◌, map, position, codes, Option, Some, None}
use Rattle.std.specs.Option.{option_map, unwrap_or}
use Rattle.mc_value.specs.declared.value.Value.{Value}
use Rattle.mc_value.specs.declared.value.Value.TheVariants as value
use Rattle.mc_packet.specs.declared.choice.Choice.{Choice}
use Rattle.mc_packet.specs.declared.choice.Kind.{Kind}
use Rattle.mc_packet.specs.declared.choice.Kind.TheVariants.{Video, Audio, Sub}
use Rattle.mc_tracks.specs.declared.track.Track.{Track}
use Rattle.mc_tracks.specs.TrackList.{all_of_kind}

-- a number as a value, as far as an `i64` holds it
abbrev pub number_value : ℕ → Value
number_value n = value.Int (pos (min n (2 ^ 63 - 1)))

-- the track's number among those of its kind, which are counted from 1
abbrev pub id_of : List Track → Kind → ℕ → Option ℕ
id_of tracks kind number = option_map (λ k. suc k)
    (position (λ (t : Track). t.no == number) (all_of_kind kind tracks))

-- the selected track of a kind
abbrev pub chosen : Kind → Choice → Option ℕ
chosen Video set = set.video
chosen Audio set = set.audio
chosen Sub set = set.sub

abbrev pub is_it : Option ℕ → ℕ → Bool
is_it None number = false
is_it (Some n) number = n == number

abbrev pub kind_name : Kind → List ℕ
kind_name Video = codes "video"
kind_name Audio = codes "audio"
kind_name Sub = codes "sub"

-- a text under a name, where it is not empty
abbrev pub if_filled : List ℕ → List ℕ → List (List ℕ × Value)
if_filled name [] = []
if_filled name (c ∷ cs) = (name, value.Str (c ∷ cs)) ∷ []

-- a track's map: what tells it from the others, its texts, and how it stands
abbrev pub numbers_of : List Track → Track → List (List ℕ × Value)
numbers_of tracks t = (codes "id", number_value (unwrap_or (id_of tracks t.kind t.no) 0))
    ∷ (codes "type", value.Str (kind_name t.kind)) ∷ (codes "src-id", number_value t.no) ∷ []

abbrev pub texts_of : Track → List (List ℕ × Value)
texts_of t = if_filled (codes "title") t.name
    ++ (if_filled (codes "lang") t.language ++ (codes "codec", value.Str t.codec) ∷ [])

abbrev pub flags_of : Choice → Track → List (List ℕ × Value)
flags_of set t = (codes "default", value.Flag t.default)
    ∷ (codes "selected", value.Flag (is_it (chosen t.kind set) t.no)) ∷ []

abbrev pub track_map : List Track → Choice → Track → Value
track_map tracks set t = value.Map (numbers_of tracks t ++ (texts_of t ++ flags_of set t))

-- one map for each track
abbrev pub track_list : List Track → Choice → Value
track_list tracks set = value.Array (map (track_map tracks set) tracks)

-- a number of a track of its kind, or `no`
abbrev pub id_value : Option ℕ → Value
id_value None = value.Str (codes "no")
id_value (Some id) = number_value id

abbrev pub id_of_chosen : List Track → Kind → Option ℕ → Option ℕ
id_of_chosen tracks kind None = None
id_of_chosen tracks kind (Some number) = id_of tracks kind number

-- the number of the selected track of a kind, or `no`
abbrev pub selected_of : Kind → List Track → Choice → Value
selected_of kind tracks set = id_value (id_of_chosen tracks kind (chosen kind set))
