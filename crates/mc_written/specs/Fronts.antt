-- What stands before the Clusters of a written film (RFC 8794, section 11.2; RFC 9559, sections 5.1, 5.1.2 and 5.1.4).
use Rattle.std.specs.Prelude.{if◌then◌else◌, ◌≡◌, ◌≢◌, ℕ, ◌≤◌, Bool, false, codes, List, [], ◌∷◌, ◌++◌, length, map, All, Option, Some, None}
use Rattle.mc_packet.specs.declared.choice.Kind.{Kind}
use Rattle.mc_packet.specs.declared.choice.Kind.TheVariants.{Video, Audio, Sub}
use Rattle.mc_ebml.specs.declared.read.Size.TheVariants.{Unknown}
use Rattle.mc_ebml.specs.Ids.{EBML_HEADER, DOC_TYPE, SEGMENT, INFO, TIMESTAMP_SCALE, TRACKS, TRACK_ENTRY, TRACK_NUMBER, TRACK_UID, TRACK_TYPE, FLAG_DEFAULT, LANGUAGE, CODEC_ID, NAME, DEFAULT_DURATION}
use Rattle.mc_ebml.specs.Written.{head_octets}
use Rattle.mc_tracks.specs.declared.track.Track.{Track}
use Rattle.mc_tracks.specs.TrackList.{HasNumbers, IsListed}
use Rattle.mc_written.specs.Elements.{Element, element_text, elements, number}

-- all else in the EBML header has its default
abbrev pub ebml_header : Element
ebml_header = (EBML_HEADER, elements ((DOC_TYPE, codes "matroska") ∷ []))

-- a Segment of unknown size begins
abbrev pub segment_head : List ℕ
segment_head = head_octets SEGMENT Unknown

-- Info with its TimestampScale alone
abbrev pub info : ℕ → Element
info scale = (INFO, elements (number TIMESTAMP_SCALE scale ∷ []))

-- ---- Tracks

abbrev pub type_of : Kind → ℕ
type_of Video = 1
type_of Audio = 2
type_of Sub = 17

abbrev pub flag : Bool → ℕ
flag b = if b then 1 else 0

-- a Name that is empty is left out, and a DefaultDuration that is absent
abbrev pub name_element : List ℕ → List Element
name_element [] = []
name_element (b ∷ bs) = (NAME, b ∷ bs) ∷ []

abbrev pub duration_element : Option ℕ → List Element
duration_element None = []
duration_element (Some n) = number DEFAULT_DURATION n ∷ []

-- what a TrackEntry says in numbers, and behind these
abbrev pub number_elements : Track → List Element
number_elements t = number TRACK_NUMBER t.no ∷ number TRACK_UID t.uid ∷ number TRACK_TYPE (type_of t.kind) ∷ number FLAG_DEFAULT (flag t.default) ∷ []

abbrev pub text_elements : Track → List Element
text_elements t = (LANGUAGE, t.language) ∷ (CODEC_ID, t.codec) ∷ (name_element t.name ++ duration_element t.duration)

abbrev pub track_elements : Track → List Element
track_elements t = number_elements t ++ text_elements t

abbrev pub entry : Track → Element
entry t = (TRACK_ENTRY, elements (track_elements t))

abbrev pub tracks_body : List Track → List ℕ
tracks_body tracks = elements (map entry tracks)

-- ---- what can be written

-- a text of at most 65,536 octets, none of which is zero
pub record IsShortText (octets : List ℕ) : Type 0 where
  pub short : length octets ≤ 65536
  pub no_zero : All (λ b. b ≢ 0) octets

-- a track whose texts are such
pub record HasShortTexts (t : Track) : Type 0 where
  pub codec : IsShortText t.codec
  pub name : IsShortText t.name
  pub language : IsShortText t.language

-- ---- the whole

-- what stands before the Segment's first child
abbrev pub opening_text : List ℕ
opening_text = element_text ebml_header ++ segment_head

-- what stands before its first Cluster, where the body of its Tracks is given
abbrev pub front_with : ℕ → List ℕ → List ℕ
front_with scale body = opening_text ++ (element_text (info scale) ++ element_text (TRACKS, body))

abbrev pub front_text : ℕ → List Track → List ℕ
front_text scale tracks = front_with scale (tracks_body tracks)

-- ---- what can be read back

-- a track that a film can list, and whose blocks can be read
pub record CanBeListed (t : Track) : Type 0 where
  pub listed : IsListed t
  pub numbers : HasNumbers t
  pub plain : t.encoded ≡ false
