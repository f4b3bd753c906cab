-- What stands before the packets of a film: the EBML header (RFC 8794, section 11.2), and Info and
-- Tracks of the Segment (RFC 9559, sections 5.1.2 and 5.1.4).
use Rattle.std.specs.Prelude.{◌≡◌, ℕ, ◌+◌, ◌-◌, ◌<◌, All, Bool, not, ◌||◌, nat_lt, nat_le, ◌==◌, nat_eq, is_some, codes, if◌then◌else◌, List, [], ◌∷◌, ◌++◌, length, slice_range, option_map, Option, Some, None, Result, Ok, Err}
use Rattle.std.specs.Result.{result_unwrap_or}
use Rattle.std.specs.Cmp.Lexicographic.{pointwise}
use Rattle.mc_ebml.specs.Element.{uint_of, text_of}
use Rattle.mc_packet.specs.declared.choice.Kind.{Kind}
use Rattle.mc_packet.specs.declared.choice.Kind.TheVariants.{Video, Audio, Sub}
use Rattle.mc_ebml.specs.declared.whole.WholeElement.{WholeElement}
use Rattle.mc_tracks.specs.declared.children.Master.TheVariants.{EbmlHeader, Info, Tracks, TrackEntry}
use Rattle.mc_tracks.specs.declared.refused.Refused.{Refused}
use Rattle.mc_tracks.specs.declared.refused.Refused.TheVariants.{NotEbml, Version, DocType, Broken, NoNumber, TwiceNumber, ScaleZero, TooMany}
use Rattle.mc_tracks.specs.declared.track.Track.{Track}
use Rattle.mc_ebml.specs.Ids.{EBML_HEADER, EBML_READ_VERSION, EBML_MAX_ID_LENGTH, EBML_MAX_SIZE_LENGTH, DOC_TYPE, DOC_TYPE_READ_VERSION, TIMESTAMP_SCALE, TRACK_ENTRY, TRACK_NUMBER, TRACK_UID, TRACK_TYPE, CODEC_ID, NAME, LANGUAGE, FLAG_DEFAULT, DEFAULT_DURATION, CONTENT_ENCODINGS}
use Rattle.mc_ebml.specs.Whole.{element_at}
use Rattle.mc_tracks.specs.Children.{Children, children_of, first}
use Rattle.mc_tracks.specs.Answer.{◌>>=◌}
use Rattle.mc_tracks.specs.TrackList.{numbered, IsTrackList, HasNumbers}

-- ---- what a child stands for

abbrev pub body_of : List ℕ → WholeElement → List ℕ
body_of octets c = slice_range octets c.at c.stop

-- an unsigned integer, or its default where it is missing or empty
abbrev pub integer : List ℕ → ℕ → Option WholeElement → ℕ
integer octets otherwise None = otherwise
integer octets otherwise (Some c) =
    if c.at == c.stop then otherwise else result_unwrap_or (uint_of (body_of octets c)) otherwise

-- the same in the first child of an ID in a TrackEntry
abbrev pub entry_integer : List ℕ → ℕ → ℕ → ℕ
entry_integer body id otherwise = integer body otherwise (first id (children_of TrackEntry body).whole)

-- a text, or its default where it is missing; one that is not UTF-8 or longer than 65,536 octets is taken as empty
abbrev pub text : List ℕ → List ℕ → Option WholeElement → List ℕ
text octets otherwise None = otherwise
text octets otherwise (Some c) =
    if nat_lt 65536 (c.stop - c.at) then [] else result_unwrap_or (text_of (body_of octets c)) []

-- a broken child is named by its offset in the file, where the body begins at another
abbrev pub unless_broken : ℕ → Option ℕ → Result (Unit {0}) Refused
unless_broken at None = Ok tt
unless_broken at (Some place) = Err (Broken (at + place))

-- ---- the EBML header

-- it asks for more than version 1 of EBML, IDs of 4 octets, sizes of 8 and version 4 of Matroska
abbrev pub asks_more : List ℕ → List WholeElement → Bool
asks_more body cs = nat_lt 1 (integer body 1 (first EBML_READ_VERSION cs))
    || nat_lt 4 (integer body 4 (first EBML_MAX_ID_LENGTH cs))
    || nat_lt 8 (integer body 8 (first EBML_MAX_SIZE_LENGTH cs))
    || nat_lt 4 (integer body 1 (first DOC_TYPE_READ_VERSION cs))

abbrev pub is_matroska : List ℕ → Bool
is_matroska doc_type = pointwise nat_eq doc_type (codes "matroska") || pointwise nat_eq doc_type (codes "webm")

-- whether a film whose EBML header has these children is read
abbrev pub header_checked : List ℕ → Children → Result (Unit {0}) Refused
header_checked body cs = if is_some cs.broken then Err NotEbml else (if asks_more body cs.whole then Err Version
    else (if is_matroska (text body [] (first DOC_TYPE cs.whole)) then Ok tt else Err DocType))

abbrev pub as_header : Option WholeElement → Result WholeElement Refused
as_header None = Err NotEbml
as_header (Some c) = if c.id == EBML_HEADER then Ok c else Err NotEbml

-- the offset behind the EBML header with which the octets begin
unfoldable pub ebml_header_of : List ℕ → Result ℕ Refused
ebml_header_of octets = do
  header ← as_header (element_at octets 0)
  _ ← header_checked (body_of octets header) (children_of EbmlHeader (body_of octets header))
  Ok header.stop

-- ---- Info

-- the TimestampScale, in nanoseconds
abbrev pub positive_scale : ℕ → Result ℕ Refused
positive_scale n = if n == 0 then Err ScaleZero else Ok n

-- the scale of an Info whose body begins at an offset of the file
unfoldable pub info_of : List ℕ → ℕ → Result ℕ Refused
info_of body at = do
  _ ← unless_broken at (children_of Info body).broken
  positive_scale (integer body 1000000 (first TIMESTAMP_SCALE (children_of Info body).whole))

-- ---- Tracks

-- the kinds that are listed (RFC 9559, section 5.1.4.1.3)
abbrev pub kind_of : ℕ → Option Kind
kind_of type = if type == 1 then Some Video else (if type == 2 then Some Audio else (if type == 17 then Some Sub else None))

abbrev pub positive_number : ℕ → Result ℕ Refused
positive_number n = if n == 0 then Err NoNumber else Ok n

-- a DefaultDuration of 0 is taken as absent
abbrev pub duration : ℕ → Option ℕ
duration n = if n == 0 then None else Some n

abbrev pub track : List ℕ → List WholeElement → ℕ → Kind → Track
track body cs n kind = record {
  no = n;
  uid = integer body 0 (first TRACK_UID cs);
  kind = kind;
  codec = text body [] (first CODEC_ID cs);
  name = text body [] (first NAME cs);
  language = text body (codes "eng") (first LANGUAGE cs);
  default = not (integer body 1 (first FLAG_DEFAULT cs) == 0);
  duration = duration (integer body 0 (first DEFAULT_DURATION cs));
  encoded = is_some (first CONTENT_ENCODINGS cs);
}

-- the track of a TrackEntry whose body begins at an offset of the file; none where its type is not listed
unfoldable pub entry_of : List ℕ → ℕ → Result (Option Track) Refused
entry_of body at = do
  _ ← unless_broken at (children_of TrackEntry body).broken
  n ← positive_number (integer body 0 (first TRACK_NUMBER (children_of TrackEntry body).whole))
  Ok (option_map (λ kind. track body (children_of TrackEntry body).whole n kind)
      (kind_of (integer body 0 (first TRACK_TYPE (children_of TrackEntry body).whole))))

-- at most 64 tracks are listed, each under a number of its own
abbrev pub with_track : List Track → Option Track → Result (List Track) Refused
with_track tracks None = Ok tracks
with_track tracks (Some t) = if is_some (numbered t.no tracks) then Err TwiceNumber
    else (if nat_le 64 (length tracks) then Err TooMany else Ok (tracks ++ t ∷ []))

abbrev pub with_child : List ℕ → ℕ → List Track → WholeElement → Result (List Track) Refused
with_child body at tracks c =
    if c.id == TRACK_ENTRY then (entry_of (body_of body c) (at + c.at) >>= λ t. with_track tracks t) else Ok tracks

-- the tracks so far and those of more children, child by child
abbrev pub listed : List ℕ → ℕ → List Track → List WholeElement → Result (List Track) Refused
listed body at tracks [] = Ok tracks
listed body at tracks (c ∷ cs) = with_child body at tracks c >>= λ more. listed body at more cs

abbrev pub tracks_among : List ℕ → ℕ → List Track → Children → Result (List Track) Refused
tracks_among body at tracks cs = do
  more ← listed body at tracks cs.whole
  _ ← unless_broken at cs.broken
  Ok more

-- the tracks of a Tracks whose body begins at an offset of the file
unfoldable pub tracks_of : List ℕ → ℕ → Result (List Track) Refused
tracks_of body at = tracks_among body at [] (children_of Tracks body)

-- they are always such a list
abbrev pub TracksAreListed : Type 0
TracksAreListed = (body : List ℕ) (at : ℕ) (tracks : List Track) → tracks_of body at ≡ Ok tracks → IsTrackList tracks

-- and of octets their numbers fit 64 bits
abbrev pub NumbersFit : Type 0
NumbersFit = (body : List ℕ) (at : ℕ) (tracks : List Track) → All (λ b. b < 256) body → tracks_of body at ≡ Ok tracks → All HasNumbers tracks
