-- The list of tracks, read back.
use Rattle.std.proofs.Common.{◌≡◌, ℕ, ◌+◌, ◌*◌, ◌≤◌, false, List, [], ◌∷◌, ◌++◌, length, get_or, map, Option, Some, None, Ok, refl, sym, ap, arith, length-append, append_assoc, leb}
use Rattle.std.proofs.Math.Seq.{take-append_seam}
use Rattle.std.proofs.lemmas.List.{append-nil}
use Rattle.std.proofs.lemmas.Bool.{lt-leb}
use Rattle.std.specs.List.{AllByRecursion}
use Rattle.mc_tracks.specs.declared.children.Master.TheVariants.{Tracks}
use Rattle.mc_tracks.specs.declared.track.Track.{Track}
use Rattle.mc_tracks.specs.Header.{listed, tracks_of}
use Rattle.mc_ebml.specs.Ids.{TRACK_ENTRY, TRACK_NUMBER, TRACK_UID, TRACK_TYPE, FLAG_DEFAULT, LANGUAGE, CODEC_ID, NAME, DEFAULT_DURATION}
use Rattle.mc_tracks.specs.TrackList.{numbered, HaveDistinctNumbers, IsListed, IsPlainText}
use Rattle.mc_written.proofs.Lower.{Lower}
use Rattle.mc_written.specs.Elements.{Element, element_text, elements, number}
use Rattle.mc_written.specs.Fronts.{type_of, flag, name_element, duration_element, track_elements, entry, tracks_body, IsShortText, HasShortTexts, CanBeListed}
use Rattle.mc_written.proofs.Standing.{Stands, stands_whole, first_part, second_part}
use Rattle.mc_written.proofs.Lengths.{number_small, one_more}
use Rattle.mc_written.proofs.Children.{CanBeChild, children_at, children_all, body_read}
use Rattle.mc_written.proofs.Entries.{other_child, entry_read}

-- ---- how long they are

lasts_short : (name : List ℕ) (d : Option ℕ) → length name ≤ 65536 → length (elements (name_element name ++ duration_element d)) ≤ 65576
lasts_short [] None short = omega arith
lasts_short [] (Some n) short = omega (arith, one_more (number DEFAULT_DURATION n) [], number_small n)
lasts_short (b ∷ bs) None short = omega (arith, one_more (NAME, b ∷ bs) [])
lasts_short (b ∷ bs) (Some n) short = omega (arith, one_more (NAME, b ∷ bs) (number DEFAULT_DURATION n ∷ []), one_more (number DEFAULT_DURATION n) [], number_small n)

-- a film's tracks have short texts
text_is_short : (text : List ℕ) → IsPlainText text → IsShortText text
text_is_short text plain = record { short = plain.short; no_zero = plain.no_zero }

short_texts : (t : Track) → IsListed t → HasShortTexts t
short_texts t listed = record { codec = text_is_short t.codec listed.codec; name = text_is_short t.name listed.name; language = text_is_short t.language listed.language }

pub entry_short : (t : Track) → HasShortTexts t → length (elements (track_elements t)) ≤ 196776
entry_short t can =
    let codec = can.codec.short in
    let name = can.name.short in
    let language = can.language.short in
    let e7 : List Element = name_element t.name ++ duration_element t.duration in
    let e6 : List Element = (CODEC_ID, t.codec) ∷ e7 in
    let e5 : List Element = (LANGUAGE, t.language) ∷ e6 in
    let e4 : List Element = number FLAG_DEFAULT (flag t.default) ∷ e5 in
    let e3 : List Element = number TRACK_TYPE (type_of t.kind) ∷ e4 in
    let e2 : List Element = number TRACK_UID t.uid ∷ e3 in
    omega (
      arith,
      one_more (number TRACK_NUMBER t.no) e2,
      one_more (number TRACK_UID t.uid) e3,
      one_more (number TRACK_TYPE (type_of t.kind)) e4,
      one_more (number FLAG_DEFAULT (flag t.default)) e5,
      one_more (LANGUAGE, t.language) e6,
      one_more (CODEC_ID, t.codec) e7,
      number_small t.no,
      number_small t.uid,
      number_small (type_of t.kind),
      number_small (flag t.default),
      lasts_short t.name t.duration name,
    )

pub tracks_short : (ts : List Track) → AllByRecursion HasShortTexts ts → length (tracks_body ts) ≤ length ts * 196792
tracks_short [] all = omega arith
tracks_short (t ∷ ts) all = omega (arith, one_more (entry t) (map entry ts), entry_short t all.0, tracks_short ts all.1)

pub have_short_texts : (ts : List Track) → AllByRecursion CanBeListed ts → AllByRecursion HasShortTexts ts
have_short_texts [] all = tt
have_short_texts (t ∷ ts) all = (short_texts t all.0.listed, have_short_texts ts all.1)

-- ---- the children stand whole

entries_children : (ts : List Track) → AllByRecursion CanBeListed ts → AllByRecursion (CanBeChild Tracks) (map entry ts)
entries_children [] all = tt
entries_children (t ∷ ts) all =
    let short = entry_short t (short_texts t all.0.listed) in
    (other_child Tracks TRACK_ENTRY (elements (track_elements t)) refl refl (omega arith), entries_children ts all.1)

-- ---- one behind the other

here : (done : List Track) (t : Track) (ts : List Track) → t ≡ get_or (done ++ t ∷ ts) (length done) t
here [] t ts = refl
here (d ∷ done) t ts = here done t ts

new : (law : Lower) (done : List Track) (t : Track) (ts : List Track) → HaveDistinctNumbers (done ++ t ∷ ts) → numbered t.no done ≡ None
new law done t ts distinct =
    let among = law.numbers (done ++ t ∷ ts) (length done) t (omega (arith, length-append done (t ∷ ts))) (here done t ts) distinct in
    rw (take-append_seam done (t ∷ ts)) at among

pub listed_read : (law : Lower) (body : List ℕ) (at place : ℕ) (done ts : List Track) → Stands body place (tracks_body ts) → AllByRecursion CanBeListed ts → length (done ++ ts) ≤ 64
    → HaveDistinctNumbers (done ++ ts) → listed body at done (children_at place (map entry ts)) ≡ Ok (done ++ ts)
listed_read law body at place done [] s all few distinct = ap (λ (ts : List Track). Ok ts) (sym (append-nil done))
listed_read law body at place done (t ∷ ts) s all few distinct =
    let text : List ℕ = element_text (entry t) in
    let so_far : leb 64 (length done) ≡ false = lt-leb 64 (length done) (omega (arith, length-append done (t ∷ ts))) in
    let joined : (done ++ t ∷ []) ++ ts ≡ done ++ t ∷ ts = append_assoc done (t ∷ []) ts in
    let rest = listed_read law body at (place + length text) (done ++ t ∷ []) ts (second_part body text (tracks_body ts) place s) all.1
    (rw joined few) (rw joined distinct) in
    let all_of = rw joined at rest in
    rw (body_read body place (entry t) (first_part body text (tracks_body ts) place s), entry_read law t _ all.0, new law done t ts distinct, so_far) all_of

pub tracks_read : (law : Lower) (ts : List Track) (at : ℕ) → AllByRecursion CanBeListed ts → length ts ≤ 64 → HaveDistinctNumbers ts → tracks_of (tracks_body ts) at ≡ Ok ts
unfolding tracks_of
tracks_read law ts at all few distinct =
    rw (children_all law Tracks (map entry ts) (entries_children ts all), listed_read law (tracks_body ts) at 0 [] ts (stands_whole (tracks_body ts)) all few distinct) refl
