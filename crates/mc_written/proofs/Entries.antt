-- A track, read back from its entry.
use Rattle.std.proofs.Common.{◌≡◌, ◌≢◌, ℕ, suc, ◌-◌, ◌<◌, ◌^◌, Bool, true, false, List, [], ◌∷◌, ◌++◌, length, Option, Some, None, Ok, refl, sym, ap, ◌∙◌, arith, ltb, leb, All, codes, IfSome}
use Rattle.std.proofs.lemmas.Bool.{le-leb, lt-ltb, ne_eqb}
use Rattle.std.proofs.lemmas.Bool.Decides.{nat_tests}
use Rattle.std.specs.Prelude.{◌==◌, ◌||◌, not, is_some}
use Rattle.std.specs.List.{AllByRecursion}
use Rattle.byteorder.specs.Endian.{big_bytes}
use Rattle.byteorder.specs.Numbers.{length-bytes_high_first}
use Rattle.mc_packet.specs.declared.choice.Kind.{Kind}
use Rattle.mc_packet.specs.declared.choice.Kind.TheVariants.{Video, Audio, Sub}
use Rattle.mc_ebml.specs.Written.{is_id, octets_of, has_no_zero}
use Rattle.mc_ebml.specs.declared.whole.WholeElement.{WholeElement}
use Rattle.mc_tracks.specs.declared.children.Master.{Master}
use Rattle.mc_tracks.specs.declared.children.Master.TheVariants.{TrackEntry}
use Rattle.mc_tracks.specs.declared.track.Track.{Track}
use Rattle.mc_tracks.specs.Children.{is_integer, first}
use Rattle.mc_tracks.specs.Header.{integer, text, kind_of, duration, entry_of}
use Rattle.mc_ebml.specs.Ids.{TRACK_NUMBER, TRACK_UID, TRACK_TYPE, FLAG_DEFAULT, LANGUAGE, CODEC_ID, NAME, DEFAULT_DURATION, CONTENT_ENCODINGS}
use Rattle.mc_tracks.specs.TrackList.{IsPlainText}
use Rattle.mc_written.proofs.Lower.{Lower}
use Rattle.mc_written.specs.Elements.{Element, elements, number}
use Rattle.mc_written.specs.Fronts.{type_of, flag, name_element, duration_element, track_elements, CanBeListed}
use Rattle.mc_written.proofs.Standing.{stands_whole}
use Rattle.mc_written.proofs.Lengths.{number_small}
use Rattle.mc_written.proofs.Children.{CanBeChild, children_at, children_all, found, integer_value, text_value, integer_read, text_read, some_read, integer_is, text_is}

-- ---- values

pub plain_test : (octets : List ℕ) → All (λ b. b ≢ 0) octets → has_no_zero octets ≡ true
plain_test [] h = refl
plain_test (b ∷ bs) h =
    let some : b ≢ 0 = h 0 b (omega arith) in
    let above : ltb 0 b ≡ true = lt-ltb 0 b (omega arith) in
    rw above (plain_test bs (λ k d lt. h (suc k) d (omega arith)))

number_some : (n : ℕ) → 0 < length (big_bytes (octets_of n) n)
number_some n = rw (length-bytes_high_first (octets_of n) n) (grind (arith, nat_tests))

pub number_value : (law : Lower) (otherwise n : ℕ) → n < 2 ^ 64 → integer_value otherwise (Some (big_bytes (octets_of n) n)) ≡ n
number_value law otherwise n fits = integer_is otherwise n (big_bytes (octets_of n) n) (number_some n) (law.integers n fits)

-- ---- the children stand whole

pub number_child : (master : Master) (id n : ℕ) → is_id id ≡ true → CanBeChild master (number id n)
number_child master id n is =
    let short = number_small n in
    let few : leb (length (big_bytes (octets_of n) n)) 8 ≡ true = le-leb (length (big_bytes (octets_of n) n)) 8 short in
    ((is, omega arith), rw few refl)

or_true : (b : Bool) → (b || true) ≡ true
or_true true = refl
or_true false = refl

pub other_child : (master : Master) (id : ℕ) (octets : List ℕ) → is_id id ≡ true → is_integer master id ≡ false → length octets < 2 ^ 56 - 1 → CanBeChild master (id, octets)
other_child master id octets is isnt small = ((is, small), rw isnt (or_true (leb (length octets) 8)))

text_child : (id : ℕ) (octets : List ℕ) → is_id id ≡ true → is_integer TrackEntry id ≡ false → IsPlainText octets → CanBeChild TrackEntry (id, octets)
text_child id octets is isnt plain = let short = plain.short in other_child TrackEntry id octets is isnt (omega arith)

last_children : (name : List ℕ) (d : Option ℕ) → IsPlainText name → AllByRecursion (CanBeChild TrackEntry) (name_element name ++ duration_element d)
last_children [] None plain = tt
last_children [] (Some n) plain = (number_child TrackEntry DEFAULT_DURATION n refl, tt)
last_children (b ∷ bs) None plain = (text_child NAME (b ∷ bs) refl refl plain, tt)
last_children (b ∷ bs) (Some n) plain = (text_child NAME (b ∷ bs) refl refl plain, (number_child TrackEntry DEFAULT_DURATION n refl, tt))

pub track_children : (t : Track) → CanBeListed t → AllByRecursion (CanBeChild TrackEntry) (track_elements t)
track_children t can = (
  number_child TrackEntry TRACK_NUMBER t.no refl,
  (
    number_child TrackEntry TRACK_UID t.uid refl,
    (
      number_child TrackEntry TRACK_TYPE (type_of t.kind) refl,
      (
        number_child TrackEntry FLAG_DEFAULT (flag t.default) refl,
        (
          text_child LANGUAGE t.language refl refl can.listed.language,
          (text_child CODEC_ID t.codec refl refl can.listed.codec, last_children t.name t.duration can.listed.name),
        ),
      ),
    ),
  ),
)

-- ---- the fields

kind_back : (law : Lower) (kind : Kind) → kind_of (integer_value 0 (Some (big_bytes (octets_of (type_of kind)) (type_of kind)))) ≡ Some kind
kind_back law Video = rw (number_value law 0 1 (omega arith)) refl
kind_back law Audio = rw (number_value law 0 2 (omega arith)) refl
kind_back law Sub = rw (number_value law 0 17 (omega arith)) refl

flag_back : (law : Lower) (b : Bool) → not (integer_value 1 (Some (big_bytes (octets_of (flag b)) (flag b))) == 0) ≡ b
flag_back law true = rw (number_value law 1 1 (omega arith)) refl
flag_back law false = rw (number_value law 1 0 (omega arith)) refl

name_back : (name : List ℕ) (d : Option ℕ) → text_value [] (Some name) ≡ name → text_value [] (found NAME (name_element name ++ duration_element d)) ≡ name
name_back [] None is = refl
name_back [] (Some n) is = refl
name_back (b ∷ bs) d is = is

some_duration : (law : Lower) (n : ℕ) → 0 < n → n < 2 ^ 64 → duration (integer_value 0 (Some (big_bytes (octets_of n) n))) ≡ Some n
some_duration law n positive fits =
    let some : (n == 0) ≡ false = ne_eqb n 0 (λ e. omega arith) in
    rw (number_value law 0 n fits, some) refl

duration_back : (law : Lower) (t : Track) → CanBeListed t → (name : List ℕ) → duration (integer_value 0 (found DEFAULT_DURATION (name_element name ++ duration_element t.duration))) ≡ t.duration
duration_back law t can name = by_cases name t.duration can.listed.duration can.numbers.duration
  where
    by_cases : (name : List ℕ) (d : Option ℕ) → IfSome d (λ n. 0 < n) → IfSome d (λ n. n < 2 ^ 64) → duration (integer_value 0 (found DEFAULT_DURATION (name_element name ++ duration_element d))) ≡ d
    by_cases [] None h fits = refl
    by_cases [] (Some n) h fits = some_duration law n h fits
    by_cases (b ∷ bs) None h fits = refl
    by_cases (b ∷ bs) (Some n) h fits = some_duration law n h fits

not_encoded : (name : List ℕ) (d : Option ℕ) → is_some (found CONTENT_ENCODINGS (name_element name ++ duration_element d)) ≡ false
not_encoded [] None = refl
not_encoded [] (Some n) = refl
not_encoded (b ∷ bs) None = refl
not_encoded (b ∷ bs) (Some n) = refl

plain_text : (law : Lower) (otherwise octets : List ℕ) → IsPlainText octets → text_value otherwise (Some octets) ≡ octets
plain_text law otherwise octets plain = text_is law otherwise octets plain.short plain.utf8 (plain_test octets plain.no_zero)

-- ---- the whole

pub entry_read : (law : Lower) (t : Track) (at : ℕ) → CanBeListed t → entry_of (elements (track_elements t)) at ≡ Ok (Some t)
unfolding entry_of
entry_read law t at can =
    let es : List Element = track_elements t in
    let body : List ℕ = elements es in
    let cs : List WholeElement = children_at 0 es in
    let stands = stands_whole body in
    let no : integer body 0 (first TRACK_NUMBER cs) ≡ t.no = integer_read body 0 0 TRACK_NUMBER es stands ∙ number_value law 0 t.no can.numbers.number in
    let some : (t.no == 0) ≡ false = let above = can.listed.positive in ne_eqb t.no 0 (λ e. omega arith) in
    let uid : integer body 0 (first TRACK_UID cs) ≡ t.uid = integer_read body 0 0 TRACK_UID es stands ∙ number_value law 0 t.uid can.numbers.uid in
    let kind : kind_of (integer body 0 (first TRACK_TYPE cs)) ≡ Some t.kind = ap kind_of (integer_read body 0 0 TRACK_TYPE es stands) ∙ kind_back law t.kind in
    let codec : text body [] (first CODEC_ID cs) ≡ t.codec = text_read body 0 [] CODEC_ID es stands ∙ plain_text law [] t.codec can.listed.codec in
    let name : text body [] (first NAME cs) ≡ t.name = text_read body 0 [] NAME es stands ∙ name_back t.name t.duration (plain_text law [] t.name can.listed.name) in
    let language : text body (codes "eng") (first LANGUAGE cs) ≡ t.language = text_read body 0 (codes "eng") LANGUAGE es stands ∙ plain_text law (codes "eng") t.language can.listed.language in
    let default : not (integer body 1 (first FLAG_DEFAULT cs) == 0) ≡ t.default = ap (λ (n : ℕ). not (n == 0)) (integer_read body 0 1 FLAG_DEFAULT es stands) ∙ flag_back law t.default in
    let lasts : duration (integer body 0 (first DEFAULT_DURATION cs)) ≡ t.duration = ap duration (integer_read body 0 0 DEFAULT_DURATION es stands) ∙ duration_back law t can t.name in
    let encoded : is_some (first CONTENT_ENCODINGS cs) ≡ t.encoded = some_read 0 CONTENT_ENCODINGS es ∙ not_encoded t.name t.duration ∙ sym can.plain in
    rw (children_all law TrackEntry es (track_children t can), no, some, kind, uid, codec, name, language, default, lasts, encoded) refl
