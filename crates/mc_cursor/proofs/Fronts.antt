-- The first octets of a film tell its EBML header.
use Rattle.std.proofs.Common.{◌≡◌, ℕ, ◌+◌, ◌-◌, ◌<◌, ◌≤◌, max, Bool, true, false, List, length, take, drop, Option, Result, Ok, Err, refl, sym, ap, ◌∙◌, arith, length-take, lit≤}
use Rattle.std.proofs.lemmas.List.{take-take, drop-take, take_all}
use Rattle.std.proofs.lemmas.Bool.{cond_both}
use Rattle.std.proofs.lemmas.Bool.Decides.{nat_tests}
use Rattle.std.specs.Prelude.{IfOk, nat_le, ◌==◌, slice_range}
use Rattle.mc_ebml.specs.declared.read.Head.{Head}
use Rattle.mc_ebml.specs.declared.read.Size.{Size}
use Rattle.mc_ebml.specs.declared.read.Size.TheVariants.{Known, Unknown}
use Rattle.mc_ebml.specs.declared.read.EbmlError.{EbmlError}
use Rattle.mc_ebml.specs.Element.{head_at}
use Rattle.mc_ebml.specs.declared.whole.WholeElement.{WholeElement}
use Rattle.mc_tracks.specs.declared.children.Master.TheVariants.{EbmlHeader}
use Rattle.mc_tracks.specs.declared.refused.Refused.{Refused}
use Rattle.mc_tracks.specs.declared.refused.Refused.TheVariants.{NotEbml}
use Rattle.mc_tracks.specs.Answer.{◌>>=◌}
use Rattle.mc_ebml.specs.Whole.{whole_element, element_at}
use Rattle.mc_tracks.specs.Children.{children_of}
use Rattle.mc_tracks.specs.Header.{body_of, as_header, header_checked, ebml_header_of}
use Rattle.mc_ebml.specs.Ids.{EBML_HEADER}
use Rattle.mc_cursor.specs.declared.reading.Found.{Found}
use Rattle.mc_cursor.specs.declared.reading.Found.TheVariants as found
use Rattle.mc_cursor.specs.Reads.{found_at, found_by, ends_before, Told}
use Rattle.mc_cursor.specs.Begins.{header_span, Gives}
use Rattle.mc_cursor.specs.declared.error.OpenError.{OpenError}
use Rattle.mc_block.specs.Fronts.{moved_by}
use Rattle.mc_block.proofs.Heads.{head_window}

take_front : (k m : ℕ) (octets : List ℕ) → k ≤ m → take k (take m octets) ≡ take k octets
take_front k m octets le = take-take k m octets le

drop_front : (at n m : ℕ) (octets : List ℕ) → m ≡ at + n → drop at (take m octets) ≡ take n (drop at octets)
drop_front at n m octets e = rw e (drop-take at n octets)

part_front : (at stop m : ℕ) (octets : List ℕ) → at ≤ stop → stop ≤ m → slice_range (take m octets) at stop ≡ slice_range octets at stop
part_front at stop m octets order le =
    ap (take (stop - at)) (drop_front at (m - at) m octets (omega arith)) ∙ take-take (stop - at) (m - at) (drop at octets) (omega arith)

whole_front : (stop m : ℕ) (octets : List ℕ) → stop ≤ m → nat_le stop (length (take m octets)) ≡ nat_le stop (length octets)
whole_front stop m octets le = grind (arith, nat_tests, length-take m octets)

head_front : (m : ℕ) (octets : List ℕ) → 12 ≤ m → head_at (take m octets) 0 ≡ head_at octets 0
head_front m octets le =
    head_window (take m octets) 0 ∙ ap (λ w. moved_by 0 (head_at w 0)) (take_front 12 m octets le) ∙ sym (head_window octets 0)

abbrev header_at : List ℕ → WholeElement → Result ℕ Refused
header_at octets c = header_checked (body_of octets c) (children_of EbmlHeader (body_of octets c)) >>= λ _. Ok c.stop

abbrev header_by : List ℕ → ℕ → Result Head EbmlError → Result ℕ Refused
header_by octets len head = as_header (whole_element len 0 head) >>= header_at octets

header_join : (octets : List ℕ) → ebml_header_of octets ≡ header_by octets (length octets) (head_at octets 0)
unfolding ebml_header_of element_at
header_join octets = refl

same_whole : (octets : List ℕ) (m : ℕ) (h : Head) (size : ℕ) (whole : Bool) → h.size ≡ Known size → h.id == EBML_HEADER ≡ true → h.body + size ≤ m → nat_le (h.body + size) (length octets) ≡ whole
    → header_by (take m octets) (length (take m octets)) (Ok h) ≡ header_by octets (length octets) (Ok h)
same_whole octets m h size true sized is le whole =
    rw (sized, whole_front (h.body + size) m octets le, whole, is, part_front h.body (h.body + size) m octets (omega arith) le) refl
same_whole octets m h size false sized is le whole = rw (sized, whole_front (h.body + size) m octets le, whole) refl

not_header : (len : ℕ) (octets : List ℕ) (h : Head) (size : ℕ) (whole : Bool) → h.size ≡ Known size → h.id == EBML_HEADER ≡ false → nat_le (h.body + size) len ≡ whole
    → header_by octets len (Ok h) ≡ Err NotEbml
not_header len octets h size true sized isnt whole = rw (sized, whole, isnt) refl
not_header len octets h size false sized isnt whole = rw (sized, whole) refl

same_known : (octets : List ℕ) (m : ℕ) (h : Head) (size : ℕ) (is : Bool) → h.size ≡ Known size → h.id == EBML_HEADER ≡ is → m ≡ header_span (found_by (Ok h))
    → header_by (take m octets) (length (take m octets)) (Ok h) ≡ header_by octets (length octets) (Ok h)
same_known octets m h size true sized is span =
    let le : m ≡ max 12 (h.body + size) = rw (is, sized) at span in
    same_whole octets m h size (nat_le (h.body + size) (length octets)) sized is (omega arith) refl
same_known octets m h size false sized isnt span =
    not_header (length (take m octets)) (take m octets) h size (nat_le (h.body + size) (length (take m octets))) sized isnt refl
    ∙ sym (not_header (length octets) octets h size (nat_le (h.body + size) (length octets)) sized isnt refl)

same_sized : (octets : List ℕ) (m : ℕ) (h : Head) (size : Size) → h.size ≡ size → m ≡ header_span (found_by (Ok h))
    → header_by (take m octets) (length (take m octets)) (Ok h) ≡ header_by octets (length octets) (Ok h)
same_sized octets m h Unknown sized span = rw sized refl
same_sized octets m h (Known size) sized span = same_known octets m h size (h.id == EBML_HEADER) sized refl span

same_headed : (octets : List ℕ) (m : ℕ) (head : Result Head EbmlError) → m ≡ header_span (found_by head)
    → header_by (take m octets) (length (take m octets)) head ≡ header_by octets (length octets) head
same_headed octets m (Err e) span = refl
same_headed octets m (Ok h) span = same_sized octets m h h.size refl span

span_long : (f : Found) → 12 ≤ header_span f
span_long found.End = lit≤ tt
span_long (found.Bad e) = lit≤ tt
span_long (found.Element h) = cond_both (h.id == EBML_HEADER) _ _ (λ n. 12 ≤ n) (λ e. omega arith) (λ e. lit≤ tt)

by_place : (octets : List ℕ) (m : ℕ) (at_end : Bool) → 0 == length octets ≡ at_end → m ≡ header_span (found_at octets 0) → ebml_header_of (take m octets) ≡ ebml_header_of octets
by_place octets m true at_end span =
    let none : octets ≡ take m octets = sym (take_all m octets (grind (arith, nat_tests))) in ap ebml_header_of (sym none)
by_place octets m false at_end span =
    let one : found_at octets 0 ≡ found_by (head_at octets 0) = rw at_end refl in
    let long : 12 ≤ m = rw span (span_long (found_at octets 0)) in
    header_join (take m octets) ∙ ap (header_by (take m octets) (length (take m octets))) (head_front m octets long)
    ∙ same_headed octets m (head_at octets 0) (span ∙ ap header_span one) ∙ sym (header_join octets)

-- what its first octets say is what it says
pub header_front : (octets : List ℕ) (m : ℕ) → m ≡ header_span (found_at octets 0) → ebml_header_of (take m octets) ≡ ebml_header_of octets
header_front octets m span = by_place octets m (0 == length octets) refl span

pub header_read : (octets bytes : List ℕ) (m : ℕ) (f : Found) → m ≡ header_span f → f ≡ found_at octets 0 → bytes ≡ take m octets → ebml_header_of bytes ≡ ebml_header_of octets
header_read octets bytes m f span at_start read = ap ebml_header_of read ∙ header_front octets m (span ∙ ap header_span at_start)

-- ---- where it runs past the film

cut_whole : (octets : List ℕ) (h : Head) (size : ℕ) (whole : Bool) → h.size ≡ Known size → nat_le (h.body + size) (length octets) ≡ whole → length octets < h.body + size
    → header_by octets (length octets) (Ok h) ≡ Err NotEbml
cut_whole octets h size true sized w short = absurd (grind (arith, nat_tests))
cut_whole octets h size false sized w short = rw (sized, w) refl

cut_known : (octets : List ℕ) (h : Head) (size : ℕ) (is : Bool) → h.size ≡ Known size → h.id == EBML_HEADER ≡ is → 12 < header_span (found_by (Ok h)) → length octets < header_span (found_by (Ok h))
    → header_by octets (length octets) (Ok h) ≡ Err NotEbml
cut_known octets h size true sized is long short =
    let e : header_span (found_by (Ok h)) ≡ max 12 (h.body + size) = rw (is, sized) refl in
    cut_whole octets h size (nat_le (h.body + size) (length octets)) sized refl (omega (arith, long, short, e))
cut_known octets h size false sized isnt long short = let e : header_span (found_by (Ok h)) ≡ 12 = rw isnt refl in absurd (omega (arith, long, e))

cut_sized : (octets : List ℕ) (h : Head) (size : Size) → h.size ≡ size → 12 < header_span (found_by (Ok h)) → length octets < header_span (found_by (Ok h))
    → header_by octets (length octets) (Ok h) ≡ Err NotEbml
cut_sized octets h Unknown sized long short = rw sized refl
cut_sized octets h (Known size) sized long short = cut_known octets h size (h.id == EBML_HEADER) sized refl long short

cut_headed : (octets : List ℕ) (head : Result Head EbmlError) → 12 < header_span (found_by head) → length octets < header_span (found_by head)
    → header_by octets (length octets) head ≡ Err NotEbml
cut_headed octets (Err e) long short = absurd (omega (arith, long))
cut_headed octets (Ok h) long short = cut_sized octets h h.size refl long short

cut_found : (octets : List ℕ) (at_end : Bool) → 0 == length octets ≡ at_end → 12 < header_span (found_at octets 0) → length octets < header_span (found_at octets 0)
    → ebml_header_of octets ≡ Err NotEbml
cut_found octets true at_end long short = let e : header_span (found_at octets 0) ≡ 12 = rw at_end refl in absurd (omega (arith, long, e))
cut_found octets false at_end long short =
    let one : found_at octets 0 ≡ found_by (head_at octets 0) = rw at_end refl in
    header_join octets ∙ cut_headed octets (head_at octets 0) (rw one at long) (rw one at short)

-- a header that ends behind the film is refused
pub header_cut : (octets : List ℕ) (m : ℕ) (f : Found) → m ≡ header_span f → f ≡ found_at octets 0 → 4096 < m → ends_before octets m ≡ true → ebml_header_of octets ≡ Err NotEbml
header_cut octets m f span at_start large cut =
    let e : m ≡ header_span (found_at octets 0) = span ∙ ap header_span at_start in
    let short : length octets < m = grind (arith, nat_tests) in
    cut_found octets (0 == length octets) refl (omega (arith, large, e)) (omega (arith, short, e))

-- ---- how far it reaches

checked_stop : (checked : Result (Unit {0}) Refused) (stop at : ℕ) → checked >>= (λ _. Ok stop) ≡ Ok at → at ≡ stop
checked_stop (Ok x) stop at gives = cc gives
checked_stop (Err e) stop at gives = absurd (cc gives)

span_whole : (octets : List ℕ) (len at : ℕ) (h : Head) (size : ℕ) (whole is : Bool) → h.size ≡ Known size → nat_le (h.body + size) len ≡ whole → h.id == EBML_HEADER ≡ is
    → header_by octets len (Ok h) ≡ Ok at → header_span (found_by (Ok h)) ≤ max 12 at
span_whole octets len at h size true true sized whole is gives =
    let c : WholeElement = record { id = h.id; place = 0; at = h.body; stop = h.body + size } in
    let e : header_at octets c ≡ Ok at = rw (sized, whole, is) at gives in
    let stop : at ≡ h.body + size = checked_stop (header_checked (body_of octets c) (children_of EbmlHeader (body_of octets c))) (h.body + size) at e in
    rw (is, sized) (omega (arith, stop))
span_whole octets len at h size false true sized cut is gives = let e : Err NotEbml ≡ Ok at = rw (sized, cut) at gives in absurd (cc e)
span_whole octets len at h size whole false sized w isnt gives = rw isnt (omega arith)

span_sized : (octets : List ℕ) (len at : ℕ) (h : Head) (size : Size) → h.size ≡ size → header_by octets len (Ok h) ≡ Ok at → header_span (found_by (Ok h)) ≤ max 12 at
span_sized octets len at h Unknown sized gives = let e : Err NotEbml ≡ Ok at = rw sized at gives in absurd (cc e)
span_sized octets len at h (Known size) sized gives = span_whole octets len at h size (nat_le (h.body + size) len) (h.id == EBML_HEADER) sized refl refl gives

span_headed : (octets : List ℕ) (len at : ℕ) (head : Result Head EbmlError) → header_by octets len head ≡ Ok at → header_span (found_by head) ≤ max 12 at
span_headed octets len at (Err e) gives = omega arith
span_headed octets len at (Ok h) gives = span_sized octets len at h h.size refl gives

span_within : (octets : List ℕ) (at : ℕ) → ebml_header_of octets ≡ Ok at → header_span (found_at octets 0) ≤ max 12 at
span_within octets at gives =
    cond_both (0 == length octets) _ _ (λ f. header_span f ≤ max 12 at) (λ e. omega arith)
    (λ e. span_headed octets (length octets) at (head_at octets 0) (sym (header_join octets) ∙ gives))

-- reading it asks for no more than 12 octets, or for its own
pub header_near : (c : Option (List ℕ)) (result : Result ℕ OpenError) (f : Found) (span before between now : ℕ) → Told c (λ octets. Gives result (ebml_header_of octets)) → Told c (λ octets. f ≡ found_at octets 0)
    → between ≤ max before 12 → span ≡ header_span f → now ≤ max between span → IfOk result (λ n. Told c (λ octets. now ≤ max before (max 12 n)))
header_near c (Err e) f span before between now gives is first size second = tt
header_near c (Ok n) f span before between now gives is first size second = λ octets told.
    let short : header_span f ≤ max 12 n = rw (is octets told) (span_within octets n (gives octets told)) in
    omega (arith, first, size, second, short)
