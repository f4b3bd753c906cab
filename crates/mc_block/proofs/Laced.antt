-- A lace is good where the sizes that are still wanted are, one after the other.
use Rattle.std.proofs.Common.{◌≡◌, ℕ, zero, suc, ◌+◌, ◌-◌, ◌*◌, ◌/◌, ◌%◌, ◌<◌, ◌≤◌, ◌==◌, Bool, true, false, List, [], ◌∷◌, length, take, drop, sum, min, Option, Some, None, Result, Ok, Err, ℤ, pos, negsuc, refl, sym, ap, ◌∙◌, arith, length-drop, add_assoc, zero-add, ◌^◌}
use Rattle.std.specs.Prelude.{IfSome, ◌+ℤ◌, replicate, nat_le, nat_lt, if◌then◌else◌, ⊤}
use Rattle.std.proofs.lemmas.Bool.Decides.{nat_tests}
use Rattle.std.proofs.lemmas.List.{drop-take, take_all, length-replicate}
use Rattle.std.proofs.lemmas.List.Sums.{sum_by-cons}
use Rattle.std.proofs.lemmas.List.Folds.{sum_by-replicate}
use Rattle.mc_ebml.specs.declared.read.Size.{Size}
use Rattle.mc_ebml.specs.declared.read.Size.TheVariants.{Known, Unknown}
use Rattle.mc_ebml.specs.declared.read.Coded.{Coded}
use Rattle.mc_ebml.specs.declared.read.EbmlError.{EbmlError}
use Rattle.mc_ebml.specs.declared.read.EbmlError.TheVariants.{Short, BadSize}
use Rattle.mc_ebml.specs.Element.{width, coded_from, coded_at, size_at, size_of, ◌>>=◌}
use Rattle.byteorder.specs.Endian.{big_number}
use Rattle.mc_block.specs.declared.error.BlockError.TheVariants.{BadLace}
use Rattle.mc_block.specs.declared.lace.Lacing.{Lacing}
use Rattle.mc_block.specs.declared.lace.Lacing.TheVariants.{Single, Xiph, Fixed, Ebml}
use Rattle.mc_block.specs.declared.lace_reader.LaceReader.{LaceReader}
use Rattle.mc_block.specs.Frames.{Front, front, ◌then◌, longer, xiph_size, known, sized, first_size, difference, natural, changed, changed_size, next_size, size_in_front, coded_sizes, lace_sizes, spans, fitted, laced, lacing_of, has_lace, is_laced, frames_in, frames_of}
use Rattle.mc_block.specs.Fronts.{fits, is_good, ReadsByOctets, counted, frames_if}
use Rattle.mc_block.proofs.Runs.{Leaves, coded_leaves}
use Rattle.mc_block.proofs.Heads.{coded_window}

-- ---- one size more

pub fits_behind : (claimed size : ℕ) (r : Front (List ℕ)) → fits claimed (size_in_front size r) ≡ fits (claimed + size) r
fits_behind claimed size None = refl
fits_behind claimed size (Some x) = rw (sum_by-cons (λ (n : ℕ). n) size x.0, add_assoc) refl

-- sizes that claim more than there is
too_much : (claimed len : ℕ) (r : Front (List ℕ)) → Leaves len r → len < claimed → fits claimed r ≡ false
too_much claimed len None h more = refl
too_much claimed len (Some x) h more = grind (arith, nat_tests)

pub no_room : (lacing : Lacing) (n claimed : ℕ) (before : Option ℕ) (octets : List ℕ) → length octets < claimed → fits claimed (coded_sizes lacing n before octets) ≡ false
no_room lacing n claimed before octets more = too_much claimed (length octets) (coded_sizes lacing n before octets) (coded_leaves lacing n before octets) more

pub none_wanted : (lace : LaceReader) (octets : List ℕ) → lace.wanted ≡ 0 → lace.claimed ≤ length octets → is_good lace octets ≡ true
none_wanted lace octets none le = rw none (grind (arith, nat_tests))

-- ---- octets

by_octets : (lacing : Lacing) (before : Option ℕ) (octets : List ℕ) → ReadsByOctets lacing → next_size lacing before octets ≡ xiph_size octets
by_octets Single before octets is = refl
by_octets Xiph before octets is = refl
by_octets Fixed before octets is = refl
by_octets Ebml before octets is = absurd is

-- the size before tells nothing then
any_before : (lacing : Lacing) (n : ℕ) (one other : Option ℕ) (octets : List ℕ) → ReadsByOctets lacing → coded_sizes lacing n one octets ≡ coded_sizes lacing n other octets
any_before lacing zero one other octets is = refl
any_before lacing (suc n) one other octets is = rw (by_octets lacing one octets is, by_octets lacing other octets is) refl

longer_fits : (lacing : Lacing) (n claimed b : ℕ) (size : Front ℕ) → ReadsByOctets lacing
    → fits claimed (longer b size then (λ size left. size_in_front size (coded_sizes lacing n (Some size) left)))
    ≡ fits (claimed + b) (size then (λ size left. size_in_front size (coded_sizes lacing n (Some size) left)))
longer_fits lacing n claimed b None is = refl
longer_fits lacing n claimed b (Some x) is =
    fits_behind claimed (b + x.0) (coded_sizes lacing n (Some (b + x.0)) x.1)
    ∙ rw (any_before lacing n (Some (b + x.0)) (Some x.0) x.1 is, ← add_assoc) (sym (fits_behind (claimed + b) x.0 (coded_sizes lacing n (Some x.0) x.1)))

-- how many sizes are wanted behind an octet
abbrev pub wanted_behind : ℕ → ℕ → ℕ
wanted_behind b n = if nat_lt b 255 then n - 1 else n

octet_by : (lacing : Lacing) (n claimed b : ℕ) (bs : List ℕ) (before : Option ℕ) (ends : Bool) → nat_lt b 255 ≡ ends → ReadsByOctets lacing
    → fits claimed (coded_sizes lacing (suc n) before (b ∷ bs)) ≡ fits (claimed + b) (coded_sizes lacing (wanted_behind b (suc n)) before bs)
octet_by lacing n claimed b bs before true ends is =
    let k : suc n - 1 ≡ n = omega arith in
    rw (by_octets lacing before (b ∷ bs) is, ends, k) (fits_behind claimed b (coded_sizes lacing n (Some b) bs) ∙ rw (any_before lacing n (Some b) before bs is) refl)
octet_by lacing n claimed b bs before false more is =
    rw (by_octets lacing before (b ∷ bs) is, more, by_octets lacing before bs is) (longer_fits lacing n claimed b (xiph_size bs) is)

pub octet_on : (lacing : Lacing) (wanted claimed b : ℕ) (bs : List ℕ) (before : Option ℕ) → 0 < wanted → ReadsByOctets lacing
    → fits claimed (coded_sizes lacing wanted before (b ∷ bs)) ≡ fits (claimed + b) (coded_sizes lacing (wanted_behind b wanted) before bs)
octet_on lacing zero claimed b bs before positive is = absurd (omega arith)
octet_on lacing (suc n) claimed b bs before positive is = octet_by lacing n claimed b bs before (nat_lt b 255) refl is

-- ---- numbers

-- what stands behind a number tells how many octets it takes
same_width : (k w : ℕ) (octets : List ℕ) → k ≤ length octets → w ≤ length octets → drop k octets ≡ drop w octets → k ≡ w
same_width k w octets le le' same =
    let lengths : length (drop k octets) ≡ length (drop w octets) = ap length same in
    omega (arith, lengths, length-drop k octets, length-drop w octets)

pub number_on : (lacing : Lacing) (wanted claimed size : ℕ) (octets left : List ℕ) (before : Option ℕ) → 0 < wanted → Some (size, left) ≡ next_size lacing before octets
    → fits claimed (coded_sizes lacing wanted before octets) ≡ fits (claimed + size) (coded_sizes lacing (wanted - 1) (Some size) left)
number_on lacing zero claimed size octets left before positive next = absurd (omega arith)
number_on lacing (suc n) claimed size octets left before positive next =
    let k : suc n - 1 ≡ n = omega arith in
    rw (← next, k) (fits_behind claimed size (coded_sizes lacing n (Some size) left))

pub no_number : (lacing : Lacing) (wanted claimed : ℕ) (octets : List ℕ) (before : Option ℕ) → 0 < wanted → None ≡ next_size lacing before octets
    → fits claimed (coded_sizes lacing wanted before octets) ≡ false
no_number lacing zero claimed octets before positive next = absurd (omega arith)
no_number lacing (suc n) claimed octets before positive next = rw (← next) refl

-- ---- numbers in the octets with which they begin

coded_here : (m : ℕ) (r : List ℕ) (few : Bool) → nat_lt m 8 ≡ few → min 8 (length r) ≤ m → coded_from r ≡ coded_from (take m r)
coded_here m r true few enough = ap coded_from (sym (take_all m r (grind (arith, nat_tests))))
coded_here m r false many enough = coded_window m r (grind (arith, nat_tests))

-- how many octets a number takes
abbrev IsWithin : ℕ → Result Coded EbmlError → Type 0
IsWithin len (Ok n) = n.width ≤ len
IsWithin len (Err e) = ⊤

coded_within : (r : List ℕ) → IsWithin (length r) (coded_from r)
coded_within [] = tt
coded_within (b ∷ bs) = by_first (b == 0)
  where
    by_room : (short : Bool) → nat_lt (length (b ∷ bs)) (width b) ≡ short
        → IsWithin (length (b ∷ bs)) (if short then Err Short else Ok (record { value = big_number (width b) (b ∷ bs) % 2 ^ (7 * width b); width = width b }))
    by_room true is = tt
    by_room false is = grind (arith, nat_tests)

    by_first : (none : Bool) → IsWithin (length (b ∷ bs)) (if none then Err BadSize else (if nat_lt (length (b ∷ bs)) (width b) then Err Short
        else Ok (record { value = big_number (width b) (b ∷ bs) % 2 ^ (7 * width b); width = width b })))
    by_first true = tt
    by_first false = by_room (nat_lt (length (b ∷ bs)) (width b)) refl

-- the first size, and a later one, by the number that codes it
abbrev first_by : List ℕ → Result Coded EbmlError → Front ℕ
first_by octets (Ok n) = known (size_of n) (drop n.width octets)
first_by octets (Err e) = None

first_joined : (octets : List ℕ) → first_size octets ≡ first_by octets (coded_from octets)
unfolding size_at coded_at
first_joined octets = go (coded_from octets)
  where
    go : (r : Result Coded EbmlError) → sized (r >>= (λ n. Ok (size_of n, 0 + n.width))) octets ≡ first_by octets r
    go (Ok n) = rw zero-add refl
    go (Err e) = refl

changed_joined : (size : ℕ) (octets : List ℕ) → changed_size size octets ≡ changed size (coded_from octets) octets
unfolding coded_at
changed_joined size octets = refl

abbrev what_of : Front ℕ → ℕ
what_of None = 0
what_of (Some x) = x.0

abbrev left_of : Front ℕ → List ℕ
left_of None = []
left_of (Some x) = x.1

-- a number that was read in front of some octets stands in front of longer ones
known_moved : (found : Option (ℕ × ℕ)) (size : Size) (w : ℕ) (short long : List ℕ) → w ≤ length short → IfSome found (λ x. x.1 ≤ length short)
    → front short found ≡ known size (drop w short) → front long found ≡ known size (drop w long)
known_moved None Unknown w short long le bounds e = refl
known_moved None (Known n) w short long le bounds e = absurd (cc e)
known_moved (Some x) Unknown w short long le bounds e = absurd (cc e)
known_moved (Some x) (Known n) w short long le bounds e =
    let size : x.0 ≡ n = ap what_of e in
    let left : drop x.1 short ≡ drop w short = ap left_of e in
    rw (size, same_width x.1 w short bounds le left) refl

natural_moved : (found : Option (ℕ × ℕ)) (size : ℤ) (w : ℕ) (short long : List ℕ) → w ≤ length short → IfSome found (λ x. x.1 ≤ length short)
    → front short found ≡ natural size (drop w short) → front long found ≡ natural size (drop w long)
natural_moved None (negsuc n) w short long le bounds e = refl
natural_moved None (pos n) w short long le bounds e = absurd (cc e)
natural_moved (Some x) (negsuc n) w short long le bounds e = absurd (cc e)
natural_moved (Some x) (pos n) w short long le bounds e =
    let size : x.0 ≡ n = ap what_of e in
    let left : drop x.1 short ≡ drop w short = ap left_of e in
    rw (size, same_width x.1 w short bounds le left) refl

none_moved : (found : Option (ℕ × ℕ)) (short long : List ℕ) → front short found ≡ None → front long found ≡ None
none_moved None short long e = refl
none_moved (Some x) short long e = absurd (cc e)

first_moved : (found : Option (ℕ × ℕ)) (coded : Result Coded EbmlError) (short long : List ℕ) → IsWithin (length short) coded → IfSome found (λ x. x.1 ≤ length short)
    → front short found ≡ first_by short coded → front long found ≡ first_by long coded
first_moved found (Ok n) short long within bounds e = known_moved found (size_of n) n.width short long within bounds e
first_moved found (Err error) short long within bounds e = none_moved found short long e

changed_moved : (found : Option (ℕ × ℕ)) (size : ℕ) (coded : Result Coded EbmlError) (short long : List ℕ) → IsWithin (length short) coded → IfSome found (λ x. x.1 ≤ length short)
    → front short found ≡ changed size coded short → front long found ≡ changed size coded long
changed_moved found size (Ok n) short long within bounds e = natural_moved found (pos size +ℤ difference n) n.width short long within bounds e
changed_moved found size (Err error) short long within bounds e = none_moved found short long e

next_by : (found : Option (ℕ × ℕ)) (before : Option ℕ) (m : ℕ) (octets : List ℕ) → min 8 (length octets) ≤ m → IfSome found (λ x. x.1 ≤ length (take m octets))
    → front (take m octets) found ≡ next_size Ebml before (take m octets) → front octets found ≡ next_size Ebml before octets
next_by found None m octets enough bounds e =
    let one = e ∙ first_joined (take m octets) in
    let moved = first_moved found (coded_from (take m octets)) (take m octets) octets (coded_within (take m octets)) bounds one in
    moved ∙ ap (first_by octets) (sym (coded_here m octets (nat_lt m 8) refl enough)) ∙ sym (first_joined octets)
next_by found (Some size) m octets enough bounds e =
    let one = e ∙ changed_joined size (take m octets) in
    let moved = changed_moved found size (coded_from (take m octets)) (take m octets) octets (coded_within (take m octets)) bounds one in
    moved ∙ ap (λ (r : Result Coded EbmlError). changed size r octets) (sym (coded_here m octets (nat_lt m 8) refl enough)) ∙ sym (changed_joined size octets)

-- the next size of an EBML lace is read in the octets with which it begins
pub next_here : (found : Option (ℕ × ℕ)) (lacing : Lacing) (before : Option ℕ) (window octets : List ℕ) → lacing ≡ Ebml → window ≡ take (length window) octets
    → min 8 (length octets) ≤ length window → IfSome found (λ x. x.1 ≤ length window)
    → front window found ≡ next_size lacing before window → front octets found ≡ next_size lacing before octets
next_here found lacing before window octets ebml is enough bounds e =
    let bounds' : IfSome found (λ x. x.1 ≤ length (take (length window) octets)) = rw is at bounds in
    rw ebml (next_by found before (length window) octets enough bounds' (rw (← is, ← ebml) e))

-- ---- the lace with its count octet

counted_spans : (at stop : ℕ) (sizes : List ℕ) → length (spans at stop sizes) ≡ length sizes + 1
counted_spans at stop [] = refl
counted_spans at stop (size ∷ sizes) = omega (arith, counted_spans (at + size) stop sizes)

-- so many sizes
abbrev HasSizes : ℕ → Front (List ℕ) → Type 0
HasSizes n None = ⊤
HasSizes n (Some x) = length x.0 ≡ n

size_before : (n size : ℕ) (r : Front (List ℕ)) → HasSizes n r → HasSizes (suc n) (size_in_front size r)
size_before n size None h = tt
size_before n size (Some x) h = ap suc h

then_sizes : (n : ℕ) (r : Front ℕ) (next : ℕ → List ℕ → Front (List ℕ)) → ((x : ℕ) (left : List ℕ) → HasSizes n (next x left)) → HasSizes n (r then next)
then_sizes n None next each = tt
then_sizes n (Some x) next each = each x.0 x.1

coded_many : (lacing : Lacing) (n : ℕ) (before : Option ℕ) (octets : List ℕ) → HasSizes n (coded_sizes lacing n before octets)
coded_many lacing zero before octets = refl
coded_many lacing (suc n) before octets =
    then_sizes (suc n) (next_size lacing before octets) (λ size left. size_in_front size (coded_sizes lacing n (Some size) left))
    (λ size left. size_before n size (coded_sizes lacing n (Some size) left) (coded_many lacing n (Some size) left))

fitted_by : (stop n : ℕ) (sizes left : List ℕ) (fit : Bool) → nat_le (sum sizes) (length left) ≡ fit → length sizes ≡ n
    → counted (if fit then Ok (spans (stop - length left) stop sizes) else Err BadLace) ≡ frames_if fit n
fitted_by stop n sizes left true fit many = ap (λ (k : ℕ). Ok k) (counted_spans (stop - length left) stop sizes ∙ rw many refl)
fitted_by stop n sizes left false fit many = refl

counted_fitted : (stop n : ℕ) (r : Front (List ℕ)) → HasSizes n r → counted (fitted stop r) ≡ frames_if (fits 0 r) n
counted_fitted stop n None many = refl
counted_fitted stop n (Some x) many = rw zero-add (fitted_by stop n x.0 x.1 (nat_le (sum x.0) (length x.1)) refl many)

has_frames : (lacing : Lacing) (rest : List ℕ) → has_lace lacing ≡ true → frames_in lacing rest ≡ laced lacing rest
has_frames Single rest is = absurd (cc is)
has_frames Xiph rest is = refl
has_frames Fixed rest is = refl
has_frames Ebml rest is = refl

coded_lace : (lacing : Lacing) (n : ℕ) (octets : List ℕ) → (lacing ≡ Fixed → ⊥) → lace_sizes lacing n octets ≡ coded_sizes lacing n None octets
coded_lace Single n octets isnt = refl
coded_lace Xiph n octets isnt = refl
coded_lace Fixed n octets isnt = absurd (isnt refl)
coded_lace Ebml n octets isnt = refl

pub begins_coded : (flags n : ℕ) (octets : List ℕ) → is_laced flags ≡ true → (lacing_of flags ≡ Fixed → ⊥)
    → counted (frames_of flags (n ∷ octets)) ≡ frames_if (fits 0 (coded_sizes (lacing_of flags) n None octets)) n
unfolding frames_of
begins_coded flags n octets is isnt =
    rw (has_frames (lacing_of flags) (n ∷ octets) is, coded_lace (lacing_of flags) n octets isnt)
    (counted_fitted (length (n ∷ octets)) n (coded_sizes (lacing_of flags) n None octets) (coded_many (lacing_of flags) n None octets))

-- frames of one size fill what is left, or do not
share : (n len : ℕ) → n * (len / (n + 1)) ≤ len
share n len = grind arith

fixed_by : (n : ℕ) (octets : List ℕ) (even : Bool) → (length octets % (n + 1) == 0) ≡ even → counted (laced Fixed (n ∷ octets)) ≡ frames_if even n
fixed_by n octets true even =
    let total : sum (replicate n (length octets / (n + 1))) ≡ n * (length octets / (n + 1)) = sum_by-replicate (λ (k : ℕ). k) n (length octets / (n + 1)) in
    let le = share n (length octets) in
    let fit : nat_le (sum (replicate n (length octets / (n + 1)))) (length octets) ≡ true = grind (arith, nat_tests, total, le) in
    rw even (rw fit (ap (λ (k : ℕ). Ok k) (counted_spans (length (n ∷ octets) - length octets) (length (n ∷ octets)) (replicate n (length octets / (n + 1))) ∙ rw (length-replicate n (length octets / (n + 1))) refl)))
fixed_by n octets false uneven = rw uneven refl

pub begins_fixed : (flags n : ℕ) (octets : List ℕ) (even : Bool) → is_laced flags ≡ true → lacing_of flags ≡ Fixed → (length octets % (n + 1) == 0) ≡ even
    → counted (frames_of flags (n ∷ octets)) ≡ frames_if even n
unfolding frames_of
begins_fixed flags n octets even laced is whole = rw is (fixed_by n octets even whole)

-- ---- a reader that is read on

first_same : (b : ℕ) (rest : List ℕ) (n : ℕ) (octets : List ℕ) → b ∷ rest ≡ take n octets → octets ≡ b ∷ drop 1 octets
first_same b rest zero octets e = absurd (cc e)
first_same b rest (suc n) [] e = absurd (cc e)
first_same b rest (suc n) (a ∷ others) e = let same : b ≡ a = cc e in rw same refl

begins_with : (front octets : List ℕ) (b : ℕ) → front ≡ b ∷ drop 1 front → front ≡ take (length front) octets → octets ≡ b ∷ drop 1 octets
begins_with front octets b first cut = first_same b (drop 1 front) (length front) octets (sym first ∙ cut)

abbrev with_claim : LaceReader → ℕ → ℕ → Option LaceReader
with_claim lace size left = if nat_le (lace.claimed + size) left then Some (record lace { claimed = lace.claimed + size }) else None

pub claim_is : (lace l : LaceReader) (size left : ℕ) → Some l ≡ with_claim lace size left → l ≡ record lace { claimed = lace.claimed + size }
claim_is lace l size left is = go (nat_le (lace.claimed + size) left) is
  where
    go : (fit : Bool) → Some l ≡ (if fit then Some (record lace { claimed = lace.claimed + size }) else None) → l ≡ record lace { claimed = lace.claimed + size }
    go true e = cc e
    go false e = absurd (cc e)

claim_not : (lace : LaceReader) (size left : ℕ) (fit : Bool) → nat_le (lace.claimed + size) left ≡ fit → None ≡ (if fit then Some (record lace { claimed = lace.claimed + size }) else None)
    → left < lace.claimed + size
claim_not lace size left true fit e = absurd (cc e)
claim_not lace size left false fit e = grind (arith, nat_tests)

pub octet_read : (lace l : LaceReader) (front octets : List ℕ) (b left : ℕ) → 0 < lace.wanted → ReadsByOctets lace.lacing → front ≡ b ∷ drop 1 front → front ≡ take (length front) octets
    → Some l ≡ with_claim lace b left → is_good (record l { wanted = wanted_behind b lace.wanted }) (drop 1 octets) ≡ is_good lace octets
octet_read lace l front octets b left positive is first cut claim =
    let whole : octets ≡ b ∷ drop 1 octets = begins_with front octets b first cut in
    let one : is_good lace (b ∷ drop 1 octets) ≡ fits (lace.claimed + b) (coded_sizes lace.lacing (wanted_behind b lace.wanted) lace.before (drop 1 octets)) =
    octet_on lace.lacing lace.wanted lace.claimed b (drop 1 octets) lace.before positive is in
    rw (claim_is lace l b left claim) (sym (ap (is_good lace) whole ∙ one))

pub octet_refused : (lace : LaceReader) (front octets : List ℕ) (b left : ℕ) → 0 < lace.wanted → ReadsByOctets lace.lacing → front ≡ b ∷ drop 1 front → front ≡ take (length front) octets
    → length octets ≡ left → None ≡ with_claim lace b (left - 1) → is_good lace octets ≡ false
octet_refused lace front octets b left positive is first cut long claim =
    let whole : octets ≡ b ∷ drop 1 octets = begins_with front octets b first cut in
    let more : left - 1 < lace.claimed + b = claim_not lace b (left - 1) (nat_le (lace.claimed + b) (left - 1)) refl claim in
    ap (is_good lace) whole
    ∙ octet_on lace.lacing lace.wanted lace.claimed b (drop 1 octets) lace.before positive is
    ∙ no_room lace.lacing (wanted_behind b lace.wanted) (lace.claimed + b) lace.before (drop 1 octets) (omega (arith, more, long, length-drop 1 octets))

pub number_read : (lace l : LaceReader) (octets : List ℕ) (size taken left : ℕ) → 0 < lace.wanted → Some (size, drop taken octets) ≡ next_size lace.lacing lace.before octets
    → Some l ≡ with_claim lace size left
    → is_good (record { lacing = l.lacing; wanted = lace.wanted - 1; before = Some size; claimed = l.claimed }) (drop taken octets) ≡ is_good lace octets
number_read lace l octets size taken left positive next claim =
    rw (claim_is lace l size left claim) (sym (number_on lace.lacing lace.wanted lace.claimed size octets (drop taken octets) lace.before positive next))

pub number_refused : (lace : LaceReader) (octets : List ℕ) (size taken left : ℕ) → 0 < lace.wanted → Some (size, drop taken octets) ≡ next_size lace.lacing lace.before octets
    → length octets ≡ left → None ≡ with_claim lace size (left - taken) → is_good lace octets ≡ false
number_refused lace octets size taken left positive next long claim =
    let more : left - taken < lace.claimed + size = claim_not lace size (left - taken) (nat_le (lace.claimed + size) (left - taken)) refl claim in
    number_on lace.lacing lace.wanted lace.claimed size octets (drop taken octets) lace.before positive next
    ∙ no_room lace.lacing (lace.wanted - 1) (lace.claimed + size) (Some size) (drop taken octets) (omega (arith, more, long, length-drop taken octets))

-- a part of the octets with which some begin is one with which the rest begins
pub further : (front octets : List ℕ) (at : ℕ) → at ≤ length front → front ≡ take (length front) octets → drop at front ≡ take (length (drop at front)) (drop at octets)
further front octets at le cut =
    let k : length front ≡ at + length (drop at front) = omega (arith, length-drop at front) in
    ap (drop at) (cut ∙ rw k refl) ∙ drop-take at (length (drop at front)) octets

-- a lace has a count octet
pub no_lace : (flags : ℕ) → is_laced flags ≡ true → frames_of flags [] ≡ Err BadLace
unfolding frames_of
no_lace flags is = has_frames (lacing_of flags) [] is

-- ---- a reader that begins

not_zero : (n : ℕ) → (n ≡ 0 → ⊥) → (n == 0) ≡ false
not_zero zero isnt = absurd (isnt refl)
not_zero (suc n) isnt = grind (arith, nat_tests)

pub fixed_uneven : (flags n left : ℕ) (octets : List ℕ) → length octets ≡ left → is_laced flags ≡ true → Fixed ≡ lacing_of flags → (left % (n + 1) ≡ 0 → ⊥)
    → counted (frames_of flags (n ∷ octets)) ≡ Err BadLace
fixed_uneven flags n left octets long laced is uneven = begins_fixed flags n octets false laced (sym is) (rw long (not_zero (left % (n + 1)) uneven))

pub fixed_even : (flags n left : ℕ) (octets : List ℕ) (lace : LaceReader) → length octets ≡ left → is_laced flags ≡ true → Fixed ≡ lacing_of flags → left % (n + 1) ≡ 0
    → lace ≡ record { lacing = Fixed; wanted = 0; before = None; claimed = 0 } → counted (frames_of flags (n ∷ octets)) ≡ frames_if (is_good lace octets) n
fixed_even flags n left octets lace long laced is even begins =
    let good : is_good lace octets ≡ true = rw begins (none_wanted (record { lacing = Fixed; wanted = 0; before = None; claimed = 0 }) octets refl (omega arith)) in
    let whole : (length octets % (n + 1) == 0) ≡ true = rw (long, even) refl in
    begins_fixed flags n octets true laced (sym is) whole ∙ rw good refl

pub coded_begins : (flags n : ℕ) (octets : List ℕ) (lacing : Lacing) (lace : LaceReader) → is_laced flags ≡ true → lacing ≡ lacing_of flags → (lacing ≡ Fixed → ⊥)
    → lace ≡ record { lacing = lacing; wanted = n; before = None; claimed = 0 } → counted (frames_of flags (n ∷ octets)) ≡ frames_if (is_good lace octets) n
coded_begins flags n octets lacing lace laced is isnt begins =
    rw begins (rw is (begins_coded flags n octets laced (λ e. isnt (is ∙ e))))
