-- A film that is opened has its Segment's first child behind its first octet, and within its octets.
use Rattle.std.proofs.Common.{ℕ, zero, suc, ◌+◌, ◌<◌, ◌≤◌, List, length, Option, Some, None, Result, Ok, Err, arith}
use Rattle.std.proofs.lemmas.Bool.{leb-true, cond_both}
use Rattle.std.specs.Prelude.{IfOk, IfSome, nat_le, ◌==◌}
use Rattle.mc_ebml.specs.declared.read.Head.{Head}
use Rattle.mc_ebml.specs.declared.read.Size.{Size}
use Rattle.mc_ebml.specs.declared.read.Size.TheVariants.{Known, Unknown}
use Rattle.mc_ebml.specs.declared.read.EbmlError.{EbmlError}
use Rattle.mc_ebml.specs.Element.{head_at}
use Rattle.mc_ebml.specs.declared.whole.WholeElement.{WholeElement}
use Rattle.mc_tracks.specs.declared.refused.Refused.{Refused}
use Rattle.mc_tracks.specs.declared.children.Master.TheVariants.{EbmlHeader}
use Rattle.mc_tracks.specs.Answer.{◌>>=◌}
use Rattle.mc_ebml.specs.Whole.{known_element, whole_element, element_at}
use Rattle.mc_tracks.specs.Children.{children_of}
use Rattle.mc_tracks.specs.Header.{body_of, as_header, header_checked, ebml_header_of}
use Rattle.mc_ebml.specs.Ids.{EBML_HEADER, SEGMENT}
use Rattle.mc_walk.specs.declared.plan.Plan.{Plan}
use Rattle.mc_walk.specs.declared.plan.Segment.{Segment}
use Rattle.mc_walk.specs.Opening.{skipped, segment_or, segment_from, segment_of, header_of, plan_of, opened_film}
use Rattle.mc_walk.proofs.Rising.{head-lies}

pub if_ok-then : {X Y : Type 0} (P : X → Type 0) (Q : Y → Type 0) (r : Result X Refused) (f : X → Result Y Refused) → IfOk r P → ((x : X) → P x → IfOk (f x) Q) → IfOk (r >>= f) Q
if_ok-then P Q (Ok x) f h each = each x h
if_ok-then P Q (Err e) f h each = tt

abbrev pub Any : {X : Type 0} → X → Type 0
Any x = Unit {0}

pub any : {X : Type 0} (r : Result X Refused) → IfOk r Any
any (Ok x) = tt
any (Err e) = tt

-- ---- an element that stands whole

abbrev StopsBy : ℕ → WholeElement → Type 0
StopsBy len c = c.stop ≤ len

known-stops : (len place id at : ℕ) (size : Size) → IfSome (known_element len place id at size) (StopsBy len)
known-stops len place id at Unknown = tt
known-stops len place id at (Known size) =
    cond_both (nat_le (at + size) len) _ _ (λ c. IfSome c (StopsBy len)) (λ e. leb-true (at + size) len e) (λ e. tt)

whole-stops : (len place : ℕ) (h : Result Head EbmlError) → IfSome (whole_element len place h) (StopsBy len)
whole-stops len place (Ok h) = known-stops len place h.id h.body h.size
whole-stops len place (Err e) = tt

element-stops : (octets : List ℕ) (place : ℕ) → IfSome (element_at octets place) (StopsBy (length octets))
unfolding element_at
element-stops octets place = whole-stops (length octets) place (head_at octets place)

-- ---- the EBML header

as_header-stops : (len : ℕ) (c : Option WholeElement) → IfSome c (StopsBy len) → IfOk (as_header c) (StopsBy len)
as_header-stops len None h = tt
as_header-stops len (Some c) h = cond_both (c.id == EBML_HEADER) _ _ (λ r. IfOk r (StopsBy len)) (λ e. h) (λ e. tt)

ebml_header-stops : (octets : List ℕ) → IfOk (ebml_header_of octets) (λ at. at ≤ length octets)
unfolding ebml_header_of
ebml_header-stops octets =
    if_ok-then (StopsBy (length octets)) (λ at. at ≤ length octets) (as_header (element_at octets 0)) _ (as_header-stops (length octets) (element_at octets 0) (element-stops octets 0)) (λ c h.
    if_ok-then Any (λ at. at ≤ length octets) (header_checked (body_of octets c) (children_of EbmlHeader (body_of octets c))) _ (any (header_checked (body_of octets c) (children_of EbmlHeader (body_of octets c)))) (λ _ _. h))

-- ---- the Segment

-- its first child stands behind the film's first octet, and within so many
abbrev pub OpensIn : ℕ → ℕ → Type 0
OpensIn len opening = (0 < opening) × (opening ≤ len)

abbrev SegmentIn : ℕ → Segment → Type 0
SegmentIn len s = OpensIn len s.opening

skipped-opens : (len : ℕ) (c : Option WholeElement) (on : ℕ → Result Segment Refused) → IfSome c (StopsBy len) → ((place : ℕ) → place ≤ len → IfOk (on place) (SegmentIn len))
    → IfOk (skipped c on) (SegmentIn len)
skipped-opens len None on stops further = tt
skipped-opens len (Some c) on stops further = further c.stop stops

segment-opens : (len place : ℕ) (h : Result Head EbmlError) (c : Option WholeElement) (on : ℕ → Result Segment Refused) → IfOk h (λ h. (place < h.body) × (h.body ≤ len))
    → IfSome c (StopsBy len) → ((place : ℕ) → place ≤ len → IfOk (on place) (SegmentIn len)) → IfOk (segment_or h c on) (SegmentIn len)
segment-opens len place (Err e) c on lies stops further = tt
segment-opens len place (Ok h) c on lies stops further =
    cond_both (h.id == SEGMENT) _ _ (λ s. IfOk s (SegmentIn len)) (λ e. (omega arith, lies.1)) (λ e. skipped-opens len c on stops further)

segment_from-opens : (n : ℕ) (octets : List ℕ) (place : ℕ) → place ≤ length octets → IfOk (segment_from n octets place) (SegmentIn (length octets))
unfolding segment_from
segment_from-opens zero octets place in_film = tt
segment_from-opens (suc n) octets place in_film =
    segment-opens (length octets) place (head_at octets place) (element_at octets place) (λ on. segment_from n octets on) (head-lies octets place in_film) (element-stops octets place)
    (λ on within. segment_from-opens n octets on within)

-- ---- the whole

pub opened-lies : (octets : List ℕ) → IfOk (opened_film octets) (λ plan. OpensIn (length plan.octets) plan.opening)
unfolding opened_film
opened-lies octets =
    let P : Plan → Type 0 = λ plan. OpensIn (length plan.octets) plan.opening in
    if_ok-then (λ at. at ≤ length octets) P (ebml_header_of octets) _ (ebml_header-stops octets) (λ at in_film.
    if_ok-then (SegmentIn (length octets)) P (segment_of octets at) _ (segment_from-opens (length octets) octets at in_film) (λ segment opens.
    if_ok-then Any P (header_of octets segment) (λ h. Ok (plan_of octets segment h)) (any (header_of octets segment)) (λ h _. opens)))
