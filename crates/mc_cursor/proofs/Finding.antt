-- Searches before the first Cluster, where the film is read on demand.
use Rattle.std.proofs.Common.{◌≡◌, ◌≢◌, ℕ, zero, suc, ◌+◌, ◌-◌, ◌<◌, ◌≤◌, Bool, true, false, List, [], ◌∷◌, length, Option, Some, None, Result, Ok, Err, refl, sym, ap, ◌∙◌, arith, eq-eqb, inl, inr}
use Rattle.std.proofs.lemmas.List.{drop_all}
use Rattle.std.proofs.lemmas.Bool.{leb-true, cond_both}
use Rattle.std.proofs.lemmas.Bool.Decides.{eqb_tells, nat_tests}
use Rattle.std.specs.Prelude.{◌==◌, ◌||◌, nat_le, IfSome, IfOk, if◌then◌else◌}
use Rattle.mc_ebml.specs.declared.read.Head.{Head}
use Rattle.mc_ebml.specs.declared.read.Size.{Size}
use Rattle.mc_ebml.specs.declared.read.Size.TheVariants.{Known, Unknown}
use Rattle.mc_ebml.specs.declared.read.EbmlError.{EbmlError}
use Rattle.mc_ebml.specs.declared.read.EbmlError.TheVariants.{Short}
use Rattle.mc_ebml.specs.Element.{head_at}
use Rattle.mc_ebml.specs.declared.whole.WholeElement.{WholeElement}
use Rattle.mc_tracks.specs.declared.refused.Refused.{Refused}
use Rattle.mc_tracks.specs.declared.refused.Refused.TheVariants.{NoSegment}
use Rattle.mc_ebml.specs.Whole.{element_at, whole_element, known_element}
use Rattle.mc_tracks.specs.Children.{first}
use Rattle.mc_ebml.specs.Ids.{SEGMENT, CLUSTER}
use Rattle.mc_walk.specs.Moves.{runs_past}
use Rattle.mc_walk.specs.declared.plan.Segment.{Segment}
use Rattle.mc_walk.specs.Walk.{stands_at}
use Rattle.mc_walk.specs.Opening.{before_cluster, segment_from, segment_or, skipped, end_by, segment_child, segment_children, following}
use Rattle.mc_walk.proofs.Rising.{head-lies}
use Rattle.mc_cursor.specs.declared.reading.Found.{Found}
use Rattle.mc_cursor.specs.declared.reading.Found.TheVariants as found
use Rattle.mc_cursor.specs.Reads.{found_at, found_by}
use Rattle.mc_cursor.specs.Begins.{whole_found, FoundIn, head_in}
use Rattle.mc_block.proofs.Heads.{head_join}

differs : (a b : ℕ) → a ≢ b → (a == b) ≡ false
differs a b h = elim (eqb_tells a b) [ inl e ↦ absurd (h e.1) | inr e ↦ e.0 ]

-- ---- what stands at a place

element_by : (octets : List ℕ) (place : ℕ) (h : Head) (at_end : Bool) (head : Result Head EbmlError) → place == length octets ≡ at_end → head ≡ head_at octets place
    → found.Element h ≡ (if at_end then found.End else found_by head) → Ok h ≡ head_at octets place
element_by octets place h true head e is at_place = cc
element_by octets place h false (Ok k) e is at_place = let same : h ≡ k = cc in ap Ok same ∙ is
element_by octets place h false (Err x) e is at_place = cc

-- an element that was found is read there
pub found_element : (octets : List ℕ) (place : ℕ) (h : Head) → found.Element h ≡ found_at octets place → Ok h ≡ head_at octets place
found_element octets place h is = element_by octets place h (place == length octets) (head_at octets place) refl refl is

pub element_within : (octets : List ℕ) (place : ℕ) (h : Head) → found.Element h ≡ found_at octets place → place ≤ length octets → (place < h.body) × (h.body ≤ length octets)
element_within octets place h is within = rw (← found_element octets place h is) at (head-lies octets place within)

-- at the film's end there is no head
no_head_at_end : (octets : List ℕ) (place : ℕ) → place ≡ length octets → head_at octets place ≡ Err Short
no_head_at_end octets place e = head_join octets place ∙ rw (drop_all place octets (omega arith)) refl

by_head : (len place : ℕ) (head : Result Head EbmlError) → whole_element len place head ≡ whole_found len place (found_by head)
by_head len place (Ok h) = refl
by_head len place (Err e) = refl

element_at_by : (octets : List ℕ) (place : ℕ) (at_end : Bool) → place == length octets ≡ at_end → element_at octets place ≡ whole_found (length octets) place (found_at octets place)
unfolding element_at
element_at_by octets place true e =
    let none = no_head_at_end octets place (grind (arith, nat_tests)) in rw (e, none) refl
element_at_by octets place false e = rw e (by_head (length octets) place (head_at octets place))

pub element_found : (octets : List ℕ) (place : ℕ) (f : Found) → f ≡ found_at octets place → element_at octets place ≡ whole_found (length octets) place f
element_found octets place f is = element_at_by octets place (place == length octets) refl ∙ ap (whole_found (length octets) place) (sym is)

found_by_in : (octets : List ℕ) (place : ℕ) (head : Result Head EbmlError) → IfOk head (λ h. (place < h.body) × (h.body ≤ length octets)) → FoundIn (length octets) (found_by head)
found_by_in octets place (Ok h) lies = lies.1
found_by_in octets place (Err e) lies = tt

pub found_in_film : (octets : List ℕ) (place : ℕ) (f : Found) → f ≡ found_at octets place → place ≤ length octets → FoundIn (length octets) f
found_in_film octets place f is within =
    rw is (cond_both (place == length octets) _ _ (FoundIn (length octets)) (λ e. tt) (λ e. found_by_in octets place (head_at octets place) (head-lies octets place within)))

-- ---- the Segment

abbrev pub StopsOn : ℕ → ℕ → WholeElement → Type 0
StopsOn place len c = (place < c.stop) × (c.stop ≤ len)

known_stops : (len place id at : ℕ) (size : Size) → place < at → IfSome (known_element len place id at size) (StopsOn place len)
known_stops len place id at Unknown behind = tt
known_stops len place id at (Known size) behind =
    cond_both (nat_le (at + size) len) _ _ (λ c. IfSome c (StopsOn place len)) (λ e. (omega arith, leb-true (at + size) len e)) (λ e. tt)

whole_stops : (len place : ℕ) (h : Result Head EbmlError) → IfOk h (λ h. (place < h.body) × (h.body ≤ len)) → IfSome (whole_element len place h) (StopsOn place len)
whole_stops len place (Ok h) lies = known_stops len place h.id h.body h.size lies.0
whole_stops len place (Err e) lies = tt

pub element_stops : (octets : List ℕ) (place : ℕ) → place ≤ length octets → IfSome (element_at octets place) (StopsOn place (length octets))
unfolding element_at
element_stops octets place within = whole_stops (length octets) place (head_at octets place) (head-lies octets place within)

same_skip : (len place : ℕ) (c : Option WholeElement) (f k : ℕ → Result Segment Refused) → IfSome c (StopsOn place len)
    → ((to : ℕ) → place < to → to ≤ len → f to ≡ k to) → skipped c f ≡ skipped c k
same_skip len place None f k stops same = refl
same_skip len place (Some c) f k stops same = same c.stop stops.0 stops.1

same_segment : (len place : ℕ) (h : Result Head EbmlError) (c : Option WholeElement) (f k : ℕ → Result Segment Refused) → IfSome c (StopsOn place len)
    → ((to : ℕ) → place < to → to ≤ len → f to ≡ k to) → segment_or h c f ≡ segment_or h c k
same_segment len place (Err e) c f k stops same = refl
same_segment len place (Ok h) c f k stops same = ap (λ (r : Result Segment Refused). if h.id == SEGMENT then Ok (record { opening = h.body; end = end_by h.body h.size }) else r) (same_skip len place c f k stops same)

at_film_end : (n : ℕ) (octets : List ℕ) (place : ℕ) → place ≡ length octets → segment_from n octets place ≡ Err NoSegment
unfolding segment_from
at_film_end zero octets place e = refl
at_film_end (suc n) octets place e = rw (no_head_at_end octets place e) refl

pub segment_enough : (n m : ℕ) (octets : List ℕ) (place : ℕ) → place ≤ length octets → length octets ≤ place + n → length octets ≤ place + m
    → segment_from n octets place ≡ segment_from m octets place
unfolding segment_from
segment_enough zero m octets place within enough enough' = at_film_end zero octets place (omega arith) ∙ sym (at_film_end m octets place (omega arith))
segment_enough (suc n) zero octets place within enough enough' = at_film_end (suc n) octets place (omega arith) ∙ sym (at_film_end zero octets place (omega arith))
segment_enough (suc n) (suc m) octets place within enough enough' =
    same_segment (length octets) place (head_at octets place) (element_at octets place) (λ on. segment_from n octets on) (λ on. segment_from m octets on) (element_stops octets place within)
    (λ to behind within'. segment_enough n m octets to within' (omega arith) (omega arith))

-- the first Segment from a place on
abbrev pub segment_after : List ℕ → ℕ → Result Segment Refused
segment_after octets place = segment_from (length octets) octets place

no_more : (n : ℕ) (octets : List ℕ) (place : ℕ) (e : EbmlError) → Err e ≡ head_at octets place → segment_from n octets place ≡ Err NoSegment
unfolding segment_from
no_more zero octets place e head = refl
no_more (suc n) octets place e head = rw (← head) refl

-- what was found is no element
abbrev pub IsNone : Found → Type 0
IsNone found.End = Unit {0}
IsNone (found.Bad e) = Unit {0}
IsNone (found.Element h) = ⊥

none_by : (octets : List ℕ) (place : ℕ) (head : Result Head EbmlError) → head ≡ head_at octets place → IsNone (found_by head) → segment_after octets place ≡ Err NoSegment
none_by octets place (Ok h) is none = absurd none
none_by octets place (Err e) is none = no_more (length octets) octets place e is

none_at : (octets : List ℕ) (place : ℕ) (at_end : Bool) → place == length octets ≡ at_end → IsNone (found_at octets place) → segment_after octets place ≡ Err NoSegment
none_at octets place true e none = at_film_end (length octets) octets place (grind (arith, nat_tests))
none_at octets place false e none = none_by octets place (head_at octets place) refl (rw e at none)

pub no_segment : (octets : List ℕ) (place : ℕ) (f : Found) → f ≡ found_at octets place → IsNone f → segment_after octets place ≡ Err NoSegment
no_segment octets place f is none = none_at octets place (place == length octets) refl (rw is at none)

after_head : (octets : List ℕ) (place : ℕ) (h : Head) → found.Element h ≡ found_at octets place → place ≤ length octets
    → segment_after octets place ≡ segment_or (Ok h) (element_at octets place) (λ on. segment_from (length octets - 1) octets on)
unfolding segment_from
after_head octets place h is within =
    let lies = element_within octets place h is within in
    let k : length octets ≡ suc (length octets - 1) = omega (arith, lies.0, lies.1) in
    let one : segment_from (suc (length octets - 1)) octets place ≡ segment_or (Ok h) (element_at octets place) (λ on. segment_from (length octets - 1) octets on) =
    rw (← found_element octets place h is) refl in
    ap (λ (n : ℕ). segment_from n octets place) k ∙ one

pub is_segment : (octets : List ℕ) (place : ℕ) (h : Head) → found.Element h ≡ found_at octets place → place ≤ length octets → h.id ≡ SEGMENT
    → segment_after octets place ≡ Ok (record { opening = h.body; end = end_by h.body h.size })
is_segment octets place h is within id = after_head octets place h is within ∙ rw (eq-eqb h.id SEGMENT id) refl

skips_by : (octets : List ℕ) (place : ℕ) (h : Head) (c : Option WholeElement) → found.Element h ≡ found_at octets place → place ≤ length octets → h.id ≢ SEGMENT → c ≡ element_at octets place
    → segment_after octets place ≡ skipped c (λ on. segment_from (length octets - 1) octets on)
skips_by octets place h c is within id element = after_head octets place h is within ∙ rw (differs h.id SEGMENT id, ← element) refl

pub not_whole : (octets : List ℕ) (place : ℕ) (h : Head) → found.Element h ≡ found_at octets place → place ≤ length octets → h.id ≢ SEGMENT → None ≡ element_at octets place
    → segment_after octets place ≡ Err NoSegment
not_whole octets place h is within id element = skips_by octets place h None is within id element

pub goes_on : (octets : List ℕ) (place : ℕ) (h : Head) (c : WholeElement) → found.Element h ≡ found_at octets place → place ≤ length octets → h.id ≢ SEGMENT → Some c ≡ element_at octets place
    → (c.stop ≤ length octets) × (segment_after octets place ≡ segment_after octets c.stop)
goes_on octets place h c is within id element =
    let stops = rw (← element) at (element_stops octets place within) in
    (stops.1, skips_by octets place h (Some c) is within id element ∙ segment_enough (length octets - 1) (length octets) octets c.stop stops.1 (omega (arith, stops.0)) (omega arith))

-- ---- by what was found

pub none_found : (octets : List ℕ) (place : ℕ) (f : Found) → f ≡ found_at octets place → None ≡ head_in f → segment_after octets place ≡ Err NoSegment
none_found octets place found.End is none = no_segment octets place found.End is tt
none_found octets place (found.Bad e) is none = no_segment octets place (found.Bad e) is tt
none_found octets place (found.Element h) is none = absurd (cc none)

pub some_found : (f : Found) (h : Head) → Some h ≡ head_in f → f ≡ found.Element h
some_found found.End h some = absurd (cc some)
some_found (found.Bad e) h some = absurd (cc some)
some_found (found.Element k) h some = let same : k ≡ h = cc some in ap (λ (x : Head). found.Element x) same

pub segment_found : (octets : List ℕ) (place : ℕ) (f : Found) (h : Head) → f ≡ found_at octets place → Some h ≡ head_in f → place ≤ length octets → h.id ≡ SEGMENT
    → segment_after octets place ≡ Ok (record { opening = h.body; end = end_by h.body h.size })
segment_found octets place f h is some within id = is_segment octets place h (sym (some_found f h some) ∙ is) within id

pub cut_found : (octets : List ℕ) (place : ℕ) (f : Found) (h : Head) → f ≡ found_at octets place → Some h ≡ head_in f → place ≤ length octets → h.id ≢ SEGMENT
    → None ≡ whole_found (length octets) place f → segment_after octets place ≡ Err NoSegment
cut_found octets place f h is some within id none = not_whole octets place h (sym (some_found f h some) ∙ is) within id (none ∙ sym (element_found octets place f is))

pub skipped_found : (octets : List ℕ) (place : ℕ) (f : Found) (h : Head) (c : WholeElement) → f ≡ found_at octets place → Some h ≡ head_in f → place ≤ length octets → h.id ≢ SEGMENT
    → Some c ≡ whole_found (length octets) place f → (c.stop ≤ length octets) × (segment_after octets place ≡ segment_after octets c.stop)
skipped_found octets place f h c is some within id one = goes_on octets place h c (sym (some_found f h some) ∙ is) within id (one ∙ sym (element_found octets place f is))

-- ---- children of the Segment

pub child_found : (octets : List ℕ) (end : Option ℕ) (place : ℕ) (f : Found) (c : Option WholeElement) → f ≡ found_at octets place → stands_at end place ≡ false → c ≡ whole_found (length octets) place f
    → before_cluster end c ≡ segment_child octets end place
child_found octets end place f c is stands one =
    rw stands (ap (before_cluster end) (one ∙ sym (element_found octets place f is)))

-- the first child of an ID from a place on
abbrev pub child_after : List ℕ → Option ℕ → ℕ → ℕ → Option WholeElement
child_after octets end place id = first id (segment_children (length octets) octets end place)

before_stops : (end : Option ℕ) (place len : ℕ) (c : Option WholeElement) → IfSome c (StopsOn place len) → IfSome (before_cluster end c) (StopsOn place len)
before_stops end place len None stops = tt
before_stops end place len (Some c) stops = cond_both (c.id == CLUSTER || runs_past end c.stop) _ _ (λ c. IfSome c (StopsOn place len)) (λ e. tt) (λ e. stops)

child_stops : (octets : List ℕ) (end : Option ℕ) (place : ℕ) → place ≤ length octets → IfSome (segment_child octets end place) (StopsOn place (length octets))
child_stops octets end place within =
    cond_both (stands_at end place) _ _ (λ c. IfSome c (StopsOn place (length octets))) (λ e. tt)
    (λ e. before_stops end place (length octets) (element_at octets place) (element_stops octets place within))

same_following : (place len : ℕ) (c : Option WholeElement) (f k : ℕ → List WholeElement) → IfSome c (StopsOn place len) → ((to : ℕ) → place < to → to ≤ len → f to ≡ k to) → following c f ≡ following c k
same_following place len None f k stops same = refl
same_following place len (Some c) f k stops same = ap (λ (cs : List WholeElement). c ∷ cs) (same c.stop stops.0 stops.1)

none_at_end : (octets : List ℕ) (end : Option ℕ) (place : ℕ) → place ≡ length octets → segment_child octets end place ≡ None
unfolding element_at
none_at_end octets end place e = rw (no_head_at_end octets place e) (cond_both (stands_at end place) _ _ (λ (c : Option WholeElement). c ≡ None) (λ e. refl) (λ e. refl))

children_at_end : (n : ℕ) (octets : List ℕ) (end : Option ℕ) (place : ℕ) → place ≡ length octets → segment_children n octets end place ≡ []
unfolding segment_children
children_at_end zero octets end place e = refl
children_at_end (suc n) octets end place e = rw (none_at_end octets end place e) refl

children_enough : (n m : ℕ) (octets : List ℕ) (end : Option ℕ) (place : ℕ) → place ≤ length octets → length octets ≤ place + n → length octets ≤ place + m
    → segment_children n octets end place ≡ segment_children m octets end place
unfolding segment_children
children_enough zero m octets end place within enough enough' = children_at_end zero octets end place (omega arith) ∙ sym (children_at_end m octets end place (omega arith))
children_enough (suc n) zero octets end place within enough enough' = children_at_end (suc n) octets end place (omega arith) ∙ sym (children_at_end zero octets end place (omega arith))
children_enough (suc n) (suc m) octets end place within enough enough' =
    same_following place (length octets) (segment_child octets end place) (λ on. segment_children n octets end on) (λ on. segment_children m octets end on) (child_stops octets end place within)
    (λ to behind within'. children_enough n m octets end to within' (omega arith) (omega arith))

children_step : (octets : List ℕ) (end : Option ℕ) (place : ℕ) → place ≤ length octets
    → segment_children (length octets) octets end place ≡ following (segment_child octets end place) (λ on. segment_children (length octets) octets end on)
unfolding segment_children
children_step octets end place within =
    children_enough (length octets) (suc (length octets)) octets end place within (omega arith) (omega arith)

pub no_child : (octets : List ℕ) (end : Option ℕ) (place id : ℕ) → place ≤ length octets → None ≡ segment_child octets end place → child_after octets end place id ≡ None
no_child octets end place id within none = rw (children_step octets end place within, ← none) refl

pub is_child : (octets : List ℕ) (end : Option ℕ) (place id : ℕ) (c : WholeElement) → place ≤ length octets → Some c ≡ segment_child octets end place → c.id ≡ id → child_after octets end place id ≡ Some c
is_child octets end place id c within one is = rw (children_step octets end place within, ← one, eq-eqb c.id id is) refl

pub next_child : (octets : List ℕ) (end : Option ℕ) (place id : ℕ) (c : WholeElement) → place ≤ length octets → Some c ≡ segment_child octets end place → c.id ≢ id
    → (c.stop ≤ length octets) × (child_after octets end place id ≡ child_after octets end c.stop id)
next_child octets end place id c within one isnt =
    let stops = rw (← one) at (child_stops octets end place within) in
    (stops.1, rw (children_step octets end place within, ← one, differs c.id id isnt) refl)

-- the first child of an ID stands in the film
first_following : (octets : List ℕ) (place id : ℕ) (c : Option WholeElement) (on : ℕ → List WholeElement) → IfSome c (StopsOn place (length octets))
    → ((to : ℕ) → to ≤ length octets → IfSome (first id (on to)) (λ c. c.stop ≤ length octets)) → IfSome (first id (following c on)) (λ c. c.stop ≤ length octets)
first_following octets place id None on stops further = tt
first_following octets place id (Some c) on stops further =
    cond_both (c.id == id) _ _ (λ c. IfSome c (λ c. c.stop ≤ length octets)) (λ e. stops.1) (λ e. further c.stop stops.1)

pub first_in : (n : ℕ) (octets : List ℕ) (end : Option ℕ) (place id : ℕ) → place ≤ length octets → IfSome (first id (segment_children n octets end place)) (λ c. c.stop ≤ length octets)
unfolding segment_children
first_in zero octets end place id within = tt
first_in (suc n) octets end place id within =
    first_following octets place id (segment_child octets end place) (λ on. segment_children n octets end on) (child_stops octets end place within)
    (λ to within'. first_in n octets end to id within')

pub segment_within : (octets : List ℕ) (place : ℕ) (f : Found) (h : Head) → f ≡ found_at octets place → Some h ≡ head_in f → place ≤ length octets → h.body ≤ length octets
segment_within octets place f h is some within = (element_within octets place h (sym (some_found f h some) ∙ is) within).1
