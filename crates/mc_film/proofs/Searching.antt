-- Searches before the first Cluster, one element after the other.
use Rattle.std.proofs.Common.{◌≡◌, ◌≢◌, ℕ, zero, suc, ◌+◌, ◌-◌, ◌<◌, ◌≤◌, false, List, Option, Some, None, Result, Ok, Err, refl, sym, ◌∙◌, arith, eq-eqb, inl, inr}
use Rattle.std.proofs.lemmas.Bool.Decides.{eqb_tells}
use Rattle.std.specs.Prelude.{◌==◌}
use Rattle.mc_ebml.specs.declared.read.Head.{Head}
use Rattle.mc_ebml.specs.declared.read.EbmlError.{EbmlError}
use Rattle.mc_ebml.specs.Element.{head_at}
use Rattle.mc_ebml.specs.declared.whole.WholeElement.{WholeElement}
use Rattle.mc_tracks.specs.declared.refused.Refused.{Refused}
use Rattle.mc_tracks.specs.declared.refused.Refused.TheVariants.{NoSegment}
use Rattle.mc_ebml.specs.Whole.{element_at}
use Rattle.mc_tracks.specs.Children.{first}
use Rattle.mc_ebml.specs.Ids.{SEGMENT}
use Rattle.mc_walk.specs.declared.plan.Segment.{Segment}
use Rattle.mc_walk.specs.Opening.{segment_from, segment_or, end_by, segment_child, segment_children, following}

pub differs : (a b : ℕ) → a ≢ b → (a == b) ≡ false
differs a b h = elim (eqb_tells a b) [ inl e ↦ absurd (h e.1) | inr e ↦ e.0 ]

-- ---- the Segment

now : (budget i : ℕ) (octets : List ℕ) (place : ℕ) → i < budget
    → segment_from (budget - i) octets place ≡ segment_or (head_at octets place) (element_at octets place) (λ on. segment_from (budget - (i + 1)) octets on)
unfolding segment_from
now budget i octets place lt = let k : budget - i ≡ suc (budget - (i + 1)) = omega arith in rw k refl

pub no_head : (budget i : ℕ) (octets : List ℕ) (place : ℕ) (e : EbmlError) (total : Result Segment Refused) → i < budget → Err e ≡ head_at octets place
    → segment_from (budget - i) octets place ≡ total → Err NoSegment ≡ total
no_head budget i octets place e total lt head so_far =
    let one : segment_from (budget - i) octets place ≡ Err NoSegment = rw (now budget i octets place lt, ← head) refl in sym one ∙ so_far

pub found : (budget i : ℕ) (octets : List ℕ) (place : ℕ) (h : Head) (total : Result Segment Refused) → i < budget → Ok h ≡ head_at octets place → h.id ≡ SEGMENT
    → segment_from (budget - i) octets place ≡ total → Ok (record { opening = h.body; end = end_by h.body h.size }) ≡ total
found budget i octets place h total lt head is so_far =
    let one : segment_from (budget - i) octets place ≡ Ok (record { opening = h.body; end = end_by h.body h.size }) =
    rw (now budget i octets place lt, ← head, eq-eqb h.id SEGMENT is) refl in sym one ∙ so_far

pub not_whole : (budget i : ℕ) (octets : List ℕ) (place : ℕ) (h : Head) (total : Result Segment Refused) → i < budget → Ok h ≡ head_at octets place → h.id ≢ SEGMENT → None ≡ element_at octets place
    → segment_from (budget - i) octets place ≡ total → Err NoSegment ≡ total
not_whole budget i octets place h total lt head isnt element so_far =
    let one : segment_from (budget - i) octets place ≡ Err NoSegment =
    rw (now budget i octets place lt, ← head, differs h.id SEGMENT isnt, ← element) refl in sym one ∙ so_far

pub goes_on : (budget i : ℕ) (octets : List ℕ) (place : ℕ) (h : Head) (c : WholeElement) (total : Result Segment Refused) → i < budget → Ok h ≡ head_at octets place → h.id ≢ SEGMENT → Some c ≡ element_at octets place
    → segment_from (budget - i) octets place ≡ total → segment_from (budget - (i + 1)) octets c.stop ≡ total
goes_on budget i octets place h c total lt head isnt element so_far =
    let one : segment_from (budget - i) octets place ≡ segment_from (budget - (i + 1)) octets c.stop =
    rw (now budget i octets place lt, ← head, differs h.id SEGMENT isnt, ← element) refl in sym one ∙ so_far

pub is_done : (budget i : ℕ) (octets : List ℕ) (place : ℕ) (total : Result Segment Refused) → budget ≤ i
    → segment_from (budget - i) octets place ≡ total → Err NoSegment ≡ total
unfolding segment_from
is_done budget i octets place total le so_far =
    let k : budget - i ≡ zero = omega arith in
    let one : segment_from (budget - i) octets place ≡ Err NoSegment = rw k refl in sym one ∙ so_far

-- ---- a child of the Segment

child_now : (budget i : ℕ) (octets : List ℕ) (end : Option ℕ) (place : ℕ) → i < budget
    → segment_children (budget - i) octets end place ≡ following (segment_child octets end place) (λ on. segment_children (budget - (i + 1)) octets end on)
unfolding segment_children
child_now budget i octets end place lt = let k : budget - i ≡ suc (budget - (i + 1)) = omega arith in rw k refl

pub no_child : (budget i : ℕ) (octets : List ℕ) (end : Option ℕ) (place id : ℕ) (total : Option WholeElement) → i < budget → None ≡ segment_child octets end place
    → first id (segment_children (budget - i) octets end place) ≡ total → None ≡ total
no_child budget i octets end place id total lt child so_far =
    let one : first id (segment_children (budget - i) octets end place) ≡ None = rw (child_now budget i octets end place lt, ← child) refl in sym one ∙ so_far

pub found_child : (budget i : ℕ) (octets : List ℕ) (end : Option ℕ) (place id : ℕ) (c : WholeElement) (total : Option WholeElement) → i < budget → Some c ≡ segment_child octets end place → c.id ≡ id
    → first id (segment_children (budget - i) octets end place) ≡ total → Some c ≡ total
found_child budget i octets end place id c total lt child is so_far =
    let one : first id (segment_children (budget - i) octets end place) ≡ Some c = rw (child_now budget i octets end place lt, ← child, eq-eqb c.id id is) refl in sym one ∙ so_far

pub other_child : (budget i : ℕ) (octets : List ℕ) (end : Option ℕ) (place id : ℕ) (c : WholeElement) (total : Option WholeElement) → i < budget → Some c ≡ segment_child octets end place → c.id ≢ id
    → first id (segment_children (budget - i) octets end place) ≡ total → first id (segment_children (budget - (i + 1)) octets end c.stop) ≡ total
other_child budget i octets end place id c total lt child isnt so_far =
    let one : first id (segment_children (budget - i) octets end place) ≡ first id (segment_children (budget - (i + 1)) octets end c.stop) =
    rw (child_now budget i octets end place lt, ← child, differs c.id id isnt) refl in sym one ∙ so_far

pub no_more : (budget i : ℕ) (octets : List ℕ) (end : Option ℕ) (place id : ℕ) (total : Option WholeElement) → budget ≤ i
    → first id (segment_children (budget - i) octets end place) ≡ total → None ≡ total
unfolding segment_children
no_more budget i octets end place id total le so_far =
    let k : budget - i ≡ zero = omega arith in
    let one : first id (segment_children (budget - i) octets end place) ≡ None = rw k refl in sym one ∙ so_far
