-- Children of a group, one after the other.
use Rattle.std.proofs.Common.{◌≡◌, ℕ, zero, suc, ◌+◌, ◌-◌, ◌<◌, ◌≤◌, ◌==◌, Bool, true, false, cond, ◌||◌, List, [], ◌∷◌, length, Option, Some, None, refl, sym, ap, ◌∙◌, arith}
use Rattle.std.specs.Prelude.{option_map, IfSome}
use Rattle.std.specs.Option.{option_or}
use Rattle.std.proofs.lemmas.Bool.{le-leb, lt-leb}
use Rattle.mc_ebml.specs.declared.whole.WholeElement.{WholeElement}
use Rattle.mc_block.specs.declared.group.GroupParts.{GroupParts}
use Rattle.mc_ebml.specs.Whole.{element_at}
use Rattle.mc_block.specs.Group.{children, children_of, found_among, with_child, first_block, refers}

abbrev made : Option WholeElement → Bool → GroupParts
made block had = record { block = block; refers = had }

-- what children tell behind those that were seen
abbrev pub with_children : GroupParts → List WholeElement → GroupParts
with_children found cs = record { block = option_or found.block (first_block cs); refers = found.refers || refers cs }

abbrev pub after_found : GroupParts → Option (List WholeElement) → Option GroupParts
after_found found None = None
after_found found (Some cs) = Some (with_children found cs)

regrouped : (found : GroupParts) (c : WholeElement) (others : Option (List WholeElement))
    → after_found found (option_map (λ (cs : List WholeElement). c ∷ cs) others) ≡ after_found (with_child found c) others
regrouped found c None = refl
regrouped found c (Some cs) = ap (λ (f : GroupParts). Some f) (same found.block (c.id == 0xA1) found.refers (c.id == 0xFB))
  where
    same : (block : Option WholeElement) (is : Bool) (had has : Bool)
        → made (option_or block (cond is (Some c) (first_block cs))) (had || (has || refers cs))
        ≡ made (option_or (option_or block (cond is (Some c) None)) (first_block cs)) ((had || has) || refers cs)
    same (Some b) is true has = refl
    same (Some b) is false has = refl
    same None true true has = refl
    same None true false has = refl
    same None false true has = refl
    same None false false has = refl

pub begins : (octets : List ℕ) → after_found (record { block = None; refers = false }) (children (length octets - 0) octets 0) ≡ option_map found_among (children_of octets)
unfolding children_of
begins octets = let k : length octets - 0 ≡ length octets = omega arith in rw k (same (children (length octets) octets 0))
  where
    same : (r : Option (List WholeElement)) → after_found (record { block = None; refers = false }) r ≡ option_map found_among r
    same None = refl
    same (Some cs) = refl

pub goes_on : (found : GroupParts) (budget i at : ℕ) (octets : List ℕ) (c : WholeElement) (total : Option GroupParts) → i < budget → at < length octets → Some c ≡ element_at octets at
    → after_found found (children (budget - i) octets at) ≡ total → after_found (with_child found c) (children (budget - (i + 1)) octets c.stop) ≡ total
unfolding children
goes_on found budget i at octets c total lt more child so_far =
    let k : budget - i ≡ suc (budget - (i + 1)) = omega arith in
    let one : after_found found (children (budget - i) octets at) ≡ after_found (with_child found c) (children (budget - (i + 1)) octets c.stop) =
    rw (k, lt-leb (length octets) at more, ← child) (regrouped found c (children (budget - (i + 1)) octets c.stop)) in
    sym one ∙ so_far

pub breaks : (found : GroupParts) (budget i at : ℕ) (octets : List ℕ) (total : Option GroupParts) → i < budget → at < length octets → None ≡ element_at octets at
    → after_found found (children (budget - i) octets at) ≡ total → None ≡ total
unfolding children
breaks found budget i at octets total lt more child so_far =
    let k : budget - i ≡ suc (budget - (i + 1)) = omega arith in
    let one : after_found found (children (budget - i) octets at) ≡ None = rw (k, lt-leb (length octets) at more, ← child) refl in
    sym one ∙ so_far

all_found : (found : GroupParts) → with_children found [] ≡ found
all_found found = same found.block found.refers
  where
    same : (block : Option WholeElement) (had : Bool) → made (option_or block None) (had || false) ≡ made block had
    same None true = refl
    same None false = refl
    same (Some b) true = refl
    same (Some b) false = refl

pub ends : (found : GroupParts) (budget i at : ℕ) (octets : List ℕ) (total : Option GroupParts) → length octets ≤ at
    → after_found found (children (budget - i) octets at) ≡ total → Some found ≡ total
unfolding children
ends found budget i at octets total end so_far = go (budget - i) so_far
  where
    go : (k : ℕ) → after_found found (children k octets at) ≡ total → Some found ≡ total
    go zero e = ap (λ (f : GroupParts). Some f) (sym (all_found found)) ∙ e
    go (suc k) e =
        let one : after_found found (children (suc k) octets at) ≡ Some found = rw (le-leb (length octets) at end) (ap (λ (f : GroupParts). Some f) (all_found found)) in
        sym one ∙ e

pub is_done : (found : GroupParts) (budget i at : ℕ) (octets : List ℕ) (total : Option GroupParts) → budget ≤ i
    → after_found found (children (budget - i) octets at) ≡ total → Some found ≡ total
unfolding children
is_done found budget i at octets total done so_far =
    let k : budget - i ≡ zero = omega arith in
    let one : after_found found (children (budget - i) octets at) ≡ Some found = rw k (ap (λ (f : GroupParts). Some f) (all_found found)) in
    sym one ∙ so_far

-- a block that is found lies in so many octets
pub kept : (found : GroupParts) (c : WholeElement) (len : ℕ) → IfSome found.block (λ (b : WholeElement). (b.at ≤ b.stop) × (b.stop ≤ len)) → c.at ≤ c.stop → c.stop ≤ len
    → IfSome (with_child found c).block (λ (b : WholeElement). (b.at ≤ b.stop) × (b.stop ≤ len))
kept found c len lies order within = go found.block (c.id == 0xA1) lies
  where
    go : (block : Option WholeElement) (is : Bool) → IfSome block (λ (b : WholeElement). (b.at ≤ b.stop) × (b.stop ≤ len))
        → IfSome (option_or block (cond is (Some c) None)) (λ (b : WholeElement). (b.at ≤ b.stop) × (b.stop ≤ len))
    go (Some b) is h = h
    go None true h = (order, within)
    go None false h = tt
