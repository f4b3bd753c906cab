use Rattle.std.proofs.Common.{◌≡◌, ◌∙◌, ℕ, List, [], ◌∷◌, ◌++◌, ap, codes}
use Rattle.mc_value.specs.declared.value.Value.{Value}
use Rattle.mc_value.specs.declared.value.Value.TheVariants as value
use Rattle.mc_props.specs.Cache.{ends_of, octets_of, range_maps}
use Rattle.mc_props.proofs.cache_value.cache_map.Goals as goal

abbrev Pair : Type 0
Pair = List ℕ × Value

all : (none one two three ends octets : List Pair) (ranges : Pair) → none ≡ [] → one ≡ none ++ ranges ∷ [] → two ≡ one ++ ends → three ≡ two ++ octets
    → three ≡ ranges ∷ (ends ++ octets)
all none one two three ends octets ranges a b c d =
    d ∙ ap (λ (m : List Pair). m ++ octets) (c ∙ ap (λ (m : List Pair). m ++ ends) (b ∙ ap (λ (m : List Pair). m ++ ranges ∷ []) a))

pub returns : goal.returns
returns c =
    let ends : List Pair = ends_of c.args.view.now in
    let octets : List Pair = octets_of c.args.view.now in
    let name : List ℕ = codes "seekable-ranges" in
    let put : c.put_octets.new.pairs ≡ (name, value.Array c.in_ok-ranges.ranges) ∷ (ends ++ octets) =
    all c.new-pairs.result c.put.new.pairs c.put_ends.new.pairs c.put_octets.new.pairs ends octets (name, value.Array c.in_ok-ranges.ranges)
    c.new-pairs.ensures c.in_ok-put.ensures c.in_ok-put_ends.ensures c.in_ok-put_octets.ensures in
    ap value.Map (put ∙ ap (λ (rs : List Value). (name, value.Array rs) ∷ (ends ++ octets)) (c.in_ok-ranges.ensures ∙ ap range_maps c.as_slice.ensures))
