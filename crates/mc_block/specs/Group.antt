-- The children of a BlockGroup (RFC 9559, section 5.1.3.5).
use Rattle.std.specs.Prelude.{ℕ, zero, suc, nat_le, ◌==◌, if◌then◌else◌, Bool, List, [], ◌∷◌, length, Option, Some, None, option_map, find, ◌||◌}
use Rattle.std.specs.Option.{option_or}
use Rattle.std.specs.List.{list_any}
use Rattle.mc_ebml.specs.Whole.{element_at}
use Rattle.mc_ebml.specs.Ids.{BLOCK, REFERENCE_BLOCK}
use Rattle.mc_ebml.specs.declared.whole.WholeElement.{WholeElement}
use Rattle.mc_block.specs.declared.group.GroupParts.{GroupParts}

abbrev pub and_others : Option WholeElement → (WholeElement → Option (List WholeElement)) → Option (List WholeElement)
and_others None others = None
and_others (Some c) others = option_map (λ (cs : List WholeElement). c ∷ cs) (others c)

-- the children from a place up to exactly the end of the octets, where there are at most so many
unfoldable pub children : ℕ → List ℕ → ℕ → Option (List WholeElement)
children zero octets at = Some []
children (suc n) octets at = if nat_le (length octets) at then Some [] else and_others (element_at octets at) (λ c. children n octets c.stop)

-- the children, where each stands whole; there are fewer than octets
unfoldable pub children_of : List ℕ → Option (List WholeElement)
children_of octets = children (length octets) octets 0

-- the first Block
abbrev pub first_block : List WholeElement → Option WholeElement
first_block cs = find (λ (c : WholeElement). c.id == BLOCK) cs

-- whether a ReferenceBlock stands among them
abbrev pub refers : List WholeElement → Bool
refers cs = list_any (λ (c : WholeElement). c.id == REFERENCE_BLOCK) cs

-- what a group tells of its block
abbrev pub found_among : List WholeElement → GroupParts
found_among cs = record { block = first_block cs; refers = refers cs }

-- the same after one child more
abbrev pub with_child : GroupParts → WholeElement → GroupParts
with_child found c = record {
  block = option_or found.block (if c.id == BLOCK then Some c else None);
  refers = found.refers || (c.id == REFERENCE_BLOCK);
}
