-- The head of a group's child tells where it stands.
use Rattle.std.proofs.Common.{◌≡◌, ℕ, List, length, take, drop, sym, ap}
use Rattle.mc_ebml.specs.Element.{head_at}
use Rattle.mc_ebml.specs.Whole.{whole_element, element_at}
use Rattle.mc_block.specs.Fronts.{child_by}
use Rattle.mc_block.proofs.Heads.{head_window}

pub child_here : (front body : List ℕ) (at len : ℕ) → length body ≡ len → front ≡ take 12 (drop at body) → child_by at len (head_at front 0) ≡ element_at body at
unfolding element_at
child_here front body at len whole is = rw (← whole, is) (ap (whole_element (length body) at) (sym (head_window body at)))
