-- The packets of a block element are those of its block; in a group the children tell which that is.
use Rattle.std.proofs.Common.{◌≡◌, ℕ, ◌≤◌, false, List, length, Option, Some, None, refl, arith}
use Rattle.std.specs.Prelude.{nat_lt, option_map}
use Rattle.std.proofs.lemmas.Bool.Decides.{nat_tests}
use Rattle.mc_ebml.specs.declared.whole.WholeElement.{WholeElement}
use Rattle.mc_block.specs.Block.{group_body_of, block_among}
use Rattle.mc_block.specs.Group.{children_of, found_among}
use Rattle.mc_tracks.specs.declared.track.Track.{Track}
use Rattle.mc_walk.specs.declared.movement.Role.TheVariants as roles
use Rattle.mc_walk.specs.Blocks.{◌>>=◌, faulted, some_opened, opened, block_element_of}
use Rattle.mc_walk.specs.Glances.{opened_among}

pub simple_opened : (tracks : List Track) (scale place : ℕ) (time : Option ℕ) (body : List ℕ) → length body ≤ 67108864
    → block_element_of tracks scale place time roles.SimpleBlock body ≡ some_opened tracks place scale time (record { octets = body; keyframe = None })
unfolding block_element_of
simple_opened tracks scale place time body small =
    let whole : nat_lt 67108864 (length body) ≡ false = grind (arith, nat_tests) in rw whole refl

by_children : (tracks : List Track) (scale place : ℕ) (time : Option ℕ) (body : List ℕ) (children : Option (List WholeElement))
    → faulted (block_among body children) >>= (λ block. opened tracks place scale time block) ≡ opened_among tracks place scale time body (option_map found_among children)
by_children tracks scale place time body None = refl
by_children tracks scale place time body (Some cs) = refl

pub group_opened : (tracks : List Track) (scale place : ℕ) (time : Option ℕ) (body : List ℕ) → length body ≤ 67108864
    → block_element_of tracks scale place time roles.BlockGroup body ≡ opened_among tracks place scale time body (option_map found_among (children_of body))
unfolding block_element_of group_body_of
group_opened tracks scale place time body small =
    let whole : nat_lt 67108864 (length body) ≡ false = grind (arith, nat_tests) in rw whole (by_children tracks scale place time body (children_of body))
