use Rattle.std.proofs.Common.{◌≡◌, ◌≤◌, ◌-◌, length}
use Rattle.std.specs.Prelude.{IfSome, option_map}
use Rattle.mc_ebml.specs.declared.whole.WholeElement.{WholeElement}
use Rattle.mc_block.specs.Group.{children, children_of, found_among}
use Rattle.mc_block.proofs.Found.{after_found}
use Rattle.mc_block.proofs.group.read_children.Given as goal

abbrev pub invariant-loop : goal.invariant-loop
invariant-loop l = record {
  within : l.at ≤ length l.octets;
  lies : IfSome l.found.block (λ (c : WholeElement). (c.at ≤ c.stop) × (c.stop ≤ length l.octets));
  joined : after_found l.found (children (l.end - l.counter) l.octets l.at) ≡ option_map found_among (children_of l.octets);
}
