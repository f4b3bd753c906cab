use Rattle.std.proofs.Common.{◌≡◌, rules, arith}
use Rattle.mc_ebml.specs.Ids.{TIMESTAMP_SCALE}
use Rattle.mc_written.specs.Elements.{element_text, number}
use Rattle.mc_written.proofs.Lengths.{number_small}
use Rattle.mc_written.proofs.Fronts.{element_small}
use Rattle.mc_written.proofs.front.write_info.Goals as goal

pub write_element-requires-clause-size : goal.write_element-requires-clause-size
write_element-requires-clause-size c =
    let is : c.as_slice.result.now ≡ element_text (number TIMESTAMP_SCALE c.args.scale) = search rules in
    element_small (number TIMESTAMP_SCALE c.args.scale) c.as_slice.result.now is (omega (arith, number_small c.args.scale))
