use Rattle.std.proofs.Common.{◌≡◌, rules, arith, codes}
use Rattle.mc_ebml.specs.Ids.{DOC_TYPE}
use Rattle.mc_written.specs.Elements.{element_text}
use Rattle.mc_written.proofs.Fronts.{element_small}
use Rattle.mc_written.proofs.front.write_opening.Goals as goal

pub write_element-requires-clause-size : goal.write_element-requires-clause-size
write_element-requires-clause-size c =
    let is : c.as_slice.result.now ≡ element_text (DOC_TYPE, codes "matroska") = search rules in
    element_small (DOC_TYPE, codes "matroska") c.as_slice.result.now is (omega arith)
