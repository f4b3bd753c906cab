use Rattle.std.proofs.Common.{◌∙◌}
use Rattle.mc_written.proofs.Fronts.{entry_small}
use Rattle.mc_written.proofs.front.write_entry.Goals as goal

pub write_element-requires-clause-size : goal.write_element-requires-clause-size
write_element-requires-clause-size c = rw (c.as_slice.ensures.value ∙ c.in_ok-body.ensures.text) (entry_small c.args.track.now c.requires)
