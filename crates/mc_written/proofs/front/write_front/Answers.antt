use Rattle.std.proofs.Common.{◌∙◌}
use Rattle.mc_written.proofs.Fronts.{tracks_small}
use Rattle.mc_written.proofs.front.write_front.Goals as goal

pub write_front_with-requires : goal.write_front_with-requires
write_front_with-requires c = rw (c.as_slice.ensures.value ∙ c.in_ok-body.ensures.text) (tracks_small c.args.tracks.now c.requires.texts c.requires.few)
