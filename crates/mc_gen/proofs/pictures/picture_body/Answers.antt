use Rattle.std.proofs.Common.{◌∙◌, ap, length, arith}
use Rattle.std.proofs.lemmas.List.FromFn.{length-map-range_with_len}
use Rattle.mc_gen.specs.Generated.{picture_octet}
use Rattle.mc_gen.proofs.Rounds.{octet_more}
use Rattle.mc_gen.proofs.pictures.picture_body.Goals as goal

pub loop-j-preserved : goal.loop-j-preserved
loop-j-preserved c = c.in_ok-push.ensures.items ∙ octet_more c.args.i c.loop-j.j c.loop-j.body.items c.loop-j.invariant

pub returns-clause-small : goal.returns-clause-small
returns-clause-small c = omega (arith, ap length c.loop-j.invariant, length-map-range_with_len (picture_octet c.args.i) 0 c.loop-j.j, c.loop-j.auto.j-end)
