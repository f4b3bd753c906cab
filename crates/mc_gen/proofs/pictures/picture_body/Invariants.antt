use Rattle.std.proofs.Common.{◌≡◌, map}
use Rattle.std.specs.List.{range_with_len}
use Rattle.mc_gen.specs.Generated.{picture_octet}
use Rattle.mc_gen.proofs.pictures.picture_body.Given as goal

abbrev pub invariant-loop-j : goal.invariant-loop-j
invariant-loop-j l = l.body.items ≡ map (picture_octet l.i) (range_with_len 0 l.j)
