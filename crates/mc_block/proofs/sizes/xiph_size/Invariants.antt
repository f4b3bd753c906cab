use Rattle.std.proofs.Common.{◌≡◌, ◌≤◌, ◌*◌, drop}
use Rattle.mc_block.specs.Frames.{longer, xiph_size}
use Rattle.mc_block.proofs.sizes.xiph_size.Given as goal

-- the rest, begun at the size so far, is the whole
abbrev pub invariant-loop-i : goal.invariant-loop-i
invariant-loop-i l = record {
  bound : l.size ≤ 255 * l.i;
  joined : longer l.size (xiph_size (drop l.i l.octets)) ≡ xiph_size l.octets;
}
