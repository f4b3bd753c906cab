use Rattle.std.proofs.Common.{◌≡◌, ◌≤◌, ◌+◌, ◌++◌, drop, take, length, sum, All}
use Rattle.mc_block.specs.Frames.{spans, LiesIn}
use Rattle.mc_block.proofs.lace.spans.Given as goal

abbrev pub invariant-loop-size : goal.invariant-loop-size
invariant-loop-size l = record {
  within : l.begin ≤ l.stop;
  taken : l.begin ≡ l.at + sum (take l.size-index l.sizes);
  count : length l.frames ≡ l.size-index;
  lie : All (LiesIn l.stop) l.frames;
  joined : l.frames ++ spans l.begin l.stop (drop l.size-index l.sizes) ≡ spans l.at l.stop l.sizes;
}
