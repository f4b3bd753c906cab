use Rattle.std.proofs.Common.{◌≡◌, ◌<◌, ◌≤◌, ◌-◌, List, ℕ, length, take, drop}
use Rattle.mc_block.specs.Fronts.{is_good, FitsIn}
use Rattle.mc_block.proofs.lace_reader.LaceReader.read.Given as goal

-- what is left is as good as the whole
abbrev pub invariant-loop-lace : goal.invariant-loop-lace
invariant-loop-lace l = record {
  within : l.at ≤ length l.front;
  started : 0 < l.fn.self.wanted → l.at ≡ 0 → 0 < l.lace.wanted;
  fits : FitsIn (l.left - l.at) l.lace;
  same : (octets : List ℕ) → length octets ≡ l.left → l.front ≡ take (length l.front) octets → is_good l.lace (drop l.at octets) ≡ is_good l.fn.self octets;
}

abbrev pub decreases-loop-lace : goal.decreases-loop-lace
decreases-loop-lace l = length l.front - l.at
