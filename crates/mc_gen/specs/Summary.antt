-- What a right reader finds in a generated film, in a line.
use Rattle.std.specs.Prelude.{ℕ, List, ◌++◌, length, map, sum_by, codes, decimal, ℤ, pos}
use Rattle.std.specs.Fmt.{signed_decimal}
use Rattle.std.specs.Int.{int_max}
use Rattle.std.specs.List.{fold}
use Rattle.mc_packet.specs.Contents.{Content}
use Rattle.mc_gen.specs.declared.summary.Sums.{Sums}
use Rattle.mc_gen.specs.Generated.{generated_packets}

-- the greatest of some times, none of which is negative
abbrev pub last_of : List ℤ → ℤ
last_of times = fold int_max (pos 0) times

-- how many packets there are, how many octets their payloads have together, and the last time
abbrev pub sums_of : List Content → Sums
sums_of ps = record {
  packets = length ps;
  octets = sum_by (λ (p : Content). length p.body) ps;
  last = last_of (map (λ (p : Content). p.time) ps);
}

-- ---- the line

abbrev pub counts_text : ℕ → ℕ → ℕ → List ℕ
counts_text n packets octets = codes "gen " ++ (decimal n ++ (codes " packets " ++ (decimal packets ++ (codes " octets " ++ decimal octets))))

abbrev pub last_text : ℤ → ℕ → List ℕ
last_text last status = codes " last " ++ (signed_decimal last ++ (codes " status " ++ (decimal status ++ codes "\n")))

-- the film's number of pictures, the sums, and the status with which it was read
abbrev pub sums_text : ℕ → Sums → ℕ → List ℕ
sums_text n s status = counts_text n s.packets s.octets ++ last_text s.last status

-- of the film of n pictures, read to its end
abbrev pub summary : ℕ → List ℕ
summary n = sums_text n (sums_of (generated_packets n)) 0
