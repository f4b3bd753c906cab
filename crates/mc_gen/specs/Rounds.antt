-- The blocks of whole Clusters, which come again after 64 of them: 768 pictures are a multiple of 12, 32 and 256.
use Rattle.std.specs.Prelude.{◌≡◌, ℕ, ◌*◌, List, map, Vec}
use Rattle.std.specs.List.{range_with_len, flat_map}
use Rattle.std.specs.declared.alloc.Global.{Global}
use Rattle.mc_written.specs.Clusters.{blocks_text}
use Rattle.mc_gen.specs.Generated.{blocks}

-- the blocks of so many pictures from one on
unfoldable pub pictures_text : ℕ → ℕ → List ℕ
pictures_text first count = blocks_text (flat_map blocks (range_with_len first count))

-- those of whole Cluster k
abbrev pub whole_text : ℕ → List ℕ
whole_text k = pictures_text (12 * k) 12

-- the octets of each of some vectors
abbrev pub octets_of_each : List (Vec ℕ Global) → List (List ℕ)
octets_of_each vs = map (λ (v : Vec ℕ Global). v.items) vs

-- these are the blocks of the first 64 whole Clusters
abbrev pub IsRound : List (Vec ℕ Global) → Type 0
IsRound vs = octets_of_each vs ≡ map whole_text (range_with_len 0 64)
