-- What a poster may post.
use Rattle.std.proofs.Common.{ℕ, ◌≤◌, List, [], ◌∷◌, arith}
use Rattle.mc_packet.specs.declared.cache.Status.{Status}
use Rattle.mc_board.specs.Statuses.{MayFollow}
use Rattle.turn_bench.specs.Posts.{UpTo}

pub may_follow : (n : ℕ) (posted : List Status) (s : Status) → UpTo n posted → n ≤ s.seq → MayFollow posted s
may_follow n [] s u le = tt
may_follow n (x ∷ xs) s u le = omega (arith, u, le)
