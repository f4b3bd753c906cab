-- What a poster has posted.
use Rattle.std.specs.Prelude.{ℕ, ◌≤◌, List, [], ◌∷◌}
use Rattle.mc_packet.specs.declared.cache.Status.{Status}

-- the last status posted is of n records at most
abbrev pub UpTo : ℕ → List Status → Type 0
UpTo n [] = Unit {0}
UpTo n (x ∷ xs) = x.seq ≤ n
