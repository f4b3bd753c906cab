-- The newest of the statuses that were posted, or that a pass has seen.
use Rattle.std.proofs.Common.{◌≡◌, ◌≤◌, List, [], ◌∷◌, subst, ⊎_elim, arith, le_trans}
use Rattle.mc_packet.specs.declared.cache.Status.{Status}
use Rattle.mc_board.specs.Statuses.{Falling, Has, MayFollow, NotNewer, UpToFirst}

-- what a look gave is not older than anything that the pass has then seen
pub newest : (seen : List Status) (s : Status) → NotNewer seen s → NotNewer (s ∷ seen) s
newest seen s old x has = ⊎_elim (λ (e : s ≡ x). subst (λ (z : Status). z.seq ≤ s.seq) e (omega arith)) (λ t. old x t) has

-- what may follow the last one posted is not older than anything posted
none_newer : (posted : List Status) (s : Status) → MayFollow posted s → Falling posted → NotNewer posted s
none_newer [] s may falls x has = absurd has
none_newer (y ∷ ys) s may falls x has = ⊎_elim (λ (e : y ≡ x). subst (λ (z : Status). z.seq ≤ s.seq) e may) (λ t. le_trans (falls.0 x t) may) has

pub falls_on : (posted : List Status) (s : Status) → MayFollow posted s → Falling posted → Falling (s ∷ posted)
falls_on posted s may falls = (none_newer posted s may falls, falls)

-- nothing posted is newer than the last one
pub up_to_first : (posted : List Status) (s : Status) → Falling posted → Has posted s → UpToFirst posted s
up_to_first [] s falls has = absurd has
up_to_first (y ∷ ys) s falls has = ⊎_elim (λ (e : y ≡ s). subst (λ (z : Status). z.seq ≤ y.seq) e (omega arith)) (λ t. falls.0 s t) has
