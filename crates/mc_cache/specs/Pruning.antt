-- The one next drop that the limit on octets behind the readers asks for.
use Rattle.std.specs.Prelude.{◌≡◌, ◌≤◌, ◌<◌, ℕ, ◌-◌, List, [], ◌∷◌, Option, Some, None, if◌then◌else◌}
use Rattle.mc_packet.specs.declared.cache.Heads.{Heads}
use Rattle.mc_journal.specs.declared.record.Cause.TheVariants.{Limit}
use Rattle.mc_journal.specs.declared.record.Cause.{Cause}
use Rattle.mc_journal.specs.declared.record.Removal.{Removal}
use Rattle.mc_range.specs.declared.cutting.Cut.{Cut}
use Rattle.mc_range.specs.Range.{RangeState}
use Rattle.mc_range.specs.Cutting.{IsCut, weight_from}
use Rattle.mc_cache.specs.Cache.{CacheState, holds, ranges_of, weight_of}
use Rattle.mc_cache.specs.Changing.{KeepsRest}

-- ---- octets

-- of the current range's packets at their heads or behind them
abbrev pub ahead_in : Heads → Option RangeState → ℕ
ahead_in heads None = 0
ahead_in heads (Some r) = weight_from heads r.queues

-- of all other packets
abbrev pub back_of : Heads → CacheState → ℕ
back_of heads st = weight_of (ranges_of st) - ahead_in heads st.current

-- ---- the drop

-- the last of the others is cut, and goes where it then holds nothing
abbrev pub CutsLast : List RangeState → List RangeState → Cut → Type 0
CutsLast [] new c = ⊥
CutsLast (r ∷ []) new c = (q : RangeState) × IsCut None r q (Some c) × (new ≡ (if holds q then q ∷ [] else []))
CutsLast (r ∷ o ∷ rs) new c = (rest : List RangeState) × CutsLast (o ∷ rs) rest c × (new ≡ r ∷ rest)

-- the current range is cut, up to the heads at most
abbrev pub CutsFront : Heads → Option RangeState → Option RangeState → Cut → Type 0
CutsFront heads None q c = ⊥
CutsFront heads (Some r) None c = ⊥
CutsFront heads (Some r) (Some q) c = IsCut (Some heads) r q (Some c)

-- without others the current range, up to the heads at most
abbrev pub CutsRange : Heads → Option RangeState → List RangeState → Option RangeState → List RangeState → Cut → Type 0
CutsRange heads current [] current' others' c = CutsFront heads current current' c × (others' ≡ [])
CutsRange heads current (r ∷ rs) current' others' c = CutsLast (r ∷ rs) others' c × (current' ≡ current)

abbrev pub removal_by : Cause → Cut → Removal
removal_by cause c = record { track = c.track; from = c.from; to = c.to; cause = cause }

-- it is told with the octets before it and the limit
pub record Drops (heads : Heads) (m : Removal) (old new : CacheState) : Type 0 where
  pub over : old.limits.back < back_of heads old
  pub cut : Cut
  pub ranges : CutsRange heads old.current old.others new.current new.others cut
  pub told : m ≡ removal_by (Limit (back_of heads old) old.limits.back) cut
  pub rest : KeepsRest old new

-- nothing is dropped where they are within the limit
abbrev pub Prunes : Heads → Option Removal → CacheState → CacheState → Type 0
Prunes heads None old new = (back_of heads old ≤ old.limits.back) × (new ≡ old)
Prunes heads (Some m) old new = Drops heads m old new
