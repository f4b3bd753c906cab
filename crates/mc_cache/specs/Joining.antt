-- The joins of the current range with the others that touch it, one by one, in order of last use.
use Rattle.std.specs.Prelude.{◌≡◌, ℕ, ◌+◌, Bool, true, false, List, [], ◌++◌, Option, Some, None, ℤ}
use Rattle.std.specs.List.{find}
use Rattle.mc_packet.specs.declared.packet.Pos.{Pos}
use Rattle.mc_journal.specs.declared.record.Cause.TheVariants.{Mismatch}
use Rattle.mc_journal.specs.declared.record.Removal.{Removal}
use Rattle.mc_queue.specs.declared.queue.UnionError.TheVariants.{Mismatch as Differ}
use Rattle.mc_range.specs.Range.{RangeState, IsRange, IsRoomier, meets_range}
use Rattle.mc_range.specs.Joining.{IsJoined, JoinRefused}
use Rattle.mc_cache.specs.Cache.{CacheState, without_first}
use Rattle.mc_cache.specs.Changing.{IsSameButRoom}
use Rattle.mc_cache.specs.Removals.{removals_of}
use Rattle.mc_cache.specs.Rooms.{meets_any}

-- the first other range that touches this one
abbrev pub neighbour : RangeState → List RangeState → Option RangeState
neighbour r rs = find (meets_range r) rs

abbrev pub others_left : RangeState → List RangeState → List RangeState
others_left r rs = without_first (meets_range r) rs

-- from one range and its others to another range and those that are left: so many joins were made, and these removals came
-- of ranges that differ
pub data Joins (first : RangeState) (beside : List RangeState) : RangeState → List RangeState → ℕ → List Removal → Type 0 where
  -- none yet
  unjoined : Joins first beside first beside 0 []
  -- and then it is united with the first that touches it
  united : (r : RangeState) (rs : List RangeState) (n : ℕ) (drops : List Removal) (o r' o' : RangeState)
      → Joins first beside r rs n drops → neighbour r rs ≡ Some o → IsJoined r o r' o' → IsRange r' → Joins first beside r' (others_left r rs) (n + 1) drops
  -- or that one goes, where they differ
  parted : (r : RangeState) (rs : List RangeState) (n : ℕ) (drops : List Removal) (o r' : RangeState) (at : Pos) (ours other : Option ℤ)
      → Joins first beside r rs n drops → neighbour r rs ≡ Some o → JoinRefused r o (Differ at ours other) → IsRoomier r r' → IsRange r'
      → Joins first beside r' (others_left r rs) n (drops ++ removals_of (Mismatch at ours other) o)

-- joins of the current range, if there is one, until no other touches it
abbrev pub JoinsFrom : Option RangeState → List RangeState → Option RangeState → List RangeState → ℕ → List Removal → Type 0
JoinsFrom None rs r' rs' n drops = (r' ≡ None) × (rs' ≡ rs) × (n ≡ 0) × (drops ≡ [])
JoinsFrom (Some r) rs None rs' n drops = ⊥
JoinsFrom (Some r) rs (Some r') rs' n drops = Joins r rs r' rs' n drops × (meets_any r' rs' ≡ false)

-- what a call leaves: it makes room, and joins
pub record IsJoinedUp (n : ℕ) (drops : List Removal) (old new : CacheState) : Type 0 where
  pub roomy : CacheState
  pub room : IsSameButRoom old roomy
  pub joins : JoinsFrom roomy.current roomy.others new.current new.others n drops
  pub limits_is : new.limits ≡ old.limits

-- ---- one of them

-- it was united with another, or they differ and the other's packets are told
abbrev pub JoinsOne : RangeState → RangeState → Bool → RangeState → List Removal → List Removal → Type 0
JoinsOne r o true r' drops drops' = (o' : RangeState) × IsJoined r o r' o' × (drops' ≡ drops)
JoinsOne r o false r' drops drops' = (at : Pos) × (ours : Option ℤ) × (other : Option ℤ) × JoinRefused r o (Differ at ours other) × IsRoomier r r'
    × (drops' ≡ drops ++ removals_of (Mismatch at ours other) o)
