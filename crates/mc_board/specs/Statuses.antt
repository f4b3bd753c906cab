-- Lists of statuses, the newest first, and what a caller of the board sees of its poster and of a pass.
use Rattle.std.specs.Prelude.{◌≡◌, ◌≤◌, ◌⊎◌, List, [], ◌∷◌}
use Rattle.atomic_table.specs.Seated.{TableId}
use Rattle.mc_packet.specs.declared.cache.Status.{Status}

-- s is one of the statuses
abbrev pub Has : List Status → Status → Type 0
Has [] s = ⊥
Has (x ∷ xs) s = (x ≡ s) ⊎ Has xs s

-- none of the statuses is newer than s
abbrev pub NotNewer : List Status → Status → Type 0
NotNewer xs s = (x : Status) → Has xs x → x.seq ≤ s.seq

-- the last one posted is not newer than s
abbrev pub MayFollow : List Status → Status → Type 0
MayFollow [] s = Unit {0}
MayFollow (x ∷ xs) s = x.seq ≤ s.seq

-- none of the statuses is newer than one in front of it
abbrev pub Falling : List Status → Type 0
Falling [] = Unit {0}
Falling (x ∷ xs) = NotNewer xs x × Falling xs

-- s is not newer than the first of the statuses
abbrev pub UpToFirst : List Status → Status → Type 0
UpToFirst [] s = ⊥
UpToFirst (x ∷ xs) s = s.seq ≤ x.seq

-- which board the poster is of, and what was posted on it, from the first status on
pub record Posting : Type 0 where
  pub board : TableId
  pub posted : List Status

-- which board the pass is of, and what it has seen there
pub record Looking : Type 0 where
  pub board : TableId
  pub seen : List Status

abbrev pub posting : TableId → List Status → Posting
posting board posted = record { board = board; posted = posted }

abbrev pub looking : TableId → List Status → Looking
looking board seen = record { board = board; seen = seen }

-- the board is new: the poster has posted the first status, and the pass has seen nothing
abbrev pub IsFirst : TableId → Status → Posting → Looking → Type 0
IsFirst board first poster pass = (poster ≡ posting board (first ∷ [])) × (pass ≡ looking board [])
