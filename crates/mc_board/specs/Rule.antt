-- The rule of a status board, and what each step of it tells its pass.
use Rattle.std.specs.Prelude.{◌≡◌, ℕ, List, [], ◌∷◌}
use mathlib.Core.Option.{some}
use lib.ListN.{get_elem?}
use Rattle.mc_packet.specs.declared.cache.Status.{Status}
use Rattle.mc_views.specs.Views.{Each, Apart}
use Rattle.mc_board.specs.Statuses.{Falling, Has, NotNewer}
use Rattle.mc_board.specs.declared.law.Posted.{Posted}
use Rattle.mc_board.specs.declared.law.View.{View}
use Rattle.mc_board.specs.declared.law.Role.{Role}
use Rattle.mc_board.specs.declared.law.Role.TheVariants.{Fresh, Posts, Looks}

-- Views

abbrev pub view_of : Role → List Status → List Status → View
view_of role posted seen = record { role = role; posted = posted; seen = seen }

abbrev pub fresh : View
fresh = view_of Fresh [] []

abbrev pub poster : List Status → View
poster posted = view_of Posts posted []

-- what a poster knows of what it posted: it has it all, and none is newer than one after it
abbrev pub IsPosting : View → Type 0
IsPosting v = (v ≡ poster v.posted) × Falling v.posted

abbrev pub looker : List Status → View
looker seen = view_of Looks [] seen

-- the poster, with what a pass has seen
abbrev pub takes_in : View → View → View
takes_in v w = view_of v.role v.posted w.seen

-- The rule

-- the poster has all that was posted, and each pass has seen nothing else
pub record Fits (log : List Status) (v : View) : Type 0 where
  pub posted : v.role ≡ Posts → v.posted ≡ log
  pub seen : (s : Status) → Has v.seen s → Has log s

abbrev pub IsPoster : View → ℕ → Type 0
IsPoster v n = v.role ≡ Posts

-- The cell shows the last of the statuses, and none is newer. There is one poster, and before it one fresh pass alone
pub record Kept (x : Posted) (views : List View) : Type 0 where
  pub older : List Status
  pub last : NotNewer older x.0
  pub each : Each (Fits (x.0 ∷ older)) views
  pub one : Apart IsPoster views
  pub alone : (i : ℕ) (v : View) → get_elem? views i ≡ some v → v.role ≡ Fresh → (j : ℕ) (u : View) → get_elem? views j ≡ some u → j ≡ i

-- Steps: the view before, the status found, the status left, and the view after

abbrev pub Begins : View → Posted → Posted → View → Type 0
Begins v x y w = w ≡ poster (y.0 ∷ [])

abbrev pub Adds : View → Posted → Posted → View → Type 0
Adds v x y w = w ≡ poster (y.0 ∷ v.posted)

-- what is seen is added, and nothing that was seen before is newer
abbrev pub Sees : View → Posted → Posted → View → Type 0
Sees v x y w = (w ≡ looker (y.0 ∷ v.seen)) × NotNewer v.seen y.0

-- all that was taken in was posted
abbrev pub Learns : View → Posted → Posted → View → Type 0
Learns v x y w = (w ≡ poster v.posted) × ((s : Status) → Has v.seen s → Has v.posted s)
