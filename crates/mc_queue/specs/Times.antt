-- The least and the greatest time of packets, of sync points or of all, past a time.
use Rattle.std.specs.Prelude.{◌≡◌, ◌⊎◌, Bool, true, ◌&&◌, ◌||◌, not, List, [], ◌∷◌, ℤ, int_le, Option, Some, None, IfSome}
use Rattle.std.specs.List.{AllByRecursion}
use Rattle.mc_packet.specs.declared.packet.Packet.{Packet}
use Rattle.mc_packet.specs.declared.choice.Dir.{Dir}
use Rattle.mc_packet.specs.declared.choice.Dir.TheVariants.{Back, Forward}

-- a time is the other, or comes before it on the way up, or on the way down
abbrev pub comes_first : Dir → ℤ → ℤ → Bool
comes_first Forward a b = int_le a b
comes_first Back a b = int_le b a

-- a time lies behind another on the way, where there is another
abbrev pub is_past : Dir → Option ℤ → ℤ → Bool
is_past dir None time = true
is_past dir (Some t) time = not (comes_first dir time t)

-- a sync point, or any packet, with a time past another
abbrev pub is_wanted : Dir → Bool → Option ℤ → Packet → Bool
is_wanted dir any past p = (any || p.sync) && is_past dir past p.time

-- one of them is so
abbrev pub AnyOf : (Packet → Type 0) → List Packet → Type 0
AnyOf P [] = ⊥
AnyOf P (p ∷ ps) = P p ⊎ AnyOf P ps

abbrev pub IsReached : Dir → Option ℤ → ℤ → Type 0
IsReached dir None time = ⊥
IsReached dir (Some t) time = comes_first dir t time ≡ true

-- of the packets that pass the time that comes first on the way, or none where none passes
pub record IsNearest (dir : Dir) (test : Packet → Bool) (ps : List Packet) (time : Option ℤ) : Type 0 where
  pub first : AllByRecursion (λ p. test p ≡ true → IsReached dir time p.time) ps
  pub met : IfSome time (λ t. AnyOf (λ p. (test p ≡ true) × (p.time ≡ t)) ps)
