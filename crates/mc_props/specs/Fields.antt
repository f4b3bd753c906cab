-- The fields of the player's facts, as bits of a mask.
use Rattle.std.specs.Prelude.{◌≡◌, ℕ, ◌/◌, ◌%◌, Bool, true, not, ◌==◌, ◌&&◌, ◌||◌}
use Rattle.mc_props.specs.declared.facts.Facts.{Facts}

-- whether a mask has the field of a bit: 1 pause, 2 mute, 4 the file, 8 the selection, 16 the
-- cache's view
abbrev pub has_field : ℕ → ℕ → Bool
has_field mask bit = mask / bit % 2 == 1

-- two facts have the same in each field that passes the test
pub record AgreeOn (seen : ℕ → Bool) (f g : Facts) : Type 0 where
  pub pause : seen 1 ≡ true → f.pause ≡ g.pause
  pub mute : seen 2 ≡ true → f.mute ≡ g.mute
  pub path : seen 4 ≡ true → f.path ≡ g.path
  pub tracks : seen 4 ≡ true → f.tracks ≡ g.tracks
  pub loaded : seen 4 ≡ true → f.loaded ≡ g.loaded
  pub set : seen 8 ≡ true → f.set ≡ g.set
  pub cache : seen 16 ≡ true → f.cache ≡ g.cache

-- they agree on the mask's fields
abbrev pub Agree : ℕ → Facts → Facts → Type 0
Agree mask f g = AgreeOn (has_field mask) f g

-- they agree on all fields but the mask's
abbrev pub AgreeOutside : ℕ → Facts → Facts → Type 0
AgreeOutside mask f g = AgreeOn (λ bit. not (has_field mask bit)) f g

abbrev pub both_have : ℕ → ℕ → ℕ → Bool
both_have a b bit = has_field a bit && has_field b bit

-- whether two masks have a field in common
abbrev pub share_field : ℕ → ℕ → Bool
share_field a b = both_have a b 1 || (both_have a b 2
    || (both_have a b 4 || (both_have a b 8 || both_have a b 16)))
