-- Values that clients set.
use Rattle.std.specs.Prelude.{◌≡◌, ℕ, Bool, cond, List, [], ◌∷◌}
use Rattle.mc_value.specs.declared.value.Value.{Value}
use Rattle.turn_bench.specs.declared.setting.Setting.{Setting}

abbrev pub client_of : Setting → ℕ
client_of s = s.client

-- the setting, where there was memory for it
abbrev pub set_to : Bool → ℕ → Value → List Setting
set_to done client value = cond done (record { client = client; value = value } ∷ []) []

abbrev pub Holds : Value → Setting → Type 0
Holds value s = s.value ≡ value

-- the one setting of the caller 0, where there was memory for it, and nothing else
abbrev pub IsSetTo : Value → List Setting → Type 0
IsSetTo value settings = (done : Bool) × (settings ≡ set_to done 0 value)
