-- A setting is its client's.
use Rattle.std.proofs.Common.{◌≡◌, ℕ, Bool, true, false, List, [], ◌++◌, refl}
use Rattle.mc_value.specs.declared.value.Value.{Value}
use Rattle.mc_turn.specs.Workers.{GrewAs}
use Rattle.turn_bench.specs.declared.setting.Setting.{Setting}
use Rattle.turn_bench.specs.Settings.{Holds, client_of, set_to}

pub sets_grew : (done : Bool) (client : ℕ) (value : Value) (old new : List Setting) → new ≡ old ++ set_to done client value → GrewAs client_of (Holds value) client old new
sets_grew true client value old new e = record { more = set_to true client value; grows = e; are = (refl, tt); such = (refl, tt) }
sets_grew false client value old new e = record { more = []; grows = e; are = tt; such = tt }
