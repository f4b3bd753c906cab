-- Conversions of values, as libmpv's client interface has them.
use Rattle.std.specs.Prelude.{◌≡◌, ℕ, ℤ, Bool, true, false, if◌then◌else◌, List, codes, Option, Some, None, Result, Ok, Err, ⊤}
use Rattle.std.specs.Option.{option_map}
use Rattle.std.specs.Str.{bytes_eq}
use Rattle.std.specs.Fmt.{signed_decimal}
use Rattle.mc_value.specs.Numbers.{whole_number_of}
use Rattle.mc_value.specs.Values.{json_of}
use Rattle.mc_value.specs.declared.value.Value.{Value, out-Value}
use Rattle.mc_value.specs.declared.value.Value.TheOpen.{Value-F}
use Rattle.mc_value.specs.declared.value.Value.TheVariants as value
use Rattle.mc_value.specs.declared.value.Format.{Format}
use Rattle.mc_value.specs.declared.value.Format.TheVariants as format
use Rattle.mc_value.specs.declared.value.ValueError.{ValueError}
use Rattle.mc_value.specs.declared.value.ValueError.TheVariants as failures

-- a flag in mpv's words
abbrev pub flag_text : Bool → List ℕ
flag_text b = if b then codes "yes" else codes "no"

-- the text of a value that is seen: a string itself, a flag as `yes` or `no`, a number's digits,
-- else JSON
abbrev pub text_at : Value → Value-F Value → List ℕ
text_at v (Value-F.Str s) = s
text_at v (Value-F.Flag b) = flag_text b
text_at v (Value-F.Int n) = signed_decimal n
text_at v _ = json_of v

-- the text of a value
abbrev pub text_of : Value → List ℕ
text_of v = text_at v (out-Value v)

-- the flag that a text says
abbrev pub flag_said : List ℕ → Option Bool
flag_said s =
    if bytes_eq s (codes "yes") then Some true else
    if bytes_eq s (codes "no") then Some false else None

-- the flag of a value: a flag itself, or what a string says
abbrev pub as_flag : Value-F Value → Option Bool
as_flag (Value-F.Flag b) = Some b
as_flag (Value-F.Str s) = flag_said s
as_flag _ = None

-- the whole number of a value: a number itself, or a string's
abbrev pub as_number : Value-F Value → Option ℤ
as_number (Value-F.Int n) = Some n
as_number (Value-F.Str s) = whole_number_of s
as_number _ = None

-- every value but `None` has a text
abbrev pub as_text : Value → Value-F Value → Option (List ℕ)
as_text v Value-F.None = None
as_text v _ = Some (text_of v)

-- a value in a format, where it has one there
abbrev pub converted : Value → Format → Option Value
converted v format.None = Some value.None
converted v format.String = option_map value.Str (as_text v (out-Value v))
converted v format.Flag = option_map value.Flag (as_flag (out-Value v))
converted v format.Int64 = option_map value.Int (as_number (out-Value v))
converted v format.Node = Some v

-- a call's answer: the value, or `PropertyFormat` where there is none; want of memory says nothing
abbrev pub Converts : Result Value ValueError → Option Value → Type 0
Converts (Ok v) wanted = wanted ≡ Some v
Converts (Err failures.PropertyFormat) wanted = wanted ≡ None
Converts (Err failures.BadSeconds) wanted = ⊥
Converts (Err failures.NoMemory) wanted = ⊤
