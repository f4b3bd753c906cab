-- Times in nanoseconds, and their texts in seconds.
use Rattle.std.specs.Prelude.{◌≡◌, ◌≤◌, ℕ, ℤ, pos, negsuc, neg_ℤ, ◌+◌, ◌-◌, ◌*◌, ◌/◌, ◌%◌, ◌^◌, Bool, true, false, if◌then◌else◌, ◌==◌, nat_le, position, length, take, drop, List, [], ◌∷◌, ◌++◌, Option, Some, None}
use Rattle.std.specs.Fmt.{decimal}
use Rattle.mc_value.specs.Numbers.{number_of}

-- the nanoseconds of a number of units, of so many nanoseconds each
abbrev pub scaled : ℕ → Option ℕ → Option ℕ
scaled unit None = None
scaled unit (Some n) = Some (n * unit)

-- the nanoseconds of one to ten digits of whole seconds
abbrev pub whole_seconds : List ℕ → Option ℕ
whole_seconds ds = if nat_le (length ds) 10 then scaled (10 ^ 9) (number_of ds) else None

-- the nanoseconds of one to nine digits behind the point
abbrev pub fraction : List ℕ → Option ℕ
fraction ds = if nat_le (length ds) 9 then scaled (10 ^ (9 - length ds)) (number_of ds) else None

-- the sum, where both parts can be read
abbrev pub both : Option ℕ → Option ℕ → Option ℕ
both None b = None
both (Some a) None = None
both (Some a) (Some b) = Some (a + b)

-- whole seconds, and a fraction where the text has a point: its first stands at this place
abbrev pub around_point : Option ℕ → List ℕ → Option ℕ
around_point None cs = whole_seconds cs
around_point (Some i) cs = both (whole_seconds (take i cs)) (fraction (drop (i + 1) cs))

-- the nanoseconds of a text without its sign
abbrev pub unsigned_seconds : List ℕ → Option ℕ
unsigned_seconds cs = around_point (position (λ c. c == 46) cs) cs

-- a time with its sign, where it is at most 2^62 nanoseconds on either side of 0
abbrev pub time_of : Bool → Option ℕ → Option ℤ
time_of minus None = None
time_of minus (Some n) =
    if nat_le n (2 ^ 62) then Some (if minus then neg_ℤ (pos n) else pos n) else None

-- the nanoseconds of a text of seconds: an optional sign, 1 to 10 digits, and optionally a point
-- and 1 to 9 digits
abbrev pub seconds_of : List ℕ → Option ℤ
seconds_of [] = None
seconds_of (c ∷ cs) =
    if c == 45 then time_of true (unsigned_seconds cs) else
    if c == 43 then time_of false (unsigned_seconds cs) else
    time_of false (unsigned_seconds (c ∷ cs))

-- a number's last digit
abbrev pub digit : ℕ → ℕ
digit n = 48 + n % 10

-- its last three digits
abbrev pub three_digits : ℕ → List ℕ
three_digits n = digit (n / 100) ∷ digit (n / 10) ∷ digit n ∷ []

-- its last six digits
abbrev pub six_digits : ℕ → List ℕ
six_digits n = three_digits (n / 1000) ++ three_digits n

-- microseconds as seconds, with six decimals
abbrev pub micros_text : ℕ → List ℕ
micros_text n = decimal (n / 1000000) ++ 46 ∷ six_digits (n % 1000000)

-- a time below 0 has a `-` in front; `negsuc n` is the number -(n + 1)
abbrev pub sign_of : ℤ → List ℕ
sign_of (pos n) = []
sign_of (negsuc n) = 45 ∷ []

-- the microseconds of a time's floor, without its sign: the floor of -(n + 1) is -(n / 1000 + 1)
abbrev pub micros_of : ℤ → ℕ
micros_of (pos n) = n / 1000
micros_of (negsuc n) = n / 1000 + 1

-- nanoseconds as seconds: the floor to microseconds, with six decimals
abbrev pub seconds_text_of : ℤ → List ℕ
seconds_text_of z = sign_of z ++ micros_text (micros_of z)

-- the greatest whole number of microseconds that is not above a time, in nanoseconds
abbrev pub floor_to_micros : ℤ → ℤ
floor_to_micros (pos n) = pos (n / 1000 * 1000)
floor_to_micros (negsuc n) = neg_ℤ (pos ((n / 1000 + 1) * 1000))

-- a text is read back as the floor of the time that it was written for, where the bounds allow it
abbrev pub ReadsBack : ℤ → List ℕ → Type 0
ReadsBack z text = micros_of z * 1000 ≤ 2 ^ 62 → seconds_of text ≡ Some (floor_to_micros z)
