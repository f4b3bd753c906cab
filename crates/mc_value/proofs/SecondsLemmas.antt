-- A text of seconds is read back as what was written.
use Rattle.std.proofs.Common.{◌≡◌, ◌+◌, ◌-◌, ◌*◌, ◌/◌, ◌%◌, ◌^◌, ◌≤◌, ◌<◌, ◌++◌, ◌∷◌, [], List, ℕ, ℤ, pos, Bool, true, false, refl, arith, drop, take, length, if◌then◌else◌, ◌==◌, sym, ap, subst, ◌∙◌}
use Rattle.std.specs.Prelude.{Option, Some, None, position, negsuc, neg_ℤ, nat_le}
use Rattle.std.specs.List.{position_from}
use Rattle.std.specs.Char.{is_ascii_digit, digit_value}
use Rattle.std.specs.Fmt.{decimal}
use Rattle.std.specs.Int.{IsInRange}
use Rattle.std.specs.Str.Parse.{AllDigits, digits_value_after}
use Rattle.std.proofs.lemmas.Bool.Decides.{nat_tests}
use Rattle.std.proofs.lemmas.Fmt.{decimal_is_IsNumeral, length-decimal-le}
use Rattle.std.proofs.lemmas.Iterator.Adapters.{position_from-zero}
use Rattle.std.proofs.lemmas.Str.{digit_value_digit}
use Rattle.std.proofs.lemmas.Str.Parse.{digit_from_value}
use Rattle.std.proofs.Math.Seq.{take-append_seam, drop-append-add}
use Rattle.mc_value.specs.Numbers.{below_word, number_of, read_behind}
use Rattle.mc_value.specs.Seconds.{around_point, both, digit, fraction, scaled, whole_seconds, ReadsBack, micros_text, seconds_of, seconds_text_of, six_digits, time_of, unsigned_seconds}

abbrev pub is_point : ℕ → Bool
is_point c = c == 46

pub digit_told : (c : ℕ) → IsInRange 48 57 c → is_ascii_digit c ≡ true
digit_told c h = grind (arith, nat_tests)

pub not_code : (c d : ℕ) → IsInRange 48 57 c → d < 48 → (c == d) ≡ false
not_code c d h low = grind (arith, nat_tests)

pub read_all : (m : ℕ) (ds : List ℕ) → AllDigits 10 ds → read_behind m ds ≡ Some (digits_value_after 10 m ds)
read_all m [] h = refl
read_all m (c ∷ cs) h =
    let r = digit_from_value c h.0 in
    let v : digit_value c ≡ c - 48 = omega (arith, digit_value_digit c r) in
    let P : Bool → Type 0 = λ b. (if b then read_behind (m * 10 + (c - 48)) cs else None) ≡ Some (digits_value_after 10 (m * 10 + digit_value c) cs) in
    subst P (sym (digit_told c r)) (rw v (read_all (m * 10 + (c - 48)) cs h.1))

pub number_is : (n : ℕ) (ds : List ℕ) → 0 < length ds → n < 2 ^ 64 → read_behind 0 ds ≡ Some n → number_of ds ≡ Some n
number_is n [] any small e = absurd (omega arith)
number_is n (c ∷ cs) any small e = ap below_word e ∙ grind (arith, nat_tests)

pub point_behind : (k : ℕ) (ds rest : List ℕ) → AllDigits 10 ds → position_from is_point k (ds ++ 46 ∷ rest) ≡ Some (k + length ds)
point_behind k [] rest h = ap Some (omega arith)
point_behind k (c ∷ cs) rest h =
    let other = not_code c 46 (digit_from_value c h.0) (omega arith) in
    let P : Bool → Type 0 = λ b. (if b then Some k else position_from is_point (k + 1) (cs ++ 46 ∷ rest)) ≡ Some (k + length (c ∷ cs)) in
    subst P (sym other) (point_behind (k + 1) cs rest h.1 ∙ ap Some (omega arith))

pub le_told : (a b : ℕ) → a ≤ b → nat_le a b ≡ true
le_told a b h = grind (arith, nat_tests)

pub digit_in_range : (x : ℕ) → IsInRange 48 57 (digit x)
digit_in_range x = (omega arith, omega arith)

pub digit_worth : (x : ℕ) → digit_value (digit x) ≡ x % 10
digit_worth x = omega (arith, digit_value_digit (digit x) (digit_in_range x))

pub digit_small : (x : ℕ) → digit_value (digit x) < 10
digit_small x = omega (arith, digit_worth x)

pub six_are_digits : (n : ℕ) → AllDigits 10 (six_digits n)
six_are_digits n = (digit_small (n / 1000 / 100), (digit_small (n / 1000 / 10), (digit_small (n / 1000), (digit_small (n / 100), (digit_small (n / 10), (digit_small n, tt))))))

pub six_value : (n : ℕ) → n < 10 ^ 6 → digits_value_after 10 0 (six_digits n) ≡ n
six_value n h = omega (arith, digit_worth (n / 1000 / 100), digit_worth (n / 1000 / 10), digit_worth (n / 1000), digit_worth (n / 100), digit_worth (n / 10), digit_worth n)

pub fraction_is : (f : ℕ) → f < 10 ^ 6 → fraction (six_digits f) ≡ Some (f * 1000)
fraction_is f h = ap (scaled 1000) (number_is f (six_digits f) (omega arith) (omega arith) (read_all 0 (six_digits f) (six_are_digits f) ∙ ap Some (six_value f h)))

pub whole_is : (w : ℕ) → w < 10 ^ 10 → whole_seconds (decimal w) ≡ Some (w * 10 ^ 9)
whole_is w h =
    let num = decimal_is_IsNumeral w (omega arith) in
    let short : length (decimal w) ≤ 10 = length-decimal-le 10 w (omega arith) h (omega arith) in
    let P : Bool → Type 0 = λ b. (if b then scaled (10 ^ 9) (number_of (decimal w)) else None) ≡ Some (w * 10 ^ 9) in
    subst P (sym (le_told (length (decimal w)) 10 short)) (ap (scaled (10 ^ 9)) (number_is w (decimal w) num.0.0 (omega arith) (read_all 0 (decimal w) num.0.1 ∙ ap Some num.1)))

pub both_are : (a b : List ℕ) (x y : ℕ) → whole_seconds a ≡ Some x → fraction b ≡ Some y → both (whole_seconds a) (fraction b) ≡ Some (x + y)
both_are a b x y p q =
    let P : Option ℕ → Type 0 = λ o. both o (fraction b) ≡ Some (x + y) in
    let Q : Option ℕ → Type 0 = λ o. both (Some x) o ≡ Some (x + y) in
    subst P (sym p) (subst Q (sym q) refl)

pub unsigned_back : (w f : ℕ) → w < 10 ^ 10 → f < 10 ^ 6 → unsigned_seconds (decimal w ++ 46 ∷ six_digits f) ≡ Some (w * 10 ^ 9 + f * 1000)
unsigned_back w f hw hf =
    let num = decimal_is_IsNumeral w (omega arith) in
    let all : List ℕ = decimal w ++ 46 ∷ six_digits f in
    let at_point : position is_point all ≡ Some (length (decimal w)) = position_from-zero is_point all ∙ point_behind 0 (decimal w) (six_digits f) num.0.1 ∙ ap Some (omega arith) in
    let front : take (length (decimal w)) all ≡ decimal w = take-append_seam (decimal w) (46 ∷ six_digits f) in
    let back : drop (length (decimal w) + 1) all ≡ six_digits f = drop-append-add (decimal w) (46 ∷ six_digits f) 1 in
    let P : Option ℕ → Type 0 = λ o. around_point o all ≡ Some (w * 10 ^ 9 + f * 1000) in
    subst P (sym at_point) (both_are (take (length (decimal w)) all) (drop (length (decimal w) + 1) all) (w * 10 ^ 9) (f * 1000) (ap whole_seconds front ∙ whole_is w hw) (ap fraction back ∙ fraction_is f hf))

pub micros_back : (m : ℕ) → m * 1000 ≤ 2 ^ 62 → unsigned_seconds (micros_text m) ≡ Some (m * 1000)
micros_back m h = unsigned_back (m / 1000000) (m % 1000000) (omega arith) (omega arith) ∙ ap Some (omega arith)

pub unsigned_start : (ds rest : List ℕ) → AllDigits 10 ds → 0 < length ds → seconds_of (ds ++ rest) ≡ time_of false (unsigned_seconds (ds ++ rest))
unsigned_start [] rest h any = absurd (omega arith)
unsigned_start (c ∷ cs) rest h any =
    let r = digit_from_value c h.0 in
    let wanted : Option ℤ = time_of false (unsigned_seconds (c ∷ (cs ++ rest))) in
    let P : Bool → Type 0 = λ b. (if b then time_of true (unsigned_seconds (cs ++ rest)) else (if c == 43 then time_of false (unsigned_seconds (cs ++ rest)) else wanted)) ≡ wanted in
    let Q : Bool → Type 0 = λ b. (if b then time_of false (unsigned_seconds (cs ++ rest)) else wanted) ≡ wanted in
    subst P (sym (not_code c 45 r (omega arith))) (subst Q (sym (not_code c 43 r (omega arith))) refl)

pub time_is : (minus : Bool) (n : ℕ) → n ≤ 2 ^ 62 → time_of minus (Some n) ≡ Some (if minus then neg_ℤ (pos n) else pos n)
time_is minus n h =
    let P : Bool → Type 0 = λ b. (if b then Some (if minus then neg_ℤ (pos n) else pos n) else None) ≡ Some (if minus then neg_ℤ (pos n) else pos n) in
    subst P (sym (le_told n (2 ^ 62) h)) refl

pub seconds_read_back : (z : ℤ) → ReadsBack z (seconds_text_of z)
seconds_read_back (pos n) h =
    let num = decimal_is_IsNumeral (n / 1000 / 1000000) (omega arith) in
    unsigned_start (decimal (n / 1000 / 1000000)) (46 ∷ six_digits (n / 1000 % 1000000)) num.0.1 num.0.0 ∙ ap (time_of false) (micros_back (n / 1000) h) ∙ time_is false (n / 1000 * 1000) h
seconds_read_back (negsuc n) h = ap (time_of true) (micros_back (n / 1000 + 1) h) ∙ time_is true ((n / 1000 + 1) * 1000) h
