-- A text that ends before its first zero octet.
use Rattle.std.proofs.Common.{◌≡◌, ℕ, ◌≤◌, Bool, true, false, not, cond, List, length, Ok, Err, Some, None, refl, arith, ltb, ltb-false}
use Rattle.std.specs.Prelude.{unwrap_or}
use Rattle.std.specs.Str.{IsUtf8, is_utf8}
use Rattle.std.specs.List.{position_or_len, position}
use Rattle.std.proofs.lemmas.Str.{is_utf8-from_IsUtf8, IsUtf8-from_is_utf8}
use Rattle.std.proofs.lemmas.Bool.{false_from_ne_true}
use Rattle.std.proofs.lemmas.List.Sums.{prefix_len-le-length}
use Rattle.mc_ebml.specs.declared.read.EbmlError.TheVariants.{BadText}
use Rattle.mc_ebml.specs.Element.{whole_text}

pub utf8_is_text : (octets : List ℕ) → IsUtf8 octets → whole_text octets ≡ Ok octets
utf8_is_text octets is = rw (is_utf8-from_IsUtf8 octets is) refl

pub other_is_bad : (octets : List ℕ) → (IsUtf8 octets → ⊥) → whole_text octets ≡ Err BadText
other_is_bad octets not = rw (false_from_ne_true (is_utf8 octets) (λ t. not (IsUtf8-from_is_utf8 octets t))) refl

pub ruleset as_text = (utf8_is_text, other_is_bad)

pub place_or_end : (p : ℕ → Bool) (xs : List ℕ) → unwrap_or (position p xs) (length xs) ≡ position_or_len p xs
place_or_end p xs = chosen (ltb (position_or_len p xs) (length xs)) refl
  where
    within : position_or_len p xs ≤ length xs
    within = prefix_len-le-length (λ x. not (p x)) xs

    chosen : (b : Bool) → ltb (position_or_len p xs) (length xs) ≡ b → unwrap_or (cond b (Some (position_or_len p xs)) None) (length xs) ≡ position_or_len p xs
    chosen true e = refl
    chosen false e = let far : length xs ≤ position_or_len p xs = ltb-false (position_or_len p xs) (length xs) e in omega (arith, within)
