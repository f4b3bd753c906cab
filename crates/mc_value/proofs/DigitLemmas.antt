-- The number that digits stand for.
use Rattle.std.proofs.Common.{◌≡◌, ◌+◌, ◌-◌, ◌*◌, ◌^◌, ◌≤◌, ◌<◌, ◌∷◌, [], List, ℕ, Bool, true, false, refl, arith, drop, length, if◌then◌else◌, sym, subst, suc, get_or}
use Rattle.std.proofs.Math.Seq.{drop-cons}
use Rattle.std.proofs.lemmas.List.{drop_all}
use Rattle.std.proofs.lemmas.Bool.Decides.{nat_tests}
use Rattle.std.specs.Prelude.{Some, None}
use Rattle.std.specs.Char.{is_ascii_digit}
use Rattle.mc_value.specs.Numbers.{below_word, read_behind}

-- more digits make no number smaller
pub too_great : (n : ℕ) (cs : List ℕ) → 2 ^ 64 ≤ n → below_word (read_behind n cs) ≡ None
too_great n [] h = grind (arith, nat_tests)
too_great n (c ∷ cs) h = elim (is_ascii_digit c) as (λ b. below_word (if b then read_behind (n * 10 + (c - 48)) cs else None) ≡ None) [ true ↦ too_great (n * 10 + (c - 48)) cs (omega arith) | false ↦ refl ]

pub too_great_behind : (n c : ℕ) (cs : List ℕ) → is_ascii_digit c ≡ true → 2 ^ 64 ≤ n * 10 + (c - 48) → below_word (read_behind n (c ∷ cs)) ≡ None
too_great_behind n c cs told h = let P : Bool → Type 0 = λ b. below_word (if b then read_behind (n * 10 + (c - 48)) cs else None) ≡ None in subst P (sym told) (too_great (n * 10 + (c - 48)) cs h)

pub too_great_at : (n i : ℕ) (ds : List ℕ) → i < length ds → is_ascii_digit (get_or ds i 0) ≡ true → 2 ^ 64 ≤ n * 10 + (get_or ds i 0 - 48) → below_word (read_behind n (drop i ds)) ≡ None
too_great_at n i ds in_range told h = rw (drop-cons ds i 0 in_range) (too_great_behind n (get_or ds i 0) (drop (suc i) ds) told h)

pub all_read : (n i : ℕ) (ds : List ℕ) → length ds ≤ i → n < 2 ^ 64 → Some n ≡ below_word (read_behind n (drop i ds))
all_read n i ds over small = rw (drop_all i ds over) (grind (arith, nat_tests))
