-- The first observer that has news is told it, whoever looks for it.
use Rattle.std.proofs.Common.{◌≡◌, ℕ, ◌+◌, ◌==◌, inl, inr, true, false, List, [], ◌∷◌, Option, Some, None, refl, ap, subst, arith}
use Rattle.std.specs.List.{AllByRecursion}
use Rattle.std.specs.Str.{bytes_eq}
use Rattle.std.proofs.lemmas.Bool.{cases_Bool, eq-eqb, and_from, and_right}
use Rattle.std.proofs.lemmas.Slice.Eq.{bytes_eq-Decides}
use Rattle.mc_value.proofs.Same.{exact}
use Rattle.mc_value.specs.Sameness.{same_value}
use Rattle.mc_value.specs.declared.value.Format.{Format}
use Rattle.mc_value.specs.declared.value.Format.TheVariants as formats
use Rattle.mc_props.specs.declared.facts.Facts.{Facts}
use Rattle.mc_client.specs.Seen.{Seen, first_told, first_unsettled, is_settled, same_format, told_now, was_given}
use Rattle.mc_client.specs.Watches.{Shown}
use Rattle.mc_player.specs.Laws.{unsettled}
use Rattle.mc_player.specs.Lives.{Table, now}
use Rattle.mc_player.specs.Rings.{give, is_told}

format_same : (a : Format) → same_format a a ≡ true
format_same formats.None = refl
format_same formats.String = refl
format_same formats.Flag = refl
format_same formats.Int64 = refl
format_same formats.Node = refl

given_same : (s : Shown) → was_given (Some s) s ≡ true
given_same s = and_from (same_format s.0 s.0) (same_value s.1 s.1) (format_same s.0) ((exact s.1 s.1).1 refl)

one_seen : (a b : Seen) → ◌≡◌ {A = Option Seen} (Some a) (Some b) → a ≡ b
one_seen a b e = cc

off_told : (t : Table) (f : Facts) (id : ℕ) (name : List ℕ) (shown : Shown) (w : Seen) → is_settled (now t f) w ≡ true → is_told t f id name shown w ≡ false
off_told t f id name shown w y =
    and_right (w.id == id) _ (and_right (bytes_eq w.name name) _ (and_right (was_given (Some (now t f w)) shown) _ (rw y refl)))

on_told : (t : Table) (f : Facts) (w : Seen) → is_settled (now t f) w ≡ false → is_told t f w.id w.name (now t f w) w ≡ true
on_told t f w n =
    and_from (w.id == w.id) _ (eq-eqb w.id w.id refl) (and_from (bytes_eq w.name w.name) _ ((bytes_eq-Decides w.name w.name).1 refl)
    (and_from (was_given (Some (now t f w)) (now t f w)) _ (given_same (now t f w)) (rw n refl)))

-- what a change is given to is the first that has news
pub give_first : (t : Table) (f : Facts) (ws : List Seen) (w : Seen) → first_unsettled (now t f) ws ≡ Some w → give t f w.id w.name (now t f w) ws ≡ first_told (now t f) ws
give_first t f [] w is = absurd (cc)
give_first t f (x ∷ xs) w is = elim (cases_Bool (is_settled (now t f) x)) [
  | inl y ↦
      let more : first_unsettled (now t f) xs ≡ Some w = rw y at is in
      let k = off_told t f w.id w.name (now t f w) x y in
      rw (k, y) (ap (λ (us : List Seen). x ∷ us) (give_first t f xs w more))
  | inr n ↦
      let here : ◌≡◌ {A = Option Seen} (Some x) (Some w) = rw n at is in
      subst (λ (u : Seen). give t f u.id u.name (now t f u) (x ∷ xs) ≡ first_told (now t f) (x ∷ xs)) (one_seen x w here)
      (let k = on_told t f x n in rw (k, n) refl)
]

-- one observer fewer has news
pub one_settled : (t : Table) (f : Facts) (ws : List Seen) (w : Seen) → first_unsettled (now t f) ws ≡ Some w → unsettled t f (first_told (now t f) ws) + 1 ≡ unsettled t f ws
one_settled t f [] w is = absurd (cc)
one_settled t f (x ∷ xs) w is = elim (cases_Bool (is_settled (now t f) x)) [
  | inl y ↦ let more : first_unsettled (now t f) xs ≡ Some w = rw y at is in let e = one_settled t f xs w more in rw (y, y) e
  | inr n ↦ let k : is_settled (now t f) (told_now (now t f) x) ≡ true = given_same (now t f x) in rw (n, k) (omega arith)
]

pub none_new : (t : Table) (f : Facts) (ws : List Seen) → first_unsettled (now t f) ws ≡ None → AllByRecursion (λ w. is_settled (now t f) w ≡ true) ws
none_new t f [] is = tt
none_new t f (x ∷ xs) is = elim (cases_Bool (is_settled (now t f) x)) [
  | inl y ↦ (y, none_new t f xs (rw y at is))
  | inr n ↦ absurd (let g : Some x ≡ None = rw n at is in cc)
]
