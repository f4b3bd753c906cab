-- What a queue shows of a seek, by the sync point that it has for it.
use Rattle.std.proofs.Common.{◌≡◌, ℕ, ◌==◌, Bool, true, false, ◌&&◌, ◌||◌, Option, Some, None, List, [], ◌∷◌, ℤ, refl, ap, sym, ◌∙◌, inl, inr}
use Rattle.std.specs.Prelude.{if◌then◌else◌, int_le}
use Rattle.std.proofs.lemmas.Bool.{cases_Bool}
use Rattle.mc_packet.specs.declared.choice.Dir.TheVariants.{Back, Forward}
use Rattle.mc_packet.specs.declared.packet.Packet.{Packet}
use Rattle.mc_packet.specs.Choices.{or_else}
use Rattle.mc_journal.specs.Films.{first, last, last_upto, first_from, sync_for}
use Rattle.mc_journal.specs.Ranges.{any_below, any_from, served}
use Rattle.mc_range.specs.Serving.{back_by, forward_by}

-- the one that is found is as it is asked for
upto_is : (t : ℤ) (ps : List Packet) (p : Packet) → last_upto t ps ≡ Some p → int_le p.time t ≡ true
upto_is t [] p e = absurd (cc)
upto_is t (q ∷ ps) p e = by (upto_is t ps p) (last_upto t ps) refl
  where
    here : (b : Bool) → int_le q.time t ≡ b → (if b then Some q else None) ≡ Some p → int_le p.time t ≡ true
    here true y f = let g : q ≡ p = cc in ap (λ (x : Packet). int_le x.time t) (sym g) ∙ y
    here false y f = absurd (cc)

    by : (last_upto t ps ≡ Some p → int_le p.time t ≡ true) → (o : Option Packet) → last_upto t ps ≡ o → int_le p.time t ≡ true
    by rest None f = here (int_le q.time t) refl (ap (λ o. or_else o (if int_le q.time t then Some q else None)) (sym f) ∙ e)
    by rest (Some r) f = rest (f ∙ sym (ap (λ o. or_else o (if int_le q.time t then Some q else None)) f) ∙ e)

from_is : (t : ℤ) (ps : List Packet) (p : Packet) → first_from t ps ≡ Some p → int_le t p.time ≡ true
from_is t [] p e = absurd (cc)
from_is t (q ∷ ps) p e = elim (cases_Bool (int_le t q.time)) [
  | inl y ↦ let f : Some q ≡ Some p = rw y at e in let g : q ≡ p = cc in ap (λ (x : Packet). int_le t x.time) (sym g) ∙ y
  | inr n ↦ from_is t ps p (rw n at e)
]

-- and where none is, the first is not, and the last is not
none_upto : (t : ℤ) (ps : List Packet) (p : Packet) → last_upto t ps ≡ None → first ps ≡ Some p → int_le p.time t ≡ false
none_upto t [] p e f = absurd (cc)
none_upto t (q ∷ ps) p e f = elim (cases_Bool (int_le q.time t)) [
  | inl y ↦ absurd (some (last_upto t ps) (rw y at e))
  | inr n ↦ let g : q ≡ p = cc in ap (λ (x : Packet). int_le x.time t) (sym g) ∙ n
]
  where
    some : (o : Option Packet) → or_else o (Some q) ≡ None → ⊥
    some None e = cc
    some (Some r) e = cc

none_from : (t : ℤ) (ps : List Packet) (p : Packet) → first_from t ps ≡ None → last ps ≡ Some p → int_le t p.time ≡ false
none_from t [] p e f = absurd (cc)
none_from t (q ∷ ps) p e f = elim (cases_Bool (int_le t q.time)) [
  | inl y ↦ absurd (let g : Some q ≡ None = rw y at e in cc)
  | inr n ↦ by n (none_from t ps p (rw n at e)) (last ps) refl
]
  where
    by : int_le t q.time ≡ false → (last ps ≡ Some p → int_le t p.time ≡ false) → (o : Option Packet) → last ps ≡ o → int_le t p.time ≡ false
    by n rest None g = let h : Some q ≡ Some p = ap (λ o. or_else o (Some q)) (sym g) ∙ f in let i : q ≡ p = cc in ap (λ (x : Packet). int_le t x.time) (sym i) ∙ n
    by n rest (Some r) g = rest (g ∙ sym (ap (λ o. or_else o (Some q)) g) ∙ f)

whole_or : (c d : Bool) → c ≡ (c && (true || d))
whole_or true d = refl
whole_or false d = refl

whole_and : (c : Bool) → c ≡ (c && true)
whole_and true = refl
whole_and false = refl

pub back_is : (from : ℕ) (ended : Bool) (t : ℤ) (ps : List Packet) → back_by (from == 0) ended (any_from t ps) t (sync_for Back t ps) ≡ served Back from ended t ps
back_is from ended t ps = by (last_upto t ps) (first ps) refl refl
  where
    by : (a b : Option Packet) → last_upto t ps ≡ a → first ps ≡ b → back_by (from == 0) ended (any_from t ps) t (or_else (last_upto t ps) (first ps)) ≡ served Back from ended t ps
    by (Some p) b e f = let y = upto_is t ps p e in rw (e, y) refl
    by None (Some p) e f = let n = none_upto t ps p e f in rw (e, f, n) (whole_or (from == 0) ended)
    by None None e f = rw (e, f) refl

pub forward_is : (from : ℕ) (ended : Bool) (t : ℤ) (ps : List Packet) → forward_by (from == 0) ended (any_below t ps) t (sync_for Forward t ps) ≡ served Forward from ended t ps
forward_is from ended t ps = by (first_from t ps) (last ps) refl refl
  where
    by : (a b : Option Packet) → first_from t ps ≡ a → last ps ≡ b → forward_by (from == 0) ended (any_below t ps) t (or_else (first_from t ps) (last ps)) ≡ served Forward from ended t ps
    by (Some p) b e f = let y = from_is t ps p e in rw (e, y) refl
    by None (Some p) e f = let n = none_from t ps p e f in rw (e, f, n) (whole_and ended)
    by None None e f = rw (e, f) refl
