-- The test of sameness is exact: by induction over the first value.
use Rattle.std.proofs.Common.{◌≡◌, ◌↔◌, ℕ, Bool, true, false, not, if◌then◌else◌, ◌&&◌, List, [], ◌∷◌, map, refl, ap, sym, subst, ◌∙◌}
use Rattle.std.specs.Prelude.{IsTrue}
use Rattle.std.specs.Str.{bytes_eq}
use Rattle.std.proofs.lemmas.Bool.{and_parts}
use Rattle.std.proofs.lemmas.Bool.Decides.{Decides-int_eq}
use Rattle.std.proofs.lemmas.Slice.Eq.{bytes_eq-Decides}
use Rattle.mc_value.specs.Sameness.{Test, SameIsExact, all_pass, pairs_pass, same_level, same_value}
use Rattle.mc_value.specs.declared.value.Value.{Value, out-Value}
use Rattle.mc_value.specs.declared.value.Value.TheFolds.{fold-roll-Value, ind-Value, map-Value}
use Rattle.mc_value.specs.declared.value.Value.TheOpen.{Value-F}
use Rattle.mc_value.specs.declared.value.Value.TheViews.{roll-Value, out-roll-Value, roll-out-Value}

abbrev IsExact : Value → Type 0
IsExact v = (w : Value) → IsTrue (same_value v w) ↔ (v ≡ w)

-- a value whose test is known to be exact
abbrev Known : Type 0
Known = (v : Value) × IsExact v

all_exact : (ts : List Known) (vs : List Value) → IsTrue (all_pass (map same_value (map (λ (t : Known). t.0) ts)) vs) ↔ (map (λ (t : Known). t.0) ts ≡ vs)
all_exact [] [] = (λ e. refl, λ e. refl)
all_exact [] (v ∷ vs) = (λ e. absurd (cc), λ e. absurd (cc))
all_exact (t ∷ ts) [] = (λ e. absurd (cc), λ e. absurd (cc))
all_exact (t ∷ ts) (v ∷ vs) = (
  λ e. let both = and_parts (same_value t.0 v) (all_pass (map same_value (map (λ (t : Known). t.0) ts)) vs) e in
      let first : t.0 ≡ v = (t.1 v).0 both.0 in
      let rest : map (λ (t : Known). t.0) ts ≡ vs = (all_exact ts vs).0 both.1 in
      cc,
  λ e. let first : t.0 ≡ v = cc in
      let rest : map (λ (t : Known). t.0) ts ≡ vs = cc in
      rw ((t.1 v).1 first, (all_exact ts vs).1 rest) refl,
)

pairs_exact : (ts : List (List ℕ × Known)) (ps : List (List ℕ × Value)) →
    IsTrue (pairs_pass (map (λ (t : List ℕ × Value). (t.0, same_value t.1)) (map (λ (t : List ℕ × Known). (t.0, t.1.0)) ts)) ps) ↔ (map (λ (t : List ℕ × Known). (t.0, t.1.0)) ts ≡ ps)
pairs_exact [] [] = (λ e. refl, λ e. refl)
pairs_exact [] (p ∷ ps) = (λ e. absurd (cc), λ e. absurd (cc))
pairs_exact (t ∷ ts) [] = (λ e. absurd (cc), λ e. absurd (cc))
pairs_exact ((s, (v, k)) ∷ ts) ((s', v') ∷ ps) = (
  λ e. let rest = pairs_pass (map (λ (t : List ℕ × Value). (t.0, same_value t.1)) (map (λ (t : List ℕ × Known). (t.0, t.1.0)) ts)) ps in
      let both = and_parts (bytes_eq s s' && same_value v v') rest e in
      let heads = and_parts (bytes_eq s s') (same_value v v') both.0 in
      let name : s ≡ s' = (bytes_eq-Decides s s').0 heads.0 in
      let first : v ≡ v' = (k v').0 heads.1 in
      let others : map (λ (t : List ℕ × Known). (t.0, t.1.0)) ts ≡ ps = (pairs_exact ts ps).0 both.1 in
      cc,
  λ e. let first : ◌≡◌ {A = List ℕ × Value} (s, v) (s', v') = cc in
      let name : s ≡ s' = ap (λ (p : List ℕ × Value). p.0) first in
      let value : v ≡ v' = ap (λ (p : List ℕ × Value). p.1) first in
      let others : map (λ (t : List ℕ × Known). (t.0, t.1.0)) ts ≡ ps = cc in
      rw ((bytes_eq-Decides s s').1 name, (k v').1 value, (pairs_exact ts ps).1 others) refl,
)

flag_exact : (a b : Bool) → IsTrue (if a then b else not b) ↔ (a ≡ b)
flag_exact true true = (λ e. refl, λ e. refl)
flag_exact true false = (λ e. absurd (cc), λ e. absurd (cc))
flag_exact false true = (λ e. absurd (cc), λ e. absurd (cc))
flag_exact false false = (λ e. refl, λ e. refl)

level_exact : (y : Value-F Known) (w : Value-F Value) →
    IsTrue (same_level (map-Value Value Test same_value (map-Value Known Value (λ k. k.0) y)) w) ↔ (map-Value Known Value (λ k. k.0) y ≡ w)
level_exact Value-F.None Value-F.None = (λ e. refl, λ e. refl)
level_exact (Value-F.Str s) (Value-F.Str t) = (λ e. ap Value-F.Str ((bytes_eq-Decides s t).0 e), λ e. (bytes_eq-Decides s t).1 (cc))
level_exact (Value-F.Flag a) (Value-F.Flag b) = (λ e. ap Value-F.Flag ((flag_exact a b).0 e), λ e. (flag_exact a b).1 (cc))
level_exact (Value-F.Int m) (Value-F.Int n) = (λ e. ap Value-F.Int ((Decides-int_eq m n).0 e), λ e. (Decides-int_eq m n).1 (cc))
level_exact (Value-F.Array ts) (Value-F.Array vs) = (λ e. ap Value-F.Array ((all_exact ts vs).0 e), λ e. (all_exact ts vs).1 (cc))
level_exact (Value-F.Map ts) (Value-F.Map ps) = (λ e. ap Value-F.Map ((pairs_exact ts ps).0 e), λ e. (pairs_exact ts ps).1 (cc))
level_exact _ _ = (λ e. absurd (cc), λ e. absurd (cc))

pub exact : SameIsExact
exact = ind-Value IsExact (λ x y is. λ w.
    let one : same_value (roll-Value x) w ≡ same_level (map-Value Value Test same_value x) (out-Value w) =
    ap (λ t. t w) (fold-roll-Value Test (λ tests w. same_level tests (out-Value w)) x) in
    let level : IsTrue (same_level (map-Value Value Test same_value x) (out-Value w)) ↔ (x ≡ out-Value w) =
    subst (λ z. IsTrue (same_level (map-Value Value Test same_value z) (out-Value w)) ↔ (z ≡ out-Value w)) is (level_exact y (out-Value w)) in
    (λ e. ap roll-Value (level.0 (sym one ∙ e)) ∙ roll-out-Value w, λ e. one ∙ level.1 (sym (out-roll-Value x) ∙ ap out-Value e)))

-- what tells two values apart is the test
pub told : (b : Bool) (v w : Value) → IsTrue b ↔ (v ≡ w) → b ≡ same_value v w
told true v w is = sym ((exact v w).1 (is.0 refl))
told false v w is = no_pass (same_value v w) (λ e. absurd_true (is.1 ((exact v w).0 e)))
  where
    absurd_true : false ≡ true → ⊥
    absurd_true e = absurd (cc)

    no_pass : (c : Bool) → (c ≡ true → ⊥) → false ≡ c
    no_pass true n = absurd (n refl)
    no_pass false n = refl
