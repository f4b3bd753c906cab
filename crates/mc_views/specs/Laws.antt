-- What holds of each view, and what no two views share, after one view was changed, added or joined to another.
use Rattle.std.proofs.Common.{◌≡◌, ◌≢◌, ℕ, zero, suc, ◌<◌, ◌⊎◌, List, [], ◌∷◌, ◌++◌, length, set, refl, ap, sym, ◌∙◌, subst, inl, inr, ⊎_elim, arith}
use mathlib.Core.Option.{some, some-injective, some-ne-none}
use lib.ListN.{get_elem?}
use Rattle.atomic_table.proofs.Lists.{at_set}
use Rattle.mc_views.specs.Views.{Each, Apart}

module _ {V : Type 0} where
  pub set_at : (vs : List V) (i : ℕ) (v w : V) → get_elem? vs i ≡ some v → get_elem? (set vs i w) i ≡ some w
  set_at [] i v w e = absurd (some-ne-none v (sym e))
  set_at (x ∷ xs) zero v w e = refl
  set_at (x ∷ xs) (suc i) v w e = set_at xs i v w e

  pub snoc_at : (vs : List V) (w u : V) (j : ℕ) → get_elem? (vs ++ w ∷ []) j ≡ some u → (get_elem? vs j ≡ some u) ⊎ ((j ≡ length vs) × (w ≡ u))
  snoc_at [] w u zero e = inr (refl, some-injective w u e)
  snoc_at [] w u (suc j) e = absurd (some-ne-none u (sym e))
  snoc_at (x ∷ xs) w u zero e = inl e
  snoc_at (x ∷ xs) w u (suc j) e = ⊎_elim (λ t. inl t) (λ t. inr (ap suc t.0, t.1)) (snoc_at xs w u j e)

  pub at_below : (vs : List V) (j : ℕ) (u : V) → get_elem? vs j ≡ some u → j < length vs
  at_below [] j u e = absurd (some-ne-none u (sym e))
  at_below (x ∷ xs) zero u e = omega arith
  at_below (x ∷ xs) (suc j) u e = let h = at_below xs j u e in omega arith

  pub each_set : (Q : V → Type 0) (vs : List V) (id : ℕ) (w : V) → Q w → ((j : ℕ) (u : V) → j ≢ id → get_elem? vs j ≡ some u → Q u) → Each Q (set vs id w)
  each_set Q vs id w mine others j u e = ⊎_elim (λ (t : (j ≡ id) × (w ≡ u)). subst Q t.1 mine) (λ (t : (j ≢ id) × (get_elem? vs j ≡ some u)). others j u t.0 t.1) (at_set vs id j w u e)

  pub each_snoc : (Q : V → Type 0) (vs : List V) (w : V) → Q w → Each Q vs → Each Q (vs ++ w ∷ [])
  each_snoc Q vs w mine others j u e = ⊎_elim (λ t. others j u t) (λ (t : (j ≡ length vs) × (w ≡ u)). subst Q t.1 mine) (snoc_at vs w u j e)

  module _ (P : V → ℕ → Type 0) (vs : List V) where
    pub apart_set : (id : ℕ) (w : V) → Apart P vs → ((n j : ℕ) (u : V) → P w n → j ≢ id → get_elem? vs j ≡ some u → P u n → ⊥) → Apart P (set vs id w)
    apart_set id w all new i j n v u ei ej pv pu = ⊎_elim
        (λ (ti : (i ≡ id) × (w ≡ v)). ⊎_elim
        (λ (tj : (j ≡ id) × (w ≡ u)). ti.0 ∙ sym tj.0)
        (λ (tj : (j ≢ id) × (get_elem? vs j ≡ some u)). absurd (new n j u (subst (λ (x : V). P x n) (sym ti.1) pv) tj.0 tj.1 pu))
        (at_set vs id j w u ej))
        (λ (ti : (i ≢ id) × (get_elem? vs i ≡ some v)). ⊎_elim
        (λ (tj : (j ≡ id) × (w ≡ u)). absurd (new n i v (subst (λ (x : V). P x n) (sym tj.1) pu) ti.0 ti.1 pv))
        (λ (tj : (j ≢ id) × (get_elem? vs j ≡ some u)). all i j n v u ti.1 tj.1 pv pu)
        (at_set vs id j w u ej))
        (at_set vs id i w v ei)

    -- the view has no more than before
    pub apart_less : (id : ℕ) (v w : V) → get_elem? vs id ≡ some v → ((n : ℕ) → P w n → P v n) → Apart P vs → Apart P (set vs id w)
    apart_less id v w at sub all = apart_set id w all (λ n j u pw ne atj pu. ne (all j id n u v atj at pu (sub n pw)))

    pub apart_snoc : (w : V) → Apart P vs → ((n j : ℕ) (u : V) → P w n → get_elem? vs j ≡ some u → P u n → ⊥) → Apart P (vs ++ w ∷ [])
    apart_snoc w all new i j n v u ei ej pv pu = ⊎_elim
        (λ (ti : get_elem? vs i ≡ some v). ⊎_elim
        (λ (tj : get_elem? vs j ≡ some u). all i j n v u ti tj pv pu)
        (λ (tj : (j ≡ length vs) × (w ≡ u)). absurd (new n i v (subst (λ (x : V). P x n) (sym tj.1) pu) ti pv))
        (snoc_at vs w u j ej))
        (λ (ti : (i ≡ length vs) × (w ≡ v)). ⊎_elim
        (λ (tj : get_elem? vs j ≡ some u). absurd (new n j u (subst (λ (x : V). P x n) (sym ti.1) pv) tj pu))
        (λ (tj : (j ≡ length vs) × (w ≡ u)). ti.0 ∙ sym tj.0)
        (snoc_at vs w u j ej))
        (snoc_at vs w v i ei)

    -- one view takes in what another had
    pub apart_join : (id other : ℕ) (v w both gone : V) → get_elem? vs id ≡ some v → get_elem? vs other ≡ some w → ((n : ℕ) → P gone n → ⊥) → ((n : ℕ) → P both n → P v n ⊎ P w n)
        → Apart P vs → Apart P (set (set vs id both) other gone)
    apart_join id other v w both gone here there none one all i j n x y ei ej px py = ⊎_elim
        (λ (ti : (i ≡ id) × P both n). ⊎_elim
        (λ (tj : (j ≡ id) × P both n). ti.0 ∙ sym tj.0)
        (λ (tj : (j ≢ id) × (j ≢ other) × (get_elem? vs j ≡ some y)). absurd (clash n j y ti.1 tj.0 tj.1 tj.2 py))
        (where_is n j y ej py))
        (λ (ti : (i ≢ id) × (i ≢ other) × (get_elem? vs i ≡ some x)). ⊎_elim
        (λ (tj : (j ≡ id) × P both n). absurd (clash n i x tj.1 ti.0 ti.1 ti.2 px))
        (λ (tj : (j ≢ id) × (j ≢ other) × (get_elem? vs j ≡ some y)). all i j n x y ti.2 tj.2 px py)
        (where_is n j y ej py))
        (where_is n i x ei px)
      where
        where_is : (n i : ℕ) (x : V) → get_elem? (set (set vs id both) other gone) i ≡ some x → P x n → ((i ≡ id) × P both n) ⊎ ((i ≢ id) × (i ≢ other) × (get_elem? vs i ≡ some x))
        where_is n i x e p = ⊎_elim
            (λ (t : (i ≡ other) × (gone ≡ x)). absurd (none n (subst (λ (z : V). P z n) (sym t.1) p)))
            (λ (t : (i ≢ other) × (get_elem? (set vs id both) i ≡ some x)). ⊎_elim
            (λ (u : (i ≡ id) × (both ≡ x)). inl (u.0, subst (λ (z : V). P z n) (sym u.1) p))
            (λ (u : (i ≢ id) × (get_elem? vs i ≡ some x)). inr (u.0, t.0, u.1))
            (at_set vs id i both x t.1))
            (at_set (set vs id both) other i gone x e)

        clash : (n j : ℕ) (y : V) → P both n → j ≢ id → j ≢ other → get_elem? vs j ≡ some y → P y n → ⊥
        clash n j y pb ni nother e py = ⊎_elim (λ pv. ni (all j id n y v e here py pv)) (λ pw. nother (all j other n y w e there py pw)) (one n pb)
