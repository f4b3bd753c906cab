-- Each step of the board keeps its rule.
use Rattle.std.proofs.Common.{◌≡◌, ◌≢◌, ℕ, ◌≤◌, List, [], ◌∷◌, ◌++◌, set, refl, ap, sym, ◌∙◌, subst, inl, inr, ⊎_elim, arith, le_trans}
use mathlib.Core.Option.{some, some-injective}
use lib.ListN.{get_elem?}
use Rattle.crossbeam_utils.specs.Register.{Turns, Forks, Merges}
use Rattle.atomic_table.proofs.Lists.{set_else, set_again}
use Rattle.mc_views.specs.Views.{Each}
use Rattle.mc_views.specs.Laws.{each_set, each_snoc, apart_set, apart_less, apart_snoc, apart_join}
use Rattle.mc_packet.specs.declared.cache.Status.{Status}
use Rattle.mc_board.specs.declared.law.Posted.{Posted}
use Rattle.mc_board.specs.declared.law.View.{View}
use Rattle.mc_board.specs.declared.law.Role.TheVariants.{Fresh, Posts, Looks}
use Rattle.mc_board.specs.Statuses.{Has, NotNewer, MayFollow}
use Rattle.mc_board.specs.Rule.{poster, looker, Fits, IsPoster, Kept, Begins, Adds, Sees, Learns, takes_in}

abbrev NotFresh : View → Type 0
NotFresh v = v.role ≢ Fresh

-- where one pass is not fresh, none is
none_fresh : (x : Posted) (views : List View) (id : ℕ) (v : View) → Kept x views → get_elem? views id ≡ some v → NotFresh v → Each NotFresh views
none_fresh x views id v r here not i u e is = let same : id ≡ i = r.alone i u e is id v here in
    not (ap (λ (z : View). z.role) (some-injective v u (sym here ∙ (ap (get_elem? views) same ∙ e))) ∙ is)

pub posts_fresh : Posts ≢ Fresh
posts_fresh e = cc

pub looks_fresh : Looks ≢ Fresh
looks_fresh e = cc

looks_posts : Looks ≢ Posts
looks_posts e = cc

-- a step of one pass, after which the log begins with x
changed : (x y : Posted) (views : List View) (older : List Status) (id : ℕ) (v w : View) → (r : Kept x views) → get_elem? views id ≡ some v → NotFresh v → NotFresh w
    → NotNewer older y.0 → Fits (y.0 ∷ older) w → ((j : ℕ) (u : View) → j ≢ id → get_elem? views j ≡ some u → Fits (y.0 ∷ older) u) → (w.role ≡ Posts → v.role ≡ Posts) → Kept y (set views id w)
changed x y views older id v w r here old new last mine others same = record {
  older = older;
  last = last;
  each = each_set (Fits (y.0 ∷ older)) views id w mine others;
  one = apart_less IsPoster views id v w here (λ n h. same h) r.one;
  alone = λ i u e is. absurd (each_set NotFresh views id w new (λ j z ne at. none_fresh x views id v r here old j z at) i u e is);
}

pub begins : (id : ℕ) (v : View) (y : Posted) → v.role ≡ Fresh → Turns Kept id v (λ _. y) Begins
begins id v y is x views r here = let w : View = poster (y.0 ∷ []) in let only : (j : ℕ) (u : View) → get_elem? views j ≡ some u → j ≡ id = r.alone id v here is in (
  w,
  record {
    older = [];
    last = λ s h. absurd h;
    each = each_set (Fits (y.0 ∷ [])) views id w record { posted = λ _. refl; seen = λ s h. absurd h } (λ j u ne e. absurd (ne (only j u e)));
    one = apart_set IsPoster views id w r.one (λ n j u p ne e q. ne (only j u e));
    alone = λ i u e f. absurd (each_set NotFresh views id w posts_fresh (λ j z ne at. absurd (ne (only j z at))) i u e f);
  },
  refl,
)

pub adds : (id : ℕ) (v : View) (y : Posted) → v.role ≡ Posts → MayFollow v.posted y.0 → Turns Kept id v (λ _. y) Adds
adds id v y is may x views r here = let w : View = poster (y.0 ∷ v.posted) in let log : List Status = x.0 ∷ r.older in
    let all : v.posted ≡ log = (r.each id v here).posted is in
    let le : x.0.seq ≤ y.0.seq = subst (λ (l : List Status). MayFollow l y.0) all may in (
      w,
      changed x y views log id v w r here (λ f. posts_fresh (sym is ∙ f)) posts_fresh
          (λ s h. ⊎_elim (λ (same : x.0 ≡ s). subst (λ (z : Status). z.seq ≤ y.0.seq) same le) (λ t. le_trans (r.last s t) le) h)
          record { posted = λ _. ap (λ (l : List Status). y.0 ∷ l) all; seen = λ s h. absurd h }
          (λ j u ne e. record { posted = λ p. absurd (ne (r.one j id 0 u v e here p is)); seen = λ s h. inr ((r.each j u e).seen s h) })
          (λ _. is),
      refl,
    )

pub sees : (id : ℕ) (v : View) → v.role ≡ Looks → Turns Kept id v (λ x. x) Sees
sees id v is x views r here = let w : View = looker (x.0 ∷ v.seen) in let f = r.each id v here in (
  w,
  changed x x views r.older id v w r here (λ h. looks_fresh (sym is ∙ h)) looks_fresh r.last
      record { posted = (λ p. absurd (looks_posts p)); seen = λ s h. ⊎_elim (λ e. inl e) (λ t. f.seen s t) h }
      (λ j u ne e. r.each j u e) (λ p. absurd (looks_posts p)),
  (refl, λ s h. ⊎_elim (λ (same : x.0 ≡ s). subst (λ (z : Status). z.seq ≤ x.0.seq) same (omega arith)) (λ t. r.last s t) (f.seen s h)),
)

pub learns : (id : ℕ) (v : View) → v.role ≡ Posts → Turns Kept id v (λ x. x) Learns
learns id v is x views r here = let w : View = poster v.posted in let f = r.each id v here in (
  w,
  changed x x views r.older id v w r here (λ h. posts_fresh (sym is ∙ h)) posts_fresh r.last
      record { posted = (λ _. f.posted is); seen = λ s h. absurd h }
      (λ j u ne e. r.each j u e) (λ _. is),
  (refl, λ s h. subst (λ (l : List Status). Has l s) (sym (f.posted is)) (f.seen s h)),
)

pub copies : (id : ℕ) (v : View) → NotFresh v → Forks Kept id v v (looker v.seen)
copies id v not x views r here = let w : View = looker v.seen in let f = r.each id v here in let stays : set views id v ≡ views = set_again views id v here in
    subst (λ (l : List View). Kept x (l ++ w ∷ [])) (sym stays) record {
      older = r.older;
      last = r.last;
      each = each_snoc (Fits (x.0 ∷ r.older)) views w record { posted = (λ p. absurd (looks_posts p)); seen = f.seen } r.each;
      one = apart_snoc IsPoster views w r.one (λ n j u p e q. absurd (looks_posts p));
      alone = λ i u e is. absurd (each_snoc NotFresh views w looks_fresh (none_fresh x views id v r here not) i u e is);
    }

pub merges : (id : ℕ) (v : View) (other : ℕ) (w : View) → v.role ≡ Posts → w.role ≡ Looks → Merges Kept id v other w (takes_in v w) (looker [])
merges id v other w is his x views r here ne there0 = let both : View = takes_in v w in let gone : View = looker [] in
    let there : get_elem? views other ≡ some w = sym (set_else views id other both ne) ∙ there0 in
    let f = r.each id v here in let g = r.each other w there in
    let not : NotFresh both = λ h. posts_fresh (sym is ∙ h) in
    let Q : View → Type 0 = Fits (x.0 ∷ r.older) in record {
      older = r.older;
      last = r.last;
      each = each_set Q (set views id both) other gone record { posted = (λ p. absurd (looks_posts p)); seen = λ s h. absurd h }
          (λ j u _ e. each_set Q views id both record { posted = f.posted; seen = g.seen } (λ j u _ e. r.each j u e) j u e);
      one = apart_join IsPoster views id other v w both gone here there (λ n h. looks_posts h) (λ n h. inl h) r.one;
      alone = λ i u e h. absurd (each_set NotFresh (set views id both) other gone looks_fresh (λ j z _ at. each_set NotFresh views id both not (λ j z _ at. none_fresh x views id v r here not j z at) j z at) i u e h);
    }
