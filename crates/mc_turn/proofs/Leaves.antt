-- The pass that is inside gives the value back, with entries of its own.
use Rattle.std.proofs.Common.{◌≡◌, ◌≢◌, ℕ, ◌+◌, ◌<◌, List, [], ◌∷◌, ◌++◌, get_or, set, refl, ap, sym, ◌∙◌, subst, inl, arith, Option, Some, None, length-set, get_or-set_same, get_or-set_other}
use mathlib.Core.Option.{some}
use mathlib.Core.List.{IsPrefix}
use lib.ListN.{get_elem?}
use Rattle.atomic_table.specs.Table.{State, Me, gives, rest, stepped, Allows}
use Rattle.atomic_table.proofs.Lists.{set_here}
use Rattle.mc_turn.specs.declared.view.View.{View}
use Rattle.mc_turn.specs.declared.view.Part.{Part}
use Rattle.mc_turn.specs.declared.view.Stage.{Stage}
use Rattle.mc_turn.specs.declared.view.Stage.TheVariants.{Out, Waiting, Inside}
use Rattle.mc_views.specs.Views.{Each}
use Rattle.mc_turn.specs.Callers.{of_caller, Has, Extends, Within}
use Rattle.mc_turn.specs.Rule.{view_of, Bears, Owns, Ticket, AtStage, Fits, NotInside, Ruled, Parts, Gives}
use Rattle.mc_views.specs.Laws.{each_set, apart_less}
use Rattle.mc_turn.proofs.Bounds.{within_append, bear_within}
use Rattle.mc_turn.proofs.Journals.{prefix_self, prefix_trans, own_stays}

module _ {T E : Type 0} (kept : T → List E) (by : E → ℕ) where
  abbrev V : Type 0
  V = View E

  abbrev St : Type 0
  St = State (Option T) V

  abbrev ticket : St → ℕ
  ticket s = get_or s.words 0 0

  abbrev serving : St → ℕ
  serving s = get_or s.words 1 0

  -- a pass that is not the one inside goes on after the turn
  later : (c : ℕ) (h h' : List E) (t k : ℕ) (st : Stage) (seen : List E) → AtStage by c h t k seen st → (Bears st k → ⊥) → AtStage by c h' t (k + 1) seen st
  later c h h' t k Out seen a other = tt
  later c h h' t k (Waiting l) seen a other = (let low = a.0 in let ne : l ≢ k = other in omega arith, a.1)
  later c h h' t k (Inside l) seen a other = absurd (other a.0)

  -- nor is it inside
  not_in : (c : ℕ) (h : List E) (t k : ℕ) (st : Stage) (seen : List E) → AtStage by c h t k seen st → (Bears st k → ⊥) → (l : ℕ) → st ≢ Inside l
  not_in c h t k Out seen a other l e = cc
  not_in c h t k (Waiting m) seen a other l e = cc
  not_in c h t k (Inside m) seen a other l e = other a.0

  -- where a history grows and no caller of the view has more in it
  parts_grow : (ns : List ℕ) (h h' : List E) (ps : List (Part E)) → IsPrefix h h' → ((n : ℕ) → Has ns n → of_caller by n h ≡ of_caller by n h') → Parts by ns h ps → Parts by ns h' ps
  parts_grow ns h h' [] pre same a = tt
  parts_grow ns h h' (p ∷ ps) pre same a = let b = a.0 in (
    (prefix_trans p.seen h h' b.0 pre, (λ n has. b.1 n has ∙ same n (b.2 n has)), b.2),
    parts_grow ns h h' ps pre same a.1,
  )

  given : (s : St) (r : Ruled kept by s) (id k : ℕ) (v : V) (value : T) → get_elem? s.views id ≡ some v → v.stage ≡ Inside k → Extends by v.numbers v.seen (kept value)
      → Ruled kept by (stepped s 1 (k + 1) id ((0, Some value) ∷ []) (view_of v.callers (kept value) v.numbers Out) gives)
  given s r id k v value here inside more = let w : V = view_of v.callers (kept value) v.numbers Out in let wide = r.wide in let long = r.long in
      let fits : Fits by r.callers r.history (ticket s) (serving s) v = r.each id v here in
      let stage : AtStage by r.callers r.history (ticket s) (serving s) v.seen (Inside k) = subst (AtStage by r.callers r.history (ticket s) (serving s) v.seen) inside fits.stage in
      let word : serving s ≡ k = sym stage.0 in let low : k < ticket s = stage.1 in let all : v.seen ≡ r.history = stage.2 in
      let now : get_or (set s.words 1 (k + 1)) 1 0 ≡ k + 1 = get_or-set_same s.words 1 (k + 1) 0 (omega arith) in
      let then : get_or (set s.words 1 (k + 1)) 0 0 ≡ ticket s = get_or-set_other s.words 1 0 (k + 1) 0 (λ e. omega arith) in
      let grown : r.history ++ more.0 ≡ kept value = subst (λ (l : List E). l ++ more.0 ≡ kept value) all more.1 in
      let mine : Ticket v k = subst (λ (st : Stage). Bears st k) (sym inside) refl in
      let no_other : (j : ℕ) (u : V) → j ≢ id → get_elem? s.views j ≡ some u → Ticket u k → ⊥ = λ j u ne e his. ne (r.tickets j id k u v e here his mine) in
      let at_k : (j : ℕ) (u : V) → get_elem? s.views j ≡ some u → AtStage by r.callers r.history (ticket s) k u.seen u.stage = λ j u e. subst (λ (n : ℕ). AtStage by r.callers r.history (ticket s) n u.seen u.stage) word (r.each j u e).stage in record {
        callers = r.callers;
        few = r.few;
        history = kept value;
        within = subst (Within by r.callers) grown (within_append by r.callers r.history more.0 r.within (bear_within by r.callers v.numbers more.0 fits.below more.2));
        wide = length-set s.words 1 (k + 1) ∙ wide;
        long = length-set s.homes 0 (some (Some value)) ∙ long;
        ordered = omega (arith, now, then);
        each = subst (λ (x : ℕ × ℕ). Each (Fits by r.callers (kept value) x.0 x.1) (set s.views id w)) (λ i. (sym then i, sym now i))
            (each_set (Fits by r.callers (kept value) (ticket s) (k + 1)) s.views id w
            record { knows = fits.knows; seen = prefix_self (kept value); own = λ n h. refl; rising = fits.rising; below = fits.below; stage = tt; parts = tt }
            (λ j u ne e. let f = r.each j u e in record {
              knows = f.knows;
              seen = prefix_trans u.seen r.history (kept value) f.seen (more.0, grown);
              own = λ n has. f.own n has ∙ own_stays by v.numbers n r.history (kept value) more.0 grown more.2 (λ h. ne (r.numbers j id n u v e here has h));
              rising = f.rising;
              below = f.below;
              parts = parts_grow u.numbers r.history (kept value) u.parts (more.0, grown) (λ n has. own_stays by v.numbers n r.history (kept value) more.0 grown more.2 (λ h. ne (r.numbers j id n u v e here has h))) f.parts;
              stage = later r.callers r.history (kept value) (ticket s) k u.stage u.seen (at_k j u e) (no_other j u ne e);
            }));
        numbers = apart_less Owns s.views id v w here (λ n h. h) r.numbers;
        tickets = apart_less Ticket s.views id v w here (λ n h. absurd h) r.tickets;
        place = inl (value, set_here s.homes 0 (some (Some value)) (omega arith), refl, each_set NotInside s.views id w (λ l e. cc) (λ j u ne e. not_in r.callers r.history (ticket s) k u.stage u.seen (at_k j u e) (no_other j u ne e)));
      }

  pub leaves : (slots id k : ℕ) (v : V) (value : T) → v.stage ≡ Inside k → Extends by v.numbers v.seen (kept value)
      → Allows (Ruled kept by) slots id (v, (0, Some value) ∷ []) 1 (λ _. k + 1) (λ _ n. Gives kept (v, (0, Some value) ∷ []) n)
  leaves slots id k v value inside more s r long here _ = (view_of v.callers (kept value) v.numbers Out, gives, tt, given s r id k v value here inside more, refl)

  -- as the slot is exchanged: what the pass held was the empty slot
  pub leaves_as : (slots id k : ℕ) (m : Me (Option T) V) (v : V) (value : T) (held : List (ℕ × Option T)) → m ≡ (v, (0, Some value) ∷ rest held) → held ≡ (0, None) ∷ [] → v.stage ≡ Inside k
      → Extends by v.numbers v.seen (kept value) → Allows (Ruled kept by) slots id m 1 (λ _. k + 1) (λ _ n. Gives kept m n)
  leaves_as slots id k m v value held is empty inside more = let now : m ≡ (v, (0, Some value) ∷ []) = is ∙ ap (λ (l : List (ℕ × Option T)). (v, (0, Some value) ∷ rest l)) empty in
      subst (λ (x : Me (Option T) V). Allows (Ruled kept by) slots id x 1 (λ _. k + 1) (λ _ n. Gives kept x n)) (sym now) (leaves slots id k v value inside more)
