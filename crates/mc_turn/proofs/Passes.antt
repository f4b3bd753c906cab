-- A pass is split, two are joined, and the lock is new.
use Rattle.std.proofs.Common.{◌≡◌, ◌≢◌, ℕ, zero, suc, ◌+◌, ◌^◌, ◌<◌, ◌≤◌, Bool, true, false, cond, leb, List, [], ◌∷◌, length, get_or, set, take, drop, refl, ap, sym, ◌∙◌, subst, inl, inr, ⊎_elim, arith, Option, Some}
use mathlib.Core.Option.{some, some-injective, some-ne-none}
use mathlib.Core.List.{IsPrefix}
use lib.ListN.{get_elem?}
use Rattle.atomic_table.specs.Table.{State, Splits, Joins, opening}
use Rattle.std.proofs.lemmas.Bool.{leb-true, leb-false}
use Rattle.atomic_table.proofs.Lists.{at_set, set_else, at_longer}
use Rattle.mc_turn.specs.declared.view.View.{View}
use Rattle.mc_turn.specs.declared.view.Stage.TheVariants.{Out, Inside}
use Rattle.mc_views.specs.Views.{Each, Apart}
use Rattle.mc_turn.specs.Callers.{Has, Rising, merged, SameOwn, Within}
use Rattle.mc_turn.specs.Rule.{view_of, opened, spent, joined, Owns, Ticket, Fits, NotInside, AtHome, IsOut, Ruled, Cuts}
use Rattle.mc_views.specs.Laws.{each_set, each_snoc, apart_less, apart_snoc, apart_join}
use Rattle.mc_turn.proofs.Journals.{prefix_self, prefix_shorter, between}
use Rattle.mc_turn.proofs.Numbers.{has_take, has_drop, rising_take, rising_drop, parts_apart, has_merged, merged_left, merged_right, rising_merged, rising_from, from_below}

out_inside : (t : ℕ) → Out ≢ Inside t
out_inside t e = cc

module _ {T E : Type 0} (kept : T → List E) (by : E → ℕ) where
  abbrev V : Type 0
  V = View E

  abbrev St : Type 0
  St = State (Option T) V

  -- a new lock
  pub opens : (value : T) (count : ℕ) → count < 2 ^ 32 → Within by count (kept value) → Ruled kept by (opening (0 ∷ 0 ∷ []) (Some value ∷ []) (opened (kept value) count))
  opens value count fits within = record {
    callers = count;
    few = fits;
    history = kept value;
    within = within;
    wide = refl;
    long = refl;
    ordered = omega arith;
    each = first (Fits by count (kept value) 0 0) record { knows = omega arith; seen = prefix_self (kept value); own = λ n h. refl; rising = rising_from 0 count; below = (λ n h. let lt : n < 0 + count = from_below 0 count n h in omega arith); stage = tt; parts = tt };
    numbers = alone Owns;
    tickets = alone Ticket;
    place = inl (value, refl, refl, first NotInside (λ t e. cc));
  }
    where
      first : (Q : V → Type 0) → Q (opened (kept value) count) → Each Q (opened (kept value) count ∷ [])
      first Q q zero v e = subst Q (some-injective (opened (kept value) count) v e) q
      first Q q (suc j) v e = absurd (some-ne-none v (sym e))

      alone : (P : V → ℕ → Type 0) → Apart P (opened (kept value) count ∷ [])
      alone P zero zero n v w ei ej p q = refl
      alone P zero (suc j) n v w ei ej p q = absurd (some-ne-none w (sym ej))
      alone P (suc i) j n v w ei ej p q = absurd (some-ne-none v (sym ei))

  -- the view v is cut in two, which have parts of its numbers
  pub splits : (id : ℕ) (v : V) (front back : List ℕ) → v.stage ≡ Out → ((n : ℕ) → Has front n → Has v.numbers n) → ((n : ℕ) → Has back n → Has v.numbers n)
      → (Rising v.numbers → (n : ℕ) → Has front n → Has back n → ⊥) → (Rising v.numbers → Rising front × Rising back)
      → Splits (Ruled kept by) id v (view_of v.callers v.seen front Out) (view_of v.callers v.seen back Out)
  splits id v front back idle of_front of_back apart rising s r here = let left : V = view_of v.callers v.seen front Out in let right : V = view_of v.callers v.seen back Out in
      let fits = r.each id v here in let up = rising fits.rising in record {
        callers = r.callers;
        few = r.few;
        history = r.history;
        within = r.within;
        wide = r.wide;
        long = r.long;
        ordered = r.ordered;
        each = each_snoc (Fits by r.callers r.history (get_or s.words 0 0) (get_or s.words 1 0)) (set s.views id left) right
            record { knows = fits.knows; seen = fits.seen; own = λ n h. fits.own n (of_back n h); rising = up.1; below = (λ n h. fits.below n (of_back n h)); stage = tt; parts = tt }
            (each_set (Fits by r.callers r.history (get_or s.words 0 0) (get_or s.words 1 0)) s.views id left
            record { knows = fits.knows; seen = fits.seen; own = λ n h. fits.own n (of_front n h); rising = up.0; below = (λ n h. fits.below n (of_front n h)); stage = tt; parts = tt }
            (λ j u ne e. r.each j u e));
        numbers = apart_snoc Owns (set s.views id left) right (apart_less Owns s.views id v left here of_front r.numbers)
            (λ n j u h e his. ⊎_elim
            (λ (t : (j ≡ id) × (left ≡ u)). apart fits.rising n (subst (λ (x : V). Owns x n) (sym t.1) his) h)
            (λ (t : (j ≢ id) × (get_elem? s.views j ≡ some u)). t.0 (r.numbers j id n u v t.1 here his (of_back n h)))
            (at_set s.views id j left u e));
        tickets = apart_snoc Ticket (set s.views id left) right (apart_less Ticket s.views id v left here (λ n h. absurd h) r.tickets) (λ n j u h e his. absurd h);
        place = ⊎_elim
            (λ (h : AtHome kept r.history s). inl (h.0, h.1, h.2, each_snoc NotInside (set s.views id left) right (λ t e. cc) (each_set NotInside s.views id left (λ t e. cc) (λ j u ne e. h.3 j u e))))
            (λ (o : IsOut kept s). inr (
              o.0,
              o.1,
              o.2,
              at_longer (set s.views id left) (right ∷ []) o.0 o.2
                  (set_else s.views id o.0 left (λ e. out_inside o.1 (sym idle ∙ (ap (λ (x : V). x.stage) (some-injective v o.2 (sym here ∙ (ap (get_elem? s.views) (sym e) ∙ o.3))) ∙ o.4))) ∙ o.3),
              o.4,
            ))
            r.place;
      }

  pub cuts : (id keep : ℕ) (v : V) (left right : V → V) → v.stage ≡ Out → Cuts keep left right → Splits (Ruled kept by) id v (left v) (right v)
  cuts id keep v left right idle parts = let e = parts v in subst (λ (x : V × V). Splits (Ruled kept by) id v x.0 x.1) (λ i. (sym e.0 i, sym e.1 i))
      (splits id v (take keep v.numbers) (drop keep v.numbers) idle (has_take v.numbers keep) (has_drop v.numbers keep) (λ up n h l. parts_apart v.numbers keep n up h l)
      (λ up. (rising_take v.numbers keep up, rising_drop v.numbers keep up)))

  -- the longer of two beginnings has all that both callers have
  longest : (h xs ys : List E) (ns ms : List ℕ) (b : Bool) → leb (length xs) (length ys) ≡ b → IsPrefix xs h → IsPrefix ys h → SameOwn by ns xs h → SameOwn by ms ys h
      → IsPrefix (cond b ys xs) h × SameOwn by (merged ns ms) (cond b ys xs) h
  longest h xs ys ns ms true e p q own his = let le : length xs ≤ length ys = leb-true (length xs) (length ys) e in
      (q, λ n has. ⊎_elim (λ t. between by n xs ys h (prefix_shorter xs ys h p q le) q (own n t)) (λ t. his n t) (has_merged ns ms n has))
  longest h xs ys ns ms false e p q own his = let lt : length ys < length xs = leb-false (length xs) (length ys) e in let le : length ys ≤ length xs = omega arith in
      (p, λ n has. ⊎_elim (λ t. own n t) (λ t. between by n ys xs h (prefix_shorter ys xs h q p le) p (his n t)) (has_merged ns ms n has))

  -- the views v and w are made one
  pub joins : (id : ℕ) (v : V) (other : ℕ) (w : V) → v.stage ≡ Out → w.stage ≡ Out → Joins (Ruled kept by) id v other w (joined v w) spent
  joins id v other w idle rest s r here ne there0 = let both : V = joined v w in let gone : V = spent in
      let there : get_elem? s.views other ≡ some w = sym (set_else s.views id other both ne) ∙ there0 in
      let f = r.each id v here in let g = r.each other w there in
      let long = longest r.history v.seen w.seen v.numbers w.numbers (leb (length v.seen) (length w.seen)) refl f.seen g.seen f.own g.own in
      let up : Rising (merged v.numbers w.numbers) = rising_merged v.numbers w.numbers f.rising g.rising (λ k h l. ne (r.numbers other id k w v there here l h)) in
      let Q : V → Type 0 = Fits by r.callers r.history (get_or s.words 0 0) (get_or s.words 1 0) in record {
        callers = r.callers;
        few = r.few;
        history = r.history;
        within = r.within;
        wide = r.wide;
        long = r.long;
        ordered = r.ordered;
        each = each_set Q (set s.views id both) other gone record { knows = (let few = r.few in omega arith); seen = (r.history, refl); own = λ n h. absurd h; rising = tt; below = λ n h. absurd h; stage = tt; parts = tt }
            (λ j u _ e. each_set Q s.views id both record { knows = f.knows; seen = long.0; own = long.1; rising = up; below = (λ n h. ⊎_elim (λ t. f.below n t) (λ t. g.below n t) (has_merged v.numbers w.numbers n h)); stage = tt; parts = ((f.seen, f.own, λ n h. merged_left v.numbers w.numbers n h), ((g.seen, g.own, λ n h. merged_right v.numbers w.numbers n h), tt)) } (λ j u _ e. r.each j u e) j u e);
        numbers = apart_join Owns s.views id other v w both gone here there (λ n h. h) (λ n h. has_merged v.numbers w.numbers n h) r.numbers;
        tickets = apart_join Ticket s.views id other v w both gone here there (λ n h. h) (λ n h. absurd h) r.tickets;
        place = ⊎_elim
            (λ (h : AtHome kept r.history s). inl (h.0, h.1, h.2, each_set NotInside (set s.views id both) other gone (λ t e. cc) (λ j u _ e. each_set NotInside s.views id both (λ t e. cc) (λ j u _ e. h.3 j u e) j u e)))
            (λ (o : IsOut kept s). inr (
              o.0,
              o.1,
              o.2,
              set_else (set s.views id both) other o.0 gone (elsewhere s other w there rest o) ∙ (set_else s.views id o.0 both (elsewhere s id v here idle o) ∙ o.3),
              o.4,
            ))
            r.place;
      }
    where
      elsewhere : (s : St) (i : ℕ) (x : V) → get_elem? s.views i ≡ some x → x.stage ≡ Out → (o : IsOut kept s) → o.0 ≢ i
      elsewhere s i x at idle o e = out_inside o.1 (sym idle ∙ (ap (λ (y : V). y.stage) (some-injective x o.2 (sym at ∙ (ap (get_elem? s.views) (sym e) ∙ o.3))) ∙ o.4))
