-- Each step of the lock keeps its rule.
use Rattle.std.proofs.Common.{◌≡◌, ◌≢◌, ℕ, suc, ◌+◌, ◌≤◌, eqb, List, [], length, get_or, set, refl, ap, sym, ◌∙◌, subst, inl, inr, ⊎_elim, arith, Option, Some, zero-le, length-set, get_or-set_same, get_or-set_other}
use mathlib.Core.Logic.{dite}
use mathlib.Core.Option as maybe
use mathlib.Core.Option.{none, some, some-injective}
use mathlib.Core.List.{IsPrefix}
use native.Mathlib.Decide.{ℕ_discrete}
use lib.ListN.{get_elem?}
use lib.Seq.{set-get_or}
use prog.Atomic.{either}
use Rattle.atomic_table.specs.Table.{State, Me, Act, Valid, carried_after, keeps, takes, stepped, Allows}
use Rattle.atomic_table.proofs.Lists.{set_else, set_again, exchanged}
use Rattle.mc_turn.specs.declared.view.View.{View}
use Rattle.mc_turn.specs.declared.view.Stage.{Stage}
use Rattle.mc_turn.specs.declared.view.Stage.TheVariants.{Out, Waiting, Inside}
use Rattle.mc_views.specs.Views.{Each}
use Rattle.mc_turn.specs.Callers.{of_caller, Within}
use Rattle.mc_turn.specs.Rule.{view_of, Bears, Owns, Ticket, AtStage, Fits, NotInside, AtHome, IsOut, Ruled, Takes, Draws, Learns}
use Rattle.mc_views.specs.Laws.{set_at, each_set, apart_set, apart_less}
use Rattle.mc_turn.proofs.Journals.{prefix_self}
use Rattle.mc_turn.proofs.Bounds.{within_more}
use Rattle.mc_turn.proofs.Numbers.{rising_length}

-- the three stages are apart
out_inside : (t : ℕ) → Out ≢ Inside t
out_inside t e = cc

waiting_inside : (k t : ℕ) → Waiting k ≢ Inside t
waiting_inside k t e = cc

module _ {T E : Type 0} (kept : T → List E) (by : E → ℕ) where
  abbrev Homes : Type 0
  Homes = List (maybe.Option (Option T))

  abbrev V : Type 0
  V = View E

  abbrev St : Type 0
  St = State (Option T) V

  abbrev Rule : St → Type 0
  Rule = Ruled kept by

  abbrev ticket : St → ℕ
  ticket s = get_or s.words 0 0

  abbrev serving : St → ℕ
  serving s = get_or s.words 1 0

  abbrev at : List ℕ → Homes → List V → St
  at ws hs vs = record { words = ws; homes = hs; views = vs }

  -- the same words and views
  same_state : (s : St) (i id : ℕ) (v : V) (cs : List (ℕ × Option T)) → get_elem? s.views id ≡ some v → Rule s → Rule (stepped s i (get_or s.words i 0) id cs v keeps)
  same_state s i id v cs here r = subst (λ (ws : List ℕ). Rule (at ws s.homes (set s.views id v))) (sym (set-get_or s.words i 0))
      (subst (λ (vs : List V). Rule (at s.words s.homes vs)) (sym (set_again s.views id v here)) r)

  pub looks : (slots id i : ℕ) (m : Me (Option T) V) → Allows Rule slots id m i (λ n. n) (λ r n. n ≡ m)
  looks slots id i m s r long here _ = (m.0, keeps, tt, same_state s i id m.0 m.1 here r, refl)

  -- who is inside is another
  still_out : (s : St) (ws : List ℕ) (hs : Homes) (id : ℕ) (v w : V) → get_elem? s.views id ≡ some v → NotInside v → IsOut kept s → IsOut kept (at ws hs (set s.views id w))
  still_out s ws hs id v w here not out =
      let other : out.0 ≢ id = λ e. not out.1 (ap (λ (x : V). x.stage) (some-injective v out.2 (sym here ∙ (ap (get_elem? s.views) (sym e) ∙ out.3))) ∙ out.4) in
      (out.0, out.1, out.2, set_else s.views id out.0 w other ∙ out.3, out.4)

  -- a word was drawn by the pass id
  drawn : (s : St) (r : Rule s) (id old : ℕ) (v : V) (cs : List (ℕ × Option T)) → get_elem? s.views id ≡ some v → v.stage ≡ Out → ticket s ≡ old
      → Rule (stepped s 0 (old + 1) id cs (view_of v.callers v.seen v.numbers (Waiting old)) keeps)
  drawn s r id old v cs here idle word = let w : V = view_of v.callers v.seen v.numbers (Waiting old) in let wide = r.wide in
      let now : get_or (set s.words 0 (old + 1)) 0 0 ≡ old + 1 = get_or-set_same s.words 0 (old + 1) 0 (omega arith) in
      let then : get_or (set s.words 0 (old + 1)) 1 0 ≡ serving s = get_or-set_other s.words 0 1 (old + 1) 0 (λ e. omega arith) in
      let ordered = r.ordered in
      let not : NotInside v = λ t e. out_inside t (sym idle ∙ e) in
      let fits : Fits by r.callers r.history (ticket s) (serving s) v = r.each id v here in record {
        callers = r.callers;
        few = r.few;
        history = r.history;
        within = r.within;
        wide = length-set s.words 0 (old + 1) ∙ wide;
        long = r.long;
        ordered = omega (arith, now, then);
        each = subst (λ (x : ℕ × ℕ). Each (Fits by r.callers r.history x.0 x.1) (set s.views id w)) (λ i. (sym now i, sym then i))
            (each_set (Fits by r.callers r.history (old + 1) (serving s)) s.views id w
            record { knows = fits.knows; seen = fits.seen; own = fits.own; rising = fits.rising; below = fits.below; stage = (omega arith, omega arith); parts = tt }
            (λ j u ne e. let f = r.each j u e in record { knows = f.knows; seen = f.seen; own = f.own; rising = f.rising; below = f.below; stage = more u.stage u.seen (ap suc word) f.stage; parts = f.parts }));
        numbers = apart_less Owns s.views id v w here (λ n h. h) r.numbers;
        tickets = apart_set Ticket s.views id w r.tickets (λ n j u mine ne e his. below u.stage u.seen n word mine (r.each j u e).stage his);
        place = ⊎_elim (λ h. inl (h.0, h.1, h.2, each_set NotInside s.views id w (waiting_inside old) (λ j u ne e. h.3 j u e))) (λ o. inr (still_out s (set s.words 0 (old + 1)) s.homes id v w here not o)) r.place;
      }
    where
      more : (st : Stage) (seen : List E) → suc (ticket s) ≡ suc old → AtStage by r.callers r.history (ticket s) (serving s) seen st → AtStage by r.callers r.history (old + 1) (serving s) seen st
      more Out seen e a = tt
      more (Waiting k) seen e a = (a.0, (let b = a.1 in omega arith))
      more (Inside k) seen e a = (a.0, (let b = a.1 in omega arith), a.2)

      below : (st : Stage) (seen : List E) (n : ℕ) → ticket s ≡ old → old ≡ n → AtStage by r.callers r.history (ticket s) (serving s) seen st → Bears st n → ⊥
      below Out seen n e m a b = b
      below (Waiting k) seen n e m a b = let c = a.1 in omega arith
      below (Inside k) seen n e m a b = let c = a.1 in omega arith

  pub draws : (slots id old : ℕ) (m : Me (Option T) V) → m.0.stage ≡ Out → Allows Rule slots id m 0 (λ n. either (eqb n old) (old + 1) n) (Draws old m)
  draws slots id old m idle s r long here _ = exchanged (ticket s) old (old + 1)
      (λ (f : ℕ). (w : V) × (a : Act (Option T)) × Valid s.homes m.1 a × Rule (stepped s 0 f id m.1 w a) × Draws old m (ticket s) (w, carried_after m.1 a))
      (λ e. (view_of m.0.callers m.0.seen m.0.numbers (Waiting old), keeps, tt, drawn s r id old m.0 m.1 here idle e, ((λ _. refl), λ ne. absurd (ne e))))
      (λ ne. (m.0, keeps, tt, same_state s 0 id m.0 m.1 here r, ((λ e. absurd (ne e)), λ _. refl)))

  -- the value was taken by the pass id, whose turn it is
  taken : (s : St) (r : Rule s) (id k : ℕ) (v : V) (value : T) → get_elem? s.views id ≡ some v → v.stage ≡ Waiting k → serving s ≡ k → kept value ≡ r.history
      → Rule (stepped s 1 (serving s) id [] (view_of v.callers (kept value) v.numbers (Inside k)) (takes 0 (Some value)))
  taken s r id k v value here waits word same = let w : V = view_of v.callers (kept value) v.numbers (Inside k) in
      let fits : Fits by r.callers r.history (ticket s) (serving s) v = r.each id v here in
      let stage : AtStage by r.callers r.history (ticket s) (serving s) v.seen (Waiting k) = subst (AtStage by r.callers r.history (ticket s) (serving s) v.seen) waits fits.stage in
      let low = stage.1 in
      subst (λ (ws : List ℕ). Rule (at ws (set s.homes 0 none) (set s.views id w))) (sym (set-get_or s.words 1 0)) record {
        callers = r.callers;
        few = r.few;
        history = r.history;
        within = r.within;
        wide = r.wide;
        long = length-set s.homes 0 none ∙ r.long;
        ordered = r.ordered;
        each = each_set (Fits by r.callers r.history (ticket s) (serving s)) s.views id w
            record { knows = fits.knows; seen = subst (λ (l : List E). IsPrefix l r.history) (sym same) (prefix_self r.history); own = λ n h. ap (of_caller by n) same; rising = fits.rising; below = fits.below; stage = (sym word, low, same); parts = tt }
            (λ j u ne e. r.each j u e);
        numbers = apart_less Owns s.views id v w here (λ n h. h) r.numbers;
        tickets = apart_less Ticket s.views id v w here (λ n h. subst (λ (st : Stage). Bears st n) (sym waits) h) r.tickets;
        place = inr (id, k, w, set_at s.views id v w here, refl);
      }

  -- where the pass that waits is served, nobody is inside
  nobody_in : (s : St) (r : Rule s) (id k : ℕ) (v : V) → get_elem? s.views id ≡ some v → v.stage ≡ Waiting k → serving s ≡ k → IsOut kept s → ⊥
  nobody_in s r id k v here waits word out = let j = out.0 in let t = out.1 in let u = out.2 in
      let stage : AtStage by r.callers r.history (ticket s) (serving s) u.seen (Inside t) = subst (AtStage by r.callers r.history (ticket s) (serving s) u.seen) out.4 (r.each j u out.3).stage in
      let mine : Ticket v k = subst (λ (st : Stage). Bears st k) (sym waits) refl in
      let his : Ticket u k = subst (λ (st : Stage). Bears st k) (sym out.4) (stage.0 ∙ word) in
      let one : id ≡ j = r.tickets id j k v u here out.3 mine his in
      let same : v ≡ u = some-injective v u (sym here ∙ (ap (get_elem? s.views) one ∙ out.3)) in
      waiting_inside k t (sym waits ∙ (ap (λ (x : V). x.stage) same ∙ out.4))

  pub enters : (slots id k : ℕ) (v : V) → v.stage ≡ Waiting k → Allows Rule slots id (v, []) 1 (λ n. n) (Takes kept by (v, []))
  enters slots id k v waits s r long here _ = dite (ℕ_discrete (serving s) k)
      (λ e. ⊎_elim
      (λ (h : AtHome kept r.history s). (
        view_of v.callers (kept h.0) v.numbers (Inside k),
        takes 0 (Some h.0),
        h.1,
        taken s r id k v h.0 here waits e h.2,
        λ l is _. let same : k ≡ l = cc (sym waits ∙ is) in (
          (λ _. record {
            value = h.0;
            held = refl;
            view = ap (λ (x : ℕ). view_of v.callers (kept h.0) v.numbers (Inside x)) same;
            seen = subst (IsPrefix v.seen) (sym h.2) (r.each id v here).seen;
            own = λ n has. (r.each id v here).own n has ∙ ap (of_caller by n) (sym h.2);
            within = subst (Within by v.callers) (sym h.2) (within_more by r.callers v.callers r.history (r.each id v here).knows r.within);
          }),
          λ ne. absurd (ne (e ∙ same)),
        ),
      ))
      (λ o. absurd (nobody_in s r id k v here waits e o))
      r.place)
      (λ ne. (v, keeps, tt, same_state s 1 id v [] here r, λ l is _. ((λ e. absurd (ne (let same : k ≡ l = cc (sym waits ∙ is) in e ∙ sym same))), λ _. refl)))

  pub enters_as : (slots id k : ℕ) (m : Me (Option T) V) → m.0.stage ≡ Waiting k → m.1 ≡ [] → Allows Rule slots id m 1 (λ n. n) (Takes kept by m)
  enters_as slots id k m waits none_held = subst (λ (cs : List (ℕ × Option T)). Allows Rule slots id (m.0, cs) 1 (λ n. n) (Takes kept by (m.0, cs))) (sym none_held) (enters slots id k m.0 waits)

  -- the pass lets its parts go
  lets_go : (s : St) (r : Rule s) (id : ℕ) (v : V) (cs : List (ℕ × Option T)) → get_elem? s.views id ≡ some v → Rule (stepped s 0 (ticket s) id cs (view_of v.callers v.seen v.numbers v.stage) keeps)
  lets_go s r id v cs here = let w : V = view_of v.callers v.seen v.numbers v.stage in let f = r.each id v here in
      subst (λ (ws : List ℕ). Rule (at ws s.homes (set s.views id w))) (sym (set-get_or s.words 0 0)) record {
        callers = r.callers;
        few = r.few;
        history = r.history;
        within = r.within;
        wide = r.wide;
        long = r.long;
        ordered = r.ordered;
        each = each_set (Fits by r.callers r.history (ticket s) (serving s)) s.views id w record { knows = f.knows; seen = f.seen; own = f.own; rising = f.rising; below = f.below; stage = f.stage; parts = tt } (λ j u ne e. r.each j u e);
        numbers = apart_less Owns s.views id v w here (λ n h. h) r.numbers;
        tickets = apart_less Ticket s.views id v w here (λ n h. h) r.tickets;
        place = ⊎_elim
            (λ h. inl (h.0, h.1, h.2, each_set NotInside s.views id w (h.3 id v here) (λ j u ne e. h.3 j u e)))
            (λ (o : IsOut kept s). dite (ℕ_discrete o.0 id)
            (λ e. inr (id, o.1, w, set_at s.views id v w here, ap (λ (x : V). x.stage) (some-injective v o.2 (sym here ∙ (ap (get_elem? s.views) (sym e) ∙ o.3))) ∙ o.4))
            (λ ne. inr (o.0, o.1, o.2, set_else s.views id o.0 w ne ∙ o.3, o.4)))
            r.place;
      }

  pub learns : (slots id : ℕ) (m : Me (Option T) V) → Allows Rule slots id m 0 (λ n. n) (λ r n. Learns by m n)
  learns slots id m s r long here _ = let f = r.each id m.0 here in (
    view_of m.0.callers m.0.seen m.0.numbers m.0.stage,
    keeps,
    tt,
    lets_go s r id m.0 m.1 here,
    (
      refl,
      (let le : length m.0.numbers + 0 ≤ r.callers = rising_length m.0.numbers 0 r.callers zero-le f.rising (λ n h. (zero-le, f.below n h)) in let few = r.few in omega arith),
      (r.history, f.seen, f.own, f.parts),
    ),
  )
