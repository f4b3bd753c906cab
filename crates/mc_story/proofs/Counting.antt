-- Turns of the core learn just as many views.
use Rattle.std.proofs.Common.{◌≡◌, inl, inr, ℕ, zero, suc, ◌+◌, true, List, [], ◌∷◌, ◌++◌, Option, Some, None, refl, sym, ap, ◌∙◌, arith}
use Rattle.std.specs.List.{AllByRecursion}
use Rattle.std.proofs.lemmas.Bool.{true≢false}
use Rattle.mc_journal.specs.Films.{Film}
use Rattle.mc_journal.specs.Views.{view}
use Rattle.mc_player.specs.declared.record.Order.{Order}
use Rattle.mc_player.specs.declared.record.Order.TheVariants as order
use Rattle.mc_player.specs.declared.record.CoreRecord.{CoreRecord}
use Rattle.mc_player.specs.declared.record.CoreRecord.TheVariants.{Learned, Wrote, Took, Did, Pushed, Replied}
use Rattle.mc_player.specs.Lives.{Table}
use Rattle.mc_player.specs.Orders.{Opening}
use Rattle.mc_story.specs.Steps.{Adds, Both, TookOne, Works, is_effect}
use Rattle.mc_story.specs.Turns.{CoreTurn, CoreTurns, TurnEnds, views_learned}

effect_none : (r : CoreRecord) (h : List CoreRecord) → is_effect r ≡ true → views_learned (r ∷ h) ≡ views_learned h
effect_none (Wrote by mask facts) h e = refl
effect_none (Pushed by client x kept) h e = refl
effect_none (Replied by client ticket x) h e = refl
effect_none r h e = absurd (true≢false (sym e))

front_none : (rs h : List CoreRecord) → AllByRecursion (λ r. is_effect r ≡ true) rs → views_learned (rs ++ h) ≡ views_learned h
front_none [] h a = refl
front_none (r ∷ rs) h a = effect_none r (rs ++ h) a.0 ∙ front_none rs h a.1

adds_none : (old new : List CoreRecord) → Adds is_effect old new → views_learned new ≡ views_learned old
adds_none old new a = ap views_learned a.grows ∙ front_none a.extras old a.are

took_none : (by : ℕ) (old new : List CoreRecord) → TookOne by old new → views_learned new ≡ views_learned old
took_none by old new t = adds_none (Took by t.0 t.1 t.2 ∷ old) new t.3

works_none : (table : Table) (by : ℕ) (old : List CoreRecord) (o : Option Order) (new : List CoreRecord) → Works table by old o new → views_learned new ≡ views_learned old
works_none table by old None new w = elim w [ inl e ↦ ap views_learned e.0 | inr t ↦ took_none by old new t ]
works_none table by old (Some order.Load) new w = ap views_learned w
works_none table by old (Some (order.Seek t dir)) new w = ap views_learned w.2 ∙ took_none by old w.0 w.1
works_none table by old (Some (order.Select set at)) new w = ap views_learned w.2 ∙ took_none by old w.0 w.1
works_none table by old (Some order.Idle) new w = ap views_learned w.2 ∙ took_none by old w.0 w.1
works_none table by old (Some order.Finished) new w = ap views_learned w.2 ∙ took_none by old w.0 w.1

ends_none : (w : Opening) (by : ℕ) (o : Option Order) (worked s' : Both) → TurnEnds w by o worked s' → views_learned s'.hc ≡ views_learned worked.hc
ends_none w by None worked s' e = ap (λ (k : Both). views_learned k.hc) e
ends_none w by (Some o) worked s' e = adds_none (Did by e.2.outcome ∷ e.0.hc) s'.hc e.2.adds ∙ ap views_learned e.1.still

turn_learns : (film : Film) (w : Opening) (table : Table) (by : ℕ) (s s' : Both) → CoreTurn film w table by s s' → views_learned s'.hc ≡ views_learned s.hc + 1
turn_learns film w table by s s' t =
    ends_none w by t.worked.order t.worked s' t.ends ∙ works_none table by t.learnt.hc t.worked.order t.worked.hc t.works.works
    ∙ adds_none (Learned by (view film.packets s.hd) ∷ s.hc) t.learnt.hc t.learns.adds

pub turns_learn : (film : Film) (w : Opening) (table : Table) (by n : ℕ) (s s' : Both) → CoreTurns film w table by n s s' → views_learned s'.hc ≡ views_learned s.hc + n
turns_learn film w table by zero s s' t = let e : views_learned s'.hc ≡ views_learned s.hc = ap (λ (k : Both). views_learned k.hc) t in e ∙ omega arith
turns_learn film w table by (suc n) s s' t =
    let one : views_learned t.0.hc ≡ views_learned s.hc + 1 = turn_learns film w table by s t.0 t.1 in
    let more : views_learned s'.hc ≡ views_learned t.0.hc + n = turns_learn film w table by n t.0 s' t.2 in
    omega arith
