-- Each step keeps the tie.
use Rattle.std.proofs.Common.{◌≡◌, inl, inr, ℕ, Bool, true, false, List, [], ◌∷◌, ◌++◌, Option, Some, None, ℤ, refl, sym, subst, ◌∙◌}
use Rattle.std.specs.Prelude.{◌&&◌, ◌==◌, if◌then◌else◌, IfSome, IsSomeAnd}
use Rattle.std.specs.List.{AllByRecursion}
use Rattle.std.proofs.lemmas.Bool.{or_left, or_right, and_from, and_parts, or_cases, true≢false}
use Rattle.mc_packet.specs.declared.choice.Choice.{Choice}
use Rattle.mc_packet.specs.declared.choice.Why.TheVariants.{NoTrack}
use Rattle.mc_journal.specs.declared.record.DemuxRecord.{DemuxRecord}
use Rattle.mc_journal.specs.declared.record.DemuxRecord.TheVariants.{Sought, Switched, Refused}
use Rattle.mc_journal.specs.Used.{is_begun, is_still}
use Rattle.mc_journal.specs.Films.{Film}
use Rattle.mc_journal.specs.Readings.{selected, follows, is_asked}
use Rattle.mc_journal.specs.Views.{view}
use Rattle.mc_packet.specs.declared.cache.CacheView.{CacheView}
use Rattle.mc_player.specs.declared.record.Order.{Order}
use Rattle.mc_player.specs.declared.record.Order.TheVariants as order
use Rattle.mc_player.specs.declared.record.Outcome.{Outcome}
use Rattle.mc_player.specs.declared.record.Outcome.TheVariants as outcome
use Rattle.mc_player.specs.declared.record.CoreRecord.{CoreRecord}
use Rattle.mc_player.specs.declared.record.CoreRecord.TheVariants.{Learned, Wrote, Took, Ordered, Did, Pushed, Replied}
use Rattle.mc_player.specs.Journals.{out}
use Rattle.mc_player.specs.Lives.{Table}
use Rattle.mc_story.specs.Runs.Step.{Seek, Switch, Other, Learn, Work, Carry, Done, Client, Others}
use Rattle.mc_player.specs.Orders.{AreLoads, IsOf, Item, Opening, ordered, with_item, with_out}
use Rattle.mc_story.specs.Runs.{IsUnder, Step, Stepped}
use Rattle.mc_story.specs.Same.{behind_silent, first_is, is_of, is_silent, same, same_story}
use Rattle.mc_story.specs.Steps.{Adds, Both, Carries, Carrying, Doing, Learning, SwitchAdds, TookOne, Working, Works, is_effect, is_foreign, is_inner}
use Rattle.mc_story.specs.Story.{Views}
use Rattle.mc_story.specs.Tie.{IsTied, so_far}
use Rattle.mc_story.proofs.Asking.{rest_begun, rest_follows, same_more}
use Rattle.mc_story.proofs.Adding.{both, moved, with_hd, inner_front, demux_front, foreign_front, views_more}
use Rattle.mc_story.proofs.Carrying.{seek_same, seek_views, seek_other, select_same, select_views, switch_other, switch_views}

-- ---- an outcome that is not told

of_forget : (o : Order) (x : Outcome) (r : DemuxRecord) → is_of (record { order = o; outcome = Some x }) r ≡ true → is_of (record { order = o; outcome = None }) r ≡ true
of_forget o x (Sought by set t dir how) e = and_from _ _ (and_parts _ _ e).0 refl
of_forget o x (Switched by set added at) e = and_from _ _ (and_parts _ _ e).0 refl
of_forget o x (Refused by NoTrack) e = and_from _ _ (and_parts _ _ e).0 refl
of_forget o x r e = absurd (true≢false (sym e))

silent_forget : (set : Choice) (o : Order) (x : Outcome) → is_silent set (record { order = o; outcome = Some x }) ≡ true → is_silent set (record { order = o; outcome = None }) ≡ true
silent_forget set o x e = and_from _ _ (and_parts _ _ e).0 refl

behind_forget : (set : Choice) (test : List Item → Bool) (i j : Item) (is : List Item) → (test (i ∷ is) ≡ true → test (j ∷ is) ≡ true) → (is_silent set i ≡ true → is_silent set j ≡ true)
    → behind_silent set test (i ∷ is) ≡ true → behind_silent set test (j ∷ is) ≡ true
behind_forget set test i j is f g e =
    elim (or_cases (test (i ∷ is)) (is_silent set i && behind_silent set test is) e) [
      | inl a ↦ or_left (test (j ∷ is)) (is_silent set j && behind_silent set test is) (f a)
      | inr b ↦ or_right (test (j ∷ is)) (is_silent set j && behind_silent set test is)
          (and_from (is_silent set j) (behind_silent set test is) (g (and_parts (is_silent set i) (behind_silent set test is) b).0) (and_parts (is_silent set i) (behind_silent set test is) b).1)
    ]

same_forget : (n : ℕ) (h : List DemuxRecord) (o : Order) (x : Outcome) (is : List Item)
    → same n h (record { order = o; outcome = Some x } ∷ is) ≡ true → same n h (record { order = o; outcome = None } ∷ is) ≡ true
same_forget n [] o x is e = absurd (true≢false (sym e))
same_forget n (r ∷ h) o x is e =
    behind_forget (selected (r ∷ h)) (if is_asked n h r then first_is r (same n h) else same n h) (record { order = o; outcome = Some x }) (record { order = o; outcome = None }) is
    (inside (is_asked n h r) r (same n h) o x is (same_forget n h o x is)) (silent_forget (selected (r ∷ h)) o x) e
  where
    inside : (b : Bool) (r : DemuxRecord) (test : List Item → Bool) (o : Order) (x : Outcome) (is : List Item)
        → (test (record { order = o; outcome = Some x } ∷ is) ≡ true → test (record { order = o; outcome = None } ∷ is) ≡ true)
        → (if b then first_is r test else test) (record { order = o; outcome = Some x } ∷ is) ≡ true → (if b then first_is r test else test) (record { order = o; outcome = None } ∷ is) ≡ true
    inside false r test o x is f e = f e
    inside true r test o x is f e = and_from _ _ (of_forget o x r (and_parts _ _ e).0) (and_parts _ _ e).1

out_forget : (n : ℕ) (h : List DemuxRecord) (o : Option Order) (x : Outcome) (is : List Item) → same n h (with_out o (Some x) is) ≡ true → same n h (with_out o None is) ≡ true
out_forget n h None x is e = e
out_forget n h (Some (order.Seek t dir)) x is e = same_forget n h (order.Seek t dir) x is e
out_forget n h (Some (order.Select set at)) x is e = same_forget n h (order.Select set at) x is e
out_forget n h (Some order.Load) x is e = e
out_forget n h (Some order.Idle) x is e = e
out_forget n h (Some order.Finished) x is e = e

story_by : (n : ℕ) (hd : List DemuxRecord) (hc : List CoreRecord) (x : Option Outcome) → same n hd (so_far x (out hc) (ordered hc)) ≡ true → same_story n hd hc ≡ true
story_by n hd hc None e = or_left (same n hd (ordered hc)) (same n hd (with_out (out hc) None (ordered hc))) e
story_by n hd hc (Some x) e = or_right (same n hd (ordered hc)) (same n hd (with_out (out hc) None (ordered hc))) (out_forget n hd (out hc) x (ordered hc) e)

-- a tied world's journals tell one story
pub story_of : (n : ℕ) (film : Film) (w : Opening) (s : Both) → IsTied n film w s → same_story n s.hd s.hc ≡ true
story_of n film w s i = story_by n s.hd s.hc s.carried i.asked

-- ---- the player's steps

pub learn_tied : (n by : ℕ) (film : Film) (w : Opening) (hd : List DemuxRecord) (hc : List CoreRecord) (o : Option Order) (x : Option Outcome) (v : CacheView)
    → v ≡ view film.packets hd → IsTied n film w (both hd hc o x) → IsTied n film w (both hd (Learned by v ∷ hc) o x)
learn_tied n by film w hd hc o x v e i = record {
  asked = i.asked;
  learned = (0, e, story_by n hd hc x i.asked, i.learned);
  loads = i.loads;
  order_is = i.order_is;
  carried_is = i.carried_is;
}

pub order_tied : (n by : ℕ) (film : Film) (w : Opening) (hd : List DemuxRecord) (hc : List CoreRecord) (o : Order)
    → IsTied n film w (both hd hc None None) → IsTied n film w (both hd (Ordered by o ∷ hc) (Some o) None)
order_tied n by film w hd hc o i = record { asked = i.asked; learned = i.learned; loads = i.loads; order_is = refl; carried_is = tt }

effect_inner : (r : CoreRecord) → is_effect r ≡ true → is_inner r ≡ true
effect_inner (Wrote by mask facts) e = refl
effect_inner (Pushed by client x kept) e = refl
effect_inner (Replied by client ticket x) e = refl
effect_inner r e = absurd (true≢false (sym e))

all_inner : (rs : List CoreRecord) → AllByRecursion (λ r. is_effect r ≡ true) rs → AllByRecursion (λ r. is_inner r ≡ true) rs
all_inner [] a = tt
all_inner (r ∷ rs) a = (effect_inner r a.0, all_inner rs a.1)

effects : (n : ℕ) (film : Film) (w : Opening) (hd : List DemuxRecord) (old new : List CoreRecord) (o : Option Order) (x : Option Outcome)
    → Adds is_effect old new → IsTied n film w (both hd old o x) → IsTied n film w (both hd new o x)
effects n film w hd old new o x e i =
    subst (λ (k : List CoreRecord). IsTied n film w (both hd k o x)) (sym e.grows) (inner_front n film w hd e.extras old o x (all_inner e.extras e.are) i)

took_tied : (n by : ℕ) (film : Film) (w : Opening) (hd : List DemuxRecord) (hc new : List CoreRecord)
    → TookOne by hc new → IsTied n film w (both hd hc None None) → IsTied n film w (both hd new None None)
took_tied n by film w hd hc new a i =
    effects n film w hd (Took by a.0 a.1 a.2 ∷ hc) new None None a.3 (inner_front n film w hd (Took by a.0 a.1 a.2 ∷ []) hc None None (refl, tt) i)

given_tied : (n by : ℕ) (film : Film) (w : Opening) (hd : List DemuxRecord) (hc : List CoreRecord) (o : Order) (new : List CoreRecord)
    → (mid : List CoreRecord) × TookOne by hc mid × (new ≡ Ordered by o ∷ mid) → IsTied n film w (both hd hc None None) → IsTied n film w (both hd new (Some o) None)
given_tied n by film w hd hc o new a i =
    subst (λ (k : List CoreRecord). IsTied n film w (both hd k (Some o) None)) (sym a.2) (order_tied n by film w hd a.0 o (took_tied n by film w hd hc a.0 a.1 i))

work_tied : (n by : ℕ) (film : Film) (w : Opening) (t : Table) (hd : List DemuxRecord) (hc : List CoreRecord) (o : Option Order) (new : List CoreRecord)
    → Works t by hc o new → IsTied n film w (both hd hc None None) → IsTied n film w (both hd new o None)
work_tied n by film w t hd hc None new a i = elim a [
  | inl e ↦ subst (λ (k : List CoreRecord). IsTied n film w (both hd k None None)) (sym e.0) i
  | inr e ↦ took_tied n by film w hd hc new e i
]
work_tied n by film w t hd hc (Some order.Load) new a i =
    subst (λ (k : List CoreRecord). IsTied n film w (both hd k (Some order.Load) None)) (sym a) (order_tied n by film w hd hc order.Load i)
work_tied n by film w t hd hc (Some o) new a i = given_tied n by film w hd hc o new a i

none_carried : (w : Opening) (x : Option Outcome) (o : Option Order) → o ≡ None → IfSome x (λ y. IsSomeAnd o (λ p. IsOf w p y)) → x ≡ None
none_carried w None o e c = refl
none_carried w (Some y) None e c = absurd c
none_carried w (Some y) (Some p) e c = absurd (cc)

-- ---- a carried order

carry_asked : (n : ℕ) (w : Opening) (o : Order) (hd new : List DemuxRecord) (x : Outcome) (is : List Item)
    → follows hd ≡ false → is_begun hd ≡ true → Carries w n o hd x new → same n hd is ≡ true → same n new (with_item o (Some x) is) ≡ true
carry_asked n w order.Load hd new x is f b a s = subst (λ (k : List DemuxRecord). same n k is ≡ true) (sym a.1) s
carry_asked n w (order.Seek t dir) hd new x is f b a s = seek_same n t dir hd x new is f a s
carry_asked n w (order.Select set at) hd new x is f b a s = select_same n set at hd x new is b a s
carry_asked n w order.Idle hd new x is f b a s = absurd a
carry_asked n w order.Finished hd new x is f b a s = absurd a

carry_views : (n by : ℕ) (film : Film) (w : Opening) (o : Order) (hd new : List DemuxRecord) (x : Outcome) (hc : List CoreRecord)
    → Carries w by o hd x new → Views n film hd hc → Views n film new hc
carry_views n by film w order.Load hd new x hc a v = subst (λ (k : List DemuxRecord). Views n film k hc) (sym a.1) v
carry_views n by film w (order.Seek t dir) hd new x hc a v = seek_views n by film t dir hd x new hc a v
carry_views n by film w (order.Select set at) hd new x hc a v = select_views n by film set at hd x new hc a v
carry_views n by film w order.Idle hd new x hc a v = absurd a
carry_views n by film w order.Finished hd new x hc a v = absurd a

carry_of : (w : Opening) (by : ℕ) (o : Order) (hd new : List DemuxRecord) (x : Outcome) → Carries w by o hd x new → IsOf w o x
carry_of w by order.Load hd new x a = a.0
carry_of w by (order.Seek t dir) hd new outcome.Sought a = tt
carry_of w by (order.Seek t dir) hd new (outcome.Refused NoTrack) a = tt
carry_of w by (order.Seek t dir) hd new x a = absurd a
carry_of w by (order.Select set at) hd new (outcome.Selected s) a = a.0
carry_of w by (order.Select set at) hd new x a = absurd a
carry_of w by order.Idle hd new x a = absurd a
carry_of w by order.Finished hd new x a = absurd a

pub carry_tied : (n : ℕ) (film : Film) (w : Opening) (hd new : List DemuxRecord) (hc : List CoreRecord) (o : Order) (x : Outcome)
    → is_still film.packets hd ≡ true → Carries w n o hd x new → IsTied n film w (both hd hc (Some o) None) → IsTied n film w (both new hc (Some o) (Some x))
carry_tied n film w hd new hc o x f a i = record {
  asked = subst (λ (k : Option Order). same n new (with_out k (Some x) (ordered hc)) ≡ true) i.order_is (carry_asked n w o hd new x (ordered hc) (rest_follows film.packets hd f) (rest_begun film.packets hd f) a i.asked);
  learned = carry_views n n film w o hd new x hc a i.learned;
  loads = i.loads;
  order_is = i.order_is;
  carried_is = carry_of w n o hd new x a;
}

-- ---- an order that is done

done_loads : (w : Opening) (by : ℕ) (hc : List CoreRecord) (o : Order) (x : Outcome) → IsOf w o x → AreLoads w hc → AreLoads w (Did by x ∷ hc)
done_loads w by hc order.Load (outcome.Loaded path tracks set) e l = (e, l)
done_loads w by hc (order.Seek t dir) (outcome.Loaded path tracks set) e l = absurd e
done_loads w by hc (order.Select s at) (outcome.Loaded path tracks set) e l = absurd e
done_loads w by hc order.Idle (outcome.Loaded path tracks set) e l = absurd e
done_loads w by hc order.Finished (outcome.Loaded path tracks set) e l = absurd e
done_loads w by hc o x e l = l

pub done_tied : (n by : ℕ) (film : Film) (w : Opening) (hd : List DemuxRecord) (hc : List CoreRecord) (o : Order) (x : Outcome)
    → IsTied n film w (both hd hc (Some o) (Some x)) → IsTied n film w (both hd (Did by x ∷ hc) None None)
done_tied n by film w hd hc o x i =
    record { asked = i.asked; learned = i.learned; loads = done_loads w by hc o x i.carried_is i.loads; order_is = refl; carried_is = tt }

-- ---- a switch of the driver

switch_tied : (n by : ℕ) (film : Film) (w : Opening) (set : Choice) (at : ℤ) (hd new : List DemuxRecord) (hc : List CoreRecord) (o : Option Order) (x : Option Outcome)
    → (by == n) ≡ false → SwitchAdds by set at hd new → IsTied n film w (both hd hc o x) → IsTied n film w (both new hc o x)
switch_tied n by film w set at hd new hc o x d a i = elim a [
  | inl e ↦ subst (λ (k : List DemuxRecord). IsTied n film w (both k hc o x)) (sym e) i
  | inr b ↦ elim b [
    | inl s ↦ with_hd n film w hd new hc o x (switch_other n by set at hd new (so_far x (out hc) (ordered hc)) d s i.asked) (switch_views n by film set at hd new hc s i.learned) i
    | inr r ↦ subst (λ (k : List DemuxRecord). IsTied n film w (both k hc o x)) (sym r.1)
        (with_hd n film w hd (Refused by r.0 ∷ hd) hc o x (same_more n (Refused by r.0) hd (so_far x (out hc) (ordered hc)) d i.asked) (views_more n film (Refused by r.0) hd hc i.learned) i)
  ]
]

-- ---- each step of the player

pub learning_tied : (n by : ℕ) (film : Film) (w : Opening) (s s' : Both) → Learning film by s s' → IsTied n film w s → IsTied n film w s'
learning_tied n by film w s s' p i =
    moved n film w s.hd s'.hd s'.hc s'.hc s.order s'.order s.carried s'.carried p.demux refl p.order p.carried
    (effects n film w s.hd (Learned by (view film.packets s.hd) ∷ s.hc) s'.hc s.order s.carried p.adds
    (learn_tied n by film w s.hd s.hc s.order s.carried (view film.packets s.hd) refl i))

pub working_tied : (n by : ℕ) (film : Film) (w : Opening) (t : Table) (s s' : Both) → Working t by s s' → IsTied n film w s → IsTied n film w s'
working_tied n by film w t s s' p i =
    let c : s.carried ≡ None = none_carried w s.carried s.order p.free i.carried_is in
    let j : IsTied n film w (both s.hd s.hc None None) = moved n film w s.hd s.hd s.hc s.hc s.order None s.carried None refl refl (sym p.free) (sym c) i in
    moved n film w s.hd s'.hd s'.hc s'.hc s'.order s'.order None s'.carried p.demux refl refl (p.carried ∙ c)
    (work_tied n by film w t s.hd s.hc s'.order s'.hc p.works j)

pub carrying_tied : (n : ℕ) (film : Film) (w : Opening) (s s' : Both) → is_still film.packets s.hd ≡ true → Carrying w n s s' → IsTied n film w s → IsTied n film w s'
carrying_tied n film w s s' f p i =
    let j : IsTied n film w (both s.hd s.hc (Some p.order) None) = moved n film w s.hd s.hd s.hc s.hc s.order (Some p.order) s.carried None refl refl (sym p.is_out) (sym p.once) i in
    moved n film w s'.hd s'.hd s.hc s'.hc (Some p.order) s'.order (Some p.outcome) s'.carried refl p.still (p.same_order ∙ p.is_out) p.is_carried
    (carry_tied n film w s.hd s'.hd s.hc p.order p.outcome f p.carries j)

pub doing_tied : (n by : ℕ) (film : Film) (w : Opening) (s s' : Both) → Doing by s s' → IsTied n film w s → IsTied n film w s'
doing_tied n by film w s s' p i =
    let j : IsTied n film w (both s.hd s.hc (Some p.order) (Some p.outcome)) =
    moved n film w s.hd s.hd s.hc s.hc s.order (Some p.order) s.carried (Some p.outcome) refl refl (sym p.is_out) (sym p.was_carried) i in
    moved n film w s.hd s'.hd s'.hc s'.hc None s'.order None s'.carried p.demux refl p.free p.fresh
    (effects n film w s.hd (Did by p.outcome ∷ s.hc) s'.hc None None p.adds (done_tied n by film w s.hd s.hc p.order p.outcome j))

-- ---- every step

pub step_tied : (n : ℕ) (film : Film) (w : Opening) (t : Table) (step : Step) (s s' : Both) → IsUnder n step → Stepped film w t step s s' → IsTied n film w s → IsTied n film w s'
step_tied n film w t (Seek by time dir) s s' u p i =
    moved n film w s'.hd s'.hd s.hc s'.hc s.order s'.order s.carried s'.carried refl p.is.still p.is.order p.is.carried
    (with_hd n film w s.hd s'.hd s.hc s.order s.carried
    (seek_other n by time dir s.hd p.is.adds.0 s'.hd (so_far s.carried (out s.hc) (ordered s.hc)) u p.is.adds.1 i.asked)
    (seek_views n by film time dir s.hd p.is.adds.0 s'.hd s.hc p.is.adds.1 i.learned) i)
step_tied n film w t (Switch by set at) s s' u p i =
    moved n film w s'.hd s'.hd s.hc s'.hc s.order s'.order s.carried s'.carried refl p.is.still p.is.order p.is.carried
    (switch_tied n by film w set at s.hd s'.hd s.hc s.order s.carried u p.is.adds i)
step_tied n film w t Other s s' u p i =
    moved n film w (p.is.adds.extras ++ s.hd) s'.hd s.hc s'.hc s.order s'.order s.carried s'.carried p.is.adds.grows p.is.still p.is.order p.is.carried
    (demux_front n film w p.is.adds.extras s.hd s.hc s.order s.carried p.is.adds.are i)
step_tied n film w t (Learn by) s s' u p i = learning_tied n by film w s s' p.is i
step_tied n film w t (Work by) s s' u p i = working_tied n by film w t s s' p.is i
step_tied n film w t (Carry by) s s' u p i = carrying_tied n film w s s' p.at_rest (subst (λ (k : ℕ). Carrying w k s s') u p.is) i
step_tied n film w t (Done by) s s' u p i = doing_tied n by film w s s' p.is i
step_tied n film w t Client s s' u p i =
    moved n film w s.hd s'.hd (p.is.adds.extras ++ s.hc) s'.hc s.order s'.order s.carried s'.carried p.is.demux p.is.adds.grows p.is.order p.is.carried
    (inner_front n film w s.hd p.is.adds.extras s.hc s.order s.carried p.is.adds.are i)
step_tied n film w t (Others m) s s' u p i =
    let rs : AllByRecursion (λ r. is_foreign n r ≡ true) p.is.demux.extras =
    subst (λ (k : ℕ). AllByRecursion (λ r. is_foreign k r ≡ true) p.is.demux.extras) u p.is.demux.are in
    moved n film w (p.is.demux.extras ++ s.hd) s'.hd (p.is.core.extras ++ s.hc) s'.hc s.order s'.order s.carried s'.carried p.is.demux.grows p.is.core.grows p.is.order p.is.carried
    (inner_front n film w (p.is.demux.extras ++ s.hd) p.is.core.extras s.hc s.order s.carried p.is.core.are
    (foreign_front n film w p.is.demux.extras s.hd s.hc s.order s.carried rs i))
