-- A writing's mask has each field that changed since the last one.
use Rattle.std.proofs.Common.{◌≡◌, ℕ, Bool, true, false, List, [], ◌∷◌, ◌++◌, drop, Some, refl, subst, sym, inl, inr}
use Rattle.std.specs.Prelude.{slice_get, ◌&&◌}
use Rattle.std.proofs.lemmas.Bool.{cases_Bool}
use Rattle.mc_dispatch.specs.declared.request.ClientNo.{ClientNo}
use Rattle.mc_ring.specs.declared.event.Event.{Event}
use Rattle.mc_ring.specs.declared.event.Event.TheVariants as event
use Rattle.mc_props.specs.Fields.{AgreeOutside}
use Rattle.mc_props.specs.declared.facts.Facts.{Facts}
use Rattle.mc_player.specs.declared.record.Order.{Order}
use Rattle.mc_player.specs.declared.record.Order.TheVariants as order
use Rattle.mc_player.specs.declared.record.Outcome.{Outcome}
use Rattle.mc_player.specs.declared.record.Outcome.TheVariants as outcome
use Rattle.mc_player.specs.declared.record.CoreRecord.{CoreRecord}
use Rattle.mc_player.specs.declared.record.CoreRecord.TheVariants.{Created, Destroyed, Called, Learned, Wrote, Took, Ordered, Did, Pushed, Replied}
use Rattle.mc_player.specs.declared.deed.Deed.{Deed}
use Rattle.mc_player.specs.declared.deed.Deed.TheVariants as deed
use Rattle.mc_player.specs.Deeds.{after_deed}
use Rattle.mc_player.specs.Effects.{Effect, Give, Push, Write, hears, plan_deed, plan_did, plan_restart, pushes, pushes_to, rest, restart}
use Rattle.mc_player.specs.Facts.{after_did, facts_of, life_of, next_deed}
use Rattle.mc_player.specs.Journals.{clients}
use Rattle.mc_player.specs.Laws.{Each, WriteStands}
use Rattle.mc_player.specs.Lives.{Table}
use Rattle.mc_player.specs.Plans.{last_wrote}
use Rattle.mc_player.specs.Rules.{IsAllowed, MayOrder}

abbrev HasNoWrite : List Effect → Type 0
HasNoWrite [] = Unit {0}
HasNoWrite (Write mask ∷ es) = ⊥
HasNoWrite (Push c e ∷ es) = HasNoWrite es
HasNoWrite (Give o ∷ es) = HasNoWrite es

-- what is still to come writes all that differs, once
abbrev Matches : List Effect → Facts → Facts → Type 0
Matches [] f g = f ≡ g
Matches (Write mask ∷ es) f g = AgreeOutside mask f g × HasNoWrite es
Matches (Push c e ∷ es) f g = Matches es f g
Matches (Give o ∷ es) f g = Matches es f g

same : (es : List Effect) (f g : Facts) → HasNoWrite es → f ≡ g → Matches es f g
same [] f g none e = e
same (Write mask ∷ es) f g none e = absurd none
same (Push c x ∷ es) f g none e = same es f g none e
same (Give o ∷ es) f g none e = same es f g none e

none_append : (es fs : List Effect) → HasNoWrite es → HasNoWrite fs → HasNoWrite (es ++ fs)
none_append [] fs h g = g
none_append (Write mask ∷ es) fs h g = absurd h
none_append (Push c x ∷ es) fs h g = none_append es fs h g
none_append (Give o ∷ es) fs h g = none_append es fs h g

matches_append : (es fs : List Effect) (f g : Facts) → HasNoWrite es → Matches fs f g → Matches (es ++ fs) f g
matches_append [] fs f g h w = w
matches_append (Write mask ∷ es) fs f g h w = absurd h
matches_append (Push c x ∷ es) fs f g h w = matches_append es fs f g h w
matches_append (Give o ∷ es) fs f g h w = matches_append es fs f g h w

pushed_none : (t : Table) (e : Event) (h : List CoreRecord) (cs : List ClientNo) → HasNoWrite (pushes_to t e h cs)
pushed_none t e h [] = tt
pushed_none t e h (c ∷ cs) =
    let more = pushed_none t e h cs in
    elim (cases_Bool (hears e (life_of t c.0 h))) [ inl y ↦ rw y more | inr n ↦ rw n more ]

pushes_none : (t : Table) (e : Event) (h : List CoreRecord) → HasNoWrite (pushes t e h)
pushes_none t e h = pushed_none t e h (clients h)

restart_none : (t : Table) (h : List CoreRecord) (b : Bool) → HasNoWrite (plan_restart t h b)
restart_none t h true = pushes_none t event.PlaybackRestart h
restart_none t h false = tt

-- ---- what each plan writes

deed_matches : (t : Table) (h : List CoreRecord) (d : Deed) (f : Facts) → Matches (plan_deed t h d) (after_deed d f) f
deed_matches t h (deed.Pauses on) f = (record { pause = λ e. absurd (cc); mute = λ e. refl; path = λ e. refl; tracks = λ e. refl; loaded = λ e. refl; set = λ e. refl; cache = λ e. refl }, tt)
deed_matches t h (deed.Mutes on) f = (record { pause = λ e. refl; mute = λ e. absurd (cc); path = λ e. refl; tracks = λ e. refl; loaded = λ e. refl; set = λ e. refl; cache = λ e. refl }, tt)
deed_matches t h (deed.Seeks time dir) f = refl
deed_matches t h (deed.Selects set at) f = refl
deed_matches t h (deed.Sends words) f = same (pushes t (event.Message words) h) f f (pushes_none t (event.Message words) h) refl
deed_matches t h (deed.SendsTo c words) f = same (pushes_to t (event.Message words) h (c ∷ [])) f f (pushed_none t (event.Message words) h (c ∷ [])) refl
deed_matches t h deed.Quits f =
    same (pushes t (event.EndFile 3) h ++ pushes t event.Shutdown h) f f
    (none_append (pushes t (event.EndFile 3) h) (pushes t event.Shutdown h) (pushes_none t (event.EndFile 3) h) (pushes_none t event.Shutdown h)) refl
deed_matches t h (deed.Fails n) f = refl
deed_matches t h deed.Ignores f = refl
deed_matches t h (deed.Gives v) f = refl

did_matches : (t : Table) (h : List CoreRecord) (x : Outcome) (f : Facts) → Matches (plan_did t h x) (after_did x f) f
did_matches t h (outcome.Loaded path tracks set) f =
    matches_append (pushes t event.StartFile h) _ _ _ (pushes_none t event.StartFile h)
    (record { pause = λ e. refl; mute = λ e. refl; path = λ e. absurd (cc); tracks = λ e. absurd (cc); loaded = λ e. absurd (cc); set = λ e. absurd (cc); cache = λ e. refl }, pushes_none t event.FileLoaded h)
did_matches t h outcome.Sought f = same (pushes t event.Seek h) f f (pushes_none t event.Seek h) refl
did_matches t h (outcome.Selected set) f =
    (record { pause = λ e. refl; mute = λ e. refl; path = λ e. refl; tracks = λ e. refl; loaded = λ e. refl; set = λ e. absurd (cc); cache = λ e. refl }, tt)
did_matches t h (outcome.Refused why) f = refl

-- ---- step by step

next_matches : (es : List Effect) (f g : Facts) (c : ClientNo) (e : Event) → Matches es f g → slice_get es 0 ≡ Some (Push c e) → Matches (drop 1 es) f g
next_matches [] f g c e w is = absurd (cc)
next_matches (Write mask ∷ es) f g c e w is = absurd (cc)
next_matches (Push d x ∷ es) f g c e w is = w
next_matches (Give o ∷ es) f g c e w is = w

given_matches : (es : List Effect) (f g : Facts) (o : Order) → Matches es f g → slice_get es 0 ≡ Some (Give o) → Matches (drop 1 es) f g
given_matches [] f g o w is = absurd (cc)
given_matches (Write mask ∷ es) f g o w is = absurd (cc)
given_matches (Push d x ∷ es) f g o w is = w
given_matches (Give p ∷ es) f g o w is = w

wrote_matches : (es : List Effect) (f g : Facts) (mask : ℕ) → Matches es f g → slice_get es 0 ≡ Some (Write mask) → AgreeOutside mask f g × HasNoWrite (drop 1 es)
wrote_matches [] f g mask w is = absurd (cc)
wrote_matches (Write other ∷ es) f g mask w is = let e : other ≡ mask = cc in (subst (λ (k : ℕ). AgreeOutside k f g) e w.0, w.1)
wrote_matches (Push d x ∷ es) f g mask w is = absurd (cc)
wrote_matches (Give o ∷ es) f g mask w is = absurd (cc)

abbrev Now : Table → List CoreRecord → Type 0
Now t h = Matches (rest t h) (facts_of t h) (last_wrote h)

at_rest : (t : Table) (h : List CoreRecord) → Now t h → rest t h ≡ [] → facts_of t h ≡ last_wrote h
at_rest t h w none = subst (λ (es : List Effect). Matches es (facts_of t h) (last_wrote h)) none w

order_step : (t : Table) (by : ℕ) (h : List CoreRecord) (o : Order) → Now t h → MayOrder t h o → Now t (Ordered by o ∷ h)
order_step t by h order.Load w may =
    subst (λ (es : List Effect). Matches (drop 1 es) (facts_of t h) (last_wrote h)) (sym (may.1).rest) (at_rest t h w (may.1).rest)
order_step t by h (order.Seek time dir) w may = given_matches (rest t h) (facts_of t h) (last_wrote h) (order.Seek time dir) w may
order_step t by h (order.Select set at) w may = given_matches (rest t h) (facts_of t h) (last_wrote h) (order.Select set at) w may
order_step t by h order.Idle w may = absurd may
order_step t by h order.Finished w may = absurd may

now : (t : Table) (h : List CoreRecord) → IsAllowed t h → Now t h
now t [] all = refl
now t (Took by c n id ∷ h) all =
    subst (λ (g : Facts). Matches (plan_deed t h (next_deed t h)) (after_deed (next_deed t h) (facts_of t h)) g) (at_rest t h (now t h all.1) (all.0.1).rest)
    (deed_matches t h (next_deed t h) (facts_of t h))
now t (Did by x ∷ h) all =
    subst (λ (g : Facts). Matches (plan_did t h x) (after_did x (facts_of t h)) g) (at_rest t h (now t h all.1) (all.0.1).rest) (did_matches t h x (facts_of t h))
now t (Learned by view ∷ h) all =
    subst (λ (g : Facts). Matches (rest t (Learned by view ∷ h)) (facts_of t (Learned by view ∷ h)) g) (at_rest t h (now t h all.1) (all.0.1).rest) (
      record { pause = λ e. refl; mute = λ e. refl; path = λ e. refl; tracks = λ e. refl; loaded = λ e. refl; set = λ e. refl; cache = λ e. absurd (cc) },
      restart_none t h (restart h && view.playing),
    )
now t (Ordered by o ∷ h) all = order_step t by h o (now t h all.1) all.0.0.1
now t (Wrote by mask f ∷ h) all =
    same (drop 1 (rest t h)) (facts_of t h) f (wrote_matches (rest t h) (facts_of t h) (last_wrote h) mask (now t h all.1) all.0.0.0).1 (sym all.0.0.1)
now t (Pushed by c e kept ∷ h) all = next_matches (rest t h) (facts_of t h) (last_wrote h) c e (now t h all.1) all.0.0.next
now t (Replied by c n e ∷ h) all = now t h all.1
now t (Created by c name size ∷ h) all = at_rest t h (now t h all.1) (all.0.1).rest
now t (Destroyed by c ∷ h) all = at_rest t h (now t h all.1) (all.0.1).rest
now t (Called by c ticket x a ∷ h) all = at_rest t h (now t h all.1) (all.0.1).rest

pub masked : (t : Table) (h : List CoreRecord) → IsAllowed t h → Each (WriteStands t) h
masked t [] all = tt
masked t (Wrote by mask f ∷ h) all =
    let w = wrote_matches (rest t h) (facts_of t h) (last_wrote h) mask (now t h all.1) all.0.0.0 in
    ((all.0.0.1, subst (λ (g : Facts). AgreeOutside mask g (last_wrote h)) (sym all.0.0.1) w.0), masked t h all.1)
masked t (Created by c name size ∷ h) all = (tt, masked t h all.1)
masked t (Destroyed by c ∷ h) all = (tt, masked t h all.1)
masked t (Called by c ticket x a ∷ h) all = (tt, masked t h all.1)
masked t (Learned by view ∷ h) all = (tt, masked t h all.1)
masked t (Took by c n id ∷ h) all = (tt, masked t h all.1)
masked t (Ordered by o ∷ h) all = (tt, masked t h all.1)
masked t (Did by x ∷ h) all = (tt, masked t h all.1)
masked t (Pushed by c e kept ∷ h) all = (tt, masked t h all.1)
masked t (Replied by c n e ∷ h) all = (tt, masked t h all.1)
