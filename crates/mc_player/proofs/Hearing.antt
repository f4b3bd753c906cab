-- What is still to come is pushed to clients that hear it.
use Rattle.std.proofs.Common.{◌≡◌, ℕ, ◌==◌, inl, inr, Bool, true, false, List, [], ◌∷◌, drop, Option, Some, None, refl, sym, subst, ◌∙◌}
use Rattle.std.specs.Prelude.{if◌then◌else◌, slice_get, ◌&&◌}
use Rattle.std.specs.List.{AllByRecursion}
use Rattle.std.specs.Option.{option_map}
use Rattle.std.proofs.lemmas.Bool.{cases_Bool}
use Rattle.mc_dispatch.specs.declared.request.ClientNo.{ClientNo}
use Rattle.mc_ring.specs.Event.{enters_ring}
use Rattle.mc_ring.specs.declared.event.Event.{Event}
use Rattle.mc_ring.specs.declared.event.Event.TheVariants as event
use Rattle.mc_player.specs.declared.record.Outcome.{Outcome}
use Rattle.mc_player.specs.declared.record.Outcome.TheVariants as outcome
use Rattle.mc_player.specs.declared.record.CoreRecord.{CoreRecord}
use Rattle.mc_player.specs.declared.record.CoreRecord.TheVariants.{Created, Destroyed, Called, Learned, Wrote, Took, Ordered, Did, Pushed, Replied}
use Rattle.mc_player.specs.declared.deed.Deed.{Deed}
use Rattle.mc_player.specs.declared.deed.Deed.TheVariants as deed
use Rattle.mc_player.specs.Effects.{Effect, Give, Push, Write, hears, plan_deed, plan_did, plan_restart, pushes, pushes_to, rest, restart}
use Rattle.mc_player.specs.Facts.{life_of, next_deed}
use Rattle.mc_player.specs.Journals.{clients}
use Rattle.mc_player.specs.Lives.{Life, Table, has_on, life_pushed, life_replied}
use Rattle.mc_player.proofs.Lists.{All-append, All-first, All-rest, All-to, at_some}

-- a push is of an event that rings hold, to a living client that has not switched it off
abbrev pub Heard : Table → List CoreRecord → Effect → Type 0
Heard t h (Push c e) = (enters_ring e ≡ true) × (hears e (life_of t c.0 h) ≡ true)
Heard t h (Write mask) = Unit {0}
Heard t h (Give o) = Unit {0}

pushed_on : (e x : Event) (kept : Bool) (l : Life) → has_on e (life_pushed kept x l) ≡ has_on e l
pushed_on e x true l = refl
pushed_on e x false l = refl

-- who hears does not change by what leaves the switches alone
pub same_hears : (e : Event) (b : Bool) (f : Life → Life) (o : Option Life) → ((l : Life) → has_on e (f l) ≡ has_on e l) → hears e (if b then option_map f o else o) ≡ hears e o
same_hears e true f None s = refl
same_hears e true f (Some l) s = s l
same_hears e false f o s = refl

pub hears_pushed : (t : Table) (e x : Event) (c by : ℕ) (d : ClientNo) (kept : Bool) (h : List CoreRecord) → hears e (life_of t c (Pushed by d x kept ∷ h)) ≡ hears e (life_of t c h)
hears_pushed t e x c by d kept h = same_hears e (d.0 == c) (life_pushed kept x) (life_of t c h) (pushed_on e x kept)

pub hears_replied : (t : Table) (e x : Event) (c by n : ℕ) (d : ClientNo) (h : List CoreRecord) → hears e (life_of t c (Replied by d n x ∷ h)) ≡ hears e (life_of t c h)
hears_replied t e x c by n d h = same_hears e (d.0 == c) (life_replied x) (life_of t c h) (λ l. refl)

-- nor by a record that is no client's
as_before : (t : Table) (h : List CoreRecord) (r : CoreRecord) → ((d : ℕ) → life_of t d (r ∷ h) ≡ life_of t d h) → (y : Effect) → Heard t h y → Heard t (r ∷ h) y
as_before t h r s (Push d e) k = (k.0, subst (λ (o : Option Life). hears e o ≡ true) (sym (s d.0)) k.1)
as_before t h r s (Write mask) k = tt
as_before t h r s (Give o) k = tt

after_push : (t : Table) (by : ℕ) (d : ClientNo) (x : Event) (kept : Bool) (h : List CoreRecord) (y : Effect) → Heard t h y → Heard t (Pushed by d x kept ∷ h) y
after_push t by d x kept h (Push c e) heard = (heard.0, hears_pushed t e x c.0 by d kept h ∙ heard.1)
after_push t by d x kept h (Write mask) heard = tt
after_push t by d x kept h (Give o) heard = tt

after_reply : (t : Table) (by n : ℕ) (d : ClientNo) (x : Event) (h : List CoreRecord) (y : Effect) → Heard t h y → Heard t (Replied by d n x ∷ h) y
after_reply t by n d x h (Push c e) heard = (heard.0, hears_replied t e x c.0 by n d h ∙ heard.1)
after_reply t by n d x h (Write mask) heard = tt
after_reply t by n d x h (Give o) heard = tt

pushes_heard : (t : Table) (e : Event) (h : List CoreRecord) (cs : List ClientNo) → enters_ring e ≡ true → AllByRecursion (Heard t h) (pushes_to t e h cs)
pushes_heard t e h [] kind = tt
pushes_heard t e h (c ∷ cs) kind =
    let more = pushes_heard t e h cs kind in
    elim (cases_Bool (hears e (life_of t c.0 h))) [
      | inl y ↦ let one : Heard t h (Push c e) = (kind, y) in rw y (one, more)
      | inr n ↦ rw n more
    ]

deed_heard : (t : Table) (h : List CoreRecord) (d : Deed) → AllByRecursion (Heard t h) (plan_deed t h d)
deed_heard t h (deed.Pauses on) = (tt, tt)
deed_heard t h (deed.Mutes on) = (tt, tt)
deed_heard t h (deed.Seeks time dir) = (tt, tt)
deed_heard t h (deed.Selects set at) = (tt, tt)
deed_heard t h (deed.Sends words) = pushes_heard t (event.Message words) h (clients h) refl
deed_heard t h (deed.SendsTo c words) = pushes_heard t (event.Message words) h (c ∷ []) refl
deed_heard t h deed.Quits =
    All-append (Heard t h) (pushes t (event.EndFile 3) h) (pushes t event.Shutdown h)
    (pushes_heard t (event.EndFile 3) h (clients h) refl) (pushes_heard t event.Shutdown h (clients h) refl)
deed_heard t h (deed.Fails n) = tt
deed_heard t h deed.Ignores = tt
deed_heard t h (deed.Gives v) = tt

did_heard : (t : Table) (h : List CoreRecord) (x : Outcome) → AllByRecursion (Heard t h) (plan_did t h x)
did_heard t h (outcome.Loaded path tracks set) =
    All-append (Heard t h) (pushes t event.StartFile h) (Write 12 ∷ pushes t event.FileLoaded h)
    (pushes_heard t event.StartFile h (clients h) refl) (tt, pushes_heard t event.FileLoaded h (clients h) refl)
did_heard t h outcome.Sought = pushes_heard t event.Seek h (clients h) refl
did_heard t h (outcome.Selected set) = (tt, tt)
did_heard t h (outcome.Refused why) = tt

restart_heard : (t : Table) (h : List CoreRecord) (b : Bool) → AllByRecursion (Heard t h) (plan_restart t h b)
restart_heard t h true = pushes_heard t event.PlaybackRestart h (clients h) refl
restart_heard t h false = tt

pub all_heard : (t : Table) (h : List CoreRecord) → AllByRecursion (Heard t h) (rest t h)
all_heard t [] = tt
all_heard t (Took by c n id ∷ h) = All-to (Heard t h) (Heard t (Took by c n id ∷ h)) (as_before t h (Took by c n id) (λ d. refl)) (plan_deed t h (next_deed t h)) (deed_heard t h (next_deed t h))
all_heard t (Did by x ∷ h) = All-to (Heard t h) (Heard t (Did by x ∷ h)) (as_before t h (Did by x) (λ d. refl)) (plan_did t h x) (did_heard t h x)
all_heard t (Learned by view ∷ h) =
    (tt, All-to (Heard t h) (Heard t (Learned by view ∷ h)) (as_before t h (Learned by view) (λ d. refl)) (plan_restart t h (restart h && view.playing)) (restart_heard t h (restart h && view.playing)))
all_heard t (Wrote by mask f ∷ h) =
    All-to (Heard t h) (Heard t (Wrote by mask f ∷ h)) (as_before t h (Wrote by mask f) (λ d. refl)) (drop 1 (rest t h)) (All-rest (Heard t h) (rest t h) (all_heard t h))
all_heard t (Ordered by o ∷ h) =
    All-to (Heard t h) (Heard t (Ordered by o ∷ h)) (as_before t h (Ordered by o) (λ d. refl)) (drop 1 (rest t h)) (All-rest (Heard t h) (rest t h) (all_heard t h))
all_heard t (Pushed by d x kept ∷ h) =
    All-to (Heard t h) (Heard t (Pushed by d x kept ∷ h)) (after_push t by d x kept h) (drop 1 (rest t h)) (All-rest (Heard t h) (rest t h) (all_heard t h))
all_heard t (Replied by d n x ∷ h) =
    All-to (Heard t h) (Heard t (Replied by d n x ∷ h)) (after_reply t by n d x h) (rest t h) (all_heard t h)
all_heard t (Created by c name size ∷ h) = tt
all_heard t (Destroyed by c ∷ h) = tt
all_heard t (Called by c ticket x a ∷ h) = tt

pub heard : (t : Table) (h : List CoreRecord) (c : ClientNo) (e : Event) → slice_get (rest t h) 0 ≡ Some (Push c e) → Heard t h (Push c e)
heard t h c e is = at_some (Heard t h) (slice_get (rest t h) 0) (Push c e) (All-first (Heard t h) (rest t h) (all_heard t h)) is
