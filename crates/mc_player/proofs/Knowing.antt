-- In each allowed journal each selection is of known tracks.
use Rattle.std.proofs.Common.{◌≡◌, ℕ, ℤ, Bool, true, false, List, [], ◌∷◌, Option, Some, None, refl, inl, inr}
use Rattle.std.specs.Prelude.{◌&&◌, slice_get, Result, Ok, Err, IsSomeAnd, codes}
use Rattle.std.specs.Str.{bytes_eq}
use Rattle.std.specs.List.{AllByRecursion, IsDistinct}
use Rattle.std.proofs.lemmas.Bool.{cases_Bool}
use Rattle.mc_packet.specs.declared.choice.Choice.{Choice}
use Rattle.mc_packet.specs.declared.choice.Dir.{Dir}
use Rattle.mc_command.specs.Commands.{parsed}
use Rattle.mc_command.specs.declared.command.Command.{Command}
use Rattle.mc_command.specs.declared.command.Command.TheVariants as commands
use Rattle.mc_value.specs.declared.value.Value.{Value}
use Rattle.mc_value.specs.declared.value.Value.TheVariants as value
use Rattle.mc_tracks.specs.TrackList.{HaveDistinctNumbers}
use Rattle.mc_dispatch.specs.declared.call.Call.{Call}
use Rattle.mc_dispatch.specs.declared.call.Call.TheVariants as call
use Rattle.mc_dispatch.specs.declared.request.ClientNo.{ClientNo}
use Rattle.mc_dispatch.specs.declared.request.Request.{Request}
use Rattle.mc_ring.specs.declared.event.Event.{Event}
use Rattle.mc_ring.specs.declared.event.Event.TheVariants as event
use Rattle.mc_props.proofs.Known.{selects_known}
use Rattle.mc_props.specs.Readings.{got}
use Rattle.mc_props.specs.Settings.{AreKnown, SelectsKnown, set_to}
use Rattle.mc_props.specs.declared.facts.Facts.{Facts}
use Rattle.mc_props.specs.declared.refusal.PropError.{PropError}
use Rattle.mc_props.specs.declared.settings.Write.{Write}
use Rattle.mc_props.specs.declared.settings.Write.TheVariants as write
use Rattle.mc_player.specs.declared.deed.Deed.{Deed}
use Rattle.mc_player.specs.declared.deed.Deed.TheVariants as deed
use Rattle.mc_player.specs.declared.record.Order.{Order}
use Rattle.mc_player.specs.declared.record.Order.TheVariants as order
use Rattle.mc_player.specs.declared.record.Outcome.{Outcome}
use Rattle.mc_player.specs.declared.record.Outcome.TheVariants as outcome
use Rattle.mc_player.specs.declared.record.CoreRecord.{CoreRecord}
use Rattle.mc_player.specs.declared.record.CoreRecord.TheVariants.{Created, Destroyed, Called, Learned, Wrote, Took, Ordered, Did, Pushed, Replied}
use Rattle.mc_player.specs.Deeds.{after_deed, command_deed, cycle_deed, deed_of, dir_of, get_deed, goal_of, seek_deed, send_deed, set_deed}
use Rattle.mc_player.specs.Effects.{Effect, Give, Push, Write as Writing, hears, plan_deed, plan_did, plan_restart, pushes, pushes_to, rest, restart}
use Rattle.mc_player.specs.Facts.{after_did, deed_at, facts_of, life_of, next_deed}
use Rattle.mc_player.specs.Journals.{clients, named, out, queued}
use Rattle.mc_player.specs.Knowing.{Gives, KnowsTracks, Selects}
use Rattle.mc_player.specs.Lives.{Table}
use Rattle.mc_player.specs.Rules.{IsAllowed, IsOutcome, MayOrder}
use Rattle.mc_player.proofs.Lists.{All-append, All-first, All-rest, All-to, at_some}

-- ---- a deed

-- a deed selects known tracks, if any
abbrev Known : Facts → Deed → Type 0
Known f (deed.Selects set at) = AreKnown f set
Known f d = Unit {0}

set_known : (t : Table) (f : Facts) (name : List ℕ) (v : Value) (r : Result Write PropError) → r ≡ set_to t.value t.entries name f v → HaveDistinctNumbers f.tracks → AreKnown f f.set → Known f (set_deed f r)
set_known t f name v (Ok (write.Pause on)) is d k = tt
set_known t f name v (Ok (write.Mute on)) is d k = tt
set_known t f name v (Ok (write.Select set)) is d k =
    let s : SelectsKnown f (write.Select set) = selects_known t.value t.entries name f v (Ok (write.Select set)) d is in s k
set_known t f name v (Err e) is d k = tt

get_known : (f : Facts) (r : Result Value PropError) → Known f (get_deed r)
get_known f (Ok v) = tt
get_known f (Err e) = tt

seek_known : (f : Facts) (dir : Dir) (o : Option ℤ) → Known f (seek_deed dir o)
seek_known f dir None = tt
seek_known f dir (Some t) = tt

send_known : (f : Facts) (words : List (List ℕ)) (o : Option ClientNo) → Known f (send_deed words o)
send_known f words None = tt
send_known f words (Some c) = tt

cycle_known : (f : Facts) (name : List ℕ) → Known f (cycle_deed f name)
cycle_known f name = elim (cases_Bool (bytes_eq name (codes "pause"))) [
  | inl y ↦ rw y tt
  | inr n ↦ rw n (elim (cases_Bool (bytes_eq name (codes "mute"))) [ inl y ↦ rw y tt | inr m ↦ rw m tt ])
]

command_known : (t : Table) (f : Facts) (who : List ℕ → Option ClientNo) (r : Result Command ℕ) → HaveDistinctNumbers f.tracks → AreKnown f f.set → Known f (command_deed t f who r)
command_known t f who (Ok (commands.Seek s absolute forward)) d k = seek_known f (dir_of forward) (goal_of f.cache.time s absolute)
command_known t f who (Ok (commands.Set name v)) d k = set_known t f name (value.Str v) (set_to t.value t.entries name f (value.Str v)) refl d k
command_known t f who (Ok (commands.Cycle name)) d k = cycle_known f name
command_known t f who (Ok (commands.Message words)) d k = tt
command_known t f who (Ok (commands.MessageTo client words)) d k = send_known f words (who client)
command_known t f who (Ok commands.Ignore) d k = tt
command_known t f who (Ok commands.Quit) d k = tt
command_known t f who (Err n) d k = tt

call_known : (t : Table) (f : Facts) (who : List ℕ → Option ClientNo) (x : Call) → HaveDistinctNumbers f.tracks → AreKnown f f.set → Known f (deed_of t f who x)
call_known t f who (call.Get id name to) d k = get_known f (got t.value t.entries name f to)
call_known t f who (call.Set id name v) d k = set_known t f name v (set_to t.value t.entries name f v) refl d k
call_known t f who (call.Command id words) d k = command_known t f who (parsed words) d k
call_known t f who call.Poll d k = tt
call_known t f who (call.Observe id name to) d k = tt
call_known t f who (call.Unobserve id) d k = tt
call_known t f who (call.Event n on) d k = tt
call_known t f who (call.Abort id) d k = tt

deed_known : (t : Table) (h : List CoreRecord) (f : Facts) (o : Option Request) → HaveDistinctNumbers f.tracks → AreKnown f f.set → Known f (deed_at t h f o)
deed_known t h f None d k = tt
deed_known t h f (Some q) d k = call_known t f (named h) q.call d k

-- what the facts say of tracks stays
record IsSame (f g : Facts) : Type 0 where
  pub tracks : g.tracks ≡ f.tracks
  pub set_is : g.set ≡ f.set

deed_same : (d : Deed) (f : Facts) → IsSame f (after_deed d f)
deed_same (deed.Pauses on) f = record { tracks = refl; set_is = refl }
deed_same (deed.Mutes on) f = record { tracks = refl; set_is = refl }
deed_same (deed.Fails n) f = record { tracks = refl; set_is = refl }
deed_same deed.Ignores f = record { tracks = refl; set_is = refl }
deed_same (deed.Gives v) f = record { tracks = refl; set_is = refl }
deed_same (deed.Seeks time dir) f = record { tracks = refl; set_is = refl }
deed_same (deed.Selects set at) f = record { tracks = refl; set_is = refl }
deed_same (deed.Sends words) f = record { tracks = refl; set_is = refl }
deed_same (deed.SendsTo c words) f = record { tracks = refl; set_is = refl }
deed_same deed.Quits f = record { tracks = refl; set_is = refl }

known_same : (f g : Facts) (set : Choice) → IsSame f g → AreKnown f set → AreKnown g set
known_same f g set s k = rw s.tracks k

selects_same : (f g : Facts) (o : Option Order) → IsSame f g → Selects f o → Selects g o
selects_same f g None s k = tt
selects_same f g (Some order.Idle) s k = tt
selects_same f g (Some order.Load) s k = tt
selects_same f g (Some (order.Seek time dir)) s k = tt
selects_same f g (Some (order.Select set at)) s k = known_same f g set s k
selects_same f g (Some order.Finished) s k = tt

gives_same : (f g : Facts) → IsSame f g → (y : Effect) → Gives f y → Gives g y
gives_same f g s (Give o) k = selects_same f g (Some o) s k
gives_same f g s (Push c e) k = tt
gives_same f g s (Writing mask) k = tt

-- ---- what is to come

pushes_gives : (f : Facts) (t : Table) (e : Event) (h : List CoreRecord) (cs : List ClientNo) → AllByRecursion (Gives f) (pushes_to t e h cs)
pushes_gives f t e h [] = tt
pushes_gives f t e h (c ∷ cs) =
    let more = pushes_gives f t e h cs in
    elim (cases_Bool (hears e (life_of t c.0 h))) [ inl y ↦ rw y (tt, more) | inr n ↦ rw n more ]

plan_gives : (f : Facts) (t : Table) (h : List CoreRecord) (d : Deed) → Known f d → AllByRecursion (Gives f) (plan_deed t h d)
plan_gives f t h (deed.Selects set at) k = (k, tt)
plan_gives f t h (deed.Pauses on) k = (tt, tt)
plan_gives f t h (deed.Mutes on) k = (tt, tt)
plan_gives f t h (deed.Seeks time dir) k = (tt, tt)
plan_gives f t h (deed.Fails n) k = tt
plan_gives f t h deed.Ignores k = tt
plan_gives f t h (deed.Gives v) k = tt
plan_gives f t h (deed.Sends words) k = pushes_gives f t (event.Message words) h (clients h)
plan_gives f t h (deed.SendsTo c words) k = pushes_gives f t (event.Message words) h (c ∷ [])
plan_gives f t h deed.Quits k =
    All-append (Gives f) (pushes t (event.EndFile 3) h) (pushes t event.Shutdown h) (pushes_gives f t (event.EndFile 3) h (clients h)) (pushes_gives f t event.Shutdown h (clients h))

did_gives : (f : Facts) (t : Table) (h : List CoreRecord) (x : Outcome) → AllByRecursion (Gives f) (plan_did t h x)
did_gives f t h (outcome.Loaded path tracks set) =
    All-append (Gives f) (pushes t event.StartFile h) (Writing 12 ∷ pushes t event.FileLoaded h) (pushes_gives f t event.StartFile h (clients h)) (tt, pushes_gives f t event.FileLoaded h (clients h))
did_gives f t h outcome.Sought = pushes_gives f t event.Seek h (clients h)
did_gives f t h (outcome.Selected set) = (tt, tt)
did_gives f t h (outcome.Refused why) = tt

restart_gives : (f : Facts) (t : Table) (h : List CoreRecord) (b : Bool) → AllByRecursion (Gives f) (plan_restart t h b)
restart_gives f t h true = pushes_gives f t event.PlaybackRestart h (clients h)
restart_gives f t h false = tt

order_known : (t : Table) (h : List CoreRecord) (o : Order) → MayOrder t h o → KnowsTracks t h → Selects (facts_of t h) (Some o)
order_known t h order.Load may k = tt
order_known t h (order.Seek time dir) may k = tt
order_known t h (order.Select set at) may k =
    at_some (Gives (facts_of t h)) (slice_get (rest t h) 0) (Give (order.Select set at)) (All-first (Gives (facts_of t h)) (rest t h) k.coming) may
order_known t h order.Idle may k = absurd may
order_known t h order.Finished may k = absurd may

-- ---- an outcome

outcome_known : (o : Option Order) (x : Outcome) (f : Facts) → IsSomeAnd o (λ p. IsOutcome p x) → HaveDistinctNumbers f.tracks → AreKnown f f.set → Selects f o
    → HaveDistinctNumbers (after_did x f).tracks × AreKnown (after_did x f) (after_did x f).set
outcome_known None x f i d k s = absurd i
outcome_known (Some order.Load) (outcome.Loaded path tracks set) f i d k s = i
outcome_known (Some order.Load) outcome.Sought f i d k s = absurd i
outcome_known (Some order.Load) (outcome.Selected set) f i d k s = absurd i
outcome_known (Some order.Load) (outcome.Refused why) f i d k s = absurd i
outcome_known (Some (order.Seek time dir)) outcome.Sought f i d k s = (d, k)
outcome_known (Some (order.Seek time dir)) (outcome.Refused why) f i d k s = (d, k)
outcome_known (Some (order.Seek time dir)) (outcome.Loaded path tracks set) f i d k s = absurd i
outcome_known (Some (order.Seek time dir)) (outcome.Selected set) f i d k s = absurd i
outcome_known (Some (order.Select set at)) (outcome.Selected c) f i d k s = (d, rw i s)
outcome_known (Some (order.Select set at)) outcome.Sought f i d k s = absurd i
outcome_known (Some (order.Select set at)) (outcome.Refused why) f i d k s = absurd i
outcome_known (Some (order.Select set at)) (outcome.Loaded path tracks c) f i d k s = absurd i
outcome_known (Some order.Idle) x f i d k s = absurd i
outcome_known (Some order.Finished) x f i d k s = absurd i

-- ---- every journal

none_distinct : HaveDistinctNumbers []
unfolding IsDistinct
none_distinct = tt

pub knows_tracks : (t : Table) (h : List CoreRecord) → IsAllowed t h → KnowsTracks t h
knows_tracks t [] all = record { distinct = none_distinct; selected = refl; ordered = tt; coming = tt }
knows_tracks t (Took by c n id ∷ h) all =
    let k = knows_tracks t h all.1 in
    let d : Deed = next_deed t h in
    let f : Facts = facts_of t h in
    let s : IsSame f (after_deed d f) = deed_same d f in
    let known : Known f d = deed_known t h f (slice_get (queued h) 0) k.distinct k.selected in
    record {
      distinct = rw s.tracks k.distinct;
      selected = known_same f (after_deed d f) (after_deed d f).set s (rw s.set_is k.selected);
      ordered = selects_same f (after_deed d f) (out h) s k.ordered;
      coming = All-to (Gives f) (Gives (after_deed d f)) (gives_same f (after_deed d f) s) (plan_deed t h d) (plan_gives f t h d known);
    }
knows_tracks t (Did by x ∷ h) all =
    let k = knows_tracks t h all.1 in
    let p = outcome_known (out h) x (facts_of t h) all.0.0 k.distinct k.selected k.ordered in
    record { distinct = p.0; selected = p.1; ordered = tt; coming = did_gives (after_did x (facts_of t h)) t h x }
knows_tracks t (Learned by view ∷ h) all =
    let k = knows_tracks t h all.1 in
    record {
      distinct = k.distinct;
      selected = k.selected;
      ordered = selects_same (facts_of t h) (facts_of t (Learned by view ∷ h)) (out h) (record { tracks = refl; set_is = refl }) k.ordered;
      coming = (tt, restart_gives (facts_of t (Learned by view ∷ h)) t h (restart h && view.playing));
    }
knows_tracks t (Ordered by o ∷ h) all =
    let k = knows_tracks t h all.1 in
    record { distinct = k.distinct; selected = k.selected; ordered = order_known t h o all.0.0.1 k; coming = All-rest (Gives (facts_of t h)) (rest t h) k.coming }
knows_tracks t (Wrote by mask f ∷ h) all =
    let k = knows_tracks t h all.1 in
    record { distinct = k.distinct; selected = k.selected; ordered = k.ordered; coming = All-rest (Gives (facts_of t h)) (rest t h) k.coming }
knows_tracks t (Pushed by c e kept ∷ h) all =
    let k = knows_tracks t h all.1 in
    record { distinct = k.distinct; selected = k.selected; ordered = k.ordered; coming = All-rest (Gives (facts_of t h)) (rest t h) k.coming }
knows_tracks t (Replied by c n e ∷ h) all =
    let k = knows_tracks t h all.1 in
    record { distinct = k.distinct; selected = k.selected; ordered = k.ordered; coming = k.coming }
knows_tracks t (Created by c name size ∷ h) all =
    let k = knows_tracks t h all.1 in
    record { distinct = k.distinct; selected = k.selected; ordered = k.ordered; coming = tt }
knows_tracks t (Destroyed by c ∷ h) all =
    let k = knows_tracks t h all.1 in
    record { distinct = k.distinct; selected = k.selected; ordered = k.ordered; coming = tt }
knows_tracks t (Called by c ticket x a ∷ h) all =
    let k = knows_tracks t h all.1 in
    record { distinct = k.distinct; selected = k.selected; ordered = k.ordered; coming = tt }
