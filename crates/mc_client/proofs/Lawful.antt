-- Every list of allowed calls of a new client keeps the law of its ring.
use Rattle.std.proofs.Common.{◌≡◌, ℕ, ◌<◌, Bool, true, false, List, [], ◌∷◌, ◌++◌, Some, refl, ap, subst, sym, ◌∙◌, inl, inr}
use Rattle.std.specs.Prelude.{All, IsTrue, slice_get}
use Rattle.std.proofs.lemmas.Bool.{cases_Bool}
use Rattle.std.proofs.lemmas.List.Elements.{All-drop, All-head, All-nil, All-push}
use Rattle.mc_ring.specs.Event.{enters_ring}
use Rattle.mc_ring.specs.Ring.{RingState, after_pop, after_push, after_reply, after_reserve, after_unreserve, full_of, is_full, new_ring, oldest, push_answer, reserve_answer, with_choked}
use Rattle.mc_ring.specs.Law.{IsLawful, KeepsLaw as RingKeepsLaw, after as ring_after, Runs as RingRuns, Told as RingTold, left_by as ring_left_by}
use Rattle.mc_ring.specs.declared.event.Event.{Event}
use Rattle.mc_ring.specs.declared.event.Event.TheVariants as event
use Rattle.mc_ring.specs.declared.calls.RingCall.TheVariants as ring
use Rattle.mc_ring.specs.declared.calls.RingAnswer.TheVariants as told
use Rattle.mc_client.specs.Client.{ClientState, after_observe, after_switch, as_pushed, is_off, is_reply}
use Rattle.mc_client.specs.Law.{Changes, FitsRing, IsStep, KeepsLaw, PollStep, Runs, Told, left_by, requested, ring_answered, ring_call, ring_calls, ring_polled, ring_pushed, ring_requested}
use Rattle.mc_client.specs.Polls.{PolledBy, WatchesPolled}
use Rattle.mc_client.specs.Watches.{Shown, new_watch}
use Rattle.mc_client.specs.declared.watch.Watch.{Watch}
use Rattle.mc_props.specs.declared.entries.PropEntry.{PropEntry}
use Rattle.mc_client.specs.declared.refusal.Pushed.TheVariants as pushed
use Rattle.mc_client.specs.declared.calls.ClientCall.{ClientCall}
use Rattle.mc_client.specs.declared.calls.ClientCall.TheVariants as call
use Rattle.mc_client.specs.declared.calls.ClientAnswer.{ClientAnswer}
use Rattle.mc_client.specs.declared.calls.ClientAnswer.TheVariants as answer

-- ---- lists of calls of a ring, one behind the other

joined : (s : RingState) (a b : List RingTold) → RingRuns s a → RingRuns (ring_left_by s a) b → RingRuns s (a ++ b)
joined s [] b p q = q
joined s (t ∷ ts) b p q = (p.0, p.1, joined (ring_after s t.0) ts b p.2 q)

left_joined : (s : RingState) (a b : List RingTold) → ring_left_by s (a ++ b) ≡ ring_left_by (ring_left_by s a) b
left_joined s [] b = refl
left_joined s (t ∷ ts) b = left_joined (ring_after s t.0) ts b

-- ---- what a call is to the ring

abbrev Holds : RingState → Type 0
Holds r = All (λ e. IsTrue (enters_ring e)) r.events

-- the calls of a ring lead to another one, which holds events that rings hold
record Leads (r : RingState) (calls : List RingTold) (r' : RingState) : Type 0 where
  runs : RingRuns r calls
  left : ring_left_by r calls ≡ r'
  holds : Holds r'

stays : (r r' : RingState) → Holds r → r' ≡ r → Leads r [] r'
stays r r' h e = record { runs = tt; left = sym e; holds = subst Holds (sym e) h }

pushes : (r : RingState) (e : Event) → Holds r → IsTrue (enters_ring e) → All (λ x. IsTrue (enters_ring x)) (r.events ++ e ∷ [])
pushes r e h k = All-push (λ x. IsTrue (enters_ring x)) r.events e h k

requests : (r : RingState) (a : ClientAnswer) (r' : RingState) → Holds r → a ≡ requested (reserve_answer r) → r' ≡ after_reserve r → Leads r (ring_requested a) r'
requests r a r' h is after = elim (cases_Bool (is_full r)) [
  | inl y ↦
      let f : a ≡ answer.Full (full_of r) = rw y at is in
      let g : r' ≡ r = rw y at after in
      rw f (record { runs = (tt, rw y refl, tt); left = rw y (sym g); holds = subst Holds (sym g) h })
  | inr n ↦
      let f : a ≡ answer.Done = rw n at is in
      rw f (record { runs = (tt, rw n refl, tt); left = sym after; holds = subst Holds (sym after) (rw n h) })
]

reply_enters : (e : Event) → is_reply e ≡ true → enters_ring e ≡ true
reply_enters event.None k = absurd cc
reply_enters event.Overflow k = absurd cc
reply_enters (event.Change id name format value) k = absurd cc
reply_enters e k = refl

reaches : (r : RingState) (e : Event) (a : ClientAnswer) (r' : RingState) → Holds r → IsTrue (enters_ring e) → a ≡ answer.Pushed (as_pushed (push_answer r e))
    → r' ≡ after_push r e → Leads r (ring_pushed e a) r'
reaches r e a r' h k is after = elim (cases_Bool (is_full r)) [
  | inl y ↦
      let f : a ≡ answer.Pushed (pushed.Dropped e) = rw y at is in
      rw f (record { runs = (k, rw y refl, tt); left = sym after; holds = subst Holds (sym after) (rw y h) })
  | inr n ↦
      let f : a ≡ answer.Pushed pushed.Kept = rw n at is in
      rw f (record { runs = (k, rw n refl, tt); left = sym after; holds = subst Holds (sym after) (rw n (pushes r e h k)) })
]

replies : (r : RingState) (e : Event) (r' : RingState) → Holds r → 0 < r.reserved → is_reply e ≡ true → r' ≡ after_reply r e
    → Leads r ((ring.PushReply e, told.PushedReply) ∷ []) r'
replies r e r' h free k after =
    let enters = reply_enters e k in
    record { runs = ((free, enters), refl, tt); left = sym after; holds = subst Holds (sym after) (pushes r e h enters) }

popped_is : (e : Event) → enters_ring e ≡ true → ring_polled e ≡ (ring.Pop, told.Popped (Some e)) ∷ []
popped_is event.None k = absurd cc
popped_is event.Overflow k = absurd cc
popped_is (event.Change id name format value) k = absurd cc
popped_is e k = refl

pops : (r : RingState) (x : Event) (xs : List Event) (r' : RingState) → Holds r → r.events ≡ x ∷ xs → r' ≡ after_pop r → Leads r (ring_polled x) r'
pops r x xs r' h is after =
    let all : All (λ e. IsTrue (enters_ring e)) (x ∷ xs) = subst (All (λ e. IsTrue (enters_ring e))) is h in
    let first : told.Popped (Some x) ≡ told.Popped (oldest r) = ap (λ (es : List Event). told.Popped (slice_get es 0)) (sym is) in
    let calls = popped_is x (All-head (λ e. IsTrue (enters_ring e)) x xs all) in
    rw calls (record { runs = (tt, first, tt); left = sym after; holds = subst Holds (sym after) (All-drop (λ e. IsTrue (enters_ring e)) 1 r.events h) })

nothing_popped : (now : Watch → Shown) (ws : List Watch) (e : Event) (ws' : List Watch) → WatchesPolled now ws e ws' → ring_polled e ≡ []
nothing_popped now ws e ws' (inl t) = rw (t.event) refl
nothing_popped now ws e ws' (inr q) = rw (q.event) refl

polled_by : (now : Watch → Shown) (s : ClientState) (es : List Event) (choked : Bool) (e : Event) (s' : ClientState) → Holds s.ring
    → s.ring.events ≡ es → s.ring.choked ≡ choked → PolledBy now s es choked e s' → Leads s.ring (ring_polled e) s'.ring
polled_by now s (x ∷ xs) choked e s' h is so p =
    let after : s'.ring ≡ after_pop s.ring = ap (λ (c : ClientState). c.ring) p.1 in
    let same : e ≡ x = p.0 in
    rw same (pops s.ring x xs s'.ring h is after)
polled_by now s [] true e s' h is so p =
    let after : s'.ring ≡ with_choked s.ring false = ap (λ (c : ClientState). c.ring) p.1 in
    let same : e ≡ event.Overflow = p.0 in
    rw same (record { runs = (tt, ap (λ b. told.TookOverflow b) (sym so), tt); left = sym after; holds = subst Holds (sym after) h })
polled_by now s [] false e s' h is so p =
    let none = nothing_popped now s.watches e p.0 p.1 in
    rw none (stays s.ring s'.ring h (ap (λ (c : ClientState). c.ring) p.2))

polled : (now : Watch → Shown) (s : ClientState) (a : ClientAnswer) (s' : ClientState) → Holds s.ring → PollStep now s a s' → Leads s.ring (ring_answered a) s'.ring
polled now s (answer.Event e) s' h p = polled_by now s s.ring.events s.ring.choked e s' h refl refl p
polled now s answer.NoMemory s' h p = stays s.ring s'.ring h (ap (λ (c : ClientState). c.ring) p)
polled now s answer.Done s' h p = absurd p
polled now s (answer.Full f) s' h p = absurd p
polled now s (answer.Refused f) s' h p = absurd p
polled now s (answer.Pushed f) s' h p = absurd p
polled now s (answer.Removed f) s' h p = absurd p

changed : (s made : ClientState) (a : ClientAnswer) (s' : ClientState) → Holds s.ring → made.ring ≡ s.ring → Changes s made a s' → Leads s.ring [] s'.ring
changed s made answer.Done s' h same p = stays s.ring s'.ring h (ap (λ (c : ClientState). c.ring) p ∙ same)
changed s made (answer.Refused e) s' h same p = stays s.ring s'.ring h (ap (λ (c : ClientState). c.ring) p)
changed s made answer.NoMemory s' h same p = absurd p
changed s made (answer.Full f) s' h same p = absurd p
changed s made (answer.Event f) s' h same p = absurd p
changed s made (answer.Pushed f) s' h same p = absurd p
changed s made (answer.Removed f) s' h same p = absurd p

same_ring : (s : ClientState) (n : ℕ) (on : Bool) → (after_switch s n on).ring ≡ s.ring
same_ring s n true = refl
same_ring s n false = refl

step : (entries : List PropEntry) (now : Watch → Shown) (s : ClientState) (c : ClientCall) (a : ClientAnswer) (s' : ClientState)
    → Holds s.ring → FitsRing s c → IsStep entries now s c a s' → Leads s.ring (ring_call c a) s'.ring
step entries now s call.Request a s' h k p = requests s.ring a s'.ring h p.0 (ap (λ (c : ClientState). c.ring) p.1)
step entries now s call.Unreserve a s' h k p =
    let after : s'.ring ≡ after_unreserve s.ring = ap (λ (c : ClientState). c.ring) p.1 in
    record { runs = (k, refl, tt); left = sym after; holds = subst Holds (sym after) h }
step entries now s (call.Push e) a s' h k p = elim (cases_Bool (is_off s e)) [
  | inl y ↦
      let f : a ≡ answer.Pushed (pushed.Off e) = rw y at p.0 in
      let g : s' ≡ s = rw y at p.1 in
      rw f (stays s.ring s'.ring h (ap (λ (c : ClientState). c.ring) g))
  | inr n ↦
      let f : a ≡ answer.Pushed (as_pushed (push_answer s.ring e)) = rw n at p.0 in
      let g : s'.ring ≡ after_push s.ring e = ap (λ (c : ClientState). c.ring) (rw n at p.1) in
      reaches s.ring e a s'.ring h k f g
]
step entries now s (call.Reply e) a s' h k p = replies s.ring e s'.ring h k.0 k.1 (ap (λ (c : ClientState). c.ring) p.1)
step entries now s (call.Switch n on) a s' h k p = changed s (after_switch s n on) a s' h (same_ring s n on) p
step entries now s (call.Observe id name format entry) a s' h k p = changed s (after_observe s (new_watch id name format entry)) a s' h refl p
step entries now s (call.Unobserve id) a s' h k p = stays s.ring s'.ring h (ap (λ (c : ClientState). c.ring) p.1)
step entries now s (call.Flag mask) a s' h k p = stays s.ring s'.ring h (ap (λ (c : ClientState). c.ring) p.1)
step entries now s call.Poll a s' h k p = polled now s a s' h p

-- ---- what a list of calls is to the ring

all_steps : (s : ClientState) (ts : List Told) → Holds s.ring → Runs s ts → Leads s.ring (ring_calls ts) (left_by s ts).ring
all_steps s [] h p = stays s.ring s.ring h refl
all_steps s (t ∷ ts) h p =
    let one = step p.1.0 p.1.1 s t.0 t.1 t.2 h p.0 p.1.2 in
    let more = all_steps t.2 ts one.holds p.2 in
    let calls = ring_call t.0 t.1 in
    let behind : RingRuns (ring_left_by s.ring calls) (ring_calls ts) = subst (λ (r : RingState). RingRuns r (ring_calls ts)) (sym one.left) more.runs in
    record {
      runs = joined s.ring calls (ring_calls ts) one.runs behind;
      left = left_joined s.ring calls (ring_calls ts) ∙ ap (λ (r : RingState). ring_left_by r (ring_calls ts)) one.left ∙ more.left;
      holds = more.holds;
    }

-- ---- the law

pub new_client_is_lawful : (size : ℕ) (s : ClientState) → s.ring ≡ new_ring size → RingKeepsLaw size s.ring → KeepsLaw size s
new_client_is_lawful size s made law = λ ts runs.
    let none : Holds (new_ring size) = All-nil (λ e. IsTrue (enters_ring e)) in
    let all = all_steps s ts (subst Holds (sym made) none) runs in
    subst (λ (r : RingState). IsLawful size (ring_calls ts) r) all.left (law (ring_calls ts) all.runs)
