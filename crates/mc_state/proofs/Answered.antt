-- Calls that are answered at once.
use Rattle.std.proofs.Common.{◌≡◌, ◌≢◌, ℕ, ◌<◌, ◌==◌, inl, inr, Bool, true, false, not, List, [], ◌∷◌, ◌++◌, length, map, filter, Option, Some, None, refl, sym, ap, subst, ◌∙◌, arith}
use Rattle.std.specs.Prelude.{IfSome, IsTrue, if◌then◌else◌, nat_le, reverse}
use Rattle.std.proofs.lemmas.Bool.{cases_Bool}
use Rattle.std.proofs.lemmas.List.{length-map, map-append}
use Rattle.slab.specs.Slab.{Slab, get, ContainsKey}
use Rattle.mc_value.specs.declared.value.Format.{Format}
use Rattle.mc_dispatch.specs.declared.call.Call.TheVariants as call
use Rattle.mc_dispatch.specs.declared.request.ClientNo.{ClientNo}
use Rattle.mc_ring.specs.Event.{enters_ring}
use Rattle.mc_ring.specs.Ring.{RingState, after_pop, with_choked}
use Rattle.mc_ring.specs.declared.event.Event.{Event}
use Rattle.mc_ring.specs.declared.event.Event.TheVariants as event
use Rattle.mc_props.specs.Entries.{place_of, property_part}
use Rattle.mc_props.specs.declared.entries.PropEntry.{PropEntry}
use Rattle.mc_props.specs.declared.facts.Facts.{Facts}
use Rattle.mc_props.specs.declared.reading.Reading.{Reading}
use Rattle.mc_client.specs.Client.{ClientState, after_observe, after_switch, after_unobserve}
use Rattle.mc_client.specs.Polls.{PolledBy, WatchesPolled}
use Rattle.mc_client.specs.Seen.{Seen, now_of, poll_of, seen_by, seen_of}
use Rattle.mc_client.specs.Watches.{Fresh, Shown, has_id, new_watch, present, without_id}
use Rattle.mc_client.specs.declared.watch.Watch.{Watch}
use Rattle.mc_client.proofs.Flags.{fresh_without}
use Rattle.mc_player.specs.declared.record.Answer.TheVariants as answer
use Rattle.mc_player.specs.declared.record.CoreRecord.{CoreRecord}
use Rattle.mc_player.specs.declared.record.CoreRecord.TheVariants.{Called}
use Rattle.mc_player.specs.Lives.{Table, bears, life, life_called, life_polled, next_event, ring_polled}
use Rattle.mc_player.specs.Facts.{facts_of}
use Rattle.mc_player.specs.Rules.{IsAnswered, answer_of, done_if}
use Rattle.mc_deeds.specs.Clients.{ObservedAt, PolledAt, SwitchedAt, UnobservedAt}
use Rattle.mc_state.specs.Stands.{CoreState, IsQuiet, Readings, Stands, table_of}
use Rattle.mc_state.proofs.Steps.{called_next, fresh_at, held}

-- ---- polls

-- an event of the ring leaves it
leaves : (e : Event) (r : RingState) → IsTrue (enters_ring e) → ring_polled e r ≡ after_pop r
leaves event.None r h = absurd (cc)
leaves event.Overflow r h = absurd (cc)
leaves (event.Change id name format value) r h = absurd (cc)
leaves event.Shutdown r h = refl
leaves (event.GetReply id error value) r h = refl
leaves (event.SetReply id error) r h = refl
leaves (event.CommandReply id error) r h = refl
leaves event.StartFile r h = refl
leaves (event.EndFile reason) r h = refl
leaves event.FileLoaded r h = refl
leaves (event.Message words) r h = refl
leaves event.Seek r h = refl
leaves event.PlaybackRestart r h = refl

-- what observers have leaves the ring as it is
stays : (now : Watch → Shown) (ws ws' : List Watch) (e : Event) (r : RingState) → WatchesPolled now ws e ws' → ring_polled e r ≡ r
stays now ws ws' e r (inl told) = ap (λ (x : Event). ring_polled x r) told.event
stays now ws ws' e r (inr quiet) = ap (λ (x : Event). ring_polled x r) quiet.event

-- a client's ring behind a poll, its name and what it switched off
left_by_poll : (now : Watch → Shown) (k k' : ClientState) (e : Event) (es : List Event) (choked : Bool)
    → (0 < length es → IsTrue (enters_ring e)) → PolledBy now k es choked e k'
    → k' ≡ record { name = k.name; ring = ring_polled e k.ring; watches = k'.watches; off = k.off }
left_by_poll now k k' e (x ∷ xs) choked kind p =
    let r : ring_polled e k.ring ≡ after_pop k.ring = leaves e k.ring (kind (omega arith)) in
    p.1 ∙ ap (λ (x : RingState). record { name = k.name; ring = x; watches = k.watches; off = k.off }) (sym r)
    ∙ ap (λ (x : ClientState). record { name = k.name; ring = ring_polled e k.ring; watches = x.watches; off = k.off }) (sym p.1)
left_by_poll now k k' e [] true kind p =
    let r : ring_polled e k.ring ≡ with_choked k.ring false = ap (λ (x : Event). ring_polled x k.ring) p.0 in
    p.1 ∙ ap (λ (x : RingState). record { name = k.name; ring = x; watches = k.watches; off = k.off }) (sym r)
    ∙ ap (λ (x : ClientState). record { name = k.name; ring = ring_polled e k.ring; watches = x.watches; off = k.off }) (sym p.1)
left_by_poll now k k' e [] false kind p =
    let r : ring_polled e k.ring ≡ k.ring = stays now k.watches p.0 e k.ring p.1 in
    p.2 ∙ ap (λ (x : RingState). record { name = k.name; ring = x; watches = p.0; off = k.off }) (sym r)
    ∙ ap (λ (x : ClientState). record { name = k.name; ring = ring_polled e k.ring; watches = x.watches; off = k.off }) (sym p.2)

polled_life : (value : ℕ → Facts → Reading) (entries : List PropEntry) (f : Facts) (k : ClientState) (e : Event) (found : Option ClientState) (p : PolledAt value entries f k e found)
    → life p.left ≡ life_polled (record { value = value; entries = entries }) f e (life k)
polled_life value entries f k e found p =
    ap (λ (x : ClientState). record { name = x.name; ring = x.ring; seen = seen_by p.left; off = x.off })
    (left_by_poll (present value f) k p.left e k.ring.events k.ring.choked p.kind p.polled)
    ∙ ap (λ (ws : List Seen). record { name = k.name; ring = ring_polled e k.ring; seen = ws; off = k.off }) p.seen

-- what the two halves of a poll say
pub record PolledHere (value : ℕ → Facts → Reading) (entries : List PropEntry) (f : Facts) (cs cs' : Slab ClientState) (d : ℕ) (told e : Event) : Type 0 where
  pub next : (k : ClientState) → get cs d ≡ Some k → told ≡ poll_of (now_of value entries f) k
  pub here : (k : ClientState) → get cs d ≡ Some k → PolledAt value entries f k e (get cs' d)
  pub fresh : IfSome (get cs' d) (λ k. Fresh value entries f k.watches)
  pub others : (c : ℕ) → c ≢ d → get cs' c ≡ get cs c

pub same_event : (value : ℕ → Facts → Reading) (entries : List PropEntry) (f : Facts) (cs cs' : Slab ClientState) (d : ℕ) (told e : Event)
    → ContainsKey cs d → PolledHere value entries f cs cs' d told e → told ≡ e
same_event value entries f cs cs' d told e lives p =
    let k = held (get cs d) lives in p.next k.0 k.1 ∙ sym (p.here k.0 k.1).answer

pub polled_next : (value : ℕ → Facts → Reading) (s : CoreState) (by : ℕ) (d : ClientNo) (cs : Slab ClientState) (told e : Event) (j : List CoreRecord) (n : ℕ)
    → Stands value s → IsQuiet value s → ContainsKey s.clients d.0
    → PolledHere value s.entries s.facts s.clients cs d.0 told e
    → j ≡ s.journal ++ Called by d None call.Poll (answer.Event told) ∷ []
    → Stands value (record s { clients = cs; journal = j; spare = n })
polled_next value s by d cs told e j n st done lives p js =
    let t : Table = table_of value s in
    let h : List CoreRecord = reverse s.journal in
    let k = held (get s.clients d.0) lives in
    let m = p.here k.0 k.1 in
    let same : told ≡ e = same_event value s.entries s.facts s.clients cs d.0 told e lives p in
    let facts : s.facts ≡ facts_of t h = ap (λ (x : Readings). x.facts) st.tells in
    let fresh : Fresh value s.entries s.facts m.left.watches =
    subst (λ (o : Option ClientState). IfSome o (λ x. Fresh value s.entries s.facts x.watches)) m.stands p.fresh in
    let may : IsAnswered None (answer.Event told) (answer_of t h d (life k.0) call.Poll) = record {
      untold = refl;
      same = ap (λ (x : Event). answer.Event x)
          (p.next k.0 k.1 ∙ ap (λ (f : Facts). next_event t f (life k.0)) facts);
    } in
    let after : life m.left ≡ life_polled t s.facts told (life k.0) =
    polled_life value s.entries s.facts k.0 e (get cs d.0) m
    ∙ ap (λ (x : Event). life_polled t s.facts x (life k.0)) (sym same) in
    called_next value s by d None call.Poll (answer.Event told) k.0 m.left cs s.queue j n st done k.1 may m.stands p.others after fresh refl js

-- ---- observers

own_seen : (id : ℕ) (ws : List Watch) → filter (bears id) (map seen_of ws) ≡ map seen_of (filter (has_id id) ws)
own_seen id [] = refl
own_seen id (w ∷ ws) = elim (cases_Bool (w.id == id)) [
  | inl y ↦ rw y (ap (λ (xs : List Seen). seen_of w ∷ xs) (own_seen id ws))
  | inr n ↦ rw n (own_seen id ws)
]

other_seen : (id : ℕ) (ws : List Watch) → filter (λ (w : Seen). not (bears id w)) (map seen_of ws) ≡ map seen_of (without_id id ws)
other_seen id [] = refl
other_seen id (w ∷ ws) = elim (cases_Bool (w.id == id)) [
  | inl y ↦ rw y (other_seen id ws)
  | inr n ↦ rw n (ap (λ (xs : List Seen). seen_of w ∷ xs) (other_seen id ws))
]

observed_life : (t : Table) (f : Facts) (id : ℕ) (name : List ℕ) (format : Format) (entry : Option ℕ) (k k' : ClientState) (b : Bool)
    → k' ≡ (if b then after_observe k (new_watch id name format entry) else k)
    → life k' ≡ life_called t f (call.Observe id name format) (done_if b) (life k)
observed_life t f id name format entry k k' true is =
    ap life is ∙ ap (λ (ws : List Seen). record { name = k.name; ring = k.ring; seen = ws; off = k.off })
    (map-append seen_of k.watches (new_watch id name format entry ∷ []))
observed_life t f id name format entry k k' false is = ap life is

pub observed_next : (value : ℕ → Facts → Reading) (s : CoreState) (by : ℕ) (d : ClientNo) (id : ℕ) (name : List ℕ) (format : Format) (entry : Option ℕ) (b : Bool) (cs : Slab ClientState) (j : List CoreRecord) (n : ℕ)
    → Stands value s → IsQuiet value s → ContainsKey s.clients d.0
    → entry ≡ place_of (property_part name) s.entries
    → ((k : ClientState) → get s.clients d.0 ≡ Some k → ObservedAt (new_watch id name format entry) k b (get cs d.0))
    → ((c : ℕ) → c ≢ d.0 → get cs c ≡ get s.clients c)
    → j ≡ s.journal ++ Called by d None (call.Observe id name format) (done_if b) ∷ []
    → Stands value (record s { clients = cs; journal = j; spare = n })
observed_next value s by d id name format entry b cs j n st done lives placed here others js =
    let t : Table = table_of value s in
    let h : List CoreRecord = reverse s.journal in
    let k = held (get s.clients d.0) lives in
    let m = here k.0 k.1 in
    let may : IsAnswered None (done_if b) (answer_of t h d (life k.0) (call.Observe id name format)) = record {
      untold = refl;
      same = ap done_if (m.answer ∙ ap (λ (x : ℕ). not (nat_le 1000 x)) (sym (length-map (k.0).watches seen_of)));
    } in
    called_next value s by d None (call.Observe id name format) (done_if b) k.0 m.left cs s.queue j n st done k.1 may m.stands others
    (observed_life t s.facts id name format entry k.0 m.left b m.after)
    (m.fresh value s.entries s.facts placed (fresh_at t s.clients s.facts h d.0 k.0 st.clients k.1)) refl js

pub unobserved_next : (value : ℕ → Facts → Reading) (s : CoreState) (by : ℕ) (d : ClientNo) (id m : ℕ) (cs : Slab ClientState) (j : List CoreRecord) (n : ℕ)
    → Stands value s → IsQuiet value s → ContainsKey s.clients d.0
    → ((k : ClientState) → get s.clients d.0 ≡ Some k → UnobservedAt id k m (get cs d.0))
    → ((c : ℕ) → c ≢ d.0 → get cs c ≡ get s.clients c)
    → j ≡ s.journal ++ Called by d None (call.Unobserve id) (answer.Removed m) ∷ []
    → Stands value (record s { clients = cs; journal = j; spare = n })
unobserved_next value s by d id m cs j n st done lives here others js =
    let t : Table = table_of value s in
    let h : List CoreRecord = reverse s.journal in
    let k = held (get s.clients d.0) lives in
    let u = here k.0 k.1 in
    let may : IsAnswered None (answer.Removed m) (answer_of t h d (life k.0) (call.Unobserve id)) = record {
      untold = refl;
      same = ap (λ (x : ℕ). answer.Removed x) (u.answer ∙ sym (length-map (filter (has_id id) (k.0).watches) seen_of)
          ∙ ap (λ (ws : List Seen). length ws) (sym (own_seen id (k.0).watches)));
    } in
    called_next value s by d None (call.Unobserve id) (answer.Removed m) k.0 (after_unobserve k.0 id) cs s.queue j n st done k.1 may u.stands others
    (ap (λ (ws : List Seen). record { name = (k.0).name; ring = (k.0).ring; seen = ws; off = (k.0).off })
    (sym (other_seen id (k.0).watches)))
    (fresh_without value s.entries s.facts id (k.0).watches (fresh_at t s.clients s.facts h d.0 k.0 st.clients k.1)) refl js

-- ---- switches

switched_life : (t : Table) (f : Facts) (m : ℕ) (on : Bool) (k : ClientState) (b : Bool)
    → life (if b then after_switch k m on else k) ≡ life_called t f (call.Event m on) (done_if b) (life k)
switched_life t f m true k true = refl
switched_life t f m false k true = refl
switched_life t f m on k false = refl

switched_watches : (m : ℕ) (on : Bool) (k : ClientState) (b : Bool) → (if b then after_switch k m on else k).watches ≡ k.watches
switched_watches m true k true = refl
switched_watches m false k true = refl
switched_watches m on k false = refl

pub switched_next : (value : ℕ → Facts → Reading) (s : CoreState) (by : ℕ) (d : ClientNo) (m : ℕ) (on b : Bool) (cs : Slab ClientState) (j : List CoreRecord) (n : ℕ)
    → Stands value s → IsQuiet value s → ContainsKey s.clients d.0
    → ((k : ClientState) → get s.clients d.0 ≡ Some k → SwitchedAt m on k b (get cs d.0))
    → ((c : ℕ) → c ≢ d.0 → get cs c ≡ get s.clients c)
    → j ≡ s.journal ++ Called by d None (call.Event m on) (done_if b) ∷ []
    → Stands value (record s { clients = cs; journal = j; spare = n })
switched_next value s by d m on b cs j n st done lives here others js =
    let t : Table = table_of value s in
    let h : List CoreRecord = reverse s.journal in
    let k = held (get s.clients d.0) lives in
    let u = here k.0 k.1 in
    let may : IsAnswered None (done_if b) (answer_of t h d (life k.0) (call.Event m on)) =
    record { untold = refl; same = ap done_if u.answer } in
    called_next value s by d None (call.Event m on) (done_if b) k.0 (if b then after_switch k.0 m on else k.0) cs s.queue j n st done k.1 may u.stands others
    (switched_life t s.facts m on k.0 b)
    (subst (λ (ws : List Watch). Fresh value s.entries s.facts ws) (sym (switched_watches m on k.0 b))
    (fresh_at t s.clients s.facts h d.0 k.0 st.clients k.1)) refl js
