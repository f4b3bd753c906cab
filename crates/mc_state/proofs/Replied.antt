-- A reply that is due finds its place.
use Rattle.std.proofs.Common.{◌≡◌, ◌≢◌, ℕ, ◌+◌, ◌<◌, ◌≤◌, inl, inr, Bool, false, not, ◌&&◌, List, [], ◌∷◌, ◌++◌, length, drop, Option, Some, None, refl, sym, ap, subst, ◌∙◌, arith}
use Rattle.std.specs.Prelude.{IsSomeAnd, reverse, slice_get, is_some, filter, if◌then◌else◌}
use Rattle.std.specs.Option.{option_map}
use Rattle.std.proofs.lemmas.Bool.{cases_Bool}
use Rattle.std.proofs.Math.ListN.{drop_of_length-le}
use Rattle.slab.specs.Slab.{Slab, get, ContainsKey}
use Rattle.mc_value.specs.declared.value.Value.TheVariants as values
use Rattle.mc_dispatch.specs.Queue.{QueueState, after_removal, is_named}
use Rattle.mc_dispatch.specs.declared.call.Call.TheVariants as call
use Rattle.mc_dispatch.specs.declared.request.ClientNo.{ClientNo}
use Rattle.mc_dispatch.specs.declared.request.Request.{Request}
use Rattle.mc_ring.specs.declared.event.Event.{Event}
use Rattle.mc_props.specs.declared.entries.PropEntry.{PropEntry}
use Rattle.mc_props.specs.declared.facts.Facts.{Facts}
use Rattle.mc_props.specs.declared.reading.Reading.{Reading}
use Rattle.mc_client.specs.Client.{ClientState, after_reply_of}
use Rattle.mc_player.specs.declared.record.Answer.TheVariants as answer
use Rattle.mc_player.specs.declared.record.CoreRecord.{CoreRecord}
use Rattle.mc_player.specs.declared.record.CoreRecord.TheVariants.{Called, Replied}
use Rattle.mc_player.specs.Deeds.{command_error, deed_error, deed_value, generic_error, reply_of}
use Rattle.mc_player.specs.Effects.{reply_due, rest}
use Rattle.mc_player.specs.Journals.{due, ended_by, out, queued, worked}
use Rattle.mc_player.specs.Lives.{Life, Table, life, life_replied}
use Rattle.mc_player.specs.Rules.{EndsWork, IsAnswered, IsReply, MayReply, answer_of}
use Rattle.mc_player.specs.Waiting.{set_aside}
use Rattle.mc_player.proofs.Waits.{has_place}
use Rattle.mc_state.specs.Steps.{Wrote}
use Rattle.mc_state.specs.Growth.{Adds, is_reply}
use Rattle.mc_state.specs.Replying.{IsDrained, IsEnd}
use Rattle.mc_state.specs.Stands.{CoreState, IsQuiet, Readings, Stands, readings_of, table_of}
use Rattle.mc_state.proofs.Growing.{adds_record, adds_then}
use Rattle.mc_state.proofs.Steps.{as_told, called_next, fresh_at, held, one_changed, stands_on}

first_of : (qs : List Request) (q : Request) → slice_get qs 0 ≡ Some q → (more : List Request) × (qs ≡ q ∷ more)
first_of [] q e = absurd (cc)
first_of (x ∷ xs) q e = let h : x ≡ q = cc in (xs, ap (λ (y : Request). y ∷ xs) h)

-- the client that is replied to lives, and has a place set aside
pub place_for : (value : ℕ → Facts → Reading) (s : CoreState) (c : ClientNo) (n : ℕ) (e : Event) → Stands value s
    → MayReply (table_of value s) (reverse s.journal) (due (reverse s.journal)) c n e
    → IsSomeAnd (get s.clients c.0) (λ k. 0 < k.ring.reserved)
place_for value s c n e st may =
    of (get s.clients c.0)
    (subst (λ (o : Option Life). 0 < set_aside o) (sym (st.clients.lives c.0))
    (has_place (table_of value s) (reverse s.journal) c n e st.allowed may))
  where
    of : (o : Option ClientState) → 0 < set_aside (option_map life o) → IsSomeAnd o (λ k. 0 < k.ring.reserved)
    of None lt = absurd (omega (arith, lt))
    of (Some k) lt = lt

pub replied_next : (value : ℕ → Facts → Reading) (s : CoreState) (by : ℕ) (c : ClientNo) (n : ℕ) (e : Event) (w : Option Request) (cs : Slab ClientState) (j : List CoreRecord) (m : ℕ)
    → Stands value s → MayReply (table_of value s) (reverse s.journal) (due (reverse s.journal)) c n e
    → ((k : ClientState) → get s.clients c.0 ≡ Some k → get cs c.0 ≡ Some (after_reply_of k e))
    → ((d : ℕ) → d ≢ c.0 → get cs d ≡ get s.clients d)
    → w ≡ ended_by (due (reverse s.journal)) s.work
    → j ≡ s.journal ++ Replied by c n e ∷ []
    → Stands value (record s { clients = cs; work = w; journal = j; spare = m })
replied_next value s by c n e w cs j m st may here others ws js = by_case (get s.clients c.0) refl (place_for value s c n e st may)
  where
    by_case : (o : Option ClientState) → get s.clients c.0 ≡ o → IsSomeAnd o (λ k. 0 < k.ring.reserved) → Stands value (record s { clients = cs; work = w; journal = j; spare = m })
    by_case None is place = absurd place
    by_case (Some k) is place =
        let t : Table = table_of value s in
        let h : List CoreRecord = reverse s.journal in
        stands_on value s (record s { clients = cs; work = w; journal = j; spare = m }) (Replied by c n e) js refl (record {
          allowed = ((may, tt), st.allowed);
          clients = one_changed t s.clients cs s.facts h c.0 k (after_reply_of k e) (Replied by c n e) (life_replied e)
              st.clients is (here k is) others (λ d l. refl) refl (fresh_at t s.clients s.facts h c.0 k st.clients is);
          tells = ap (λ (x : Option Request). record (readings_of s) { work = x }) ws
              ∙ ap (λ (x : Readings). record x { work = ended_by (due h) x.work }) st.tells;
        })

-- ---- of an abort

pub due_may : (t : Table) (h : List CoreRecord) (q : Request) → slice_get (due h) 0 ≡ Some q
    → MayReply t h (due h) q.client q.ticket (reply_of q.call generic_error values.None)
due_may t h q at =
    subst (λ (ds : List Request). MayReply t h ds q.client q.ticket (reply_of q.call generic_error values.None))
    (sym (first_of (due h) q at).1) (record { of_client = refl; of_ticket = refl; same = refl })

pub due_place : (value : ℕ → Facts → Reading) (s : CoreState) (q : Request) → Stands value s → slice_get (due (reverse s.journal)) 0 ≡ Some q
    → IsSomeAnd (get s.clients q.client.0) (λ k. 0 < k.ring.reserved)
due_place value s q st at =
    place_for value s q.client q.ticket (reply_of q.call generic_error values.None) st (due_may (table_of value s) (reverse s.journal) q at)

pub due_next : (value : ℕ → Facts → Reading) (s : CoreState) (by : ℕ) (q : Request) (cs : Slab ClientState) (j : List CoreRecord) (m : ℕ)
    → Stands value s → slice_get (due (reverse s.journal)) 0 ≡ Some q
    → ((k : ClientState) → get s.clients q.client.0 ≡ Some k → get cs q.client.0 ≡ Some (after_reply_of k (reply_of q.call generic_error values.None)))
    → ((d : ℕ) → d ≢ q.client.0 → get cs d ≡ get s.clients d)
    → j ≡ s.journal ++ Replied by q.client q.ticket (reply_of q.call generic_error values.None) ∷ []
    → Stands value (record s { clients = cs; journal = j; spare = m })
due_next value s by q cs j m st at here others js =
    replied_next value s by q.client q.ticket (reply_of q.call generic_error values.None) s.work cs j m st
    (due_may (table_of value s) (reverse s.journal) q at) here others
    (ap (λ (ds : List Request). ended_by ds s.work) (sym (first_of (due (reverse s.journal)) q at).1)) js

pub first_due : (value : ℕ → Facts → Reading) (rs : List Request) (i : ℕ) (s : CoreState) (q : Request) → IsDrained value rs i s → drop i rs ≡ q ∷ drop (i + 1) rs
    → slice_get (due (reverse s.journal)) 0 ≡ Some q
first_due value rs i s q d at = ap (λ (qs : List Request). slice_get qs 0) (d.due ∙ at)

pub drained_more : (value : ℕ → Facts → Reading) (rs : List Request) (i by : ℕ) (s s' : CoreState) (q : Request) (e : Event)
    → IsDrained value rs i s → drop i rs ≡ q ∷ drop (i + 1) rs → Wrote s s' (Replied by q.client q.ticket e) → IsDrained value rs (i + 1) s'
drained_more value rs i by s s' q e d at r =
    let h : List CoreRecord = reverse s.journal in
    let hs : reverse s'.journal ≡ Replied by q.client q.ticket e ∷ h = as_told s.journal s'.journal (Replied by q.client q.ticket e) r.journal in
    let ds : due h ≡ q ∷ drop (i + 1) rs = d.due ∙ at in
    let same : reply_due (Replied by q.client q.ticket e ∷ h) ≡ reply_due h =
    ap (λ (xs : List Request). is_some (ended_by xs (worked h)) && not (is_some (out h))) ds in
    let ts : table_of value s' ≡ table_of value s = ap (λ (x : List PropEntry). record { value = value; entries = x }) r.entries in
    record {
      due = ap due hs ∙ ap (λ (xs : List Request). drop 1 xs) ds;
      rest = ap (λ (x : Table). rest x (reverse s'.journal)) ts ∙ ap (λ (x : List CoreRecord). rest (table_of value s) x) hs ∙ d.rest;
      reply = ap reply_due hs ∙ same ∙ d.reply;
      room = let a = d.room in let b = r.room in omega arith;
    }

pub drained_all : (value : ℕ → Facts → Reading) (rs : List Request) (i : ℕ) (s : CoreState) → IsDrained value rs i s → length rs ≤ i → IsQuiet value s
drained_all value rs i s d le = record { due = d.due ∙ drop_of_length-le rs le; rest = d.rest; reply = d.reply }

pub reply_added : (by i : ℕ) (s0 s s' : CoreState) (q : Request) (e : Event) → Adds is_reply by (reverse s0.journal) (reverse s.journal)
    → Wrote s s' (Replied by q.client q.ticket e) → Adds is_reply by (reverse s0.journal) (reverse s'.journal)
reply_added by i s0 s s' q e a w =
    adds_then is_reply by (reverse s0.journal) (reverse s.journal) (reverse s'.journal) a
    (adds_record is_reply by s.journal s'.journal (Replied by q.client q.ticket e) w.journal refl refl)

kept_short : (P : Request → Bool) (qs : List Request) → length (filter P qs) ≤ length qs
kept_short P [] = omega arith
kept_short P (q ∷ qs) = let e = kept_short P qs in elim (cases_Bool (P q)) [ inl y ↦ rw y (omega (arith, e)) | inr n ↦ rw n (omega (arith, e)) ]

pub aborted_next : (value : ℕ → Facts → Reading) (s : CoreState) (by : ℕ) (d : ClientNo) (id n : ℕ) (q : QueueState) (j : List CoreRecord) (m : ℕ)
    → Stands value s → IsQuiet value s → ContainsKey s.clients d.0
    → n ≡ length (filter (is_named d id) s.queue.requests) → q ≡ after_removal s.queue (is_named d id)
    → j ≡ s.journal ++ Called by d None (call.Abort id) (answer.Removed n) ∷ []
    → Stands value (record s { queue = q; journal = j; spare = m })
aborted_next value s by d id n q j m st done lives ns qs js =
    let t : Table = table_of value s in
    let h : List CoreRecord = reverse s.journal in
    let k = held (get s.clients d.0) lives in
    let said : n ≡ length (filter (is_named d id) (queued h)) =
    ns ∙ ap (λ (x : Readings). length (filter (is_named d id) x.queued)) st.tells in
    let may : IsAnswered None (answer.Removed n) (answer_of t h d (life k.0) (call.Abort id)) =
    record { untold = refl; same = ap (λ (x : ℕ). answer.Removed x) said } in
    called_next value s by d None (call.Abort id) (answer.Removed n) k.0 k.0 s.clients q j m st done k.1 may k.1
    (λ other differs. refl) refl (fresh_at t s.clients s.facts h d.0 k.0 st.clients k.1)
    (ap (λ (x : QueueState). x.requests) qs) js

-- what an abort removed is due
pub aborted_drained : (value : ℕ → Facts → Reading) (s : CoreState) (by : ℕ) (d : ClientNo) (id n : ℕ) (rs : List Request) (q : QueueState) (j : List CoreRecord) (m : ℕ)
    → Stands value s → IsQuiet value s → rs ≡ filter (is_named d id) s.queue.requests
    → j ≡ s.journal ++ Called by d None (call.Abort id) (answer.Removed n) ∷ []
    → length s.queue.requests + 1 ≤ s.spare → s.spare ≤ m + 1
    → IsDrained value rs 0 (record s { queue = q; journal = j; spare = m })
aborted_drained value s by d id n rs q j m st done is js room more =
    let h : List CoreRecord = reverse s.journal in
    let r : CoreRecord = Called by d None (call.Abort id) (answer.Removed n) in
    let hs : reverse j ≡ r ∷ h = as_told s.journal j r js in
    let gone : filter (is_named d id) (queued h) ≡ rs =
    ap (λ (x : Readings). filter (is_named d id) x.queued) (sym st.tells) ∙ sym is in
    let few : length rs ≤ length s.queue.requests =
    subst (λ (x : List Request). length x ≤ length s.queue.requests) (sym is) (kept_short (is_named d id) s.queue.requests) in
    record {
      due = ap due hs ∙ gone;
      rest = ap (λ (x : List CoreRecord). rest (table_of value s) x) hs;
      reply = ap reply_due hs ∙ done.reply;
      room = omega (arith, few, room, more);
    }

-- ---- to what is worked

pub end_may : (value : ℕ → Facts → Reading) (s : CoreState) (c : ClientNo) (n : ℕ) (e : Event) → Stands value s → IsEnd value c n e s
    → MayReply (table_of value s) (reverse s.journal) (due (reverse s.journal)) c n e
end_may value s c n e st end =
    let t : Table = table_of value s in
    let h : List CoreRecord = reverse s.journal in
    let ends : EndsWork t h c n e = record {
      none_out = ap (λ (x : Readings). x.out) (sym st.tells) ∙ end.none_out;
      none_left = end.none_left;
      reply = subst (λ (x : Readings). IsSomeAnd x.work (λ q. IsReply c n e q (if x.refused then command_error else deed_error x.deed) (deed_value x.deed))) st.tells end.reply;
    } in
    subst (λ (ds : List Request). MayReply t h ds c n e) (sym end.none_due) ends

pub end_next : (value : ℕ → Facts → Reading) (s : CoreState) (by : ℕ) (c : ClientNo) (n : ℕ) (e : Event) (cs : Slab ClientState) (j : List CoreRecord) (m : ℕ)
    → Stands value s → IsEnd value c n e s
    → ((k : ClientState) → get s.clients c.0 ≡ Some k → get cs c.0 ≡ Some (after_reply_of k e))
    → ((d : ℕ) → d ≢ c.0 → get cs d ≡ get s.clients d)
    → j ≡ s.journal ++ Replied by c n e ∷ []
    → Stands value (record s { clients = cs; work = None; journal = j; spare = m })
end_next value s by c n e cs j m st end here others js =
    replied_next value s by c n e None cs j m st (end_may value s c n e st end) here others
    (ap (λ (ds : List Request). ended_by ds s.work) (sym end.none_due)) js

pub end_quiet : (value : ℕ → Facts → Reading) (s d : CoreState) (by : ℕ) (c : ClientNo) (n : ℕ) (e : Event) (j : List CoreRecord) → s ≡ d → IsEnd value c n e d
    → j ≡ s.journal ++ Replied by c n e ∷ []
    → due (reverse j) ≡ [] × (rest (table_of value s) (reverse j) ≡ []) × (reply_due (reverse j) ≡ false)
end_quiet value s d by c n e j is end js =
    let end' : IsEnd value c n e s = subst (IsEnd value c n e) (sym is) end in
    let hs : reverse j ≡ Replied by c n e ∷ reverse s.journal = as_told s.journal j (Replied by c n e) js in (
      ap due hs ∙ ap (λ (xs : List Request). drop 1 xs) end'.none_due,
      ap (λ (x : List CoreRecord). rest (table_of value s) x) hs ∙ end'.none_left,
      ap reply_due hs ∙ ap (λ (ds : List Request). is_some (ended_by ds (worked (reverse s.journal))) && not (is_some (out (reverse s.journal)))) end'.none_due,
    )
