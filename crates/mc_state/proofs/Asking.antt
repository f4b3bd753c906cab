-- Requests that are refused or accepted.
use Rattle.std.proofs.Common.{◌≡◌, ◌≢◌, ℕ, Bool, true, false, List, [], ◌∷◌, ◌++◌, length, Option, Some, None, refl, sym, ap, subst, ◌∙◌}
use Rattle.std.specs.Prelude.{ℤ, IsSomeAnd, reverse}
use Rattle.std.specs.Bool.{MatchBool}
use Rattle.slab.specs.Slab.{Slab, get, ContainsKey}
use Rattle.mc_dispatch.specs.Queue.{QueueState, after_enqueue}
use Rattle.mc_dispatch.specs.declared.call.Call.{Call}
use Rattle.mc_dispatch.specs.declared.call.Call.TheVariants as call
use Rattle.mc_dispatch.specs.declared.request.ClientNo.{ClientNo}
use Rattle.mc_dispatch.specs.declared.request.Request.{Request}
use Rattle.mc_ring.specs.Ring.{is_full}
use Rattle.mc_props.specs.declared.facts.Facts.{Facts}
use Rattle.mc_props.specs.declared.reading.Reading.{Reading}
use Rattle.mc_client.specs.Client.{ClientState, after_request}
use Rattle.mc_player.specs.declared.record.Answer.{Answer}
use Rattle.mc_player.specs.declared.record.Answer.TheVariants as answer
use Rattle.mc_player.specs.declared.record.CoreRecord.{CoreRecord}
use Rattle.mc_player.specs.declared.record.CoreRecord.TheVariants.{Called}
use Rattle.mc_player.specs.Deeds.{invalid_parameter, queue_full}
use Rattle.mc_player.specs.Lives.{Life, Table, life, life_asked, life_called}
use Rattle.mc_player.specs.Journals.{id_of, left_by}
use Rattle.mc_player.specs.Rules.{IsAccepted, IsAnswered, MayCall, MayRequest, is_bad, is_request}
use Rattle.mc_deeds.specs.Clients.{IsFreeAt, IsFullAt, IsPlacedAt}
use Rattle.mc_state.specs.Stands.{CoreState, IsQuiet, Stands, table_of}
use Rattle.mc_state.proofs.Steps.{called_next, fresh_at, held, length_told}

request_called : (t : Table) (f : Facts) (c : Call) (a : Answer) (l : Life) → is_request c ≡ true → life_called t f c a l ≡ l
request_called t f (call.Command id words) a l e = refl
request_called t f (call.Get id name format) a l e = refl
request_called t f (call.Set id name value) a l e = refl
request_called t f (call.Observe id name format) a l e = absurd (cc)
request_called t f (call.Unobserve id) a l e = absurd (cc)
request_called t f (call.Event n on) a l e = absurd (cc)
request_called t f call.Poll a l e = absurd (cc)
request_called t f (call.Abort id) a l e = absurd (cc)

request_left : (d : ClientNo) (c : Call) (qs : List Request) → is_request c ≡ true → left_by d c qs ≡ qs
request_left d (call.Command id words) qs e = refl
request_left d (call.Get id name format) qs e = refl
request_left d (call.Set id name value) qs e = refl
request_left d (call.Observe id name format) qs e = absurd (cc)
request_left d (call.Unobserve id) qs e = absurd (cc)
request_left d (call.Event n on) qs e = absurd (cc)
request_left d call.Poll qs e = absurd (cc)
request_left d (call.Abort id) qs e = absurd (cc)

asked_life : (k : ClientState) (n : ℕ) → is_full k.ring ≡ false → life (after_request k) ≡ life_asked (Some n) (life k)
asked_life k n f = rw f refl

full_here : (cs : Slab ClientState) (c : ℕ) (k : ClientState) → IsFullAt cs c → get cs c ≡ Some k → is_full k.ring ≡ true
full_here cs c k full at = subst (λ (o : Option ClientState). IsSomeAnd o (λ x. is_full x.ring ≡ true)) at full

free_here : (cs : Slab ClientState) (c : ℕ) (k : ClientState) → IsFreeAt cs c → get cs c ≡ Some k → is_full k.ring ≡ false
free_here cs c k free at = subst (λ (o : Option ClientState). IsSomeAnd o (λ x. is_full x.ring ≡ false)) at free

may_refuse : (h : List CoreRecord) (l : Life) (c : Call) (error : ℤ) (bad : Bool) → is_bad c ≡ bad
    → MatchBool bad (error ≡ invalid_parameter) ((is_full l.ring ≡ true) × (error ≡ queue_full))
    → MayRequest h l None c (answer.Refused error)
may_refuse h l c error true b e =
    let x : IsAnswered None (answer.Refused error) (answer.Refused invalid_parameter) =
    record { untold = refl; same = ap (λ (n : ℤ). answer.Refused n) e } in rw b x
may_refuse h l c error false b e =
    let x : IsAnswered None (answer.Refused error) (answer.Refused queue_full) =
    record { untold = refl; same = ap (λ (n : ℤ). answer.Refused n) e.1 } in rw (b, e.0) x

error_here : (cs : Slab ClientState) (c : ℕ) (k : ClientState) (error : ℤ) (bad : Bool) → get cs c ≡ Some k
    → MatchBool bad (error ≡ invalid_parameter) (IsFullAt cs c × (error ≡ queue_full))
    → MatchBool bad (error ≡ invalid_parameter) ((is_full k.ring ≡ true) × (error ≡ queue_full))
error_here cs c k error true at e = e
error_here cs c k error false at e = (full_here cs c k e.0 at, e.1)

pub refused_next : (value : ℕ → Facts → Reading) (s : CoreState) (by : ℕ) (d : ClientNo) (c : Call) (error : ℤ) (j : List CoreRecord) (n : ℕ)
    → Stands value s → IsQuiet value s → ContainsKey s.clients d.0 → is_request c ≡ true
    → MatchBool (is_bad c) (error ≡ invalid_parameter) (IsFullAt s.clients d.0 × (error ≡ queue_full))
    → j ≡ s.journal ++ Called by d None c (answer.Refused error) ∷ []
    → Stands value (record s { journal = j; spare = n })
refused_next value s by d c error j n st done lives asks why js =
    let t : Table = table_of value s in
    let h : List CoreRecord = reverse s.journal in
    let k = held (get s.clients d.0) lives in
    let may : MayCall t h d None c (answer.Refused error) (life k.0) =
    rw asks (may_refuse h (life k.0) c error (is_bad c) refl (error_here s.clients d.0 k.0 error (is_bad c) k.1 why)) in
    called_next value s by d None c (answer.Refused error) k.0 k.0 s.clients s.queue j n st done k.1 may k.1 (λ other differs. refl)
    (sym (request_called t s.facts c (answer.Refused error) (life k.0) asks))
    (fresh_at t s.clients s.facts h d.0 k.0 st.clients k.1)
    (sym (request_left d c s.queue.requests asks)) js

pub accepted_next : (value : ℕ → Facts → Reading) (s : CoreState) (by : ℕ) (d : ClientNo) (c : Call) (b : Bool) (cs : Slab ClientState) (q : QueueState) (j : List CoreRecord) (n : ℕ)
    → Stands value s → IsQuiet value s → ContainsKey s.clients d.0 → is_request c ≡ true → is_bad c ≡ false → IsFreeAt s.clients d.0
    → ((k : ClientState) → get s.clients d.0 ≡ Some k → IsPlacedAt k b (get cs d.0))
    → ((other : ℕ) → other ≢ d.0 → get cs other ≡ get s.clients other)
    → q ≡ after_enqueue s.queue (record { client = d; ticket = length s.journal; id = id_of c; call = c })
    → j ≡ s.journal ++ Called by d (Some (length s.journal)) c answer.Ok ∷ []
    → Stands value (record s { clients = cs; queue = q; journal = j; spare = n })
accepted_next value s by d c b cs q j n st done lives asks fits room here others is js =
    let t : Table = table_of value s in
    let h : List CoreRecord = reverse s.journal in
    let k = held (get s.clients d.0) lives in
    let p = here k.0 k.1 in
    let free : is_full (k.0).ring ≡ false = free_here s.clients d.0 k.0 room k.1 in
    let accepts : IsAccepted h (Some (length s.journal)) answer.Ok =
    record { new = ap (λ (m : ℕ). Some m) (sym (length_told s.journal)); same = refl } in
    let may : MayCall t h d (Some (length s.journal)) c answer.Ok (life k.0) = rw asks (rw fits (rw free accepts)) in
    let r : Request = record { client = d; ticket = length s.journal; id = id_of c; call = c } in
    called_next value s by d (Some (length s.journal)) c answer.Ok k.0 (after_request k.0) cs q j n st done k.1 may p.stands others
    (asked_life k.0 (length s.journal) free
    ∙ ap (λ (l : Life). life_asked (Some (length s.journal)) l) (sym (request_called t s.facts c answer.Ok (life k.0) asks)))
    (fresh_at t s.clients s.facts h d.0 k.0 st.clients k.1)
    (ap (λ (x : QueueState). x.requests) is ∙ ap (λ (xs : List Request). xs ++ r ∷ []) (sym (request_left d c s.queue.requests asks))) js
