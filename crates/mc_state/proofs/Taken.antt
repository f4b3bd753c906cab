-- Requests that are taken, orders that are given, and their outcomes.
use Rattle.std.proofs.Common.{◌≡◌, ℕ, Bool, false, not, ◌&&◌, ◌||◌, List, [], ◌∷◌, ◌++◌, Option, Some, None, refl, sym, ap, subst, ◌∙◌, drop}
use Rattle.std.specs.Prelude.{IsSomeAnd, is_some, reverse, slice_get}
use Rattle.slab.specs.Slab.{Slab}
use Rattle.mc_dispatch.specs.Queue.{QueueState, after_take}
use Rattle.mc_dispatch.specs.declared.request.ClientNo.{ClientNo}
use Rattle.mc_dispatch.specs.declared.request.Request.{Request}
use Rattle.mc_props.specs.Fields.{AgreeOutside}
use Rattle.mc_props.specs.declared.facts.Facts.{Facts}
use Rattle.mc_props.specs.declared.reading.Reading.{Reading}
use Rattle.mc_client.specs.Client.{ClientState}
use Rattle.mc_player.specs.declared.deed.Deed.{Deed}
use Rattle.mc_player.specs.declared.record.Order.{Order}
use Rattle.mc_player.specs.declared.record.Outcome.{Outcome}
use Rattle.mc_player.specs.declared.record.CoreRecord.{CoreRecord}
use Rattle.mc_player.specs.declared.record.CoreRecord.TheVariants.{Did, Ordered, Took}
use Rattle.mc_player.specs.Deeds.{after_deed}
use Rattle.mc_player.specs.Effects.{restart_after}
use Rattle.mc_player.specs.Facts.{after_did, is_quit}
use Rattle.mc_player.specs.Journals.{is_load, is_refusal, out, worked}
use Rattle.mc_player.specs.Lives.{Table}
use Rattle.mc_player.specs.Rules.{IsOutcome, MayOrder, MayTake}
use Rattle.mc_deeds.specs.Changes.{deed_mask, outcome_mask}
use Rattle.mc_deeds.specs.Flags.{AreFlagged}
use Rattle.mc_state.specs.Stands.{CoreState, IsQuiet, Readings, Stands, readings_of, table_of, told_by}
use Rattle.mc_state.specs.Taking.{IsNext}
use Rattle.mc_state.proofs.Changed.{changed_next, deed_agrees, outcome_agrees, readings_by, same_next}

none_worked : (w : Option Request) (o : Option Order) → (is_some w && not (is_some o)) ≡ false → o ≡ None → w ≡ None
none_worked None o e n = refl
none_worked (Some q) None e n = absurd (cc)
none_worked (Some q) (Some x) e n = absurd (cc)

pub took_next : (value : ℕ → Facts → Reading) (s : CoreState) (by : ℕ) (c : ClientNo) (ticket id : ℕ) (d : Deed) (cs : Slab ClientState) (f : Facts) (q : QueueState) (w : Option Request) (b : Bool) (j : List CoreRecord) (n : ℕ)
    → Stands value s → IsNext value c ticket id d s
    → AreFlagged value s.entries s.facts (deed_mask d) s.order s.clients cs
    → f ≡ after_deed d s.facts → q ≡ after_take s.queue → w ≡ slice_get s.queue.requests 0 → b ≡ (is_quit d || s.quits)
    → j ≡ s.journal ++ Took by c ticket id ∷ []
    → Stands value (record s { clients = cs; facts = f; queue = q; work = w; deed = d; refused = false; quits = b; journal = j; spare = n })
took_next value s by c ticket id d cs f q w b j n st next flagged fs qs ws bs js =
    let t : Table = table_of value s in
    let h : List CoreRecord = reverse s.journal in
    let s' : CoreState = record s { clients = cs; facts = f; queue = q; work = w; deed = d; refused = false; quits = b; journal = j; spare = n } in
    let none_out : out h ≡ None = ap (λ (x : Readings). x.out) (sym st.tells) ∙ next.none_out in
    let may : MayTake t h c ticket id = record {
      idle = none_worked (worked h) (out h) (next.quiet).reply none_out;
      none_out = none_out;
      begun = ap (λ (x : Readings). x.loading) (sym st.tells) ∙ next.begun;
      goes_on = ap (λ (x : Readings). x.quits) (sym st.tells) ∙ next.goes_on;
      oldest = subst (λ (x : Readings). IsSomeAnd (slice_get x.queued 0) (λ q. (q.client ≡ c) × (q.ticket ≡ ticket) × (q.id ≡ id))) st.tells next.oldest;
    } in
    let tells : readings_of s' ≡ told_by t (Took by c ticket id ∷ h) = readings_by (readings_of s') (told_by t (Took by c ticket id ∷ h))
    (ap (λ (x : Readings). x.order) st.tells)
    (ap (λ (x : QueueState). x.requests) qs ∙ ap (λ (x : Readings). drop 1 x.queued) st.tells)
    (fs ∙ ap (λ (x : Readings). after_deed d x.facts) st.tells ∙ ap (λ (x : Deed). after_deed x (told_by t h).facts) next.does)
    (ws ∙ ap (λ (x : Readings). slice_get x.queued 0) st.tells)
    next.does refl
    (ap (λ (x : Readings). x.out) st.tells) (ap (λ (x : Readings). x.loading) st.tells) (ap (λ (x : Readings). x.restart) st.tells)
    (bs ∙ ap (λ (x : Readings). is_quit d || x.quits) st.tells ∙ ap (λ (x : Deed). is_quit x || (told_by t h).quits) next.does) in
    changed_next value s s' (Took by c ticket id) (deed_mask d) st may next.quiet flagged
    (subst (λ (x : Facts). AgreeOutside (deed_mask d) s.facts x) (sym fs) (deed_agrees s.facts d)) (λ c. refl) tells js refl

pub ordered_next : (value : ℕ → Facts → Reading) (s : CoreState) (by : ℕ) (o : Order) (b : Bool) (j : List CoreRecord) (n : ℕ)
    → Stands value s → s.out ≡ None → MayOrder (table_of value s) (reverse s.journal) o → b ≡ (is_load o || s.loading)
    → j ≡ s.journal ++ Ordered by o ∷ []
    → Stands value (record s { out = Some o; loading = b; journal = j; spare = n })
ordered_next value s by o b j n st none may bs js =
    same_next value s (record s { out = Some o; loading = b; journal = j; spare = n }) (Ordered by o) st (ap (λ (x : Readings). x.out) (sym st.tells) ∙ none, may) tt refl refl (λ c. refl)
    (ap (λ (x : Bool). record (readings_of s) { out = Some o; loading = x }) bs
    ∙ ap (λ (x : Readings). record x { out = Some o; loading = is_load o || x.loading }) st.tells) js refl

pub did_next : (value : ℕ → Facts → Reading) (s : CoreState) (by : ℕ) (x : Outcome) (cs : Slab ClientState) (f : Facts) (r b : Bool) (j : List CoreRecord) (n : ℕ)
    → Stands value s → IsQuiet value s → IsSomeAnd s.out (λ o. IsOutcome o x)
    → AreFlagged value s.entries s.facts (outcome_mask x) s.order s.clients cs
    → f ≡ after_did x s.facts → r ≡ restart_after x s.restart → b ≡ is_refusal x
    → j ≡ s.journal ++ Did by x ∷ []
    → Stands value (record s { clients = cs; facts = f; restart = r; refused = b; out = None; journal = j; spare = n })
did_next value s by x cs f r b j n st quiet outcome flagged fs rs bs js =
    let t : Table = table_of value s in
    let h : List CoreRecord = reverse s.journal in
    let s' : CoreState = record s { clients = cs; facts = f; restart = r; refused = b; out = None; journal = j; spare = n } in
    let tells : readings_of s' ≡ told_by t (Did by x ∷ h) = readings_by (readings_of s') (told_by t (Did by x ∷ h))
    (ap (λ (y : Readings). y.order) st.tells) (ap (λ (y : Readings). y.queued) st.tells)
    (fs ∙ ap (λ (y : Readings). after_did x y.facts) st.tells)
    (ap (λ (y : Readings). y.work) st.tells) (ap (λ (y : Readings). y.deed) st.tells) bs refl
    (ap (λ (y : Readings). y.loading) st.tells) (rs ∙ ap (λ (y : Readings). restart_after x y.restart) st.tells)
    (ap (λ (y : Readings). y.quits) st.tells) in
    changed_next value s s' (Did by x) (outcome_mask x) st
    (subst (λ (y : Readings). IsSomeAnd y.out (λ o. IsOutcome o x)) st.tells outcome) quiet flagged
    (subst (λ (y : Facts). AgreeOutside (outcome_mask x) s.facts y) (sym fs) (outcome_agrees s.facts x)) (λ c. refl) tells js refl
