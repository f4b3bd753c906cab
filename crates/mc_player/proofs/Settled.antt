-- What a poll answers, in the words of records; and what it settles.
use Rattle.std.proofs.Common.{◌≡◌, ℕ, ◌+◌, Bool, true, false, List, [], ◌∷◌, ◌++◌, length, drop, Option, Some, None, refl, sym, ap, subst, ◌∙◌}
use Rattle.std.specs.Prelude.{IfSome, IsSomeAnd}
use Rattle.std.specs.List.{AllByRecursion}
use Rattle.std.proofs.lemmas.Bool.{eq-eqb}
use Rattle.std.proofs.lemmas.List.{drop_at}
use Rattle.mc_value.specs.declared.value.Format.{Format}
use Rattle.mc_value.specs.declared.value.Value.{Value}
use Rattle.mc_dispatch.specs.declared.call.Call.{Call}
use Rattle.mc_dispatch.specs.declared.call.Call.TheVariants as call
use Rattle.mc_dispatch.specs.declared.request.ClientNo.{ClientNo}
use Rattle.mc_ring.specs.declared.event.Event.{Event}
use Rattle.mc_ring.specs.declared.event.Event.TheVariants as event
use Rattle.mc_props.specs.declared.facts.Facts.{Facts}
use Rattle.mc_client.specs.Seen.{Seen, first_unsettled, is_settled, news_of, poll_by}
use Rattle.mc_player.specs.declared.record.Answer.{Answer}
use Rattle.mc_player.specs.declared.record.Answer.TheVariants as answer
use Rattle.mc_player.specs.declared.record.CoreRecord.{CoreRecord}
use Rattle.mc_player.specs.declared.record.CoreRecord.TheVariants.{Created, Destroyed, Called, Learned, Wrote, Took, Ordered, Did, Pushed, Replied}
use Rattle.mc_player.specs.Facts.{facts_of, life_of}
use Rattle.mc_player.specs.Laws.{AllSettled, ChangeStands, Each, PollStands, poll_told, unsettled}
use Rattle.mc_player.specs.Lives.{Life, Table, next_event, now}
use Rattle.mc_player.specs.Rings.{accepted, give, polled, watched, watches}
use Rattle.mc_player.specs.Rules.{IsAllowed, MayCall}
use Rattle.mc_player.proofs.News.{give_first, none_new, one_settled}
use Rattle.mc_player.proofs.Telling.{Enters, IsTold, told}

-- what is left of the ring
left : (ps es acc : List Event) → ps ++ es ≡ acc → es ≡ drop (length ps) acc
left ps es acc e = sym (drop_at ps es (length ps) refl) ∙ ap (λ (xs : List Event). drop (length ps) xs) e

poll_words : (t : Table) (c : ℕ) (h : List CoreRecord) (l : Life) → IsTold t c h l → next_event t (facts_of t h) l ≡ poll_told t c h
poll_words t c h l s = rw (left (polled c h) l.ring.events (accepted c h) s.events, s.chokes, s.seen) refl

-- an answer of nothing, or of a change, is no event of the ring
not_none : (e : Event) → Enters e → e ≡ event.None → ⊥
not_none e kind is = let k : Enters event.None = subst Enters is kind in cc

not_change : (e : Event) (id : ℕ) (name : List ℕ) (format : Format) (v : Value) → Enters e → e ≡ event.Change id name format v → ⊥
not_change e id name format v kind is = let k : Enters (event.Change id name format v) = subst Enters is kind in cc

news_none : (t : Table) (f : Facts) (w : Option Seen) → news_of (now t f) w ≡ event.None → w ≡ None
news_none t f None is = refl
news_none t f (Some w) is = absurd (cc)

none_settled : (t : Table) (f : Facts) (es : List Event) (b : Bool) (ws : List Seen) → AllByRecursion Enters es → poll_by (now t f) es b ws ≡ event.None → AllByRecursion (λ w. is_settled (now t f) w ≡ true) ws
none_settled t f (e ∷ es) b ws kinds is = absurd (not_none e kinds.0 is)
none_settled t f [] true ws kinds is = absurd (cc)
none_settled t f [] false ws kinds is = none_new t f ws (news_none t f (first_unsettled (now t f) ws) is)

event_same : (a b : Event) → answer.Event a ≡ answer.Event b → a ≡ b
event_same a b e = cc

poll_life : (t : Table) (h : List CoreRecord) (c : ClientNo) (ticket : Option ℕ) (a : Answer) (o : Option Life) → IfSome o (IsTold t c.0 h) → IsSomeAnd o (MayCall t h c ticket call.Poll a)
    → (a ≡ answer.Event (poll_told t c.0 h)) × (a ≡ answer.Event event.None → AllSettled t c.0 h)
poll_life t h c ticket a None s may = absurd may
poll_life t h c ticket a (Some l) s may = (
  may.same ∙ ap (λ (e : Event). answer.Event e) (poll_words t c.0 h l s),
  λ none. subst (λ (ws : List Seen). AllByRecursion (λ w. is_settled (now t (facts_of t h)) w ≡ true) ws) s.seen
      (none_settled t (facts_of t h) l.ring.events l.ring.choked l.seen s.kinds (event_same (next_event t (facts_of t h) l) event.None (sym may.same ∙ none))),
)

-- ---- a change

changed : (t : Table) (f : Facts) (ws : List Seen) (w : Option Seen) (id : ℕ) (name : List ℕ) (format : Format) (v : Value) → first_unsettled (now t f) ws ≡ w
    → news_of (now t f) w ≡ event.Change id name format v → unsettled t f (give t f id name (format, v) ws) + 1 ≡ unsettled t f ws
changed t f ws None id name format v first is = absurd (cc)
changed t f ws (Some w) id name format v first is =
    subst (λ (e : Event). unsettled t f (watched t f call.Poll (answer.Event e) ws) + 1 ≡ unsettled t f ws) is
    (subst (λ (us : List Seen). unsettled t f us + 1 ≡ unsettled t f ws) (sym (give_first t f ws w first)) (one_settled t f ws w first))

change_settles : (t : Table) (f : Facts) (es : List Event) (b : Bool) (ws : List Seen) (id : ℕ) (name : List ℕ) (format : Format) (v : Value) → AllByRecursion Enters es
    → poll_by (now t f) es b ws ≡ event.Change id name format v → unsettled t f (give t f id name (format, v) ws) + 1 ≡ unsettled t f ws
change_settles t f (e ∷ es) b ws id name format v kinds is = absurd (not_change e id name format v kinds.0 is)
change_settles t f [] true ws id name format v kinds is = absurd (cc)
change_settles t f [] false ws id name format v kinds is = changed t f ws (first_unsettled (now t f) ws) id name format v refl is

change_life : (t : Table) (h : List CoreRecord) (c : ClientNo) (ticket : Option ℕ) (id : ℕ) (name : List ℕ) (format : Format) (v : Value) (o : Option Life) → IfSome o (IsTold t c.0 h)
    → IsSomeAnd o (MayCall t h c ticket call.Poll (answer.Event (event.Change id name format v)))
    → unsettled t (facts_of t h) (give t (facts_of t h) id name (format, v) (watches t c.0 h)) + 1 ≡ unsettled t (facts_of t h) (watches t c.0 h)
change_life t h c ticket id name format v None s may = absurd may
change_life t h c ticket id name format v (Some l) s may =
    subst (λ (ws : List Seen). unsettled t (facts_of t h) (give t (facts_of t h) id name (format, v) ws) + 1 ≡ unsettled t (facts_of t h) ws) s.seen
    (change_settles t (facts_of t h) l.ring.events l.ring.choked l.seen id name format v s.kinds (sym (event_same (event.Change id name format v) (next_event t (facts_of t h) l) may.same)))

-- ---- every journal

poll_stands : (t : Table) (by : ℕ) (h : List CoreRecord) (c : ClientNo) (ticket : Option ℕ) (x : Call) (a : Answer) → IsAllowed t h → IsSomeAnd (life_of t c.0 h) (MayCall t h c ticket x a)
    → PollStands t (Called by c ticket x a) h
poll_stands t by h c ticket call.Poll a all may = poll_life t h c ticket a (life_of t c.0 h) (told t c.0 h all) may
poll_stands t by h c ticket (call.Observe id name format) a all may = tt
poll_stands t by h c ticket (call.Unobserve id) a all may = tt
poll_stands t by h c ticket (call.Event n on) a all may = tt
poll_stands t by h c ticket (call.Command id words) a all may = tt
poll_stands t by h c ticket (call.Get id name format) a all may = tt
poll_stands t by h c ticket (call.Set id name v) a all may = tt
poll_stands t by h c ticket (call.Abort id) a all may = tt

pub polls_stand : (t : Table) (h : List CoreRecord) → IsAllowed t h → Each (PollStands t) h
polls_stand t [] all = tt
polls_stand t (Called by c ticket x a ∷ h) all = (poll_stands t by h c ticket x a all.1 all.0.0, polls_stand t h all.1)
polls_stand t (Created by c name size ∷ h) all = (tt, polls_stand t h all.1)
polls_stand t (Destroyed by c ∷ h) all = (tt, polls_stand t h all.1)
polls_stand t (Learned by view ∷ h) all = (tt, polls_stand t h all.1)
polls_stand t (Wrote by mask f ∷ h) all = (tt, polls_stand t h all.1)
polls_stand t (Took by c n id ∷ h) all = (tt, polls_stand t h all.1)
polls_stand t (Ordered by o ∷ h) all = (tt, polls_stand t h all.1)
polls_stand t (Did by x ∷ h) all = (tt, polls_stand t h all.1)
polls_stand t (Pushed by c e kept ∷ h) all = (tt, polls_stand t h all.1)
polls_stand t (Replied by c n e ∷ h) all = (tt, polls_stand t h all.1)

change_stands : (t : Table) (h : List CoreRecord) (r : CoreRecord) → IsAllowed t (r ∷ h) → ChangeStands t r h
change_stands t h (Called by c ticket call.Poll (answer.Event (event.Change id name format v))) all =
    rw (eq-eqb c.0 c.0 refl) (change_life t h c ticket id name format v (life_of t c.0 h) (told t c.0 h all.1) all.0.0)
change_stands t h r all = tt

pub changes_stand : (t : Table) (h : List CoreRecord) → IsAllowed t h → Each (ChangeStands t) h
changes_stand t [] all = tt
changes_stand t (r ∷ h) all = (change_stands t h r all, changes_stand t h all.1)
