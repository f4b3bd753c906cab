-- A ring is full just where its records say so, and what is pushed to a client it hears.
use Rattle.std.proofs.Common.{◌≡◌, ℕ, Bool, true, false, not, List, [], ◌∷◌, length, Option, Some, None, sym, ap, subst, ◌∙◌}
use Rattle.std.specs.Prelude.{nat_eq, IfSome, IsSomeAnd, ⊤}
use Rattle.std.specs.Bool.{MatchBool}
use Rattle.std.specs.List.{list_any}
use Rattle.std.proofs.lemmas.Bool.{not-true}
use Rattle.mc_dispatch.specs.declared.call.Call.{Call}
use Rattle.mc_dispatch.specs.declared.request.ClientNo.{ClientNo}
use Rattle.mc_ring.specs.Event.{event_number}
use Rattle.mc_ring.specs.Ring.{is_full}
use Rattle.mc_ring.specs.declared.event.Event.{Event}
use Rattle.mc_player.specs.declared.record.Answer.{Answer}
use Rattle.mc_player.specs.declared.record.Answer.TheVariants as answer
use Rattle.mc_player.specs.declared.record.CoreRecord.{CoreRecord}
use Rattle.mc_player.specs.declared.record.CoreRecord.TheVariants.{Created, Destroyed, Called, Learned, Wrote, Took, Ordered, Did, Pushed, Replied}
use Rattle.mc_player.specs.Deeds.{invalid_parameter, queue_full}
use Rattle.mc_player.specs.Effects.{hears}
use Rattle.mc_player.specs.Facts.{life_of}
use Rattle.mc_player.specs.Laws.{Each, FullTold, IsTaken, PushStands, RequestStands}
use Rattle.mc_player.specs.Lives.{Life, Table}
use Rattle.mc_player.specs.Rings.{full, off}
use Rattle.mc_player.specs.Rules.{IsAccepted, IsAllowed, IsAnswered, MayCall, MayPush, answer_of, is_bad, is_request}
use Rattle.mc_player.specs.Tickets.{used}
use Rattle.mc_player.proofs.Hearing.{heard}
use Rattle.mc_player.proofs.Replies.{unused}
use Rattle.mc_player.proofs.Room.{IsCounted, counted}
use Rattle.mc_player.proofs.Telling.{IsTold, told}

push_by : (t : Table) (c : ℕ) (h : List CoreRecord) (e : Event) (kept : Bool) (o : Option Life) → hears e o ≡ true → IfSome o (IsTold t c h) → IfSome o (IsCounted t c h)
    → IsSomeAnd o (λ l. kept ≡ not (is_full l.ring)) → (off c (event_number e) h ≡ false) × (kept ≡ not (full c h))
push_by t c h e kept None on s k fate = absurd fate
push_by t c h e kept (Some l) on s k fate =
    (sym (s.offs (event_number e)) ∙ not-true (list_any (nat_eq (event_number e)) l.off) on, fate ∙ ap (λ (b : Bool). not b) (sym k.fills))

push_stands : (t : Table) (h : List CoreRecord) (c : ClientNo) (e : Event) (kept : Bool) → IsAllowed t h → MayPush t h c e kept → PushStands h c.0 e kept
push_stands t h c e kept all may =
    let k = heard t h c e may.next in
    let p = push_by t c.0 h e kept (life_of t c.0 h) k.1 (told t c.0 h all) (counted t c.0 h all) may.fate in
    record { kind = k.0; heard = p.0; fate = p.1 }

taken_new : (h : List CoreRecord) (ticket : Option ℕ) (a : Answer) → used (length h) h ≡ false → IsAccepted h ticket a → IsTaken h ticket a
taken_new h ticket a free may = record { new = by_ticket ticket may.new; same = may.same }
  where
    by_ticket : (o : Option ℕ) → o ≡ Some (length h) → IsSomeAnd o (λ n. used n h ≡ false)
    by_ticket None e = absurd (cc)
    by_ticket (Some n) e = let same : n ≡ length h = cc in subst (λ (k : ℕ). used k h ≡ false) (sym same) free

by_fullness : (h : List CoreRecord) (ticket : Option ℕ) (a : Answer) (f : Bool) → used (length h) h ≡ false
    → MatchBool f (IsAnswered ticket a (answer.Refused queue_full)) (IsAccepted h ticket a) → MatchBool f (IsAnswered ticket a (answer.Refused queue_full)) (IsTaken h ticket a)
by_fullness h ticket a true free may = may
by_fullness h ticket a false free may = taken_new h ticket a free may

by_form : (h : List CoreRecord) (ticket : Option ℕ) (a : Answer) (bad f : Bool) → used (length h) h ≡ false
    → MatchBool bad (IsAnswered ticket a (answer.Refused invalid_parameter)) (MatchBool f (IsAnswered ticket a (answer.Refused queue_full)) (IsAccepted h ticket a))
    → MatchBool bad (IsAnswered ticket a (answer.Refused invalid_parameter)) (MatchBool f (IsAnswered ticket a (answer.Refused queue_full)) (IsTaken h ticket a))
by_form h ticket a true f free may = may
by_form h ticket a false f free may = by_fullness h ticket a f free may

by_kind : (h : List CoreRecord) (ticket : Option ℕ) (a b : Answer) (asks bad f : Bool) → used (length h) h ≡ false
    → MatchBool asks (MatchBool bad (IsAnswered ticket a (answer.Refused invalid_parameter)) (MatchBool f (IsAnswered ticket a (answer.Refused queue_full)) (IsAccepted h ticket a))) (IsAnswered ticket a b)
    → MatchBool asks (MatchBool bad (IsAnswered ticket a (answer.Refused invalid_parameter)) (MatchBool f (IsAnswered ticket a (answer.Refused queue_full)) (IsTaken h ticket a))) ⊤
by_kind h ticket a b true bad f free may = by_form h ticket a bad f free may
by_kind h ticket a b false bad f free may = tt

call_by : (t : Table) (h : List CoreRecord) (c : ClientNo) (ticket : Option ℕ) (x : Call) (a : Answer) (o : Option Life) → used (length h) h ≡ false → IfSome o (IsCounted t c.0 h)
    → IsSomeAnd o (MayCall t h c ticket x a) → MatchBool (is_request x) (RequestStands h c.0 ticket x a) ⊤
call_by t h c ticket x a None free k may = absurd may
call_by t h c ticket x a (Some l) free k may =
    subst (λ (f : Bool). MatchBool (is_request x) (MatchBool (is_bad x) (IsAnswered ticket a (answer.Refused invalid_parameter)) (MatchBool f (IsAnswered ticket a (answer.Refused queue_full)) (IsTaken h ticket a))) ⊤) (sym k.fills)
    (by_kind h ticket a (answer_of t h c l x) (is_request x) (is_bad x) (is_full l.ring) free may)

call_stands : (t : Table) (h : List CoreRecord) (c : ClientNo) (ticket : Option ℕ) (x : Call) (a : Answer) → IsAllowed t h → IsSomeAnd (life_of t c.0 h) (MayCall t h c ticket x a)
    → MatchBool (is_request x) (RequestStands h c.0 ticket x a) ⊤
call_stands t h c ticket x a all may = call_by t h c ticket x a (life_of t c.0 h) (unused t h all) (counted t c.0 h all) may

pub full_told : (t : Table) (h : List CoreRecord) → IsAllowed t h → Each FullTold h
full_told t [] all = tt
full_told t (Pushed by c e kept ∷ h) all = (push_stands t h c e kept all.1 all.0.0, full_told t h all.1)
full_told t (Called by c ticket x a ∷ h) all = (call_stands t h c ticket x a all.1 all.0.0, full_told t h all.1)
full_told t (Created by c name size ∷ h) all = (tt, full_told t h all.1)
full_told t (Destroyed by c ∷ h) all = (tt, full_told t h all.1)
full_told t (Learned by view ∷ h) all = (tt, full_told t h all.1)
full_told t (Wrote by mask f ∷ h) all = (tt, full_told t h all.1)
full_told t (Took by c n id ∷ h) all = (tt, full_told t h all.1)
full_told t (Ordered by o ∷ h) all = (tt, full_told t h all.1)
full_told t (Did by x ∷ h) all = (tt, full_told t h all.1)
full_told t (Replied by c n e ∷ h) all = (tt, full_told t h all.1)
