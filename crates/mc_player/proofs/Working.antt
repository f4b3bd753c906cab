-- What stands of a plan, and what is still to come of it, are the plan.
use Rattle.std.proofs.Common.{◌≡◌, ℕ, List, [], ◌∷◌, ◌++◌, drop, refl, sym, ap, ◌∙◌, append-nil}
use Rattle.mc_dispatch.specs.declared.request.ClientNo.{ClientNo}
use Rattle.mc_dispatch.specs.declared.request.Request.{Request}
use Rattle.mc_ring.specs.declared.event.Event.{Event}
use Rattle.mc_player.specs.declared.record.Order.{Order}
use Rattle.mc_player.specs.declared.record.Order.TheVariants as order
use Rattle.mc_player.specs.declared.record.CoreRecord.{CoreRecord}
use Rattle.mc_player.specs.declared.record.CoreRecord.TheVariants.{Created, Destroyed, Called, Learned, Wrote, Took, Ordered, Did, Pushed, Replied}
use Rattle.mc_player.specs.Effects.{Effect, Give, Push, Write, rest}
use Rattle.mc_player.specs.Journals.{due}
use Rattle.mc_player.specs.Laws.{AtEach, Each, IsUnderWay, WholeBefore}
use Rattle.mc_player.specs.Lives.{Table}
use Rattle.mc_player.specs.Plans.{plan, told}
use Rattle.mc_player.specs.Rules.{IsAllowed, MayOrder, MayReply}
use Rattle.mc_player.proofs.Lists.{put_next}

abbrev Joins : Table → List CoreRecord → Type 0
Joins t h = told h ++ rest t h ≡ plan t h

order_step : (t : Table) (by : ℕ) (h : List CoreRecord) (o : Order) → Joins t h → MayOrder t h o → Joins t (Ordered by o ∷ h)
order_step t by h order.Load j may = ap (λ (es : List Effect). drop 1 es) (may.1).rest
order_step t by h (order.Seek time dir) j may = put_next (told h) (rest t h) (plan t h) (Give (order.Seek time dir)) j may
order_step t by h (order.Select set at) j may = put_next (told h) (rest t h) (plan t h) (Give (order.Select set at)) j may
order_step t by h order.Idle j may = absurd may
order_step t by h order.Finished j may = absurd may

pub joins : (t : Table) (h : List CoreRecord) → IsAllowed t h → told h ++ rest t h ≡ plan t h
joins t [] all = refl
joins t (Wrote by mask f ∷ h) all = put_next (told h) (rest t h) (plan t h) (Write mask) (joins t h all.1) all.0.0.0
joins t (Pushed by c e kept ∷ h) all = put_next (told h) (rest t h) (plan t h) (Push c e) (joins t h all.1) all.0.0.next
joins t (Ordered by o ∷ h) all = order_step t by h o (joins t h all.1) all.0.0.1
joins t (Replied by c n e ∷ h) all = joins t h all.1
joins t (Created by c name size ∷ h) all = refl
joins t (Destroyed by c ∷ h) all = refl
joins t (Called by c ticket x a ∷ h) all = refl
joins t (Learned by view ∷ h) all = refl
joins t (Took by c n id ∷ h) all = refl
joins t (Did by x ∷ h) all = refl

pub under_way : (t : Table) (h : List CoreRecord) → IsAllowed t h → AtEach (IsUnderWay t) h
under_way t [] all = (rest t [], joins t [] all)
under_way t (r ∷ h) all = ((rest t (r ∷ h), joins t (r ∷ h) all), under_way t h all.1)

whole : (t : Table) (h : List CoreRecord) → IsAllowed t h → rest t h ≡ [] → told h ≡ plan t h
whole t h all none = sym (append-nil (told h)) ∙ (ap (λ (es : List Effect). told h ++ es) (sym none) ∙ joins t h all)

reply_whole : (t : Table) (h : List CoreRecord) (c : ClientNo) (n : ℕ) (e : Event) (ds : List Request) → due h ≡ ds → IsAllowed t h → MayReply t h ds c n e
    → due h ≡ [] → told h ≡ plan t h
reply_whole t h c n e [] is all may none = whole t h all may.none_left
reply_whole t h c n e (q ∷ qs) is all may none = absurd (let z : q ∷ qs ≡ [] = sym is ∙ none in cc)

pub whole_before : (t : Table) (h : List CoreRecord) → IsAllowed t h → Each (WholeBefore t) h
whole_before t [] all = tt
whole_before t (Wrote by mask f ∷ h) all = (tt, whole_before t h all.1)
whole_before t (Pushed by c e kept ∷ h) all = (tt, whole_before t h all.1)
whole_before t (Ordered by o ∷ h) all = (tt, whole_before t h all.1)
whole_before t (Replied by c n e ∷ h) all = (reply_whole t h c n e (due h) refl all.1 all.0.0, whole_before t h all.1)
whole_before t (Created by c name size ∷ h) all = (whole t h all.1 (all.0.1).rest, whole_before t h all.1)
whole_before t (Destroyed by c ∷ h) all = (whole t h all.1 (all.0.1).rest, whole_before t h all.1)
whole_before t (Called by c ticket x a ∷ h) all = (whole t h all.1 (all.0.1).rest, whole_before t h all.1)
whole_before t (Learned by view ∷ h) all = (whole t h all.1 (all.0.1).rest, whole_before t h all.1)
whole_before t (Took by c n id ∷ h) all = (whole t h all.1 (all.0.1).rest, whole_before t h all.1)
whole_before t (Did by x ∷ h) all = (whole t h all.1 (all.0.1).rest, whole_before t h all.1)
