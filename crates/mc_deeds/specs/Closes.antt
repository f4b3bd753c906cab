-- How a taken request ends, and what comes behind an outcome.
use Rattle.std.specs.Prelude.{◌≡◌, ℕ, ℤ, IsTrue, if◌then◌else◌, List, Option, Some, None, IsSomeAnd}
use Rattle.mc_client.specs.Client.{is_reply}
use Rattle.mc_dispatch.specs.declared.call.Call.{Call}
use Rattle.mc_dispatch.specs.declared.request.Request.{Request}
use Rattle.mc_props.specs.declared.facts.Facts.{Facts}
use Rattle.mc_player.specs.declared.deed.Deed.{Deed}
use Rattle.mc_player.specs.declared.deed.Deed.TheVariants as deed
use Rattle.mc_player.specs.declared.record.Order.{Order}
use Rattle.mc_player.specs.declared.record.Order.TheVariants as order
use Rattle.mc_player.specs.declared.record.Outcome.{Outcome}
use Rattle.mc_player.specs.declared.record.CoreRecord.{CoreRecord}
use Rattle.mc_player.specs.Deeds.{command_error, deed_error, deed_value, reply_of}
use Rattle.mc_player.specs.Effects.{plan_deed, plan_did}
use Rattle.mc_player.specs.Facts.{after_did}
use Rattle.mc_player.specs.Journals.{clients, is_refusal}
use Rattle.mc_player.specs.Lives.{Table}
use Rattle.mc_deeds.specs.Follow.{FitsFollow, IsTwice, plan_follow}
use Rattle.mc_deeds.specs.declared.closes.Close.{Close}
use Rattle.mc_deeds.specs.declared.closes.Close.TheVariants as close
use Rattle.mc_deeds.specs.declared.follow.Follow.{Follow}
use Rattle.mc_deeds.specs.declared.replies.End.{End}

-- the order that a deed asks for
abbrev pub order_in : Deed → Option Order
order_in (deed.Seeks t dir) = Some (order.Seek t dir)
order_in (deed.Selects set at) = Some (order.Select set at)
order_in d = None

-- this stands for the effects of the deed, at the facts after it and for so many clients
pub record IsFollow (f : Facts) (n : ℕ) (d : Deed) (x : Follow) : Type 0 where
  pub plan : (t : Table) (h : List CoreRecord)
      → plan_follow t h (clients h) x ≡ plan_deed t h d
  pub fits : FitsFollow f n x

-- how a taken request ends: with the order that it asks for, or with its effects and its reply
abbrev pub IsClose : Facts → ℕ → Call → Deed → Close → Type 0
IsClose f n call d (close.Orders o) = order_in d ≡ Some o
IsClose f n call d (close.Replies x p) = IsFollow f n d x
    × IsTwice (reply_of call (deed_error d) (deed_value d)) p × IsTrue (is_reply p.event)

-- this stands for the effects of the outcome
pub record IsAfter (f : Facts) (n : ℕ) (x : Outcome) (y : Follow) : Type 0 where
  pub plan : (t : Table) (h : List CoreRecord)
      → plan_follow t h (clients h) y ≡ plan_did t h x
  pub fits : FitsFollow (after_did x f) n y

-- the error of the reply behind an outcome
abbrev pub error_behind : Outcome → Deed → ℤ
error_behind x d = if is_refusal x then command_error else deed_error d

-- this is the reply to the request
abbrev pub EndsIt : Outcome → Deed → Request → End → Type 0
EndsIt x d q e = (q.client ≡ e.client) × (q.ticket ≡ e.ticket)
    × IsTwice (reply_of q.call (error_behind x d) (deed_value d)) e.reply

-- the reply to what is worked, if anything is
abbrev pub Ends : Outcome → Option Request → Deed → Option End → Type 0
Ends x w d None = w ≡ None
Ends x w d (Some e) = IsSomeAnd w (λ q. EndsIt x d q e) × IsTrue (is_reply e.reply.event)
