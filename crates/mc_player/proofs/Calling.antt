-- What calls that are no requests are answered, in the words of records.
use Rattle.std.proofs.Common.{ℕ, not, List, [], ◌∷◌, length, Option, Some, None, ap, ◌∙◌}
use Rattle.std.specs.Prelude.{filter, nat_le, IfSome, IsSomeAnd}
use Rattle.mc_dispatch.specs.declared.call.Call.{Call}
use Rattle.mc_dispatch.specs.declared.call.Call.TheVariants as call
use Rattle.mc_dispatch.specs.declared.request.ClientNo.{ClientNo}
use Rattle.mc_client.specs.Seen.{Seen}
use Rattle.mc_player.specs.declared.record.Answer.{Answer}
use Rattle.mc_player.specs.declared.record.Answer.TheVariants as answer
use Rattle.mc_player.specs.declared.record.CoreRecord.{CoreRecord}
use Rattle.mc_player.specs.declared.record.CoreRecord.TheVariants.{Created, Destroyed, Called, Learned, Wrote, Took, Ordered, Did, Pushed, Replied}
use Rattle.mc_player.specs.Facts.{life_of}
use Rattle.mc_player.specs.Laws.{CallStands, Each}
use Rattle.mc_player.specs.Lives.{Life, Table, bears}
use Rattle.mc_player.specs.Rules.{IsAllowed, MayCall, done_if}
use Rattle.mc_player.proofs.Telling.{IsTold, told}

call_life : (t : Table) (by : ℕ) (h : List CoreRecord) (c : ClientNo) (ticket : Option ℕ) (x : Call) (a : Answer) (o : Option Life) → IfSome o (IsTold t c.0 h)
    → IsSomeAnd o (MayCall t h c ticket x a) → CallStands t (Called by c ticket x a) h
call_life t by h c ticket x a None s may = absurd may
call_life t by h c ticket (call.Observe id name format) a (Some l) s may =
    may.same ∙ ap (λ (ws : List Seen). done_if (not (nat_le 1000 (length ws)))) s.seen
call_life t by h c ticket (call.Unobserve id) a (Some l) s may =
    may.same ∙ ap (λ (ws : List Seen). answer.Removed (length (filter (bears id) ws))) s.seen
call_life t by h c ticket (call.Event n on) a (Some l) s may = may.same
call_life t by h c ticket (call.Abort id) a (Some l) s may = may.same
call_life t by h c ticket call.Poll a (Some l) s may = tt
call_life t by h c ticket (call.Command id words) a (Some l) s may = tt
call_life t by h c ticket (call.Get id name format) a (Some l) s may = tt
call_life t by h c ticket (call.Set id name v) a (Some l) s may = tt

pub calls_stand : (t : Table) (h : List CoreRecord) → IsAllowed t h → Each (CallStands t) h
calls_stand t [] all = tt
calls_stand t (Called by c ticket x a ∷ h) all = (call_life t by h c ticket x a (life_of t c.0 h) (told t c.0 h all.1) all.0.0, calls_stand t h all.1)
calls_stand t (Created by c name size ∷ h) all = (tt, calls_stand t h all.1)
calls_stand t (Destroyed by c ∷ h) all = (tt, calls_stand t h all.1)
calls_stand t (Learned by view ∷ h) all = (tt, calls_stand t h all.1)
calls_stand t (Wrote by mask f ∷ h) all = (tt, calls_stand t h all.1)
calls_stand t (Took by c n id ∷ h) all = (tt, calls_stand t h all.1)
calls_stand t (Ordered by o ∷ h) all = (tt, calls_stand t h all.1)
calls_stand t (Did by x ∷ h) all = (tt, calls_stand t h all.1)
calls_stand t (Pushed by c e kept ∷ h) all = (tt, calls_stand t h all.1)
calls_stand t (Replied by c n e ∷ h) all = (tt, calls_stand t h all.1)
