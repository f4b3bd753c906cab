-- What a call added bears its caller's number, and what the core holds behind it.
use Rattle.std.proofs.Common.{◌≡◌, ℕ, Bool, true, false, List, ◌∷◌, None, refl, sym, subst}
use Rattle.std.specs.Bool.{MatchBool}
use Rattle.std.specs.Prelude.{IfOk, OnOk, Result, Ok, Err}
use Rattle.mc_dispatch.specs.declared.call.Call.{Call}
use Rattle.mc_dispatch.specs.declared.request.ClientNo.{ClientNo}
use Rattle.mc_player.specs.Callers.{by_of}
use Rattle.mc_player.specs.declared.record.Answer.{Answer}
use Rattle.mc_player.specs.declared.record.Order.{Order}
use Rattle.mc_player.specs.declared.record.Order.TheVariants as order
use Rattle.mc_player.specs.declared.record.CoreRecord.{CoreRecord}
use Rattle.mc_player.specs.declared.record.CoreRecord.TheVariants.{Called, Created, Ordered, Took}
use Rattle.mc_player.specs.Lives.{Table}
use Rattle.mc_core.specs.Calls.{Answers, is_abort, ticket_of}
use Rattle.mc_state.specs.Growth.{Adds, Grew, any, is_effect, is_reply}
use Rattle.mc_core.specs.Working.{Works}
use Rattle.mc_core.specs.declared.core_error.CoreError.{CoreError}
use Rattle.mc_state.proofs.Growing.{adds_as, adds_none, adds_one, adds_then}

pub grew_one : (by : ℕ) (h h' : List CoreRecord) (r : CoreRecord) → h' ≡ r ∷ h → by_of r ≡ by → Grew by h h'
grew_one by h h' r e own = adds_one any by h h' r e refl own

pub grew_behind : (test : CoreRecord → Bool) (by : ℕ) (h h' : List CoreRecord) (r : CoreRecord) → by_of r ≡ by → Adds test by (r ∷ h) h' → Grew by h h'
grew_behind test by h h' r own a =
    adds_then any by h (r ∷ h) h' (grew_one by h (r ∷ h) r refl own)
    (adds_as test any by (r ∷ h) h' (λ x e. refl) a)

pub grew_two : (by : ℕ) (h h' : List CoreRecord) (r q : CoreRecord) → h' ≡ q ∷ r ∷ h → by_of r ≡ by → by_of q ≡ by → Grew by h h'
grew_two by h h' r q e own own' =
    adds_then any by h (r ∷ h) h' (grew_one by h (r ∷ h) r refl own) (grew_one by (r ∷ h) h' q e own')

pub grew_works : (t : Table) (by : ℕ) (h h' : List CoreRecord) (o : Order) → Works t by h o h' → Grew by h h'
grew_works t by h h' order.Idle w = subst (λ (x : List CoreRecord). Grew by h x) (sym w.0) (adds_none any by h)
grew_works t by h h' order.Load w = grew_one by h h' (Ordered by order.Load) w.0 refl
grew_works t by h h' (order.Seek time dir) w = grew_two by h h' (Took by w.0 w.1 w.2) (Ordered by (order.Seek time dir)) w.3 refl refl
grew_works t by h h' (order.Select set at) w = grew_two by h h' (Took by w.0 w.1 w.2) (Ordered by (order.Select set at)) w.3 refl refl
grew_works t by h h' order.Finished w = grew_behind is_effect by h h' (Took by w.0 w.1 w.2) refl w.3

pub grew_answers : (by : ℕ) (c : ClientNo) (call : Call) (a : Answer) (h h' : List CoreRecord) → Answers by c call a h h' → Grew by h h'
grew_answers by c call a h h' w = of (is_abort call) w
  where
    of : (b : Bool) → MatchBool b (Adds is_reply by (Called by c None call a ∷ h) h') (h' ≡ Called by c (ticket_of h call a) call a ∷ h) → Grew by h h'
    of true x = grew_behind is_reply by h h' (Called by c None call a) refl x
    of false e = grew_one by h h' (Called by c (ticket_of h call a) call a) e refl

pub grew_created : (by : ℕ) (name : List ℕ) (size : ℕ) (h h' : List CoreRecord) (r : Result ClientNo CoreError)
    → IfOk r (λ c. h' ≡ Created by c name size ∷ h) → OnOk r (Grew by h h')
grew_created by name size h h' (Ok c) e = grew_one by h h' (Created by c name size) e refl
grew_created by name size h h' (Err x) e = tt
