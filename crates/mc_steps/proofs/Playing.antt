-- From what the calls of a player's core say of its journal to the steps of a world.
use Rattle.std.proofs.Common.{◌≡◌, inl, inr, ℕ, Bool, true, false, List, [], ◌∷◌, ◌++◌, None, refl, sym, ◌∙◌, append_assoc}
use Rattle.std.specs.Bool.{MatchBool}
use Rattle.std.specs.List.{AllByRecursion}
use Rattle.std.proofs.lemmas.Bool.{true≢false}
use Rattle.mc_dispatch.specs.declared.call.Call.{Call}
use Rattle.mc_dispatch.specs.declared.request.ClientNo.{ClientNo}
use Rattle.mc_player.specs.declared.record.Answer.{Answer}
use Rattle.mc_player.specs.declared.record.Order.{Order}
use Rattle.mc_player.specs.declared.record.Order.TheVariants as order
use Rattle.mc_player.specs.declared.record.CoreRecord.{CoreRecord}
use Rattle.mc_player.specs.declared.record.CoreRecord.TheVariants.{Called, Created, Destroyed, Pushed, Replied, Took, Wrote}
use Rattle.mc_player.specs.Lives.{Table}
use Rattle.mc_core.specs.Calls.{Answers, is_abort, ticket_of}
use Rattle.mc_state.specs.Growth as grown
use Rattle.mc_core.specs.Working as working
use Rattle.mc_story.specs.Steps.{Adds, Works, is_effect, is_inner}

-- ---- what comes in front

news_effect : (r : CoreRecord) → grown.is_news r ≡ true → is_effect r ≡ true
news_effect (Wrote by mask f) e = refl
news_effect (Pushed by c x kept) e = refl
news_effect r e = absurd (true≢false (sym e))

same_effect : (r : CoreRecord) → grown.is_effect r ≡ true → is_effect r ≡ true
same_effect (Wrote by mask f) e = refl
same_effect (Pushed by c x kept) e = refl
same_effect (Replied by c n x) e = refl
same_effect r e = absurd (true≢false (sym e))

reply_inner : (r : CoreRecord) → grown.is_reply r ≡ true → is_inner r ≡ true
reply_inner (Replied by c n x) e = refl
reply_inner r e = absurd (true≢false (sym e))

-- a caller's records of one test pass another
all_pass : (test other : CoreRecord → Bool) (by : ℕ) → ((r : CoreRecord) → test r ≡ true → other r ≡ true) → (rs : List CoreRecord) → AllByRecursion (grown.IsOf test by) rs
    → AllByRecursion (λ r. other r ≡ true) rs
all_pass test other by pass [] a = tt
all_pass test other by pass (r ∷ rs) a = (pass r a.0.kind, all_pass test other by pass rs a.1)

adds_by : (test other : CoreRecord → Bool) (by : ℕ) (h h' : List CoreRecord) → ((r : CoreRecord) → test r ≡ true → other r ≡ true) → grown.Adds test by h h' → Adds other h h'
adds_by test other by h h' pass a = record { extras = a.more; are = all_pass test other by pass a.more a.are; grows = a.grows }

pub news_adds : (by : ℕ) (h h' : List CoreRecord) → grown.Adds grown.is_news by h h' → Adds is_effect h h'
news_adds by h h' a = adds_by grown.is_news is_effect by h h' news_effect a

pub effects_add : (by : ℕ) (h h' : List CoreRecord) → grown.Adds grown.is_effect by h h' → Adds is_effect h h'
effects_add by h h' a = adds_by grown.is_effect is_effect by h h' same_effect a

-- ---- work

pub works : (t : Table) (by : ℕ) (h h' : List CoreRecord) (o : Order) → working.Works t by h o h' → Works t by h (working.out_by o) h'
works t by h h' order.Idle w = inl (w.0, (w.1, w.2))
works t by h h' order.Load w = w.0
works t by h h' (order.Seek time dir) w = (Took by w.0 w.1 w.2 ∷ h, (w.0, w.1, w.2, record { extras = []; are = tt; grows = refl }), w.3)
works t by h h' (order.Select set at) w = (Took by w.0 w.1 w.2 ∷ h, (w.0, w.1, w.2, record { extras = []; are = tt; grows = refl }), w.3)
works t by h h' order.Finished w = inr (w.0, w.1, w.2, effects_add by (Took by w.0 w.1 w.2 ∷ h) h' w.3)

-- ---- clients

one_inner : (r : CoreRecord) (h h' : List CoreRecord) → is_inner r ≡ true → h' ≡ r ∷ h → Adds is_inner h h'
one_inner r h h' e g = record { extras = r ∷ []; are = (e, tt); grows = g }

pub creates : (by : ℕ) (c : ClientNo) (name : List ℕ) (size : ℕ) (h h' : List CoreRecord) → h' ≡ Created by c name size ∷ h → Adds is_inner h h'
creates by c name size h h' e = one_inner (Created by c name size) h h' refl e

pub destroys : (by : ℕ) (c : ClientNo) (h h' : List CoreRecord) → h' ≡ Destroyed by c ∷ h → Adds is_inner h h'
destroys by c h h' e = one_inner (Destroyed by c) h h' refl e

all_last : (rs : List CoreRecord) (r : CoreRecord) → AllByRecursion (λ q. is_inner q ≡ true) rs → is_inner r ≡ true → AllByRecursion (λ q. is_inner q ≡ true) (rs ++ r ∷ [])
all_last [] r a e = (e, tt)
all_last (q ∷ rs) r a e = (a.0, all_last rs r a.1 e)

answers_by : (by : ℕ) (c : ClientNo) (call : Call) (a : Answer) (h h' : List CoreRecord) (abort : Bool)
    → MatchBool abort (grown.Adds grown.is_reply by (Called by c None call a ∷ h) h') (h' ≡ Called by c (ticket_of h call a) call a ∷ h) → Adds is_inner h h'
answers_by by c call a h h' true x =
    let more = adds_by grown.is_reply is_inner by (Called by c None call a ∷ h) h' reply_inner x in
    record {
      extras = more.extras ++ Called by c None call a ∷ [];
      are = all_last more.extras (Called by c None call a) more.are refl;
      grows = more.grows ∙ sym (append_assoc more.extras (Called by c None call a ∷ []) h);
    }
answers_by by c call a h h' false x = one_inner (Called by c (ticket_of h call a) call a) h h' refl x

pub answers : (by : ℕ) (c : ClientNo) (call : Call) (a : Answer) (h h' : List CoreRecord) → Answers by c call a h h' → Adds is_inner h h'
answers by c call a h h' x = answers_by by c call a h h' (is_abort call) x
