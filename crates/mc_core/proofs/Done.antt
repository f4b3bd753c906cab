-- The outcome of an order, its effects, and the reply to what is worked.
use Rattle.std.proofs.Common.{◌≡◌, ℕ, Bool, List, [], ◌∷◌, length, Option, Some, None, refl, sym, ap, subst, ◌∙◌, reverse}
use Rattle.std.specs.Prelude.{IsSomeAnd, if◌then◌else◌}
use Rattle.mc_dispatch.specs.declared.request.ClientNo.{ClientNo}
use Rattle.mc_dispatch.specs.declared.request.Request.{Request}
use Rattle.mc_props.specs.declared.facts.Facts.{Facts}
use Rattle.mc_props.specs.declared.reading.Reading.{Reading}
use Rattle.mc_player.specs.declared.deed.Deed.{Deed}
use Rattle.mc_player.specs.declared.record.Outcome.{Outcome}
use Rattle.mc_player.specs.declared.record.CoreRecord.{CoreRecord}
use Rattle.mc_player.specs.declared.record.CoreRecord.TheVariants.{Did}
use Rattle.mc_player.specs.Deeds.{command_error, deed_error, deed_value, reply_of}
use Rattle.mc_player.specs.Effects.{plan_did, rest}
use Rattle.mc_player.specs.Journals.{due, is_refusal}
use Rattle.mc_player.specs.Lives.{Table}
use Rattle.mc_player.specs.Rules.{IsReply}
use Rattle.mc_state.specs.Steps.{Wrote}
use Rattle.mc_deeds.specs.Closes.{Ends, IsAfter, error_behind}
use Rattle.mc_core.specs.Doing.{EndsNow}
use Rattle.mc_deeds.specs.Follow.{IsTwice, plan_follow}
use Rattle.mc_state.specs.Growth.{Adds, is_effect, is_news, is_reply}
use Rattle.mc_state.specs.Pushing.{coming}
use Rattle.mc_state.specs.Replying.{error_now}
use Rattle.mc_state.specs.Stands.{CoreState, IsQuiet, Readings, Stands, readings_of, table_of}
use Rattle.mc_deeds.specs.declared.replies.End.{End}
use Rattle.mc_deeds.specs.declared.follow.Follow.{Follow}
use Rattle.mc_deeds.specs.declared.follow.Twice.{Twice}
use Rattle.mc_state.proofs.Growing.{adds_as, adds_then, due_same}
use Rattle.mc_state.proofs.Steps.{as_told}
use Rattle.mc_core.proofs.Worked.{follow_due, news_is_effect, reply_is_effect, same_table}

did_coming : (value : ℕ → Facts → Reading) (by : ℕ) (x : Outcome) (s s' : CoreState) → Wrote s s' (Did by x)
    → coming value s' ≡ plan_did (table_of value s) (reverse s.journal) x
did_coming value by x s s' w =
    ap (λ (y : Table). rest y (reverse s'.journal)) (same_table value s s' w.entries)
    ∙ ap (λ (y : List CoreRecord). rest (table_of value s) y) (as_told s.journal s'.journal (Did by x) w.journal)

pub after_due : (value : ℕ → Facts → Reading) (by : ℕ) (x : Outcome) (y : Follow) (s s1 : CoreState) → Stands value s
    → IsAfter s.facts (length s.order) x y → Wrote s s1 (Did by x) → s1.order ≡ s.order
    → coming value s1 ≡ plan_follow (table_of value s1) (reverse s1.journal) s1.order y
after_due value by x y s s1 st is w os =
    follow_due value s s1 (Did by x) y (plan_did (table_of value s) (reverse s.journal) x) w
    (ap (λ (z : Readings). z.order) st.tells) os (λ e c. refl)
    (did_coming value by x s s1 w) (is.plan (table_of value s) (reverse s.journal))

-- the core behind the effects of an outcome
pub record IsDone (by : ℕ) (x : Outcome) (o s s1 s2 : CoreState) : Type 0 where
  pub begun : s.journal ≡ o.journal
  pub did : Wrote s s1 (Did by x)
  pub work : (s1.work ≡ s.work) × (s1.deed ≡ s.deed)
  pub none : (s1.out ≡ None) × (s1.refused ≡ is_refusal x)
  pub news : Adds is_news by (reverse s1.journal) (reverse s2.journal)
  pub same : readings_of s2 ≡ readings_of s1

did_told : (by : ℕ) (x : Outcome) (o s s1 s2 : CoreState) → IsDone by x o s s1 s2 → reverse s1.journal ≡ Did by x ∷ reverse o.journal
did_told by x o s s1 s2 d =
    as_told s.journal s1.journal (Did by x) d.did.journal ∙ ap (λ (y : List CoreRecord). Did by x ∷ reverse y) d.begun

pub done_due : (value : ℕ → Facts → Reading) (by : ℕ) (x : Outcome) (o s s1 s2 : CoreState) → IsQuiet value o → IsDone by x o s s1 s2
    → due (reverse s2.journal) ≡ []
done_due value by x o s s1 s2 quiet d =
    due_same by (reverse s1.journal) (reverse s2.journal) d.news ∙ ap due (did_told by x o s s1 s2 d) ∙ quiet.due

some_end : (c : ClientNo) (n : ℕ) (e : Twice) (x : Outcome) (s s2 : CoreState) (w : Option Request)
    → IsSomeAnd w (λ q. (q.client ≡ c) × (q.ticket ≡ n) × IsTwice (reply_of q.call (error_behind x s.deed) (deed_value s.deed)) e)
    → error_now s2 ≡ error_behind x s.deed → deed_value s2.deed ≡ deed_value s.deed
    → IsSomeAnd w (λ q. IsReply c n e.event q (error_now s2) (deed_value s2.deed))
some_end c n e x s s2 None h wrong given = absurd h
some_end c n e x s s2 (Some q) h wrong given = record {
  of_client = sym h.0;
  of_ticket = sym h.1;
  same = (h.2).first ∙ ap (λ y. reply_of q.call y (deed_value s.deed)) (sym wrong)
      ∙ ap (λ v. reply_of q.call (error_now s2) v) (sym given);
}

twice_told : (c : ClientNo) (n : ℕ) (e : Twice) (x : Outcome) (s : CoreState) (w : Option Request)
    → IsSomeAnd w (λ q. (q.client ≡ c) × (q.ticket ≡ n) × IsTwice (reply_of q.call (error_behind x s.deed) (deed_value s.deed)) e)
    → e.told ≡ e.event
twice_told c n e x s None h = absurd h
twice_told c n e x s (Some q) h = (h.2).second ∙ sym (h.2).first

pub ends_now : (value : ℕ → Facts → Reading) (by : ℕ) (x : Outcome) (o s s1 s2 : CoreState) (end : Option End) → IsQuiet value o → IsDone by x o s s1 s2
    → Ends x s.work s.deed end → coming value s2 ≡ [] → EndsNow value end s2
ends_now value by x o s s1 s2 None quiet d ends nothing = ap (λ (y : Readings). y.work) d.same ∙ d.work.0 ∙ ends
ends_now value by x o s s1 s2 (Some e) quiet d ends nothing =
    let work : s2.work ≡ s.work = ap (λ (y : Readings). y.work) d.same ∙ d.work.0 in
    let wrong : error_now s2 ≡ error_behind x s.deed =
    ap (λ (y : Readings). if y.refused then command_error else deed_error y.deed) d.same
    ∙ ap (λ (b : Bool). if b then command_error else deed_error s1.deed) d.none.1
    ∙ ap (λ (y : Deed). if is_refusal x then command_error else deed_error y) d.work.1 in
    let given : deed_value s2.deed ≡ deed_value s.deed =
    ap (λ (y : Readings). deed_value y.deed) d.same ∙ ap deed_value d.work.1 in (
      record {
        none_due = done_due value by x o s s1 s2 quiet d;
        none_left = nothing;
        none_out = ap (λ (y : Readings). y.out) d.same ∙ d.none.0;
        reply = subst (λ (w : Option Request). IsSomeAnd w (λ q. IsReply e.client e.ticket e.reply.event q (error_now s2) (deed_value s2.deed))) (sym work)
            (some_end e.client e.ticket e.reply x s s2 s.work ends.0 wrong given);
      },
      twice_told e.client e.ticket e.reply x s s.work ends.0,
      ends.1,
    )

pub done_adds : (by : ℕ) (x : Outcome) (o s s1 s2 s3 : CoreState) → IsDone by x o s s1 s2 → Adds is_reply by (reverse s2.journal) (reverse s3.journal)
    → Adds is_effect by (Did by x ∷ reverse o.journal) (reverse s3.journal)
done_adds by x o s s1 s2 s3 d b =
    subst (λ (y : List CoreRecord). Adds is_effect by y (reverse s3.journal)) (did_told by x o s s1 s2 d)
    (adds_then is_effect by (reverse s1.journal) (reverse s2.journal) (reverse s3.journal)
    (adds_as is_news is_effect by (reverse s1.journal) (reverse s2.journal) news_is_effect d.news)
    (adds_as is_reply is_effect by (reverse s2.journal) (reverse s3.journal) reply_is_effect b))
