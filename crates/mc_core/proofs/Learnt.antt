-- What follows a learned view.
use Rattle.std.proofs.Common.{◌≡◌, ℕ, Bool, true, false, not, ◌&&◌, List, [], ◌∷◌, ◌++◌, refl, sym, ap, subst, ◌∙◌, reverse, is_some}
use Rattle.std.proofs.lemmas.List.{append-nil}
use Rattle.mc_packet.specs.declared.cache.CacheView.{CacheView}
use Rattle.mc_dispatch.specs.declared.request.ClientNo.{ClientNo}
use Rattle.mc_ring.specs.declared.event.Event.{Event}
use Rattle.mc_ring.specs.declared.event.Event.TheVariants as event
use Rattle.mc_props.specs.declared.facts.Facts.{Facts}
use Rattle.mc_props.specs.declared.reading.Reading.{Reading}
use Rattle.mc_player.specs.declared.record.CoreRecord.{CoreRecord}
use Rattle.mc_player.specs.declared.record.CoreRecord.TheVariants.{Learned, Wrote as WroteRecord}
use Rattle.mc_player.specs.Effects.{Effect, plan_restart, pushes_to, reply_due, rest, restart}
use Rattle.mc_player.specs.Journals.{clients, due}
use Rattle.mc_player.specs.Lives.{Table}
use Rattle.mc_state.specs.Steps.{Wrote}
use Rattle.mc_core.specs.Learning.{MayRestart}
use Rattle.mc_state.specs.Growth.{Adds, is_news, is_push}
use Rattle.mc_state.specs.Pushing.{ComesWith, coming}
use Rattle.mc_state.specs.Stands.{CoreState, IsQuiet, Readings, Stands, table_of}
use Rattle.mc_state.proofs.Growing.{adds_as, adds_record, adds_then, due_same, push_is_news, pushes_same, told_same}
use Rattle.mc_state.proofs.Steps.{as_told}

-- nothing is due behind writings and pushes that brought all that was to come
pub quiet_news : (value : ℕ → Facts → Reading) (s : CoreState) (by : ℕ) (h : List CoreRecord) → Adds is_news by h (reverse s.journal)
    → due h ≡ [] → reply_due h ≡ false → coming value s ≡ [] → IsQuiet value s
quiet_news value s by h a none still rest_is = record {
  due = due_same by h (reverse s.journal) a ∙ none;
  rest = rest_is;
  reply = ap (λ (x : Readings). is_some x.work && not (is_some x.out)) (told_same (table_of value s) by h (reverse s.journal) a) ∙ still;
}

-- each client that hears the event, told of a journal of which a longer one tells the same
pub comes_with : (value : ℕ → Facts → Reading) (e : Event) (s : CoreState) (h : List CoreRecord) (cs : List ClientNo) (later : List Effect)
    → coming value s ≡ pushes_to (table_of value s) e h cs ++ later
    → pushes_to (table_of value s) e (reverse s.journal) cs ≡ pushes_to (table_of value s) e h cs
    → cs ≡ s.order → ComesWith value e s.order later s
comes_with value e s h cs later is same os =
    is ∙ ap (λ (es : List Effect). es ++ later) (sym same)
    ∙ ap (λ (xs : List ClientNo). pushes_to (table_of value s) e (reverse s.journal) xs ++ later) os

two_more : (by : ℕ) (view : CacheView) (f : Facts) (s s1 s2 : CoreState) → Wrote s s1 (Learned by view) → Wrote s1 s2 (WroteRecord by 16 f)
    → reverse s2.journal ≡ WroteRecord by 16 f ∷ Learned by view ∷ reverse s.journal
two_more by view f s s1 s2 a b =
    as_told s1.journal s2.journal (WroteRecord by 16 f) b.journal
    ∙ ap (λ (x : List CoreRecord). WroteRecord by 16 f ∷ x) (as_told s.journal s1.journal (Learned by view) a.journal)

pub planned : (value : ℕ → Facts → Reading) (by : ℕ) (view : CacheView) (f : Facts) (s s1 s2 : CoreState) (d : Bool)
    → Stands value s → Wrote s s1 (Learned by view) → s1.order ≡ s.order
    → Wrote s1 s2 (WroteRecord by 16 f) → s2.order ≡ s1.order → d ≡ (s.restart && view.playing) → MayRestart value d s2
planned value by view f s s1 s2 d st a oa b ob ds = by_case d whole
  where
    t : Table
    t = table_of value s2

    h : List CoreRecord
    h = reverse s.journal

    longer : reverse s2.journal ≡ WroteRecord by 16 f ∷ Learned by view ∷ h
    longer = two_more by view f s s1 s2 a b

    said : d ≡ (restart h && view.playing)
    said = ds ∙ ap (λ (x : Readings). x.restart && view.playing) st.tells

    whole : coming value s2 ≡ plan_restart t h d
    whole = ap (λ (x : List CoreRecord). rest t x) longer ∙ ap (plan_restart t h) (sym said)

    by_case : (b : Bool) → coming value s2 ≡ plan_restart t h b → MayRestart value b s2
    by_case false e = e
    by_case true e =
        comes_with value event.PlaybackRestart s2 h (clients h) [] (e ∙ sym (append-nil (pushes_to t event.PlaybackRestart h (clients h))))
        (ap (λ (x : List CoreRecord). pushes_to t event.PlaybackRestart x (clients h)) longer
        ∙ pushes_same t event.PlaybackRestart h (WroteRecord by 16 f ∷ Learned by view ∷ h) (clients h) (λ c. refl))
        (sym (ob ∙ oa ∙ ap (λ (x : Readings). x.order) st.tells))

pub learnt_adds : (by : ℕ) (view : CacheView) (f : Facts) (o s s1 s2 s3 : CoreState) → s.journal ≡ o.journal
    → Wrote s s1 (Learned by view) → Wrote s1 s2 (WroteRecord by 16 f) → Adds is_push by (reverse s2.journal) (reverse s3.journal)
    → Adds is_news by (Learned by view ∷ reverse o.journal) (reverse s3.journal)
learnt_adds by view f o s s1 s2 s3 same a b c =
    let h : reverse s1.journal ≡ Learned by view ∷ reverse o.journal =
    as_told s.journal s1.journal (Learned by view) a.journal ∙ ap (λ (x : List CoreRecord). Learned by view ∷ reverse x) same in
    subst (λ (x : List CoreRecord). Adds is_news by x (reverse s3.journal)) h
    (adds_then is_news by (reverse s1.journal) (reverse s2.journal) (reverse s3.journal)
    (adds_record is_news by s1.journal s2.journal (WroteRecord by 16 f) b.journal refl refl)
    (adds_as is_push is_news by (reverse s2.journal) (reverse s3.journal) push_is_news c))
