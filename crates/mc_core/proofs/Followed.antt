-- What follows a taken request or an outcome, one part after the other.
use Rattle.std.proofs.Common.{◌≡◌, ℕ, List, [], ◌∷◌, ◌++◌, refl, sym, ap, subst, ◌∙◌, drop, reverse}
use Rattle.mc_dispatch.specs.declared.request.ClientNo.{ClientNo}
use Rattle.mc_ring.specs.declared.event.Event.{Event}
use Rattle.mc_props.specs.declared.entries.PropEntry.{PropEntry}
use Rattle.mc_props.specs.declared.facts.Facts.{Facts}
use Rattle.mc_props.specs.declared.reading.Reading.{Reading}
use Rattle.mc_player.specs.declared.record.CoreRecord.{CoreRecord}
use Rattle.mc_player.specs.declared.record.CoreRecord.TheVariants.{Wrote as WroteRecord}
use Rattle.mc_player.specs.Effects.{Effect, Write, pushes_to, rest}
use Rattle.mc_player.specs.Lives.{Table}
use Rattle.mc_state.specs.Steps.{Wrote}
use Rattle.mc_state.specs.Growth.{Adds, is_news, is_push}
use Rattle.mc_state.specs.Pushing.{ComesWith, Within, coming}
use Rattle.mc_state.specs.Stands.{CoreState, table_of}
use Rattle.mc_state.proofs.Growing.{adds_as, adds_record, push_is_news}
use Rattle.mc_state.proofs.Steps.{as_told}
use Rattle.mc_state.proofs.Telling.{comes_behind, same_order}

pub news_of : (by : ℕ) (s s' : CoreState) → Adds is_push by (reverse s.journal) (reverse s'.journal) → Adds is_news by (reverse s.journal) (reverse s'.journal)
news_of by s s' a = adds_as is_push is_news by (reverse s.journal) (reverse s'.journal) push_is_news a

pub wrote_news : (by mask : ℕ) (f : Facts) (s s' : CoreState) → Wrote s s' (WroteRecord by mask f) → Adds is_news by (reverse s.journal) (reverse s'.journal)
wrote_news by mask f s s' w = adds_record is_news by s.journal s'.journal (WroteRecord by mask f) w.journal refl refl

-- an event is next to be pushed behind other pushes, and nothing behind it
pub next_comes : (value : ℕ → Facts → Reading) (e : Event) (by n : ℕ) (s s' : CoreState)
    → coming value s' ≡ pushes_to (table_of value s) e (reverse s.journal) s.order
    → Adds is_news by (reverse s.journal) (reverse s'.journal) → Within n s s' → ComesWith value e s'.order [] s'
next_comes value e by n s s' comes adds w =
    subst (λ (cs : List ClientNo). ComesWith value e cs [] s') (sym (same_order n s s' w))
    (comes_behind value e by s s' s.order [] (comes ∙ sym (append-nil-of (pushes_to (table_of value s) e (reverse s.journal) s.order))) adds w.entries)
  where
    append-nil-of : (es : List Effect) → es ++ [] ≡ es
    append-nil-of [] = refl
    append-nil-of (x ∷ xs) = ap (λ (ys : List Effect). x ∷ ys) (append-nil-of xs)

-- behind a writing comes what was behind it
pub behind_write : (value : ℕ → Facts → Reading) (by mask : ℕ) (f : Facts) (later : List Effect) (s s' : CoreState)
    → coming value s ≡ Write mask ∷ later → Wrote s s' (WroteRecord by mask f) → coming value s' ≡ later
behind_write value by mask f later s s' comes w =
    let ts : table_of value s' ≡ table_of value s = ap (λ (x : List PropEntry). record { value = value; entries = x }) w.entries in
    ap (λ (x : Table). rest x (reverse s'.journal)) ts
    ∙ ap (λ (x : List CoreRecord). rest (table_of value s) x) (as_told s.journal s'.journal (WroteRecord by mask f) w.journal)
    ∙ ap (λ (es : List Effect). drop 1 es) comes
