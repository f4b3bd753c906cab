-- Parts of a journal, call by call.
use Rattle.std.proofs.Common.{◌≡◌, ℕ, List, [], ◌∷◌, ◌++◌, sym, ap, subst, ◌∙◌, append_assoc}
use Rattle.std.proofs.lemmas.List.{append-nil}
use Rattle.std.specs.List.{AllByRecursion}
use Rattle.mc_journal.specs.declared.record.DemuxRecord.{DemuxRecord}
use Rattle.mc_journal.specs.declared.record.DemuxRecord.TheVariants.{Dropped, Joined}
use Rattle.mc_calls.specs.Records.{IsExtra, WroteAll}
use Rattle.mc_script.specs.declared.acts.Act.{Act}
use Rattle.mc_script.specs.Plays.{Begins, May}
use Rattle.mc_journal.specs.Drives.{Each, EndsUnder, Readings}
use Rattle.mc_journal.specs.Callers.{by_of}

pub each-append : (M : List DemuxRecord → DemuxRecord → Type 0) (a xs ys : List DemuxRecord) → Each M a xs → Each M (a ++ xs) ys → Each M a (xs ++ ys)
each-append M a [] ys h g = rw append-nil at g
each-append M a (x ∷ xs) ys h g = (h.0, each-append M (a ++ x ∷ []) xs ys h.1 (rw (append_assoc a (x ∷ []) xs) g))

pub ends_under-snoc : (by : ℕ) (a : List DemuxRecord) (r : DemuxRecord) → by ≡ by_of r → EndsUnder by (a ++ r ∷ [])
ends_under-snoc by [] r h = h
ends_under-snoc by (x ∷ []) r h = h
ends_under-snoc by (x ∷ y ∷ a) r h = ends_under-snoc by (y ∷ a) r h

-- what a call dropped and joined may stand behind its own records
pub extras_each : (rd : Readings) (act : Act) (before : List DemuxRecord) (by : ℕ) (a es : List DemuxRecord) → EndsUnder by a → AllByRecursion (IsExtra by) es → Each (May rd act before) a es
extras_each rd act before by a [] under h = tt
extras_each rd act before by a (Dropped n m ∷ es) under h =
    (subst (λ (k : ℕ). EndsUnder k a) (sym h.0) under, extras_each rd act before by (a ++ Dropped n m ∷ []) es (ends_under-snoc by a (Dropped n m) (sym h.0)) h.1)
extras_each rd act before by a (Joined n ∷ es) under h =
    (subst (λ (k : ℕ). EndsUnder k a) (sym h.0) under, extras_each rd act before by (a ++ Joined n ∷ []) es (ends_under-snoc by a (Joined n) (sym h.0)) h.1)
extras_each rd act before by a (_ ∷ es) under h = absurd h.0

-- a call with one record of its own
pub call_each : (rd : Readings) (act : Act) (before a now new : List DemuxRecord) (by : ℕ) (own : DemuxRecord) (w : WroteAll by (own ∷ []) now new) → by ≡ by_of own
    → May rd act before a own → Each (May rd act before) a (own ∷ w.extras)
call_each rd act before a now new by own w c h = (h, extras_each rd act before by (a ++ own ∷ []) w.extras (ends_under-snoc by a own c) w.are)

-- nothing was written so far
abbrev pub begin : (rd : Readings) (act : Act) (old : List DemuxRecord) → Begins rd act old old
begin rd act old = record { part = []; grows = sym (append-nil old); each = tt }

-- nothing was written by a call
pub none : (rd : Readings) (act : Act) (old new : List DemuxRecord) → new ≡ old → Begins rd act old new
none rd act old new e = subst (λ (h : List DemuxRecord). Begins rd act old h) (sym e) (begin rd act old)

-- one more call wrote
abbrev pub more : (rd : Readings) (act : Act) (old now new : List DemuxRecord) (by : ℕ) (own : DemuxRecord) (b : Begins rd act old now) (w : WroteAll by (own ∷ []) now new) → by ≡ by_of own
    → May rd act old b.part own → Begins rd act old new
more rd act old now new by own b w c h = record {
  part = b.part ++ own ∷ w.extras;
  grows = w.grows ∙ ap (λ (x : List DemuxRecord). x ++ own ∷ w.extras) b.grows ∙ append_assoc old b.part (own ∷ w.extras);
  each = each-append (May rd act old) [] b.part (own ∷ w.extras) b.each (call_each rd act old b.part now new by own w c h);
}
