-- What a call changes of a count, and of a test of some record.
use Rattle.std.proofs.Common.{◌≡◌, ℕ, ◌+◌, ◌<◌, Bool, true, false, cond, List, [], ◌∷◌, ◌++◌, length, refl, ap, ◌∙◌, arith, length-append}
use Rattle.std.specs.Prelude.{◌||◌, count_by}
use Rattle.std.specs.List.{list_any, AllByRecursion}
use Rattle.std.proofs.lemmas.List.Sums.{sum_by-append, sum_by-cons}
use Rattle.std.proofs.lemmas.List.Folds.{list_any-append}
use Rattle.mc_journal.specs.declared.record.DemuxRecord.{DemuxRecord}
use Rattle.mc_journal.specs.declared.record.DemuxRecord.TheVariants.{Dropped, Joined}
use Rattle.mc_journal.specs.declared.record.Removal.{Removal}
use Rattle.mc_calls.specs.Records.{IsExtra, WroteAll}

-- a test that no drop and no join passes
abbrev pub Skips : (DemuxRecord → Bool) → Type 0
Skips p = ((n : ℕ) (m : Removal) → p (Dropped n m) ≡ false) × ((n : ℕ) → p (Joined n) ≡ false)

count-extras : (p : DemuxRecord → Bool) → Skips p → (by : ℕ) (es : List DemuxRecord) → AllByRecursion (IsExtra by) es → count_by p es ≡ 0
count-extras p s by [] h = refl
count-extras p s by (Dropped n m ∷ es) h = sum_by-cons (λ x. cond (p x) 1 0) (Dropped n m) es ∙ rw (s.0 n m) (omega (arith, count-extras p s by es h.1))
count-extras p s by (Joined n ∷ es) h = sum_by-cons (λ x. cond (p x) 1 0) (Joined n) es ∙ rw (s.1 n) (omega (arith, count-extras p s by es h.1))
count-extras p s by (_ ∷ es) h = absurd h.0

pub count-call : (p : DemuxRecord → Bool) → Skips p → {by : ℕ} {owns now new : List DemuxRecord} (w : WroteAll by owns now new) (a : List DemuxRecord)
    → count_by p (a ++ (owns ++ w.extras)) ≡ count_by p a + count_by p owns
count-call p s {by} {owns} {now} {new} w a =
    let none : count_by p w.extras ≡ 0 = count-extras p s by w.extras w.are in
    let parts : count_by p (owns ++ w.extras) ≡ count_by p owns + count_by p w.extras = sum_by-append (λ x. cond (p x) 1 0) owns w.extras in
    let both : count_by p (a ++ (owns ++ w.extras)) ≡ count_by p a + count_by p (owns ++ w.extras) = sum_by-append (λ x. cond (p x) 1 0) a (owns ++ w.extras) in
    omega (arith, none, parts, both)

-- a call with one record of its own
pub count-one : (p : DemuxRecord → Bool) → Skips p → {by : ℕ} {now new : List DemuxRecord} (own : DemuxRecord) (w : WroteAll by (own ∷ []) now new) (a : List DemuxRecord)
    → count_by p (a ++ own ∷ w.extras) ≡ count_by p a + cond (p own) 1 0
count-one p s own w a = count-call p s w a ∙ ap (λ (n : ℕ). count_by p a + n) (sum_by-cons (λ x. cond (p x) 1 0) own [] ∙ omega arith)

any-extras : (p : DemuxRecord → Bool) → Skips p → (by : ℕ) (es : List DemuxRecord) → AllByRecursion (IsExtra by) es → list_any p es ≡ false
any-extras p s by [] h = refl
any-extras p s by (Dropped n m ∷ es) h = rw (s.0 n m) (any-extras p s by es h.1)
any-extras p s by (Joined n ∷ es) h = rw (s.1 n) (any-extras p s by es h.1)
any-extras p s by (_ ∷ es) h = absurd h.0

pub or-false : (b : Bool) → (b || false) ≡ b
or-false true = refl
or-false false = refl

pub any-call : (p : DemuxRecord → Bool) → Skips p → {by : ℕ} {owns now new : List DemuxRecord} (w : WroteAll by owns now new) (a : List DemuxRecord)
    → list_any p (a ++ (owns ++ w.extras)) ≡ (list_any p a || list_any p owns)
any-call p s {by} {owns} {now} {new} w a =
    list_any-append p a (owns ++ w.extras)
    ∙ ap (λ (b : Bool). list_any p a || b) (list_any-append p owns w.extras ∙ ap (λ (b : Bool). list_any p owns || b) (any-extras p s by w.extras w.are) ∙ or-false (list_any p owns))

pub any-one : (p : DemuxRecord → Bool) → Skips p → {by : ℕ} {now new : List DemuxRecord} (own : DemuxRecord) (w : WroteAll by (own ∷ []) now new) (a : List DemuxRecord)
    → list_any p (a ++ own ∷ w.extras) ≡ (list_any p a || p own)
any-one p s own w a = any-call p s w a ∙ ap (λ (b : Bool). list_any p a || b) (or-false (p own))

-- a journal grows by each call that writes
pub longer : {by : ℕ} {own : DemuxRecord} {owns now new : List DemuxRecord} → WroteAll by (own ∷ owns) now new → length now < length new
longer {by} {own} {owns} {now} {new} w = rw w.grows (omega (arith, length-append now (own ∷ (owns ++ w.extras))))
