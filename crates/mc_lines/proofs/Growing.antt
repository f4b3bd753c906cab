-- What every line keeps, whatever a shelf tells.
use Rattle.std.proofs.Common.{◌≡◌, ℕ, ◌<◌, ◌≤◌, Bool, true, false, List, [], ◌∷◌, ◌++◌, refl, sym, ap, ◌∙◌, arith, append_assoc}
use Rattle.std.proofs.lemmas.List.{append-nil}
use Rattle.std.proofs.lemmas.List.Folds.{list_any-append}
use Rattle.std.specs.Prelude.{◌||◌}
use Rattle.std.specs.List.{list_any, AllByRecursion}
use Rattle.mc_journal.specs.declared.record.DemuxRecord.{DemuxRecord}
use Rattle.mc_journal.specs.declared.record.DemuxRecord.TheVariants.{Dropped, Joined, Failed}
use Rattle.mc_calls.specs.Records.{IsExtra, WroteAll}
use Rattle.mc_journal.specs.Drives.{is_order, is_outcome}
use Rattle.mc_lines.specs.Calls.{FailsIn, Jobs, Outcome}
use Rattle.mc_lines.specs.Lines.{Grows, Orders}
use Rattle.mc_lines.proofs.Counts.{any-one}

-- ---- failures between two counts

wider : (a b a' b' : ℕ) → a' ≤ a → b ≤ b' → (r : DemuxRecord) → FailsIn a b r → FailsIn a' b' r
wider a b a' b' l g (Failed by before after) h = (h.0, omega (arith, l, h.1), omega (arith, g, h.2))
wider a b a' b' l g _ h = tt

all_wider : (a b a' b' : ℕ) → a' ≤ a → b ≤ b' → (rs : List DemuxRecord) → AllByRecursion (FailsIn a b) rs → AllByRecursion (FailsIn a' b') rs
all_wider a b a' b' l g [] h = tt
all_wider a b a' b' l g (r ∷ rs) h = (wider a b a' b' l g r h.0, all_wider a b a' b' l g rs h.1)

all_append : (P : DemuxRecord → Type 0) (xs ys : List DemuxRecord) → AllByRecursion P xs → AllByRecursion P ys → AllByRecursion P (xs ++ ys)
all_append P [] ys h g = g
all_append P (x ∷ xs) ys h g = (h.0, all_append P xs ys h.1 g)

extras_fail : (a b by : ℕ) (es : List DemuxRecord) → AllByRecursion (IsExtra by) es → AllByRecursion (FailsIn a b) es
extras_fail a b by [] h = tt
extras_fail a b by (Dropped n m ∷ es) h = (tt, extras_fail a b by es h.1)
extras_fail a b by (Joined n ∷ es) h = (tt, extras_fail a b by es h.1)
extras_fail a b by (_ ∷ es) h = absurd h.0

quiet_fails : (a b : ℕ) (r : DemuxRecord) → is_outcome r ≡ false → FailsIn a b r
quiet_fails a b (Failed by before after) e = absurd (cc)
quiet_fails a b _ e = tt

or_left : (a b : Bool) → (a || b) ≡ false → a ≡ false
or_left true b e = e
or_left false b e = refl

or_right : (a b : Bool) → (a || b) ≡ false → b ≡ false
or_right true b e = absurd (cc)
or_right false b e = e

all_quiet : (a b : ℕ) (rs : List DemuxRecord) → list_any is_outcome rs ≡ false → AllByRecursion (FailsIn a b) rs
all_quiet a b [] e = tt
all_quiet a b (r ∷ rs) e = (quiet_fails a b r (or_left (is_outcome r) (list_any is_outcome rs) e), all_quiet a b rs (or_right (is_outcome r) (list_any is_outcome rs) e))

-- ---- growth

pub grows_none : (n m : ℕ) (old new : List DemuxRecord) → n ≤ m → new ≡ old → Grows n m old new
grows_none n m old new l e = record { part = []; grows = e ∙ sym (append-nil old); fails = tt; later = l }

pub grows_on : (a b c : ℕ) (old now new : List DemuxRecord) → Grows a b old now → Grows b c now new → Grows a c old new
grows_on a b c old now new g h = record {
  part = g.part ++ h.part;
  grows = h.grows ∙ ap (λ (x : List DemuxRecord). x ++ h.part) g.grows ∙ append_assoc old g.part h.part;
  fails = all_append (FailsIn a c) g.part h.part (all_wider a b a c (omega arith) h.later g.part g.fails) (all_wider b c a c g.later (omega arith) h.part h.fails);
  later = omega (arith, g.later, h.later);
}

pub grows_outcome : (a b : ℕ) (old new : List DemuxRecord) → a ≤ b → Outcome a b old new → Grows a b old new
grows_outcome a b old new l o = record {
  part = o.own ∷ o.wrote.extras;
  grows = o.wrote.grows;
  fails = (o.fails, extras_fail a b 5 o.wrote.extras o.wrote.are);
  later = l;
}

-- a call with one own record that is no outcome
pub grows_quiet : (a by : ℕ) (own : DemuxRecord) (old new : List DemuxRecord) → is_outcome own ≡ false → WroteAll by (own ∷ []) old new → Grows a a old new
grows_quiet a by own old new e w = record {
  part = own ∷ w.extras;
  grows = w.grows;
  fails = (quiet_fails a a own e, extras_fail a a by w.extras w.are);
  later = omega arith;
}

pub grows_orders : (a : ℕ) (old new : List DemuxRecord) (j j' : Jobs) → Orders old new j j' → Grows a a old new
grows_orders a old new j j' o = record { part = o.part; grows = o.grows; fails = all_quiet a a o.part o.quiet; later = omega arith }

-- ---- orders

false_or : (a b : Bool) → b ≡ false → (a || b) ≡ a
false_or true b e = refl
false_or false b e = e

pub orders_none : (old new : List DemuxRecord) (j j' : Jobs) → new ≡ old → j' ≡ j → Orders old new j j'
orders_none old new j j' e f = record { part = []; grows = e ∙ sym (append-nil old); quiet = refl; same = λ q. f; newer = λ q. absurd (cc) }

-- a call with one record that is neither an order nor an outcome
pub orders_quiet : (by : ℕ) (own : DemuxRecord) (old new : List DemuxRecord) (j j' : Jobs) → is_order own ≡ false → is_outcome own ≡ false → WroteAll by (own ∷ []) old new → j' ≡ j → Orders old new j j'
orders_quiet by own old new j j' e f w same =
    let none : list_any is_order (own ∷ w.extras) ≡ false = any-one is_order (λ n m. refl, λ n. refl) own w [] ∙ e in
    record {
      part = own ∷ w.extras;
      grows = w.grows;
      quiet = any-one is_outcome (λ n m. refl, λ n. refl) own w [] ∙ f;
      same = λ q. same;
      newer = λ q. let both : false ≡ true = sym none ∙ q in absurd (cc);
    }

-- two calls, of which the second writes no order
pub orders_on : (old now new : List DemuxRecord) (j k l : Jobs) → Orders old now j k → Orders now new k l → l ≡ k → Orders old new j l
orders_on old now new j k l o p same = record {
  part = o.part ++ p.part;
  grows = p.grows ∙ ap (λ (x : List DemuxRecord). x ++ p.part) o.grows ∙ append_assoc old o.part p.part;
  quiet = list_any-append is_outcome o.part p.part ∙ rw (o.quiet, p.quiet) refl;
  same = λ q. same ∙ o.same (or_left (list_any is_order o.part) (list_any is_order p.part) (sym (list_any-append is_order o.part p.part) ∙ q));
  newer = λ q. from_first (list_any is_order p.part) refl (sym (list_any-append is_order o.part p.part) ∙ q);
} where
  from_first : (b : Bool) → list_any is_order p.part ≡ b → (list_any is_order o.part || list_any is_order p.part) ≡ true → j.number < l.number
  from_first true e q = let r : k.number < l.number = p.newer e in let s : l.number ≡ k.number = ap (λ (x : Jobs). x.number) same in absurd (omega (arith, r, s))
  from_first false e q = let first : list_any is_order o.part ≡ true = sym (false_or (list_any is_order o.part) (list_any is_order p.part) e) ∙ q in
      let r : j.number < k.number = o.newer first in let s : l.number ≡ k.number = ap (λ (x : Jobs). x.number) same in omega (arith, r, s)
