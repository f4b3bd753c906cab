-- Laws of the lock's words, for the proofs of its users: they speak of what the calls' clauses say, and of nothing else.
use Rattle.std.specs.Prelude.{◌≡◌, ℕ, zero, suc, ◌+◌, ◌<◌, ◌≤◌, Bool, true, false, cond, List, [], ◌∷◌, ◌++◌, length}
use Rattle.std.specs.List.{AllByRecursion}
use Rattle.std.proofs.Common.{eqb, eq-eqb, refl, ap, sym, ◌∙◌, subst, inl, inr, arith, zero-le, append_assoc, length-append}
use mathlib.Core.Logic.{dite}
use mathlib.Core.List.{append-nil}
use native.Mathlib.Decide.{ℕ_discrete}
use Rattle.std.proofs.lemmas.List.Elements.{filter-append}
use Rattle.mc_turn.specs.Callers.{of_caller, Has, HasAll, Bear, Within, Extends, Makes, count_from}
use Rattle.mc_turn.specs.Passes.{Known, Seen, Carried, known}
use Rattle.mc_turn.specs.Workers.{GrewAs, Made, Worked}

-- Numbers

-- the one number of a pass
pub has_only : (numbers : List ℕ) (n : ℕ) → numbers ≡ n ∷ [] → Has numbers n
has_only numbers n is = subst (λ (l : List ℕ). Has l n) (sym is) (inl refl)

pub from_length : (n k : ℕ) → length (count_from n k) ≡ k
from_length n zero = refl
from_length n (suc k) = ap suc (from_length (suc n) k)

-- each number from n on and below n + k is one of the k numbers from n on
pub from_has : (n k m : ℕ) → n ≤ m → m < n + k → Has (count_from n k) m
from_has n zero m le lt = absurd (omega arith)
from_has n (suc k) m le lt = dite (ℕ_discrete n m) (λ e. inl e) (λ ne. inr (from_has (suc n) k m (omega arith) (omega arith)))

pub first_has : (k m : ℕ) → m < k → Has (count_from 0 k) m
first_has k m lt = from_has 0 k m zero-le (omega arith)

-- some of the numbers from a first one on, and not all, may be split off
pub may_split : (ns : List ℕ) (first size count : ℕ) → ns ≡ count_from first size → 1 ≤ count → count < size → (1 ≤ count) × (count < length ns)
may_split ns first size count is some fewer = (some, subst (λ (k : ℕ). count < k) (sym (ap length is ∙ from_length first size)) fewer)

-- What one caller made

module _ {E : Type 0} (by : E → ℕ) where
  all_append : (P : E → Type 0) (xs ys : List E) → AllByRecursion P xs → AllByRecursion P ys → AllByRecursion P (xs ++ ys)
  all_append P [] ys p q = q
  all_append P (x ∷ xs) ys p q = (p.0, all_append P xs ys p.1 q)

  pub bear_all : (ns : List ℕ) (n : ℕ) (xs : List E) → Has ns n → AllByRecursion (λ x. by x ≡ n) xs → Bear by ns xs
  bear_all ns n [] has all = tt
  bear_all ns n (x ∷ xs) has all = (subst (Has ns) (sym all.0) has, bear_all ns n xs has all.1)

  pub all_own : (n : ℕ) (xs : List E) → AllByRecursion (λ x. by x ≡ n) xs → of_caller by n xs ≡ xs
  all_own n [] all = refl
  all_own n (x ∷ xs) all = ap (λ (b : Bool). cond b (x ∷ of_caller by n xs) (of_caller by n xs)) (eq-eqb (by x) n all.0) ∙ ap (λ (l : List E). x ∷ l) (all_own n xs all.1)

  -- a caller of a pass made nothing more than the pass has seen
  pub makes_none : (pass : Known E) (n : ℕ) (journal : List E) → Has pass.numbers n → Seen by pass journal → Makes by n [] pass.seen journal
  makes_none pass n journal has seen = sym (seen.own n has) ∙ sym (append-nil (of_caller by n pass.seen))

  -- one turn more of a caller: what it finds is as it was left, and behind it stand these entries of its own
  pub makes_more : (n : ℕ) (calls new xs mid journal ys : List E) → Makes by n calls xs mid → of_caller by n mid ≡ of_caller by n journal → ys ≡ journal ++ new
      → AllByRecursion (λ x. by x ≡ n) new → Makes by n (calls ++ new) xs ys
  makes_more n calls new xs mid journal ys made same e own = ap (of_caller by n) e ∙ (filter-append (λ (x : E). eqb (by x) n) journal new
      ∙ (ap (λ (l : List E). of_caller by n journal ++ l) (all_own n new own)
      ∙ (ap (λ (l : List E). l ++ new) (sym same ∙ made) ∙ append_assoc (of_caller by n xs) calls new)))

  -- Passes that were joined

  pub carried_self : (pass : Known E) → Carried by pass pass
  carried_self pass = record { first = ([], append-nil pass.seen); own = λ n h. refl; has = λ n h. h }

  pub carried_trans : (a b c : Known E) → Carried by a b → Carried by b c → Carried by a c
  carried_trans a b c p q = record {
    first = (p.first.0 ++ q.first.0, sym (append_assoc a.seen p.first.0 q.first.0) ∙ (ap (λ (l : List E). l ++ q.first.0) p.first.1 ∙ q.first.1));
    own = λ n h. p.own n h ∙ q.own n (p.has n h);
    has = λ n h. q.has n (p.has n h);
  }

  -- what a pass knows of a journal, one that was joined to it knows too
  pub carried_seen : (a b : Known E) (journal : List E) → Carried by a b → Seen by b journal → Seen by a journal
  carried_seen a b journal p q = record {
    first = (p.first.0 ++ q.first.0, sym (append_assoc a.seen p.first.0 q.first.0) ∙ (ap (λ (l : List E). l ++ q.first.0) p.first.1 ∙ q.first.1));
    own = λ n h. p.own n h ∙ q.own n (p.has n h);
  }

  -- Journals that are seen whole

  within_rest : (count : ℕ) (xs ys : List E) → Within by count (xs ++ ys) → Within by count ys
  within_rest count [] ys w = w
  within_rest count (x ∷ xs) ys w = within_rest count xs ys w.1

  nothing_more : (n : ℕ) (x : E) (xs seen : List E) → by x ≡ n → of_caller by n seen ≡ of_caller by n (seen ++ x ∷ xs) → ⊥
  nothing_more n x xs seen is same =
      let first : of_caller by n (x ∷ xs) ≡ x ∷ of_caller by n xs = ap (λ (b : Bool). cond b (x ∷ of_caller by n xs) (of_caller by n xs)) (eq-eqb (by x) n is) in
      let all : of_caller by n seen ≡ of_caller by n seen ++ x ∷ of_caller by n xs = same ∙ (filter-append (λ (y : E). eqb (by y) n) seen (x ∷ xs) ∙ ap (λ (l : List E). of_caller by n seen ++ l) first) in
      omega (arith, ap length all ∙ length-append (of_caller by n seen) (x ∷ of_caller by n xs))

  no_rest : (count : ℕ) (pass : Known E) (rest journal : List E) → pass.seen ++ rest ≡ journal → HasAll count pass.numbers → Within by count journal → Seen by pass journal → journal ≡ pass.seen
  no_rest count pass [] journal e all w seen = sym e ∙ append-nil pass.seen
  no_rest count pass (x ∷ xs) journal e all w seen =
      let v : Within by count (x ∷ xs) = within_rest count pass.seen (x ∷ xs) (subst (Within by count) (sym e) w) in
      absurd (nothing_more (by x) x xs pass.seen refl (seen.own (by x) (all (by x) v.0) ∙ ap (of_caller by (by x)) (sym e)))

  -- who has all numbers that were handed out has seen all: what it finds is what it left
  pub seen_whole : (count : ℕ) (pass : Known E) (journal : List E) → HasAll count pass.numbers → Within by count journal → Seen by pass journal → journal ≡ pass.seen
  seen_whole count pass journal all w seen = no_rest count pass seen.first.0 journal seen.first.1 all w seen

  -- Workers

  module _ (P : E → Type 0) (n : ℕ) where
    pub none_grew : (old new : List E) → new ≡ old → GrewAs by P n old new
    none_grew old new e = record { more = []; grows = e ∙ sym (append-nil old); are = tt; such = tt }

    pub made_none : (xs ys : List E) → of_caller by n xs ≡ of_caller by n ys → Made by P n xs ys
    made_none xs ys same = record { calls = []; makes = sym same ∙ sym (append-nil (of_caller by n xs)); are = tt }

    -- what was made is so still in a journal with the same entries of the caller
    pub made_still : (xs mid ys : List E) → Made by P n xs mid → of_caller by n mid ≡ of_caller by n ys → Made by P n xs ys
    made_still xs mid ys m same = record { calls = m.calls; makes = sym same ∙ m.makes; are = m.are }

    -- a worker that takes no turn
    pub worked_none : (pass : Known E) → pass.inside ≡ false → Worked by P n pass pass
    worked_none pass out = record { lock = refl; outside = out; numbers = refl; made = made_none pass.seen pass.seen refl }

    -- what a worker made, in a journal that its pass knows
    pub made_seen : (xs journal : List E) (before mid : Known E) → before.seen ≡ xs → before.numbers ≡ n ∷ [] → Worked by P n before mid → Seen by mid journal → Made by P n xs journal
    made_seen xs journal before mid start is w seen = subst (λ (l : List E). Made by P n l journal) start
        (made_still before.seen mid.seen journal w.made (seen.own n (has_only mid.numbers n (w.numbers ∙ is))))

    -- and as the pass that its own was joined to has seen it
    pub made_joined : (xs : List E) (before mid after : Known E) → before.seen ≡ xs → before.numbers ≡ n ∷ [] → Worked by P n before mid → Carried by mid after → Made by P n xs after.seen
    made_joined xs before mid after start is w c = made_seen xs after.seen before mid start is w record { first = c.first; own = c.own }

    -- a turn: a pass that was `mid` enters, finds `old`, leaves `new`, and is `after` then
    module _ (before mid inside : Known E) (old new : List E) (w : Worked by P n before mid) (is : before.numbers ≡ n ∷ [])
        (enters : inside ≡ known mid.lock mid.numbers old true) (g : GrewAs by P n old new) where
      pub may_leave : Extends by inside.numbers inside.seen new
      may_leave = (
        g.more,
        ap (λ (k : Known E). k.seen ++ g.more) enters ∙ sym g.grows,
        bear_all inside.numbers n g.more (has_only inside.numbers n (ap (λ (k : Known E). k.numbers) enters ∙ (w.numbers ∙ is))) g.are,
      )

      pub worked_turn : (after : Known E) → Seen by mid old → after ≡ known inside.lock inside.numbers new false → Worked by P n before after
      worked_turn after seen leaves = subst (Worked by P n before) (sym (leaves ∙ ap (λ (k : Known E). known k.lock k.numbers new false) enters)) record {
        lock = w.lock;
        outside = refl;
        numbers = w.numbers;
        made = record {
          calls = w.made.calls ++ g.more;
          makes = makes_more n w.made.calls g.more before.seen mid.seen old new w.made.makes (seen.own n (has_only mid.numbers n (w.numbers ∙ is))) g.grows g.are;
          are = all_append P w.made.calls g.more w.made.are g.such;
        };
      }
