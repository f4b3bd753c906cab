-- A pass between two calls.
use Rattle.std.proofs.Common.{◌≡◌, ℕ, zero, suc, length, ◌+◌, ◌-◌, ◌^◌, Bool, cond, leb, ◌<◌, true, false, List, [], ◌∷◌, Option, None, refl, ap, sym, subst, ◌∙◌, arith}
use Rattle.atomic_table.specs.Table.{Me, rest}
use Rattle.atomic_table.specs.Seated.{TableId}
use Rattle.mc_turn.specs.declared.view.View.{View}
use Rattle.mc_turn.specs.Callers.{count_from, merged}
use Rattle.mc_turn.specs.Passes.{longer, Carried}
use mathlib.Core.List.{IsPrefix}
use Rattle.std.proofs.lemmas.Bool.{leb-true, leb-false}
use Rattle.mc_turn.proofs.Journals.{prefix_self, prefix_shorter}
use Rattle.mc_turn.proofs.Numbers.{merged_length}
use Rattle.mc_turn.specs.declared.view.Stage.{Stage}
use Rattle.mc_turn.specs.declared.view.Stage.TheVariants.{Out, Waiting, Inside}
use Rattle.mc_turn.specs.Rule.{is_inside, Rests, Learns, known_of, opened, joined}

pub rests_inside : {T : Type 0} (t : ℕ) (slots : List (ℕ × Option T)) (st : Stage) → Rests t slots st → is_inside st ≡ true → (st ≡ Inside t) × (t < 2 ^ 64 - 1) × (slots ≡ (0, None) ∷ [])
rests_inside t slots Out r e = absurd cc
rests_inside t slots (Waiting k) r e = absurd r
rests_inside t slots (Inside k) r e = (ap Inside r.0, subst (λ (n : ℕ). n < 2 ^ 64 - 1) r.0 r.1, r.2)

pub rests_outside : {T : Type 0} (t : ℕ) (slots : List (ℕ × Option T)) (st : Stage) → Rests t slots st → is_inside st ≡ false → (st ≡ Out) × (slots ≡ [])
rests_outside t slots Out r e = (refl, r)
rests_outside t slots (Waiting k) r e = absurd r
rests_outside t slots (Inside k) r e = absurd cc

-- the first of the slots stands before the rest of them
pub stands_first : {T : Type 0} (slots more : List (ℕ × Option T)) (x : ℕ × Option T) → slots ≡ x ∷ more → slots ≡ x ∷ rest slots
stands_first slots more x e = e ∙ ap (λ l. x ∷ rest l) (sym e)

count_length : (n k : ℕ) → k ≡ length (count_from n k)
count_length n zero = refl
count_length n (suc k) = ap suc (count_length (suc n) k)

-- a new pass is outside
pub begins : {T E : Type 0} (m : Me (Option T) (View E)) (seen : List E) (count : ℕ) → m ≡ (opened seen count, []) → (count ≡ length m.0.numbers) × Rests 0 m.1 m.0.stage
begins {T} {E} m seen count e = subst (λ (x : Me (Option T) (View E)). (count ≡ length x.0.numbers) × Rests 0 x.1 x.0.stage) (sym e) (count_length 0 count, refl)

-- of two beginnings of one history the longer begins with both
pub longer_first : {E : Type 0} (xs ys h : List E) → IsPrefix xs h → IsPrefix ys h → IsPrefix xs (longer xs ys) × IsPrefix ys (longer xs ys)
longer_first xs ys h p q = by_length (leb (length xs) (length ys)) refl
  where
    by_length : (b : Bool) → leb (length xs) (length ys) ≡ b → IsPrefix xs (cond b ys xs) × IsPrefix ys (cond b ys xs)
    by_length true e = (prefix_shorter xs ys h p q (leb-true (length xs) (length ys) e), prefix_self ys)
    by_length false e = let lt : length ys < length xs = leb-false (length xs) (length ys) e in (prefix_self xs, prefix_shorter ys xs h q p (omega arith))

-- the pass after a join, and what it is told
module _ {T E : Type 0} (by : E → ℕ) (m n : Me (Option T) (View E)) (v w : View E) (slots : List (ℕ × Option T)) (e : m ≡ (joined v w, slots)) where
  told : Learns by m n → Learns by (joined v w, slots) n
  told h = subst (λ (x : Me (Option T) (View E)). Learns by x n) e h

  pub sum_of : (a b : ℕ) → a ≡ length v.numbers → b ≡ length w.numbers → a + b ≡ length m.0.numbers
  sum_of a b h l = let k = merged_length v.numbers w.numbers in let is : length m.0.numbers ≡ length (merged v.numbers w.numbers) = ap (λ x. length x.0.numbers) e in omega (arith, h, l)

  pub rests_after : (a b t : ℕ) → Learns by m n → a ≡ length v.numbers → b ≡ length w.numbers → slots ≡ [] → (a + b ≡ length n.0.numbers) × Rests t n.1 n.0.stage
  rests_after a b t h p q none_held = subst (λ (x : Me (Option T) (View E)). (a + b ≡ length x.0.numbers) × Rests t x.1 x.0.stage) (sym (told h).0)
      ((let k = merged_length v.numbers w.numbers in omega (arith, p, q)), none_held)

  -- what each of the two passes knew the joined one knows
  pub carried_both : (a b c : TableId) → Learns by m n → Carried by (known_of a v) (known_of c n.0) × Carried by (known_of b w) (known_of c n.0)
  carried_both a b c h = let t = told h in let p = t.2.3.0 in let q = t.2.3.1.0 in let first = longer_first v.seen w.seen t.2.0 p.0 q.0 in
      subst (λ (x : Me (Option T) (View E)). Carried by (known_of a v) (known_of c x.0) × Carried by (known_of b w) (known_of c x.0)) (sym t.0) (
        record { first = first.0; own = λ k has. p.1 k has ∙ sym (t.2.2 k (p.2 k has)); has = p.2 },
        record { first = first.1; own = λ k has. q.1 k has ∙ sym (t.2.2 k (q.2 k has)); has = q.2 },
      )
