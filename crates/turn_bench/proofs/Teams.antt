-- What a worker and a team of workers added.
use Rattle.std.proofs.Common.{◌≡◌, ℕ, ◌<◌, Bool, true, false, cond, eq-eqb, List, [], ◌∷◌, ◌++◌, refl, ap, sym, ◌∙◌, ⊎_elim, arith}
use Rattle.mc_turn.specs.Callers.{of_caller, Divides, Has, HasAll, Within}
use Rattle.mc_turn.specs.Passes.{Known, Seen, Carried}
use Rattle.turn_bench.specs.declared.entry.Entry.{Entry}
use Rattle.turn_bench.specs.Work.{caller_of, numbered, Filled, FilledBy, IsAlone, Teamed}

pub false_true : false ≡ true → ⊥
false_true e = cc

-- what a caller added is so still in a journal with the same entries of the caller
filled_still : (count n : ℕ) (a c : Bool) (xs ys mid journal : List Entry) → ys ≡ xs → (c ≡ true → a ≡ true) → Filled n count a ys mid → of_caller caller_of n mid ≡ of_caller caller_of n journal → Filled n count c xs journal
filled_still count n a c xs ys mid journal same all m own = (
  m.0,
  m.1,
  (λ e. m.2 (all e)),
  sym own ∙ (m.3 ∙ ap (λ (l : List Entry). of_caller caller_of n l ++ numbered n m.0) same),
)

-- a pass was cut in two, a team worked with each part, and the two were joined
module _ (count : ℕ) (a b c : Bool) (before keep given one two whole : Known Entry) (all : c ≡ true → (a ≡ true) × (b ≡ true)) (kept : keep.seen ≡ before.seen) (gave : given.seen ≡ before.seen)
    (parts : Divides before.numbers keep.numbers given.numbers) (first : Teamed count a keep one) (second : Teamed count b given two) where
  pub both_teamed : Carried caller_of one whole → Carried caller_of two whole → whole.lock ≡ before.lock → whole.inside ≡ false → Teamed count c before whole
  both_teamed mine theirs lock outside = record {
    lock = lock;
    outside = outside;
    numbers = λ n h. ⊎_elim (λ (t : Has keep.numbers n). mine.has n (first.numbers n t)) (λ (t : Has given.numbers n). theirs.has n (second.numbers n t)) (parts n h);
    filled = λ n h. ⊎_elim
        (λ (t : Has keep.numbers n). filled_still count n a c before.seen keep.seen one.seen whole.seen kept (λ e. (all e).0) (first.filled n t) (mine.own n (first.numbers n t)))
        (λ (t : Has given.numbers n). filled_still count n b c before.seen given.seen two.seen whole.seen gave (λ e. (all e).1) (second.filled n t) (theirs.own n (second.numbers n t)))
        (parts n h);
  }

-- what the callers of a new lock added, in the value that the lock gave back
pub filled_all : (count size : ℕ) (all : Bool) (before after : Known Entry) (log : List Entry) → before.seen ≡ [] → HasAll size before.numbers → Teamed count all before after → Seen caller_of after log → Within caller_of size log
    → FilledBy size count all log
filled_all count size all before after log empty has w seen within = record {
  within = within;
  filled = λ n lt. filled_still count n all all [] before.seen after.seen log empty (λ e. e) (w.filled n (has n lt)) (seen.own n (w.numbers n (has n lt)));
}

-- a log of one caller is that caller's entries
all_of_one : (log : List Entry) → Within caller_of 1 log → of_caller caller_of 0 log ≡ log
all_of_one [] w = refl
all_of_one (x ∷ xs) w = let lt = w.0 in let none : x.caller ≡ 0 = omega arith in
    ap (λ (b : Bool). cond b (x ∷ of_caller caller_of 0 xs) (of_caller caller_of 0 xs)) (eq-eqb x.caller 0 none) ∙ ap (λ (l : List Entry). x ∷ l) (all_of_one xs w.1)

-- and where nobody else had a number it is what that caller added
pub filled_alone : (count : ℕ) (all : Bool) (log : List Entry) → FilledBy 1 count all log → IsAlone count all log
filled_alone count all log f = let zero : 0 < 1 = omega arith in let m = f.filled 0 zero in (m.0, m.1, m.2, sym (all_of_one log f.within) ∙ m.3)
