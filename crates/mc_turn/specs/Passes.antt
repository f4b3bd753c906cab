-- What a caller of the lock sees of a pass, and what it knows of the value's journal.
use Rattle.std.specs.Prelude.{ℕ, Bool, false, cond, leb, List, length}
use mathlib.Core.List.{IsPrefix}
use Rattle.atomic_table.specs.Seated.{TableId}
use Rattle.mc_turn.specs.Callers.{Has, SameOwn, count_from, merged}

-- which lock it is, and how many caller numbers were handed out with it, those below `callers`
pub record Lock : Type 0 where
  pub table : TableId
  pub callers : ℕ

abbrev pub lock_of : TableId → ℕ → Lock
lock_of table callers = record { table = table; callers = callers }

-- which lock it is of, its caller numbers, the part of the journal that it has seen, and whether it is inside
pub record Known (E : Type 0) : Type 0 where
  pub lock : Lock
  pub numbers : List ℕ
  pub seen : List E
  pub inside : Bool

abbrev pub known : {E : Type 0} → Lock → List ℕ → List E → Bool → Known E
known lock numbers seen inside = record { lock = lock; numbers = numbers; seen = seen; inside = inside }

-- the first pass of a lock: it is outside, has all numbers, and has seen the value's journal
abbrev pub first_pass : {E : Type 0} → Lock → ℕ → List E → Known E
first_pass lock numbers journal = known lock (count_from 0 numbers) journal false

-- the pass outside, with these numbers alone
abbrev pub with_numbers : {E : Type 0} → Known E → List ℕ → Known E
with_numbers pass numbers = known pass.lock numbers pass.seen false

-- What the pass has seen is a prefix of the journal, and the journal's entries under the pass's numbers are just those that it has seen.
-- A pass sees what it leaves, so these are the entries that the value had when the lock was made, and then those that were left under the number, in order, each once
pub record Seen {E : Type 0} (by : E → ℕ) (pass : Known E) (journal : List E) : Type 0 where
  pub first : IsPrefix pass.seen journal
  pub own : SameOwn by pass.numbers pass.seen journal

-- the longer of two journals, the second where they are as long
abbrev pub longer : {E : Type 0} → List E → List E → List E
longer xs ys = cond (leb (length xs) (length ys)) ys xs

-- two passes in one, outside: it has the numbers of both, and has seen the longer of what both have seen
abbrev pub in_one : {E : Type 0} → Known E → Known E → Known E
in_one pass other = known pass.lock (merged pass.numbers other.numbers) (longer pass.seen other.seen) false

-- What the old pass knew the new one knows: it has its numbers, has seen what it had seen, and has the entries under its numbers as they were
pub record Carried {E : Type 0} (by : E → ℕ) (old new : Known E) : Type 0 where
  pub first : IsPrefix old.seen new.seen
  pub own : SameOwn by old.numbers old.seen new.seen
  pub has : (n : ℕ) → Has old.numbers n → Has new.numbers n
