-- What workers add to a log.
use Rattle.std.specs.Prelude.{◌≡◌, ℕ, zero, suc, ◌<◌, ◌≤◌, Bool, true, false, cond, List, [], ◌∷◌, ◌++◌}
use Rattle.mc_turn.specs.Callers.{Has, Makes, Within, of_caller}
use Rattle.mc_turn.specs.Passes.{Known}
use Rattle.mc_turn.specs.Workers.{Made}
use Rattle.turn_bench.specs.declared.entry.Entry.{Entry}

abbrev pub caller_of : Entry → ℕ
caller_of e = e.caller

abbrev pub entry : ℕ → ℕ → Entry
entry caller item = record { caller = caller; item = item }

-- the entry, where there was memory for it
abbrev pub added : Bool → ℕ → ℕ → List Entry
added done caller item = cond done (entry caller item ∷ []) []

-- the items from 0 to k - 1, under the caller n
abbrev pub numbered : ℕ → ℕ → List Entry
numbered n zero = []
numbered n (suc k) = numbered n k ++ entry n k ∷ []

-- the entries of the caller n are its first items, in order
abbrev pub IsInOrder : ℕ → List Entry → Type 0
IsInOrder n log = (k : ℕ) × (of_caller caller_of n log ≡ numbered n k)

-- the caller n has in ys what it has in xs and then its first items, so many at most, and all of them where `all` says so
abbrev pub Filled : ℕ → ℕ → Bool → List Entry → List Entry → Type 0
Filled n count all xs ys = (k : ℕ) × (k ≤ count) × (all ≡ true → k ≡ count) × Makes caller_of n (numbered n k) xs ys

-- a pass that went through the hands of a team: it is outside, still has its numbers, and each of them added its items
pub record Teamed (count : ℕ) (all : Bool) (before after : Known Entry) : Type 0 where
  pub lock : after.lock ≡ before.lock
  pub outside : after.inside ≡ false
  pub numbers : (n : ℕ) → Has before.numbers n → Has after.numbers n
  pub filled : (n : ℕ) → Has before.numbers n → Filled n count all before.seen after.seen

-- a log that is what so many workers added, and nothing else: each entry is a worker's, and those of a worker are its first items
pub record FilledBy (size count : ℕ) (all : Bool) (log : List Entry) : Type 0 where
  pub within : Within caller_of size log
  pub filled : (n : ℕ) → n < size → Filled n count all [] log

-- a log with the first items of the caller 0, so many at most, and nothing else
abbrev pub IsAlone : ℕ → Bool → List Entry → Type 0
IsAlone count all log = (k : ℕ) × (k ≤ count) × (all ≡ true → k ≡ count) × (log ≡ numbered 0 k)

-- an item from the first one on, and below the last
abbrev pub IsFrom : ℕ → ℕ → Entry → Type 0
IsFrom first last e = (first ≤ e.item) × (e.item < last)

-- a log that is what two callers added, and nothing else: the entries of 0 are such from low on and below middle, and those of 1 from there on and below high
pub record WrittenByBoth (low middle high : ℕ) (log : List Entry) : Type 0 where
  pub within : Within caller_of 2 log
  pub one : Made caller_of (IsFrom low middle) 0 [] log
  pub two : Made caller_of (IsFrom middle high) 1 [] log
