-- A log behind a lock, with the board on which it shows its length.
use Rattle.std.specs.Prelude.{◌≡◌, ℕ, ◌<◌, List, length, Option, IfSome}
use Rattle.std.specs.List.{AllByRecursion}
use Rattle.atomic_table.specs.Seated.{TableId}
use Rattle.mc_board.specs.Statuses.{Posting}
use Rattle.turn_bench.specs.Posts.{UpTo}
use Rattle.turn_bench.specs.declared.entry.Entry.{Entry}

-- the log, and what its poster has posted on which board
pub record CellState : Type 0 where
  pub log : List Entry
  pub posting : Posting

abbrev pub cell_of : List Entry → Posting → CellState
cell_of log posting = record { log = log; posting = posting }

-- every item is a place in the film
abbrev pub IsIn : List ℕ → Entry → Type 0
IsIn film e = e.item < length film

abbrev pub AreIn : List ℕ → List Entry → Type 0
AreIn film log = AllByRecursion (IsIn film) log

-- the cell's board is the named one, its poster is of that board and posted no more than the log has, and all of the log lies in the film, where one is named
abbrev pub IsCell : Option (List ℕ) → TableId → TableId → CellState → Type 0
IsCell film named board c = (board ≡ named) × (c.posting.board ≡ board) × UpTo (length c.log) c.posting.posted × IfSome film (λ f. AreIn f c.log)
