-- What a call added to a journal. Both journals have their newest record first.
use Rattle.std.specs.Prelude.{◌≡◌, ℕ, Bool, true, false, ◌||◌, List, ◌++◌}
use Rattle.std.specs.List.{AllByRecursion}
use Rattle.mc_player.specs.Callers.{by_of}
use Rattle.mc_player.specs.declared.record.CoreRecord.{CoreRecord}
use Rattle.mc_player.specs.declared.record.CoreRecord.TheVariants.{Wrote, Pushed, Replied}

abbrev pub is_push : CoreRecord → Bool
is_push (Pushed by c e kept) = true
is_push r = false

abbrev pub is_reply : CoreRecord → Bool
is_reply (Replied by c n e) = true
is_reply r = false

-- a writing or a push
abbrev pub is_news : CoreRecord → Bool
is_news (Wrote by mask f) = true
is_news (Pushed by c e kept) = true
is_news r = false

-- one of these, or a reply
abbrev pub is_effect : CoreRecord → Bool
is_effect r = is_news r || is_reply r

-- a record of a caller that passes a test
pub record IsOf (test : CoreRecord → Bool) (by : ℕ) (r : CoreRecord) : Type 0 where
  pub kind : test r ≡ true
  pub own : by_of r ≡ by

-- such records came behind the others
pub record Adds (test : CoreRecord → Bool) (by : ℕ) (h h' : List CoreRecord) : Type 0 where
  pub more : List CoreRecord
  pub grows : h' ≡ more ++ h
  pub are : AllByRecursion (IsOf test by) more

-- what a call added bears its caller's number
abbrev pub any : CoreRecord → Bool
any r = true

abbrev pub Grew : ℕ → List CoreRecord → List CoreRecord → Type 0
Grew by h h' = Adds any by h h'
