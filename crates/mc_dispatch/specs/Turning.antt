-- How a queue is parted in its own room: request by request, what passes the test leaves, and what
-- does not goes behind the others.
use Rattle.std.specs.Prelude.{ℕ, Bool, if◌then◌else◌, zero, suc, List, [], ◌∷◌, ◌++◌}
use Rattle.mc_dispatch.specs.declared.request.Request.{Request}

-- the queue, and what left it
abbrev pub Parts : Type 0
Parts = List Request × List Request

-- the oldest request leaves, or goes behind the others
abbrev pub turned : (Request → Bool) → Request → List Request → List Request → Parts
turned P r rs gone = if P r then (rs, gone ++ r ∷ []) else (rs ++ r ∷ [], gone)

-- the same for the n oldest requests
abbrev pub turn : (Request → Bool) → ℕ → Parts → Parts
turn P zero s = s
turn P (suc n) ([], gone) = ([], gone)
turn P (suc n) (r ∷ rs, gone) = turn P n (turned P r rs gone)
