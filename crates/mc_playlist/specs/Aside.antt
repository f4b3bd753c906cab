-- Names that were cleared, and whose memory is given back by later steps.
use Rattle.std.specs.Prelude.{ℕ, ◌-◌, ◌*◌, ◌≤◌}

-- so many names may be aside of a list that has so many: each that is added takes four from those
-- aside, as long as there are any. So the fewer of both are at most 2,000, and these alone are given
-- back at once where the list is cleared
abbrev pub MayBeAside : ℕ → ℕ → Type 0
MayBeAside aside count = (aside ≤ 10000) × (aside ≤ 10003 - 4 * count)
