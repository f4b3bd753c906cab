-- How many requests wait for their replies.
use Rattle.std.specs.Prelude.{◌≡◌, ℕ, ◌+◌, ◌==◌, Bool, if◌then◌else◌, List, length, filter, Option, Some, None}
use Rattle.mc_dispatch.specs.declared.request.Request.{Request}
use Rattle.mc_player.specs.declared.record.CoreRecord.{CoreRecord}
use Rattle.mc_player.specs.Facts.{life_of}
use Rattle.mc_player.specs.Journals.{due, queued, worked}
use Rattle.mc_player.specs.Lives.{Life, Table}

-- those that pass a test
abbrev pub count : (Request → Bool) → List Request → ℕ
count P qs = length (filter P qs)

abbrev pub one : (Request → Bool) → Option Request → ℕ
one P None = 0
one P (Some q) = if P q then 1 else 0

-- of those that are queued, that are due for the reply to an abort, or that are being worked
abbrev pub waiting : (Request → Bool) → List CoreRecord → ℕ
waiting P h = count P (queued h) + (count P (due h) + one P (worked h))

-- a client's
abbrev pub is_client : ℕ → Request → Bool
is_client c q = q.client.0 == c

-- the places that a client has set aside for replies, if it lives
abbrev pub set_aside : Option Life → ℕ
set_aside None = 0
set_aside (Some l) = l.ring.reserved

-- each place set aside is that of a request that waits
abbrev pub Waits : Table → List CoreRecord → Type 0
Waits t h = (c : ℕ) → set_aside (life_of t c h) ≡ waiting (is_client c) h
