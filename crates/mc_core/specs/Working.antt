-- The request that is taken next, and what work leaves.
use Rattle.std.specs.Prelude.{◌≡◌, ℕ, ◌⊎◌, true, false, IsSomeAnd, List, [], ◌∷◌, length, Option, Some, None, reverse, slice_get}
use Rattle.mc_dispatch.specs.declared.request.ClientNo.{ClientNo}
use Rattle.mc_props.specs.declared.facts.Facts.{Facts}
use Rattle.mc_props.specs.declared.reading.Reading.{Reading}
use Rattle.mc_player.specs.declared.record.Order.{Order}
use Rattle.mc_player.specs.declared.record.Order.TheVariants as order
use Rattle.mc_player.specs.declared.record.CoreRecord.{CoreRecord}
use Rattle.mc_player.specs.declared.record.CoreRecord.TheVariants.{Ordered, Took}
use Rattle.mc_player.specs.Deeds.{after_deed}
use Rattle.mc_player.specs.Facts.{next_deed, quits}
use Rattle.mc_player.specs.Journals.{clients, loading, queued}
use Rattle.mc_player.specs.Lives.{Table}
use Rattle.mc_deeds.specs.Closes.{IsClose}
use Rattle.mc_state.specs.Growth.{Adds, is_effect}
use Rattle.mc_state.specs.Stands.{CoreState, table_of}
use Rattle.mc_core.specs.declared.working.Task.{Task}

-- the oldest request, what it does, and how it ends
pub record IsTask (value : ℕ → Facts → Reading) (task : Task) (s : CoreState) : Type 0 where
  pub oldest : IsSomeAnd (slice_get s.queue.requests 0)
      (λ q. (q.client ≡ task.client) × (q.ticket ≡ task.ticket) × (q.id ≡ task.id)
      × IsClose (after_deed task.deed s.facts) (length s.order) q.call task.deed task.close)
  pub does : task.deed ≡ next_deed (table_of value s) (reverse s.journal)
  pub listed : s.order ≡ clients (reverse s.journal)

-- the order that is out behind work: none where nothing was asked
abbrev pub out_by : Order → Option Order
out_by order.Idle = None
out_by order.Finished = None
out_by order.Load = Some order.Load
out_by (order.Seek time dir) = Some (order.Seek time dir)
out_by (order.Select set at) = Some (order.Select set at)

-- what work left behind a journal, by the order that it answered: nothing where no request waits or
-- the player ends; the order for the file; a taken request with its order, or with its effects and
-- its reply
abbrev pub Works : Table → ℕ → List CoreRecord → Order → List CoreRecord → Type 0
Works t by h order.Idle h' =
    (h' ≡ h) × (loading h ≡ true) × ((quits t h ≡ true) ⊎ (queued h ≡ []))
Works t by h order.Load h' = (h' ≡ Ordered by order.Load ∷ h) × (loading h ≡ false)
Works t by h (order.Seek time dir) h' = (c : ClientNo) × (n : ℕ) × (id : ℕ)
    × (h' ≡ Ordered by (order.Seek time dir) ∷ Took by c n id ∷ h)
Works t by h (order.Select set at) h' = (c : ClientNo) × (n : ℕ) × (id : ℕ)
    × (h' ≡ Ordered by (order.Select set at) ∷ Took by c n id ∷ h)
Works t by h order.Finished h' = (c : ClientNo) × (n : ℕ) × (id : ℕ)
    × Adds is_effect by (Took by c n id ∷ h) h'
