-- The request that may be taken.
use Rattle.std.specs.Prelude.{◌≡◌, ℕ, true, false, IsSomeAnd, None, reverse, slice_get}
use Rattle.mc_dispatch.specs.declared.request.ClientNo.{ClientNo}
use Rattle.mc_props.specs.declared.facts.Facts.{Facts}
use Rattle.mc_props.specs.declared.reading.Reading.{Reading}
use Rattle.mc_player.specs.declared.deed.Deed.{Deed}
use Rattle.mc_player.specs.Facts.{next_deed}
use Rattle.mc_state.specs.Stands.{CoreState, IsQuiet, table_of}

-- a request may be taken, this is the oldest, and this is what it does
pub record IsNext (value : ℕ → Facts → Reading) (c : ClientNo) (ticket id : ℕ) (d : Deed)
    (s : CoreState) : Type 0 where
  pub quiet : IsQuiet value s
  pub none_out : s.out ≡ None
  pub begun : s.loading ≡ true
  pub goes_on : s.quits ≡ false
  pub oldest : IsSomeAnd (slice_get s.queue.requests 0)
      (λ q. (q.client ≡ c) × (q.ticket ≡ ticket) × (q.id ≡ id))
  pub does : d ≡ next_deed (table_of value s) (reverse s.journal)
