use Rattle.mc_calls.proofs.ByJournal.{forward_is, back_is, back_within, both_within}
use Rattle.mc_calls.proofs.shows.cached_octets.Goals as goal

pub returns : goal.returns
returns c = record { forward = forward_is; back = back_is; within = back_within; both = both_within }
