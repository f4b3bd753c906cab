use Rattle.mc_calls.proofs.Laws.{stands_ended}
use Rattle.mc_calls.proofs.Resting.{rests}
use Rattle.mc_calls.proofs.law.resting_readers.Goals as goal

pub returns : goal.returns
returns c = record { ended = stands_ended; told = rests }
