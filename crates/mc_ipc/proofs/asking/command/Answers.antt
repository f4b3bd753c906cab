use Rattle.std.proofs.Common.{refl}
use Rattle.mc_ipc.proofs.Views.{listed_view}
use Rattle.mc_ipc.proofs.asking.command.Goals as goal

pub returns : goal.returns
returns c = rw (← c.in_ok-get.ensures, ← c.in_ok-words.ensures, listed_view, c.as_slice.ensures.value) refl
