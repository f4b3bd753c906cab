use Rattle.mc_calls.proofs.Emptied.{quiet_is}
use Rattle.mc_calls.proofs.Idling.{idle_is}
use Rattle.mc_calls.proofs.Showing.{packet_is, front_is, own_is, set_is, pending_is, tells_is}
use Rattle.mc_calls.proofs.shows.shown_readers.Goals as goal

pub returns : goal.returns
returns c = record { packet = packet_is; front = front_is; own = own_is; set = set_is; pending = pending_is; tells = tells_is; quiet = quiet_is; idle = idle_is }
