-- A queue that holds exactly a film's packets, and what keeps it so.
use Rattle.std.specs.Prelude.{◌≡◌, List, Result, Ok, Err}
use Rattle.mc_packet.specs.declared.packet.Packet.{Packet}
use Rattle.mc_packet.specs.declared.packet.Pos.{Pos}
use Rattle.mc_journal.specs.Films.{rank, track_of, IsRising}
use Rattle.mc_queue.specs.declared.queue.UnionError.{UnionError}
use Rattle.mc_queue.specs.declared.queue.UnionError.TheVariants.{NoMemory}
use Rattle.mc_journal.specs.Ranges.{within}
use Rattle.mc_queue.specs.Queue.{QueueState}

-- the queue holds all of the film's packets of its track in its interval, and no others
abbrev pub Holds : List Packet → QueueState → Type 0
Holds film q = q.packets ≡ within (rank q.from) (rank q.to) (track_of q.track film)

abbrev pub StillHolds : List Packet → QueueState → Result Unit UnionError → Type 0
StillHolds film new (Ok _) = Holds film new
StillHolds film new (Err e) = e ≡ NoMemory

-- two queues that hold a film's packets are united, unless memory is wanting, and hold its packets then
abbrev pub UnitesFilm : QueueState → QueueState → Result Unit UnionError → QueueState → Type 0
UnitesFilm q o result new = (film : List Packet) → IsRising film → Holds film q → Holds film o → StillHolds film new result

-- and so does one behind whose packets those are put that the film has from its end up to a place
abbrev pub AppendsFilm : QueueState → Pos → List Packet → QueueState → Type 0
AppendsFilm q upto ps new = (film : List Packet) → IsRising film → Holds film q → ps ≡ within (rank q.to) (rank upto) (track_of q.track film) → Holds film new

-- and one from which packets are dropped
abbrev pub KeepsFilm : QueueState → QueueState → Type 0
KeepsFilm q new = (film : List Packet) → Holds film q → Holds film new
