-- What a queue takes of packets, and what becomes of it.
use Rattle.std.proofs.Common.{◌≡◌, ℕ, ◌+◌, ◌≤◌, true, Option, Some, None, List, [], ◌∷◌, refl, ap, sym, ◌∙◌}
use Rattle.std.specs.Prelude.{◌==◌}
use Rattle.std.proofs.lemmas.Bool.{eq-eqb}
use Rattle.mc_packet.specs.declared.packet.Packet.{Packet}
use Rattle.mc_packet.specs.declared.packet.Pos.{Pos}
use Rattle.mc_journal.specs.Films.{rank}
use Rattle.mc_queue.specs.Places.{place, weights, Rise, behind}
use Rattle.mc_journal.specs.Views.{from_place}
use Rattle.mc_queue.specs.Queue.{QueueState}
use Rattle.mc_queue.specs.Union.{later}
use Rattle.mc_queue.proofs.Rising.{rise_later, rise_from, behind_is, less_weight_from}
use Rattle.mc_range.specs.Growing.{of_track, news, ExtendsIn, ExtendsAll, IsForeign}
use Rattle.mc_range.specs.declared.queues.Queues.{Queues}
use Rattle.mc_range.proofs.Places.{later_is_upto}

pub all_own : (track from to : ℕ) (ps : List Packet) → Rise track from to ps → of_track track ps ≡ ps
all_own track from to [] r = refl
all_own track from to (p ∷ ps) r =
    let y : (p.track == track) ≡ true = eq-eqb p.track track r.0 in
    rw y (ap (λ qs. p ∷ qs) (all_own track (place p + 1) to ps r.2))

-- those in front that stand before the queue's end are dropped, and the others are what it takes
pub fresh_is : (q : QueueState) (upto : Pos) (ps : List Packet) → Rise q.track 0 (rank upto) ps → behind (rank q.to) ps ≡ news ps q
fresh_is q upto ps r = behind_is q.track 0 (rank upto) (rank q.to) ps r ∙ ap (λ qs. from_place (rank q.to) qs) (sym (all_own q.track 0 (rank upto) ps r))

pub fresh_rise : (q : QueueState) (upto : Pos) (ps : List Packet) → Rise q.track 0 (rank upto) ps
    → Rise q.track (rank q.to) (rank (later q.to upto)) (behind (rank q.to) ps)
fresh_rise q upto ps r =
    let l = later_is_upto q.to upto in
    let s = rise_later q.track 0 (rank upto) (rank (later q.to upto)) ps l.1 r in
    let e = behind_is q.track 0 (rank upto) (rank q.to) ps r in
    rw e (rise_from q.track 0 (rank (later q.to upto)) (rank q.to) ps l.0 s)

pub fresh_weight : (q : QueueState) (upto : Pos) (ps : List Packet) → Rise q.track 0 (rank upto) ps → weights (behind (rank q.to) ps) ≤ weights ps
fresh_weight q upto ps r =
    let e = behind_is q.track 0 (rank upto) (rank q.to) ps r in
    rw e (less_weight_from (rank q.to) ps)

-- a queue that takes none of the packets only reaches further
pub foreign_extends : (upto : Pos) (ps : List Packet) (o n : Option QueueState) → IsForeign ps o → ExtendsIn upto [] o n → ExtendsIn upto ps o n
foreign_extends upto ps None n f e = e
foreign_extends upto ps (Some q) None f e = absurd e
foreign_extends upto ps (Some q) (Some m) f e = record { grown = rw f e.grown; room_used = rw f e.room_used }

pub foreign_all : (upto : Pos) (ps : List Packet) (old new : Queues) → IsForeign ps old.video × IsForeign ps old.audio × IsForeign ps old.sub
    → ExtendsAll upto [] old new → ExtendsAll upto ps old new
foreign_all upto ps old new f e = record {
  video = foreign_extends upto ps old.video new.video f.0 e.video;
  audio = foreign_extends upto ps old.audio new.audio f.1 e.audio;
  sub = foreign_extends upto ps old.sub new.sub f.2 e.sub;
}
