use Rattle.std.proofs.Common.{arith}
use Rattle.mc_calls.proofs.Roomy.{roomy_is}
use Rattle.mc_demux.proofs.demux.Demux.make_room_to_feed.Goals as goal

pub invariant_of-self : goal.invariant_of-self
invariant_of-self c =
    roomy_is _ c.make_room_to_feed.new.self _ c.make_room_to_feed.ensures.same c.make_room_to_feed.ensures.cache (omega arith) c.self.invariant

pub returns-clause-demux : goal.returns-clause-demux
returns-clause-demux c =
    roomy_is _ c.make_room_to_feed.new.self _ c.make_room_to_feed.ensures.same c.make_room_to_feed.ensures.cache (omega arith) c.self.invariant
