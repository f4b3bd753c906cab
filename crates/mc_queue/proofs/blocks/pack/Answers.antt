use Rattle.std.proofs.Common.{arith, rules, ◌<◌, length, ◌∙◌}
use Rattle.mc_queue.proofs.Packing.{packed_on, room_on, fits_on}
use Rattle.mc_queue.proofs.blocks.pack.Goals as goal

pub add_to-requires-clause-fits : goal.add_to-requires-clause-fits
add_to-requires-clause-fits c = λ front k e.
    let l : c.loop-i.i < length c.args.packets.now.items = search rules in
    let f = fits_on c.args.packets.now.items c.loop-i.i c.index.result.now front k c.loop-i.kept.items l c.index.ensures c.loop-i.invariant.stands e in
    let r = c.requires.fits in
    omega arith

pub add_to-requires-clause-room : goal.add_to-requires-clause-room
add_to-requires-clause-room c = λ e.
    let l : c.loop-i.i < length c.args.packets.now.items = search rules in
    let i = c.loop-i.invariant.capacity in
    let r = c.requires.room in
    let n = room_on c.args.packets.now.items c.loop-i.i c.index.result.now c.loop-i.kept.items (Rattle.std.specs.VecDeque.deque_capacity c.loop-i.kept) l c.loop-i.invariant.stands e (omega arith) in
    let o = c.loop-i.kept.ok.0 in
    omega arith

pub loop-i-preserved : goal.loop-i-preserved
loop-i-preserved c =
    let l : c.loop-i.i < length c.args.packets.now.items = search rules in
    record {
      stands = packed_on c.args.packets.now.items c.loop-i.i c.index.result.now c.loop-i.kept.items c.add_to.new.kept.items l c.index.ensures c.loop-i.invariant.stands c.add_to.ensures.items;
      capacity = c.add_to.ensures.capacity ∙ c.loop-i.invariant.capacity;
    }
