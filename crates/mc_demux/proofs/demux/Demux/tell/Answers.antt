use Rattle.std.proofs.Common.{◌≤◌, subst, sym, ap, ◌∙◌}
use Rattle.mc_packet.specs.declared.cache.Heads.{Heads}
use Rattle.mc_cache.specs.Pruning.{ahead_in}
use Rattle.mc_calls.specs.State.{DemuxState, forward_of}
use Rattle.mc_calls.specs.Demuxers.{IsPlaced}
use Rattle.mc_calls.specs.Readings.{reading_of}
use Rattle.mc_calls.proofs.Telling.{read_placed, read_ahead}
use Rattle.mc_demux.proofs.demux.Demux.tell.Goals as goal

pub give-requires-clause-placed : goal.give-requires-clause-placed
give-requires-clause-placed c =
    let m : DemuxState = c.make_room.new.self in
    let e = c.requires.answer ∙ sym (ap (λ (d : DemuxState). reading_of c.args.track d) c.in_ok-make_room.ensures.same.changed) in
    subst (λ (h : Heads). IsPlaced m.set h m.waiting m.seeking m.cache.current) (sym c.heads_after-heads.ensures)
    (read_placed m c.args.track c.args.reading.now c.in_ok-make_room.ensures.demux e)

pub give-requires-clause-ahead : goal.give-requires-clause-ahead
give-requires-clause-ahead c =
    let m : DemuxState = c.make_room.new.self in
    let e = c.requires.answer ∙ sym (ap (λ (d : DemuxState). reading_of c.args.track d) c.in_ok-make_room.ensures.same.changed) in
    subst (λ (h : Heads). ahead_in h m.cache.current ≤ forward_of m) (sym c.heads_after-heads.ensures) (read_ahead m c.args.track c.args.reading.now e)
