use Rattle.std.proofs.Common.{ℕ, List, Option}
use Rattle.mc_packet.specs.declared.packet.Packet.{Packet}
use Rattle.mc_written.specs.Elements.{element_text}
use Rattle.mc_written.specs.Clusters.{block}
use Rattle.mc_dump.specs.Clustered.{block_with}
use Rattle.mc_dump.proofs.Streams.{both_wrote, first_refused, wrote_full}
use Rattle.mc_dump.proofs.cluster.write_block.Goals as goal

pub returns-in_err-write_full-clause-written : goal.returns-in_err-write_full-clause-written
returns-in_err-write_full-clause-written g c =
    let p : Packet = c.args.packet.now in
    let text : List ℕ = element_text (block (block_with c.args.scale c.args.time p)) in
    let refused = c.in_err-write_full.ensures.refused in
    let front = rw c.as_slice.ensures.value at refused in
    first_refused (g.K.Sink.text c.args.out.now) (g.K.Sink.text c.write_full.new.sink) c.block_head.new.head.items p.body text c.from_residual.result c.from_residual.ensures.0
    c.in-Ok.ensures.ok front

pub returns-clause-written : goal.returns-clause-written
returns-clause-written g c =
    let p : Packet = c.args.packet.now in
    let text : List ℕ = element_text (block (block_with c.args.scale c.args.time p)) in
    let grown = c.in_ok-write_full.ensures.ok in
    let head = rw c.as_slice.ensures.value at grown in
    let ok = c.write_full-2.ensures.ok in
    let err = c.write_full-2.ensures.refused in
    let body = c.octets.ensures in
    let ok' = rw body at ok in
    let err' = rw body at err in
    both_wrote (g.K.Sink.text c.args.out.now) (g.K.Sink.text c.write_full.new.sink) (g.K.Sink.text c.write_full-2.new.sink) c.block_head.new.head.items p.body text c.write_full-2.result
    c.in-Ok.ensures.ok head (wrote_full (g.K.Sink.text c.write_full.new.sink) (g.K.Sink.text c.write_full-2.new.sink) p.body c.write_full-2.result ok' err')
