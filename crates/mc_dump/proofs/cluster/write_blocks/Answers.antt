use Rattle.std.proofs.Common.{◌++◌, ◌+◌, ℕ, List, Option, take, drop, sym, subst, arith}
use Rattle.mc_packet.specs.declared.packet.Packet.{Packet}
use Rattle.mc_outside.specs.Sink.{Grows}
use Rattle.mc_written.specs.Elements.{element_text}
use Rattle.mc_written.specs.Clusters.{block, blocks_text}
use Rattle.mc_dump.specs.Clustered.{block_with, blocks_with}
use Rattle.mc_dump.proofs.Streams.{first_refused, front_on, grows_on}
use Rattle.mc_dump.proofs.Writing.{blocks_parted, blocks_push}
use Rattle.mc_dump.proofs.cluster.write_blocks.Goals as goal

pub returns-in_err-write_block-clause-written : goal.returns-in_err-write_block-clause-written
returns-in_err-write_block-clause-written g c =
    let scale : ℕ = c.args.scale in
    let time : ℕ = c.args.time in
    let ps : List Packet = c.args.packets.now in
    let i : ℕ = c.loop-packet.packet-index in
    let p : Packet = c.packet-item.result in
    let done : List ℕ = blocks_text (blocks_with scale time (take i ps)) in
    let mine : List ℕ = element_text (block (block_with scale time p)) in
    first_refused (g.K.Sink.text c.args.out.now) (g.K.Sink.text c.write_block.new.out) (done ++ mine) (blocks_text (blocks_with scale time (drop (i + 1) ps))) (blocks_text (blocks_with scale time ps))
    c.from_residual.result c.from_residual.ensures.0 (blocks_parted scale time i ps p (omega arith) c.packet-item.is)
    (front_on (g.K.Sink.text c.args.out.now) (g.K.Sink.text c.loop-packet.out) (g.K.Sink.text c.write_block.new.out) done mine c.loop-packet.invariant.grown c.in_err-write_block.ensures.written)

pub loop-packet-preserved : goal.loop-packet-preserved
loop-packet-preserved g c =
    let scale : ℕ = c.args.scale in
    let time : ℕ = c.args.time in
    let ps : List Packet = c.args.packets.now in
    let i : ℕ = c.loop-packet.packet-index in
    let p : Packet = c.packet-item.result in
    let done : List ℕ = blocks_text (blocks_with scale time (take i ps)) in
    let mine : List ℕ = element_text (block (block_with scale time p)) in
    let P : List ℕ → Type 0 = λ x. Grows (g.K.Sink.text c.args.out.now) (g.K.Sink.text c.write_block.new.out) x in
    record {
      grown = subst P (sym (blocks_push scale time i ps p (omega arith) c.packet-item.is))
          (grows_on (g.K.Sink.text c.args.out.now) (g.K.Sink.text c.loop-packet.out) (g.K.Sink.text c.write_block.new.out) done mine c.loop-packet.invariant.grown c.in_ok-write_block.ensures.written);
      later = omega (arith, c.loop-packet.invariant.later, c.write_block.ensures.cause.later);
    }
