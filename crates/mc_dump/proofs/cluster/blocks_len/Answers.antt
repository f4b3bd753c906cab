use Rattle.std.proofs.Common.{ℕ, List, ◌++◌, take, length, ap, sym, ◌∙◌, arith, length-append}
use Rattle.mc_packet.specs.declared.packet.Packet.{Packet}
use Rattle.mc_written.specs.Elements.{element_text}
use Rattle.mc_written.specs.Clusters.{block, blocks_text}
use Rattle.mc_dump.specs.Clustered.{block_with, blocks_with}
use Rattle.mc_dump.proofs.Writing.{blocks_push}
use Rattle.mc_dump.proofs.cluster.blocks_len.Goals as goal

pub loop-packet-preserved : goal.loop-packet-preserved
loop-packet-preserved c =
    let ps : List Packet = c.args.packets.now in
    let i : ℕ = c.loop-packet.packet-index in
    let p : Packet = c.packet-item.result in
    record {
      counted = λ scale time.
          omega (
            arith,
            c.loop-packet.invariant.counted scale time,
            c.element_len-len.ensures.value scale time,
            ap length (blocks_push scale time i ps p (omega arith) c.packet-item.is),
            length-append (blocks_text (blocks_with scale time (take i ps))) (element_text (block (block_with scale time p))),
          );
      small = omega (arith, c.loop-packet.invariant.small, c.element_len-len.ensures.small);
    }
