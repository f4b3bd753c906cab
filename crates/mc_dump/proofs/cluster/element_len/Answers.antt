use Rattle.std.proofs.Common.{ℕ, length, ap, arith}
use Rattle.std.specs.Prelude.{◌-ℤ◌, pos}
use Rattle.mc_packet.specs.declared.packet.Packet.{Packet}
use Rattle.mc_dump.specs.Clustered.{block_with, units}
use Rattle.mc_dump.proofs.Writing.{coded_short, element_length}
use Rattle.mc_dump.proofs.cluster.element_len.Goals as goal

pub returns-clause-value : goal.returns-clause-value
returns-clause-value c = λ scale time.
    let p : Packet = c.args.packet.now in
    let body = c.octets.ensures in
    let long = c.block_len-len.ensures.value (units scale p -ℤ pos time) p.key in
    let len = rw body at long in
    omega (arith, c.head_len.ensures.value, element_length c.block_len-len.result (block_with scale time p) len)

pub returns-clause-small : goal.returns-clause-small
returns-clause-small c = omega (arith, c.head_len.ensures.small, c.block_len-len.ensures.parts, ap length c.octets.ensures, c.requires.short, coded_short c.args.packet.now.track)
