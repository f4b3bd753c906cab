use Rattle.std.proofs.Common.{arith, List, [], subst, sym}
use Rattle.mc_packet.specs.declared.packet.Packet.{Packet}
use Rattle.mc_queue.specs.declared.kept.Kept.{Kept}
use Rattle.mc_queue.specs.Blocks.{Stands}
use Rattle.mc_queue.proofs.Filling.{none_stand}
use Rattle.mc_queue.proofs.blocks.Blocks.new.Goals as goal

pub invariant_of-result : goal.invariant_of-result
invariant_of-result c =
    let a = c.new.ensures.items in
    let b = c.new-2.ensures.items in
    let l = c.new.ensures.len in (
      subst (λ (ks : List Kept). Stands ks c.new.result.items) (sym b) (subst (λ (ps : List Packet). Stands [] ps) (sym a) none_stand),
      record { some = omega arith; packets = omega arith; blocks = omega arith },
    )
