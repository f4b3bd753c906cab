use Rattle.std.proofs.Common.{rules, ◌≡◌, length, ◌∙◌}
use Rattle.mc_queue.proofs.Packing.{many}
use Rattle.mc_queue.proofs.blocks.Blocks.count.Goals as goal

pub returns-clause-value : goal.returns-clause-value
returns-clause-value c =
    let l : c.len.result ≡ length c.self.inside.kept.items = search rules in
    rw (← c.self.view_is) (l ∙ many c.self.inside.kept.items c.self.inside.packets.items c.self.invariant.0)
