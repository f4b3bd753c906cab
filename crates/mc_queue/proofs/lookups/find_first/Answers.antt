use Rattle.std.proofs.Common.{rules, ◌<◌, ◌≤◌, length, sym, ◌∙◌}
use Rattle.mc_journal.specs.Films.{rank}
use Rattle.mc_queue.proofs.Halving.{found_at, got_at, got_none}
use Rattle.mc_queue.proofs.lookups.find_first.Goals as goal

pub returns-then-at-len-clause-value : goal.returns-then-at-len-clause-value
returns-then-at-len-clause-value g c =
    let l : c.index_at-at.result < length c.args.blocks.now.packets = search rules in
    sym (got_at c.args.blocks.now.packets c.index_at-at.result c.packet_at.result.now l c.packet_at.ensures.value)
    ∙ found_at (rank c.args.head) c.args.blocks.now.packets c.index_at-at.result c.index_at-at.ensures.value.0 c.index_at-at.ensures.value.1

pub returns-else-at-len-clause-value : goal.returns-else-at-len-clause-value
returns-else-at-len-clause-value g c =
    let l : length c.args.blocks.now.packets ≤ c.index_at-at.result = search rules in
    sym (got_none c.args.blocks.now.packets c.index_at-at.result l)
    ∙ found_at (rank c.args.head) c.args.blocks.now.packets c.index_at-at.result c.index_at-at.ensures.value.0 c.index_at-at.ensures.value.1
