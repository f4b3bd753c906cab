use Rattle.std.proofs.Common.{arith, rules, ◌≡◌, ◌+◌, ◌-◌, ◌<◌, sym, ◌∙◌}
use Rattle.mc_journal.specs.Films.{rank}
use Rattle.mc_queue.proofs.Halving.{low_on, high_on, cost_step}
use Rattle.mc_queue.proofs.lookups.index_at.Goals as goal

pub loop-low-preserved-then-is_before : goal.loop-low-preserved-then-is_before
loop-low-preserved-then-is_before g c =
    let i = c.loop-low.invariant in
    let t : c.loop-low.low < c.loop-low.high = search rules in
    let w = i.within in
    let a = c.probe-mid.ensures.within.0 in
    let b = c.probe-mid.ensures.within.1 in
    let k = i.cost in
    let s = c.packet_at.ensures.cost in
    let n : c.saturating_sub-near.result ≡ c.loop-low.near - 1 = search rules in
    let o = cost_step (c.loop-low.high - c.loop-low.low) (c.loop-low.high - (c.probe-mid.result + 1)) c.loop-low.near c.saturating_sub-near.result (omega arith) (λ z. let h = c.probe-mid.ensures.half z in omega arith) n in
    record {
      order = omega arith;
      within = i.within;
      below = low_on (rank c.args.head) c.probe-mid.result c.packet_at.result.now c.args.blocks.now.packets c.requires.parted (omega arith) c.packet_at.ensures.value (sym c.is_before.ensures ∙ c.if-is_before.true);
      above = i.above;
      cost = omega arith;
    }

pub loop-low-preserved : goal.loop-low-preserved
loop-low-preserved g c =
    let i = c.loop-low.invariant in
    let t : c.loop-low.low < c.loop-low.high = search rules in
    let w = i.within in
    let a = c.probe-mid.ensures.within.0 in
    let b = c.probe-mid.ensures.within.1 in
    let k = i.cost in
    let s = c.packet_at.ensures.cost in
    let n : c.saturating_sub-near.result ≡ c.loop-low.near - 1 = search rules in
    let o = cost_step (c.loop-low.high - c.loop-low.low) (c.probe-mid.result - c.loop-low.low) c.loop-low.near c.saturating_sub-near.result (omega arith) (λ z. let h = c.probe-mid.ensures.half z in omega arith) n in
    record {
      order = omega arith;
      within = omega arith;
      below = i.below;
      above = high_on (rank c.args.head) c.probe-mid.result c.packet_at.result.now c.args.blocks.now.packets c.requires.parted (omega arith) c.packet_at.ensures.value (sym c.is_before.ensures ∙ c.if-is_before.false);
      cost = omega arith;
    }
