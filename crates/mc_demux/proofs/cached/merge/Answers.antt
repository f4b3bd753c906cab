use Rattle.mc_calls.specs.Cached.{is_earlier, merged}
use Rattle.mc_calls.proofs.Copied.{merges_step}
use Rattle.mc_demux.proofs.cached.merge.Goals as goal

pub loop-packet-preserved : goal.loop-packet-preserved
loop-packet-preserved c =
    merges_step c.args.ours.now c.loop-packet.rest.now c.split_at.result.0.now c.split_at.result.1.now c.loop-packet.packet-index c.earlier_len.result c.packet-item.result
    c.in_ok-copy.field-0 c.loop-packet.all c.push_all.new.to c.push.new.self (merged is_earlier c.args.ours.now c.args.theirs.now) c.loop-packet-test.true c.packet-item.is
    c.earlier_len.ensures.value c.split_at.ensures.front c.split_at.ensures.back c.in_ok-push_all.ensures c.in_ok-copy.ensures c.in_ok-push.ensures.ok c.loop-packet.invariant
