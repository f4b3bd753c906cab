use Rattle.std.proofs.Common.{◌∙◌}
use Rattle.mc_state.proofs.Replied.{drained_more, reply_added}
use Rattle.mc_core.proofs.requests.reply_all.Goals as goal

pub loop-i-preserved : goal.loop-i-preserved
loop-i-preserved g c = record {
  drained = drained_more g.M.Meaning.value c.args.requests.now c.loop-i.i c.args.by c.loop-i.state c.reply_due.new.self c.request_at.result.now _
      c.loop-i.invariant.drained c.request_at.ensures c.reply_due.ensures.wrote;
  still = (c.reply_due.ensures.still.0 ∙ c.loop-i.invariant.still.0, c.reply_due.ensures.still.1 ∙ c.loop-i.invariant.still.1);
  entries = c.reply_due.ensures.wrote.entries ∙ c.loop-i.invariant.entries;
  adds = reply_added c.args.by c.loop-i.i c.args.state.now c.loop-i.state c.reply_due.new.self c.request_at.result.now _
      c.loop-i.invariant.adds c.reply_due.ensures.wrote;
}
