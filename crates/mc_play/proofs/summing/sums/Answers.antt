use Rattle.std.proofs.Common.{◌∙◌, ℕ, List, ap, arith}
use Rattle.mc_journal.specs.declared.record.DemuxRecord.{DemuxRecord}
use Rattle.mc_gen.specs.declared.summary.Sums.{Sums}
use Rattle.mc_play.specs.Summing.{sums_with}
use Rattle.mc_play.proofs.Counting.{none_counted, one_more}
use Rattle.mc_play.proofs.summing.sums.Goals as goal

pub loop-entry-init : goal.loop-entry-init
loop-entry-init c = none_counted

pub loop-entry-preserved : goal.loop-entry-preserved
loop-entry-preserved c =
    let hd : List DemuxRecord = c.args.hd.now in
    let i : ℕ = c.loop-entry.entry-index in
    let r : DemuxRecord = c.entry-item.result in
    c.with-found.ensures ∙ ap (λ (s : Sums). sums_with s r) c.loop-entry.invariant ∙ one_more hd i r (omega arith) c.entry-item.is
