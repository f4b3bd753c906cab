use Rattle.std.proofs.Common.{◌≡◌, true, is_some, ap, refl, rules, subst}
use Rattle.mc_calls.specs.declared.waiting.Failure.TheVariants.{Failed}
use Rattle.mc_calls.specs.State.{DemuxState}
use Rattle.mc_calls.specs.Demuxers.{IsDemux}
use Rattle.mc_calls.proofs.Failing.{stop_keeps}
use Rattle.mc_calls.proofs.Among.{among_same, among_self}
use Rattle.mc_calls.proofs.Grown.{none_grew, one_grew}
use Rattle.mc_journal.specs.declared.record.DemuxRecord.TheVariants.{Failed as FailedRecord}
use Rattle.mc_journal.specs.Callers.{demuxer}
use Rattle.mc_demux.proofs.demux.Demux.failed.Goals as goal

pub returns-clause-film : goal.returns-clause-film
returns-clause-film c = λ film s.
    let d : IsDemux c.args.self.now = subst (λ (x : DemuxState). IsDemux x) c.self.view_is c.self.invariant in
    let some : is_some c.args.self.now.kept ≡ true = search rules in
    stop_keeps film c.args.self.now c.stop.new.self (Failed c.args.before c.args.after) d.kept some c.stop.ensures.value s

pub returns-then-no-self-clause-marks : goal.returns-then-no-self-clause-marks
returns-then-no-self-clause-marks c = among_self c.args.self.now.cache

pub returns-clause-marks : goal.returns-clause-marks
returns-clause-marks c = among_same c.args.self.now.cache c.stop.new.self.cache (ap (λ (d : DemuxState). d.cache) c.stop.ensures.value)

pub returns-then-no-self-clause-grows : goal.returns-then-no-self-clause-grows
returns-then-no-self-clause-grows c = none_grew demuxer c.args.self.now.journal

pub returns-clause-grows : goal.returns-clause-grows
returns-clause-grows c = one_grew demuxer (FailedRecord demuxer c.args.before c.args.after) c.args.self.now.journal c.stop.new.self.journal refl (ap (λ (d : DemuxState). d.journal) c.stop.ensures.value)
