use Rattle.std.proofs.Common.{ap, rules, sym, subst}
use Rattle.mc_calls.specs.State.{DemuxState}
use Rattle.mc_calls.specs.Demuxers.{IsDemux}
use Rattle.mc_calls.specs.Records.{HasRoom}
use Rattle.mc_calls.specs.Readings.{heads_after, ended_after}
use Rattle.mc_calls.proofs.Telling.{read_told, tell_keeps}
use Rattle.mc_calls.proofs.Among.{among_self, among_same, gives-among}
use Rattle.mc_calls.proofs.Grown.{none_grew, roomy_grew, told_grew}
use Rattle.mc_demux.proofs.demux.Demux.read.Goals as goal

pub returns-in_ok-tell-in-Some-clause-value : goal.returns-in_ok-tell-in-Some-clause-value
returns-in_ok-tell-in-Some-clause-value c =
    let room : HasRoom c.args.self.now.journal = search rules in
    read_told c.args.self.now c.tell.new.self c.args.by c.args.track c.in_ok-reading.reading c.in-Some.own room c.in_ok-reading.ensures.value c.in-Some.ensures
    c.in_ok-tell-in-Some.ensures.ok

pub returns-in_ok-tell-in-Some-clause-film : goal.returns-in_ok-tell-in-Some-clause-film
returns-in_ok-tell-in-Some-clause-film c = λ film s.
    let d : IsDemux c.args.self.now = subst (λ (x : DemuxState). IsDemux x) c.self.view_is c.self.invariant in
    tell_keeps film c.args.self.now c.tell.new.self c.args.by c.args.track c.in_ok-reading.reading c.in-Some.own d c.in_ok-reading.ensures.value (sym c.in-Some.ensures)
    c.in_ok-tell-in-Some.ensures.ok s

pub returns-then-len-ge-FULL-clause-marks : goal.returns-then-len-ge-FULL-clause-marks
returns-then-len-ge-FULL-clause-marks c = among_self c.args.self.now.cache

pub returns-in_err-reading-clause-marks : goal.returns-in_err-reading-clause-marks
returns-in_err-reading-clause-marks c = among_self c.args.self.now.cache

pub returns-in_err-tell-in-Some-clause-marks : goal.returns-in_err-tell-in-Some-clause-marks
returns-in_err-tell-in-Some-clause-marks c = among_same c.args.self.now.cache c.tell.new.self.cache (ap (λ (d : DemuxState). d.cache) c.in_err-tell-in-Some.ensures.err.changed)

pub returns-in_ok-tell-in-Some-clause-marks : goal.returns-in_ok-tell-in-Some-clause-marks
returns-in_ok-tell-in-Some-clause-marks c =
    gives-among c.args.by c.in-Some.own (heads_after c.args.track c.in_ok-reading.reading c.args.self.now) (ended_after c.args.track c.in_ok-reading.reading c.args.self.now) c.args.self.now c.tell.new.self
    c.in_ok-tell-in-Some.ensures.ok

pub returns-in-None-clause-marks : goal.returns-in-None-clause-marks
returns-in-None-clause-marks c = among_self c.args.self.now.cache

pub returns-then-len-ge-FULL-clause-grows : goal.returns-then-len-ge-FULL-clause-grows
returns-then-len-ge-FULL-clause-grows c = none_grew c.args.by c.args.self.now.journal

pub returns-in_err-reading-clause-grows : goal.returns-in_err-reading-clause-grows
returns-in_err-reading-clause-grows c = none_grew c.args.by c.args.self.now.journal

pub returns-in_err-tell-in-Some-clause-grows : goal.returns-in_err-tell-in-Some-clause-grows
returns-in_err-tell-in-Some-clause-grows c = roomy_grew c.args.by c.args.self.now c.tell.new.self c.in_err-tell-in-Some.ensures.err

pub returns-in_ok-tell-in-Some-clause-grows : goal.returns-in_ok-tell-in-Some-clause-grows
returns-in_ok-tell-in-Some-clause-grows c =
    told_grew c.args.by c.args.track c.in_ok-reading.reading c.in-Some.own c.args.self.now.journal c.tell.new.self.journal c.in-Some.ensures c.in_ok-tell-in-Some.ensures.ok.wrote

pub returns-in-None-clause-grows : goal.returns-in-None-clause-grows
returns-in-None-clause-grows c = none_grew c.args.by c.args.self.now.journal
