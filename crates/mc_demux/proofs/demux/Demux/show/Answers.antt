use Rattle.std.proofs.Common.{ap, refl, ◌∙◌}
use Rattle.mc_calls.proofs.Viewed.{shown_keeps}
use Rattle.mc_calls.proofs.Among.{among_same, among_self}
use Rattle.mc_calls.proofs.Remarked.{spare_among}
use Rattle.mc_calls.proofs.Grown.{none_grew, one_grew, roomy_grew}
use Rattle.mc_journal.specs.declared.record.DemuxRecord.TheVariants.{Shown}
use Rattle.mc_calls.specs.State.{DemuxState}
use Rattle.mc_demux.proofs.demux.Demux.show.Goals as goal

pub returns-clause-film : goal.returns-clause-film
returns-clause-film c = λ film s.
    shown_keeps film c.args.self.now c.put_view.new.self c.args.by c.in_ok-told.told (c.in_ok-told.ensures ∙ c.in_ok-view.ensures.film film s) c.in_ok-put_view.ensures.ok s

pub returns-then-len-ge-FULL-clause-marks : goal.returns-then-len-ge-FULL-clause-marks
returns-then-len-ge-FULL-clause-marks c = among_self c.args.self.now.cache

pub returns-in_err-view-clause-marks : goal.returns-in_err-view-clause-marks
returns-in_err-view-clause-marks c = among_self c.args.self.now.cache

pub returns-in_err-told-clause-marks : goal.returns-in_err-told-clause-marks
returns-in_err-told-clause-marks c = among_self c.args.self.now.cache

pub returns-in_err-put_view-clause-marks : goal.returns-in_err-put_view-clause-marks
returns-in_err-put_view-clause-marks c = spare_among c.args.self.now c.put_view.new.self c.in_err-put_view.ensures.err

pub returns-clause-marks : goal.returns-clause-marks
returns-clause-marks c = among_same c.args.self.now.cache c.put_view.new.self.cache c.in_ok-put_view.ensures.ok.cache_is

pub returns-then-len-ge-FULL-clause-grows : goal.returns-then-len-ge-FULL-clause-grows
returns-then-len-ge-FULL-clause-grows c = none_grew c.args.by c.args.self.now.journal

pub returns-in_err-view-clause-grows : goal.returns-in_err-view-clause-grows
returns-in_err-view-clause-grows c = none_grew c.args.by c.args.self.now.journal

pub returns-in_err-told-clause-grows : goal.returns-in_err-told-clause-grows
returns-in_err-told-clause-grows c = none_grew c.args.by c.args.self.now.journal

pub returns-in_err-put_view-clause-grows : goal.returns-in_err-put_view-clause-grows
returns-in_err-put_view-clause-grows c = roomy_grew c.args.by c.args.self.now c.put_view.new.self c.in_err-put_view.ensures.err

pub returns-clause-grows : goal.returns-clause-grows
returns-clause-grows c = one_grew c.args.by (Shown c.args.by c.in_ok-told.told) c.args.self.now.journal c.put_view.new.self.journal refl (ap (λ (d : DemuxState). d.journal) c.in_ok-put_view.ensures.ok.changed)
