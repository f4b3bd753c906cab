use Rattle.std.proofs.Common.{ap, ◌∙◌}
use Rattle.mc_calls.specs.State.{DemuxState}
use Rattle.mc_calls.proofs.Among.{among_same, among_self}
use Rattle.mc_calls.proofs.Remarked.{spare_among}
use Rattle.mc_calls.proofs.Grown.{journal_grew, none_grew, roomy_grew}
use Rattle.mc_demux.proofs.demux.Demux.next_job.Goals as goal

pub returns-then-len-ge-FULL-clause-marks : goal.returns-then-len-ge-FULL-clause-marks
returns-then-len-ge-FULL-clause-marks c = among_self c.args.self.now.cache

pub returns-in_err-make_room_for_outcome-clause-marks : goal.returns-in_err-make_room_for_outcome-clause-marks
returns-in_err-make_room_for_outcome-clause-marks c = spare_among c.args.self.now c.make_room_for_outcome.new.self c.in_err-make_room_for_outcome.ensures.same

pub returns-clause-marks : goal.returns-clause-marks
returns-clause-marks c =
    among_same c.args.self.now.cache c.keep.new.self.cache
    (ap (λ (d : DemuxState). d.cache) c.keep.ensures.value ∙ ap (λ (d : DemuxState). d.cache) c.in_ok-make_room_for_outcome.ensures.same.changed)

pub returns-then-len-ge-FULL-clause-grows : goal.returns-then-len-ge-FULL-clause-grows
returns-then-len-ge-FULL-clause-grows c = λ by. none_grew by c.args.self.now.journal

pub returns-in_err-make_room_for_outcome-clause-grows : goal.returns-in_err-make_room_for_outcome-clause-grows
returns-in_err-make_room_for_outcome-clause-grows c = λ by. roomy_grew by c.args.self.now c.make_room_for_outcome.new.self c.in_err-make_room_for_outcome.ensures.same

pub returns-clause-grows : goal.returns-clause-grows
returns-clause-grows c = λ by.
    journal_grew by c.args.self.now c.keep.new.self
    (ap (λ (d : DemuxState). d.journal) c.keep.ensures.value ∙ ap (λ (d : DemuxState). d.journal) c.in_ok-make_room_for_outcome.ensures.same.changed)
