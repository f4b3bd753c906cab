use Rattle.std.proofs.Common.{◌≡◌, [], ◌∷◌, refl, rules}
use Rattle.mc_calls.specs.Keeping.{IsAsBefore}
use Rattle.mc_calls.specs.Outcomes.{StartsFit}
use Rattle.mc_calls.specs.Records.{HasRoom}
use Rattle.mc_journal.specs.Callers.{demuxer}
use Rattle.mc_calls.proofs.Takings.{before_both, find_keeps, found_on, roomy_stands, same_kept}
use Rattle.mc_calls.specs.Marks.{marks_of}
use Rattle.mc_calls.proofs.Among.{among_more}
use Rattle.mc_calls.proofs.Remarked.{as_before_among, before_more, starts_among}
use Rattle.mc_calls.proofs.Grown.{before_grew, none_grew, wrote_all_grew}
use Rattle.mc_journal.specs.declared.record.DemuxRecord.TheVariants.{Found}
use Rattle.mc_demux.proofs.demux.Demux.found.Goals as goal

pub returns-clause-value : goal.returns-clause-value
returns-clause-value c =
    let room : HasRoom c.args.self.now.journal = search rules in
    let same : c.args.no ≡ c.args.self.now.number = search rules in
    let m = c.in_ok-make_room_to_find.ensures.same in
    let kept = same_kept (StartsFit c.args.starts) c.args.self.now c.make_room_to_find.new.self m (c.requires.brought same) in
    (room, same, found_on c.args.self.now c.make_room_to_find.new.self c.take_starts.new.self c.args.starts m c.in_ok-make_room_to_find.ensures.demux kept c.in_ok-take_starts.ensures.ok)

pub returns-clause-film : goal.returns-clause-film
returns-clause-film c = λ film p s.
    let same : c.args.no ≡ c.args.self.now.number = search rules in
    let m = c.in_ok-make_room_to_find.ensures.same in
    let kept = same_kept (StartsFit c.args.starts) c.args.self.now c.make_room_to_find.new.self m (c.requires.brought same) in
    find_keeps film c.args.self.now c.make_room_to_find.new.self c.take_starts.new.self c.args.starts m c.in_ok-make_room_to_find.ensures.demux kept (p same) c.in_ok-take_starts.ensures.ok s

pub returns-in_err-make_room_to_find-clause-film : goal.returns-in_err-make_room_to_find-clause-film
returns-in_err-make_room_to_find-clause-film c = λ film p s.
    roomy_stands film c.args.self.now c.make_room_to_find.new.self c.in_err-make_room_to_find.ensures.same s

pub returns-in_err-take_starts-clause-film : goal.returns-in_err-take_starts-clause-film
returns-in_err-take_starts-clause-film c = λ film p s.
    roomy_stands film c.args.self.now c.take_starts.new.self
    (before_both c.args.self.now c.make_room_to_find.new.self c.take_starts.new.self c.in_ok-make_room_to_find.ensures.same c.in_err-take_starts.ensures.err) s

pub returns-in_err-take_starts-clause-value : goal.returns-in_err-take_starts-clause-value
returns-in_err-take_starts-clause-value c =
    let room : HasRoom c.args.self.now.journal = search rules in
    let b : IsAsBefore c.args.self.now c.take_starts.new.self =
    before_both c.args.self.now c.make_room_to_find.new.self c.take_starts.new.self c.in_ok-make_room_to_find.ensures.same c.in_err-take_starts.ensures.err in
    search rules

pub returns-then-len-ge-FULL-clause-marks : goal.returns-then-len-ge-FULL-clause-marks
returns-then-len-ge-FULL-clause-marks c = among_more c.args.starts.mark c.args.self.now.cache

pub returns-then-no-self-clause-marks : goal.returns-then-no-self-clause-marks
returns-then-no-self-clause-marks c = among_more c.args.starts.mark c.args.self.now.cache

pub returns-in_err-make_room_to_find-clause-marks : goal.returns-in_err-make_room_to_find-clause-marks
returns-in_err-make_room_to_find-clause-marks c = before_more c.args.starts.mark c.args.self.now c.make_room_to_find.new.self c.in_err-make_room_to_find.ensures.same

pub returns-in_err-take_starts-clause-marks : goal.returns-in_err-take_starts-clause-marks
returns-in_err-take_starts-clause-marks c =
    before_more c.args.starts.mark c.args.self.now c.take_starts.new.self
    (before_both c.args.self.now c.make_room_to_find.new.self c.take_starts.new.self c.in_ok-make_room_to_find.ensures.same c.in_err-take_starts.ensures.err)

pub returns-clause-marks : goal.returns-clause-marks
returns-clause-marks c =
    starts_among c.args.starts c.make_room_to_find.new.self c.take_starts.new.self (marks_of c.args.self.now.cache) c.in_ok-take_starts.ensures.ok
    (as_before_among c.args.self.now c.make_room_to_find.new.self c.in_ok-make_room_to_find.ensures.same)

pub returns-then-len-ge-FULL-clause-grows : goal.returns-then-len-ge-FULL-clause-grows
returns-then-len-ge-FULL-clause-grows c = none_grew demuxer c.args.self.now.journal

pub returns-then-no-self-clause-grows : goal.returns-then-no-self-clause-grows
returns-then-no-self-clause-grows c = none_grew demuxer c.args.self.now.journal

pub returns-in_err-make_room_to_find-clause-grows : goal.returns-in_err-make_room_to_find-clause-grows
returns-in_err-make_room_to_find-clause-grows c = before_grew demuxer c.args.self.now c.make_room_to_find.new.self c.in_err-make_room_to_find.ensures.same

pub returns-in_err-take_starts-clause-grows : goal.returns-in_err-take_starts-clause-grows
returns-in_err-take_starts-clause-grows c =
    before_grew demuxer c.args.self.now c.take_starts.new.self
    (before_both c.args.self.now c.make_room_to_find.new.self c.take_starts.new.self c.in_ok-make_room_to_find.ensures.same c.in_err-take_starts.ensures.err)

pub returns-clause-grows : goal.returns-clause-grows
returns-clause-grows c =
    wrote_all_grew demuxer (Found demuxer c.args.starts ∷ []) c.args.self.now.journal c.take_starts.new.self.journal (refl, tt) (returns-clause-value c).2.wrote
