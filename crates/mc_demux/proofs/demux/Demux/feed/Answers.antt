use Rattle.std.proofs.Common.{◌≡◌, [], ◌∷◌, refl, rules, subst, sym}
use Rattle.mc_calls.specs.State.{DemuxState}
use Rattle.mc_calls.specs.Film.{StandsFor}
use Rattle.mc_calls.specs.Outcomes.{PartFits}
use Rattle.mc_calls.specs.Records.{HasRoom}
use Rattle.mc_journal.specs.Callers.{Grew, demuxer}
use Rattle.mc_calls.proofs.Takings.{fed_on, feed_keeps, roomy_stands, same_kept, same_mark}
use Rattle.mc_calls.specs.Marks.{AreAmong, marks_of}
use Rattle.mc_calls.proofs.Among.{among_more}
use Rattle.mc_calls.proofs.Remarked.{as_before_among, before_more, part_among}
use Rattle.mc_calls.proofs.Grown.{before_grew, none_grew, wrote_all_grew}
use Rattle.mc_demux.proofs.demux.Demux.feed.Goals as goal

pub returns-in_err-make_room_to_feed-clause-film : goal.returns-in_err-make_room_to_feed-clause-film
returns-in_err-make_room_to_feed-clause-film c = λ film p s.
    roomy_stands film c.args.self.now c.make_room_to_feed.new.self c.in_err-make_room_to_feed.ensures.same s

pub returns-in_err-take_part-clause-film : goal.returns-in_err-take_part-clause-film
returns-in_err-take_part-clause-film c = λ film p s.
    subst (λ (d : DemuxState). StandsFor film d) (sym c.in_err-take_part.ensures.err)
    (roomy_stands film c.args.self.now c.make_room_to_feed.new.self c.in_ok-make_room_to_feed.ensures.same s)

pub returns-clause-value : goal.returns-clause-value
returns-clause-value c =
    let room : HasRoom c.args.self.now.journal = search rules in
    let same : c.args.no ≡ c.args.self.now.number = search rules in
    (room, same, fed_on c.args.self.now c.make_room_to_feed.new.self c.take_part.new.self c.args.chunk c.in_ok-make_room_to_feed.ensures.same c.in_ok-take_part.ensures.ok)

pub returns-clause-film : goal.returns-clause-film
returns-clause-film c = λ film p s.
    let same : c.args.no ≡ c.args.self.now.number = search rules in
    let b = c.requires.brought same in
    let m = c.in_ok-make_room_to_feed.ensures.same in
    feed_keeps film c.args.self.now c.make_room_to_feed.new.self c.take_part.new.self c.args.chunk m c.in_ok-make_room_to_feed.ensures.demux
    (same_kept (PartFits c.args.chunk) c.args.self.now c.make_room_to_feed.new.self m b.0)
    (same_mark c.args.self.now c.make_room_to_feed.new.self c.args.chunk.from m b.1) p c.in_ok-take_part.ensures.ok s

pub returns-then-len-ge-FULL-clause-marks : goal.returns-then-len-ge-FULL-clause-marks
returns-then-len-ge-FULL-clause-marks c = among_more c.args.chunk.to c.args.self.now.cache

pub returns-then-no-self-clause-marks : goal.returns-then-no-self-clause-marks
returns-then-no-self-clause-marks c = among_more c.args.chunk.to c.args.self.now.cache

pub returns-in_err-make_room_to_feed-clause-marks : goal.returns-in_err-make_room_to_feed-clause-marks
returns-in_err-make_room_to_feed-clause-marks c = before_more c.args.chunk.to c.args.self.now c.make_room_to_feed.new.self c.in_err-make_room_to_feed.ensures.same

pub returns-in_err-take_part-clause-marks : goal.returns-in_err-take_part-clause-marks
returns-in_err-take_part-clause-marks c =
    subst (λ (d : DemuxState). AreAmong (c.args.chunk.to ∷ marks_of c.args.self.now.cache) d.cache) (sym c.in_err-take_part.ensures.err)
    (before_more c.args.chunk.to c.args.self.now c.make_room_to_feed.new.self c.in_ok-make_room_to_feed.ensures.same)

pub returns-clause-marks : goal.returns-clause-marks
returns-clause-marks c =
    part_among c.args.chunk c.make_room_to_feed.new.self c.take_part.new.self (marks_of c.args.self.now.cache) c.in_ok-take_part.ensures.ok
    (as_before_among c.args.self.now c.make_room_to_feed.new.self c.in_ok-make_room_to_feed.ensures.same)

pub returns-then-len-ge-FULL-clause-grows : goal.returns-then-len-ge-FULL-clause-grows
returns-then-len-ge-FULL-clause-grows c = none_grew demuxer c.args.self.now.journal

pub returns-then-no-self-clause-grows : goal.returns-then-no-self-clause-grows
returns-then-no-self-clause-grows c = none_grew demuxer c.args.self.now.journal

pub returns-in_err-make_room_to_feed-clause-grows : goal.returns-in_err-make_room_to_feed-clause-grows
returns-in_err-make_room_to_feed-clause-grows c = before_grew demuxer c.args.self.now c.make_room_to_feed.new.self c.in_err-make_room_to_feed.ensures.same

pub returns-in_err-take_part-clause-grows : goal.returns-in_err-take_part-clause-grows
returns-in_err-take_part-clause-grows c =
    subst (λ (d : DemuxState). Grew demuxer c.args.self.now.journal d.journal) (sym c.in_err-take_part.ensures.err)
    (before_grew demuxer c.args.self.now c.make_room_to_feed.new.self c.in_ok-make_room_to_feed.ensures.same)

pub returns-clause-grows : goal.returns-clause-grows
returns-clause-grows c = wrote_all_grew demuxer (_ ∷ []) c.args.self.now.journal c.take_part.new.self.journal (refl, tt) (returns-clause-value c).2.wrote
