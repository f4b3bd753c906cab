use Rattle.std.proofs.Common.{◌≡◌, ℤ, true, false, refl, rules, subst, ap, ◌∙◌, w64, to_z, of_z}
use Rattle.std.specs.Prelude.{reverse}
use Rattle.std.proofs.lemmas.Int.{to_z-of_z}
use Rattle.mc_packet.specs.declared.choice.Choice.{Choice}
use Rattle.mc_packet.specs.declared.choice.Why.TheVariants.{NoTrack}
use Rattle.mc_packet.specs.Choices.{is_empty}
use Rattle.mc_journal.specs.Readings.{selected}
use Rattle.mc_calls.specs.State.{DemuxState}
use Rattle.mc_calls.specs.Demuxers.{IsDemux}
use Rattle.mc_calls.specs.Records.{HasRoom}
use Rattle.mc_calls.specs.Seeking.{Goes}
use Rattle.mc_calls.proofs.Turned.{goes_keeps, refused_keeps, roomy_goes}
use Rattle.mc_calls.proofs.Among.{among_same, among_self}
use Rattle.mc_calls.proofs.Remarked.{goes_among, spare_among}
use Rattle.mc_calls.proofs.Grown.{none_grew, refused_grew, roomy_grew, wrote_grew}
use Rattle.mc_journal.specs.declared.record.DemuxRecord.TheVariants.{Sought}
use Rattle.mc_demux.proofs.demux.Demux.seek.Goals as goal

pub returns-then-is_empty-clause-film : goal.returns-then-is_empty-clause-film
returns-then-is_empty-clause-film c = λ film s.
    let none : is_empty c.args.self.now.set ≡ true = search rules in
    let why : is_empty (selected (reverse c.args.self.now.journal)) ≡ true = ap (λ (x : Choice). is_empty x) s.fits.set_is ∙ none in
    refused_keeps film c.args.self.now c.refuse.new.self c.args.by NoTrack c.in_ok-refuse.ensures.ok why s

pub returns-clause-value : goal.returns-clause-value
returns-clause-value c =
    let room : HasRoom c.args.self.now.journal = search rules in
    let some : is_empty c.args.self.now.set ≡ false = search rules in
    let goes = roomy_goes c.args.self.now c.make_room.new.self c.go.new.self c.args.by c.args.t c.args.dir c.go.result c.in_ok-make_room.ensures.same
    (subst (λ (z : ℤ). Goes c.args.by z c.args.dir c.go.result c.make_room.new.self c.go.new.self) (to_z-of_z w64 c.args.t c.ranges.t) c.go.ensures.value) in
    (room, some, goes.how_is, goes)

pub returns-clause-film : goal.returns-clause-film
returns-clause-film c = λ film s.
    let d : IsDemux c.args.self.now = subst (λ (x : DemuxState). IsDemux x) c.self.view_is c.self.invariant in
    let some : is_empty c.args.self.now.set ≡ false = search rules in
    goes_keeps film c.args.self.now c.go.new.self c.args.by (to_z w64 (of_z w64 c.args.t)) c.args.dir c.go.result d some
    (roomy_goes c.args.self.now c.make_room.new.self c.go.new.self c.args.by (to_z w64 (of_z w64 c.args.t)) c.args.dir c.go.result c.in_ok-make_room.ensures.same c.go.ensures.value) s

pub returns-then-len-ge-FULL-clause-marks : goal.returns-then-len-ge-FULL-clause-marks
returns-then-len-ge-FULL-clause-marks c = among_self c.args.self.now.cache

pub returns-in_err-refuse-clause-marks : goal.returns-in_err-refuse-clause-marks
returns-in_err-refuse-clause-marks c = spare_among c.args.self.now c.refuse.new.self c.in_err-refuse.ensures.err

pub returns-then-is_empty-clause-marks : goal.returns-then-is_empty-clause-marks
returns-then-is_empty-clause-marks c = among_same c.args.self.now.cache c.refuse.new.self.cache c.in_ok-refuse.ensures.ok.cache_is

pub returns-in_err-make_room-clause-marks : goal.returns-in_err-make_room-clause-marks
returns-in_err-make_room-clause-marks c = spare_among c.args.self.now c.make_room.new.self c.in_err-make_room.ensures.same

pub returns-clause-marks : goal.returns-clause-marks
returns-clause-marks c =
    goes_among c.args.by (to_z w64 (of_z w64 c.args.t)) c.args.dir c.go.result c.args.self.now c.go.new.self
    (roomy_goes c.args.self.now c.make_room.new.self c.go.new.self c.args.by (to_z w64 (of_z w64 c.args.t)) c.args.dir c.go.result c.in_ok-make_room.ensures.same c.go.ensures.value)

pub returns-then-len-ge-FULL-clause-grows : goal.returns-then-len-ge-FULL-clause-grows
returns-then-len-ge-FULL-clause-grows c = none_grew c.args.by c.args.self.now.journal

pub returns-in_err-refuse-clause-grows : goal.returns-in_err-refuse-clause-grows
returns-in_err-refuse-clause-grows c = roomy_grew c.args.by c.args.self.now c.refuse.new.self c.in_err-refuse.ensures.err

pub returns-then-is_empty-clause-grows : goal.returns-then-is_empty-clause-grows
returns-then-is_empty-clause-grows c = refused_grew c.args.by NoTrack c.args.self.now c.refuse.new.self c.in_ok-refuse.ensures.ok

pub returns-in_err-make_room-clause-grows : goal.returns-in_err-make_room-clause-grows
returns-in_err-make_room-clause-grows c = roomy_grew c.args.by c.args.self.now c.make_room.new.self c.in_err-make_room.ensures.same

pub returns-clause-grows : goal.returns-clause-grows
returns-clause-grows c = wrote_grew c.args.by (Sought c.args.by c.args.self.now.set c.args.t c.args.dir c.go.result) c.args.self.now.journal c.go.new.self.journal refl (returns-clause-value c).3.wrote
