use Rattle.std.proofs.Common.{◌≡◌, ℤ, true, Some, None, List, rules, sym, subst, ap, ◌∙◌, w64, to_z, of_z}
use Rattle.std.specs.Prelude.{reverse}
use mir.Val.{SFits}
use Rattle.std.proofs.lemmas.Int.{to_z-of_z}
use Rattle.mc_packet.specs.declared.choice.Choice.{Choice}
use Rattle.mc_tracks.specs.declared.track.Track.{Track}
use Rattle.mc_packet.specs.Choices.{is_known}
use Rattle.mc_calls.specs.State.{DemuxState}
use Rattle.mc_calls.specs.Demuxers.{IsDemux}
use Rattle.mc_calls.specs.Records.{HasRoom}
use Rattle.mc_journal.specs.Callers.{Grew}
use Rattle.mc_tracks.specs.Selection.{choice_of, knows, refusal_of}
use Rattle.mc_calls.specs.Selecting.{Switches}
use Rattle.mc_calls.proofs.Known.{choice_known}
use Rattle.mc_calls.proofs.Switched.{differ, roomy_switches}
use Rattle.mc_calls.proofs.Reselected.{refusal_told, switch_keeps}
use Rattle.mc_calls.proofs.Turned.{refused_keeps}
use Rattle.mc_calls.specs.Marks.{AreAmong, marks_of}
use Rattle.mc_calls.proofs.Among.{among_same, among_self}
use Rattle.mc_calls.proofs.Remarked.{spare_among, switches_among}
use Rattle.mc_calls.proofs.Grown.{none_grew, refused_grew, roomy_grew, switches_grew}
use Rattle.mc_demux.proofs.demux.Demux.select.Goals as goal

pub switch-requires-clause-known : goal.switch-requires-clause-known
switch-requires-clause-known c =
    let known = choice_known c.self.inside.list c.args.set.now (sym c.in_default.ensures) in
    let lists : c.self.inside.list ≡ c.make_room_to_change.new.self.list =
    ap (λ (d : DemuxState). d.list) c.self.view_is ∙ sym (ap (λ (d : DemuxState). d.list) c.in_ok-make_room_to_change.ensures.same.changed) in
    subst (λ (l : List Track). is_known (knows l) c.choice_of-chosen.result ≡ true) lists
    (subst (λ (x : Choice). is_known (knows c.self.inside.list) x ≡ true) (sym c.choice_of-chosen.ensures) known)

pub returns-clause-value : goal.returns-clause-value
returns-clause-value c =
    let room : HasRoom c.args.self.now.journal = search rules in
    let none : refusal_of c.args.self.now.list c.args.set.now ≡ None = search rules in
    let same : c.choice_of-chosen.result ≡ choice_of c.args.self.now.list c.args.set.now = search rules in
    let here : c.args.self.now.set ≡ c.self.inside.set = sym (ap (λ (d : DemuxState). d.set) c.self.view_is) in
    let other : choice_of c.args.self.now.list c.args.set.now ≡ c.args.self.now.set → ⊥ = λ e. differ c.choice_of-chosen.result c.self.inside.set c.if-eq.ensures (same ∙ e ∙ here) in
    let fits : SFits w64 c.args.at = search rules in
    let told = roomy_switches c.args.self.now c.make_room_to_change.new.self c.switch.new.self c.args.by c.choice_of-chosen.result c.args.at c.in_ok-make_room_to_change.ensures.same
    (subst (λ (z : ℤ). Switches c.args.by c.choice_of-chosen.result z c.make_room_to_change.new.self c.switch.new.self) (to_z-of_z w64 c.args.at fits) c.in_ok-switch.ensures.ok) in
    (room, none, other, subst (λ (x : Choice). Switches c.args.by x c.args.at c.args.self.now c.switch.new.self) same told)

pub returns-in-Some-clause-film : goal.returns-in-Some-clause-film
returns-in-Some-clause-film c = λ film s.
    let why : refusal_of c.args.self.now.list c.args.set.now ≡ Some c.in-Some.why =
    sym (subst (λ (d : DemuxState). Some c.in-Some.why ≡ refusal_of d.list c.args.set.now) c.self.view_is c.in-Some.ensures) in
    refused_keeps film c.args.self.now c.refuse.new.self c.args.by c.in-Some.why c.in_ok-refuse.ensures.ok
    (refusal_told (reverse c.args.self.now.journal) c.args.self.now.list c.args.set.now c.in-Some.why why) s

pub returns-clause-film : goal.returns-clause-film
returns-clause-film c = λ film s.
    let d : IsDemux c.args.self.now = subst (λ (x : DemuxState). IsDemux x) c.self.view_is c.self.invariant in
    let accepted = choice_known c.self.inside.list c.args.set.now (sym c.in_default.ensures) in
    let known : is_known (knows c.args.self.now.list) c.choice_of-chosen.result ≡ true =
    subst (λ (x : DemuxState). is_known (knows x.list) c.choice_of-chosen.result ≡ true) c.self.view_is
    (subst (λ (x : Choice). is_known (knows c.self.inside.list) x ≡ true) (sym c.choice_of-chosen.ensures) accepted) in
    let here : c.args.self.now.set ≡ c.self.inside.set = sym (ap (λ (d : DemuxState). d.set) c.self.view_is) in
    let other : c.choice_of-chosen.result ≡ c.args.self.now.set → ⊥ = λ e. differ c.choice_of-chosen.result c.self.inside.set c.if-eq.ensures (e ∙ here) in
    switch_keeps film c.args.self.now c.switch.new.self c.args.by c.choice_of-chosen.result (to_z w64 (of_z w64 c.args.at)) d known other
    (roomy_switches c.args.self.now c.make_room_to_change.new.self c.switch.new.self c.args.by c.choice_of-chosen.result (to_z w64 (of_z w64 c.args.at)) c.in_ok-make_room_to_change.ensures.same
    c.in_ok-switch.ensures.ok) s

pub returns-then-len-ge-FULL-clause-marks : goal.returns-then-len-ge-FULL-clause-marks
returns-then-len-ge-FULL-clause-marks c = among_self c.args.self.now.cache

pub returns-in_err-refuse-clause-marks : goal.returns-in_err-refuse-clause-marks
returns-in_err-refuse-clause-marks c = spare_among c.args.self.now c.refuse.new.self c.in_err-refuse.ensures.err

pub returns-in-Some-clause-marks : goal.returns-in-Some-clause-marks
returns-in-Some-clause-marks c = among_same c.args.self.now.cache c.refuse.new.self.cache c.in_ok-refuse.ensures.ok.cache_is

pub returns-then-eq-clause-marks : goal.returns-then-eq-clause-marks
returns-then-eq-clause-marks c = among_self c.args.self.now.cache

pub returns-in_err-make_room_to_change-clause-marks : goal.returns-in_err-make_room_to_change-clause-marks
returns-in_err-make_room_to_change-clause-marks c = spare_among c.args.self.now c.make_room_to_change.new.self c.in_err-make_room_to_change.ensures.same

pub returns-in_err-switch-clause-marks : goal.returns-in_err-switch-clause-marks
returns-in_err-switch-clause-marks c =
    subst (λ (d : DemuxState). AreAmong (marks_of c.args.self.now.cache) d.cache) (sym c.in_err-switch.ensures.err)
    (spare_among c.args.self.now c.make_room_to_change.new.self c.in_ok-make_room_to_change.ensures.same)

pub returns-clause-marks : goal.returns-clause-marks
returns-clause-marks c =
    switches_among c.args.by c.choice_of-chosen.result (to_z w64 (of_z w64 c.args.at)) c.args.self.now c.switch.new.self
    (roomy_switches c.args.self.now c.make_room_to_change.new.self c.switch.new.self c.args.by c.choice_of-chosen.result (to_z w64 (of_z w64 c.args.at)) c.in_ok-make_room_to_change.ensures.same
    c.in_ok-switch.ensures.ok)

pub returns-then-len-ge-FULL-clause-grows : goal.returns-then-len-ge-FULL-clause-grows
returns-then-len-ge-FULL-clause-grows c = none_grew c.args.by c.args.self.now.journal

pub returns-in_err-refuse-clause-grows : goal.returns-in_err-refuse-clause-grows
returns-in_err-refuse-clause-grows c = roomy_grew c.args.by c.args.self.now c.refuse.new.self c.in_err-refuse.ensures.err

pub returns-in-Some-clause-grows : goal.returns-in-Some-clause-grows
returns-in-Some-clause-grows c = refused_grew c.args.by c.in-Some.why c.args.self.now c.refuse.new.self c.in_ok-refuse.ensures.ok

pub returns-then-eq-clause-grows : goal.returns-then-eq-clause-grows
returns-then-eq-clause-grows c = none_grew c.args.by c.args.self.now.journal

pub returns-in_err-make_room_to_change-clause-grows : goal.returns-in_err-make_room_to_change-clause-grows
returns-in_err-make_room_to_change-clause-grows c = roomy_grew c.args.by c.args.self.now c.make_room_to_change.new.self c.in_err-make_room_to_change.ensures.same

pub returns-in_err-switch-clause-grows : goal.returns-in_err-switch-clause-grows
returns-in_err-switch-clause-grows c =
    subst (λ (d : DemuxState). Grew c.args.by c.args.self.now.journal d.journal) (sym c.in_err-switch.ensures.err)
    (roomy_grew c.args.by c.args.self.now c.make_room_to_change.new.self c.in_ok-make_room_to_change.ensures.same)

pub returns-clause-grows : goal.returns-clause-grows
returns-clause-grows c = switches_grew c.args.by (choice_of c.args.self.now.list c.args.set.now) c.args.at c.args.self.now c.switch.new.self (returns-clause-value c).3
