use Rattle.std.proofs.Common.{rules, arith, sym, ap, ◌∙◌, []}
use Rattle.mc_tracks.specs.declared.children.Master.TheVariants.{Tracks}
use Rattle.mc_tracks.specs.Header.{tracks_among, tracks_of}
use Rattle.mc_tracks.proofs.Walk.{begins}
use Rattle.mc_tracks.proofs.Shape.{are_listed}
use Rattle.mc_tracks.proofs.Listed.{ends, is_done, breaks, goes_on, refuses}
use Rattle.mc_tracks.proofs.tracks.parse_tracks.Goals as goal

pub loop-init : goal.loop-init
unfolding tracks_of
loop-init c = record {
  within = omega arith;
  joined = rw c.new-list.ensures (ap (tracks_among c.args.body.now c.args.at []) (begins Tracks c.args.body.now));
}

pub returns-then-place-body-clause-value : goal.returns-then-place-body-clause-value
returns-then-place-body-clause-value c = ends c.args.body.now c.args.at c.loop.list c.loop.counter c.loop.place (tracks_of c.args.body.now c.args.at) c.loop.invariant.joined c.if-place-body.true

pub returns-in_default-clause-value : goal.returns-in_default-clause-value
returns-in_default-clause-value c = breaks c.args.body.now c.args.at c.loop.list c.loop.counter c.loop.place (tracks_of c.args.body.now c.args.at) c.loop.invariant.joined
    c.loop-test.true c.if-place-body.false (sym c.in_default.is ∙ c.read_child.ensures.value)

pub returns-in_err-list-clause-value : goal.returns-in_err-list-clause-value
returns-in_err-list-clause-value c = let f = refuses c.args.body.now c.args.at c.loop.list c.loop.counter c.loop.place (tracks_of c.args.body.now c.args.at) c.loop.invariant.joined
    c.in-Some.child c.loop-test.true c.if-place-body.false c.in-Some.ensures.value c.in_err-list.field-0.0 c.in_err-list.ensures in search rules

pub loop-preserved : goal.loop-preserved
loop-preserved c = record {
  within = omega (arith, c.in-Some.ensures.lies);
  joined = goes_on c.args.body.now c.args.at c.loop.list c.loop.counter c.loop.place (tracks_of c.args.body.now c.args.at) c.loop.invariant.joined
      c.in-Some.child c.loop-test.true c.if-place-body.false c.in-Some.ensures.value c.in_ok-list.list c.in_ok-list.ensures;
}

pub returns-clause-value : goal.returns-clause-value
returns-clause-value c = is_done c.args.body.now c.args.at c.loop.list c.loop.counter c.loop.place (tracks_of c.args.body.now c.args.at) c.loop.invariant.joined c.loop-test.false

pub returns-then-place-body-clause-shape : goal.returns-then-place-body-clause-shape
returns-then-place-body-clause-shape c = are_listed c.args.body.now c.args.at c.loop.list
    (ends c.args.body.now c.args.at c.loop.list c.loop.counter c.loop.place (tracks_of c.args.body.now c.args.at) c.loop.invariant.joined c.if-place-body.true)

pub returns-clause-shape : goal.returns-clause-shape
returns-clause-shape c = are_listed c.args.body.now c.args.at c.loop.list
    (is_done c.args.body.now c.args.at c.loop.list c.loop.counter c.loop.place (tracks_of c.args.body.now c.args.at) c.loop.invariant.joined c.loop-test.false)
