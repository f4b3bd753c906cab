use Rattle.std.proofs.Common.{sym}
use Rattle.mc_ipc.proofs.Cuts.{so_far_ends, so_far_more, so_far_none, so_far_stops, so_far_stops_open}
use Rattle.mc_ipc.proofs.cutting.cut.Goals as goal

pub loop-end-init : goal.loop-end-init
loop-end-init c = rw c.new-lines.ensures (so_far_none c.args.held.now c.args.piece.now c.requires)

pub overflow_sub-front : goal.overflow_sub-front
overflow_sub-front c = c.loop-end.invariant.begins.short

pub returns-then-end-front : goal.returns-then-end-front
returns-then-end-front c =
    let s = so_far_stops c.args.held.now c.args.piece.now c.loop-end.lines c.loop-end.front.now c.loop-end.rest.now c.in-Some.end
    c.loop-end.invariant (sym c.in-Some.ensures.place) c.in-Some.ensures.within c.if-end-front.true in
    (s.lines, s.place)

pub overflow_sub-front-2 : goal.overflow_sub-front-2
overflow_sub-front-2 c = c.loop-end.invariant.begins.short

pub loop-end-preserved : goal.loop-end-preserved
loop-end-preserved c =
    rw (c.in_ok-push.ensures.ok, c.in_ok-joined.ensures)
    (so_far_more c.args.held.now c.args.piece.now c.loop-end.lines c.loop-end.front.now c.loop-end.rest.now c.in-Some.end
    c.loop-end.invariant (sym c.in-Some.ensures.place) c.in-Some.ensures.within c.if-end-front.false)

pub returns-then-rest-front : goal.returns-then-rest-front
returns-then-rest-front c =
    let s = so_far_stops_open c.args.held.now c.args.piece.now c.loop-end.lines c.loop-end.front.now c.loop-end.rest.now
    c.loop-end.invariant (sym c.in_default.ensures.place) c.if-rest-front.true in
    (s.lines, s.place)

pub returns : goal.returns
returns c =
    let e = so_far_ends c.args.held.now c.args.piece.now c.loop-end.lines c.loop-end.front.now c.loop-end.rest.now
    c.loop-end.invariant (sym c.in_default.ensures.place) c.if-rest-front.false in
    (e.lines, e.place, e.parts, e.begins)
