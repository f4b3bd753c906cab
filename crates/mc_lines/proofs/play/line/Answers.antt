use Rattle.std.proofs.Common.{rules}
use Rattle.std.specs.Prelude.{Ok}
use mir.Val.{SFits}
use mir.Syntax.{w64}
use Rattle.std.proofs.Math.Facts.{to_z-of_z}
use Rattle.mc_script.specs.declared.acts.Act.TheVariants as acts
use Rattle.mc_lines.proofs.Growing.{grows_orders}
use Rattle.mc_lines.proofs.Playing.{goes, goes_free, goes_take, still_awaited, take_awaited, took_on}
use Rattle.mc_lines.proofs.play.line.Goals as goal

pub returns-in-Seek-clause-awaited : goal.returns-in-Seek-clause-awaited
returns-in-Seek-clause-awaited g c = still_awaited c.args.out.now _ _ _ _ c.requires.awaited c.seek_line.ensures.orders

pub returns-in-Seek-clause-line : goal.returns-in-Seek-clause-line
returns-in-Seek-clause-line g c octets rd told s taken h =
    let fits : SFits w64 c.in-Seek.t = search rules in
    rw c.in-Seek.is (goes rd (acts.Seek c.in-Seek.t c.in-Seek.dir) _ _ c.args.out.now _ _ c.seek_line.result tt (rw (to_z-of_z fits) at (c.seek_line.ensures.line octets rd s)) c.seek_line.ensures.orders taken h)

pub returns-in-Seek-clause-grows : goal.returns-in-Seek-clause-grows
returns-in-Seek-clause-grows g c = grows_orders (g.S.Shelf.faults c.args.shelf.now) _ _ _ _ c.seek_line.ensures.orders

pub returns-in-Switch-clause-awaited : goal.returns-in-Switch-clause-awaited
returns-in-Switch-clause-awaited g c = still_awaited c.args.out.now _ _ _ _ c.requires.awaited c.switch_line.ensures.orders

pub returns-in-Switch-clause-line : goal.returns-in-Switch-clause-line
returns-in-Switch-clause-line g c octets rd told s taken h =
    rw c.in-Switch.is (goes rd (acts.Switch c.in-Switch.set c.in-Switch.at) _ _ c.args.out.now _ _ c.switch_line.result tt (rw c.as_slice.ensures at (c.switch_line.ensures.line octets rd s)) c.switch_line.ensures.orders taken h)

pub returns-in-Switch-clause-grows : goal.returns-in-Switch-clause-grows
returns-in-Switch-clause-grows g c = grows_orders (g.S.Shelf.faults c.args.shelf.now) _ _ _ _ c.switch_line.ensures.orders

pub returns-in-Show-clause-awaited : goal.returns-in-Show-clause-awaited
returns-in-Show-clause-awaited g c = still_awaited c.args.out.now _ _ _ _ c.requires.awaited c.show_line.ensures.orders

pub returns-in-Show-clause-grows : goal.returns-in-Show-clause-grows
returns-in-Show-clause-grows g c = grows_orders (g.S.Shelf.faults c.args.shelf.now) _ _ _ _ c.show_line.ensures.orders

pub returns-in-Demux-clause-line : goal.returns-in-Demux-clause-line
returns-in-Demux-clause-line g c octets rd told s taken h =
    let free = rw c.in-Demux.is at c.requires.free in
    rw c.in-Demux.is (goes_free rd (acts.Demux c.in-Demux.count) _ _ c.args.out.now _ _ c.demux_line.result tt free (c.demux_line.ensures.line octets rd told s) taken h)

pub returns-in_ok-out-in-DemuxTake-clause-awaited : goal.returns-in_ok-out-in-DemuxTake-clause-awaited
returns-in_ok-out-in-DemuxTake-clause-awaited g c =
    take_awaited (g.M.Machine.ahead c.args.machine.now) _ _ c.in_ok-out-in-DemuxTake.field-0 _ c.in_ok-out-in-DemuxTake.ensures.took

pub returns-in_ok-out-in-DemuxTake-clause-line : goal.returns-in_ok-out-in-DemuxTake-clause-line
returns-in_ok-out-in-DemuxTake-clause-line g c octets rd told s taken h =
    let film = g.met.M.Machine.shows_film c.args.machine.now octets rd s in
    let took = took_on rd (g.M.Machine.ahead c.args.machine.now) _ _ _ (Ok c.in_ok-out-in-DemuxTake.field-0) film c.in_ok-out-in-DemuxTake.ensures.took in
    rw c.in-DemuxTake.is (goes_take rd _ _ c.in_ok-out-in-DemuxTake.field-0 _ taken took)

pub returns-in-Read-clause-awaited : goal.returns-in-Read-clause-awaited
returns-in-Read-clause-awaited g c = still_awaited c.args.out.now _ _ _ _ c.requires.awaited c.read_line.ensures.orders

pub returns-in-Read-clause-line : goal.returns-in-Read-clause-line
returns-in-Read-clause-line g c octets rd told s taken h =
    rw c.in-Read.is (goes rd (acts.Read c.in-Read.kind c.in-Read.count) _ _ c.args.out.now _ _ c.read_line.result tt (c.read_line.ensures.line octets rd s) c.read_line.ensures.orders taken h)

pub returns-in-Read-clause-grows : goal.returns-in-Read-clause-grows
returns-in-Read-clause-grows g c = grows_orders (g.S.Shelf.faults c.args.shelf.now) _ _ _ _ c.read_line.ensures.orders
