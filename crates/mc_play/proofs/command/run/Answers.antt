use Rattle.std.proofs.Common.{sym}
use Rattle.mc_play.proofs.Completing.{completes}
use Rattle.mc_play.proofs.Endings.{run_ends, run_written}
use Rattle.mc_play.proofs.command.run.Goals as goal

pub returns-clause-ends : goal.returns-clause-ends
returns-clause-ends g c =
    let played = c.in-Ok.played in
    let wrote = c.write_out-wrote in
    let shelf = g.D.Shelf.faults in
    let sink = g.K.Sink.faults in
    rw (c.exit_of-exit.ensures, c.as_slice.ensures, c.fault_count-before.ensures, c.fault_count-after.ensures, sym c.in-Some.ensures.value)
    (run_ends (g.D.Shelf.files c.args.shelf.now) _ c.in-Some.line
    (record { shelf_before = shelf c.args.shelf.now; shelf_now = shelf c.perform.new.shelf; sink_before = sink c.args.out.now; sink_now = sink wrote.new.out }) played.hd played.halt wrote.result
    (rw c.fault_count-before.ensures at c.in-Ok.ensures.played) wrote.ensures.cause)

pub returns-clause-written : goal.returns-clause-written
returns-clause-written g c =
    let played = c.in-Ok.played in
    let wrote = c.write_out-wrote in
    rw (c.exit_of-exit.ensures, c.as_slice.ensures)
    (run_written (g.K.Sink.text c.args.out.now) (g.K.Sink.text wrote.new.out) played.hd played.halt wrote.result c.fault_count-before.result c.fault_count-after.result wrote.ensures.written)

pub returns-clause-complete : goal.returns-clause-complete
returns-clause-complete g c = completes _ _ _ _ _ _ (returns-clause-ends g c)
