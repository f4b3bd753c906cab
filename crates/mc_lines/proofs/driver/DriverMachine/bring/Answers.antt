use Rattle.std.proofs.Common.{ap, refl}
use Rattle.mc_cursor.specs.declared.cursor.Cursor.{Cursor}
use Rattle.mc_cursor.specs.Standing.{plan_for}
use Rattle.mc_journal.specs.declared.record.DemuxRecord.TheVariants.{Starved as StarvedRecord}
use Rattle.mc_calls.specs.declared.waiting.Failure.TheVariants.{Starved}
use Rattle.mc_filmed.specs.Films.{film_for}
use Rattle.mc_jobs.proofs.Calling.{fails-stands}
use Rattle.mc_lines.proofs.Ruling.{stands_on}
use Rattle.mc_lines.proofs.Staying.{fails_stays, takes_stays}
use Rattle.mc_lines.proofs.driver.DriverMachine.bring.Goals as goal

pub returns-then-ne-clause-stands : goal.returns-then-ne-clause-stands
returns-then-ne-clause-stands g c = λ octets rd told s.
    let me = c.args.self.now in
    let call = c.starved in
    let drives = fails-stands octets me.demux call.new.self me.cursor me.index c.in-Some.no Starved (StarvedRecord 5) call.result s.drives
    (call.ensures.film (film_for (plan_for octets me.cursor)) s.drives.demux_is) call.ensures.marks call.ensures.value in
    stands_on me (record me { demux = call.new.self }) octets rd refl (fails_stays c.in-Some.no Starved (StarvedRecord 5) me.demux call.new.self call.result call.ensures.value) call.ensures.demux drives s

pub returns-clause-stands : goal.returns-clause-stands
returns-clause-stands g c = λ octets rd told s.
    let me = c.args.self.now in
    let call = c.do_job in
    let does = call.ensures.value in
    stands_on me call.new.self octets rd (ap (λ (x : Cursor). plan_for octets x) call.ensures.moves) (takes_stays c.in-Some.no does.0 me.demux call.new.self.demux call.result does.2) call.ensures.demux
    (call.ensures.stands octets told s.drives) s
