use Rattle.std.proofs.Common.{refl}
use Rattle.mc_cursor.specs.Standing.{plan_for}
use Rattle.mc_filmed.specs.Films.{film_for}
use Rattle.mc_lines.proofs.Called.{takes}
use Rattle.mc_jobs.proofs.Calling.{ask-stands}
use Rattle.mc_lines.proofs.Ruling.{fixed_on, stands_on}
use Rattle.mc_lines.proofs.Staying.{asks_stays}
use Rattle.mc_lines.proofs.driver.DriverMachine.next_job.Goals as goal

pub returns-clause-takes : goal.returns-clause-takes
returns-clause-takes c = let call = c.next_job in takes c.args.self.now.demux call.new.self call.result call.ensures.value call.ensures.demux

pub returns-clause-stands : goal.returns-clause-stands
returns-clause-stands c = λ octets rd s.
    let me = c.args.self.now in
    let call = c.next_job in
    let drives = ask-stands octets me.demux call.new.self me.cursor me.index call.result s.drives (call.ensures.film (film_for (plan_for octets me.cursor)) s.drives.demux_is) call.ensures.value in
    stands_on me (record me { demux = call.new.self }) octets rd refl (asks_stays me.demux call.new.self call.result call.ensures.value) call.ensures.demux drives s

pub returns-clause-fixed : goal.returns-clause-fixed
returns-clause-fixed c = let call = c.next_job in let me = c.args.self.now in fixed_on me (record me { demux = call.new.self }) refl (asks_stays me.demux call.new.self call.result call.ensures.value)
