use Rattle.std.proofs.Common.{refl}
use Rattle.mc_cursor.specs.Standing.{plan_for}
use Rattle.mc_filmed.specs.Films.{film_for}
use Rattle.mc_lines.proofs.Called.{shows}
use Rattle.mc_jobs.proofs.Calling.{show-stands}
use Rattle.mc_lines.proofs.Ruling.{fixed_on, stands_on}
use Rattle.mc_lines.proofs.Staying.{shows_stays}
use Rattle.mc_lines.proofs.driver.DriverMachine.show.Goals as goal

pub returns-clause-shows : goal.returns-clause-shows
returns-clause-shows c = let call = c.show in shows c.args.by c.args.self.now.demux call.new.self call.result call.ensures.value

pub returns-clause-stands : goal.returns-clause-stands
returns-clause-stands c = λ octets rd s.
    let me = c.args.self.now in
    let call = c.show in
    let drives = show-stands octets me.demux call.new.self me.cursor me.index c.args.by call.result s.drives (call.ensures.film (film_for (plan_for octets me.cursor)) s.drives.demux_is) call.ensures.value in
    stands_on me (record me { demux = call.new.self }) octets rd refl (shows_stays c.args.by me.demux call.new.self call.result call.ensures.value) call.ensures.demux drives s

pub returns-clause-fixed : goal.returns-clause-fixed
returns-clause-fixed c = let call = c.show in let me = c.args.self.now in fixed_on me (record me { demux = call.new.self }) refl (shows_stays c.args.by me.demux call.new.self call.result call.ensures.value)
