use Rattle.std.proofs.Common.{refl, subst, sym}
use Rattle.mc_cursor.specs.Standing.{plan_for}
use Rattle.mc_filmed.specs.Films.{film_for, choice_for}
use Rattle.mc_lines.proofs.Called.{reads_of, read_jobs}
use Rattle.mc_jobs.proofs.Calling.{read-stands}
use Rattle.mc_lines.proofs.Ruling.{fixed_on, stands_on}
use Rattle.mc_lines.proofs.Shown.{answers}
use Rattle.mc_lines.specs.Calls.{AnswersOn}
use Rattle.mc_lines.proofs.Staying.{reads_stays}
use Rattle.mc_lines.proofs.driver.DriverMachine.read.Goals as goal

pub returns-clause-reads : goal.returns-clause-reads
returns-clause-reads c = let call = c.read in reads_of c.args.by c.args.track c.args.self.now.demux call.new.self call.result call.ensures.value

pub returns-clause-jobs : goal.returns-clause-jobs
returns-clause-jobs c = let call = c.read in read_jobs c.args.by c.args.track c.args.self.now.demux call.new.self call.result call.ensures.value

pub returns-clause-film : goal.returns-clause-film
returns-clause-film c = λ octets rd s.
    let me = c.args.self.now in
    let call = c.read in
    let film = film_for (plan_for octets me.cursor) in
    subst (λ x. AnswersOn x c.args.track me.demux.journal call.new.self.journal call.result) (sym s.readings_are)
    (answers film (choice_for me.demux.list) me.demux.cache.limits c.args.by c.args.track me.demux call.new.self call.result s.demux s.drives.demux_is (call.ensures.film film s.drives.demux_is) call.ensures.value)

pub returns-clause-stands : goal.returns-clause-stands
returns-clause-stands c = λ octets rd s.
    let me = c.args.self.now in
    let call = c.read in
    let drives = read-stands octets me.demux call.new.self me.cursor me.index c.args.by c.args.track call.result s.drives (call.ensures.film (film_for (plan_for octets me.cursor)) s.drives.demux_is) call.ensures.marks call.ensures.value in
    stands_on me (record me { demux = call.new.self }) octets rd refl (reads_stays c.args.by c.args.track me.demux call.new.self call.result call.ensures.value) call.ensures.demux drives s

pub returns-clause-fixed : goal.returns-clause-fixed
returns-clause-fixed c = let call = c.read in let me = c.args.self.now in fixed_on me (record me { demux = call.new.self }) refl (reads_stays c.args.by c.args.track me.demux call.new.self call.result call.ensures.value)
