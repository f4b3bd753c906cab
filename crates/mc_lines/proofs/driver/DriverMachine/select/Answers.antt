use Rattle.std.proofs.Common.{refl, subst, SFits, w64, rules}
use Rattle.std.proofs.lemmas.Int.{to_z-of_z}
use Rattle.mc_lines.specs.Calls.{Selects}
use Rattle.mc_cursor.specs.Standing.{plan_for}
use Rattle.mc_filmed.specs.Films.{film_for}
use Rattle.mc_lines.specs.Machines.{ahead_of, jobs_of}
use Rattle.mc_lines.proofs.Called.{selects}
use Rattle.mc_jobs.proofs.Calling.{select-stands}
use Rattle.mc_lines.proofs.Ruling.{fixed_on, stands_on}
use Rattle.mc_lines.proofs.Staying.{selects_stays}
use Rattle.mc_lines.proofs.driver.DriverMachine.select.Goals as goal

pub returns-clause-selects : goal.returns-clause-selects
returns-clause-selects c =
    let d = c.args.self.now.demux in
    let call = c.select in
    let f : SFits w64 c.args.at = search rules in
    subst (λ t. Selects (ahead_of d) c.args.by c.args.set.now t d.journal call.new.self.journal (jobs_of d) (jobs_of call.new.self) call.result) (to_z-of_z w64 c.args.at f) (selects c.args.by c.args.set.now _ d call.new.self call.result call.ensures.value)

pub returns-clause-stands : goal.returns-clause-stands
returns-clause-stands c = λ octets rd s.
    let me = c.args.self.now in
    let call = c.select in
    let drives = select-stands octets me.demux call.new.self me.cursor me.index c.args.by c.args.set.now _ call.result s.drives (call.ensures.film (film_for (plan_for octets me.cursor)) s.drives.demux_is) call.ensures.marks call.ensures.value in
    stands_on me (record me { demux = call.new.self }) octets rd refl (selects_stays c.args.by c.args.set.now _ me.demux call.new.self call.result call.ensures.value) call.ensures.demux drives s

pub returns-clause-fixed : goal.returns-clause-fixed
returns-clause-fixed c = let call = c.select in let me = c.args.self.now in fixed_on me (record me { demux = call.new.self }) refl (selects_stays c.args.by c.args.set.now _ me.demux call.new.self call.result call.ensures.value)
