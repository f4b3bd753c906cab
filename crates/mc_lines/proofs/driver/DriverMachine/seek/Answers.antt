use Rattle.std.proofs.Common.{refl, subst, SFits, w64, rules}
use Rattle.std.proofs.lemmas.Int.{to_z-of_z}
use Rattle.mc_lines.specs.Calls.{Seeks}
use Rattle.mc_cursor.specs.Standing.{plan_for}
use Rattle.mc_filmed.specs.Films.{film_for}
use Rattle.mc_lines.specs.Machines.{ahead_of, jobs_of}
use Rattle.mc_lines.proofs.Called.{seeks}
use Rattle.mc_jobs.proofs.Calling.{seek-stands}
use Rattle.mc_lines.proofs.Ruling.{fixed_on, stands_on}
use Rattle.mc_lines.proofs.Staying.{seeks_stays}
use Rattle.mc_lines.proofs.driver.DriverMachine.seek.Goals as goal

pub returns-clause-seeks : goal.returns-clause-seeks
returns-clause-seeks c =
    let d = c.args.self.now.demux in
    let call = c.seek in
    let f : SFits w64 c.args.t = search rules in
    subst (λ t. Seeks (ahead_of d) c.args.by t c.args.dir d.journal call.new.self.journal (jobs_of d) (jobs_of call.new.self) call.result) (to_z-of_z w64 c.args.t f) (seeks c.args.by _ c.args.dir d call.new.self call.result call.ensures.value)

pub returns-clause-stands : goal.returns-clause-stands
returns-clause-stands c = λ octets rd s.
    let me = c.args.self.now in
    let call = c.seek in
    let drives = seek-stands octets me.demux call.new.self me.cursor me.index c.args.by _ c.args.dir call.result s.drives (call.ensures.film (film_for (plan_for octets me.cursor)) s.drives.demux_is) call.ensures.marks call.ensures.value in
    stands_on me (record me { demux = call.new.self }) octets rd refl (seeks_stays c.args.by _ c.args.dir me.demux call.new.self call.result call.ensures.value) call.ensures.demux drives s

pub returns-clause-fixed : goal.returns-clause-fixed
returns-clause-fixed c = let call = c.seek in let me = c.args.self.now in fixed_on me (record me { demux = call.new.self }) refl (seeks_stays c.args.by _ c.args.dir me.demux call.new.self call.result call.ensures.value)
