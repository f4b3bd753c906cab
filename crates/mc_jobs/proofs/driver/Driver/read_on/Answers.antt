use Rattle.mc_walk.specs.Parts.{IsMark}
use Rattle.mc_cursor.specs.Standing.{plan_for}
use Rattle.mc_filmed.specs.Films.{film_for}
use Rattle.mc_jobs.proofs.Standing.{brought-stands, current-mark, film-plan, part-is}
use Rattle.mc_jobs.proofs.driver.Driver.read_on.Goals as goal

pub returns-clause-stands : goal.returns-clause-stands
returns-clause-stands g c = λ octets told s.
    let d = c.args.self.now.demux in
    let cursor = c.args.self.now.cursor in
    let plan = plan_for octets cursor in
    let read = c.read_part-brought in
    let marked : IsMark plan c.in-Some.mark = current-mark (IsMark plan) c.in-Some.mark d c.in-Some.ensures.value s.marks in
    let of = part-is plan d c.args.no c.in-Some.mark read.result (film-plan octets cursor s.cursor_is) s.demux_is marked (read.ensures.film octets told s.cursor_is marked) read.ensures.fits in
    brought-stands octets d c.bring.new.demux cursor read.new.cursor c.args.self.now.index c.args.self.now.index c.args.no read.result c.bring.result s read.ensures.moves
    (read.ensures.stands octets told s.cursor_is marked) s.index_is of c.bring.ensures.value (c.bring.ensures.film (film_for plan) of.film s.demux_is) c.bring.ensures.marks
