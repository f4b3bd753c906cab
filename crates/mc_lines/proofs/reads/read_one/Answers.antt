use Rattle.mc_lines.proofs.Asking.{read_films, read_ones}
use Rattle.mc_lines.proofs.reads.read_one.Goals as goal

pub returns-clause-reads : goal.returns-clause-reads
returns-clause-reads g c = rw c.halted.ensures (read_ones (g.M.Machine.ahead c.args.machine.now) _ _ _ _ c.read.result (rw c.reader.ensures.number at c.read.ensures.reads))

pub returns-clause-film : goal.returns-clause-film
returns-clause-film g c octets rd s =
    rw c.halted.ensures (read_films rd (g.M.Machine.ahead c.args.machine.now) _ _ _ _ c.read.result (g.met.M.Machine.shows_film c.args.machine.now octets rd s) (rw c.reader.ensures.number at c.read.ensures.reads) (c.read.ensures.film octets rd s))
