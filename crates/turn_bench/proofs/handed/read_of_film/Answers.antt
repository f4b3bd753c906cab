use Rattle.std.specs.Prelude.{reverse}
use Rattle.turn_bench.proofs.OfFilm.{answered}
use Rattle.turn_bench.proofs.handed.read_of_film.Goals as goal

pub returns : goal.returns
returns c = λ film stands.
    answered film (reverse c.args.demux.now.journal) c.args.track c.args.by c.args.demux.now c.read.new.self c.read.result
    (c.shown_readers.ensures.packet film c.args.demux.now c.args.track stands) c.read.ensures.value
