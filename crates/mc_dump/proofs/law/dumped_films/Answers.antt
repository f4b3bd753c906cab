use Rattle.mc_dump.proofs.Films.{dumps_read_back}
use Rattle.mc_dump.proofs.law.dumped_films.Goals as goal

pub returns : goal.returns
returns c = dumps_read_back c.written_films.ensures.films c.film_packets.ensures.again c.film_packets.ensures.shape
