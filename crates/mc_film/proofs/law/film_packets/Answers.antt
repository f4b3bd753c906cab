use Rattle.mc_film.proofs.Again.{films_again, films_have_shape}
use Rattle.mc_film.proofs.law.film_packets.Goals as goal

pub returns : goal.returns
returns c = record { again = films_again c.walked_packets.ensures; shape = films_have_shape c.opened_films.ensures }
