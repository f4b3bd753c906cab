use Rattle.mc_jobs.proofs.Listing.{is-film}
use Rattle.mc_jobs.proofs.beginning.film_lists.Goals as goal

pub returns : goal.returns
returns c = is-film
