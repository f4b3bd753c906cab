use Rattle.mc_journal.proofs.Regular.{one_film, one_regular, drained-legal}
use Rattle.mc_journal.proofs.journals.worked_films.Goals as goal

pub returns-clause-film : goal.returns-clause-film
returns-clause-film c = one_film

pub returns-clause-regular : goal.returns-clause-regular
returns-clause-regular c = one_regular

pub returns-clause-legal : goal.returns-clause-legal
returns-clause-legal c = drained-legal
