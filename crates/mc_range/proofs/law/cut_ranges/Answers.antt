use Rattle.mc_range.proofs.FilmCut.{film_cut, film_whole}
use Rattle.mc_range.proofs.Spared.{cut_lighter, cut_spares}
use Rattle.mc_range.proofs.law.cut_ranges.Goals as goal

pub returns-clause-cut : goal.returns-clause-cut
returns-clause-cut c = λ ps old new upto heads x i j h b d. (film_cut ps old new upto heads x i j h b d).cut

pub returns-clause-range : goal.returns-clause-range
returns-clause-range c = λ ps old new upto heads x i j h b d. (film_cut ps old new upto heads x i j h b d).range

pub returns-clause-film : goal.returns-clause-film
returns-clause-film c = λ ps old new upto heads x i j h b d. (film_cut ps old new upto heads x i j h b d).film

pub returns-clause-without : goal.returns-clause-without
returns-clause-without c = film_whole

pub returns-clause-lighter : goal.returns-clause-lighter
returns-clause-lighter c = cut_lighter

pub returns-clause-spares : goal.returns-clause-spares
returns-clause-spares c = cut_spares
