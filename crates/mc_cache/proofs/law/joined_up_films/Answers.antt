use Rattle.mc_cache.proofs.JoinedUp.{joined_up}
use Rattle.mc_cache.proofs.law.joined_up_films.Goals as goal

pub returns-clause-none_told : goal.returns-clause-none_told
returns-clause-none_told c = λ ps set n drops old new rise i h j. (joined_up ps set n drops old new rise i h j).none_told

pub returns-clause-stand : goal.returns-clause-stand
returns-clause-stand c = λ ps set n drops old new rise i h j. (joined_up ps set n drops old new rise i h j).stand

pub returns-clause-touching : goal.returns-clause-touching
returns-clause-touching c = λ ps set n drops old new rise i h j. (joined_up ps set n drops old new rise i h j).touching

pub returns-clause-done : goal.returns-clause-done
returns-clause-done c = λ ps set n drops old new rise i h j. (joined_up ps set n drops old new rise i h j).done

pub returns-clause-film : goal.returns-clause-film
returns-clause-film c = λ ps set n drops old new rise i h j. let k = joined_up ps set n drops old new rise i h j in record { current = k.current; others = k.others }
