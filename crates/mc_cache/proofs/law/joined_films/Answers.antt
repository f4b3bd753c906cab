use Rattle.mc_cache.proofs.Joinings.{joins_films}
use Rattle.mc_cache.proofs.law.joined_films.Goals as goal

pub returns : goal.returns
returns c = λ ps set first beside r rs n drops rise i h a b j. joins_films ps set first beside r rs n drops rise i h a b j
