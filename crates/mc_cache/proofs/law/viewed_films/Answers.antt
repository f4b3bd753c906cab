use Rattle.mc_cache.proofs.Viewed.{ranges_shown, forward_shown, back_shown, bof_shown, ending_shown}
use Rattle.mc_cache.proofs.law.viewed_films.Goals as goal

pub returns-clause-ranges : goal.returns-clause-ranges
returns-clause-ranges c = λ ps set heads st i h f. ranges_shown ps set st i h f

pub returns-clause-forward : goal.returns-clause-forward
returns-clause-forward c = λ ps set heads place st i h a. forward_shown ps set heads place st i h a

pub returns-clause-back : goal.returns-clause-back
returns-clause-back c = λ ps set heads place st i h a. back_shown ps set heads place st i h a

pub returns-clause-bof : goal.returns-clause-bof
returns-clause-bof c = λ ps set heads st i h. bof_shown ps set st i h

pub returns-clause-ending : goal.returns-clause-ending
returns-clause-ending c = λ heads st. ending_shown st.current
