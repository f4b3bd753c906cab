use Rattle.mc_story.proofs.Worked.{back_refused, drivers_refused, uncarried_refused, left_out_refused, lied_refused, loads_refused, none_refused, nothing_refused, other_refused, set_refused, twice_refused, view_refused}
use Rattle.mc_story.proofs.journals.wrong_stories.Goals as goal

pub returns-clause-other : goal.returns-clause-other
returns-clause-other c = other_refused

pub returns-clause-lied : goal.returns-clause-lied
returns-clause-lied c = lied_refused

pub returns-clause-none : goal.returns-clause-none
returns-clause-none c = none_refused

pub returns-clause-uncarried : goal.returns-clause-uncarried
returns-clause-uncarried c = uncarried_refused

pub returns-clause-again : goal.returns-clause-again
returns-clause-again c = twice_refused

pub returns-clause-drivers : goal.returns-clause-drivers
returns-clause-drivers c = drivers_refused

pub returns-clause-left_out : goal.returns-clause-left_out
returns-clause-left_out c = left_out_refused

pub returns-clause-nothing : goal.returns-clause-nothing
returns-clause-nothing c = nothing_refused

pub returns-clause-set : goal.returns-clause-set
returns-clause-set c = set_refused

pub returns-clause-back : goal.returns-clause-back
returns-clause-back c = back_refused

pub returns-clause-view : goal.returns-clause-view
returns-clause-view c = view_refused

pub returns-clause-twice : goal.returns-clause-twice
returns-clause-twice c = loads_refused
