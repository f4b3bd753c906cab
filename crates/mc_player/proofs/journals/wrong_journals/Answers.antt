use Rattle.mc_player.proofs.Wrong.{same_name-refused, same_number-refused, same_ticket-refused, replies_early-refused, replies_twice-refused, skips_write-refused, aborts_other-refused, takes_late-refused, fills_over-refused, changes_twice-refused, writes_other-refused, learns_between-refused, loads_twice-refused, other_outcome-refused}
use Rattle.mc_player.proofs.journals.wrong_journals.Goals as goal

pub returns-clause-name : goal.returns-clause-name
returns-clause-name c = same_name-refused

pub returns-clause-number : goal.returns-clause-number
returns-clause-number c = same_number-refused

pub returns-clause-ticket : goal.returns-clause-ticket
returns-clause-ticket c = same_ticket-refused

pub returns-clause-early : goal.returns-clause-early
returns-clause-early c = replies_early-refused

pub returns-clause-twice : goal.returns-clause-twice
returns-clause-twice c = replies_twice-refused

pub returns-clause-unwritten : goal.returns-clause-unwritten
returns-clause-unwritten c = skips_write-refused

pub returns-clause-abort : goal.returns-clause-abort
returns-clause-abort c = aborts_other-refused

pub returns-clause-late : goal.returns-clause-late
returns-clause-late c = takes_late-refused

pub returns-clause-full : goal.returns-clause-full
returns-clause-full c = fills_over-refused

pub returns-clause-change : goal.returns-clause-change
returns-clause-change c = changes_twice-refused

pub returns-clause-view : goal.returns-clause-view
returns-clause-view c = writes_other-refused

pub returns-clause-between : goal.returns-clause-between
returns-clause-between c = learns_between-refused

pub returns-clause-load : goal.returns-clause-load
returns-clause-load c = loads_twice-refused

pub returns-clause-outcome : goal.returns-clause-outcome
returns-clause-outcome c = other_outcome-refused
