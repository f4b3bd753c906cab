use Rattle.mc_steps.proofs.Demuxing.{accepted, fails, feeds, finds, left, reads, refused, selects, shows, sought, switches}
use Rattle.mc_steps.proofs.law.demux_steps.Goals as goal

pub returns-clause-sought : goal.returns-clause-sought
returns-clause-sought c = sought

pub returns-clause-refused : goal.returns-clause-refused
returns-clause-refused c = refused

pub returns-clause-selected : goal.returns-clause-selected
returns-clause-selected c = selects

pub returns-clause-accepted : goal.returns-clause-accepted
returns-clause-accepted c = accepted

pub returns-clause-switched : goal.returns-clause-switched
returns-clause-switched c = switches

pub returns-clause-read : goal.returns-clause-read
returns-clause-read c = reads

pub returns-clause-shown : goal.returns-clause-shown
returns-clause-shown c = shows

pub returns-clause-found : goal.returns-clause-found
returns-clause-found c = finds

pub returns-clause-fed : goal.returns-clause-fed
returns-clause-fed c = feeds

pub returns-clause-failed : goal.returns-clause-failed
returns-clause-failed c = fails

pub returns-clause-left : goal.returns-clause-left
returns-clause-left c = left
