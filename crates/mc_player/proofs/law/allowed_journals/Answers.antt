use Rattle.mc_player.proofs.Aborting.{abort_counts, abort_ends}
use Rattle.mc_player.proofs.Answering.{answered}
use Rattle.mc_player.proofs.Calling.{calls_stand}
use Rattle.mc_player.proofs.Full.{full_told}
use Rattle.mc_player.proofs.Masks.{masked}
use Rattle.mc_player.proofs.InOrder.{in_order}
use Rattle.mc_player.proofs.Replies.{fate, replies}
use Rattle.mc_player.proofs.Room.{fifos}
use Rattle.mc_player.proofs.Settled.{changes_stand, polls_stand}
use Rattle.mc_player.proofs.Working.{under_way, whole_before}
use Rattle.mc_player.proofs.law.allowed_journals.Goals as goal

pub returns-clause-fifo : goal.returns-clause-fifo
returns-clause-fifo c = fifos

pub returns-clause-full : goal.returns-clause-full
returns-clause-full c = full_told

pub returns-clause-settled : goal.returns-clause-settled
returns-clause-settled c = polls_stand

pub returns-clause-changes : goal.returns-clause-changes
returns-clause-changes c = changes_stand

pub returns-clause-replies : goal.returns-clause-replies
returns-clause-replies c = replies

pub returns-clause-fate : goal.returns-clause-fate
returns-clause-fate c = fate

pub returns-clause-answered : goal.returns-clause-answered
returns-clause-answered c = answered

pub returns-clause-counted : goal.returns-clause-counted
returns-clause-counted c = abort_counts

pub returns-clause-aborted : goal.returns-clause-aborted
returns-clause-aborted c = abort_ends

pub returns-clause-order : goal.returns-clause-order
returns-clause-order c = in_order

pub returns-clause-begun : goal.returns-clause-begun
returns-clause-begun c = under_way

pub returns-clause-worked : goal.returns-clause-worked
returns-clause-worked c = whole_before

pub returns-clause-masked : goal.returns-clause-masked
returns-clause-masked c = masked

pub returns-clause-calls : goal.returns-clause-calls
returns-clause-calls c = calls_stand
