use Rattle.std.proofs.Common.{◌∙◌}
use Rattle.mc_state.specs.Stands.{table_of}
use Rattle.mc_core.proofs.Worked.{asks_order, order_may, order_works, replies_by, task_due, task_out, worked_adds, worked_end}
use Rattle.mc_core.proofs.working.perform.Goals as goal

pub ordered-requires-clause-may : goal.ordered-requires-clause-may
ordered-requires-clause-may g c =
    order_may g.M.Meaning.value c.args.by c.args.task.client c.args.task.ticket c.args.task.id c.args.task.deed c.in-Orders.order c.args.state.now c.took.new.self
    c.took.ensures.wrote c.requires.task.does (asks_order g.M.Meaning.value c.args.task c.args.state.now c.in-Orders.order c.requires.task c.in-Orders.is)

pub returns-in-Orders-clause-works : goal.returns-in-Orders-clause-works
returns-in-Orders-clause-works g c =
    order_works (table_of g.M.Meaning.value c.args.state.now) c.args.by c.args.task.client c.args.task.ticket c.args.task.id c.args.task.deed c.in-Orders.order c.args.state.now c.took.new.self c.ordered.new.self
    c.took.ensures.wrote (asks_order g.M.Meaning.value c.args.task c.args.state.now c.in-Orders.order c.requires.task c.in-Orders.is) c.ordered.ensures.wrote

pub follow-requires-clause-due : goal.follow-requires-clause-due
follow-requires-clause-due g c =
    task_due g.M.Meaning.value c.args.by c.args.task c.args.state.now c.took.new.self c.in-Replies.effects c.in-Replies.reply c.requires.task c.in-Replies.is
    c.took.ensures.wrote c.took.ensures.order

pub end_work-requires-clause-end : goal.end_work-requires-clause-end
end_work-requires-clause-end g c =
    worked_end g.M.Meaning.value c.args.by c.args.task c.args.state.now c.took.new.self c.follow.new.state c.in-Replies.effects c.in-Replies.reply
    c.requires.quiet c.requires.none_out c.requires.task c.in-Replies.is
    (record { took = c.took.ensures.wrote; work = c.took.ensures.work; deed = c.took.ensures.deed; none = c.took.ensures.none; news = c.follow.ensures.adds; same = c.follow.ensures.within.same })
    c.follow.ensures.none

pub end_work-requires-clause-same : goal.end_work-requires-clause-same
end_work-requires-clause-same g c =
    (replies_by g.M.Meaning.value c.args.task c.args.state.now c.in-Replies.effects c.in-Replies.reply c.requires.task c.in-Replies.is).1

pub returns-in-Replies-clause-works : goal.returns-in-Replies-clause-works
returns-in-Replies-clause-works g c = (
  c.args.task.client,
  c.args.task.ticket,
  c.args.task.id,
  worked_adds c.args.by c.args.task c.in-Replies.reply.event c.args.state.now c.took.new.self c.follow.new.state c.end_work.new.self
      (record { took = c.took.ensures.wrote; work = c.took.ensures.work; deed = c.took.ensures.deed; none = c.took.ensures.none; news = c.follow.ensures.adds; same = c.follow.ensures.within.same })
      c.end_work.ensures.wrote,
)

pub returns-in-Orders-clause-out : goal.returns-in-Orders-clause-out
returns-in-Orders-clause-out g c =
    c.ordered.ensures.out ∙ task_out g.M.Meaning.value c.args.task c.args.state.now c.in-Orders.order c.requires.task c.in-Orders.is
