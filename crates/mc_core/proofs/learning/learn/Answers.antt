use Rattle.std.proofs.Common.{◌∙◌, ◌&&◌, Bool, ap}
use Rattle.mc_state.specs.Stands.{CoreState}
use Rattle.mc_core.proofs.Learnt.{learnt_adds, planned, quiet_news}
use Rattle.mc_state.proofs.Telling.{same_order}
use Rattle.mc_core.proofs.learning.learn.Goals as goal

pub restarted-requires-clause-plan : goal.restarted-requires-clause-plan
restarted-requires-clause-plan g c =
    planned g.M.Meaning.value c.args.by c.args.view c.in_ok-facts.facts c.make_room_for_all.new.self c.learned.new.self c.wrote.new.self c.is_due-due.result
    c.stands.ensures c.learned.ensures.wrote c.learned.ensures.order c.wrote.ensures.wrote (same_order 1 c.learned.new.self c.wrote.new.self c.wrote.ensures.within) (c.is_due-due.ensures ∙ ap (λ (b : Bool). b && c.args.view.playing) c.restarts.ensures)

pub returns-clause-adds : goal.returns-clause-adds
returns-clause-adds g c =
    learnt_adds c.args.by c.args.view c.in_ok-facts.facts c.args.state.now c.make_room_for_all.new.self c.learned.new.self c.wrote.new.self c.restarted.new.state
    (ap (λ (x : CoreState). x.journal) c.make_room_for_all.ensures.same)
    c.learned.ensures.wrote c.wrote.ensures.wrote c.restarted.ensures.adds

pub returns-clause-quiet : goal.returns-clause-quiet
returns-clause-quiet g c =
    quiet_news g.M.Meaning.value c.restarted.new.state c.args.by _ (returns-clause-adds g c) c.requires.quiet.due c.requires.quiet.reply c.restarted.ensures.none
