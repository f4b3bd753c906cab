use Rattle.std.proofs.Common.{◌∙◌, [], ◌∷◌, ap, reverse}
use Rattle.mc_state.specs.Stands.{table_of}
use Rattle.mc_ring.specs.declared.event.Event.TheVariants as event
use Rattle.mc_deeds.specs.Follow.{plan_follow}
use Rattle.mc_deeds.specs.declared.follow.Follow.{Follow}
use Rattle.mc_core.proofs.Followed.{news_of, wrote_news}
use Rattle.mc_state.proofs.Telling.{comes_whole}
use Rattle.mc_core.proofs.following.follow.Goals as goal

pub returns-in-Writes-clause-adds : goal.returns-in-Writes-clause-adds
returns-in-Writes-clause-adds g c = wrote_news c.args.by c.in-Writes.mask c.in-Writes.facts c.args.state.now c.wrote.new.self c.wrote.ensures.wrote

pub returns-in-Sends-clause-none : goal.returns-in-Sends-clause-none
returns-in-Sends-clause-none g c =
    c.send_all.ensures.ahead [] (comes_whole g.M.Meaning.value (event.Message c.in-Sends.words) c.args.state.now c.args.state.now.order
    (c.requires.due ∙ ap (λ (x : Follow). plan_follow (table_of g.M.Meaning.value c.args.state.now) (reverse c.args.state.now.journal) c.args.state.now.order x) c.in-Sends.is))

pub returns-in-Sends-clause-adds : goal.returns-in-Sends-clause-adds
returns-in-Sends-clause-adds g c = news_of c.args.by c.args.state.now c.send_all.new.state c.send_all.ensures.adds

pub returns-in-SendsTo-clause-none : goal.returns-in-SendsTo-clause-none
returns-in-SendsTo-clause-none g c =
    c.push_to.ensures.ahead [] (comes_whole g.M.Meaning.value c.in-SendsTo.event.event c.args.state.now (c.in-SendsTo.client ∷ [])
    (c.requires.due ∙ ap (λ (x : Follow). plan_follow (table_of g.M.Meaning.value c.args.state.now) (reverse c.args.state.now.journal) c.args.state.now.order x) c.in-SendsTo.is))

pub returns-in-SendsTo-clause-adds : goal.returns-in-SendsTo-clause-adds
returns-in-SendsTo-clause-adds g c = news_of c.args.by c.args.state.now c.push_to.new.self c.push_to.ensures.adds

pub returns-in-Quits-clause-adds : goal.returns-in-Quits-clause-adds
returns-in-Quits-clause-adds g c = news_of c.args.by c.args.state.now c.push_end.new.state c.push_end.ensures.adds

pub returns-in-Seeks-clause-none : goal.returns-in-Seeks-clause-none
returns-in-Seeks-clause-none g c =
    c.push_all.ensures.ahead [] (comes_whole g.M.Meaning.value event.Seek c.args.state.now c.args.state.now.order
    (c.requires.due ∙ ap (λ (x : Follow). plan_follow (table_of g.M.Meaning.value c.args.state.now) (reverse c.args.state.now.journal) c.args.state.now.order x) c.in-Seeks.is))

pub returns-in-Seeks-clause-adds : goal.returns-in-Seeks-clause-adds
returns-in-Seeks-clause-adds g c = news_of c.args.by c.args.state.now c.push_all.new.state c.push_all.ensures.adds
