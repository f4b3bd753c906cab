use Rattle.std.proofs.Common.{◌+◌, [], length}
use Rattle.mc_ring.specs.declared.event.Event.TheVariants as event
use Rattle.mc_state.specs.Growth.{is_news}
use Rattle.mc_core.proofs.Followed.{behind_write, news_of, next_comes, wrote_news}
use Rattle.mc_state.proofs.Growing.{adds_then}
use Rattle.mc_state.proofs.Telling.{within_more}
use Rattle.mc_core.proofs.following.push_load.Goals as goal

pub push_all-requires-2-clause-due : goal.push_all-requires-2-clause-due
push_all-requires-2-clause-due g c = (
  [],
  next_comes g.M.Meaning.value event.FileLoaded c.args.by (length c.args.state.now.order + 1) c.args.state.now c.wrote.new.self
      (behind_write g.M.Meaning.value c.args.by 12 c.args.facts _ c.push_all.new.state c.wrote.new.self (c.push_all.ensures.ahead _ c.requires.due) c.wrote.ensures.wrote)
      (adds_then is_news c.args.by _ _ _ (news_of c.args.by c.args.state.now c.push_all.new.state c.push_all.ensures.adds)
      (wrote_news c.args.by 12 c.args.facts c.push_all.new.state c.wrote.new.self c.wrote.ensures.wrote))
      (within_more (length c.args.state.now.order) _ _ _ c.push_all.ensures.within c.wrote.ensures.within),
)

pub returns-clause-none : goal.returns-clause-none
returns-clause-none g c = c.push_all-2.ensures.ahead [] (
    next_comes g.M.Meaning.value event.FileLoaded c.args.by (length c.args.state.now.order + 1) c.args.state.now c.wrote.new.self
    (behind_write g.M.Meaning.value c.args.by 12 c.args.facts _ c.push_all.new.state c.wrote.new.self (c.push_all.ensures.ahead _ c.requires.due) c.wrote.ensures.wrote)
    (adds_then is_news c.args.by _ _ _ (news_of c.args.by c.args.state.now c.push_all.new.state c.push_all.ensures.adds)
    (wrote_news c.args.by 12 c.args.facts c.push_all.new.state c.wrote.new.self c.wrote.ensures.wrote))
    (within_more (length c.args.state.now.order) _ _ _ c.push_all.ensures.within c.wrote.ensures.within))

pub returns-clause-adds : goal.returns-clause-adds
returns-clause-adds g c =
    adds_then is_news c.args.by _ _ _
    (adds_then is_news c.args.by _ _ _ (news_of c.args.by c.args.state.now c.push_all.new.state c.push_all.ensures.adds)
    (wrote_news c.args.by 12 c.args.facts c.push_all.new.state c.wrote.new.self c.wrote.ensures.wrote))
    (news_of c.args.by c.wrote.new.self c.push_all-2.new.state c.push_all-2.ensures.adds)
