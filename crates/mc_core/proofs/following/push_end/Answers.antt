use Rattle.std.proofs.Common.{[], length}
use Rattle.mc_ring.specs.declared.event.Event.TheVariants as event
use Rattle.mc_core.proofs.Followed.{news_of, next_comes}
use Rattle.mc_core.proofs.following.push_end.Goals as goal

pub push_all-requires-2-clause-due : goal.push_all-requires-2-clause-due
push_all-requires-2-clause-due g c = (
  [],
  next_comes g.M.Meaning.value event.Shutdown c.args.by (length c.args.state.now.order) c.args.state.now c.push_all.new.state
      (c.push_all.ensures.ahead _ c.requires.due)
      (news_of c.args.by c.args.state.now c.push_all.new.state c.push_all.ensures.adds) c.push_all.ensures.within,
)

pub returns-clause-none : goal.returns-clause-none
returns-clause-none g c = c.push_all-2.ensures.ahead [] (
    next_comes g.M.Meaning.value event.Shutdown c.args.by (length c.args.state.now.order) c.args.state.now c.push_all.new.state
    (c.push_all.ensures.ahead _ c.requires.due)
    (news_of c.args.by c.args.state.now c.push_all.new.state c.push_all.ensures.adds) c.push_all.ensures.within)
