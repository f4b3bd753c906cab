use Rattle.mc_tracks.proofs.Numbers.{stay_numbers, one_more}
use Rattle.mc_tracks.proofs.list.TrackList.push.Goals as goal

pub invariant_of-self-2 : goal.invariant_of-self-2
invariant_of-self-2 c = (
  stay_numbers c.self.inside.by_number c.insert.new.self c.args.track c.args.self.now c.self.invariant.0 c.self.view_is c.requires c.in_ok-insert.ensures.entries,
  c.in_ok-insert.ensures.unique,
)

pub returns-clause-ok : goal.returns-clause-ok
returns-clause-ok c =
    one_more c.self.inside.by_number c.insert.new.self c.args.track c.args.self.now c.self.invariant.0 c.self.view_is c.requires c.in_ok-insert.ensures.entries
