use Rattle.mc_props.proofs.Known.{selects_known}
use Rattle.mc_props.proofs.table.PropTable.set.Goals as goal

pub returns-clause-known : goal.returns-clause-known
returns-clause-known g c =
    selects_known g.M.Meaning.value c.args.self.now c.args.name.now c.args.facts.now c.args.value.now c.set_by_name.result c.as_slice-tracks.ensures.distinct c.set_by_name.ensures
