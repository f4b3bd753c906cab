use Rattle.mc_cache.proofs.Pruned.{last_gone}
use Rattle.mc_cache.proofs.parts.cut_last.Goals as goal

pub returns-else-holds-clause-value : goal.returns-else-holds-clause-value
returns-else-holds-clause-value c =
    last_gone c.args.others.now.items c.args.last c.cut-cut.new.self c.cut-cut.result c.holds.result c.requires.some c.cut-cut.ensures.range c.cut-cut.ensures.value c.holds.ensures c.if-holds.false
