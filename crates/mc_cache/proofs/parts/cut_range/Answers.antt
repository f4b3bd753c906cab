use Rattle.mc_cache.proofs.Pruned.{ahead_told}
use Rattle.mc_cache.proofs.parts.cut_range.Goals as goal

pub returns-clause-value : goal.returns-clause-value
returns-clause-value c = ahead_told c.args.heads.now c.args.range.now c.cut.new.self c.cut.result c.mark-mark.ensures.range c.requires.over c.cut.ensures.value
