use Rattle.mc_cache.proofs.Pruned.{next_value, next_weight, next_number}
use Rattle.mc_cache.proofs.parts.cut_next.Goals as goal

pub returns-in-Some-clause-value : goal.returns-in-Some-clause-value
returns-in-Some-clause-value c =
    next_value c.args.heads.now c.args.range.now c.args.others.now.items c.pop.new.self.items c.cut_last.new.others.items c.in-Some.last c.cut_last.result c.in-Some.ensures.items c.cut_last.ensures.value

pub returns-in-Some-clause-weight : goal.returns-in-Some-clause-weight
returns-in-Some-clause-weight c =
    next_weight c.args.range.now c.args.others.now.items c.pop.new.self.items c.cut_last.new.others.items c.in-Some.last c.cut_last.result c.in-Some.ensures.items c.cut_last.ensures.value

pub returns-in-Some-clause-number : goal.returns-in-Some-clause-number
returns-in-Some-clause-number c =
    next_number c.args.range.now c.args.others.now.items c.pop.new.self.items c.cut_last.new.others.items c.in-Some.last c.cut_last.result c.in-Some.ensures.items c.cut_last.ensures.value
