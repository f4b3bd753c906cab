use Rattle.std.proofs.Common.{take, ◌∙◌}
use Rattle.mc_queue.proofs.Renewed.{first_is_least}
use Rattle.mc_queue.proofs.kept.least_left.Goals as goal

pub returns-then-kept : goal.returns-then-kept
returns-then-kept c =
    c.first_time.ensures ∙ first_is_least c.args.gone.now (take c.args.count c.args.left.now.items) (c.requires.is.rises c.if-kept.true)
