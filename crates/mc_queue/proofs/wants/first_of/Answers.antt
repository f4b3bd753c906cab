use Rattle.std.proofs.Common.{ap, ◌∙◌}
use Rattle.mc_queue.specs.Queue.{first_that}
use Rattle.mc_queue.specs.Wants.{wanted}
use Rattle.mc_queue.proofs.wants.first_of.Goals as goal

pub returns-clause-value : goal.returns-clause-value
returns-clause-value g c = c.first_from.ensures.value ∙ ap (λ ps. first_that (wanted c.args.want) ps) c.first_from.ensures.blocks.all
