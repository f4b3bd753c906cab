use Rattle.std.proofs.Common.{◌≡◌, ap, ◌∙◌, w64}
use Rattle.std.proofs.lemmas.Int.{to_z-of_z}
use Rattle.mc_queue.specs.Queue.{QueueState, first_that, is_sync_from}
use Rattle.mc_queue.proofs.queue.Queue.first_sync_from.Goals as goal

pub returns : goal.returns
returns c =
    let same = to_z-of_z w64 c.args.t c.ranges.t in
    let e : c.first_wanted.result ≡ first_that (is_sync_from c.args.t) c.self.inside.held.packets = rw same at c.first_wanted.ensures in
    e ∙ ap (λ (q : QueueState). first_that (is_sync_from c.args.t) q.packets) c.self.view_is
