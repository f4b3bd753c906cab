use Rattle.std.proofs.Common.{◌≡◌, ◌-◌, ◌≤◌, arith, subst, sym, ap}
use Rattle.mc_journal.specs.Films.{rank}
use Rattle.mc_queue.specs.Queue.{QueueState}
use Rattle.mc_queue.specs.Places.{weights}
use Rattle.mc_queue.proofs.Rising.{shrunk}
use Rattle.mc_queue.proofs.Rests.{kept_ahead}
use Rattle.mc_queue.proofs.NextSync.{follows}
use Rattle.mc_queue.proofs.Filmed.{keeps_film}
use Rattle.mc_queue.proofs.queue.Queue.drop_upto.Goals as goal

pub invariant_of-self : goal.invariant_of-self
invariant_of-self c =
    let l = subst (λ (q : QueueState). rank c.args.cut ≤ rank q.to) (sym c.self.view_is) c.requires.before in
    let s = shrunk _ _ _ _ _ _ c.drop_before-dropped.ensures.items c.self.invariant.2 l in
    let w = c.drop_before-dropped.ensures.weight in
    let i = c.self.invariant.0 in
    let j = c.self.invariant.1 in
    let v : c.self.inside.weight - c.drop_before-dropped.result ≡ weights c.drop_before-dropped.new.blocks.packets = omega arith in (
      omega arith,
      omega arith,
      s.1,
      kept_ahead _ _ _ _ _ _ _ _ s.0 v c.self.invariant.3 c.later-self-inside.ensures c.ahead_after-self-inside.ensures,
      follows _ _ _ _ _ _ _ _ c.self.invariant.2 c.drop_before-dropped.ensures.items c.self.invariant.4 c.next_after-self-inside.ensures,
    )

pub returns-clause-dropped : goal.returns-clause-dropped
returns-clause-dropped c =
    let l = subst (λ (q : QueueState). rank c.args.cut ≤ rank q.to) (sym c.self.view_is) c.requires.before in
    let s = shrunk _ _ _ _ _ _ c.drop_before-dropped.ensures.items c.self.invariant.2 l in
    let n = c.drop_before-dropped.new.blocks in
    let a = c.drop_before-dropped.ensures.roomier in
    rw (← c.self.view_is) (record {
      packets_left = ap (λ ps. record { track = c.self.inside.track; from = c.args.cut; to = c.self.inside.to; packets = ps; spare = n.spare }) s.0;
      roomier = a;
    })

pub returns-clause-queue : goal.returns-clause-queue
returns-clause-queue c =
    let l = subst (λ (q : QueueState). rank c.args.cut ≤ rank q.to) (sym c.self.view_is) c.requires.before in
    let s = shrunk _ _ _ _ _ _ c.drop_before-dropped.ensures.items c.self.invariant.2 l in
    let w = c.drop_before-dropped.ensures.weight in
    let j = c.self.invariant.1 in
    record { rise = s.1; fits = omega arith }

pub returns-clause-film : goal.returns-clause-film
returns-clause-film c = keeps_film _ _ _ (returns-clause-dropped c) c.requires.after
