use Rattle.std.proofs.Common.{◌≡◌, ◌+◌, ◌<◌, ◌^◌, drop, arith, ap, subst, sym, ◌∙◌}
use Rattle.mc_journal.specs.Films.{rank}
use Rattle.mc_queue.specs.Places.{Rise, weights}
use Rattle.mc_journal.specs.Views.{from_place}
use Rattle.mc_queue.specs.Queue.{QueueState, first_that, is_sync}
use Rattle.mc_queue.proofs.Rising.{grown, less_weight_from}
use Rattle.mc_queue.proofs.Rests.{more_ahead}
use Rattle.mc_queue.proofs.NextSync.{with_next}
use Rattle.mc_queue.proofs.Filmed.{appends_film}
use Rattle.mc_queue.proofs.queue.Queue.append.Goals as goal

pub overflow_add-self-2 : goal.overflow_add-self-2
overflow_add-self-2 c =
    let r = subst (λ (q : QueueState). Rise q.track (rank q.to) (rank c.args.upto) c.args.packets) (sym c.self.view_is) c.requires.rise in
    let f = subst (λ (q : QueueState). weights q.packets + weights c.args.packets < 2 ^ 64) (sym c.self.view_is) c.requires.fits in
    let g = (grown _ _ _ _ _ _ _ c.in_ok-append.ensures.ok c.self.invariant.2 r f).1 in
    let h : c.self.inside.ahead + c.weight_in-ahead.result ≡ weights (from_place (rank c.self.inside.look) c.append.new.self.packets) =
    more_ahead _ _ _ _ _ _ c.in_ok-append.ensures.ok c.self.invariant.3 (c.weight_in-ahead.ensures ∙ ap (λ ps. weights (from_place (rank c.self.inside.look) ps)) c.as_slice-2.ensures) in
    let l = less_weight_from (rank c.self.inside.look) c.append.new.self.packets in
    omega arith

pub invariant_of-self-2 : goal.invariant_of-self-2
invariant_of-self-2 c =
    let r = subst (λ (q : QueueState). Rise q.track (rank q.to) (rank c.args.upto) c.args.packets) (sym c.self.view_is) c.requires.rise in
    let f = subst (λ (q : QueueState). weights q.packets + weights c.args.packets < 2 ^ 64) (sym c.self.view_is) c.requires.fits in
    let g = grown _ _ _ _ _ _ _ c.in_ok-append.ensures.ok c.self.invariant.2 r f in
    let w = g.0 in
    let o = c.weight_of_all-weight.ensures ∙ ap (λ ps. weights ps) c.as_slice.ensures in
    let i = c.self.invariant.0 in
    let h : c.self.inside.ahead + c.weight_in-ahead.result ≡ weights (from_place (rank c.self.inside.look) c.append.new.self.packets) =
    more_ahead _ _ _ _ _ _ c.in_ok-append.ensures.ok c.self.invariant.3 (c.weight_in-ahead.ensures ∙ ap (λ ps. weights (from_place (rank c.self.inside.look) ps)) c.as_slice-2.ensures) in
    let n = c.next_with-next.ensures ∙ with_next _ _ _ c.self.invariant.4 _ c.len.ensures _ c.as_slice-3.ensures ∙ ap (λ ps. first_that is_sync (drop 1 ps)) (sym c.in_ok-append.ensures.ok) in
    (omega arith, g.1, g.2, h, n)

-- src/queue.rt:116:5
pub returns-clause-queue : goal.returns-clause-queue
returns-clause-queue c =
    let r = subst (λ (q : QueueState). Rise q.track (rank q.to) (rank c.args.upto) c.args.packets) (sym c.self.view_is) c.requires.rise in
    let f = subst (λ (q : QueueState). weights q.packets + weights c.args.packets < 2 ^ 64) (sym c.self.view_is) c.requires.fits in
    let g = grown _ _ _ _ _ _ _ c.in_ok-append.ensures.ok c.self.invariant.2 r f in
    record { rise = g.2; fits = g.1 }

pub returns-clause-film : goal.returns-clause-film
returns-clause-film c = appends_film _ _ c.self.view_is c.args.upto c.args.packets _ c.in_ok-append.ensures.ok c.self.invariant.2 c.requires.rise
