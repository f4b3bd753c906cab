use Rattle.std.proofs.Common.{◌≡◌, Some, arith, subst, sym}
use Rattle.mc_range.specs.Range.{RangeState}
use Rattle.mc_range.specs.Tracks.{selected_under}
use Rattle.mc_range.proofs.Selecting.{added_range}
use Rattle.mc_range.proofs.range.Range.add_track.Goals as goal

pub invariant_of-self : goal.invariant_of-self
invariant_of-self c =
    let s = subst (λ (x : RangeState). selected_under c.args.kind x.set ≡ Some c.args.track) (sym c.self.view_is) c.requires.selected in
    let l = c.if-mark-self.true in
    added_range c.args.kind c.args.track c.args.start _ _ c.args.mark _ c.self.invariant s c.put_queue.ensures (omega arith) c.requires.before

pub invariant_of-self-else-mark-self : goal.invariant_of-self-else-mark-self
invariant_of-self-else-mark-self c =
    let s = subst (λ (x : RangeState). selected_under c.args.kind x.set ≡ Some c.args.track) (sym c.self.view_is) c.requires.selected in
    let l = c.if-mark-self.false in
    let b = c.requires.before in
    added_range c.args.kind c.args.track c.args.start _ _ c.self.inside.mark _ c.self.invariant s c.put_queue.ensures (omega arith) (omega arith)

pub returns-then-mark-self-clause-range : goal.returns-then-mark-self-clause-range
returns-then-mark-self-clause-range c = invariant_of-self c

pub returns-else-mark-self-clause-range : goal.returns-else-mark-self-clause-range
returns-else-mark-self-clause-range c = invariant_of-self-else-mark-self c
