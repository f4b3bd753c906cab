use Rattle.std.proofs.Common.{◌≡◌, drop, true, ap, sym, ◌∙◌, refl}
use Rattle.mc_journal.specs.Films.{rank}
use Rattle.mc_queue.specs.Differences.{are_same, head_upto}
use Rattle.mc_queue.proofs.Rising.{few_before}
use Rattle.mc_queue.proofs.Comparing.{steps_on}
use Rattle.mc_queue.proofs.differences.compare.Goals as goal

pub loop-i-init : goal.loop-i-init
loop-i-init c =
    let a = c.count_before-i.ensures in
    let b = c.count_before-j.ensures in
    rw (a, b) (record { left = refl; ours_within = few_before _ _; theirs_within = few_before _ _ })

pub loop-i-preserved : goal.loop-i-preserved
loop-i-preserved c =
    let e : are_same (head_upto (rank c.args.to) (drop c.loop-i.i c.args.ours.now.items)) (head_upto (rank c.args.to) (drop c.loop-i.j c.args.theirs.now.items)) ≡ true =
    ap (λ h. are_same h (head_upto (rank c.args.to) (drop c.loop-i.j c.args.theirs.now.items))) (sym c.at_before.ensures)
    ∙ ap (λ h. are_same c.at_before.result h) (sym c.at_before-in-loop-i.ensures) ∙ sym c.are_same.ensures ∙ c.loop-i-test.true in
    let s = steps_on (rank c.args.to) c.args.ours.now.items c.args.theirs.now.items c.loop-i.i c.loop-i.j e in
    record { left = s.0 ∙ c.loop-i.invariant.left; ours_within = s.1; theirs_within = s.2 }
