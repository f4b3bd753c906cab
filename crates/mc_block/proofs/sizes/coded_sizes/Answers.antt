use Rattle.std.proofs.Common.{◌∷◌, [], arith, length-append}
use Rattle.mc_block.proofs.Laces.{goes_on}
use Rattle.mc_block.proofs.sizes.coded_sizes.Goals as goal

pub loop-preserved : goal.loop-preserved
loop-preserved c =
    let next = rw c.split_at.ensures.back at c.in-Some.ensures.value in
    let pushed = c.in_ok-push.ensures.ok in
    record {
      within = omega (arith, c.in-Some.ensures.bounds, c.split_at.ensures.back_len);
      count = rw pushed (omega (arith, length-append c.loop.sizes (c.in-Some.size ∷ [])));
      bound = omega (arith, c.in-Some.ensures.bounds);
      joined = rw pushed (goes_on c.args.lacing c.args.n c.loop.counter c.in-Some.size c.in-Some.taken c.loop.at c.loop.before c.args.octets.now
          c.loop.sizes _ c.loop-test.true next c.loop.invariant.joined);
    }
