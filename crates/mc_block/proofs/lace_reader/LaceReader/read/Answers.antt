use Rattle.std.proofs.Common.{drop, length-drop, arith, refl, sym, ap, ◌∙◌}
use Rattle.std.proofs.lemmas.List.{drop-drop}
use Rattle.mc_block.specs.Fronts.{is_good}
use Rattle.mc_block.proofs.Laced.{further}
use Rattle.mc_block.proofs.lace_reader.LaceReader.read.Goals as goal

pub loop-lace-init : goal.loop-lace-init
loop-lace-init c = record { within = omega arith; started = λ more start. more; fits = (c.requires.fits.0, omega (arith, c.requires.fits.1)); same = λ octets long cut. refl }

pub returns-in_err-next-clause-law : goal.returns-in_err-next-clause-law
returns-in_err-next-clause-law c = λ octets long cut.
    let so_far = c.loop-lace.invariant in
    let seen = c.in_err-next.ensures.law (drop c.loop-lace.at octets) (omega (arith, long, length-drop c.loop-lace.at octets))
    (rw c.split_at.ensures.back (further c.args.front.now octets c.loop-lace.at so_far.within cut)) in
    rw c.from_residual.ensures (sym (so_far.same octets long cut) ∙ seen)

pub loop-lace-preserved : goal.loop-lace-preserved
loop-lace-preserved c =
    let so_far = c.loop-lace.invariant in
    let fits = c.in_ok-next.ensures.fits in
    record {
      within = omega (arith, c.in_ok-next.ensures.onward.1, c.split_at.ensures.back_len, so_far.within);
      started = λ more start. absurd (omega (arith, start, c.in_ok-next.ensures.onward.0));
      fits = (fits.0, omega (arith, fits.1));
      same = λ octets long cut.
          let seen = c.in_ok-next.ensures.law (drop c.loop-lace.at octets) (omega (arith, long, length-drop c.loop-lace.at octets))
          (rw c.split_at.ensures.back (further c.args.front.now octets c.loop-lace.at so_far.within cut)) in
          sym (ap (is_good c.in_ok-next.next) (drop-drop c.in_ok-next.taken c.loop-lace.at octets)) ∙ seen ∙ so_far.same octets long cut;
    }

pub returns-after-loop-lace-clause-law : goal.returns-after-loop-lace-clause-law
returns-after-loop-lace-clause-law c = c.loop-lace.invariant.same

pub returns-then-rest-behind-clause-law : goal.returns-then-rest-behind-clause-law
returns-then-rest-behind-clause-law c = c.loop-lace.invariant.same
