use Rattle.std.proofs.Common.{◌≡◌, Some, None, rules, sym, ◌∙◌, ap}
use Rattle.std.specs.List.{position}
use Rattle.mc_range.specs.Range.{meets_range}
use Rattle.mc_cache.proofs.Lists.{got, taken, passed}
use Rattle.mc_cache.proofs.listing.take_touching.Goals as goal

pub returns-in_err-at-clause-found : goal.returns-in_err-at-clause-found
returns-in_err-at-clause-found c =
    let z : position (meets_range c.args.range.now) c.args.others.now.items ≡ None = ap (λ xs. position (meets_range c.args.range.now) xs) (sym c.as_slice.ensures.value) ∙ sym c.in_err-at.ensures in
    let p = passed (meets_range c.args.range.now) c.args.others.now.items z in
    let n = p.none in
    let e : c.from_residual.result ≡ None = search rules in
    e ∙ sym n

pub returns-in_err-at-clause-left : goal.returns-in_err-at-clause-left
returns-in_err-at-clause-left c =
    let z : position (meets_range c.args.range.now) c.args.others.now.items ≡ None = ap (λ xs. position (meets_range c.args.range.now) xs) (sym c.as_slice.ensures.value) ∙ sym c.in_err-at.ensures in
    sym (passed (meets_range c.args.range.now) c.args.others.now.items z).same

pub returns-clause-found : goal.returns-clause-found
returns-clause-found c =
    let z : position (meets_range c.args.range.now) c.args.others.now.items ≡ Some c.in_ok-at.at = ap (λ xs. position (meets_range c.args.range.now) xs) (sym c.as_slice.ensures.value) ∙ sym c.in_ok-at.ensures in
    let p = taken (meets_range c.args.range.now) c.args.others.now.items c.in_ok-at.at z in
    sym (p.found ∙ got c.args.others.now.items c.in_ok-at.at c.remove.result p.within c.remove.ensures.value)

pub returns-clause-left : goal.returns-clause-left
returns-clause-left c =
    let z : position (meets_range c.args.range.now) c.args.others.now.items ≡ Some c.in_ok-at.at = ap (λ xs. position (meets_range c.args.range.now) xs) (sym c.as_slice.ensures.value) ∙ sym c.in_ok-at.ensures in
    c.remove.ensures.items ∙ (taken (meets_range c.args.range.now) c.args.others.now.items c.in_ok-at.at z).left
