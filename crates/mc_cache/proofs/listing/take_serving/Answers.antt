use Rattle.std.proofs.Common.{◌≡◌, Some, None, rules, w64, sym, ◌∙◌, ap}
use Rattle.std.proofs.lemmas.Int.{to_z-of_z}
use Rattle.std.specs.List.{position}
use Rattle.mc_cache.specs.Changing.{serves}
use Rattle.mc_cache.proofs.Lists.{got, taken, passed}
use Rattle.mc_cache.proofs.listing.take_serving.Goals as goal

pub returns-in_err-at-clause-found : goal.returns-in_err-at-clause-found
returns-in_err-at-clause-found c =
    let z : position (serves c.args.set c.args.t c.args.dir) c.args.others.now.items ≡ None = ap (λ xs. position (serves c.args.set c.args.t c.args.dir) xs) (sym c.as_slice.ensures.value) ∙ ap (λ x. position (serves c.args.set x c.args.dir) c.as_slice.result.now) (sym (to_z-of_z w64 c.args.t c.ranges.t)) ∙ sym c.in_err-at.ensures in
    let p = passed (serves c.args.set c.args.t c.args.dir) c.args.others.now.items z in
    let n = p.none in
    let e : c.from_residual.result ≡ None = search rules in
    e ∙ sym n

pub returns-in_err-at-clause-left : goal.returns-in_err-at-clause-left
returns-in_err-at-clause-left c =
    let z : position (serves c.args.set c.args.t c.args.dir) c.args.others.now.items ≡ None = ap (λ xs. position (serves c.args.set c.args.t c.args.dir) xs) (sym c.as_slice.ensures.value) ∙ ap (λ x. position (serves c.args.set x c.args.dir) c.as_slice.result.now) (sym (to_z-of_z w64 c.args.t c.ranges.t)) ∙ sym c.in_err-at.ensures in
    sym (passed (serves c.args.set c.args.t c.args.dir) c.args.others.now.items z).same

pub returns-clause-found : goal.returns-clause-found
returns-clause-found c =
    let z : position (serves c.args.set c.args.t c.args.dir) c.args.others.now.items ≡ Some c.in_ok-at.at = ap (λ xs. position (serves c.args.set c.args.t c.args.dir) xs) (sym c.as_slice.ensures.value) ∙ ap (λ x. position (serves c.args.set x c.args.dir) c.as_slice.result.now) (sym (to_z-of_z w64 c.args.t c.ranges.t)) ∙ sym c.in_ok-at.ensures in
    let p = taken (serves c.args.set c.args.t c.args.dir) c.args.others.now.items c.in_ok-at.at z in
    sym (p.found ∙ got c.args.others.now.items c.in_ok-at.at c.remove.result p.within c.remove.ensures.value)

pub returns-clause-left : goal.returns-clause-left
returns-clause-left c =
    let z : position (serves c.args.set c.args.t c.args.dir) c.args.others.now.items ≡ Some c.in_ok-at.at = ap (λ xs. position (serves c.args.set c.args.t c.args.dir) xs) (sym c.as_slice.ensures.value) ∙ ap (λ x. position (serves c.args.set x c.args.dir) c.as_slice.result.now) (sym (to_z-of_z w64 c.args.t c.ranges.t)) ∙ sym c.in_ok-at.ensures in
    c.remove.ensures.items ∙ (taken (serves c.args.set c.args.t c.args.dir) c.args.others.now.items c.in_ok-at.at z).left
