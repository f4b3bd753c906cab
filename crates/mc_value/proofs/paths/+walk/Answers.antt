use Rattle.std.proofs.Common.{sym, ◌∙◌, ◌≡◌, Some, None, position, refl, ◌+◌}
use Rattle.mc_value.proofs.PathLemmas.{is_slash, rest_is, walked_first, walked_whole}
use Rattle.mc_value.proofs.paths.+walk.Goals as goal

pub returns-in-None : goal.returns-in-None
returns-in-None t c =
    let e : position is_slash c.args.path.now ≡ None = sym c.find_octet.ensures.place ∙ c.in-None.is in
    rw (walked_whole c.args.value.now c.args.path.now e) c.last_step.ensures

pub returns-in-None-inner : goal.returns-in-None-inner
returns-in-None-inner t c =
    let e : position is_slash c.args.path.now ≡ Some c.in-Some.slash = sym c.find_octet.ensures.place ∙ c.in-Some.is in
    rw (walked_first c.args.value.now c.args.path.now c.in-Some.slash e, sym c.inner.ensures, c.in-None-inner.is) refl

pub returns-in-Some-inner : goal.returns-in-Some-inner
returns-in-Some-inner t c =
    let e : position is_slash c.args.path.now ≡ Some c.in-Some.slash = sym c.find_octet.ensures.place ∙ c.in-Some.is in
    rw (walked_first c.args.value.now c.args.path.now c.in-Some.slash e, sym c.inner.ensures, c.in-Some-inner.is) (rw (← rest_is (c.in-Some.slash + 1) c.args.path.now) c.walk.ensures)
