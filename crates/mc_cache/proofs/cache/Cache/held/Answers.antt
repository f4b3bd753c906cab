use Rattle.std.proofs.Common.{ap, arith}
use Rattle.mc_cache.specs.Cache.{count_of}
use Rattle.mc_cache.proofs.Lists.{front_counts, front_adds}
use Rattle.mc_cache.proofs.cache.Cache.held.Goals as goal

pub overflow_add-result : goal.overflow_add-result
overflow_add-result c =
    let s = c.self.inside in
    let f = front_counts s.current s.others.items c.self.invariant.fits in
    let a = front_adds s.current s.others.items in
    let e = ap (λ xs. count_of xs) c.as_slice.ensures.value in
    let v = c.count_in.ensures in
    let w = c.count_all.ensures in
    omega arith
