use Rattle.std.proofs.Common.{w64, to_z, of_z, ap, subst}
use Rattle.std.specs.Prelude.{vec_capacity, IfSome}
use Rattle.mc_cache.specs.Cache.{CacheState, Fewer}
use Rattle.mc_cache.specs.Changing.{serves}
use Rattle.mc_cache.proofs.Chosen.{kept_out, fewer_of}
use Rattle.mc_cache.proofs.cache.Cache.take_server.Goals as goal

pub invariant_of-self : goal.invariant_of-self
invariant_of-self c =
    let s = c.self.inside in
    let t = to_z w64 (of_z w64 c.args.t) in
    let st : CacheState = record { limits = s.limits; current = s.current; others = s.others.items; places = vec_capacity s.others; start_room = vec_capacity s.start_drops; join_room = vec_capacity s.join_drops; prepared = s.prepared } in
    rw (c.take_serving.ensures.left, c.take_serving.ensures.room) (kept_out (serves c.args.set t c.args.dir) st c.self.invariant)

pub returns-clause-fewer : goal.returns-clause-fewer
returns-clause-fewer c =
    let s = c.self.inside in
    let t = to_z w64 (of_z w64 c.args.t) in
    let st : CacheState = record { limits = s.limits; current = s.current; others = s.others.items; places = vec_capacity s.others; start_room = vec_capacity s.start_drops; join_room = vec_capacity s.join_drops; prepared = s.prepared } in
    let o = c.take_serving.result in
    let f = fewer_of (serves c.args.set t c.args.dir) st o c.self.invariant c.take_serving.ensures.found in
    let g : IfSome o (λ r. Fewer r s.others.items c.take_serving.new.others.items) = rw c.take_serving.ensures.left f in
    subst (λ xs. IfSome o (λ r. Fewer r xs c.take_serving.new.others.items)) (ap (λ (x : CacheState). x.others) c.self.view_is) g

pub returns-clause-cache : goal.returns-clause-cache
returns-clause-cache c =
    let s = c.self.inside in
    let t = to_z w64 (of_z w64 c.args.t) in
    let st : CacheState = record { limits = s.limits; current = s.current; others = s.others.items; places = vec_capacity s.others; start_room = vec_capacity s.start_drops; join_room = vec_capacity s.join_drops; prepared = s.prepared } in
    rw (c.take_serving.ensures.left, c.take_serving.ensures.room) (kept_out (serves c.args.set t c.args.dir) st c.self.invariant)
