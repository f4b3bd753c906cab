use Rattle.std.proofs.Common.{ap, subst, arith}
use Rattle.std.specs.Prelude.{IsSomeAnd, OnOk}
use Rattle.mc_range.specs.Growing.{IsFed}
use Rattle.mc_cache.specs.Cache.{CacheState}
use Rattle.mc_cache.proofs.Feeding.{fed_ready}
use Rattle.mc_cache.proofs.cache.Cache.feed.Goals as goal

pub returns-clause-room : goal.returns-clause-room
returns-clause-room c =
    let s = c.self.inside in
    let v = c.self.view_is in
    let j = ap (λ (x : CacheState). x.join_room) v in
    let f = subst (λ (x : CacheState). OnOk c.feed_in.result (IsSomeAnd x.current (λ o. IsSomeAnd c.feed_in.new.range (λ n. IsFed c.args.chunk o n)))) v c.feed_in.ensures.ok in
    fed_ready c.args.chunk c.feed_in.new.range c.args.self.now s.join_drops.cap s.others.items c.feed_in.result (omega arith) (ap (λ (x : CacheState). x.others) v) c.feed_in.ensures.range c.self.invariant.others f
