use Rattle.std.proofs.Common.{◌∙◌, ap}
use Rattle.mc_range.specs.Range.{place_at}
use Rattle.mc_cache.specs.Rooms.{meets_then_in}
use Rattle.mc_cache.proofs.Feeding.{alone}
use Rattle.mc_cache.proofs.cache.Cache.make_room_to_feed.Goals as goal

pub returns-else-touches_then-clause-ok : goal.returns-else-touches_then-clause-ok
returns-else-touches_then-clause-ok c =
    let s = c.self.inside in
    let t = c.touches_then.ensures ∙ ap (λ rs. meets_then_in (place_at c.args.chunk.now.to.pos) s.current rs) c.as_slice.ensures.value in
    alone c.args.chunk.now s.join_drops.cap c.len-more.result s.current c.reserve_in.new.range s.others.items c.touches_then.result c.reserve_in.result c.len-more.ensures c.reserve_in.ensures.same t c.if-touches_then.false c.reserve_in.ensures.ok
