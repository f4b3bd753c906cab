use Rattle.std.proofs.Common.{ap}
use Rattle.mc_cache.specs.Cache.{CacheState}
use Rattle.mc_cache.proofs.Started.{room_to_join}
use Rattle.mc_cache.proofs.cache.Cache.start_range.Goals as goal

pub returns-clause-room : goal.returns-clause-room
returns-clause-room c =
    let s = c.take_ready-range.ensures.same in
    room_to_join c.args.set c.args.starts.now c.take_ready-range.result c.args.self.now c.reserve_to_start.new.self c.take_ready-range.new.self c.leave_current.new.self c.drop_eleventh-drops.new.self c.put_current.new.self
    c.reserve_to_start.ensures.same c.take_ready-range.ensures.ready
    (ap (λ (x : CacheState). x.current) s) (ap (λ (x : CacheState). x.others) s) (ap (λ (x : CacheState). x.join_room) s)
    c.leave_current.ensures.value c.drop_eleventh-drops.ensures.left c.put_current.ensures.value
