use Rattle.std.proofs.Common.{◌+◌, ◌≤◌, arith, subst, sym, vec_len}
use Rattle.std.specs.Prelude.{vec_capacity}
use Rattle.mc_cache.specs.Cache.{CacheState, count_of, ranges_of}
use Rattle.mc_calls.proofs.Trimmed.{trim_more, trim_fewer, trim_none}
use Rattle.mc_demux.proofs.trim.trim.Goals as goal

pub loop-drop-init : goal.loop-drop-init
loop-drop-init c = record {
  trims = trim_none c.args.by c.args.heads.now c.args.cache.now c.args.journal.now.items c.look_from.new.self c.look_from.ensures.same;
  room = subst (λ (x : CacheState). vec_len c.args.journal.now + count_of (ranges_of x) + 2 ≤ vec_capacity c.args.journal.now) (sym c.look_from.ensures.same) c.requires.room;
  cache = c.look_from.ensures.cache;
}

pub loop-drop-smaller : goal.loop-drop-smaller
loop-drop-smaller c = trim_fewer c.args.heads.now c.loop-drop.cache c.in-Some.drop c.prune.new.self c.loop-drop.invariant.cache c.in-Some.ensures.value

pub loop-drop-preserved : goal.loop-drop-preserved
loop-drop-preserved c =
    let fewer = trim_fewer c.args.heads.now c.loop-drop.cache c.in-Some.drop c.prune.new.self c.loop-drop.invariant.cache c.in-Some.ensures.value in
    let room = c.loop-drop.invariant.room in
    let len = c.push_reserved.ensures.len in
    let capacity = c.push_reserved.ensures.capacity in
    record {
      trims = trim_more c.args.by c.args.heads.now c.args.cache.now c.args.journal.now.items c.loop-drop.cache c.loop-drop.journal.items c.in-Some.drop c.prune.new.self
          c.push_reserved.new.self.items c.loop-drop.invariant.trims c.loop-drop.invariant.cache c.in-Some.ensures.value c.push_reserved.ensures.items;
      room = omega arith;
      cache = c.in-Some.ensures.cache;
    }
