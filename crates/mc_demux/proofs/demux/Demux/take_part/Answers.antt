use Rattle.std.proofs.Common.{◌≡◌, ◌+◌, ◌≤◌, List, arith, rules, subst, sym, length, vec_len}
use Rattle.std.specs.Prelude.{IsSomeAnd}
use Rattle.mc_journal.specs.declared.record.DemuxRecord.{DemuxRecord}
use Rattle.mc_cache.specs.Cache.{count_of, ranges_of}
use Rattle.mc_calls.specs.State.{DemuxState}
use Rattle.mc_calls.specs.Outcomes.{PartFits}
use Rattle.mc_calls.specs.Settling.{Settles}
use Rattle.mc_calls.proofs.Parts.{fits, fed_cache, part_is, takes_now}
use Rattle.mc_demux.proofs.demux.Demux.take_part.Goals as goal

pub feed-requires-clause-fits : goal.feed-requires-clause-fits
feed-requires-clause-fits c = fits _ c.args.chunk c.self.invariant c.requires.shape

pub settle-requires-clause-room : goal.settle-requires-clause-room
settle-requires-clause-room c =
    let room = subst (λ (d : DemuxState). count_of (ranges_of d.cache) + 320 ≤ d.spare) (sym c.self.view_is) c.requires.room in
    let more = (fed_cache c.args.chunk c.self.inside.cache c.feed.new.self c.self.invariant.cache c.in_ok-took.ensures.ok).more in
    let few = c.requires.shape.few in
    let long : vec_len c.self.inside.journal ≡ length c.self.inside.journal.items = search rules in
    let len = c.push_reserved.ensures.len in
    let capacity = c.push_reserved.ensures.capacity in
    omega arith

pub invariant_of-self-2 : goal.invariant_of-self-2
invariant_of-self-2 c =
    let kept = subst (λ (d : DemuxState). IsSomeAnd d.kept (PartFits c.args.chunk)) (sym c.self.view_is) c.requires.kept in
    let settles = subst (λ (j : List DemuxRecord). Settles 5 c.self.inside.heads c.feed.new.self j c.settle.new.cache c.settle.new.journal.items) c.push_reserved.ensures.items c.settle.ensures.value in
    part_is _ c.args.chunk _ c.feed.new.self c.settle.new.cache c.settle.new.journal.items _ _ c.self.invariant kept c.requires.shape c.in_ok-took.ensures.cache c.in_ok-took.ensures.ok
    settles c.settle.ensures.cache c.settle.ensures.within

pub returns-clause-ok : goal.returns-clause-ok
returns-clause-ok c =
    let settles = subst (λ (j : List DemuxRecord). Settles 5 c.self.inside.heads c.feed.new.self j c.settle.new.cache c.settle.new.journal.items) c.push_reserved.ensures.items c.settle.ensures.value in
    takes_now _ c.args.self.now c.args.chunk c.in_ok-took.took c.feed.new.self c.settle.new.cache c.settle.new.journal.items _ _ c.self.view_is c.requires.here c.in_ok-took.ensures.cache c.in_ok-took.ensures.ok
    settles c.in_ok-took.ensures.taken (search rules)

pub returns-clause-demux : goal.returns-clause-demux
returns-clause-demux c =
    let kept = subst (λ (d : DemuxState). IsSomeAnd d.kept (PartFits c.args.chunk)) (sym c.self.view_is) c.requires.kept in
    let settles = subst (λ (j : List DemuxRecord). Settles 5 c.self.inside.heads c.feed.new.self j c.settle.new.cache c.settle.new.journal.items) c.push_reserved.ensures.items c.settle.ensures.value in
    part_is _ c.args.chunk _ c.feed.new.self c.settle.new.cache c.settle.new.journal.items _ _ c.self.invariant kept c.requires.shape c.in_ok-took.ensures.cache c.in_ok-took.ensures.ok
    settles c.settle.ensures.cache c.settle.ensures.within
