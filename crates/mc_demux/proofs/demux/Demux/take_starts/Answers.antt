use Rattle.std.proofs.Common.{◌≡◌, ◌+◌, ◌≤◌, List, ap, arith, rules, subst, sym, length, vec_len}
use Rattle.std.specs.Prelude.{IsSomeAnd}
use Rattle.mc_journal.specs.declared.record.DemuxRecord.{DemuxRecord}
use Rattle.mc_cache.specs.Cache.{count_of, ranges_of}
use Rattle.mc_calls.specs.State.{DemuxState}
use Rattle.mc_calls.specs.Outcomes.{StartsFit}
use Rattle.mc_calls.proofs.Beginning.{begun, may_begin, starts_is, untold_is}
use Rattle.mc_demux.proofs.demux.Demux.take_starts.Goals as goal

pub begin-requires-clause-may : goal.begin-requires-clause-may
begin-requires-clause-may c =
    may_begin _ c.args.starts.now c.self.invariant (subst (λ (d : DemuxState). IsSomeAnd d.kept (StartsFit c.args.starts.now)) (sym c.self.view_is) c.requires.kept)

pub invariant_of-self : goal.invariant_of-self
invariant_of-self c =
    let same : c.begin.new.journal.items ≡ c.self.inside.journal.items = search rules in
    let capacity = c.in_err-begin.ensures.capacity in
    let long = ap (λ (xs : List DemuxRecord). length xs) same in
    untold_is _ c.begin.new.cache c.begin.new.journal.items _ c.in_err-begin.ensures.err c.in_err-begin.ensures.cache same (omega arith) c.self.invariant

pub returns-in_err-begin-clause-demux : goal.returns-in_err-begin-clause-demux
returns-in_err-begin-clause-demux c =
    let same : c.begin.new.journal.items ≡ c.self.inside.journal.items = search rules in
    let capacity = c.in_err-begin.ensures.capacity in
    let long = ap (λ (xs : List DemuxRecord). length xs) same in
    untold_is _ c.begin.new.cache c.begin.new.journal.items _ c.in_err-begin.ensures.err c.in_err-begin.ensures.cache same (omega arith) c.self.invariant

pub settle-requires-clause-room : goal.settle-requires-clause-room
settle-requires-clause-room c =
    let kept = subst (λ (d : DemuxState). IsSomeAnd d.kept (StartsFit c.args.starts.now)) (sym c.self.view_is) c.requires.kept in
    let room = subst (λ (d : DemuxState). count_of (ranges_of d.cache) + 320 ≤ d.spare) (sym c.self.view_is) c.requires.room in
    let fewer = (begun _ c.args.starts.now c.begin.new.cache c.begin.new.journal.items c.self.invariant kept c.in_ok-begin.ensures.cache c.in_ok-begin.ensures.ok).has.fewer in
    let long : vec_len c.self.inside.journal ≡ length c.self.inside.journal.items = search rules in
    let len = c.in_ok-begin.ensures.len in
    let capacity = c.in_ok-begin.ensures.capacity in
    omega arith

pub invariant_of-self-2 : goal.invariant_of-self-2
invariant_of-self-2 c =
    let kept = subst (λ (d : DemuxState). IsSomeAnd d.kept (StartsFit c.args.starts.now)) (sym c.self.view_is) c.requires.kept in
    starts_is _ c.args.starts.now c.heads_at-self-inside.result c.begin.new.cache c.settle.new.cache c.begin.new.journal.items c.settle.new.journal.items _ c.self.invariant kept
    c.heads_at-self-inside.ensures c.in_ok-begin.ensures.cache c.in_ok-begin.ensures.ok c.settle.ensures.value c.settle.ensures.cache c.settle.ensures.within

pub returns-clause-demux : goal.returns-clause-demux
returns-clause-demux c =
    let kept = subst (λ (d : DemuxState). IsSomeAnd d.kept (StartsFit c.args.starts.now)) (sym c.self.view_is) c.requires.kept in
    starts_is _ c.args.starts.now c.heads_at-self-inside.result c.begin.new.cache c.settle.new.cache c.begin.new.journal.items c.settle.new.journal.items _ c.self.invariant kept
    c.heads_at-self-inside.ensures c.in_ok-begin.ensures.cache c.in_ok-begin.ensures.ok c.settle.ensures.value c.settle.ensures.cache c.settle.ensures.within
