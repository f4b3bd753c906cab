use Rattle.std.proofs.Common.{◌≡◌, ◌-◌, ◌≤◌, List, arith, rules, subst, sym, length, vec_len}
use Rattle.std.specs.Prelude.{vec_capacity}
use Rattle.mc_journal.specs.declared.record.DemuxRecord.{DemuxRecord}
use Rattle.mc_cache.specs.Pruning.{ahead_in}
use Rattle.mc_calls.specs.State.{DemuxState, forward_of}
use Rattle.mc_calls.specs.Demuxers.{IsPlaced}
use Rattle.mc_calls.specs.Trimming.{Trims}
use Rattle.mc_calls.proofs.Answering.{gives_now}
use Rattle.mc_calls.proofs.Readers.{gives_is}
use Rattle.mc_demux.proofs.demux.Demux.give.Goals as goal

pub invariant_of-self : goal.invariant_of-self
invariant_of-self c =
    let placed = subst (λ (d : DemuxState). IsPlaced d.set c.args.heads d.waiting d.seeking d.cache.current) (sym c.self.view_is) c.requires.placed in
    let ahead = subst (λ (d : DemuxState). ahead_in c.args.heads d.cache.current ≤ forward_of d) (sym c.self.view_is) c.requires.ahead in
    let trims = subst (λ (j : List DemuxRecord). Trims c.args.by c.args.heads c.self.inside.cache j c.trim.new.cache c.trim.new.journal.items) c.push_reserved.ensures.items c.trim.ensures.value in
    let long : vec_len c.trim.new.journal ≡ length c.trim.new.journal.items = search rules in
    let room = c.trim.ensures.room in
    let spare : 2 ≤ vec_capacity c.trim.new.journal - length c.trim.new.journal.items = omega arith in
    gives_is _ c.args.by c.args.own c.args.heads c.args.ended c.trim.new.cache c.trim.new.journal.items (vec_capacity c.trim.new.journal - length c.trim.new.journal.items)
    c.self.invariant placed ahead trims c.trim.ensures.cache c.trim.ensures.within spare

pub returns-clause-demux : goal.returns-clause-demux
returns-clause-demux c =
    let placed = subst (λ (d : DemuxState). IsPlaced d.set c.args.heads d.waiting d.seeking d.cache.current) (sym c.self.view_is) c.requires.placed in
    let ahead = subst (λ (d : DemuxState). ahead_in c.args.heads d.cache.current ≤ forward_of d) (sym c.self.view_is) c.requires.ahead in
    let trims = subst (λ (j : List DemuxRecord). Trims c.args.by c.args.heads c.self.inside.cache j c.trim.new.cache c.trim.new.journal.items) c.push_reserved.ensures.items c.trim.ensures.value in
    let long : vec_len c.trim.new.journal ≡ length c.trim.new.journal.items = search rules in
    let room = c.trim.ensures.room in
    let spare : 2 ≤ vec_capacity c.trim.new.journal - length c.trim.new.journal.items = omega arith in
    gives_is _ c.args.by c.args.own c.args.heads c.args.ended c.trim.new.cache c.trim.new.journal.items (vec_capacity c.trim.new.journal - length c.trim.new.journal.items)
    c.self.invariant placed ahead trims c.trim.ensures.cache c.trim.ensures.within spare

pub returns-clause-value : goal.returns-clause-value
returns-clause-value c =
    let trims = subst (λ (j : List DemuxRecord). Trims c.args.by c.args.heads c.self.inside.cache j c.trim.new.cache c.trim.new.journal.items) c.push_reserved.ensures.items c.trim.ensures.value in
    gives_now _ c.args.self.now c.args.by c.args.own c.args.heads c.args.ended c.trim.new.cache c.trim.new.journal.items _ c.self.view_is trims
