use Rattle.std.proofs.Common.{w64, to_z, of_z, ◌≡◌, ◌+◌, ◌≤◌, arith, rules, length, vec_len, subst, sym, refl}
use Rattle.mc_journal.specs.declared.record.DemuxRecord.TheVariants.{Sought}
use Rattle.mc_cache.specs.Cache.{count_of, ranges_of}
use Rattle.mc_calls.specs.State.{DemuxState}
use Rattle.mc_calls.proofs.Sought.{goes_is, goes_told, turned_fewer}
use mir.Val.{SFits}
use Rattle.std.proofs.lemmas.Int.{to_z-of_z}
use Rattle.mc_packet.specs.Choices.{nothing}
use Rattle.mc_demux.proofs.demux.Demux.go.Goals as goal

pub trim-requires : goal.trim-requires
trim-requires c =
    let fewer = turned_fewer c.self.inside.set (to_z w64 (of_z w64 c.args.t)) c.args.dir c.turn-how.result c.self.inside.cache c.turn-how.new.cache c.turn-how.ensures.value in
    let room = subst (λ (d : DemuxState). count_of (ranges_of d.cache) + 3 ≤ d.spare) (sym c.self.view_is) c.requires.room in
    let long : vec_len c.self.inside.journal ≡ length c.self.inside.journal.items = search rules in
    let len = c.push_reserved.ensures.len in
    let capacity = c.push_reserved.ensures.capacity in
    omega arith

pub invariant_of-self : goal.invariant_of-self
invariant_of-self c =
    goes_is _ c.args.by (to_z w64 (of_z w64 c.args.t)) c.args.dir c.turn-how.result c.turn-how.new.cache c.trim.new.cache c.turn-how.new.heads c.push_reserved.new.self.items c.trim.new.journal.items
    (Sought c.args.by c.self.inside.set (to_z w64 (of_z w64 c.args.t)) c.args.dir c.turn-how.result) c.target_after-self-inside.result nothing nothing _
    c.self.invariant c.turn-how.ensures.cache c.turn-how.ensures.value c.turn-how.ensures.how c.turn-how.ensures.heads c.target_after-self-inside.ensures refl
    c.push_reserved.ensures.items c.trim.ensures.value c.trim.ensures.cache c.trim.ensures.within

pub returns-clause-demux : goal.returns-clause-demux
returns-clause-demux c = invariant_of-self c

pub returns-clause-value : goal.returns-clause-value
returns-clause-value c =
    let fits : SFits w64 c.args.t = search rules in
    goes_told _ c.args.self.now c.args.by c.args.t (to_z w64 (of_z w64 c.args.t)) c.args.dir c.turn-how.result c.turn-how.new.cache c.trim.new.cache c.turn-how.new.heads c.push_reserved.new.self.items
    c.trim.new.journal.items c.target_after-self-inside.result nothing nothing _ c.self.view_is (to_z-of_z w64 c.args.t fits)
    c.turn-how.ensures.cache c.turn-how.ensures.value c.turn-how.ensures.how c.turn-how.ensures.heads c.target_after-self-inside.ensures refl refl
    c.push_reserved.ensures.items c.trim.ensures.value
