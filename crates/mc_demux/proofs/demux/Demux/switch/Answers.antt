use Rattle.std.proofs.Common.{◌≡◌, ◌+◌, ◌-◌, ◌≤◌, true, List, arith, rules, sym, subst, ap, length, vec_len, w64, refl}
use mir.Val.{SFits}
use Rattle.std.specs.Prelude.{vec_capacity}
use Rattle.std.proofs.lemmas.Int.{to_z-of_z}
use Rattle.mc_journal.specs.declared.record.Removal.{Removal}
use Rattle.mc_packet.specs.Choices.{is_known, nothing}
use Rattle.mc_cache.specs.Cache.{count_of, ranges_of}
use Rattle.mc_tracks.specs.Selection.{knows}
use Rattle.mc_calls.specs.Selecting.{added_to}
use Rattle.mc_calls.specs.State.{DemuxState}
use Rattle.mc_calls.proofs.Known.{known_distinct}
use Rattle.mc_calls.proofs.Lost.{few_told, left_counts, switched_inside}
use Rattle.mc_calls.proofs.Switched.{switches_now}
use Rattle.mc_demux.proofs.demux.Demux.switch.Goals as goal

pub retrack-requires : goal.retrack-requires
retrack-requires c = record { distinct = known_distinct _ c.args.set c.requires.known }

pub write_switch-requires : goal.write_switch-requires
write_switch-requires c =
    let room : count_of (ranges_of c.self.inside.cache) + 34 ≤ vec_capacity c.self.inside.journal - length c.self.inside.journal.items =
    subst (λ (d : DemuxState). count_of (ranges_of d.cache) + 34 ≤ d.spare) (sym c.self.view_is) c.requires.room in
    let few = few_told c.args.set c.in_ok-drops.drops c.self.inside.cache c.retrack.new.self c.self.invariant.cache c.in_ok-drops.ensures.ok in
    let told : length c.as_slice.result.now ≡ length c.in_ok-drops.drops = ap (λ (ds : List Removal). length ds) c.as_slice.ensures in
    let long : vec_len c.self.inside.journal ≡ length c.self.inside.journal.items = search rules in
    omega arith

pub trim-requires : goal.trim-requires
trim-requires c =
    let room : count_of (ranges_of c.self.inside.cache) + 34 ≤ vec_capacity c.self.inside.journal - length c.self.inside.journal.items =
    subst (λ (d : DemuxState). count_of (ranges_of d.cache) + 34 ≤ d.spare) (sym c.self.view_is) c.requires.room in
    let few = few_told c.args.set c.in_ok-drops.drops c.self.inside.cache c.retrack.new.self c.self.invariant.cache c.in_ok-drops.ensures.ok in
    let counts = left_counts c.args.set c.in_ok-drops.drops c.self.inside.cache c.retrack.new.self c.in_ok-drops.ensures.ok in
    let told : length c.as_slice.result.now ≡ length c.in_ok-drops.drops = ap (λ (ds : List Removal). length ds) c.as_slice.ensures in
    let long : vec_len c.self.inside.journal ≡ length c.self.inside.journal.items = search rules in
    let added = c.write_switch.ensures.few in
    let kept = c.write_switch.ensures.kept in
    record { room = omega arith }

pub invariant_of-self-2 : goal.invariant_of-self-2
invariant_of-self-2 c =
    let known : is_known (knows c.self.inside.list) c.args.set ≡ true = subst (λ (d : DemuxState). is_known (knows d.list) c.args.set ≡ true) (sym c.self.view_is) c.requires.known in
    let added = subst (λ (d : DemuxState). c.added_to-added.result ≡ added_to c.args.set d) (sym c.self.view_is) c.added_to-added.ensures in
    let fits : SFits w64 c.args.at = search rules in
    switched_inside _ c.args.by c.args.set c.args.at _ c.added_to-added.result c.waiting_after-self-inside.result c.lead_of.result c.in_ok-drops.drops c.as_slice.result.now
    c.retrack.new.self c.trim.new.cache c.write_switch.new.journal.items c.trim.new.journal.items _ _
    c.self.invariant known c.in_ok-drops.ensures.ok c.as_slice.ensures c.write_switch.ensures.items c.trim.ensures.value c.trim.ensures.cache c.trim.ensures.within
    (to_z-of_z w64 c.args.at fits) added c.waiting_after-self-inside.ensures c.lead_of.ensures

pub returns-clause-demux : goal.returns-clause-demux
returns-clause-demux c = invariant_of-self-2 c

pub returns-clause-ok : goal.returns-clause-ok
returns-clause-ok c =
    let added = subst (λ (d : DemuxState). c.added_to-added.result ≡ added_to c.args.set d) (sym c.self.view_is) c.added_to-added.ensures in
    let fits : SFits w64 c.args.at = search rules in
    switches_now _ c.args.self.now c.args.by c.args.set c.args.at _ c.added_to-added.result c.waiting_after-self-inside.result c.lead_of.result c.in_ok-drops.drops c.as_slice.result.now
    c.retrack.new.self c.trim.new.cache c.write_switch.new.journal.items c.trim.new.journal.items nothing _
    c.self.view_is c.in_ok-drops.ensures.cache c.in_ok-drops.ensures.ok c.as_slice.ensures c.write_switch.ensures.items c.trim.ensures.value
    (to_z-of_z w64 c.args.at fits) added c.waiting_after-self-inside.ensures c.lead_of.ensures refl
