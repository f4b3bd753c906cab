use Rattle.std.proofs.Common.{ap, ap₂, sym, ◌∙◌}
use Rattle.serde_json.specs.Data.{no_members, put}
use Rattle.serde_json.specs.View.{members_view}
use Rattle.mc_ipc.specs.Written.{data_of}
use Rattle.mc_ipc.proofs.Views.{data_of_map, members_next}
use Rattle.mc_ipc.proofs.data.+data.Goals as goal

pub data_of-returns-in-Map : goal.data_of-returns-in-Map
data_of-returns-in-Map t c = rw (c.in-Map.is, data_of_map, ← c.as_slice-in-Map.ensures) c.map_of.ensures

pub map_of-loop-pair-preserved : goal.map_of-loop-pair-preserved
map_of-loop-pair-preserved t c =
    let next = members_next c.args.pairs.now c.loop-pair.pair-index c.pair-item.result no_members c.loop-pair-test.true c.pair-item.is in
    let one = c.in_ok-put.ensures.ok ∙ ap₂ (λ k d. put k d (members_view c.loop-pair.members.entries)) c.as_str.ensures c.in_ok-value.ensures in
    one ∙ ap (put c.pair-item.result.0 (data_of c.pair-item.result.1)) c.loop-pair.invariant ∙ sym next
