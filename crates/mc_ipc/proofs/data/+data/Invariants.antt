use Rattle.std.proofs.Common.{◌≡◌, map, take}
use Rattle.serde_json.specs.Data.{no_members}
use Rattle.serde_json.specs.View.{members_view, view}
use Rattle.mc_ipc.specs.Written.{data_of, put_all}
use Rattle.mc_ipc.proofs.data.+data.Given as goal

abbrev pub invariant-array_of-loop-value : goal.invariant-array_of-loop-value
invariant-array_of-loop-value l = map view l.items.items ≡ map data_of (take l.value-index l.values)

abbrev pub invariant-map_of-loop-pair : goal.invariant-map_of-loop-pair
invariant-map_of-loop-pair l = members_view l.members.entries ≡ put_all (map (λ p. (p.0, data_of p.1)) (take l.pair-index l.pairs)) no_members
