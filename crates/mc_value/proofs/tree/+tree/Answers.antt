use Rattle.mc_value.proofs.MapLemmas.{json_of_map}
use Rattle.mc_value.proofs.tree.+tree.Goals as goal

pub push_json-returns-in-Map : goal.push_json-returns-in-Map
push_json-returns-in-Map t c = rw (c.in-Map.is, json_of_map, ← c.as_slice-in-Map.ensures) c.push_map.ensures
