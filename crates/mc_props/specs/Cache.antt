-- The state of the demuxer's cache as a value.
use Rattle.std.specs.Prelude.{ℕ, ℤ, ◌+◌, List, [], ◌∷◌, ◌++◌, flat_map, codes, Option, Some, None}
use Rattle.std.specs.Option.{is_some}
use Rattle.mc_value.specs.declared.value.Value.{Value}
use Rattle.mc_value.specs.declared.value.Value.TheVariants as value
use Rattle.mc_value.specs.Seconds.{seconds_text_of}
use Rattle.mc_packet.specs.declared.cache.CacheView.{CacheView}
use Rattle.mc_packet.specs.declared.cache.RangeView.{RangeView}
use Rattle.mc_props.specs.Tracks.{number_value}

-- a time in seconds with six decimals
abbrev pub time_value : ℤ → Value
time_value t = value.Str (seconds_text_of t)

abbrev pub range_map : ℤ → ℤ → Value
range_map start end =
    value.Map ((codes "start", time_value start) ∷ (codes "end", time_value end) ∷ [])

-- a range's map, where it has bounds
abbrev pub bounds_maps : Option (ℤ × ℤ) → List Value
bounds_maps None = []
bounds_maps (Some b) = range_map b.0 b.1 ∷ []

-- the maps of the ranges with bounds, in order of last use
abbrev pub range_maps : List RangeView → List Value
range_maps ranges = flat_map (λ (r : RangeView). bounds_maps r.bounds) ranges

-- whether the current range begins where the film does, and reaches its ending
abbrev pub ends_of : CacheView → List (List ℕ × Value)
ends_of view = (codes "bof-cached", value.Flag view.bof)
    ∷ (codes "eof-cached", value.Flag (is_some view.ending)) ∷ []

-- the octets ahead of the readers in the current range, and all
abbrev pub octets_of : CacheView → List (List ℕ × Value)
octets_of view = (codes "fw-bytes", number_value view.forward)
    ∷ (codes "total-bytes", number_value (view.forward + view.back)) ∷ []

abbrev pub cache_map : CacheView → Value
cache_map view = value.Map ((codes "seekable-ranges", value.Array (range_maps view.ranges))
    ∷ (ends_of view ++ octets_of view))
