-- The properties of a player, in the order of their entries.
use Rattle.std.specs.Prelude.{ℕ, Bool, true, false, not, ◌&&◌, if◌then◌else◌, ◌==◌, ◌||◌, ℤ, List, [], ◌∷◌, map, codes, slice_get, Option, Some, None}
use Rattle.std.specs.List.{list_any}
use Rattle.std.specs.Option.{is_some, option_map}
use Rattle.mc_value.specs.declared.value.Value.TheVariants as value
use Rattle.mc_packet.specs.declared.choice.Choice.{Choice}
use Rattle.mc_packet.specs.declared.choice.Kind.{Kind}
use Rattle.mc_packet.specs.declared.choice.Kind.TheVariants.{Video, Audio, Sub}
use Rattle.mc_props.specs.Cache.{cache_map, time_value}
use Rattle.mc_props.specs.Tracks.{selected_of, track_list}
use Rattle.mc_props.specs.declared.facts.Facts.{Facts}
use Rattle.mc_props.specs.declared.entries.PropEntry.{PropEntry}
use Rattle.mc_props.specs.declared.reading.Reading.{Reading}
use Rattle.mc_props.specs.declared.reading.Reading.TheVariants.{Is, Unavailable}
use Rattle.mc_props.specs.declared.properties.Property.{Property}
use Rattle.mc_props.specs.declared.properties.Property.TheVariants as property

abbrev pub properties : List Property
properties =
    property.Pause ∷ property.Mute ∷ property.Path ∷ property.Filename ∷ property.FileFormat ∷
    property.IdleActive ∷ property.Seekable ∷ property.TrackList ∷ property.Track Video ∷
    property.Track Audio ∷ property.Track Sub ∷ property.TimePos ∷ property.DemuxerCacheState ∷
    property.EofReached ∷ []

abbrev pub track_property : Kind → List ℕ
track_property Video = codes "vid"
track_property Audio = codes "aid"
track_property Sub = codes "sid"

abbrev pub property_name : Property → List ℕ
property_name property.Pause = codes "pause"
property_name property.Mute = codes "mute"
property_name property.Path = codes "path"
property_name property.Filename = codes "filename"
property_name property.FileFormat = codes "file-format"
property_name property.IdleActive = codes "idle-active"
property_name property.Seekable = codes "seekable"
property_name property.TrackList = codes "track-list"
property_name (property.Track kind) = track_property kind
property_name property.TimePos = codes "time-pos"
property_name property.DemuxerCacheState = codes "demuxer-cache-state"
property_name property.EofReached = codes "eof-reached"

-- the fields that a property reads: 1 pause, 2 mute, 4 the file, 8 the selection, 16 the cache's
-- view
abbrev pub property_mask : Property → ℕ
property_mask property.Pause = 1
property_mask property.Mute = 2
property_mask property.Path = 4
property_mask property.Filename = 4
property_mask property.FileFormat = 4
property_mask property.IdleActive = 4
property_mask property.Seekable = 12
property_mask property.TrackList = 12
property_mask (property.Track kind) = 12
property_mask property.TimePos = 20
property_mask property.DemuxerCacheState = 20
property_mask property.EofReached = 20

abbrev pub may_be_set : Property → Bool
may_be_set property.Pause = true
may_be_set property.Mute = true
may_be_set (property.Track kind) = true
may_be_set p = false

abbrev pub entry_of : Property → PropEntry
entry_of p = record { name = property_name p; mask = property_mask p; writable = may_be_set p }

abbrev pub standard_table : List PropEntry
standard_table = map entry_of properties

-- whether a property has no value until a file is loaded
abbrev pub needs_file : Property → Bool
needs_file property.Pause = false
needs_file property.Mute = false
needs_file property.IdleActive = false
needs_file p = true

abbrev pub text_reading : Option (List ℕ) → Reading
text_reading None = Unavailable
text_reading (Some s) = Is (value.Str s)

-- the part of a path behind its last slash
abbrev pub file_part : List ℕ → List ℕ
file_part [] = []
file_part (c ∷ cs) = if list_any (λ d. d == 47) (c ∷ cs) then file_part cs else c ∷ cs

abbrev pub has_track : Choice → Bool
has_track set = is_some set.video || (is_some set.audio || is_some set.sub)

abbrev pub time_reading : Option ℤ → Reading
time_reading None = Unavailable
time_reading (Some t) = Is (time_value t)

-- a property's value once it may have one
abbrev pub value_of : Property → Facts → Reading
value_of property.Pause f = Is (value.Flag f.pause)
value_of property.Mute f = Is (value.Flag f.mute)
value_of property.Path f = text_reading f.path
value_of property.Filename f = text_reading (option_map file_part f.path)
value_of property.FileFormat f = Is (value.Str (codes "mkv"))
value_of property.IdleActive f = Is (value.Flag (not f.loaded))
value_of property.Seekable f = Is (value.Flag (has_track f.set))
value_of property.TrackList f = Is (track_list f.tracks f.set)
value_of (property.Track kind) f = Is (selected_of kind f.tracks f.set)
value_of property.TimePos f = time_reading f.cache.time
value_of property.DemuxerCacheState f = Is (cache_map f.cache)
value_of property.EofReached f = Is (value.Flag f.cache.ended)

abbrev pub reading_of : Property → Facts → Reading
reading_of p f = if needs_file p && not f.loaded then Unavailable else value_of p f

abbrev pub reading_at : Option Property → Facts → Reading
reading_at None f = Unavailable
reading_at (Some p) f = reading_of p f

-- the value of the property at a place; no other place has one
unfoldable pub standard_of : ℕ → Facts → Reading
standard_of place f = reading_at (slice_get properties place) f
