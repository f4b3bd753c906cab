-- What setting a property writes, or why it is refused.
use Rattle.std.specs.Prelude.{◌≡◌, ℕ, ℤ, pos, negsuc, Bool, true, false, if◌then◌else◌, List, codes, Option, Some, None, Result, Ok, Err, slice_get, ⊤}
use Rattle.std.specs.Str.{bytes_eq}
use Rattle.mc_value.specs.declared.value.Value.{Value, out-Value}
use Rattle.mc_value.specs.declared.value.Value.TheOpen.{Value-F}
use Rattle.mc_value.specs.Conversions.{as_flag, as_number}
use Rattle.mc_packet.specs.Choices.{is_known}
use Rattle.mc_packet.specs.declared.choice.Choice.{Choice}
use Rattle.mc_packet.specs.declared.choice.Kind.{Kind}
use Rattle.mc_packet.specs.declared.choice.Kind.TheVariants.{Video, Audio, Sub}
use Rattle.mc_tracks.specs.declared.track.Track.{Track}
use Rattle.mc_tracks.specs.Selection.{knows}
use Rattle.mc_tracks.specs.TrackList.{track_of_kind}
use Rattle.mc_props.specs.Entries.{place_of}
use Rattle.mc_props.specs.declared.facts.Facts.{Facts}
use Rattle.mc_props.specs.declared.entries.PropEntry.{PropEntry}
use Rattle.mc_props.specs.declared.reading.Reading.{Reading}
use Rattle.mc_props.specs.declared.reading.Reading.TheVariants as reading
use Rattle.mc_props.specs.declared.refusal.PropError.{PropError}
use Rattle.mc_props.specs.declared.refusal.PropError.TheVariants as refusal
use Rattle.mc_props.specs.declared.settings.Write.{Write}
use Rattle.mc_props.specs.declared.settings.Write.TheVariants as write

-- a flag is written
abbrev pub flag_write : (Bool → Write) → Option Bool → Result Write PropError
flag_write to None = Err refusal.PropertyFormat
flag_write to (Some flag) = Ok (to flag)

-- a choice with another track of one kind, or none
abbrev pub with_track : Kind → Option ℕ → Choice → Choice
with_track Video track set = record { video = track; audio = set.audio; sub = set.sub }
with_track Audio track set = record { video = set.video; audio = track; sub = set.sub }
with_track Sub track set = record { video = set.video; audio = set.audio; sub = track }

-- the track of a number among those of its kind, which are counted from 1
abbrev pub track_at : Kind → ℤ → List Track → Option Track
track_at kind (pos n) tracks = track_of_kind kind n tracks
track_at kind (negsuc n) tracks = None

-- a track is selected, where it can be read
abbrev pub track_write : Kind → Choice → Option Track → Result Write PropError
track_write kind set None = Err refusal.NoSuchTrack
track_write kind set (Some t) =
    if t.encoded then Err refusal.Unsupported else
    Ok (write.Select (with_track kind (Some t.no) set))

abbrev pub number_write : Kind → Facts → Option ℤ → Result Write PropError
number_write kind facts None = Err refusal.PropertyFormat
number_write kind facts (Some n) = track_write kind facts.set (track_at kind n facts.tracks)

-- whether a value is the string `no`
abbrev pub is_no : Value-F Value → Bool
is_no (Value-F.Str s) = bytes_eq s (codes "no")
is_no _ = false

-- `no` selects no track of the kind, and a number the track of that number
abbrev pub selection_write : Kind → Facts → Value-F Value → Result Write PropError
selection_write kind facts v =
    if is_no v then Ok (write.Select (with_track kind None facts.set)) else
    number_write kind facts (as_number v)

-- what a value writes under a name that may be set
abbrev pub written : List ℕ → Facts → Value → Result Write PropError
written name facts v =
    if bytes_eq name (codes "pause") then flag_write write.Pause (as_flag (out-Value v)) else
    if bytes_eq name (codes "mute") then flag_write write.Mute (as_flag (out-Value v)) else
    if bytes_eq name (codes "vid") then selection_write Video facts (out-Value v) else
    if bytes_eq name (codes "aid") then selection_write Audio facts (out-Value v) else
    if bytes_eq name (codes "sid") then selection_write Sub facts (out-Value v) else
    Err refusal.ReadOnly

-- a property that has no value is not set
abbrev pub written_over : Reading → List ℕ → Facts → Value → Result Write PropError
written_over reading.Unavailable name facts v = Err refusal.Unavailable
written_over (reading.Is before) name facts v = written name facts v

abbrev pub set_entry : (ℕ → Facts → Reading) → ℕ → Option PropEntry → List ℕ → Facts → Value
    → Result Write PropError
set_entry stated place None name facts v = Err refusal.NotFound
set_entry stated place (Some e) name facts v =
    if e.writable then written_over (stated place facts) name facts v else Err refusal.ReadOnly

abbrev pub set_at : (ℕ → Facts → Reading) → List PropEntry → Option ℕ → List ℕ → Facts → Value
    → Result Write PropError
set_at stated entries None name facts v = Err refusal.NotFound
set_at stated entries (Some place) name facts v =
    set_entry stated place (slice_get entries place) name facts v

-- the answer to a name and a value: the whole name is looked up, without a path
abbrev pub set_to : (ℕ → Facts → Reading) → List PropEntry → List ℕ → Facts → Value
    → Result Write PropError
set_to stated entries name facts v = set_at stated entries (place_of name entries) name facts v

-- a choice of tracks that the facts list, each under its own kind, and none of them encoded
abbrev pub AreKnown : Facts → Choice → Type 0
AreKnown facts set = is_known (knows facts.tracks) set ≡ true

-- a selection that is written is known where the one before it is
abbrev pub SelectsKnown : Facts → Write → Type 0
SelectsKnown facts (write.Select set) = AreKnown facts facts.set → AreKnown facts set
SelectsKnown facts w = ⊤
