-- The tracks of a generated film: one of video and one of audio, whose TrackEntries say no more than they must.
use Rattle.std.specs.Prelude.{ℕ, true, false, codes, List, [], ◌∷◌, None}
use Rattle.mc_packet.specs.declared.choice.Kind.TheVariants.{Video, Audio}
use Rattle.mc_ebml.specs.Ids.{TRACK_ENTRY, TRACK_NUMBER, TRACK_UID, TRACK_TYPE, CODEC_ID}
use Rattle.mc_tracks.specs.declared.track.Track.{Track}
use Rattle.mc_written.specs.Elements.{Element, elements, number}

-- its number is its UID and, 1 for video and 2 for audio, its type
abbrev pub made_elements : ℕ → List ℕ → List Element
made_elements n codec = number TRACK_NUMBER n ∷ number TRACK_UID n ∷ number TRACK_TYPE n ∷ (CODEC_ID, codec) ∷ []

abbrev pub made_body : List ℕ
made_body = elements ((TRACK_ENTRY, elements (made_elements 1 (codes "V_VP9"))) ∷ (TRACK_ENTRY, elements (made_elements 2 (codes "A_OPUS"))) ∷ [])

-- the tracks that they are read as
abbrev pub made_tracks : List Track
made_tracks =
    record { no = 1; uid = 1; kind = Video; codec = codes "V_VP9"; name = []; language = codes "eng"; default = true; duration = None; encoded = false }
    ∷ record { no = 2; uid = 2; kind = Audio; codec = codes "A_OPUS"; name = []; language = codes "eng"; default = true; duration = None; encoded = false } ∷ []
