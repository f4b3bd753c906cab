-- What stands before a film's Clusters: the EBML header, then the Segment, and in it Info and Tracks.
use Rattle.std.specs.Prelude.{ℕ, zero, suc, ◌+◌, ◌-◌, Bool, ◌||◌, nat_lt, ◌==◌, if◌then◌else◌, List, [], ◌∷◌, length, Option, Some, None, Result, Ok, Err}
use Rattle.mc_ebml.specs.declared.read.Head.{Head}
use Rattle.mc_ebml.specs.declared.read.Size.{Size}
use Rattle.mc_ebml.specs.declared.read.Size.TheVariants.{Known, Unknown}
use Rattle.mc_ebml.specs.declared.read.EbmlError.{EbmlError}
use Rattle.mc_ebml.specs.Element.{head_at}
use Rattle.mc_ebml.specs.declared.whole.WholeElement.{WholeElement}
use Rattle.mc_tracks.specs.declared.refused.Refused.{Refused}
use Rattle.mc_tracks.specs.declared.refused.Refused.TheVariants.{NoSegment, NoInfo, NoTracks, Broken}
use Rattle.mc_tracks.specs.declared.track.Track.{Track}
use Rattle.mc_tracks.specs.Answer.{◌>>=◌}
use Rattle.mc_ebml.specs.Whole.{element_at}
use Rattle.mc_tracks.specs.Children.{first}
use Rattle.mc_tracks.specs.Header.{body_of, ebml_header_of, info_of, tracks_of}
use Rattle.mc_ebml.specs.Ids.{SEGMENT, CLUSTER, INFO, TRACKS}
use Rattle.mc_walk.specs.declared.plan.Plan.{Plan}
use Rattle.mc_walk.specs.declared.plan.Segment.{Segment}
use Rattle.mc_walk.specs.declared.plan.Header.{Header}
use Rattle.mc_walk.specs.Moves.{runs_past}
use Rattle.mc_walk.specs.Walk.{stands_at}

-- ---- the Segment (RFC 9559, section 5.1)

abbrev pub end_by : ℕ → Size → Option ℕ
end_by at Unknown = None
end_by at (Known size) = Some (at + size)

abbrev pub skipped : Option WholeElement → (ℕ → Result Segment Refused) → Result Segment Refused
skipped None on = Err NoSegment
skipped (Some c) on = on c.stop

abbrev pub segment_or : Result Head EbmlError → Option WholeElement → (ℕ → Result Segment Refused) → Result Segment Refused
segment_or (Err e) other on = Err NoSegment
segment_or (Ok h) other on =
    if h.id == SEGMENT then Ok (record { opening = h.body; end = end_by h.body h.size }) else skipped other on

-- the first Segment from a place on, behind at most so many elements, each of which stands whole
unfoldable pub segment_from : ℕ → List ℕ → ℕ → Result Segment Refused
segment_from zero octets place = Err NoSegment
segment_from (suc n) octets place =
    segment_or (head_at octets place) (element_at octets place) (λ on. segment_from n octets on)

-- an element has one octet at least
abbrev pub segment_of : List ℕ → ℕ → Result Segment Refused
segment_of octets at = segment_from (length octets) octets at

-- ---- its children before the first Cluster

abbrev pub before_cluster : Option ℕ → Option WholeElement → Option WholeElement
before_cluster end None = None
before_cluster end (Some c) = if c.id == CLUSTER || runs_past end c.stop then None else Some c

-- the child of the Segment at a place: no Cluster, and whole in the film and in the Segment
abbrev pub segment_child : List ℕ → Option ℕ → ℕ → Option WholeElement
segment_child octets end place = if stands_at end place then None else before_cluster end (element_at octets place)

abbrev pub following : Option WholeElement → (ℕ → List WholeElement) → List WholeElement
following None on = []
following (Some c) on = c ∷ on c.stop

-- those from a place on, of at most so many
unfoldable pub segment_children : ℕ → List ℕ → Option ℕ → ℕ → List WholeElement
segment_children zero octets end place = []
segment_children (suc n) octets end place =
    following (segment_child octets end place) (λ on. segment_children n octets end on)

-- the first Info, the first Tracks
abbrev pub first_child : List ℕ → Segment → ℕ → Option WholeElement
first_child octets segment id = first id (segment_children (length octets) octets segment.end segment.opening)

-- ---- Info and Tracks

-- a body of more than 2^24 octets is not read
abbrev pub is_too_large : WholeElement → Bool
is_too_large c = nat_lt 16777216 (c.stop - c.at)

abbrev pub info_in : List ℕ → WholeElement → Result ℕ Refused
info_in octets c = if is_too_large c then Err (Broken c.place) else info_of (body_of octets c) c.at

abbrev pub tracks_in : List ℕ → WholeElement → Result (List Track) Refused
tracks_in octets c = if is_too_large c then Err (Broken c.place) else tracks_of (body_of octets c) c.at

abbrev pub header : ℕ → List Track → Header
header scale tracks = record { scale = scale; tracks = tracks }

-- the one that stands first is refused first
abbrev pub info_then_tracks : List ℕ → WholeElement → WholeElement → Result Header Refused
info_then_tracks octets info tracks = do
  scale ← info_in octets info
  list ← tracks_in octets tracks
  Ok (header scale list)

abbrev pub tracks_then_info : List ℕ → WholeElement → WholeElement → Result Header Refused
tracks_then_info octets info tracks = do
  list ← tracks_in octets tracks
  scale ← info_in octets info
  Ok (header scale list)

abbrev pub without_tracks : Result ℕ Refused → Result Header Refused
without_tracks (Ok scale) = Err NoTracks
without_tracks (Err r) = Err r

abbrev pub without_info : Result (List Track) Refused → Result Header Refused
without_info (Ok list) = Err NoInfo
without_info (Err r) = Err r

-- their refusals come before those that say that one is missing
abbrev pub header_by : List ℕ → Option WholeElement → Option WholeElement → Result Header Refused
header_by octets None None = Err NoInfo
header_by octets (Some info) None = without_tracks (info_in octets info)
header_by octets None (Some tracks) = without_info (tracks_in octets tracks)
header_by octets (Some info) (Some tracks) =
    if nat_lt info.place tracks.place then info_then_tracks octets info tracks else tracks_then_info octets info tracks

unfoldable pub header_of : List ℕ → Segment → Result Header Refused
header_of octets segment = header_by octets (first_child octets segment INFO) (first_child octets segment TRACKS)

-- ---- the whole

abbrev pub plan_of : List ℕ → Segment → Header → Plan
plan_of octets segment h =
    record { octets = octets; opening = segment.opening; segment_end = segment.end; scale = h.scale; tracks = h.tracks }

-- what a walk over the film goes over, or why the film is refused
unfoldable pub opened_film : List ℕ → Result Plan Refused
opened_film octets = do
  at ← ebml_header_of octets
  segment ← segment_of octets at
  h ← header_of octets segment
  Ok (plan_of octets segment h)
