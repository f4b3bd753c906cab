-- What a range of the cache holds, which seeks it serves, which other range it touches, and its bounds.
use Rattle.std.specs.Prelude.{◌≡◌, ◌<◌, ◌≤◌, IfSome, true, ℕ, ◌==◌, nat_le, nat_lt, Bool, false, ◌&&◌, ◌||◌, if◌then◌else◌, List, [], ◌∷◌, Option, Some, None, ℤ, int_le, int_lt, is_some}
use Rattle.std.specs.List.{filter, AllByRecursion}
use Rattle.mc_packet.specs.declared.choice.Choice.{Choice}
use Rattle.mc_packet.specs.declared.choice.Dir.{Dir}
use Rattle.mc_packet.specs.declared.choice.Dir.TheVariants.{Back, Forward}
use Rattle.mc_packet.specs.declared.walk.Ending.{Ending}
use Rattle.mc_packet.specs.declared.packet.Packet.{Packet}
use Rattle.mc_packet.specs.Choices.{lead_of, passes}
use Rattle.mc_journal.specs.Choices.{each_of}
use Rattle.mc_journal.specs.Films.{at, first_lane, first, last, last_upto, first_from, track_of, syncs, time_or, block_of, video_sync, audio_sync, audio_dir, start_with, least_of}

-- from one place to before another
pub record Span : Type 0 where
  pub from : ℕ
  pub to : ℕ

-- a span for each track that has one, the offset up to which the film was read, and the film's ending where it was reached
pub record Range : Type 0 where
  pub spans : ℕ → Option Span
  pub mark : ℕ
  pub ending : Option Ending

-- with the ending the whole film lies before the range's mark, and each span reaches the mark
pub record IsWhole (ps : List Packet) (r : Range) : Type 0 where
  pub ended : is_some r.ending ≡ true → AllByRecursion (λ p. at p < first_lane r.mark) ps
  pub marked : (track : ℕ) → IfSome (r.spans track) (λ s. first_lane r.mark ≤ s.to)

-- what lies from one place to before another
abbrev pub within : ℕ → ℕ → List Packet → List Packet
within from to ps = filter (λ p. nat_le from (at p) && nat_lt (at p) to) ps

abbrev pub in_span : Option Span → List Packet → List Packet
in_span None ps = []
in_span (Some s) ps = within s.from s.to ps

-- a range holds a film's packets of each track inside its span
abbrev pub held : Range → List Packet → ℕ → List Packet
held r ps track = in_span (r.spans track) (track_of track ps)

abbrev pub held_syncs : Range → List Packet → ℕ → List Packet
held_syncs r ps track = in_span (r.spans track) (syncs track ps)

-- a test of the span of a track, where there is one
abbrev pub on_span : Option Span → (Span → Bool) → Bool
on_span None test = false
on_span (Some s) test = test s

-- ---- which seeks a range serves

-- one has a time of at least t
abbrev pub any_from : ℤ → List Packet → Bool
any_from t [] = false
any_from t (p ∷ ps) = int_le t p.time || any_from t ps

-- one has a time below t
abbrev pub any_below : ℤ → List Packet → Bool
any_below t [] = false
any_below t (p ∷ ps) = int_lt p.time t || any_below t ps

-- its time is t, where it is at least t
abbrev pub is_upto : ℤ → Option Packet → Bool
is_upto t None = false
is_upto t (Some p) = int_le p.time t

-- a queue that begins at from, with these sync points, shows which is the last one at or before t: one at or after t is
-- cached too, or the film's ending; and where none is at or before t nothing lies before the queue
abbrev pub served_back : ℕ → Bool → ℤ → List Packet → Bool
served_back from ended t ps =
    if is_some (last_upto t ps) then any_from t ps || ended else from == 0 && (is_some (first ps) || ended)

-- it shows which is the first one at or after t: that one is at t, or one below t is cached too, or nothing lies before the
-- queue; and where none is at or after t the film's ending is cached
abbrev pub served_forward : ℕ → Bool → ℤ → List Packet → Bool
served_forward from ended t ps =
    if is_some (first_from t ps) then is_upto t (first_from t ps) || (any_below t ps || from == 0) else ended && (is_some (last ps) || from == 0)

abbrev pub served : Dir → ℕ → Bool → ℤ → List Packet → Bool
served Back from ended t ps = served_back from ended t ps
served Forward from ended t ps = served_forward from ended t ps

abbrev pub served_track : Range → List Packet → Dir → ℤ → ℕ → Bool
served_track r ps dir t track = on_span (r.spans track) (λ s. served dir s.from (is_some r.ending) t (held_syncs r ps track))

-- a subtitle starts at the least of the others' places, which has to lie in its span; alone, at 0
abbrev pub served_sub : Range → List Packet → Choice → Dir → ℤ → ℕ → Bool
served_sub r ps set dir t track =
    let place = first_lane (least_of set.video set.audio (block_of (video_sync (held_syncs r ps) set dir t)) (block_of (audio_sync (held_syncs r ps) set dir t))) in
    on_span (r.spans track) (λ s. if is_some (lead_of set) then nat_le s.from place && nat_le place s.to else s.from == 0)

-- the range serves a seek of the set to t
abbrev pub serves : List Packet → Choice → Dir → ℤ → Range → Bool
serves ps set dir t r =
    passes set.video (served_track r ps dir t)
    && (passes set.audio (served_track r ps (audio_dir set.video dir) (time_or t (video_sync (held_syncs r ps) set dir t)))
    && passes set.sub (served_sub r ps set dir t))

-- the place from which each track is read on after such a seek
abbrev pub served_head : List Packet → Choice → Dir → ℤ → Range → ℕ → ℕ
served_head ps set dir t r track = first_lane (start_with (held_syncs r ps) set dir t track)

-- ---- two ranges that touch

-- for each selected track both have a span, and each begins where the other reaches or before
abbrev pub touches : Choice → Range → Range → Bool
touches set r q = each_of set (λ track. on_span (r.spans track) (λ a. on_span (q.spans track) (λ b. nat_le a.from b.to && nat_le b.from a.to)))

-- ---- the bounds of a range

abbrev pub held_by_lead : Range → List Packet → Option ℕ → List Packet
held_by_lead r ps None = []
held_by_lead r ps (Some track) = held r ps track

abbrev pub syncs_of_lead : Range → List Packet → Option ℕ → List Packet
syncs_of_lead r ps None = []
syncs_of_lead r ps (Some track) = held_syncs r ps track

abbrev pub least_time : ℤ → List Packet → ℤ
least_time t [] = t
least_time t (p ∷ ps) = least_time (if int_le p.time t then p.time else t) ps

abbrev pub greatest_time : ℤ → List Packet → ℤ
greatest_time t [] = t
greatest_time t (p ∷ ps) = greatest_time (if int_le t p.time then p.time else t) ps

-- the lead's sync points to whose times the range serves a seek back
abbrev pub served_points : List Packet → Choice → Range → List Packet
served_points ps set r = filter (λ p. serves ps set Back p.time r) (syncs_of_lead r ps (lead_of set))

abbrev pub bounds_by : List Packet → List Packet → Bool → Option (ℤ × ℤ)
bounds_by [] all ended = None
bounds_by (p ∷ points) all ended = Some (least_time p.time points, greatest_time p.time (if ended then all else points))

-- the least and the greatest such time; with the film's ending, up to the lead's greatest time
abbrev pub bounds : List Packet → Choice → Range → Option (ℤ × ℤ)
bounds ps set r = bounds_by (served_points ps set r) (held_by_lead r ps (lead_of set)) (is_some r.ending)
