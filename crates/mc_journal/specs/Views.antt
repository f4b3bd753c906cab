-- What is read off the ranges that a journal leaves: the place from which each track is read on, the next packet there, the
-- octets ahead and behind, what a look at the cache shows, and whether the demuxer is idle.
use Rattle.std.specs.Prelude.{ℕ, ◌+◌, ◌-◌, ◌/◌, ◌%◌, ◌==◌, nat_le, Bool, true, false, ◌&&◌, ◌||◌, not, if◌then◌else◌, List, [], ◌∷◌, length, map, Option, Some, None, ℤ, ◌-ℤ◌, int_lt, is_some}
use Rattle.std.specs.List.{filter, sum_by}
use Rattle.std.specs.Option.{option_map, option_map_or}
use Rattle.mc_packet.specs.declared.packet.Pos.{Pos}
use Rattle.mc_packet.specs.declared.choice.Choice.{Choice}
use Rattle.mc_packet.specs.declared.choice.Dir.{Dir}
use Rattle.mc_packet.specs.declared.walk.Ending.{Ending}
use Rattle.mc_packet.specs.declared.cache.Spans.{Spans}
use Rattle.mc_packet.specs.declared.cache.RangeView.{RangeView}
use Rattle.mc_packet.specs.declared.cache.CacheView.{CacheView}
use Rattle.mc_packet.specs.declared.cache.Limits.{Limits}
use Rattle.mc_journal.specs.declared.record.Sought.TheVariants.{Cached, Sent}
use Rattle.mc_journal.specs.declared.record.DemuxRecord.{DemuxRecord}
use Rattle.mc_journal.specs.declared.record.DemuxRecord.TheVariants.{Opened, Sought, Switched, Found, Gave, Ended}
use Rattle.mc_packet.specs.declared.packet.Packet.{Packet}
use Rattle.mc_packet.specs.Choices.{is_track, lead_of, is_empty}
use Rattle.mc_journal.specs.Choices.{meets, each_of, some_of, total_of}
use Rattle.mc_journal.specs.Films.{at, rank, first_lane, first}
use Rattle.mc_journal.specs.Ranges.{Range, held, on_span, serves, served_head, greatest_time, bounds}
use Rattle.mc_journal.specs.Readings.{selected, pending, waits, failed}
use Rattle.mc_journal.specs.Stands.{stand, ranges_of, first_that, start_given}

-- ---- heads

abbrev pub chosen_head : List Packet → Choice → Dir → ℤ → ℕ → Option Range → ℕ
chosen_head ps set dir t track None = 0
chosen_head ps set dir t track (Some r) = served_head ps set dir t r track

-- the place from which a selected track is read on. While a seek is pending, or the track waits for its start, it is open, and
-- nothing is read there
abbrev pub head : List Packet → ℕ → List DemuxRecord → ℕ
head ps track [] = 0
head ps track (Opened by set ∷ h) = 0
head ps track (Sought by set t dir Cached ∷ h) = chosen_head ps set dir t track (first_that (serves ps set dir t) (ranges_of (stand ps h)))
head ps track (Sought by set t dir Sent ∷ h) = 0
head ps track (Found by starts ∷ h) = option_map_or first_lane (start_given (selected h) starts track) (head ps track h)
head ps track (Gave by n pos time len sum sync key ∷ h) = if n == track then rank pos + 1 else head ps track h
head ps track (_ ∷ h) = head ps track h

-- the packets at or behind a place
abbrev pub from_place : ℕ → List Packet → List Packet
from_place place ps = filter (λ p. nat_le place (at p)) ps

abbrev pub next_in : List Packet → ℕ → ℕ → Option Range → Option Packet
next_in ps track place None = None
next_in ps track place (Some r) = first (from_place place (held r ps track))

-- the packet of a track that the current range holds at the head
abbrev pub next : List Packet → List DemuxRecord → ℕ → Option Packet
next ps h track = next_in ps track (head ps track h) (stand ps h).current

-- ---- octets

-- a packet's payload and 64 octets more
abbrev pub weight : Packet → ℕ
weight p = length p.body + 64

abbrev pub range_weight : List Packet → Choice → Range → ℕ
range_weight ps set r = total_of set (λ track. sum_by weight (held r ps track))

abbrev pub forward_in : List Packet → Choice → (ℕ → ℕ) → Option Range → ℕ
forward_in ps set place None = 0
forward_in ps set place (Some r) = total_of set (λ track. sum_by weight (from_place (place track) (held r ps track)))

-- of the current range's packets at or behind their head
abbrev pub forward : List Packet → List DemuxRecord → ℕ
forward ps h = forward_in ps (selected h) (λ track. head ps track h) (stand ps h).current

-- of all other cached packets
abbrev pub back : List Packet → List DemuxRecord → ℕ
back ps h = sum_by (range_weight ps (selected h)) (ranges_of (stand ps h)) - forward ps h

-- ---- what a look at the cache shows

abbrev pub pos_of : ℕ → Pos
pos_of place = record { block = place / 65536; lane = place % 65536 }

abbrev pub span_shown : Range → Option ℕ → Option (Pos × Pos)
span_shown r None = None
span_shown r (Some track) = option_map (λ s. (pos_of s.from, pos_of s.to)) (r.spans track)

abbrev pub spans_shown : Choice → Range → Spans
spans_shown set r = record { video = span_shown r set.video; audio = span_shown r set.audio; sub = span_shown r set.sub }

abbrev pub range_shown : List Packet → Choice → Range → RangeView
range_shown ps set r = record { bounds = bounds ps set r; spans = spans_shown set r }

abbrev pub ending_in : Option Range → Option Ending
ending_in None = None
ending_in (Some r) = r.ending

-- the current range begins where the film does
abbrev pub begins_in : Choice → Option Range → Bool
begins_in set None = false
begins_in set (Some r) = each_of set (λ track. on_span (r.spans track) (λ s. s.from == 0))

-- the time of the last packet given to this track since the last seek or opening, else that seek's target
abbrev pub time_of : Option ℕ → List DemuxRecord → Option ℤ
time_of lead [] = None
time_of lead (Opened by set ∷ h) = None
time_of lead (Sought by set t dir how ∷ h) = Some t
time_of lead (Gave by n pos time len sum sync key ∷ h) = if is_track lead n then Some time else time_of lead h
time_of lead (_ ∷ h) = time_of lead h

-- this track was given a packet, or its end, since then
abbrev pub plays : Option ℕ → List DemuxRecord → Bool
plays lead [] = false
plays lead (Opened by set ∷ h) = false
plays lead (Sought by set t dir how ∷ h) = false
plays lead (Gave by n pos time len sum sync key ∷ h) = is_track lead n || plays lead h
plays lead (Ended by n ending ∷ h) = is_track lead n || plays lead h
plays lead (_ ∷ h) = plays lead h

-- a track's end was told since the last opening, seek or switch
abbrev pub was_ended : List DemuxRecord → ℕ → Bool
was_ended [] track = false
was_ended (Opened by set ∷ h) track = false
was_ended (Sought by set t dir how ∷ h) track = false
was_ended (Switched by set added t ∷ h) track = false
was_ended (Ended by n ending ∷ h) track = n == track || was_ended h track
was_ended (_ ∷ h) track = was_ended h track

abbrev pub view : List Packet → List DemuxRecord → CacheView
view ps h = record {
  ranges = map (range_shown ps (selected h)) (ranges_of (stand ps h));
  forward = forward ps h;
  back = back ps h;
  bof = begins_in (selected h) (stand ps h).current;
  ending = ending_in (stand ps h).current;
  time = time_of (lead_of (selected h)) h;
  playing = plays (lead_of (selected h)) h;
  ended = not (is_empty (selected h)) && each_of (selected h) (was_ended h);
}

-- ---- whether the demuxer has something to do

-- from its head on a track has nothing, or less than is read ahead
abbrev pub wants_more : ℤ → List Packet → Bool
wants_more ahead [] = true
wants_more ahead (p ∷ ps) = int_lt (greatest_time p.time ps -ℤ p.time) ahead

abbrev pub wants_in : List Packet → ℤ → ℕ → ℕ → Option Range → Bool
wants_in ps ahead track place None = true
wants_in ps ahead track place (Some r) = wants_more ahead (from_place place (held r ps track))

abbrev pub wants : List Packet → Limits → List DemuxRecord → ℕ → Bool
wants ps limits h track = wants_in ps limits.readahead track (head ps track h) (stand ps h).current

-- video and audio are asked, a subtitle where it is alone
abbrev pub some_wants : List Packet → Limits → List DemuxRecord → Bool
some_wants ps limits h =
    let set = selected h in
    if is_some (lead_of set) then meets set.video (wants ps limits h) || meets set.audio (wants ps limits h) else meets set.sub (wants ps limits h)

-- the current range has its ending, or enough is read ahead
abbrev pub is_full : List Packet → Limits → List DemuxRecord → Bool
is_full ps limits h = is_some (ending_in (stand ps h).current) || (nat_le limits.forward (forward ps h) || not (some_wants ps limits h))

-- no start has to be found
abbrev pub is_placed : List DemuxRecord → Bool
is_placed h = not (pending h || some_of (selected h) (λ track. waits track h))

-- nothing is selected, a read failed since the last seek or switch, or all is read that is wanted
abbrev pub is_idle : List Packet → Limits → List DemuxRecord → Bool
is_idle ps limits h = is_empty (selected h) || (failed h || (is_placed h && is_full ps limits h))
