-- The packets that the current range holds, as one list: by its queues, and by a journal over a film.
use Rattle.std.specs.Prelude.{ℕ, ◌==◌, nat_le, nat_lt, Bool, ◌&&◌, ◌||◌, List, [], ◌∷◌, ◌++◌, Option, Some, None, take, drop}
use Rattle.std.specs.List.{filter, prefix_len}
use Rattle.mc_packet.specs.declared.packet.Packet.{Packet}
use Rattle.mc_packet.specs.declared.choice.Choice.{Choice}
use Rattle.mc_packet.specs.Choices.{has}
use Rattle.mc_journal.specs.declared.record.DemuxRecord.{DemuxRecord}
use Rattle.mc_journal.specs.Films.{Film, at}
use Rattle.mc_journal.specs.Ranges.{Range, Span, on_span}
use Rattle.mc_journal.specs.Readings.{selected}
use Rattle.mc_journal.specs.Stands.{stand}
use Rattle.mc_queue.specs.Places.{place}
use Rattle.mc_range.specs.Range.{RangeState, queue_of}
use Rattle.mc_range.specs.Serving.{packets_in}
use Rattle.mc_calls.specs.State.{DemuxState}

-- ---- the order

-- a packet comes before another: by place, and on a tie by track
abbrev pub is_earlier : Packet → Packet → Bool
is_earlier p q = nat_lt (place p) (place q) || (place p == place q && nat_lt p.track q.track)

-- two lists as one: each of the first behind those of the second that come before it
abbrev pub merged : {A : Type 0} → (A → A → Bool) → List A → List A → List A
merged before [] qs = qs
merged before (p ∷ ps) qs =
    let n = prefix_len (λ q. before q p) qs in
    take n qs ++ (p ∷ merged before ps (drop n qs))

-- ---- by the queues

-- what the current range holds of a track
abbrev pub held_in : ℕ → Option RangeState → List Packet
held_in track None = []
held_in track (Some r) = packets_in (queue_of track r.queues)

-- of a kind's track, if there is one
abbrev pub held_of : Option ℕ → Option RangeState → List Packet
held_of None current = []
held_of (Some track) current = held_in track current

-- those of all selected tracks, in order
abbrev pub cached_of : DemuxState → List Packet
cached_of d =
    merged is_earlier (held_of d.set.video d.cache.current)
    (merged is_earlier (held_of d.set.audio d.cache.current) (held_of d.set.sub d.cache.current))

-- ---- by the journal

-- a place lies in a span
abbrev pub is_in : ℕ → Span → Bool
is_in place s = nat_le s.from place && nat_lt place s.to

-- of a selected track, in the track's span
abbrev pub is_cached : Choice → Range → Packet → Bool
is_cached set r p = has set p.track && on_span (r.spans p.track) (is_in (at p))

abbrev pub cached_in : List Packet → Choice → Option Range → List Packet
cached_in ps set None = []
cached_in ps set (Some r) = filter (is_cached set r) ps

-- the film's packets of the selected tracks that the current range holds, in file order
abbrev pub cached_by : Film → List DemuxRecord → List Packet
cached_by film h = cached_in film.packets (selected h) (stand film.packets h).current
