-- The ranges that a journal leaves, rule by rule. They hold no packets: a range is a span for each track, over the film.
use Rattle.std.specs.Prelude.{ℕ, ◌==◌, nat_le, nat_lt, min, max, Bool, not, if◌then◌else◌, List, [], ◌∷◌, Option, Some, None, is_some, take}
use Rattle.std.specs.List.{filter}
use Rattle.std.specs.Option.{option_map, option_map_or}
use Rattle.mc_packet.specs.declared.choice.Choice.{Choice}
use Rattle.mc_packet.specs.declared.choice.Starts.{Starts}
use Rattle.mc_packet.specs.declared.walk.Ending.{Ending}
use Rattle.mc_journal.specs.declared.record.Cause.{Cause}
use Rattle.mc_journal.specs.declared.record.Cause.TheVariants.{Limit}
use Rattle.mc_journal.specs.declared.record.Sought.TheVariants.{Cached, Sent}
use Rattle.mc_journal.specs.declared.record.DemuxRecord.{DemuxRecord}
use Rattle.mc_journal.specs.declared.record.DemuxRecord.TheVariants.{Opened, Sought, Switched, Found, Fed, Dropped, Joined}
use Rattle.mc_packet.specs.declared.packet.Packet.{Packet}
use Rattle.mc_packet.specs.Choices.{or_else, is_track, has, is_empty}
use Rattle.mc_journal.specs.Choices.{each_of}
use Rattle.mc_journal.specs.Films.{rank, first_lane, first}
use Rattle.mc_journal.specs.Ranges.{Span, Range, held, serves, touches}
use Rattle.mc_journal.specs.Readings.{selected}

-- the current range, if there is one, and the others in order of last use
pub record Stand : Type 0 where
  pub current : Option Range
  pub others : List Range

-- all of them, the current one first
abbrev pub ranges_of : Stand → List Range
ranges_of st = option_map_or (λ r. r ∷ st.others) st.current st.others

abbrev pub first_that : (Range → Bool) → List Range → Option Range
first_that test [] = None
first_that test (r ∷ rs) = if test r then Some r else first_that test rs

-- all but that one
abbrev pub without_first : (Range → Bool) → List Range → List Range
without_first test [] = []
without_first test (r ∷ rs) = if test r then rs else r ∷ without_first test rs

-- ---- opened: one current range, which begins and ends at 0

abbrev pub empty_span : ℕ → Span
empty_span place = record { from = place; to = place }

abbrev pub opened : Choice → Stand
opened set = record {
  current = Some (record { spans = λ track. if has set track then Some (empty_span 0) else None; mark = 0; ending = None });
  others = [];
}

-- ---- sought: the first range that serves comes to the front, or none is current

abbrev pub chosen : (Range → Bool) → Stand → Stand
chosen test st = record { current = first_that test (ranges_of st); others = without_first test (ranges_of st) }

abbrev pub left : Stand → Stand
left st = record { current = None; others = ranges_of st }

-- ---- switched: only the current range stays, with the spans of these tracks; without any track nothing

abbrev pub keep_tracks : Choice → Range → Range
keep_tracks set r = record { spans = λ track. if has set track then r.spans track else None; mark = r.mark; ending = r.ending }

abbrev pub switched : Choice → Stand → Stand
switched set st = record { current = if is_empty set then None else option_map (keep_tracks set) st.current; others = [] }

-- ---- found: a new current range, or the empty spans are added to the one that stands

-- the start that was found for a track
abbrev pub start_given : Choice → Starts → ℕ → Option ℕ
start_given set starts track =
    if is_track set.video track then starts.video
    else (if is_track set.audio track then starts.audio
    else (if is_track set.sub track then starts.sub else None))

abbrev pub span_given : Choice → Starts → ℕ → Option Span
span_given set starts track = option_map (λ block. empty_span (first_lane block)) (start_given set starts track)

abbrev pub new_range : Choice → Starts → Range
new_range set starts = record { spans = span_given set starts; mark = starts.mark.pos; ending = None }

-- where the answered mark is less the range goes back to it, and forgets the film's ending
abbrev pub add_spans : Choice → Starts → Range → Range
add_spans set starts r = record {
  spans = λ track. or_else (span_given set starts track) (r.spans track);
  mark = min starts.mark.pos r.mark;
  ending = if nat_lt starts.mark.pos r.mark then None else r.ending;
}

-- an eleventh range goes, the last one
abbrev pub found_with : Choice → Starts → List Range → Option Range → Stand
found_with set starts others None = record { current = Some (new_range set starts); others = take 9 others }
found_with set starts others (Some r) = record { current = Some (add_spans set starts r); others = others }

abbrev pub found : Choice → Starts → Stand → Stand
found set starts st = found_with set starts st.others st.current

-- ---- fed: the film was read on to a place

abbrev pub grown : ℕ → Span → Span
grown place s = if nat_le s.to place then record { from = s.from; to = place } else s

abbrev pub fed_range : ℕ → Option Ending → Range → Range
fed_range block ending r = record {
  spans = λ track. option_map (grown (first_lane block)) (r.spans track);
  mark = block;
  ending = or_else ending r.ending;
}

abbrev pub fed : ℕ → Option Ending → Stand → Stand
fed block ending st = record { current = option_map (fed_range block ending) st.current; others = st.others }

-- ---- joined: the first other range that touches the current one is united with it

abbrev pub union_span : Option Span → Option Span → Option Span
union_span (Some a) (Some b) = Some (record { from = min a.from b.from; to = max a.to b.to })
union_span (Some a) None = None
union_span None b = None

-- the ending is that of the range whose mark is greater, else the other's
abbrev pub union_range : Range → Range → Range
union_range r q = record {
  spans = λ track. union_span (r.spans track) (q.spans track);
  mark = max r.mark q.mark;
  ending = if nat_lt r.mark q.mark then or_else q.ending r.ending else or_else r.ending q.ending;
}

abbrev pub join_with : List Range → Range → Option Range → List Range → Stand
join_with others r None rest = record { current = Some r; others = others }
join_with others r (Some q) rest = record { current = Some (union_range r q); others = rest }

abbrev pub join_current : Choice → List Range → Option Range → Stand
join_current set others None = record { current = None; others = others }
join_current set others (Some r) = join_with others r (first_that (touches set r) others) (without_first (touches set r) others)

abbrev pub joined : Choice → Stand → Stand
joined set st = join_current set st.others st.current

-- ---- dropped by the limit: in the last range that isn't current, else in the current one, the track's span begins here

abbrev pub cut_span : ℕ → Span → Span
cut_span place s = record { from = place; to = s.to }

abbrev pub cut_range : ℕ → ℕ → Range → Range
cut_range track place r = record {
  spans = λ k. if k == track then option_map (cut_span place) (r.spans k) else r.spans k;
  mark = r.mark;
  ending = r.ending;
}

abbrev pub cut_last : ℕ → ℕ → Range → List Range → List Range
cut_last track place r [] = cut_range track place r ∷ []
cut_last track place r (q ∷ rs) = r ∷ cut_last track place q rs

abbrev pub cut_in : ℕ → ℕ → Option Range → List Range → Stand
cut_in track place current [] = record { current = option_map (cut_range track place) current; others = [] }
cut_in track place current (r ∷ rs) = record { current = current; others = cut_last track place r rs }

abbrev pub dropped : ℕ → ℕ → Cause → Stand → Stand
dropped track place (Limit back max) st = cut_in track place st.current st.others
dropped track place _ st = st

-- ---- the ranges after a record, of those before it and the set before it

abbrev pub after : List Packet → Choice → Stand → DemuxRecord → Stand
after ps set st (Opened by chosen_set) = opened chosen_set
after ps set st (Sought by chosen_set t dir Cached) = chosen (serves ps chosen_set dir t) st
after ps set st (Sought by chosen_set t dir Sent) = left st
after ps set st (Switched by chosen_set added t) = switched chosen_set st
after ps set st (Found by starts) = found set starts st
after ps set st (Fed by from to took ending) = fed to.pos ending st
after ps set st (Dropped by removal) = dropped removal.track (rank removal.to) removal.cause st
after ps set st (Joined by) = joined set st
after ps set st _ = st

-- the range holds a packet of a selected track
abbrev pub holds_any : List Packet → Choice → Range → Bool
holds_any ps set r = not (each_of set (λ track. not (is_some (first (held r ps track)))))

-- a range that isn't current and holds no packet goes
abbrev pub tidied : List Packet → Choice → Stand → Stand
tidied ps set st = record { current = st.current; others = filter (holds_any ps set) st.others }

abbrev pub stand : List Packet → List DemuxRecord → Stand
stand ps [] = record { current = None; others = [] }
stand ps (r ∷ h) = tidied ps (selected (r ∷ h)) (after ps (selected h) (stand ps h) r)
