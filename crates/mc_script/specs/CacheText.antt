-- The lines of the records of the cache: seeks, switches, drops, looks.
use Rattle.std.specs.Prelude.{ℕ, ℤ, nat_le, Bool, if◌then◌else◌, List, [], ◌∷◌, ◌++◌, length, Option, Some, None, is_some, codes, decimal}
use Rattle.std.specs.Fmt.{signed_decimal}
use Rattle.std.specs.List.{flat_map}
use Rattle.mc_packet.specs.declared.packet.Pos.{Pos}
use Rattle.mc_packet.specs.declared.choice.Choice.{Choice}
use Rattle.mc_packet.specs.declared.choice.Kind.{Kind}
use Rattle.mc_packet.specs.declared.choice.Kind.TheVariants.{Video, Audio, Sub}
use Rattle.mc_packet.specs.declared.choice.Dir.{Dir}
use Rattle.mc_packet.specs.declared.choice.Dir.TheVariants.{Back, Forward}
use Rattle.mc_packet.specs.declared.choice.Why.{Why}
use Rattle.mc_packet.specs.declared.choice.Why.TheVariants as whys
use Rattle.mc_packet.specs.declared.cache.Spans.{Spans}
use Rattle.mc_packet.specs.declared.cache.RangeView.{RangeView}
use Rattle.mc_packet.specs.declared.cache.CacheView.{CacheView}
use Rattle.mc_journal.specs.declared.record.Sought.{Sought}
use Rattle.mc_journal.specs.declared.record.Sought.TheVariants.{Cached, Sent}
use Rattle.mc_journal.specs.declared.record.Cause.{Cause}
use Rattle.mc_journal.specs.declared.record.Cause.TheVariants.{Limit, TooMany, TrackChanged, Mismatch}
use Rattle.mc_packet.specs.Choices.{is_empty}
use Rattle.mc_script.specs.Text.{joined}

-- ---- tracks by rising number

abbrev pub of_kind : Choice → Kind → Option ℕ
of_kind set Video = set.video
of_kind set Audio = set.audio
of_kind set Sub = set.sub

abbrev pub number_or : Option ℕ → ℕ
number_or None = 0
number_or (Some n) = n

-- the kinds in the order of their tracks' numbers; one without a track may stand anywhere
abbrev pub order_by : ℕ → ℕ → ℕ → List Kind
order_by v a s =
    if nat_le v a
    then (if nat_le a s then Video ∷ Audio ∷ Sub ∷ [] else (if nat_le v s then Video ∷ Sub ∷ Audio ∷ [] else Sub ∷ Video ∷ Audio ∷ []))
    else (if nat_le v s then Audio ∷ Video ∷ Sub ∷ [] else (if nat_le a s then Audio ∷ Sub ∷ Video ∷ [] else Sub ∷ Audio ∷ Video ∷ []))

abbrev pub order_of : Choice → List Kind
order_of set = order_by (number_or set.video) (number_or set.audio) (number_or set.sub)

-- ---- a seek

abbrev pub answer_text : Dir → Sought → List ℕ
answer_text Back Cached = codes "cached"
answer_text Back Sent = codes "sent"
answer_text Forward Cached = codes "forward cached"
answer_text Forward Sent = codes "forward sent"

abbrev pub seek_text : ℤ → List ℕ → List ℕ
seek_text t answer = joined (codes "seek " ∷ signed_decimal t ∷ codes " " ∷ answer ∷ codes "\n" ∷ [])

-- ---- a switch

abbrev pub number_text : Option ℕ → List ℕ
number_text None = []
number_text (Some n) = joined (codes " " ∷ decimal n ∷ [])

abbrev pub numbers_text : Choice → List ℕ
numbers_text set = if is_empty set then codes " none" else flat_map (λ kind. number_text (of_kind set kind)) (order_of set)

abbrev pub time_text : ℤ → List ℕ
time_text t = joined (codes " at " ∷ signed_decimal t ∷ codes "\n" ∷ [])

abbrev pub switch_text : Choice → ℤ → List ℕ
switch_text set t = (codes "switch" ++ numbers_text set) ++ time_text t

-- ---- a drop

abbrev pub pos_text : Pos → List ℕ
pos_text p = joined (decimal p.block ∷ codes "." ∷ decimal p.lane ∷ [])

abbrev pub moment_text : Option ℤ → List ℕ
moment_text None = codes " none"
moment_text (Some t) = joined (codes " " ∷ signed_decimal t ∷ [])

abbrev pub limit_text : ℕ → ℕ → List ℕ
limit_text back max = joined (codes " limit " ∷ decimal back ∷ codes " " ∷ decimal max ∷ [])

abbrev pub count_text : ℕ → List ℕ
count_text count = joined (codes " many " ∷ decimal count ∷ [])

abbrev pub mismatch_text : Pos → Option ℤ → Option ℤ → List ℕ
mismatch_text p ours other = ((codes " mismatch " ++ pos_text p) ++ moment_text ours) ++ moment_text other

abbrev pub cause_text : Cause → List ℕ
cause_text (Limit back max) = limit_text back max
cause_text (TooMany count) = count_text count
cause_text TrackChanged = codes " track"
cause_text (Mismatch p ours other) = mismatch_text p ours other

abbrev pub dropped_text : ℕ → List ℕ
dropped_text track = joined (codes "drop " ∷ decimal track ∷ codes " from " ∷ [])

abbrev pub drop_text : ℕ → Pos → Pos → Cause → List ℕ
drop_text track from to cause = ((((dropped_text track ++ pos_text from) ++ codes " to ") ++ pos_text to) ++ cause_text cause) ++ codes "\n"

-- ---- a full cache

abbrev pub overfull_text : ℕ → ℕ → ℕ → List ℕ
overfull_text track forward max = joined (codes "overfull " ∷ decimal track ∷ codes " " ∷ decimal forward ∷ codes " " ∷ decimal max ∷ codes "\n" ∷ [])

-- ---- a look

abbrev pub yes_text : Bool → List ℕ
yes_text is = if is then codes "yes" else codes "no"

abbrev pub sums_text : ℕ → ℕ → ℕ → List ℕ
sums_text count forward back = joined (codes "view ranges " ∷ decimal count ∷ codes " forward " ∷ decimal forward ∷ codes " back " ∷ decimal back ∷ [])

abbrev pub ends_text : List ℕ → List ℕ
ends_text word = joined (codes " ending " ∷ word ∷ codes "\n" ∷ [])

abbrev pub bounds_text : Option (ℤ × ℤ) → List ℕ
bounds_text None = codes "range none none"
bounds_text (Some (low, high)) = joined (codes "range " ∷ signed_decimal low ∷ codes " " ∷ signed_decimal high ∷ [])

abbrev pub span_of : Spans → Kind → Option (Pos × Pos)
span_of spans Video = spans.video
span_of spans Audio = spans.audio
span_of spans Sub = spans.sub

abbrev pub queue_text : Option ℕ → Option (Pos × Pos) → List ℕ
queue_text None span = []
queue_text (Some track) None = []
queue_text (Some track) (Some (from, to)) = ((number_text (Some track) ++ codes " ") ++ pos_text from) ++ (codes " " ++ pos_text to)

-- a range, with the spans of these tracks, by rising number
abbrev pub range_text : Choice → RangeView → List ℕ
range_text set r = (bounds_text r.bounds ++ flat_map (λ kind. queue_text (of_kind set kind) (span_of r.spans kind)) (order_of set)) ++ codes "\n"

abbrev pub view_text : Choice → CacheView → List ℕ
view_text set view =
    (sums_text (length view.ranges) view.forward view.back ++ ends_text (yes_text (is_some view.ending))) ++ flat_map (range_text set) view.ranges

-- ---- a refusal

abbrev pub numbered_text : List ℕ → ℕ → List ℕ
numbered_text why track = joined (codes "refused " ∷ why ∷ codes " " ∷ decimal track ∷ codes "\n" ∷ [])

abbrev pub refused_text : Why → List ℕ
refused_text whys.NoTrack = codes "refused no-track\n"
refused_text (whys.UnknownTrack track) = numbered_text (codes "unknown-track") track
refused_text (whys.Unsupported track) = numbered_text (codes "unsupported") track
refused_text (whys.TwoOfKind track) = numbered_text (codes "two-of-kind") track
