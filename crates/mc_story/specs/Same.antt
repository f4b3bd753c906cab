-- Whether what one caller asked a demuxer is what a player ordered. Journals and items have the
-- newest first.
use Rattle.std.specs.Prelude.{ℕ, ◌==◌, Bool, true, false, ◌&&◌, ◌||◌, if◌then◌else◌, List, [], ◌∷◌, Option, Some, None, ℤ}
use Rattle.std.specs.Ordering.{int_eq}
use Rattle.mc_packet.specs.declared.choice.Choice.{Choice}
use Rattle.mc_packet.specs.declared.choice.Dir.{Dir}
use Rattle.mc_packet.specs.declared.choice.Dir.TheVariants.{Back, Forward}
use Rattle.mc_packet.specs.declared.choice.Why.TheVariants.{NoTrack}
use Rattle.mc_journal.specs.declared.record.DemuxRecord.{DemuxRecord}
use Rattle.mc_journal.specs.declared.record.DemuxRecord.TheVariants.{Sought, Switched, Refused}
use Rattle.mc_journal.specs.Readings.{selected, is_asked}
use Rattle.mc_player.specs.declared.record.Order.{Order}
use Rattle.mc_player.specs.declared.record.Order.TheVariants as order
use Rattle.mc_player.specs.declared.record.Outcome.{Outcome}
use Rattle.mc_player.specs.declared.record.Outcome.TheVariants as outcome
use Rattle.mc_player.specs.declared.record.CoreRecord.{CoreRecord}
use Rattle.mc_player.specs.Journals.{out}
use Rattle.mc_player.specs.Orders.{Item, ordered, with_out}

-- ---- whether a record is an order's

abbrev pub same_track : Option ℕ → Option ℕ → Bool
same_track None None = true
same_track (Some a) (Some b) = a == b
same_track a b = false

abbrev pub same_set : Choice → Choice → Bool
same_set a b = same_track a.video b.video && (same_track a.audio b.audio && same_track a.sub b.sub)

abbrev pub same_dir : Dir → Dir → Bool
same_dir Back Back = true
same_dir Forward Forward = true
same_dir a b = false

abbrev pub is_seek : Order → Bool
is_seek (order.Seek t dir) = true
is_seek o = false

abbrev pub is_seek_to : ℤ → Dir → Order → Bool
is_seek_to t dir (order.Seek u d) = int_eq t u && same_dir dir d
is_seek_to t dir o = false

abbrev pub is_selection : Choice → Order → Bool
is_selection set (order.Select s at) = same_set set s
is_selection set o = false

abbrev pub is_selection_at : Choice → ℤ → Order → Bool
is_selection_at set at (order.Select s u) = same_set set s && int_eq at u
is_selection_at set at o = false

-- the outcome isn't told yet, or it is such
abbrev pub may_be : (Outcome → Bool) → Option Outcome → Bool
may_be test None = true
may_be test (Some x) = test x

abbrev pub was_sought : Outcome → Bool
was_sought outcome.Sought = true
was_sought x = false

abbrev pub was_selected : Choice → Outcome → Bool
was_selected set (outcome.Selected s) = same_set set s
was_selected set x = false

abbrev pub was_refused : Outcome → Bool
was_refused (outcome.Refused NoTrack) = true
was_refused x = false

-- the record is what the demuxer wrote when this order was carried
abbrev pub is_of : Item → DemuxRecord → Bool
is_of i (Sought by set t dir how) = is_seek_to t dir i.order && may_be was_sought i.outcome
is_of i (Switched by set added at) =
    is_selection_at set at i.order && may_be (was_selected set) i.outcome
is_of i (Refused by NoTrack) = is_seek i.order && may_be was_refused i.outcome
is_of i r = false

-- a selection of the set that is selected already, which writes nothing
abbrev pub is_silent : Choice → Item → Bool
is_silent set i = is_selection set i.order && may_be (was_selected set) i.outcome

-- ---- all of them

abbrev pub are_none : List Item → Bool
are_none [] = true
are_none (i ∷ is) = false

-- after any number of silent ones the rest passes
abbrev pub behind_silent : Choice → (List Item → Bool) → List Item → Bool
behind_silent set test [] = test []
behind_silent set test (i ∷ is) = test (i ∷ is) || (is_silent set i && behind_silent set test is)

-- the first one is the record's, and the rest passes
abbrev pub first_is : DemuxRecord → (List Item → Bool) → List Item → Bool
first_is r test [] = false
first_is r test (i ∷ is) = is_of i r && test is

-- what caller n asked is these items, one by one; a silent one may stand wherever its set is
-- selected, once the film is opened
abbrev pub same : ℕ → List DemuxRecord → List Item → Bool
same n [] = are_none
same n (r ∷ h) =
    behind_silent (selected (r ∷ h)) (if is_asked n h r then first_is r (same n h) else same n h)

-- caller n of the demuxer is the player: it asked what the orders with their outcomes are; or these
-- and the order that is out, whose outcome the demuxer's journal may have first
abbrev pub same_story : ℕ → List DemuxRecord → List CoreRecord → Bool
same_story n hd hc = same n hd (ordered hc) || same n hd (with_out (out hc) None (ordered hc))
