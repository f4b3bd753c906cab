-- Journals that go wrong in their last record.
use Rattle.std.specs.Prelude.{pos, true, false, List, [], ◌∷◌, codes, Some, None}
use Rattle.mc_value.specs.declared.value.Format.TheVariants as formats
use Rattle.mc_value.specs.declared.value.Value.TheVariants as value
use Rattle.mc_packet.specs.Choices.{nothing}
use Rattle.mc_dispatch.specs.declared.call.Call.TheVariants as call
use Rattle.mc_dispatch.specs.declared.request.ClientNo.{ClientNo}
use Rattle.mc_ring.specs.declared.event.Event.TheVariants as event
use Rattle.mc_props.specs.First.{empty_view}
use Rattle.mc_player.specs.declared.record.Answer.TheVariants as answer
use Rattle.mc_player.specs.declared.record.Outcome.TheVariants as outcome
use Rattle.mc_player.specs.declared.record.CoreRecord.{CoreRecord}
use Rattle.mc_player.specs.declared.record.CoreRecord.TheVariants.{Created, Called, Learned, Wrote, Took, Ordered, Did, Pushed, Replied}
use Rattle.mc_player.specs.declared.record.Order.TheVariants as order
use Rattle.mc_player.specs.Worked.{a, aborts, ends, ignores, loads, observed, plays, playing, polls}

abbrev pub b : ClientNo
b = record { 0 = 4 }

-- two clients, and a request of the first
abbrev pub two : List CoreRecord
two = Called 6 a (Some 42) (ignores 1) answer.Ok ∷ Created 7 b (codes "c") 8 ∷ ends

-- another client's request is aborted
abbrev pub aborts_other : List CoreRecord
aborts_other = Called 7 b None (call.Abort 1) (answer.Removed 1) ∷ two

-- a client comes under a living one's name, and under its number
abbrev pub same_name : List CoreRecord
same_name = Created 7 b (codes "a") 8 ∷ observed

abbrev pub same_number : List CoreRecord
same_number = Created 7 a (codes "b") 8 ∷ observed

-- a change is given twice
abbrev pub changes_twice : List CoreRecord
changes_twice =
    polls (event.Change 5 (codes "pause") formats.Flag (value.Flag false)) ∷
    polls (event.Change 5 (codes "pause") formats.Flag (value.Flag false)) ∷
    Called 6 a None (call.Observe 5 (codes "pause") formats.Flag) answer.Ok ∷
    Created 6 a (codes "a") 2 ∷
    []

-- a full ring takes an event
abbrev pub fills_over : List CoreRecord
fills_over =
    Pushed 1 a event.PlaybackRestart true ∷ Wrote 1 16 plays ∷ Learned 1 playing ∷ loads

-- a view is written that was not learned, and one is learned in the midst of a call
abbrev pub writes_other : List CoreRecord
writes_other = Wrote 1 16 plays ∷ Learned 1 empty_view ∷ loads

abbrev pub learns_between : List CoreRecord
learns_between = Learned 1 playing ∷ Learned 1 empty_view ∷ loads

-- a request waits
abbrev pub asks : List CoreRecord
asks = Called 6 a (Some 22) (call.Set 3 (codes "pause") (value.Flag true)) answer.Ok ∷ aborts

-- it is replied to before it is taken
abbrev pub replies_early : List CoreRecord
replies_early = Replied 1 a 22 (event.SetReply 3 (pos 0)) ∷ asks

-- and twice
abbrev pub replies_twice : List CoreRecord
replies_twice =
    Replied 1 a 22 (event.SetReply 3 (pos 0)) ∷
    Replied 1 a 22 (event.SetReply 3 (pos 0)) ∷
    Wrote 1 1 (record {
      path = Some (codes "F1");
      tracks = [];
      set = nothing;
      pause = true;
      mute = false;
      cache = empty_view;
      loaded = true;
    }) ∷
    Took 1 a 22 3 ∷
    asks

-- it is replied to, and the player was not paused
abbrev pub skips_write : List CoreRecord
skips_write = Replied 1 a 22 (event.SetReply 3 (pos 0)) ∷ Took 1 a 22 3 ∷ asks

-- a ticket is used again
abbrev pub same_ticket : List CoreRecord
same_ticket = Called 6 a (Some 22) (ignores 4) answer.Ok ∷ asks

-- a request is taken though the player ends
abbrev pub takes_late : List CoreRecord
takes_late = Took 1 a 42 1 ∷ two

-- the file is ordered twice, and an order has another's outcome
abbrev pub loads_twice : List CoreRecord
loads_twice = Ordered 1 order.Load ∷ loads

abbrev pub other_outcome : List CoreRecord
other_outcome =
    Did 1 outcome.Sought ∷ Ordered 1 order.Load ∷ Created 6 a (codes "a") 2 ∷ []
