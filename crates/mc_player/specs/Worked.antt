-- A journal, worked out by hand: a client observes `pause` and loads the file; its ring of two is
-- full, and it aborts two requests; it sets `pause`, and seeks; it goes while its seek is out, and
-- another one comes under its number, which ends the player.
use Rattle.std.specs.Prelude.{ℕ, pos, neg_ℤ, true, false, List, [], ◌∷◌, codes, Some, None}
use Rattle.mc_value.specs.declared.value.Format.TheVariants as formats
use Rattle.mc_value.specs.declared.value.Value.TheVariants as value
use Rattle.mc_packet.specs.Choices.{nothing}
use Rattle.mc_packet.specs.declared.cache.CacheView.{CacheView}
use Rattle.mc_packet.specs.declared.choice.Dir.TheVariants.{Back}
use Rattle.mc_dispatch.specs.declared.call.Call.{Call}
use Rattle.mc_dispatch.specs.declared.call.Call.TheVariants as call
use Rattle.mc_dispatch.specs.declared.request.ClientNo.{ClientNo}
use Rattle.mc_ring.specs.declared.event.Event.{Event}
use Rattle.mc_ring.specs.declared.event.Event.TheVariants as event
use Rattle.mc_props.specs.First.{empty_view, first_facts}
use Rattle.mc_props.specs.declared.facts.Facts.{Facts}
use Rattle.mc_props.specs.declared.reading.Reading.TheVariants as reading
use Rattle.mc_player.specs.declared.record.Answer.TheVariants as answer
use Rattle.mc_player.specs.declared.record.Order.TheVariants as order
use Rattle.mc_player.specs.declared.record.Outcome.TheVariants as outcome
use Rattle.mc_player.specs.declared.record.CoreRecord.{CoreRecord}
use Rattle.mc_player.specs.declared.record.CoreRecord.TheVariants.{Created, Destroyed, Called, Learned, Wrote, Took, Ordered, Did, Pushed, Replied}
use Rattle.mc_player.specs.Lives.{Table}

-- the one property is whether the player is paused
abbrev pub table : Table
table = record {
  value = λ place f. reading.Is (value.Flag f.pause);
  entries = record { name = codes "pause"; mask = 1; writable = true } ∷ [];
}

abbrev pub a : ClientNo
a = record { 0 = 3 }

-- the view of a cache that plays
abbrev pub playing : CacheView
playing = record {
  ranges = [];
  forward = 65;
  back = 0;
  bof = true;
  ending = None;
  time = Some (pos 0);
  playing = true;
  ended = false;
}

abbrev pub polls : Event → CoreRecord
polls e = Called 6 a None call.Poll (answer.Event e)

abbrev pub ignores : ℕ → Call
ignores id = call.Command id (codes "ignore" ∷ [])

-- ---- the file is loaded

abbrev pub observed : List CoreRecord
observed =
    polls event.None ∷
    polls (event.Change 5 (codes "pause") formats.Flag (value.Flag false)) ∷
    Called 6 a None (call.Observe 5 (codes "pause") formats.Flag) answer.Ok ∷
    Created 6 a (codes "a") 2 ∷
    []

abbrev pub loaded : Facts
loaded = record {
  path = Some (codes "F1");
  tracks = [];
  set = nothing;
  pause = false;
  mute = false;
  cache = empty_view;
  loaded = true;
}

abbrev pub loads : List CoreRecord
loads =
    Pushed 1 a event.FileLoaded true ∷
    Wrote 1 12 loaded ∷
    Pushed 1 a event.StartFile true ∷
    Did 1 (outcome.Loaded (codes "F1") [] nothing) ∷
    Ordered 1 order.Load ∷
    Wrote 1 16 first_facts ∷
    Learned 1 empty_view ∷
    observed

-- ---- the ring is full, and two requests are aborted

abbrev pub refuses : List CoreRecord
refuses =
    polls event.FileLoaded ∷
    polls event.StartFile ∷
    Called 6 a None (call.Get 1 (codes "pause") formats.None) (answer.Refused (neg_ℤ (pos 4))) ∷
    Called 6 a None (ignores 1) (answer.Refused (neg_ℤ (pos 1))) ∷
    loads

abbrev pub aborts : List CoreRecord
aborts =
    polls (event.CommandReply 1 (neg_ℤ (pos 20))) ∷
    polls (event.CommandReply 1 (neg_ℤ (pos 20))) ∷
    Replied 6 a 16 (event.CommandReply 1 (neg_ℤ (pos 20))) ∷
    Replied 6 a 15 (event.CommandReply 1 (neg_ℤ (pos 20))) ∷
    Called 6 a None (call.Abort 1) (answer.Removed 2) ∷
    Called 6 a (Some 16) (ignores 1) answer.Ok ∷
    Called 6 a (Some 15) (ignores 1) answer.Ok ∷
    refuses

-- ---- it is paused

abbrev pub plays : Facts
plays = record {
  path = Some (codes "F1");
  tracks = [];
  set = nothing;
  pause = false;
  mute = false;
  cache = playing;
  loaded = true;
}

abbrev pub paused : Facts
paused = record {
  path = Some (codes "F1");
  tracks = [];
  set = nothing;
  pause = true;
  mute = false;
  cache = playing;
  loaded = true;
}

abbrev pub pauses : List CoreRecord
pauses =
    polls (event.Change 5 (codes "pause") formats.Flag (value.Flag true)) ∷
    polls (event.SetReply 3 (pos 0)) ∷
    polls event.PlaybackRestart ∷
    Replied 1 a 22 (event.SetReply 3 (pos 0)) ∷
    Wrote 1 1 paused ∷
    Took 1 a 22 3 ∷
    Pushed 1 a event.PlaybackRestart true ∷
    Wrote 1 16 plays ∷
    Learned 1 playing ∷
    Called 6 a (Some 22) (call.Set 3 (codes "pause") (value.Flag true)) answer.Ok ∷
    aborts

-- ---- it goes while its seek is out, and another one gets its number

abbrev pub orphans : List CoreRecord
orphans =
    polls event.None ∷
    polls event.Seek ∷
    Pushed 1 a event.Seek true ∷
    Did 1 outcome.Sought ∷
    Created 7 a (codes "b") 1 ∷
    Destroyed 6 a ∷
    Ordered 1 (order.Seek (pos 200000000) Back) ∷
    Took 1 a 32 4 ∷
    Called 6 a (Some 32) (call.Command 4 (codes "seek" ∷ codes "0.2" ∷ codes "absolute" ∷ []))
    answer.Ok ∷
    pauses

-- ---- it ends the player, and is told of an overflow

abbrev pub ends : List CoreRecord
ends =
    polls event.None ∷
    polls event.Overflow ∷
    polls (event.CommandReply 9 (pos 0)) ∷
    Replied 1 a 41 (event.CommandReply 9 (pos 0)) ∷
    Pushed 1 a event.Shutdown false ∷
    Pushed 1 a (event.EndFile 3) false ∷
    Took 1 a 41 9 ∷
    Called 7 a (Some 41) (call.Command 9 (codes "quit" ∷ [])) answer.Ok ∷
    orphans
