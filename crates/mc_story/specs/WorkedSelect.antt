-- A client turns the sound's track off, twice: the first time the demuxer switches, the second time
-- it has nothing to do.
use Rattle.std.specs.Prelude.{ℕ, pos, true, List, [], ◌∷◌, Some, codes}
use Rattle.mc_value.specs.declared.value.Value.TheVariants as value
use Rattle.mc_journal.specs.declared.record.DemuxRecord.{DemuxRecord}
use Rattle.mc_journal.specs.declared.record.DemuxRecord.TheVariants.{Switched}
use Rattle.mc_packet.specs.Choices.{nothing}
use Rattle.mc_journal.specs.Worked.{start}
use Rattle.mc_dispatch.specs.declared.call.Call.{Call}
use Rattle.mc_dispatch.specs.declared.call.Call.TheVariants as call
use Rattle.mc_ring.specs.declared.event.Event.TheVariants as event
use Rattle.mc_props.specs.declared.reading.Reading.TheVariants as reading
use Rattle.mc_player.specs.declared.record.Answer.TheVariants as answer
use Rattle.mc_player.specs.declared.record.Order.TheVariants as order
use Rattle.mc_player.specs.declared.record.Outcome.TheVariants as outcome
use Rattle.mc_player.specs.declared.record.CoreRecord.{CoreRecord}
use Rattle.mc_player.specs.declared.record.CoreRecord.TheVariants.{Called, Learned, Wrote, Took, Ordered, Did, Replied}
use Rattle.mc_player.specs.Lives.{Table}
use Rattle.mc_player.specs.Facts.{facts_of}
use Rattle.mc_story.specs.Worked.{alone, view_opened}
use Rattle.mc_story.specs.WorkedRun.{a, loaded_on}

-- a table of one property
abbrev pub table : Table
table = record {
  value = λ place f. reading.Is (value.Flag true);
  entries = record { name = codes "aid"; mask = 8; writable = true } ∷ [];
}

abbrev pub no_sound : ℕ → Call
no_sound id = call.Set id (codes "aid") (value.Str (codes "no"))

abbrev pub called : List CoreRecord
called = Called 6 a (Some 8) (no_sound 7) answer.Ok ∷ loaded_on table

abbrev pub called_twice : List CoreRecord
called_twice = Called 6 a (Some 9) (no_sound 8) answer.Ok ∷ called

abbrev pub learnt : List CoreRecord
learnt =
    Wrote 1 16 (facts_of table (Learned 1 view_opened ∷ called_twice))
    ∷ Learned 1 view_opened ∷ called_twice

abbrev pub given : List CoreRecord
given = Ordered 1 (order.Select alone (pos 0)) ∷ Took 1 a 8 7 ∷ learnt

abbrev pub done : List CoreRecord
done =
    Wrote 1 8 (facts_of table (Did 1 (outcome.Selected alone) ∷ given))
    ∷ Did 1 (outcome.Selected alone) ∷ given

abbrev pub replied : List CoreRecord
replied = Replied 1 a 8 (event.SetReply 7 (pos 0)) ∷ done

abbrev pub given_again : List CoreRecord
given_again = Ordered 1 (order.Select alone (pos 0)) ∷ Took 1 a 9 8 ∷ replied

abbrev pub done_again : List CoreRecord
done_again =
    Wrote 1 8 (facts_of table (Did 1 (outcome.Selected alone) ∷ given_again))
    ∷ Did 1 (outcome.Selected alone) ∷ given_again

abbrev pub switched : List DemuxRecord
switched = Switched 1 alone nothing (pos 0) ∷ start
