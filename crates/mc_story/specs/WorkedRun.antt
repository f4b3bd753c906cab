-- A run of a world over the first film: a client comes, the film is loaded, the client seeks, and
-- is answered.
use Rattle.std.specs.Prelude.{ℕ, pos, true, List, [], ◌∷◌, Some, None, codes}
use Rattle.mc_packet.specs.declared.choice.Dir.TheVariants.{Back}
use Rattle.mc_journal.specs.declared.record.Sought.TheVariants.{Sent}
use Rattle.mc_journal.specs.declared.record.DemuxRecord.{DemuxRecord}
use Rattle.mc_journal.specs.declared.record.DemuxRecord.TheVariants.{Sought}
use Rattle.mc_journal.specs.Worked.{both, start}
use Rattle.mc_dispatch.specs.declared.call.Call.TheVariants as call
use Rattle.mc_dispatch.specs.declared.request.ClientNo.{ClientNo}
use Rattle.mc_ring.specs.declared.event.Event.TheVariants as event
use Rattle.mc_player.specs.declared.record.Answer.TheVariants as answer
use Rattle.mc_player.specs.declared.record.Order.TheVariants as order
use Rattle.mc_player.specs.declared.record.Outcome.TheVariants as outcome
use Rattle.mc_player.specs.declared.record.CoreRecord.{CoreRecord}
use Rattle.mc_player.specs.declared.record.CoreRecord.TheVariants.{Created, Called, Learned, Wrote, Took, Ordered, Did, Pushed, Replied}
use Rattle.mc_player.specs.Lives.{Table}
use Rattle.mc_player.specs.Facts.{facts_of}
use Rattle.mc_player.specs.Orders.{opened}
use Rattle.mc_story.specs.Steps.{Both}
use Rattle.mc_story.specs.Runs.{Step}
use Rattle.mc_story.specs.Runs.Step.{Learn, Work, Carry, Done, Client}
use Rattle.mc_story.specs.Worked.{film_one, view_opened}

abbrev pub steps : List Step
steps =
    Client ∷ Learn 1 ∷ Work 1 ∷ Carry 1 ∷ Done 1
    ∷ Client ∷ Learn 1 ∷ Work 1 ∷ Carry 1 ∷ Done 1 ∷ []

abbrev pub a : ClientNo
a = record { 0 = 3 }

abbrev pub created : List CoreRecord
created = Created 6 a (codes "a") 10 ∷ []

abbrev pub learnt : Table → List CoreRecord
learnt t =
    Wrote 1 16 (facts_of t (Learned 1 view_opened ∷ created)) ∷ Learned 1 view_opened ∷ created

abbrev pub given : Table → List CoreRecord
given t = Ordered 1 order.Load ∷ learnt t

abbrev pub loading_on : Table → List CoreRecord
loading_on t = Pushed 1 a event.StartFile true ∷ Did 1 (opened film_one) ∷ given t

abbrev pub loaded_on : Table → List CoreRecord
loaded_on t =
    Pushed 1 a event.FileLoaded true ∷ Wrote 1 12 (facts_of t (loading_on t)) ∷ loading_on t

abbrev pub seek_words : List (List ℕ)
seek_words = codes "seek" ∷ codes "0.2" ∷ codes "absolute" ∷ []

abbrev pub called : Table → List CoreRecord
called t = Called 6 a (Some 8) (call.Command 7 seek_words) answer.Ok ∷ loaded_on t

abbrev pub learnt_again : Table → List CoreRecord
learnt_again t =
    Wrote 1 16 (facts_of t (Learned 1 view_opened ∷ called t)) ∷ Learned 1 view_opened ∷ called t

abbrev pub given_again : Table → List CoreRecord
given_again t = Ordered 1 (order.Seek (pos 200000000) Back) ∷ Took 1 a 8 7 ∷ learnt_again t

abbrev pub replied : Table → List CoreRecord
replied t =
    Replied 1 a 8 (event.CommandReply 7 (pos 0)) ∷ Pushed 1 a event.Seek true
    ∷ Did 1 outcome.Sought ∷ given_again t

abbrev pub sought : List DemuxRecord
sought = Sought 1 both (pos 200000000) Back Sent ∷ start

abbrev pub after_seek : Table → Both
after_seek t = record { hd = sought; hc = replied t; order = None; carried = None }
