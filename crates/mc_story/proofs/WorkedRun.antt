-- The run is one: each step meets its condition, and each record is allowed.
use Rattle.std.proofs.Common.{◌≡◌, true, List, [], ◌∷◌, Option, Some, None, pos, refl, lit≤, lit<}
use Rattle.mc_packet.specs.declared.choice.Dir.TheVariants.{Back}
use Rattle.mc_journal.specs.declared.record.DemuxRecord.{DemuxRecord}
use Rattle.mc_journal.specs.declared.record.Sought.TheVariants.{Sent}
use Rattle.mc_journal.specs.WorkedFilms.{one, one_packets}
use Rattle.mc_journal.specs.Worked.{both, start}
use Rattle.mc_journal.specs.Used.{is_still}
use Rattle.std.specs.List.{IsDistinct}
use Rattle.mc_packet.specs.Choices.{is_known}
use Rattle.mc_tracks.specs.Selection.{knows}
use Rattle.mc_tracks.specs.TrackList.{HaveDistinctNumbers}
use Rattle.mc_dispatch.specs.declared.call.Call.TheVariants as call
use Rattle.mc_ring.specs.declared.event.Event.TheVariants as event
use Rattle.mc_player.specs.declared.record.Order.{Order}
use Rattle.mc_player.specs.declared.record.Order.TheVariants as order
use Rattle.mc_player.specs.declared.record.Outcome.{Outcome}
use Rattle.mc_player.specs.declared.record.Outcome.TheVariants as outcome
use Rattle.mc_player.specs.declared.record.CoreRecord.{CoreRecord}
use Rattle.mc_player.specs.declared.record.CoreRecord.TheVariants.{Called, Learned, Wrote, Took, Pushed, Replied}
use Rattle.mc_player.specs.Lives.{Table}
use Rattle.mc_player.specs.Facts.{facts_of}
use Rattle.mc_player.specs.Rules.{IsAllowed}
use Rattle.mc_player.specs.declared.record.Answer.TheVariants as answer
use Rattle.mc_story.specs.Runs.Step.{Learn, Work, Carry, Done, Client}
use Rattle.mc_player.specs.Orders.{opened}
use Rattle.mc_story.specs.Runs.{Runs, Stepped}
use Rattle.mc_story.specs.Steps.{Both}
use Rattle.mc_story.specs.Tie.{fresh_world}
use Rattle.mc_story.specs.Worked.{film_one, view_opened}
use Rattle.mc_story.specs.WorkedRun.{a, after_seek, called, created, given, given_again, learnt, learnt_again, loaded_on, loading_on, replied, seek_words, sought, steps}

-- ---- each record is allowed

known_film : HaveDistinctNumbers film_one.tracks × (is_known (knows film_one.tracks) film_one.set ≡ true)
unfolding IsDistinct
known_film = (((refl, tt), (tt, tt)), refl)

created_allowed : (t : Table) → IsAllowed t created
created_allowed t = ((record { number = refl; unnamed = refl; fits = record { least = lit< tt; most = lit≤ tt }; few = lit< tt }, record { due = refl; rest = refl; reply = refl }), tt)

learnt_allowed : (t : Table) → IsAllowed t (learnt t)
learnt_allowed t = (((refl, refl), tt), ((tt, record { due = refl; rest = refl; reply = refl }), created_allowed t))

given_allowed : (t : Table) → IsAllowed t (given t)
given_allowed t = (((refl, (refl, record { due = refl; rest = refl; reply = refl })), tt), learnt_allowed t)

loading_allowed : (t : Table) → IsAllowed t (loading_on t)
loading_allowed t = ((record { next = refl; fate = refl }, tt), ((known_film, record { due = refl; rest = refl; reply = refl }), given_allowed t))

pub loaded_allowed : (t : Table) → IsAllowed t (loaded_on t)
loaded_allowed t = ((record { next = refl; fate = refl }, tt), (((refl, refl), tt), loading_allowed t))

called_allowed : (t : Table) → IsAllowed t (called t)
called_allowed t = ((record { new = refl; same = refl }, record { due = refl; rest = refl; reply = refl }), loaded_allowed t)

learnt_again_allowed : (t : Table) → IsAllowed t (learnt_again t)
learnt_again_allowed t = (((refl, refl), tt), ((tt, record { due = refl; rest = refl; reply = refl }), called_allowed t))

given_again_allowed : (t : Table) → IsAllowed t (given_again t)
given_again_allowed t = (
  ((refl, refl), tt),
  ((record { idle = refl; none_out = refl; begun = refl; goes_on = refl; oldest = (refl, refl, refl) }, record { due = refl; rest = refl; reply = refl }), learnt_again_allowed t),
)

replied_allowed : (t : Table) → IsAllowed t (replied t)
replied_allowed t = (
  (record { none_out = refl; none_left = refl; reply = record { of_client = refl; of_ticket = refl; same = refl } }, tt),
  ((record { next = refl; fate = refl }, tt), ((tt, record { due = refl; rest = refl; reply = refl }), given_again_allowed t)),
)

start_still : is_still one_packets start ≡ true
start_still = refl

sought_still : is_still one_packets sought ≡ true
sought_still = refl

-- ---- each step

at : List DemuxRecord → List CoreRecord → Option Order → Option Outcome → Both
at d c o x = record { hd = d; hc = c; order = o; carried = x }

ease : List DemuxRecord → List CoreRecord → Both
ease d c = record { hd = d; hc = c; order = None; carried = None }

create : (t : Table) → Stepped one film_one t Client (ease start []) (ease start created)
unfolding ease
create t = record {
  at_rest = start_still;
  allowed = created_allowed t;
  is = record { demux = refl; adds = record { extras = created; are = (refl, tt); grows = refl }; order = refl; carried = refl };
}

learn : (t : Table) → Stepped one film_one t (Learn 1) (ease start created) (ease start (learnt t))
unfolding ease
learn t = record {
  at_rest = start_still;
  allowed = learnt_allowed t;
  is = record { demux = refl; adds = record { extras = Wrote 1 16 (facts_of t (Learned 1 view_opened ∷ created)) ∷ []; are = (refl, tt); grows = refl }; order = refl; carried = refl };
}

work : (t : Table) → Stepped one film_one t (Work 1) (ease start (learnt t)) (at start (given t) (Some order.Load) None)
unfolding ease at
work t = record { at_rest = start_still; allowed = given_allowed t; is = record { free = refl; demux = refl; works = refl; carried = refl } }

carry : (t : Table) → Stepped one film_one t (Carry 1) (at start (given t) (Some order.Load) None) (at start (given t) (Some order.Load) (Some (opened film_one)))
unfolding at
carry t = record {
  at_rest = start_still;
  allowed = given_allowed t;
  is = record { order = order.Load; outcome = opened film_one; is_out = refl; once = refl; carries = (refl, refl); still = refl; same_order = refl; is_carried = refl };
}

done : (t : Table) → Stepped one film_one t (Done 1) (at start (given t) (Some order.Load) (Some (opened film_one))) (ease start (loaded_on t))
unfolding ease at
done t = record {
  at_rest = start_still;
  allowed = loaded_allowed t;
  is = record {
    order = order.Load;
    outcome = opened film_one;
    is_out = refl;
    was_carried = refl;
    demux = refl;
    adds = record {
      extras = Pushed 1 a event.FileLoaded true ∷ Wrote 1 12 (facts_of t (loading_on t)) ∷ Pushed 1 a event.StartFile true ∷ [];
      are = (refl, (refl, (refl, tt)));
      grows = refl;
    };
    free = refl;
    fresh = refl;
  };
}

call_seek : (t : Table) → Stepped one film_one t Client (ease start (loaded_on t)) (ease start (called t))
unfolding ease
call_seek t = record {
  at_rest = start_still;
  allowed = called_allowed t;
  is = record {
    demux = refl;
    adds = record { extras = Called 6 a (Some 8) (call.Command 7 seek_words) answer.Ok ∷ []; are = (refl, tt); grows = refl };
    order = refl;
    carried = refl;
  };
}

learn_again : (t : Table) → Stepped one film_one t (Learn 1) (ease start (called t)) (ease start (learnt_again t))
unfolding ease
learn_again t = record {
  at_rest = start_still;
  allowed = learnt_again_allowed t;
  is = record { demux = refl; adds = record { extras = Wrote 1 16 (facts_of t (Learned 1 view_opened ∷ called t)) ∷ []; are = (refl, tt); grows = refl }; order = refl; carried = refl };
}

work_seek : (t : Table) → Stepped one film_one t (Work 1) (ease start (learnt_again t)) (at start (given_again t) (Some (order.Seek (pos 200000000) Back)) None)
unfolding ease at
work_seek t = record {
  at_rest = start_still;
  allowed = given_again_allowed t;
  is = record { free = refl; demux = refl; works = (Took 1 a 8 7 ∷ learnt_again t, (a, 8, 7, record { extras = []; are = tt; grows = refl }), refl); carried = refl };
}

carry_seek : (t : Table) → Stepped one film_one t (Carry 1) (at start (given_again t) (Some (order.Seek (pos 200000000) Back)) None)
    (at sought (given_again t) (Some (order.Seek (pos 200000000) Back)) (Some outcome.Sought))
unfolding at
carry_seek t = record {
  at_rest = start_still;
  allowed = given_again_allowed t;
  is = record {
    order = order.Seek (pos 200000000) Back;
    outcome = outcome.Sought;
    is_out = refl;
    once = refl;
    carries = (Sent, record { extras = []; are = tt; grows = refl });
    still = refl;
    same_order = refl;
    is_carried = refl;
  };
}

done_seek : (t : Table) → Stepped one film_one t (Done 1) (at sought (given_again t) (Some (order.Seek (pos 200000000) Back)) (Some outcome.Sought)) (ease sought (replied t))
unfolding ease at
done_seek t = record {
  at_rest = sought_still;
  allowed = replied_allowed t;
  is = record {
    order = order.Seek (pos 200000000) Back;
    outcome = outcome.Sought;
    is_out = refl;
    was_carried = refl;
    demux = refl;
    adds = record { extras = Replied 1 a 8 (event.CommandReply 7 (pos 0)) ∷ Pushed 1 a event.Seek true ∷ []; are = (refl, (refl, tt)); grows = refl };
    free = refl;
    fresh = refl;
  };
}

pub seek_run : (t : Table) → Runs one film_one t steps (fresh_world 0 both) (after_seek t)
unfolding ease at
seek_run t = (
  ease start created,
  create t,
  (
    ease start (learnt t),
    learn t,
    (
      at start (given t) (Some order.Load) None,
      work t,
      (
        at start (given t) (Some order.Load) (Some (opened film_one)),
        carry t,
        (
          ease start (loaded_on t),
          done t,
          (
            ease start (called t),
            call_seek t,
            (
              ease start (learnt_again t),
              learn_again t,
              (
                at start (given_again t) (Some (order.Seek (pos 200000000) Back)) None,
                work_seek t,
                (
                  at sought (given_again t) (Some (order.Seek (pos 200000000) Back)) (Some outcome.Sought),
                  carry_seek t,
                  (ease sought (replied t), done_seek t, refl),
                ),
              ),
            ),
          ),
        ),
      ),
    ),
  ),
)
