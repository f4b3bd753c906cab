-- The journals of the two selections: each record is allowed, and they tell one story.
use Rattle.std.proofs.Common.{refl}
use Rattle.mc_value.specs.declared.value.Value.{out-Value}
use Rattle.mc_journal.specs.WorkedFilms.{one}
use Rattle.mc_player.specs.Rules.{IsAllowed}
use Rattle.mc_story.specs.Story.{OneStory}
use Rattle.mc_story.specs.Worked.{film_one}
use Rattle.mc_story.specs.WorkedSelect.{called, called_twice, done, done_again, given, given_again, learnt, replied, switched, table}
use Rattle.mc_story.proofs.WorkedRun.{loaded_allowed}

called_allowed : IsAllowed table called
unfolding out-Value denote.Hole.Carrier.out
called_allowed = ((record { new = refl; same = refl }, record { due = refl; rest = refl; reply = refl }), loaded_allowed table)

twice_allowed : IsAllowed table called_twice
unfolding out-Value denote.Hole.Carrier.out
twice_allowed = ((record { new = refl; same = refl }, record { due = refl; rest = refl; reply = refl }), called_allowed)

learnt_allowed : IsAllowed table learnt
learnt_allowed = (((refl, refl), tt), ((tt, record { due = refl; rest = refl; reply = refl }), twice_allowed))

given_allowed : IsAllowed table given
unfolding out-Value denote.Hole.Carrier.out
given_allowed = (((refl, refl), tt), ((record { idle = refl; none_out = refl; begun = refl; goes_on = refl; oldest = (refl, refl, refl) }, record { due = refl; rest = refl; reply = refl }), learnt_allowed))

done_allowed : IsAllowed table done
unfolding out-Value denote.Hole.Carrier.out
done_allowed = (((refl, refl), tt), ((refl, record { due = refl; rest = refl; reply = refl }), given_allowed))

replied_allowed : IsAllowed table replied
unfolding out-Value denote.Hole.Carrier.out
replied_allowed = ((record { none_out = refl; none_left = refl; reply = record { of_client = refl; of_ticket = refl; same = refl } }, tt), done_allowed)

given_again_allowed : IsAllowed table given_again
unfolding out-Value denote.Hole.Carrier.out
given_again_allowed = (((refl, refl), tt), ((record { idle = refl; none_out = refl; begun = refl; goes_on = refl; oldest = (refl, refl, refl) }, record { due = refl; rest = refl; reply = refl }), replied_allowed))

pub done_again_allowed : IsAllowed table done_again
unfolding out-Value denote.Hole.Carrier.out
done_again_allowed = (((refl, refl), tt), ((refl, record { due = refl; rest = refl; reply = refl }), given_again_allowed))

pub selections_story : OneStory 1 one film_one switched done_again
selections_story = record { asked = refl; learned = (1, refl, refl, (0, refl, refl, tt)); loaded = (refl, refl, tt) }
