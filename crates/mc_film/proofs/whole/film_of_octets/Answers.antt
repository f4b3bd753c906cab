use Rattle.mc_film.proofs.Laws.{is-its-frames, is-its-parts}
use Rattle.mc_film.proofs.Reopening.{opens_at_mark}
use Rattle.mc_film.proofs.whole.film_of_octets.Goals as goal

pub returns-clause-frames : goal.returns-clause-frames
returns-clause-frames c = is-its-frames c.args.octets c.in_ok-plan.plan c.in_ok-read_whole.field-0 c.in_ok-plan.ensures.value c.in_ok-read_whole.ensures

pub returns-clause-parts : goal.returns-clause-parts
returns-clause-parts c = is-its-parts c.args.octets c.in_ok-plan.plan c.in_ok-read_whole.field-0 c.in_ok-plan.ensures.value c.in_ok-read_whole.ensures

pub returns-clause-opening : goal.returns-clause-opening
returns-clause-opening c = opens_at_mark c.args.octets c.in_ok-plan.plan c.in_ok-plan.ensures.value
