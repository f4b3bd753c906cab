use Rattle.std.proofs.Common.{arith}
use Rattle.mc_cursor.specs.Standing.{plan_for}
use Rattle.mc_cursor.proofs.Stepping.{content_kept, step_value, reach_value}
use Rattle.mc_cursor.proofs.Turning.{step_reach}
use Rattle.mc_cursor.proofs.cursor.Cursor.step.Goals as goal

pub returns-in_err-found-clause-reach : goal.returns-in_err-found-clause-reach
returns-in_err-found-clause-reach g c = λ octets told le.
    step_reach (plan_for octets c.args.self.now) c.args.place c.args.level (g.S.Shelf.reach c.args.shelf.now) (g.S.Shelf.reach c.read_found.new.shelf) le
    (omega (arith, c.read_found.ensures.kept.within))

pub returns-clause-value : goal.returns-clause-value
returns-clause-value g c =
    step_value _ _ c.args.self.now c.args.place c.args.level c.in_ok-found.found c.next_turn-turn.result c.follow.result
    (content_kept _ _ _ _ _ _ _ c.args.self.now.file.0 c.read_found.ensures.kept) c.next_turn-turn.ensures.value c.in_ok-found.ensures.value c.follow.ensures.value c.follow.ensures.begins

pub returns-clause-reach : goal.returns-clause-reach
returns-clause-reach g c =
    reach_value _ c.args.self.now c.args.place c.args.level c.in_ok-found.found c.next_turn-turn.result (g.S.Shelf.reach c.args.shelf.now)
    (g.S.Shelf.reach c.read_found.new.shelf) (g.S.Shelf.reach c.follow.new.shelf) c.next_turn-turn.ensures.value c.in_ok-found.ensures.value
    c.read_found.ensures.kept.within c.follow.ensures.kept.within
