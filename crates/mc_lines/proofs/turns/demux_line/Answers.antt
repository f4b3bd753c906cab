use Rattle.std.proofs.Common.{refl, ◌∙◌, arith}
use Rattle.std.specs.Prelude.{Ok, true}
use Rattle.mc_lines.specs.Calls.{at}
use Rattle.mc_lines.proofs.Growing.{grows_none, grows_on}
use Rattle.mc_lines.proofs.Turning.{next, start, told_still, turn_grows}
use Rattle.mc_lines.proofs.Filming.{turns_on}
use Rattle.mc_lines.proofs.turns.demux_line.Goals as goal

pub loop-init : goal.loop-init
loop-init g c = record {
  played = λ octets rd told s. (s, start rd c.args.count _);
  grows = grows_none _ _ _ _ (omega arith) refl;
  fixed = refl;
  files = refl;
  opened = refl;
}

pub returns-in_err-turn-clause-grows : goal.returns-in_err-turn-clause-grows
returns-in_err-turn-clause-grows g c =
    grows_on _ _ _ _ _ _ c.loop.invariant.grows (turn_grows (g.M.Machine.ahead c.loop.machine) _ _ _ _ c.turn.result c.turn.ensures.later c.turn.ensures.turns)

pub returns-then-not-branch-clause-grows : goal.returns-then-not-branch-clause-grows
returns-then-not-branch-clause-grows g c =
    grows_on _ _ _ _ _ _ c.loop.invariant.grows (turn_grows (g.M.Machine.ahead c.loop.machine) _ _ _ _ c.turn.result c.turn.ensures.later c.turn.ensures.turns)

pub loop-preserved : goal.loop-preserved
loop-preserved g c =
    let inv = c.loop.invariant in
    record {
      played = λ octets rd told s.
          let now = inv.played octets rd told s in
          let film = g.met.M.Machine.shows_film c.loop.machine octets rd now.0 in
          let here = told_still _ _ _ _ _ _ octets inv.files inv.opened inv.fixed told in (
            c.turn.ensures.stands octets rd here now.0,
            next rd (at rd (g.M.Machine.journal c.loop.machine)) c.args.count _ _ _ _ _ c.loop.counter now.1 c.loop-test.true
                (turns_on rd (g.M.Machine.ahead c.loop.machine) _ _ _ _ (Ok true) film (rw c.if-not-branch.false at c.in_ok-turn.ensures.turns)),
          );
      grows = grows_on _ _ _ _ _ _ inv.grows (turn_grows (g.M.Machine.ahead c.loop.machine) _ _ _ _ c.turn.result c.turn.ensures.later c.turn.ensures.turns);
      fixed = c.turn.ensures.fixed ∙ inv.fixed;
      files = c.turn.ensures.files ∙ inv.files;
      opened = c.turn.ensures.opened ∙ inv.opened;
    }
