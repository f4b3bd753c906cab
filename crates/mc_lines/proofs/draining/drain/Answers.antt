use Rattle.std.proofs.Common.{refl, ◌∙◌, arith}
use Rattle.std.specs.Prelude.{Ok, true}
use Rattle.mc_journal.specs.Callers.{reader}
use Rattle.mc_lines.specs.declared.next.Next.TheVariants as nexts
use Rattle.mc_lines.proofs.Drained.{gave, one_grows, start_on, told, turned}
use Rattle.mc_lines.proofs.Filming.{next_on, turns_on}
use Rattle.mc_lines.proofs.Growing.{grows_none, grows_on}
use Rattle.mc_lines.proofs.Turning.{told_still, turn_grows}
use Rattle.mc_lines.proofs.draining.drain.Goals as goal

pub loop-left-init : goal.loop-left-init
loop-left-init g c = record {
  played = λ octets rd told s. (s, start_on rd (g.M.Machine.ahead c.args.machine.now) _ _ (g.met.M.Machine.shows_film c.args.machine.now octets rd s) c.selection-left.ensures);
  grows = grows_none _ _ _ _ (omega arith) refl;
  fixed = refl;
  files = refl;
  opened = refl;
}

pub loop-left-preserved-in_ok-read_one-in-Give : goal.loop-left-preserved-in_ok-read_one-in-Give
loop-left-preserved-in_ok-read_one-in-Give g c =
    let inv = c.loop-left.invariant in
    let kind = c.in-Give.kind in
    let track = c.in-Give.track in
    record {
      played = λ octets rd told s.
          let now = inv.played octets rd told s in
          let stands = c.read_one.ensures.stands octets rd now.0 in
          let old_film = g.met.M.Machine.shows_film c.loop-left.machine octets rd now.0 in
          let next = next_on rd (g.M.Machine.ahead c.loop-left.machine) _ c.loop-left.left (nexts.Give kind track) old_film c.in-Give.ensures in
          let one = c.in_ok-read_one-in-Give.ensures.film octets rd now.0 in
          (stands, gave rd _ _ _ c.loop-left.left kind track one.0 now.1 next one.1 one.2);
      grows = grows_on _ _ _ _ _ _ inv.grows (one_grows (g.M.Machine.ahead c.loop-left.machine) (reader kind) track _ _ _ c.read_one.result c.read_one.ensures.reads);
      fixed = c.read_one.ensures.fixed ∙ inv.fixed;
      files = inv.files;
      opened = inv.opened;
    }

pub loop-left-preserved-in-Tell : goal.loop-left-preserved-in-Tell
loop-left-preserved-in-Tell g c =
    let inv = c.loop-left.invariant in
    let kind = c.in-Tell.kind in
    let track = c.in-Tell.track in
    record {
      played = λ octets rd said s.
          let now = inv.played octets rd said s in
          let stands = c.read_one-in-Tell.ensures.stands octets rd now.0 in
          let old_film = g.met.M.Machine.shows_film c.loop-left.machine octets rd now.0 in
          let next = next_on rd (g.M.Machine.ahead c.loop-left.machine) _ c.loop-left.left (nexts.Tell kind track) old_film c.in-Tell.ensures in
          let one = c.in_ok-read_one-in-Tell.ensures.film octets rd now.0 in
          (stands, rw c.without-left.ensures (told rd _ _ _ c.loop-left.left kind track one.0 now.1 next one.1));
      grows = grows_on _ _ _ _ _ _ inv.grows (one_grows (g.M.Machine.ahead c.loop-left.machine) (reader kind) track _ _ _ c.read_one-in-Tell.result c.read_one-in-Tell.ensures.reads);
      fixed = c.read_one-in-Tell.ensures.fixed ∙ inv.fixed;
      files = inv.files;
      opened = inv.opened;
    }

pub returns-in_err-turn-in-Turn-clause-grows : goal.returns-in_err-turn-in-Turn-clause-grows
returns-in_err-turn-in-Turn-clause-grows g c =
    grows_on _ _ _ _ _ _ c.loop-left.invariant.grows (turn_grows (g.M.Machine.ahead c.loop-left.machine) _ _ _ _ c.turn.result c.turn.ensures.later c.turn.ensures.turns)

pub returns-then-not-branch-clause-grows : goal.returns-then-not-branch-clause-grows
returns-then-not-branch-clause-grows g c =
    grows_on _ _ _ _ _ _ c.loop-left.invariant.grows (turn_grows (g.M.Machine.ahead c.loop-left.machine) _ _ _ _ c.turn.result c.turn.ensures.later c.turn.ensures.turns)

pub loop-left-preserved : goal.loop-left-preserved
loop-left-preserved g c =
    let inv = c.loop-left.invariant in
    record {
      played = λ octets rd said s.
          let now = inv.played octets rd said s in
          let film = g.met.M.Machine.shows_film c.loop-left.machine octets rd now.0 in
          let here = told_still _ _ _ _ _ _ octets inv.files inv.opened inv.fixed said in
          let turn = turns_on rd (g.M.Machine.ahead c.loop-left.machine) _ _ _ _ (Ok true) film (rw c.if-not-branch.false at c.in_ok-turn-in-Turn.ensures.turns) in
          let next = next_on rd (g.M.Machine.ahead c.loop-left.machine) _ c.loop-left.left nexts.Turn film c.in-Turn.ensures in
          (c.turn.ensures.stands octets rd here now.0, turned rd _ _ _ _ _ c.loop-left.left now.1 next turn);
      grows = grows_on _ _ _ _ _ _ inv.grows (turn_grows (g.M.Machine.ahead c.loop-left.machine) _ _ _ _ c.turn.result c.turn.ensures.later c.turn.ensures.turns);
      fixed = c.turn.ensures.fixed ∙ inv.fixed;
      files = c.turn.ensures.files ∙ inv.files;
      opened = c.turn.ensures.opened ∙ inv.opened;
    }
