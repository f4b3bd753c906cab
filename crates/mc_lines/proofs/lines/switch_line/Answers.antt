use Rattle.std.proofs.Common.{rules, ap, ◌≡◌, ◌∙◌}
use Rattle.std.specs.Prelude.{unwrap_or}
use mir.Val.{SFits}
use mir.Syntax.{w64}
use Rattle.std.proofs.Math.Facts.{to_z-of_z}
use Rattle.mc_lines.specs.Calls.{Ahead}
use Rattle.mc_lines.proofs.Drivers.{switched, switched_orders}
use Rattle.mc_lines.proofs.lines.switch_line.Goals as goal

pub returns-clause-line : goal.returns-clause-line
returns-clause-line g c octets rd s =
    let film = g.met.M.Machine.shows_film c.args.machine.now octets rd s in
    let time : SFits w64 c.time.result = search rules in
    let fits : SFits w64 c.unwrap_or-at.result = search rules in
    let at : c.unwrap_or-at.result ≡ unwrap_or c.args.at (rd.time (g.M.Machine.journal c.args.machine.now)) =
    (rw (to_z-of_z time, c.time.ensures) at c.unwrap_or-at.ensures) ∙ ap (λ (x : Ahead). unwrap_or c.args.at x.time) film in
    rw c.settled.ensures (switched rd _ c.args.set.now c.args.at c.unwrap_or-at.result _ _ _ _ c.select.result film at (rw (to_z-of_z fits) at c.select.ensures.selects))

pub returns-clause-orders : goal.returns-clause-orders
returns-clause-orders g c =
    let fits : SFits w64 c.unwrap_or-at.result = search rules in
    switched_orders (g.M.Machine.ahead c.args.machine.now) 0 c.args.set.now c.unwrap_or-at.result _ _ _ _ c.select.result (rw (to_z-of_z fits) at c.select.ensures.selects)
