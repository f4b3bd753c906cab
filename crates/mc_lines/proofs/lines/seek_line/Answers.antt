use Rattle.std.proofs.Common.{rules}
use mir.Val.{SFits}
use mir.Syntax.{w64}
use Rattle.std.proofs.Math.Facts.{to_z-of_z}
use Rattle.mc_lines.proofs.Drivers.{sought, sought_orders}
use Rattle.mc_lines.proofs.lines.seek_line.Goals as goal

pub returns-clause-line : goal.returns-clause-line
returns-clause-line g c octets rd s =
    let fits : SFits w64 c.args.t = search rules in
    let film = g.met.M.Machine.shows_film c.args.machine.now octets rd s in
    rw c.settled.ensures (sought rd _ c.args.t c.args.dir _ _ _ _ c.seek.result film (rw (to_z-of_z fits) at c.seek.ensures.seeks))

pub returns-clause-orders : goal.returns-clause-orders
returns-clause-orders g c =
    let fits : SFits w64 c.args.t = search rules in
    sought_orders (g.M.Machine.ahead c.args.machine.now) 0 c.args.t c.args.dir _ _ _ _ c.seek.result (rw (to_z-of_z fits) at c.seek.ensures.seeks)
