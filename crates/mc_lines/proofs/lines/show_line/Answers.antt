use Rattle.mc_lines.proofs.Drivers.{shown, shown_orders}
use Rattle.mc_lines.proofs.lines.show_line.Goals as goal

pub returns-clause-line : goal.returns-clause-line
returns-clause-line g c octets rd s = rw c.settled.ensures (shown rd _ _ _ _ c.show.result c.show.ensures.shows)

pub returns-clause-orders : goal.returns-clause-orders
returns-clause-orders g c = shown_orders _ _ _ _ _ c.show.result c.show.ensures.shows
