use Rattle.std.proofs.Common.{sym, refl, ◌≡◌, ◌∙◌, Some}
use Rattle.std.specs.Prelude.{Ok}
use Rattle.mc_journal.specs.Callers.{reader}
use Rattle.mc_journal.specs.Drives.{selection}
use Rattle.mc_packet.specs.Choices.{track_of}
use Rattle.mc_lines.proofs.Asking.{last, next, read_orders, start, track_read}
use Rattle.mc_lines.proofs.Filming.{read_on}
use Rattle.mc_lines.proofs.Growing.{orders_none, orders_on}
use Rattle.mc_lines.proofs.reads.read_line.Goals as goal

pub loop-init : goal.loop-init
loop-init g c = record { played = λ octets rd s. (s, start rd c.args.kind c.args.count _); orders = orders_none _ _ _ _ refl refl; fixed = refl }

pub returns-then-not-is_packet-clause-line : goal.returns-then-not-is_packet-clause-line
returns-then-not-is_packet-clause-line g c octets rd s =
    let inv = c.loop.invariant.played octets rd s in
    let stands = c.read.ensures.stands octets rd inv.0 in
    let first = g.met.M.Machine.shows_film c.args.machine.now octets rd s in
    let old_film = g.met.M.Machine.shows_film c.loop.machine octets rd inv.0 in
    let track : track_of (selection (g.M.Machine.journal c.args.machine.now)) c.args.kind ≡ Some c.in-Some.track = track_read _ rd _ _ _ c.args.kind first c.selection.ensures c.in-Some.ensures in
    let read = read_on rd _ _ (reader c.args.kind) c.in-Some.track _ _ (Ok c.in-Ok.reading) old_film c.reader-by.ensures.number c.in-Ok.ensures.reads in
    last rd c.args.kind c.args.count _ _ _ c.loop.counter c.in-Some.track c.in-Ok.reading inv.1 track c.loop-test.true read (c.in-Ok.ensures.film octets rd inv.0) (sym c.if-not-is_packet.ensures)

pub returns-then-not-is_packet-clause-orders : goal.returns-then-not-is_packet-clause-orders
returns-then-not-is_packet-clause-orders g c =
    orders_on _ _ _ _ _ _ c.loop.invariant.orders (read_orders (g.M.Machine.ahead c.loop.machine) _ _ _ _ _ _ c.read.result c.read.ensures.jobs c.read.ensures.reads) c.read.ensures.jobs

pub loop-preserved : goal.loop-preserved
loop-preserved g c = record {
  played = λ octets rd s.
      let inv = c.loop.invariant.played octets rd s in
      let stands = c.read.ensures.stands octets rd inv.0 in
      let first = g.met.M.Machine.shows_film c.args.machine.now octets rd s in
      let old_film = g.met.M.Machine.shows_film c.loop.machine octets rd inv.0 in
      let track : track_of (selection (g.M.Machine.journal c.args.machine.now)) c.args.kind ≡ Some c.in-Some.track = track_read _ rd _ _ _ c.args.kind first c.selection.ensures c.in-Some.ensures in
      let read = read_on rd _ _ (reader c.args.kind) c.in-Some.track _ _ (Ok c.in-Ok.reading) old_film c.reader-by.ensures.number c.in-Ok.ensures.reads in
      (stands, next rd c.args.kind c.args.count _ _ _ c.loop.counter c.in-Some.track c.in-Ok.reading inv.1 track c.loop-test.true read (c.in-Ok.ensures.film octets rd inv.0) (sym c.if-not-is_packet.ensures));
  orders = orders_on _ _ _ _ _ _ c.loop.invariant.orders (read_orders (g.M.Machine.ahead c.loop.machine) _ _ _ _ _ _ c.read.result c.read.ensures.jobs c.read.ensures.reads) c.read.ensures.jobs;
  fixed = c.read.ensures.fixed ∙ c.loop.invariant.fixed;
}
