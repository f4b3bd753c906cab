use Rattle.std.proofs.Common.{sym}
use Rattle.mc_lines.proofs.Choosing.{gives, tells}
use Rattle.mc_lines.proofs.next.next_of.Goals as goal

pub returns-in-Packet : goal.returns-in-Packet
returns-in-Packet g c =
    gives (g.M.Machine.ahead c.args.machine.now) c.args.left.now _ _ _ c.in-Packet.kind c.in-Packet.track c.in-Packet.pos c.look-video.ensures c.look-audio.ensures c.look-sub.ensures (sym (rw c.better.ensures at c.in-Packet.ensures))

pub returns-in-Finish : goal.returns-in-Finish
returns-in-Finish g c =
    tells (g.M.Machine.ahead c.args.machine.now) c.args.left.now _ _ _ c.in-Finish.kind c.in-Finish.track c.look-video.ensures c.look-audio.ensures c.look-sub.ensures (sym (rw c.better.ensures at c.in-Finish.ensures))
