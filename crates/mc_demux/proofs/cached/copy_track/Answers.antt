use Rattle.mc_calls.specs.Cached.{held_in}
use Rattle.mc_calls.proofs.Copied.{copies_all, copies_begin, copies_one}
use Rattle.mc_calls.proofs.Nearness.{test_less}
use Rattle.mc_demux.proofs.cached.copy_track.Goals as goal

pub loop-packet-init : goal.loop-packet-init
loop-packet-init c = copies_begin c.args.cache.now c.args.track c.new-packets.result c.new-packets.ensures

pub loop-packet-smaller : goal.loop-packet-smaller
loop-packet-smaller c =
    test_less c.args.cache.now c.args.track c.loop-packet.place c.past-place.result c.in-Some.packet.now c.mark-mark.ensures.cache c.in-Some.ensures.value c.past-place.ensures

pub loop-packet-preserved : goal.loop-packet-preserved
loop-packet-preserved c =
    copies_one c.args.cache.now c.args.track c.loop-packet.place c.past-place.result c.in-Some.packet.now c.in_ok-copy.field-0 c.loop-packet.packets c.push.new.self
    (held_in c.args.track c.args.cache.now.current) c.mark-mark.ensures.cache c.in-Some.ensures.value c.past-place.ensures c.in_ok-copy.ensures c.in_ok-push.ensures.ok c.loop-packet.invariant

pub returns : goal.returns
returns c =
    copies_all c.args.cache.now c.args.track c.loop-packet.place c.loop-packet.packets (held_in c.args.track c.args.cache.now.current) c.in_default.ensures.value c.loop-packet.invariant
