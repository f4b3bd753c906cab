use Rattle.std.proofs.Common.{◌≡◌, true, false, rules}
use Rattle.mc_calls.specs.Wanting.{is_near}
use Rattle.mc_calls.proofs.Nearness.{test_on, test_off, test_end, test_less}
use Rattle.mc_demux.proofs.wanting.are_near.Goals as goal

pub returns-then-not-is_near : goal.returns-then-not-is_near
returns-then-not-is_near c =
    let off : is_near c.args.first.now.time c.args.limits.now.readahead c.in-Some.packet.now.time ≡ false = search rules in
    test_off c.args.cache.now c.args.track c.args.head c.loop-packet.place c.in-Some.packet.now (λ p. is_near c.args.first.now.time c.args.limits.now.readahead p.time)
    c.mark-mark.ensures.cache c.in-Some.ensures.value off c.loop-packet.invariant

pub loop-packet-smaller : goal.loop-packet-smaller
loop-packet-smaller c =
    test_less c.args.cache.now c.args.track c.loop-packet.place c.past-place.result c.in-Some.packet.now c.mark-mark.ensures.cache c.in-Some.ensures.value c.past-place.ensures

pub loop-packet-preserved : goal.loop-packet-preserved
loop-packet-preserved c =
    let on : is_near c.args.first.now.time c.args.limits.now.readahead c.in-Some.packet.now.time ≡ true = search rules in
    test_on c.args.cache.now c.args.track c.args.head c.loop-packet.place c.past-place.result c.in-Some.packet.now
    (λ p. is_near c.args.first.now.time c.args.limits.now.readahead p.time) c.mark-mark.ensures.cache c.in-Some.ensures.value c.past-place.ensures on c.loop-packet.invariant

pub returns : goal.returns
returns c =
    test_end c.args.cache.now c.args.track c.args.head c.loop-packet.place (λ p. is_near c.args.first.now.time c.args.limits.now.readahead p.time) c.in_default.ensures.value c.loop-packet.invariant
