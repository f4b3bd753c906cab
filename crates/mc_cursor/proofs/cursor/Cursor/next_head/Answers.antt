use Rattle.std.proofs.Common.{ap}
use Rattle.mc_cursor.specs.declared.head.HeadChunk.{HeadChunk}
use Rattle.mc_cursor.proofs.Standing.{stands_after}
use Rattle.mc_cursor.proofs.Reaching.{block_is_mark}
use Rattle.mc_cursor.proofs.cursor.Cursor.next_head.Goals as goal

pub returns-clause-value : goal.returns-clause-value
returns-clause-value g c = λ octets told stands.
    let is = c.in_ok-head.ensures.value octets told stands in
    let after = stands_after octets c.args.self.now c.in_ok-head.head.to stands (ap (λ (k : HeadChunk). k.to) is) in
    (is, record { opened = after.opened; within = after.within })

pub returns-clause-marks : goal.returns-clause-marks
returns-clause-marks g c = λ octets told stands is.
    block_is_mark octets c.args.self.now c.in_ok-head.head stands (c.in_ok-head.ensures.value octets told stands) is
