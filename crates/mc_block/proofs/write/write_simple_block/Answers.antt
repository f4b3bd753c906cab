use Rattle.std.specs.Int.{w16}
use Rattle.std.proofs.lemmas.Int.{to_z-of_z}
use Rattle.mc_block.proofs.Plain.{plain_element}
use Rattle.mc_block.proofs.Given.{on_both}
use Rattle.mc_block.proofs.write.write_simple_block.Goals as goal

pub returns-clause-reads_back : goal.returns-clause-reads_back
returns-clause-reads_back c =
    let same = to_z-of_z w16 c.args.relative c.ranges.relative in
    let kept = c.reserve.ensures.items in
    let len = c.block_len-len.ensures.value c.args.relative c.args.key in
    let head = rw (kept, len) at c.in_ok-write_head.ensures.reads_back in
    let with = rw (kept, len) at c.in_ok-write_head.ensures.ok in
    let ok = rw same at c.push_block.ensures.ok in
    let packet = rw same at c.push_block.ensures.packet in
    on_both c.push_block.result ok packet
    (λ e p. plain_element c.args.track c.args.relative c.args.key c.args.body.now c.args.out.now.items c.write_head.new.out.items
    c.push_block.new.out.items head with p e)
