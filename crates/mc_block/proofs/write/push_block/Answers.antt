use Rattle.std.proofs.Common.{ℕ, List, ◌++◌, ◌≡◌}
use Rattle.std.proofs.lemmas.Result.{on_ok_weaker}
use Rattle.mc_block.proofs.Plain.{at_front, plain_packet}
use Rattle.mc_block.proofs.write.push_block.Goals as goal

pub returns-clause-packet : goal.returns-clause-packet
returns-clause-packet c =
    let coded = c.in_ok-write_coded.ensures in
    let before = c.reserve.new.self.items in
    let after = c.write_coded.new.out.items in
    on_ok_weaker c.push_octets-2.result
    (λ (e : c.push_octets-2.new.out.items ≡ c.push_octets.new.out.items ++ c.args.body.now).
    plain_packet c.args.track c.args.relative c.args.key c.args.body.now c.ranges.relative
    (λ (rest : List ℕ). at_front c.args.track before after rest coded.reads_back coded.ok))
    c.push_octets-2.ensures.ok
