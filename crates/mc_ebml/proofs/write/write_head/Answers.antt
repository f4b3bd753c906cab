use Rattle.std.proofs.Common.{◌++◌, ◌≡◌, arith}
use Rattle.std.proofs.lemmas.Result.{on_ok_weaker}
use Rattle.std.proofs.lemmas.Grind.{common_steps}
use Rattle.mc_ebml.specs.Written.{head_octets, size_octets}
use Rattle.mc_ebml.proofs.ReadBack.{head_has}
use Rattle.mc_ebml.proofs.write.write_head.Goals as goal

pub returns-clause-reads_back : goal.returns-clause-reads_back
unfolding head_octets
returns-clause-reads_back c =
    let before = c.args.out.now.items in
    let after = c.push_size.new.out.items in
    on_ok_weaker c.push_size.result
    (λ (e : after ≡ c.push_number.new.out.items ++ size_octets c.args.size). head_has c.args.id c.args.size before after c.requires.id c.requires.size (grind (arith, common_steps)))
    c.push_size.ensures.ok
