use Rattle.std.proofs.Common.{◌++◌, ◌≡◌, rules}
use Rattle.std.proofs.lemmas.Result.{on_ok_weaker}
use Rattle.mc_ebml.specs.Written.{coded_octets, marked}
use Rattle.mc_ebml.proofs.ReadBack.{coded_has}
use Rattle.mc_ebml.proofs.write.write_coded.Goals as goal

pub returns-clause-reads_back : goal.returns-clause-reads_back
unfolding coded_octets
returns-clause-reads_back c =
    let before = c.args.out.now.items in
    let after = c.push_marked.new.out.items in
    on_ok_weaker c.push_marked.result
    (λ (e : after ≡ before ++ marked c.coded_width.result c.args.n). coded_has c.args.n before after c.requires (search rules))
    c.push_marked.ensures.ok
