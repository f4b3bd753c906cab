use Rattle.std.proofs.Common.{ℕ, List, ◌≡◌, length, arith, take}
use Rattle.std.proofs.lemmas.Grind.{common_steps}
use Rattle.std.proofs.lemmas.Result.{on_ok_weaker}
use Rattle.byteorder.specs.Endian.{big_bytes}
use Rattle.mc_ebml.specs.Written.{HasElement, octets_of}
use Rattle.mc_ebml.proofs.ReadBack.{uint_has}
use Rattle.mc_ebml.proofs.write.write_uint.Goals as goal

pub returns-clause-reads_back : goal.returns-clause-reads_back
returns-clause-reads_back c =
    let n = c.args.n in
    let octets = take c.octets_of-width.result c.write_uint.new.buf in
    let before = c.args.out.now.items in
    let after = c.write_element.new.out.items in
    let is : octets ≡ big_bytes (octets_of n) n = grind (arith, common_steps) in
    on_ok_weaker c.write_element.result
    (λ (has : HasElement before after c.args.id (length octets) (λ (body : List ℕ). body ≡ octets)).
    uint_has c.args.id n before after octets is (omega arith) has)
    c.write_element.ensures.reads_back
