use Rattle.std.proofs.Common.{ℕ, List, ◌≡◌, length, rules}
use Rattle.std.proofs.lemmas.Result.{on_ok_weaker}
use Rattle.mc_ebml.specs.Written.{HasElement}
use Rattle.mc_ebml.proofs.ReadBack.{text_has}
use Rattle.mc_ebml.proofs.write.write_text.Goals as goal

pub returns-clause-reads_back : goal.returns-clause-reads_back
returns-clause-reads_back c =
    let octets = c.as_bytes.result.now in
    let before = c.args.out.now.items in
    let after = c.write_element.new.out.items in
    let is : octets ≡ c.args.text.now = search rules in
    on_ok_weaker c.write_element.result
    (λ (has : HasElement before after c.args.id (length octets) (λ (body : List ℕ). body ≡ octets)).
    text_has c.args.id before after octets c.args.text.now is c.utf8.text c.requires.text has)
    c.write_element.ensures.reads_back
