use Rattle.std.proofs.Common.{arith, ◌≡◌, false, List, [], ◌∷◌, ◌++◌, ap, sym, ◌∙◌, inr}
use Rattle.std.proofs.lemmas.Bool.{le-ltb}
use Rattle.mc_queue.specs.declared.kept.Kept.{Kept}
use Rattle.mc_queue.specs.Blocks.{is_open}
use Rattle.mc_queue.proofs.Filling.{open_last}
use Rattle.mc_queue.proofs.blocks.add_to.Goals as goal

pub push_back_reserved-requires-in-Some-2-2 : goal.push_back_reserved-requires-in-Some-2-2
push_back_reserved-requires-in-Some-2-2 c =
    let f = c.if-last-lt-FULL.false in
    let o : is_open c.args.kept.now.items ≡ false = ap (λ ks. is_open ks) c.in-Some.ensures.items ∙ open_last c.pop_back.new.self.items c.in-Some.last ∙ le-ltb c.in-Some.last.count 256 (omega arith) in
    let r = c.requires.room o in
    let a = c.in-Some-2.ensures.cases in
    let b = c.push_back_reserved-in-Some-2.ensures.len in
    let d = c.push_back_reserved-in-Some-2.ensures.capacity in
    let e = c.in-Some-2.ensures.capacity in
    omega arith

pub returns-in-Some-2-clause-items : goal.returns-in-Some-2-clause-items
returns-in-Some-2-clause-items c =
    let f = c.if-last-lt-FULL.false in
    let o : is_open c.args.kept.now.items ≡ false = ap (λ ks. is_open ks) c.in-Some.ensures.items ∙ open_last c.pop_back.new.self.items c.in-Some.last ∙ le-ltb c.in-Some.last.count 256 (omega arith) in
    inr (o, c.push_back_reserved-in-Some-2-2.ensures.items ∙ ap (λ (ks : List Kept). ks ++ c.of_one.result ∷ []) (c.push_back_reserved-in-Some-2.ensures.items ∙ sym c.in-Some.ensures.items) ∙ ap (λ (k : Kept). c.args.kept.now.items ++ k ∷ []) c.of_one.ensures)
