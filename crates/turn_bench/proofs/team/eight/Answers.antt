use Rattle.std.proofs.Common.{rules, ◌≡◌, true, ap, sym, ◌∙◌}
use Rattle.turn_bench.proofs.Teams.{both_teamed, false_true}
use Rattle.turn_bench.proofs.team.eight.Goals.{then-first_done, else-first_done}
use Rattle.turn_bench.proofs.team.eight.Goals as goal

pub returns : goal.returns
returns g c = let split = c.split-other.ensures in
    let all : c.if-first_done.result ≡ true → (c.join-one.result.0.1 ≡ true) × (c.join-one.result.1.1 ≡ true) =
    elim c.if-first_done.branch [ then-first_done w ↦ λ e. (search rules, sym w.result-is ∙ e) | else-first_done w ↦ λ e. absurd (false_true (sym w.if-first_done.false ∙ (sym w.result-is ∙ e))) ] in record {
      teamed = both_teamed c.args.count c.join-one.result.0.1 c.join-one.result.1.1 c.if-first_done.result c.args.pass c.split-other.new.pass c.split-other.result c.join-one.result.0.0 c.join-one.result.1.0 c.join.new.pass all
          (ap (λ k. k.seen) split.kept) (ap (λ k. k.seen) split.given) split.parts (search rules) (search rules) c.join.ensures.mine c.join.ensures.theirs (search rules) (search rules);
    }
