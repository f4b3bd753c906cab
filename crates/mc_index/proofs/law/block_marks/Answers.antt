use Rattle.std.proofs.Common.{sym, ap, subst, ◌∙◌}
use Rattle.mc_walk.specs.Parts.{part_at, IsMark}
use Rattle.mc_walk.proofs.Marks.{block-marked}
use Rattle.mc_index.proofs.Fronts.{front-mark}
use Rattle.mc_index.proofs.Marking.{mark-first, mark-pos}
use Rattle.mc_index.proofs.law.block_marks.Goals as goal

pub returns : goal.returns
returns c = record {
  place = mark-pos;
  mark = λ plan n m before p ps is front has.
      let there = block-marked plan m p ps is.0 is.1 (front-mark plan n m before front) has in
      subst (IsMark plan) (sym (mark-first plan n m before p ps is front has)) there.0;
  part = λ plan n m before p ps is front has.
      let there = block-marked plan m p ps is.0 is.1 (front-mark plan n m before front) has in
      ap (part_at plan) (mark-first plan n m before p ps is front has) ∙ there.1;
}
