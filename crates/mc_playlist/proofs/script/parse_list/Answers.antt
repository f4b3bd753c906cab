use Rattle.std.proofs.Common.{◌≤◌, length, subst, sym, ap, ◌∙◌, arith}
use Rattle.mc_script.specs.Script.{script_lines}
use Rattle.mc_playlist.specs.Answers.{Answers}
use Rattle.mc_playlist.specs.Lines.{acts_from}
use Rattle.mc_playlist.proofs.ReadingLemmas.{of_other, of_text}
use Rattle.mc_playlist.proofs.script.parse_list.Goals as goal

pub returns-in-Ok : goal.returns-in-Ok
returns-in-Ok c =
    let few : length c.args.bytes.now ≤ 16777216 = omega arith in
    subst (Answers c.parse_text.result) (ap (λ t. acts_from 1 (script_lines t)) c.in-Ok.ensures.cases.0 ∙ sym (of_text c.args.bytes.now few c.in-Ok.ensures.cases.1)) c.parse_text.ensures

pub returns-in-Err : goal.returns-in-Err
returns-in-Err c =
    let few : length c.args.bytes.now ≤ 16777216 = omega arith in
    of_other c.args.bytes.now few c.in-Err.ensures.cases.0
