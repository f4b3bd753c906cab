use Rattle.std.proofs.Common.{◌≤◌, length, subst, sym, ap, ◌∙◌, arith}
use Rattle.std.specs.Prelude.{false}
use Rattle.mc_script.specs.Script.{Gives, acts_from, script_lines}
use Rattle.mc_script.proofs.TextLemmas.{of_other, of_text}
use Rattle.mc_script.proofs.script.parse_octets.Goals as goal

pub returns-in-Ok : goal.returns-in-Ok
returns-in-Ok c =
    let small : length c.args.bytes.now ≤ 16777216 = omega arith in
    subst (Gives c.parse_text.result) (ap (λ t. acts_from 1 false (script_lines t)) c.in-Ok.ensures.cases.0 ∙ sym (of_text c.args.bytes.now small c.in-Ok.ensures.cases.1)) c.parse_text.ensures

pub returns-in-Err : goal.returns-in-Err
returns-in-Err c =
    let small : length c.args.bytes.now ≤ 16777216 = omega arith in
    rw c.refusal_of_all-in-Err.ensures (of_other c.args.bytes.now small c.in-Err.ensures.cases.0)
