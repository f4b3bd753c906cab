use Rattle.std.proofs.Common.{subst, ◌∙◌}
use Rattle.std.specs.Prelude.{Ok, Err}
use Rattle.mc_script.specs.declared.acts.ScriptError.{ScriptError}
use Rattle.mc_script.specs.declared.acts.ScriptError.TheVariants.{Refused}
use Rattle.mc_script.specs.Script.{Gives, script_of}
use Rattle.mc_play.proofs.Texts.{script_said}
use Rattle.mc_play.proofs.opening.read_lines.Goals as goal

pub returns-in-Ok-parse_script-clause-script : goal.returns-in-Ok-parse_script-clause-script
returns-in-Ok-parse_script-clause-script g c octets told =
    script_said octets c.deref.result.now (Ok c.in-Ok-parse_script.script) (c.deref.ensures.value ∙ c.in-Ok.ensures.octets octets told) c.in-Ok-parse_script.ensures.value

pub returns-in-Err-Refused-clause-stopped : goal.returns-in-Err-Refused-clause-stopped
returns-in-Err-Refused-clause-stopped g c octets told =
    let refused = c.in-Err-Refused in
    script_said octets c.deref.result.now (Err (Refused refused.line refused.why)) (c.deref.ensures.value ∙ c.in-Ok.ensures.octets octets told)
    (subst (λ (e : ScriptError). Gives (Err e) (script_of c.deref.result.now)) refused.field-0-is refused.ensures.value)
