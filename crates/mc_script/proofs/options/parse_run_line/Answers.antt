use Rattle.std.proofs.Common.{sym, ◌∙◌, subst, map, length, string_bytes, Global}
use Rattle.std.proofs.lemmas.List.{length-map}
use Rattle.mc_script.specs.RunLines.{AreLimits, IsRunLine, IsWithin}
use Rattle.mc_script.proofs.LimitLemmas.{line_limits}
use Rattle.mc_script.proofs.RunLineLemmas.{for_answer, line_only, line_said, line_within}
use Rattle.mc_script.proofs.options.parse_run_line.Goals as goal

pub returns-clause-said : goal.returns-clause-said
returns-clause-said c = let words = map (string_bytes {Z = Global}) c.args.words.now in for_answer c.read_line.result (IsRunLine words) (λ line e. line_said words line (sym c.read_line.ensures ∙ e))

pub returns-clause-only : goal.returns-clause-only
returns-clause-only c = let words = map (string_bytes {Z = Global}) c.args.words.now in λ line is. c.read_line.ensures ∙ line_only words line is

pub returns-clause-within : goal.returns-clause-within
returns-clause-within c =
    let words = map (string_bytes {Z = Global}) c.args.words.now in
    for_answer c.read_line.result (IsWithin (length c.args.words.now)) (λ line e. subst (λ n. IsWithin n line) (length-map c.args.words.now (string_bytes {Z = Global})) (line_within words line (line_said words line (sym c.read_line.ensures ∙ e))))

pub returns-clause-limits : goal.returns-clause-limits
returns-clause-limits c = let words = map (string_bytes {Z = Global}) c.args.words.now in for_answer c.read_line.result (λ line. AreLimits line.limits) (λ line e. line_limits words line (line_said words line (sym c.read_line.ensures ∙ e)))
