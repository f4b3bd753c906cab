use Rattle.std.proofs.Common.{subst}
use Rattle.std.specs.Str.{chars}
use Rattle.mc_command.specs.Commands.{Parses}
use Rattle.mc_command.specs.Lines.{line_words}
use Rattle.mc_command.specs.Spelling.{Spells}
use Rattle.mc_command.proofs.SpellingLemmas.{found, line_only, line_spelled}
use Rattle.mc_command.proofs.line.split_line.Goals as goal

pub returns-clause-spelled : goal.returns-clause-spelled
returns-clause-spelled c = found c.scan_line.result (line_words c.args.line.now) (Spells (chars c.args.line.now)) c.scan_line.ensures (line_spelled (chars c.args.line.now))

pub returns-clause-only : goal.returns-clause-only
returns-clause-only c = λ said spelled. subst (Parses c.scan_line.result) (line_only (chars c.args.line.now) said spelled) c.scan_line.ensures
