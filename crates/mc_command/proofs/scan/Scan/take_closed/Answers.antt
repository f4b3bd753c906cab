use Rattle.std.proofs.Common.{sym, ◌∙◌}
use Rattle.mc_command.proofs.LineLemmas.{closed_ends}
use Rattle.mc_command.proofs.scan.Scan.take_closed.Goals as goal

pub returns-then-is_blank : goal.returns-then-is_blank
returns-then-is_blank c = closed_ends c.end_word.result c.args.self.now c.end_word.new.self c.args.c c.requires (sym c.is_blank.ensures ∙ c.if-is_blank.true) c.end_word.ensures.words c.end_word.ensures.place
