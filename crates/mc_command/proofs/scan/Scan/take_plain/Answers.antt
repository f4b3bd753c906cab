use Rattle.std.proofs.Common.{sym, ◌∙◌}
use Rattle.mc_command.proofs.LineLemmas.{plain_ends, plain_takes}
use Rattle.mc_command.proofs.scan.Scan.take_plain.Goals as goal

pub returns-then-is_blank : goal.returns-then-is_blank
returns-then-is_blank c = plain_ends c.end_word.result c.args.self.now c.end_word.new.self c.args.c c.requires (sym c.is_blank.ensures ∙ c.if-is_blank.true) c.end_word.ensures.words c.end_word.ensures.place

pub returns : goal.returns
returns c = plain_takes c.push.result c.args.self.now c.push.new.self c.args.c c.requires c.push.ensures.place (sym c.is_blank.ensures ∙ c.if-is_blank.false) c.push.ensures.words c.push.ensures.word
