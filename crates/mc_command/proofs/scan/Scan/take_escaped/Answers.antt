use Rattle.std.proofs.Common.{sym, ◌∙◌}
use Rattle.mc_command.proofs.LineLemmas.{escaped_takes, kept_takes}
use Rattle.mc_command.proofs.scan.Scan.take_escaped.Goals as goal

pub returns-then-is_special : goal.returns-then-is_special
returns-then-is_special c = escaped_takes c.push.result c.args.self.now c.push.new.self c.args.c c.requires c.push.ensures.place (sym c.is_special.ensures ∙ c.if-is_special.true) c.push.ensures.words c.push.ensures.word

pub returns : goal.returns
unfolding lib.Utf8.encode
returns c = kept_takes c.push-3.result c.args.self.now c.push-3.new.self c.args.c _ c.requires (c.push-3.ensures.place ∙ c.in_ok-push.ensures.place) (sym c.is_special.ensures ∙ c.if-is_special.false) (c.push-3.ensures.words ∙ c.in_ok-push.ensures.words) c.in_ok-push.ensures.word c.push-3.ensures.word
