use Rattle.std.proofs.lemmas.Bool.{ne_eqb}
use Rattle.mc_command.proofs.LineLemmas.{quoted_takes}
use Rattle.mc_command.proofs.scan.Scan.take_quoted.Goals as goal

pub returns : goal.returns
returns c = quoted_takes c.push.result c.args.self.now c.push.new.self c.args.c c.requires c.push.ensures.place (ne_eqb c.args.c 34 c.if-c-eq34.false) (ne_eqb c.args.c 92 c.if-c-eq92.false) c.push.ensures.words c.push.ensures.word
