use Rattle.std.proofs.Common.{rules}
use Rattle.turn_bench.proofs.Items.{adds_grew}
use Rattle.turn_bench.proofs.log.Log.add.Goals as goal

pub returns-clause-grows : goal.returns-clause-grows
returns-clause-grows c = adds_grew c.is_ok.result c.args.caller c.args.item c.args.self.now c.push.new.self.items (search rules)
