use Rattle.std.proofs.Common.{rules}
use Rattle.turn_bench.proofs.SettingLemmas.{sets_grew}
use Rattle.turn_bench.proofs.settings.Settings.set.Goals as goal

pub returns-clause-grows : goal.returns-clause-grows
returns-clause-grows c = sets_grew c.is_ok.result c.args.client c.args.value c.args.self.now c.push.new.self.items (search rules)
