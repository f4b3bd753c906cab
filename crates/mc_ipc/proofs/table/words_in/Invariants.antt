use Rattle.std.proofs.Common.{◌≡◌, drop, map}
use Rattle.serde_json.specs.View.{view}
use Rattle.mc_ipc.specs.Asked.{words_in}
use Rattle.mc_ipc.proofs.Views.{rest_of_words}
use Rattle.mc_ipc.proofs.table.words_in.Given as goal

-- the words so far, and those of the rest behind them, are all
abbrev pub invariant-loop-argument : goal.invariant-loop-argument
invariant-loop-argument l = rest_of_words l.words (map view (drop l.argument-index l.arguments)) ≡ words_in (map view l.arguments)
