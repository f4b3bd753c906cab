use Rattle.std.proofs.Common.{sym, ◌∙◌, map}
use Rattle.serde_json.specs.View.{view}
use Rattle.mc_ipc.proofs.Views.{words_begin, words_end, words_next, words_stop}
use Rattle.mc_ipc.proofs.table.words_in.Goals as goal

pub loop-argument-init : goal.loop-argument-init
loop-argument-init c = rw c.new-words.ensures (words_begin (map view c.args.arguments.now))

pub returns-in_default : goal.returns-in_default
returns-in_default c =
    words_stop c.loop-argument.words c.args.arguments.now c.loop-argument.argument-index c.argument-item.result
    c.loop-argument-test.true c.argument-item.is (sym c.in_default.is ∙ c.in_ok-word.ensures) ∙ c.loop-argument.invariant

pub loop-argument-preserved : goal.loop-argument-preserved
loop-argument-preserved c =
    rw c.in_ok-push.ensures.ok (words_next c.loop-argument.words c.args.arguments.now c.loop-argument.argument-index c.argument-item.result c.in-Some.word
    c.loop-argument-test.true c.argument-item.is (sym c.in-Some.is ∙ c.in_ok-word.ensures) ∙ c.loop-argument.invariant)

pub returns : goal.returns
returns c =
    words_end c.loop-argument.words c.args.arguments.now c.loop-argument.argument-index c.loop-argument-test.false ∙ c.loop-argument.invariant
