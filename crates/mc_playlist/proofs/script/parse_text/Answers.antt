use Rattle.std.proofs.Common.{◌+◌, lit<, map, length, drop}
use Rattle.std.proofs.lemmas.Iterator.Splits.{YieldsList-from_str_split}
use Rattle.std.proofs.lemmas.Iterator.Consumers.{YieldsList-end, YieldsList-so_far, YieldsList-turn}
use Rattle.std.specs.Prelude.{◌==◌}
use Rattle.std.specs.List.{slice_split}
use Rattle.mc_script.specs.Script.{script_lines}
use Rattle.mc_playlist.specs.Answers.{Answers}
use Rattle.mc_playlist.specs.Lines.{acts_from}
use Rattle.mc_playlist.proofs.ReadingLemmas.{finished, handed_on, next_line, refused}
use Rattle.mc_playlist.proofs.script.parse_text.Goals as goal

pub returns-in_err-take : goal.returns-in_err-take
returns-in_err-take c =
    let yields = YieldsList-from_str_split 10 c.args.text.now (lit< tt) (cc) (cc) (cc) in
    let here = YieldsList-turn yields c.loop-line.yielded _ c.loop-line.yielded_by _ _ c.in-Some.line c.in-Some.is c.next.ensures.steps in
    let all = slice_split (λ b. b == 10) c.args.text.now in
    let lines = map (λ line. line.now) c.loop-line.yielded in
    let order = next_line lines all (length c.loop-line.yielded) c.in-Some.line.now (YieldsList-so_far yields c.loop-line.yielded _ c.loop-line.yielded_by) here.0 here.1 in
    handed_on c.from_residual.result c.in_err-take.field-0.0 (λ r. Answers r (acts_from 1 (script_lines c.args.text.now))) c.from_residual.ensures.1
    (refused c.loop-line.reading c.take.new.self lines (drop (length c.loop-line.yielded + 1) all) all c.in-Some.line.now c.in_err-take.field-0.0 c.loop-line.invariant order c.in_err-take.ensures.taken)

pub returns : goal.returns
returns c = finished c.loop-line.reading (map (λ line. line.now) c.loop-line.yielded) (slice_split (λ b. b == 10) c.args.text.now) c.loop-line.invariant (YieldsList-end (YieldsList-from_str_split 10 c.args.text.now (lit< tt) (cc) (cc) (cc)) c.loop-line.yielded _ c.loop-line.yielded_by _ _ c.in-None.is c.next.ensures.steps).0
