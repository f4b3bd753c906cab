use Rattle.std.proofs.Common.{rules, ◌≡◌, List, ℕ, ◌++◌, ap, ◌∙◌, arith}
use Rattle.std.proofs.lemmas.List.{append_assoc}
use Rattle.mc_script.specs.Transcript.{lines_from, transcript}
use Rattle.mc_play.proofs.Writing.{front_alone, front_more, grows_more, pieces, wrote_front}
use Rattle.mc_play.proofs.command.write_out.Goals as goal

pub returns-in_default-clause-written : goal.returns-in_default-clause-written
returns-in_default-clause-written g c =
    let written = c.loop-rest.invariant in
    front_alone _ _ written.0 (lines_from c.loop-rest.selected c.loop-rest.rest.now) _ written.2 written.1

pub returns-in_err-write_full-clause-written : goal.returns-in_err-write_full-clause-written
returns-in_err-write_full-clause-written g c =
    let written = c.loop-rest.invariant in
    let part = c.split_at.result.0.now in
    let more = c.split_at.result.1.now in
    let both = pieces c.loop-rest.selected c.in-Ok.behind c.min.result c.loop-rest.rest.now part more c.split_at.ensures.front c.split_at.ensures.back c.in-Ok.ensures.set in
    let piece : c.as_bytes.result.now ≡ lines_from c.loop-rest.selected part = search rules in
    let front = rw piece at c.in_err-write_full.ensures.refused in
    wrote_front (g.K.Sink.text c.args.out.now) (g.K.Sink.text c.write_full.new.sink) c.args.hd.now c.from_residual.result c.from_residual.ensures.0
    (front_more (g.K.Sink.text c.args.out.now) (g.K.Sink.text c.loop-rest.out) (g.K.Sink.text c.write_full.new.sink) written.0 (lines_from c.loop-rest.selected part) (lines_from c.in-Ok.behind more) (transcript c.args.hd.now) (ap (λ (x : List ℕ). written.0 ++ x) both ∙ written.2) written.1 front)

pub loop-rest-preserved : goal.loop-rest-preserved
loop-rest-preserved g c =
    let written = c.loop-rest.invariant in
    let part = c.split_at.result.0.now in
    let more = c.split_at.result.1.now in
    let lines = lines_from c.loop-rest.selected part in
    let both = pieces c.loop-rest.selected c.in-Ok.behind c.min.result c.loop-rest.rest.now part more c.split_at.ensures.front c.split_at.ensures.back c.in-Ok.ensures.set in
    let piece : c.as_bytes.result.now ≡ lines = search rules in
    let grown = rw piece at c.in_ok-write_full.ensures.ok in (
      written.0 ++ lines,
      grows_more _ _ _ written.0 lines written.1 grown,
      append_assoc written.0 lines (lines_from c.in-Ok.behind more) ∙ ap (λ (x : List ℕ). written.0 ++ x) both ∙ written.2,
      omega (arith, written.3, c.write_full.ensures.cause.later),
    )
