use Rattle.std.proofs.Common.{ap, sym, ◌≡◌, ◌∙◌, ◌∷◌, ◌+◌, drop}
use Rattle.std.proofs.lemmas.List.{drop_more}
use Rattle.mc_lines.proofs.Growing.{grows_on}
use Rattle.mc_lines.proofs.Playing.{onward, paired_on}
use Rattle.mc_lines.proofs.Turning.{told_still}
use Rattle.mc_lines.proofs.play.run_script.Goals as goal

pub returns-in_err-line-clause-grows : goal.returns-in_err-line-clause-grows
returns-in_err-line-clause-grows g c = grows_on _ _ _ _ _ _ c.loop-act.invariant.grows c.line.ensures.grows

pub loop-act-preserved : goal.loop-act-preserved
loop-act-preserved g c =
    let i = c.loop-act.act-index in
    let item = c.loop-act-item.result in
    let lines = c.args.script.now in
    let inv = c.loop-act.invariant in
    let split : drop i lines ≡ item ∷ drop (i + 1) lines = drop_more lines i item c.loop-act-test.true ∙ ap (λ x. x ∷ drop (i + 1) lines) (sym c.loop-act-item.is) in
    record {
      played = λ octets rd told s.
          let now = inv.played octets rd told s in
          let here = told_still _ _ _ _ _ _ octets inv.files inv.opened inv.fixed told in (
            c.line.ensures.stands octets rd here now.0,
            onward rd lines _ _ item.0 item.1 _ _ _ _ c.line.new.out _ _ now.1 split (c.in_ok-line.ensures.line octets rd here now.0 now.1.taken now.1.is_out),
          );
      paired = paired_on _ _ item.0 item.1 c.loop-act.out c.line.new.out inv.paired split c.in_ok-line.ensures.job;
      awaited = c.line.ensures.awaited;
      grows = grows_on _ _ _ _ _ _ inv.grows c.line.ensures.grows;
      fixed = c.line.ensures.fixed ∙ inv.fixed;
      files = c.line.ensures.files ∙ inv.files;
      opened = c.line.ensures.opened ∙ inv.opened;
    }
