use Rattle.std.proofs.Common.{◌≡◌, ◌++◌, false, length, sym, ap, subst, ◌∙◌}
use Rattle.mc_ipc.specs.Lines.{CutState, numbered}
use Rattle.mc_ipc.specs.Cut.{IsCutOf, kept}
use Rattle.mc_ipc.specs.declared.cutting.Cutting.{Cutting}
use Rattle.mc_ipc.specs.declared.cutting.Cutting.TheVariants.{Open}
use Rattle.mc_ipc.proofs.Cuts.{after_open}
use Rattle.mc_ipc.proofs.cutting.LineCut.feed.Goals as goal

pub returns-in_ok-keep-in-Open-clause-after : goal.returns-in_ok-keep-in-Open-clause-after
returns-in_ok-keep-in-Open-clause-after c =
    let s : CutState = c.args.self.now in
    let t : CutState = c.keep.new.self in
    let lines = c.in-Open.lines in
    let rest = c.in-Open.rest.now in
    let piece = c.args.piece.now in
    let held : c.as_slice.result.now ≡ s.held = c.as_slice.ensures.value ∙ ap (λ (x : CutState). x.held) c.self.view_is in
    let long : s.is_long ≡ false = sym (ap (λ (x : CutState). x.is_long) c.self.view_is) ∙ c.if-self.false in
    let cut : IsCutOf s.held piece (Open lines c.in-Open.rest) =
    subst (λ (x : Cutting). IsCutOf s.held piece x) c.in-Open.is (subst (λ h. IsCutOf h piece c.in_ok-lines.field-0) held c.in_ok-lines.ensures) in
    let left : t.held ≡ kept (length lines) s.held ++ rest = c.in_ok-keep-in-Open.ensures.held ∙ ap (λ n. kept n s.held ++ rest) c.len.ensures in
    let number : t.number ≡ numbered s.number (length lines) = c.in_ok-keep-in-Open.ensures.number ∙ ap (numbered s.number) c.len.ensures in
    after_open s t piece lines (kept (length lines) s.held ++ rest) long cut.1 cut.2 left number c.in_ok-keep-in-Open.ensures.is_long
