use Rattle.std.proofs.Common.{◌≡◌, ◌∙◌, ap, sym, arith, List, ℕ, ◌++◌, ◌-◌, append_assoc}
use Rattle.std.proofs.lemmas.List.{append-nil}
use Rattle.mc_written.specs.Clusters.{blocks_text}
use Rattle.mc_gen.specs.Generated.{blocks}
use Rattle.mc_gen.specs.Rounds.{pictures_text}
use Rattle.mc_gen.proofs.Rounds.{no_pictures, pictures_more}
use Rattle.mc_gen.proofs.pictures.push_pictures.Goals as goal

pub loop-i-init : goal.loop-i-init
loop-i-init c =
    let none : c.args.first - c.args.first ≡ 0 = omega arith in
    rw (none, no_pictures c.args.first) (sym (append-nil c.args.out.now.items))

pub loop-i-preserved : goal.loop-i-preserved
loop-i-preserved c =
    let first : ℕ = c.args.first in
    let i : ℕ = c.loop-i.i in
    let before : List ℕ = c.args.out.now.items in
    c.in_ok-push_picture.ensures.ok ∙ ap (λ (x : List ℕ). x ++ blocks_text (blocks i)) c.loop-i.invariant
    ∙ append_assoc before (pictures_text first (i - first)) (blocks_text (blocks i))
    ∙ ap (λ (x : List ℕ). before ++ x) (sym (pictures_more first i (omega (arith, c.loop-i.auto.i))))
