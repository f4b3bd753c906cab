use Rattle.std.proofs.Common.{◌≡◌, ◌∙◌, ap, rules, List, ℕ, Vec}
use Rattle.std.specs.declared.alloc.Global.{Global}
use Rattle.mc_gen.specs.Rounds.{octets_of_each, whole_text}
use Rattle.mc_gen.proofs.Rounds.{one_more_whole}
use Rattle.mc_gen.proofs.clusters.round.Goals as goal

pub loop-k-preserved : goal.loop-k-preserved
loop-k-preserved c =
    let blocks : Vec ℕ Global = c.push_pictures.new.out in
    let text : blocks.items ≡ whole_text c.loop-k.k = search rules in
    ap (λ (vs : List (Vec ℕ Global)). octets_of_each vs) c.in_ok-push.ensures.items
    ∙ one_more_whole c.loop-k.round.items blocks c.loop-k.k c.loop-k.invariant text
