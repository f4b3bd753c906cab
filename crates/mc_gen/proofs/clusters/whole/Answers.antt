use Rattle.std.proofs.Common.{ℕ, ◌%◌, ◌∙◌, ap, arith, Vec}
use Rattle.std.specs.declared.alloc.Global.{Global}
use Rattle.mc_gen.proofs.Rounds.{round_has, comes_again}
use Rattle.mc_gen.proofs.clusters.whole.Goals as goal

pub returns : goal.returns
returns c =
    c.as_slice.ensures.value ∙ ap (λ (v : Vec ℕ Global). v.items) c.index-round-k.is
    ∙ round_has c.args.round.now (c.args.k % 64) c.index-round-k.result c.requires (omega arith) ∙ comes_again c.args.k
