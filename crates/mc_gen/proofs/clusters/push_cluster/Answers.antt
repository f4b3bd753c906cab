use Rattle.std.proofs.Common.{◌≡◌, ◌∙◌, ◌-◌, ◌*◌, sym, arith, rules, ℕ}
use Rattle.std.proofs.lemmas.Result.{on_ok_weaker}
use Rattle.mc_gen.specs.Generated.{cluster_at}
use Rattle.mc_gen.specs.Rounds.{pictures_text}
use Rattle.mc_gen.proofs.Rounds.{rest_is, rest_short, whole_is, whole_short}
use Rattle.mc_gen.proofs.clusters.push_cluster.Goals as goal

pub push_blocks-requires : goal.push_blocks-requires
push_blocks-requires c = rw c.whole.ensures (whole_short c.args.k)

pub returns-then-left-ge-PICTURES : goal.returns-then-left-ge-PICTURES
returns-then-left-ge-PICTURES c =
    let n : ℕ = c.args.n in
    let k : ℕ = c.args.k in
    record {
      ok = on_ok_weaker c.push_blocks.result
          (λ each. each (cluster_at n (12 * k)).blocks (whole_is n k (omega (arith, c.if-left-ge-PICTURES.true)) ∙ sym c.whole.ensures)) c.push_blocks.ensures.ok;
    }

pub push_blocks-requires-2 : goal.push_blocks-requires-2
push_blocks-requires-2 c =
    let n : ℕ = c.args.n in
    let k : ℕ = c.args.k in
    let text : c.as_slice.result.now ≡ pictures_text (12 * k) (n - 12 * k) = search rules in
    rw text (rest_short (12 * k) (n - 12 * k) (omega (arith, c.requires.few)))

pub returns : goal.returns
returns c =
    let n : ℕ = c.args.n in
    let k : ℕ = c.args.k in
    let text : c.as_slice.result.now ≡ pictures_text (12 * k) (n - 12 * k) = search rules in
    record {
      ok = on_ok_weaker c.push_blocks-2.result
          (λ each. each (cluster_at n (12 * k)).blocks (rest_is n k (omega (arith, c.if-left-ge-PICTURES.false)) ∙ sym text)) c.push_blocks-2.ensures.ok;
    }
