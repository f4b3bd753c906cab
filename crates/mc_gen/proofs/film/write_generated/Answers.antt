use Rattle.std.proofs.Common.{◌≡◌, ◌∙◌, ◌+◌, ◌*◌, ap, arith, rules, List, ℕ, Option, ◌++◌}
use Rattle.mc_outside.specs.Sink.{GrowsByFront}
use Rattle.mc_written.specs.Elements.{element_text}
use Rattle.mc_written.specs.Clusters.{cluster}
use Rattle.mc_written.specs.Fronts.{front_with}
use Rattle.mc_gen.specs.Made.{made_body}
use Rattle.mc_gen.specs.Generated.{cluster_at, generated}
use Rattle.mc_gen.proofs.Pieces.{Gathered, all_left, at_err, begins, front_as, gathers, last_ok, last_refused, left_text, none_left, one_left, stops, stops_within, writes}
use Rattle.mc_gen.proofs.film.write_generated.Goals as goal

pub loop-k-init : goal.loop-k-init
loop-k-init g c =
    let n : ℕ = c.args.n in
    let front : c.push_front.new.out.items ≡ front_with 1000000 made_body = search rules in
    record {
      gathered = begins (g.K.Sink.text c.args.out.now) c.push_front.new.out.items (left_text n 0) (generated n)
          (ap (λ (x : List ℕ). x ++ left_text n 0) front ∙ all_left n);
      later = omega arith;
    }

pub returns-in_default-push_cluster-clause-refused : goal.returns-in_default-push_cluster-clause-refused
returns-in_default-push_cluster-clause-refused g c =
    stops (g.K.Sink.text c.args.out.now) (g.K.Sink.text c.loop-k.out) c.loop-k.piece.items (left_text c.args.n c.loop-k.k) (generated c.args.n) c.loop-k.invariant.gathered

pub returns-in_err-write_piece-clause-refused : goal.returns-in_err-write_piece-clause-refused
returns-in_err-write_piece-clause-refused g c =
    let n : ℕ = c.args.n in
    let k : ℕ = c.loop-k.k in
    let more : List ℕ = element_text (cluster (cluster_at n (12 * k))) in
    let old : Option (List ℕ) = g.K.Sink.text c.args.out.now in
    let mid : Option (List ℕ) = g.K.Sink.text c.loop-k.out in
    let gathered : Gathered old mid (c.loop-k.piece.items ++ more) (left_text n (k + 1)) (generated n)
    = gathers old mid c.loop-k.piece.items more (left_text n k) (left_text n (k + 1)) (generated n) (one_left n k (omega (arith, c.loop-k-test.true))) c.loop-k.invariant.gathered in
    let piece : List ℕ = c.push_cluster.new.out.items in
    let front : GrowsByFront mid (g.K.Sink.text c.write_piece.new.out) (c.loop-k.piece.items ++ more)
    = front_as mid (g.K.Sink.text c.write_piece.new.out) piece (c.loop-k.piece.items ++ more) c.in-Ok-push_cluster.ensures.ok c.in_err-write_piece.ensures.refused in
    at_err c.from_residual.result
    (stops_within old mid (g.K.Sink.text c.write_piece.new.out) (c.loop-k.piece.items ++ more) (left_text n (k + 1)) (generated n) front gathered)

pub loop-k-preserved : goal.loop-k-preserved
loop-k-preserved g c =
    let n : ℕ = c.args.n in
    let k : ℕ = c.loop-k.k in
    let more : List ℕ = element_text (cluster (cluster_at n (12 * k))) in
    let old : Option (List ℕ) = g.K.Sink.text c.args.out.now in
    let mid : Option (List ℕ) = g.K.Sink.text c.loop-k.out in
    let gathered : Gathered old mid (c.loop-k.piece.items ++ more) (left_text n (k + 1)) (generated n)
    = gathers old mid c.loop-k.piece.items more (left_text n k) (left_text n (k + 1)) (generated n) (one_left n k (omega (arith, c.loop-k-test.true))) c.loop-k.invariant.gathered in
    let ok = c.in_ok-write_piece.ensures.ok in
    let left : List ℕ = c.write_piece.new.piece.items in
    let parts : ok.0 ++ left ≡ c.loop-k.piece.items ++ more = ◌∙◌ {c = c.loop-k.piece.items ++ more} ok.2 c.in-Ok-push_cluster.ensures.ok in
    record {
      gathered = writes old mid (g.K.Sink.text c.write_piece.new.out) (c.loop-k.piece.items ++ more) ok.0 left (left_text n (k + 1)) (generated n) ok.1 parts gathered;
      later = omega (arith, c.loop-k.invariant.later, c.write_piece.ensures.cause.later);
    }

pub returns-clause-ok : goal.returns-clause-ok
returns-clause-ok g c =
    let n : ℕ = c.args.n in
    let ok = c.write_full.ensures.ok in
    last_ok (g.K.Sink.text c.args.out.now) (g.K.Sink.text c.loop-k.out) (g.K.Sink.text c.write_full.new.sink) c.loop-k.piece.items (left_text n c.loop-k.k) (generated n) c.write_full.result
    (none_left n c.loop-k.k (omega (arith, c.loop-k-test.false))) c.loop-k.invariant.gathered (rw c.as_slice-2.ensures.value at ok)

pub returns-clause-refused : goal.returns-clause-refused
returns-clause-refused g c =
    let n : ℕ = c.args.n in
    let refused = c.write_full.ensures.refused in
    last_refused (g.K.Sink.text c.args.out.now) (g.K.Sink.text c.loop-k.out) (g.K.Sink.text c.write_full.new.sink) c.loop-k.piece.items (left_text n c.loop-k.k) (generated n) c.write_full.result
    c.loop-k.invariant.gathered (rw c.as_slice-2.ensures.value at refused)
