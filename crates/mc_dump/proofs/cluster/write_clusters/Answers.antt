use Rattle.std.proofs.Common.{◌≡◌, ◌++◌, ◌+◌, ◌-◌, ◌≤◌, List, ℕ, drop, length, ap, sym, ◌∙◌, All, subst, arith}
use Rattle.std.proofs.lemmas.List.Elements.{All-drop}
use Rattle.mc_packet.specs.declared.packet.Packet.{Packet}
use Rattle.mc_outside.specs.Sink.{Grows}
use Rattle.mc_written.specs.Elements.{element_text}
use Rattle.mc_written.specs.Clusters.{cluster, clusters_text}
use Rattle.mc_dump.specs.Clustered.{cluster_len, cluster_with, begin_with, clusters_from, clusters_of, CanBeBlock}
use Rattle.mc_dump.proofs.Streams.{first_refused, front_on, grows_on}
use Rattle.mc_dump.proofs.Writing.{ends, is_done, goes_on}
use Rattle.mc_dump.proofs.cluster.write_clusters.Goals as goal

pub returns-in_default-clause-written : goal.returns-in_default-clause-written
returns-in_default-clause-written g c =
    let ps : List Packet = c.loop.rest.now in
    let written = c.loop.invariant.written in
    let none : length ps ≤ 0 = c.in_default.ensures.item.3 in
    let P : List ℕ → Type 0 = λ x. Grows (g.K.Sink.text c.args.out.now) (g.K.Sink.text c.loop.out) x in
    subst P (ends (length c.args.packets.now - c.loop.counter) c.args.scale ps written.0 (clusters_text (clusters_of c.args.scale c.args.packets.now)) (omega arith) written.2) written.1

pub returns-in_err-taken-clause-written : goal.returns-in_err-taken-clause-written
returns-in_err-taken-clause-written g c =
    let ps : List Packet = c.loop.rest.now in
    let p : Packet = c.in-Some.first.now in
    let scale : ℕ = c.args.scale in
    let written = c.loop.invariant.written in
    let item = c.in-Some.ensures.item in
    let time = c.begin_with.ensures in
    let refused = c.in_err-taken.ensures.written in
    let front = rw time at refused in
    let mine : List ℕ = element_text (cluster (cluster_with scale (begin_with scale p) ps)) in
    first_refused (g.K.Sink.text c.args.out.now) (g.K.Sink.text c.write_cluster.new.out) (written.0 ++ mine)
    (clusters_text (clusters_from (length c.args.packets.now - (c.loop.counter + 1)) scale (drop (cluster_len scale (begin_with scale p) ps) ps)))
    (clusters_text (clusters_of scale c.args.packets.now)) c.from_residual.result c.from_residual.ensures.0
    (goes_on (length c.args.packets.now) c.loop.counter scale ps p written.0 (clusters_text (clusters_of scale c.args.packets.now)) (omega arith) item.3.0 item.1 written.2)
    (front_on (g.K.Sink.text c.args.out.now) (g.K.Sink.text c.loop.out) (g.K.Sink.text c.write_cluster.new.out) written.0 mine written.1 front)

pub loop-preserved : goal.loop-preserved
loop-preserved g c =
    let ps : List Packet = c.loop.rest.now in
    let p : Packet = c.in-Some.first.now in
    let scale : ℕ = c.args.scale in
    let total : List ℕ = clusters_text (clusters_of scale c.args.packets.now) in
    let written = c.loop.invariant.written in
    let item = c.in-Some.ensures.item in
    let time = c.begin_with.ensures in
    let ok = c.in_ok-taken.ensures.written in
    let grown = rw time at ok in
    let taken = c.in_ok-taken.ensures.taken in
    let count = rw time at taken in
    let mine : List ℕ = element_text (cluster (cluster_with scale (begin_with scale p) ps)) in
    let left : c.split_at.result.1.now ≡ drop (cluster_len scale (begin_with scale p) ps) ps = c.split_at.ensures.back ∙ ap (λ (n : ℕ). drop n ps) count in
    let goes = goes_on (length c.args.packets.now) c.loop.counter scale ps p written.0 total (omega arith) item.3.0 item.1 written.2 in
    record {
      each = subst (λ (xs : List Packet). All CanBeBlock xs) (sym c.split_at.ensures.back) (All-drop CanBeBlock c.in_ok-taken.taken ps c.loop.invariant.each);
      written = (
        written.0 ++ mine,
        grows_on (g.K.Sink.text c.args.out.now) (g.K.Sink.text c.loop.out) (g.K.Sink.text c.write_cluster.new.out) written.0 mine written.1 grown,
        subst (λ (xs : List Packet). (written.0 ++ mine) ++ clusters_text (clusters_from (length c.args.packets.now - (c.loop.counter + 1)) scale xs) ≡ total) (sym left) goes,
      );
      later = omega (arith, c.loop.invariant.later, c.write_cluster.ensures.cause.later);
    }

pub returns-clause-written : goal.returns-clause-written
returns-clause-written g c =
    let written = c.loop.invariant.written in
    let P : List ℕ → Type 0 = λ x. Grows (g.K.Sink.text c.args.out.now) (g.K.Sink.text c.loop.out) x in
    subst P (is_done (length c.args.packets.now) c.loop.counter c.args.scale c.loop.rest.now written.0 (clusters_text (clusters_of c.args.scale c.args.packets.now)) (omega arith) written.2) written.1
