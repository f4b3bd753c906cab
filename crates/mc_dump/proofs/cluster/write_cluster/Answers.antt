use Rattle.std.proofs.Common.{rules, ◌≡◌, ◌++◌, ℕ, List, take, length, sym, subst, All, arith}
use Rattle.mc_packet.specs.declared.packet.Packet.{Packet}
use Rattle.mc_written.specs.Elements.{element_text}
use Rattle.mc_written.specs.Clusters.{blocks_text, cluster}
use Rattle.mc_dump.specs.Clustered.{blocks_with, cluster_len, cluster_with, CanBeLaid}
use Rattle.mc_dump.proofs.Streams.{first_refused, front_whole_is, grows_whole}
use Rattle.mc_dump.proofs.Cut.{cluster_few}
use Rattle.mc_dump.proofs.Writing.{are_laid, cluster_parted}
use Rattle.mc_dump.proofs.cluster.write_cluster.Goals as goal

pub cluster_head-requires-clause-few : goal.cluster_head-requires-clause-few
cluster_head-requires-clause-few g c =
    let ps : List Packet = c.args.packets.now in
    let is : c.split_at.result.0.now ≡ take (cluster_len c.args.scale c.args.time ps) ps = search rules in
    rw is (cluster_few c.args.scale c.args.time ps)

pub returns-in_err-write_full-clause-written : goal.returns-in_err-write_full-clause-written
returns-in_err-write_full-clause-written g c =
    let ps : List Packet = c.args.packets.now in
    let mine : List Packet = c.split_at.result.0.now in
    let is : mine ≡ take (cluster_len c.args.scale c.args.time ps) ps = search rules in
    let refused = c.in_err-write_full.ensures.refused in
    let front = rw c.as_slice.ensures.value at refused in
    first_refused (g.K.Sink.text c.args.out.now) (g.K.Sink.text c.write_full.new.sink) c.cluster_head.new.head.items (blocks_text (blocks_with c.args.scale c.args.time mine))
    (element_text (cluster (cluster_with c.args.scale c.args.time ps))) c.from_residual.result c.from_residual.ensures.0
    (cluster_parted c.args.scale c.args.time ps mine c.cluster_head.new.head.items is c.in-Ok.ensures.ok) front

pub write_blocks-requires-clause-laid : goal.write_blocks-requires-clause-laid
write_blocks-requires-clause-laid g c =
    let ps : List Packet = c.args.packets.now in
    let is : c.split_at.result.0.now ≡ take (cluster_len c.args.scale c.args.time ps) ps = search rules in
    subst (λ (xs : List Packet). All (CanBeLaid c.args.scale c.args.time) xs) (sym is) (are_laid c.args.scale c.args.time ps c.requires.each)

pub returns-in_err-write_blocks-clause-written : goal.returns-in_err-write_blocks-clause-written
returns-in_err-write_blocks-clause-written g c =
    let ps : List Packet = c.args.packets.now in
    let mine : List Packet = c.split_at.result.0.now in
    let is : mine ≡ take (cluster_len c.args.scale c.args.time ps) ps = search rules in
    let grown = c.in_ok-write_full.ensures.ok in
    let head = rw c.as_slice.ensures.value at grown in
    front_whole_is (g.K.Sink.text c.args.out.now) (g.K.Sink.text c.write_full.new.sink) (g.K.Sink.text c.write_blocks.new.out) c.cluster_head.new.head.items
    (blocks_text (blocks_with c.args.scale c.args.time mine)) (element_text (cluster (cluster_with c.args.scale c.args.time ps))) c.from_residual-in_err-write_blocks.result c.from_residual-in_err-write_blocks.ensures.0
    (cluster_parted c.args.scale c.args.time ps mine c.cluster_head.new.head.items is c.in-Ok.ensures.ok) head c.in_err-write_blocks.ensures.written

pub returns-clause-written : goal.returns-clause-written
returns-clause-written g c =
    let ps : List Packet = c.args.packets.now in
    let mine : List Packet = c.split_at.result.0.now in
    let is : mine ≡ take (cluster_len c.args.scale c.args.time ps) ps = search rules in
    let grown = c.in_ok-write_full.ensures.ok in
    let head = rw c.as_slice.ensures.value at grown in
    grows_whole (g.K.Sink.text c.args.out.now) (g.K.Sink.text c.write_full.new.sink) (g.K.Sink.text c.write_blocks.new.out) c.cluster_head.new.head.items
    (blocks_text (blocks_with c.args.scale c.args.time mine)) (element_text (cluster (cluster_with c.args.scale c.args.time ps)))
    (cluster_parted c.args.scale c.args.time ps mine c.cluster_head.new.head.items is c.in-Ok.ensures.ok) head c.in_ok-write_blocks.ensures.written
