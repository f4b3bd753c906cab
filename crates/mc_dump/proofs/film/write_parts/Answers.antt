use Rattle.std.proofs.Common.{rules, ◌≡◌, ℕ, List, refl}
use Rattle.mc_packet.specs.declared.packet.Packet.{Packet}
use Rattle.mc_tracks.specs.declared.track.Track.{Track}
use Rattle.mc_written.specs.Clusters.{clusters_text}
use Rattle.mc_written.specs.Films.{film_text}
use Rattle.mc_written.specs.Fronts.{front_text}
use Rattle.mc_dump.specs.Clustered.{clusters_of}
use Rattle.mc_dump.specs.Dumped.{dumped_text}
use Rattle.mc_dump.proofs.Streams.{both_wrote, first_refused}
use Rattle.mc_dump.proofs.film.write_parts.Goals as goal

pub returns-in_err-write_full-clause-written : goal.returns-in_err-write_full-clause-written
unfolding dumped_text film_text
returns-in_err-write_full-clause-written g c =
    let scale : ℕ = c.args.scale in
    let tracks : List Track = c.args.tracks.now in
    let ps : List Packet = c.args.packets.now in
    let head : c.as_slice.result.now ≡ front_text scale tracks = search rules in
    let refused = c.in_err-write_full.ensures.refused in
    let front = rw head at refused in
    first_refused (g.K.Sink.text c.args.out.now) (g.K.Sink.text c.write_full.new.sink) (front_text scale tracks) (clusters_text (clusters_of scale ps)) (dumped_text scale tracks ps)
    c.from_residual.result c.from_residual.ensures.0 refl front

pub returns-clause-written : goal.returns-clause-written
unfolding dumped_text film_text
returns-clause-written g c =
    let scale : ℕ = c.args.scale in
    let tracks : List Track = c.args.tracks.now in
    let ps : List Packet = c.args.packets.now in
    let head : c.as_slice.result.now ≡ front_text scale tracks = search rules in
    let ok = c.in_ok-write_full.ensures.ok in
    let grown = rw head at ok in
    both_wrote (g.K.Sink.text c.args.out.now) (g.K.Sink.text c.write_full.new.sink) (g.K.Sink.text c.write_clusters.new.out) (front_text scale tracks) (clusters_text (clusters_of scale ps))
    (dumped_text scale tracks ps) c.write_clusters.result refl grown c.write_clusters.ensures.written
