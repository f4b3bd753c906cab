-- The text of a film is read back as that film.
use Rattle.std.proofs.Common.{◌≡◌, ℕ, ◌+◌, ◌≤◌, List, ◌++◌, length, None, refl, sym, ap, ◌∙◌, subst, arith, length-append}
use Rattle.std.specs.List.{AllByRecursion}
use Rattle.mc_packet.specs.declared.packet.Packet.{Packet}
use Rattle.mc_packet.specs.declared.walk.Ending.TheVariants.{Clean}
use Rattle.mc_packet.specs.declared.walk.Level.TheVariants as levels
use Rattle.mc_ebml.specs.Ids.{TRACKS}
use Rattle.mc_walk.specs.declared.plan.Plan.{Plan}
use Rattle.mc_walk.specs.Walk.{film_walk}
use Rattle.mc_film.specs.Film.{film_of}
use Rattle.mc_written.proofs.Lower.{Lower}
use Rattle.mc_written.specs.Elements.{element_text}
use Rattle.mc_written.specs.Clusters.{Cluster, clusters_text, clusters_packets, CanBeEntered}
use Rattle.mc_written.specs.Fronts.{ebml_header, info, opening_text, segment_head, front_with, tracks_body}
use Rattle.mc_written.specs.Films.{film_with, film_text, AnyTracksReadBack, FilmsReadBack}
use Rattle.mc_written.proofs.Standing.{Stands, stands_whole, first_part, second_part}
use Rattle.mc_written.proofs.Walking.{Walks, walks_on}
use Rattle.mc_written.proofs.Clusters.{step_skip, clusters_walk}
use Rattle.mc_written.proofs.Lengths.{element_long}
use Rattle.mc_written.proofs.Tracks.{tracks_read, tracks_short, have_short_texts}
use Rattle.mc_written.proofs.Opening.{opening_at, opened_read, info_small}

-- the walk over it
pub film_walked : (law : Lower) (plan : Plan) (scale : ℕ) (body : List ℕ) (cs : List Cluster) → plan.segment_end ≡ None → plan.opening ≡ opening_at → plan.octets ≡ film_with scale body cs
    → length body ≤ 16777216 → AllByRecursion (CanBeEntered plan.tracks plan.scale) cs
    → film_walk plan ≡ (clusters_packets plan.scale (length (front_with scale body)) cs, Clean)
film_walked law plan scale body cs endless opens is short all =
    let octets : List ℕ = plan.octets in
    let i : List ℕ = element_text (info scale) in
    let t : List ℕ = element_text (TRACKS, body) in
    let rest : List ℕ = clusters_text cs in
    let whole : Stands octets 0 (front_with scale body ++ rest) = subst (λ (x : List ℕ). Stands x 0 (front_with scale body ++ rest)) (sym is) (stands_whole (film_with scale body cs)) in
    let front = first_part octets (front_with scale body) rest 0 whole in
    let clusters = second_part octets (front_with scale body) rest 0 whole in
    let at_i = second_part octets opening_text (i ++ t) 0 front in
    let at_t = second_part octets i t (0 + length opening_text) at_i in
    let long_i = element_long (info scale) in
    let long_t = element_long (TRACKS, body) in
    let small = info_small scale in
    let sum1 = length-append opening_text (i ++ t) in
    let sum2 = length-append i t in
    let sum3 = length-append (element_text ebml_header) segment_head in
    let sum4 : length octets ≡ length (front_with scale body) + length rest = ap length is ∙ length-append (front_with scale body) rest in
    let packets : List Packet = clusters_packets plan.scale (length (front_with scale body)) cs in
    let here : 0 + length (front_with scale body) ≡ length (front_with scale body) = omega arith in
    let from : 0 + length opening_text ≡ plan.opening = omega (arith, opens) in
    let to : plan.opening + length i + length t ≡ length (front_with scale body) = omega (arith, from) in
    let in_clusters = clusters_walk law plan (length (front_with scale body)) cs endless (rw here at clusters) (sym sum4) all in
    let at_info : Stands octets plan.opening i = let info_first = first_part octets i t (0 + length opening_text) at_i in rw from at info_first in
    let at_tracks : Stands octets (plan.opening + length i) t = rw from at at_t in
    let behind = subst (λ (n : ℕ). Walks plan n levels.Segment (packets, Clean)) (sym to) in_clusters in
    walks_on plan plan.opening (plan.opening + length i) levels.Segment levels.Segment None (packets, Clean) (omega arith) (omega arith)
    (step_skip law plan plan.opening (info scale) endless refl (omega arith) refl at_info)
    (walks_on plan (plan.opening + length i) (plan.opening + length i + length t) levels.Segment levels.Segment None (packets, Clean) (omega arith) (omega arith)
    (step_skip law plan (plan.opening + length i) (TRACKS, body) endless refl (omega arith) refl at_tracks) behind)
    (length octets + 1) (omega arith)

-- a film with any body of Tracks that is read as these tracks
pub any_tracks_read : Lower → AnyTracksReadBack
unfolding film_of
any_tracks_read law scale body tracks cs can =
    let octets : List ℕ = film_with scale body cs in
    let plan : Plan = record { octets = octets; opening = opening_at; segment_end = None; scale = scale; tracks = tracks } in
    let opened = opened_read law octets scale body tracks can.positive can.fits can.short can.read (first_part octets (front_with scale body) (clusters_text cs) 0 (stands_whole octets)) in
    let walked = film_walked law plan scale body cs refl refl refl can.short can.entered in
    rw (opened, walked) refl

pub films_read : Lower → FilmsReadBack
unfolding film_text
films_read law scale tracks cs can =
    let few = can.few in
    any_tracks_read law scale (tracks_body tracks) tracks cs (record {
      positive = can.positive;
      fits = can.fits;
      short = omega (arith, tracks_short tracks (have_short_texts tracks can.listed));
      read = λ from. tracks_read law tracks from can.listed can.few can.distinct;
      entered = can.entered;
    })
