-- The text of a written film, the film that it stands for, and that it is read back so.
use Rattle.std.specs.Prelude.{◌≡◌, ℕ, ◌^◌, ◌<◌, ◌≤◌, List, ◌++◌, length, Ok}
use Rattle.std.specs.List.{AllByRecursion}
use Rattle.mc_packet.specs.declared.walk.Ending.TheVariants.{Clean}
use Rattle.mc_tracks.specs.declared.track.Track.{Track}
use Rattle.mc_tracks.specs.Header.{tracks_of}
use Rattle.mc_tracks.specs.TrackList.{HaveDistinctNumbers}
use Rattle.mc_film.specs.declared.whole.WholeFilm.{WholeFilm}
use Rattle.mc_film.specs.Film.{film_of}
use Rattle.mc_written.specs.Clusters.{Cluster, clusters_text, clusters_packets, CanBeEntered}
use Rattle.mc_written.specs.Fronts.{tracks_body, front_with, CanBeListed}

-- a film whose Tracks has this body
abbrev pub film_with : ℕ → List ℕ → List Cluster → List ℕ
film_with scale body cs = front_with scale body ++ clusters_text cs

-- a film of these tracks
unfoldable pub film_text : ℕ → List Track → List Cluster → List ℕ
film_text scale tracks cs = film_with scale (tracks_body tracks) cs

-- what it is read as: the packets of its Clusters, at their places
abbrev pub film_as : ℕ → List ℕ → List Track → List Cluster → WholeFilm
film_as scale body tracks cs = record {
  scale = scale;
  tracks = tracks;
  packets = clusters_packets scale (length (front_with scale body)) cs;
  ending = Clean;
}

abbrev pub written_film : ℕ → List Track → List Cluster → WholeFilm
written_film scale tracks cs = film_as scale (tracks_body tracks) tracks cs

-- a film whose text is read back
pub record CanBeWritten (scale : ℕ) (tracks : List Track) (cs : List Cluster) : Type 0 where
  pub positive : 0 < scale
  pub fits : scale < 2 ^ 64
  pub few : length tracks ≤ 64
  pub distinct : HaveDistinctNumbers tracks
  pub listed : AllByRecursion CanBeListed tracks
  pub entered : AllByRecursion (CanBeEntered tracks scale) cs

-- one whose Tracks is read as its tracks
pub record CanBeFilmed (scale : ℕ) (body : List ℕ) (tracks : List Track) (cs : List Cluster) : Type 0 where
  pub positive : 0 < scale
  pub fits : scale < 2 ^ 64
  pub short : length body ≤ 16777216
  pub read : (from : ℕ) → tracks_of body from ≡ Ok tracks
  pub entered : AllByRecursion (CanBeEntered tracks scale) cs

-- ---- the laws

abbrev pub FilmsReadBack : Type 0
FilmsReadBack = (scale : ℕ) (tracks : List Track) (cs : List Cluster) → CanBeWritten scale tracks cs
    → film_of (film_text scale tracks cs) ≡ Ok (written_film scale tracks cs)

-- whatever the form of its Tracks
abbrev pub AnyTracksReadBack : Type 0
AnyTracksReadBack = (scale : ℕ) (body : List ℕ) (tracks : List Track) (cs : List Cluster) → CanBeFilmed scale body tracks cs
    → film_of (film_with scale body cs) ≡ Ok (film_as scale body tracks cs)
