-- The film that is written for packets, and that it is read back as them.
use Rattle.std.specs.Prelude.{◌≡◌, ℕ, ◌^◌, ◌<◌, ◌≤◌, IsTrue, false, is_some, List, length, All, Contains, None, Ok}
use Rattle.mc_packet.specs.declared.packet.Packet.{Packet}
use Rattle.mc_packet.specs.Contents.{contents}
use Rattle.mc_packet.specs.Shape.{is_near}
use Rattle.mc_packet.specs.declared.walk.Ending.TheVariants.{Clean}
use Rattle.mc_tracks.specs.declared.track.Track.{Track}
use Rattle.mc_tracks.specs.TrackList.{numbered, HaveDistinctNumbers, HasNumbers}
use Rattle.mc_film.specs.declared.whole.WholeFilm.{WholeFilm}
use Rattle.mc_film.specs.Film.{film_of}
use Rattle.mc_written.specs.Films.{film_text}
use Rattle.mc_written.specs.Fronts.{HasShortTexts}
use Rattle.mc_dump.specs.Clustered.{clusters_of, first_low, scale_for, CanBeBlock}

-- the text of a film of these tracks and packets, whose times are in units of that scale
unfoldable pub dumped_text : ℕ → List Track → List Packet → List ℕ
dumped_text g tracks ps = film_text g tracks (clusters_of g ps)

-- ---- the film that is read back

pub record IsFilmOf (g : ℕ) (tracks : List Track) (ps : List Packet) (film : WholeFilm) : Type 0 where
  pub scale : film.scale ≡ g
  pub listed : film.tracks ≡ tracks
  pub packets : contents film.packets ≡ contents ps
  pub ending : film.ending ≡ Clean

-- the octets are a film of that scale with these tracks and as many packets in that order, each with the same track, time,
-- key mark and payload, which ends as it should
abbrev pub ReadsBack : ℕ → List Track → List Packet → List ℕ → Type 0
ReadsBack g tracks ps octets = (film : WholeFilm) × (film_of octets ≡ Ok film) × IsFilmOf g tracks ps film

-- ---- of which packets that holds

-- a packet of a listed track, with a number that can be coded, a time in range, and a payload that a block may have
pub record CanBeDumped (tracks : List Track) (p : Packet) : Type 0 where
  pub listed : IsTrue (is_some (numbered p.track tracks))
  pub near : IsTrue (is_near p.time)
  pub block : CanBeBlock p

-- at most 64 tracks, whose texts are short and have no zero octet, and such packets of them
pub record AreDumpable (tracks : List Track) (ps : List Packet) : Type 0 where
  pub few : length tracks ≤ 64
  pub texts : All HasShortTexts tracks
  pub each : All (CanBeDumped tracks) ps

-- tracks and packets that are some film's, or some of them, where none of the tracks is encoded
pub record AreOfFilm (tracks : List Track) (ps : List Packet) : Type 0 where
  pub octets : List ℕ
  pub film : WholeFilm
  pub is : film_of octets ≡ Ok film
  pub tracks_of : All (Contains film.tracks) tracks
  pub packets_of : All (Contains film.packets) ps
  pub plain : All (λ (t : Track). t.encoded ≡ false) tracks

-- what is known of them where they are written
pub record AreWritten (g : ℕ) (tracks : List Track) (ps : List Packet) : Type 0 where
  pub positive : 0 < g
  pub fits : g < 2 ^ 64
  pub dumpable : AreDumpable tracks ps
  pub distinct : HaveDistinctNumbers tracks
  pub numbers : All HasNumbers tracks
  pub not_low : first_low g ps ≡ None

-- ---- the law

abbrev pub DumpsReadBack : Type 0
DumpsReadBack = (scale : ℕ) (tracks : List Track) (ps : List Packet) → AreWritten (scale_for scale ps) tracks ps → AreOfFilm tracks ps
    → ReadsBack (scale_for scale ps) tracks ps (dumped_text (scale_for scale ps) tracks ps)
