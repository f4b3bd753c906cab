-- A generated film of so many pictures: its packets, its Clusters, its octets, and what a right reader finds in it.
use Rattle.std.specs.Prelude.{◌≡◌, ℕ, ◌+◌, ◌-◌, ◌*◌, ◌%◌, ◌/◌, ◌≤◌, min, Bool, true, ◌==◌, List, [], ◌∷◌, map, pos, Ok}
use Rattle.std.specs.List.{AllByRecursion, range_with_len, flat_map}
use Rattle.mc_packet.specs.Contents.{Content, contents}
use Rattle.mc_packet.specs.declared.packet.Packet.{Packet}
use Rattle.mc_packet.specs.declared.walk.Ending.TheVariants.{Clean}
use Rattle.mc_film.specs.declared.whole.WholeFilm.{WholeFilm}
use Rattle.mc_film.specs.Film.{film_of}
use Rattle.mc_written.specs.Clusters.{Block, Cluster}
use Rattle.mc_written.specs.Films.{film_with}
use Rattle.mc_gen.specs.Made.{made_body, made_tracks}

-- ---- its packets

-- octet j of picture i, of which it has 8 to 39
abbrev pub picture_octet : ℕ → ℕ → ℕ
picture_octet i j = (i + j) % 256

abbrev pub picture_size : ℕ → ℕ
picture_size i = 8 + i % 32

abbrev pub picture_body : ℕ → List ℕ
picture_body i = map (picture_octet i) (range_with_len 0 (picture_size i))

abbrev pub sound_body : ℕ → List ℕ
sound_body i = i % 256 ∷ i % 256 ∷ i % 256 ∷ i % 256 ∷ []

-- each twelfth picture is a keyframe
abbrev pub is_key : ℕ → Bool
is_key i = i % 12 == 0

-- picture i, at 40 * i milliseconds, and two sounds, with it and 20 milliseconds later
abbrev pub picture : ℕ → Content
picture i = record { track = 1; time = pos (40000000 * i); key = is_key i; body = picture_body i }

abbrev pub sound : ℕ → ℕ → Content
sound i time = record { track = 2; time = pos time; key = true; body = sound_body i }

abbrev pub shown : ℕ → List Content
shown i = picture i ∷ sound i (40000000 * i) ∷ sound i (40000000 * i + 20000000) ∷ []

abbrev pub generated_packets : ℕ → List Content
generated_packets n = flat_map shown (range_with_len 0 n)

-- ---- its Clusters, each of twelve pictures, the last of those that are left

abbrev pub picture_block : ℕ → Block
picture_block i = record { track = 1; relative = pos (40 * (i % 12)); key = is_key i; body = picture_body i }

abbrev pub sound_block : ℕ → ℕ → Block
sound_block i relative = record { track = 2; relative = pos relative; key = true; body = sound_body i }

abbrev pub blocks : ℕ → List Block
blocks i = picture_block i ∷ sound_block i (40 * (i % 12)) ∷ sound_block i (40 * (i % 12) + 20) ∷ []

-- the Cluster that begins with a picture
abbrev pub cluster_at : ℕ → ℕ → Cluster
cluster_at n first = record { time = 40 * first; blocks = flat_map blocks (range_with_len first (min 12 (n - first))) }

abbrev pub generated_clusters : ℕ → List Cluster
generated_clusters n = map (λ k. cluster_at n (12 * k)) (range_with_len 0 ((n + 11) / 12))

-- ---- the film

unfoldable pub generated : ℕ → List ℕ
generated n = film_with 1000000 made_body (generated_clusters n)

-- a packet is a sync point where it bears the key mark
abbrev pub IsPoint : Packet → Type 0
IsPoint p = p.sync ≡ p.key

-- the film that is read back
pub record IsGenerated (n : ℕ) (film : WholeFilm) : Type 0 where
  pub scale : film.scale ≡ 1000000
  pub listed : film.tracks ≡ made_tracks
  pub packets : contents film.packets ≡ generated_packets n
  pub points : AllByRecursion IsPoint film.packets
  pub ending : film.ending ≡ Clean

abbrev pub GeneratedReadBack : Type 0
GeneratedReadBack = (n : ℕ) → n ≤ 200000 → (film : WholeFilm) × (film_of (generated n) ≡ Ok film) × IsGenerated n film
