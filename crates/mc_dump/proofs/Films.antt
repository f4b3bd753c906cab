-- What is written for a film's packets is read back as them.
use Rattle.std.proofs.Common.{◌≡◌, ℕ, suc, ◌+◌, ◌<◌, ◌≤◌, Bool, true, false, not, cond, List, [], ◌∷◌, length, get_or, Option, Some, None, Ok, refl, arith, All, ◌==◌}
use Rattle.std.proofs.lemmas.List.Elements.{All-from_recursion, recursion_from_All, All-contains, All-head, All-tail}
use Rattle.std.specs.Prelude.{Contains, find, is_some}
use Rattle.std.specs.List.{AllByRecursion}
use Rattle.mc_packet.specs.declared.packet.Packet.{Packet}
use Rattle.mc_tracks.specs.declared.track.Track.{Track}
use Rattle.mc_tracks.specs.TrackList.{numbered, is_known, is_readable, IsListed, HasNumbers}
use Rattle.mc_walk.specs.Again.{CanBeAgain}
use Rattle.mc_film.specs.Film.{FilmsAreAgain, FilmsHaveShape}
use Rattle.mc_written.specs.Clusters.{CanBeEntered}
use Rattle.mc_written.specs.Films.{film_text, written_film, CanBeWritten, FilmsReadBack}
use Rattle.mc_written.specs.Fronts.{front_text, CanBeListed}
use Rattle.mc_dump.specs.Clustered.{clusters_of, scale_for}
use Rattle.mc_dump.specs.Dumped.{dumped_text, AreOfFilm, AreWritten, CanBeDumped, DumpsReadBack, ReadsBack}
use Rattle.mc_dump.proofs.Scales.{Divides, IsHigh, scale_divides, each_high}
use Rattle.mc_dump.proofs.Cut.{CanBeKept, clusters_can, clusters_contents}

-- ---- the tracks

abbrev IsPlain : Track → Type 0
IsPlain t = t.encoded ≡ false

-- the tracks of a film are listed
listed_each : (tracks all : List Track) → All IsListed all → AllByRecursion (Contains all) tracks → AllByRecursion HasNumbers tracks → AllByRecursion IsPlain tracks
    → AllByRecursion CanBeListed tracks
listed_each [] all listed of numbers plain = tt
listed_each (t ∷ ts) all listed of numbers plain =
    (record { listed = All-contains IsListed all t listed of.0; numbers = numbers.0; plain = plain.0 }, listed_each ts all listed of.1 numbers.1 plain.1)

-- one that is listed is known, where none is encoded
known : (n : ℕ) (tracks : List Track) → AllByRecursion IsPlain tracks → is_some (numbered n tracks) ≡ true → is_known tracks n ≡ true
known n [] plain some = absurd (cc some)
known n (t ∷ ts) plain some = by_test (n == t.no) some (λ e. known n ts plain.1 e)
  where
    by_test : (b : Bool) → is_some (cond b (Some t) (find (λ (t : Track). n == t.no) ts)) ≡ true
        → (is_some (numbered n ts) ≡ true → is_known ts n ≡ true) → is_readable (cond b (Some t) (find (λ (t : Track). n == t.no) ts)) ≡ true
    by_test true e rest = rw plain.0 refl
    by_test false e rest = rest e

-- ---- the packets

kept_each : (g : ℕ) (tracks others : List Track) (ps all : List Packet) → AllByRecursion IsPlain tracks → All (CanBeAgain others) all → AllByRecursion (Contains all) ps
    → AllByRecursion (CanBeDumped tracks) ps → AllByRecursion (Divides g) ps → AllByRecursion (IsHigh g) ps → AllByRecursion (CanBeKept tracks g) ps
kept_each g tracks others [] all plain again of can whole high = tt
kept_each g tracks others (p ∷ ps) all plain again of can whole high =
    let law : CanBeAgain others p = All-contains (CanBeAgain others) all p again of.0 in (
      record {
        known = known p.track tracks plain can.0.listed;
        narrow = can.0.block.narrow;
        near = can.0.near;
        size = law.size;
        whole = whole.0;
        high = high.0;
      },
      kept_each g tracks others ps all plain again of.1 can.1 whole.1 high.1,
    )

-- ---- the film

pub dumps_read_back : FilmsReadBack → FilmsAreAgain → FilmsHaveShape → DumpsReadBack
unfolding dumped_text
dumps_read_back films again shape scale tracks ps are of =
    let g : ℕ = scale_for scale ps in
    let listed = (shape of.octets of.film of.is).1.each in
    let plain = recursion_from_All IsPlain tracks of.plain in
    let kept = kept_each g tracks of.film.tracks ps of.film.packets plain
    (All-from_recursion (CanBeAgain of.film.tracks) of.film.packets (again of.octets of.film of.is))
    (recursion_from_All (Contains of.film.packets) ps of.packets_of) (recursion_from_All (CanBeDumped tracks) ps are.dumpable.each)
    (scale_divides scale ps) (each_high g ps are.not_low) in
    let can : CanBeWritten g tracks (clusters_of g ps) = record {
      positive = are.positive;
      fits = are.fits;
      few = are.dumpable.few;
      distinct = are.distinct;
      listed = listed_each tracks of.film.tracks listed (recursion_from_All (Contains of.film.tracks) tracks of.tracks_of)
          (recursion_from_All HasNumbers tracks are.numbers) plain;
      entered = clusters_can (length ps) tracks g ps are.positive kept;
    } in (
      written_film g tracks (clusters_of g ps),
      films g tracks (clusters_of g ps) can,
      record {
        scale = refl;
        listed = refl;
        packets = clusters_contents (length ps) tracks g (length (front_text g tracks)) ps (omega arith) kept;
        ending = refl;
      },
    )
