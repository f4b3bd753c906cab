-- What holds of each plan holds of a film that was read.
use Rattle.std.proofs.Common.{◌≡◌, ◌<◌, ℕ, List, Result, Ok, Err, refl, subst}
use Rattle.mc_tracks.specs.declared.refused.Refused.{Refused}
use Rattle.mc_tracks.specs.Answer.{◌>>=◌}
use Rattle.mc_tracks.specs.TrackList.{IsTrackList}
use Rattle.mc_walk.specs.declared.plan.Plan.{Plan}
use Rattle.mc_walk.specs.Again.{AreAgain, PlansHaveShape, WalksAreAgain}
use Rattle.mc_walk.specs.Opening.{opened_film}
use Rattle.mc_film.specs.declared.whole.WholeFilm.{WholeFilm}
use Rattle.mc_film.specs.Film.{film_of, whole}

by_plan : (P : WholeFilm → Type 0) (octets : List ℕ) (f : WholeFilm) → ((plan : Plan) → opened_film octets ≡ Ok plan → P (whole plan))
    → film_of octets ≡ Ok f → P f
unfolding film_of
by_plan P octets f each is = go (opened_film octets) refl is
  where
    go : (r : Result Plan Refused) → opened_film octets ≡ r → (r >>= λ plan. Ok (whole plan)) ≡ Ok f → P f
    go (Err e) opened h = absurd (cc h)
    go (Ok plan) opened h = let same : whole plan ≡ f = cc h in subst P same (each plan opened)

pub films_again : WalksAreAgain → (octets : List ℕ) (f : WholeFilm) → film_of octets ≡ Ok f → AreAgain f.tracks f.packets
films_again law octets f is = by_plan (λ g. AreAgain g.tracks g.packets) octets f (λ plan opened. law plan) is

pub films_have_shape : PlansHaveShape → (octets : List ℕ) (f : WholeFilm) → film_of octets ≡ Ok f → (0 < f.scale) × IsTrackList f.tracks
films_have_shape law octets f is = by_plan (λ g. (0 < g.scale) × IsTrackList g.tracks) octets f (λ plan opened. law octets plan opened) is
