-- A film that was read is its frames, and its parts.
use Rattle.std.proofs.Common.{◌≡◌, List, ℕ, ◌≤◌, length, Ok, sym, subst, ap, ◌∙◌}
use Rattle.std.proofs.lemmas.Result.{IfOk-at_ok}
use Rattle.mc_walk.specs.declared.plan.Plan.{Plan}
use Rattle.mc_walk.specs.Opening.{opened_film}
use Rattle.mc_walk.specs.Frames.{AreItsFrames}
use Rattle.mc_walk.proofs.Opened.{OpensIn, opened-lies}
use Rattle.mc_walk.proofs.Framing.{are-its-frames}
use Rattle.mc_walk.proofs.Joining.{parts-are-whole}
use Rattle.mc_film.specs.declared.whole.WholeFilm.{WholeFilm}
use Rattle.mc_film.specs.Film.{whole, FilmIsItsFrames, FilmIsItsParts}

pub opens : (octets : List ℕ) (plan : Plan) → opened_film octets ≡ Ok plan → plan.opening ≤ length plan.octets
opens octets plan opened = (IfOk-at_ok (λ (plan : Plan). OpensIn (length plan.octets) plan.opening) opened (opened-lies octets)).1

pub is-its-frames : (octets : List ℕ) (plan : Plan) (f : WholeFilm) → opened_film octets ≡ Ok plan → f ≡ whole plan → FilmIsItsFrames octets f
is-its-frames octets plan f opened is =
    (plan, opened, subst (λ (g : WholeFilm). AreItsFrames plan g.packets) (sym is) (are-its-frames plan (opens octets plan opened)))

pub is-its-parts : (octets : List ℕ) (plan : Plan) (f : WholeFilm) → opened_film octets ≡ Ok plan → f ≡ whole plan → FilmIsItsParts octets f
is-its-parts octets plan f opened is =
    (plan, opened, parts-are-whole plan (opens octets plan opened) ∙ ap (λ (g : WholeFilm). (g.packets, g.ending)) (sym is))
