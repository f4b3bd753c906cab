-- What stands before a film's Clusters is found again, and the film's marks lie in it.
use Rattle.std.proofs.Common.{◌≡◌, ℕ, ◌≤◌, List, length, Result, Ok, Err, refl, sym, ◌∙◌, subst}
use Rattle.mc_packet.specs.declared.walk.Mark.{Mark}
use Rattle.mc_packet.specs.declared.walk.Chunk.{Chunk}
use Rattle.mc_tracks.specs.declared.refused.Refused.{Refused}
use Rattle.mc_tracks.specs.Answer.{◌>>=◌}
use Rattle.mc_tracks.specs.Header.{ebml_header_of}
use Rattle.mc_walk.specs.declared.plan.Plan.{Plan}
use Rattle.mc_walk.specs.declared.plan.Segment.{Segment}
use Rattle.mc_walk.specs.declared.plan.Header.{Header}
use Rattle.mc_walk.specs.Opening.{segment_of, header_of, plan_of, opened_film}
use Rattle.mc_walk.specs.Parts.{chunk_at, place_of, opening_mark, IsMark}
use Rattle.mc_walk.specs.Parts.IsMark.{at_opening, at_end}
use Rattle.mc_walk.proofs.Joining.{mark-lies}
use Rattle.mc_film.specs.declared.whole.WholeFilm.{WholeFilm}
use Rattle.mc_film.specs.Film.{whole, film_of}
use Rattle.mc_film.specs.Chunks.{IsMarkIn}
use Rattle.mc_film.proofs.Laws.{opens}

-- ---- no refusal

pub has_header : (octets : List ℕ) (film : WholeFilm) (r : Refused) → film_of octets ≡ Ok film → Err r ≡ ebml_header_of octets → ⊥
unfolding film_of opened_film
has_header octets film r is none =
    let refused : film_of octets ≡ Err r = rw (← none) refl in absurd (cc (refused, is))

pub has_segment : (octets : List ℕ) (film : WholeFilm) (at : ℕ) (r : Refused) → film_of octets ≡ Ok film → Ok at ≡ ebml_header_of octets → Err r ≡ segment_of octets at → ⊥
unfolding film_of opened_film
has_segment octets film at r is header none =
    let refused : film_of octets ≡ Err r = rw (← header, ← none) refl in absurd (cc (refused, is))

-- ---- what a walk goes over

abbrev pub plan_by : List ℕ → Segment → WholeFilm → Plan
plan_by octets segment film =
    record { octets = octets; opening = segment.opening; segment_end = segment.end; scale = film.scale; tracks = film.tracks }

by_header : (octets : List ℕ) (film : WholeFilm) (segment : Segment) (h : Result Header Refused) → ((h >>= λ h. Ok (plan_of octets segment h)) >>= λ plan. Ok (whole plan)) ≡ Ok film
    → (h >>= λ h. Ok (plan_of octets segment h)) ≡ Ok (plan_by octets segment film)
by_header octets film segment (Ok h) is = let same : whole (plan_of octets segment h) ≡ film = cc is in rw (← same) refl
by_header octets film segment (Err r) is = absurd (cc is)

pub opened_again : (octets : List ℕ) (film : WholeFilm) (at : ℕ) (segment : Segment) → film_of octets ≡ Ok film → Ok at ≡ ebml_header_of octets → Ok segment ≡ segment_of octets at
    → opened_film octets ≡ Ok (plan_by octets segment film)
unfolding film_of opened_film
opened_again octets film at segment is header found =
    let one : opened_film octets ≡ (header_of octets segment >>= λ h. Ok (plan_of octets segment h)) = rw (← header, ← found) refl in
    one ∙ by_header octets film segment (header_of octets segment) (rw one at is)

-- ---- its marks

is_mark : (octets : List ℕ) (plan : Plan) (m : Mark) → opened_film octets ≡ Ok plan → IsMarkIn octets m → IsMark plan m
is_mark octets plan m opened is =
    let same : is.0 ≡ plan = cc (opened, is.1) in subst (λ (p : Plan). IsMark p m) same is.2

pub mark_within : (octets : List ℕ) (plan : Plan) (m : Mark) → opened_film octets ≡ Ok plan → IsMarkIn octets m → place_of plan m ≤ length plan.octets
mark_within octets plan m opened is = mark-lies plan m (opens octets plan opened) (is_mark octets plan m opened is)

pub ends_at_mark : (octets : List ℕ) (plan : Plan) (m : Mark) (k : Chunk) → opened_film octets ≡ Ok plan → IsMarkIn octets m → k ≡ chunk_at plan m → IsMarkIn octets k.to
ends_at_mark octets plan m k opened marked is =
    (plan, opened, subst (λ (k : Chunk). IsMark plan k.to) (sym is) (at_end m (is_mark octets plan m opened marked)))

pub opens_at_mark : (octets : List ℕ) (plan : Plan) → opened_film octets ≡ Ok plan → IsMarkIn octets opening_mark
opens_at_mark octets plan opened = (plan, opened, at_opening)
