-- What was read before the Clusters is what the film opens with.
use Rattle.std.proofs.Common.{◌≡◌, ℕ, List, Result, Ok, Err, refl}
use Rattle.mc_tracks.specs.Header.{ebml_header_of}
use Rattle.mc_walk.specs.declared.plan.Segment.{Segment}
use Rattle.mc_walk.specs.declared.plan.Header.{Header}
use Rattle.mc_walk.specs.Opening.{segment_of, header_of, plan_of, opened_film}
use Rattle.mc_cursor.specs.declared.error.OpenError.{OpenError}
use Rattle.mc_cursor.specs.declared.error.OpenError.TheVariants as refusals
use Rattle.std.specs.Result.{IsErr, IsErrAnd}
use Rattle.mc_cursor.specs.declared.cursor.Cursor.{Cursor}
use Rattle.mc_cursor.specs.Begins.{Fails, Begins}

pub opened_by : (octets : List ℕ) (at : ℕ) (segment : Segment) (h : Header) → ebml_header_of octets ≡ Ok at → segment_of octets at ≡ Ok segment → header_of octets segment ≡ Ok h
    → opened_film octets ≡ Ok (plan_of octets segment h)
unfolding opened_film
opened_by octets at segment h first second third = rw (first, second, third) refl

pub refused_at_header : (octets : List ℕ) (e : OpenError) → Fails e (ebml_header_of octets) → Fails e (opened_film octets)
unfolding opened_film
refused_at_header octets (refusals.Refused r) fails = rw fails refl
refused_at_header octets refusals.ReadFault fails = tt
refused_at_header octets refusals.NoMemory fails = tt

pub refused_at_segment : (octets : List ℕ) (at : ℕ) (e : OpenError) → ebml_header_of octets ≡ Ok at → Fails e (segment_of octets at) → Fails e (opened_film octets)
unfolding opened_film
refused_at_segment octets at (refusals.Refused r) first fails = rw (first, fails) refl
refused_at_segment octets at refusals.ReadFault first fails = tt
refused_at_segment octets at refusals.NoMemory first fails = tt

pub refused_at_children : (octets : List ℕ) (at : ℕ) (segment : Segment) (e : OpenError) → ebml_header_of octets ≡ Ok at → segment_of octets at ≡ Ok segment → Fails e (header_of octets segment)
    → Fails e (opened_film octets)
unfolding opened_film
refused_at_children octets at segment (refusals.Refused r) first second fails = rw (first, second, fails) refl
refused_at_children octets at segment refusals.ReadFault first second fails = tt
refused_at_children octets at segment refusals.NoMemory first second fails = tt

-- the error that is passed on
pub begins_by : (octets : List ℕ) (e : OpenError) (result : Result Cursor OpenError) → IsErr result × IsErrAnd result (λ x. x ≡ e) → Fails e (opened_film octets) → Begins octets result
begins_by octets e (Ok c) is fails = let wrong = is.0 in cc wrong
begins_by octets e (Err x) is fails = rw is.1 fails
