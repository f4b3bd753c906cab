-- A seek, sent or answered from the cache.
use Rattle.std.proofs.Common.{◌≡◌, ℕ, ◌<◌, Bool, true, false, List, [], ◌∷◌, ◌++◌, Option, Some, None, ℤ, refl, ap, sym, ◌∙◌, inl, inr}
use Rattle.std.specs.Prelude.{map, IfSome, is_some}
use Rattle.std.specs.List.{AllByRecursion}
use Rattle.std.proofs.lemmas.Bool.{cases_Bool}
use Rattle.mc_packet.specs.declared.choice.Dir.{Dir}
use Rattle.mc_packet.specs.declared.choice.Choice.{Choice}
use Rattle.mc_packet.specs.declared.choice.Kind.{Kind}
use Rattle.mc_packet.specs.declared.walk.Ending.{Ending}
use Rattle.mc_packet.specs.declared.packet.Packet.{Packet}
use Rattle.mc_packet.specs.Choices.{has, is_known}
use Rattle.mc_journal.specs.Told.{Told, told}
use Rattle.mc_journal.specs.Films.{fresh, at, first_lane, IsFilm, start_with, start_of}
use Rattle.mc_journal.specs.Ranges.{Range, held_syncs, serves, served_head, IsWhole}
use Rattle.mc_journal.specs.Stands.{ranges_of, first_that, without_first}
use Rattle.mc_journal.specs.Views.{chosen_head}
use Rattle.mc_journal.proofs.Rests.{rest, rest-fresh}
use Rattle.mc_journal.proofs.Starting.{serves-is-start}
use Rattle.mc_journal.proofs.Ahead.{serves-ahead}
use Rattle.mc_journal.proofs.Facts.{IsSound, IsRead, Facts}

pub first_that-is : (P : Range → Type 0) (test : Range → Bool) (rs : List Range) → AllByRecursion P rs → IfSome (first_that test rs) (λ r. P r × (test r ≡ true))
first_that-is P test [] h = tt
first_that-is P test (r ∷ rs) h = elim (cases_Bool (test r)) [ inl y ↦ rw y (h.0, y) | inr n ↦ rw n (first_that-is P test rs h.1) ]

pub all_without : (P : Range → Type 0) (test : Range → Bool) (rs : List Range) → AllByRecursion P rs → AllByRecursion P (without_first test rs)
all_without P test [] h = h
all_without P test (r ∷ rs) h = elim (cases_Bool (test r)) [ inl y ↦ rw y h.1 | inr n ↦ rw n (h.0, all_without P test rs h.1) ]

pub sound_all : (ps : List Packet) (E : Ending) (set : Choice) (current : Option Range) (others : List Range) (Q : Range → Type 0)
    → IfSome current (λ r. IsSound ps E set r × Q r) → AllByRecursion (IsSound ps E set) others
    → AllByRecursion (IsSound ps E set) (ranges_of (record { current = current; others = others }))
sound_all ps E set None others Q here there = there
sound_all ps E set (Some r) others Q here there = (here.0, there)

whole_by : (ps : List Packet) (E : Ending) (m : ℕ) (o : Option Ending) → IfSome o (λ e. (e ≡ E) × AllByRecursion (λ p. at p < m) ps)
    → is_some o ≡ true → AllByRecursion (λ p. at p < m) ps
whole_by ps E m None h is = absurd (cc)
whole_by ps E m (Some e) h is = h.1

pub sound-whole : (ps : List Packet) (E : Ending) (set : Choice) (r : Range) → IsSound ps E set r → IsWhole ps r
sound-whole ps E set r s = record { ended = whole_by ps E (first_lane r.mark) r.ending s.ended; marked = s.marked }

-- a seek that is sent: nothing is current, nothing is given
pub sent_step : (ps : List Packet) (E : Ending) (known : Kind → ℕ → Bool) (set : Choice) (current : Option Range) (others : List Range)
    (pend : Bool) (waiting : ℕ → Bool) (place : ℕ → ℕ) (gave : ℕ → List Told) (from : ℕ → ℕ)
    (waiting' : ℕ → Bool) (place' : ℕ → ℕ) (gave' : ℕ → List Told) (from' : ℕ → ℕ)
    → Facts ps E known set current others pend waiting place gave from
    → ((k : ℕ) → has set k ≡ true → gave' k ≡ [])
    → Facts ps E known set None (ranges_of (record { current = current; others = others })) true waiting' place' gave' from'
sent_step ps E known set current others pend waiting place gave from waiting' place' gave' from' f none = record {
  fits = f.fits;
  here = tt;
  there = sound_all ps E set current others (λ r. (pend ≡ false) × IsRead set waiting place r) (parted current f.here) f.there;
  blank = λ k has_k w. none k has_k;
  going = λ k has_k w. absurd (cc);
}
  where
    parted : (o : Option Range) → IfSome o (λ r. IsSound ps E set r × (pend ≡ false) × IsRead set waiting place r) → IfSome o (λ r. IsSound ps E set r × ((pend ≡ false) × IsRead set waiting place r))
    parted None h = h
    parted (Some r) h = (h.0, (h.1, h.2))

-- a seek that a range serves: it is read on from the served heads, which on a regular film are the fresh reading's
cached_by : (ps : List Packet) (E : Ending) (known : Kind → ℕ → Bool) (set : Choice) (dir : Dir) (t : ℤ) (o : Option Range) (others : List Range)
    (waiting' : ℕ → Bool) (gave' : ℕ → List Told) (from' : ℕ → ℕ)
    → IsFilm ps → is_known known set ≡ true → is_some o ≡ true → IfSome o (λ r. IsSound ps E set r × (serves ps set dir t r ≡ true))
    → AllByRecursion (IsSound ps E set) others
    → ((k : ℕ) → has set k ≡ true → waiting' k ≡ false) → ((k : ℕ) → has set k ≡ true → gave' k ≡ []) → ((k : ℕ) → has set k ≡ true → from' k ≡ start_of ps set dir t k)
    → Facts ps E known set o others false waiting' (λ k. chosen_head ps set dir t k o) gave' from'
cached_by ps E known set dir t None others waiting' gave' from' film fits is chosen there still none starts = absurd (cc)
cached_by ps E known set dir t (Some r) others waiting' gave' from' film fits is chosen there still none starts = record {
  fits = fits;
  here = (
    chosen.0,
    refl,
    record {
      ahead = serves-ahead ps r set dir t film.lanes chosen.1;
      blank = λ k has_k w. absurd (let s = still k has_k in cc);
    },
  );
  there = there;
  blank = λ k has_k w. none k has_k;
  going = λ k has_k w. record {
    start = served_head ps set dir t r k;
    told = ap (λ xs. xs ++ map told (rest k (served_head ps set dir t r k) ps)) (none k has_k);
    exact = λ regular.
        let at_start : start_with (held_syncs r ps) set dir t k ≡ from' k =
        serves-is-start ps r set dir t known film.rising regular (sound-whole ps E set r chosen.0) fits chosen.1 k ∙ sym (starts k has_k) in
        rest-fresh k (start_with (held_syncs r ps) set dir t k) ps film.lanes ∙ ap (λ b. fresh k b ps) at_start;
  };
}

pub cached_step : (ps : List Packet) (E : Ending) (known : Kind → ℕ → Bool) (set : Choice) (dir : Dir) (t : ℤ) (current : Option Range) (others : List Range)
    (pend : Bool) (waiting : ℕ → Bool) (place : ℕ → ℕ) (gave : ℕ → List Told) (from : ℕ → ℕ)
    (waiting' : ℕ → Bool) (gave' : ℕ → List Told) (from' : ℕ → ℕ)
    → IsFilm ps → Facts ps E known set current others pend waiting place gave from
    → is_some (first_that (serves ps set dir t) (ranges_of (record { current = current; others = others }))) ≡ true
    → ((k : ℕ) → has set k ≡ true → waiting' k ≡ false) → ((k : ℕ) → has set k ≡ true → gave' k ≡ []) → ((k : ℕ) → has set k ≡ true → from' k ≡ start_of ps set dir t k)
    → Facts ps E known set (first_that (serves ps set dir t) (ranges_of (record { current = current; others = others })))
    (without_first (serves ps set dir t) (ranges_of (record { current = current; others = others })))
    false waiting' (λ k. chosen_head ps set dir t k (first_that (serves ps set dir t) (ranges_of (record { current = current; others = others })))) gave' from'
cached_step ps E known set dir t current others pend waiting place gave from waiting' gave' from' film f is still none starts =
    let sound = sound_all ps E set current others (λ r. (pend ≡ false) × IsRead set waiting place r) (parted current f.here) f.there in
    cached_by ps E known set dir t (first_that (serves ps set dir t) (ranges_of (record { current = current; others = others })))
    (without_first (serves ps set dir t) (ranges_of (record { current = current; others = others }))) waiting' gave' from' film f.fits is
    (first_that-is (IsSound ps E set) (serves ps set dir t) _ sound) (all_without (IsSound ps E set) (serves ps set dir t) _ sound) still none starts
  where
    parted : (o : Option Range) → IfSome o (λ r. IsSound ps E set r × (pend ≡ false) × IsRead set waiting place r) → IfSome o (λ r. IsSound ps E set r × ((pend ≡ false) × IsRead set waiting place r))
    parted None h = h
    parted (Some r) h = (h.0, (h.1, h.2))
