-- What a demuxer's standing for a film says of its journal and of its readers.
use Rattle.std.proofs.Common.{◌≡◌, ℕ, Bool, true, false, Option, Some, None, refl, sym, subst, ◌∙◌, inl, inr, ◌==◌}
use Rattle.std.specs.Prelude.{reverse}
use Rattle.std.proofs.lemmas.Bool.{cases_Bool, eqb-true}
use Rattle.mc_packet.specs.declared.packet.Packet.{Packet}
use Rattle.mc_packet.specs.declared.choice.Choice.{Choice}
use Rattle.mc_packet.specs.Choices.{is_track, has}
use Rattle.mc_journal.specs.Choices.{kept_of, kept_track}
use Rattle.mc_journal.specs.Films.{Film, IsRegular}
use Rattle.mc_journal.specs.Legal.{IsLegal, IsGapless}
use Rattle.mc_journal.specs.Readings.{selected}
use Rattle.mc_journal.specs.Stands.{stand}
use Rattle.mc_journal.specs.Views.{head, next, was_ended}
use Rattle.mc_journal.specs.Used.{IsUsed, is_still}
use Rattle.mc_journal.proofs.Laws.{allowed-legal, allowed-gapless, used-allowed}
use Rattle.mc_calls.specs.State.{DemuxState, next_in}
use Rattle.mc_calls.specs.Film.{StandsFor}
use Rattle.mc_calls.proofs.Nexts.{next-is}
use Rattle.mc_calls.proofs.Ends.{rest-none, stays_done}

pub stands_used : (film : Film) (d : DemuxState) → StandsFor film d → IsUsed film d.cache.limits (reverse d.journal)
stands_used film d s = s.fits.used

pub stands_still : (film : Film) (d : DemuxState) → StandsFor film d → is_still film.packets (reverse d.journal) ≡ true
stands_still film d s = s.still

pub stands_legal : (film : Film) (d : DemuxState) → StandsFor film d → IsRegular film.packets film.known → IsLegal film.packets film.ending (reverse d.journal)
stands_legal film d s regular = allowed-legal film (reverse d.journal) s.fits.film_is regular (used-allowed film d.cache.limits (reverse d.journal) s.fits.used)

pub stands_gapless : (film : Film) (d : DemuxState) → StandsFor film d → IsGapless film.packets film.ending (reverse d.journal)
stands_gapless film d s = allowed-gapless film (reverse d.journal) s.fits.film_is (used-allowed film d.cache.limits (reverse d.journal) s.fits.used)

-- ---- a track that is among those that pass

kept_one : (o : Option ℕ) (test : ℕ → Bool) (k : ℕ) → is_track (kept_track test o) k ≡ true → (is_track o k ≡ true) × (test k ≡ true)
kept_one None test k e = absurd (cc)
kept_one (Some n) test k e = elim (cases_Bool (test n)) [
  | inl y ↦
      let is : (n == k) ≡ true = rw y at e in
      let same : n ≡ k = eqb-true n k is in
      (is, subst (λ i. test i ≡ true) same y)
  | inr o ↦ absurd (let f : false ≡ true = rw o at e in cc)
]

pub kept-has : (set : Choice) (test : ℕ → Bool) (k : ℕ) → has (kept_of set test) k ≡ true → (has set k ≡ true) × (test k ≡ true)
kept-has set test k e = elim (cases_Bool (is_track (kept_track test set.video) k)) [
  | inl v ↦ let p = kept_one set.video test k v in let q = p.0 in (rw q refl, p.1)
  | inr nv ↦ elim (cases_Bool (is_track (kept_track test set.audio) k)) [
    | inl a ↦
        let p = kept_one set.audio test k a in
        let q = p.0 in
        (elim (cases_Bool (is_track set.video k)) [ inl y ↦ rw y refl | inr n ↦ rw (n, q) refl ], p.1)
    | inr na ↦
        let b : is_track (kept_track test set.sub) k ≡ true = rw (nv, na) at e in
        let p = kept_one set.sub test k b in
        let q = p.0 in (
          elim (cases_Bool (is_track set.video k)) [
            | inl y ↦ rw y refl
            | inr n ↦ elim (cases_Bool (is_track set.audio k)) [ inl z ↦ rw (n, z) refl | inr m ↦ rw (n, m, q) refl ]
          ],
          p.1,
        )
  ]
]

pub none_told : (o : Option Packet) → o ≡ None → o ≡ None
none_told None e = refl
none_told (Some p) e = absurd (cc)

pub stands_ended : (film : Film) (d : DemuxState) (track : ℕ) → StandsFor film d → has d.ended track ≡ true → next_in d.set d.heads track d.cache.current ≡ None
stands_ended film d track s e =
    let h = reverse d.journal in
    let both = kept-has d.set (was_ended h) track (subst (λ (c : Choice). has c track ≡ true) s.fits.ended_are e) in
    let sel : has (selected h) track ≡ true = subst (λ (c : Choice). has c track ≡ true) (sym s.fits.set_is) both.0 in
    let done = stays_done film h track s.fits.film_is (used-allowed film d.cache.limits h s.fits.used) sel both.1 in
    let none : next film.packets h track ≡ None = rest-none film.packets track (head film.packets track h) (stand film.packets h).current done.none in
    let same = next-is film d.cache.limits d.set d.cache.current d.cache.others d.heads d.seeking d.waiting d.switch d.failure d.ended h track s.fits in
    none_told (next_in d.set d.heads track d.cache.current) (sym same ∙ none)
