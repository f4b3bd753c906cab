-- A queue that serves a seek forward shows the sync point that the whole film gives.
use Rattle.std.proofs.Common.{◌≡◌, ℕ, ◌<◌, ◌≤◌, ◌==◌, Bool, true, false, ◌&&◌, ◌||◌, List, [], ◌∷◌, Option, Some, None, ℤ, arith, refl, ap, sym, subst, ◌∙◌, ◌⊎◌, inl, inr}
use Rattle.std.specs.Prelude.{int_le, int_lt, if◌then◌else◌, ◌<ℤ◌, ◌≤ℤ◌, is_some}
use Rattle.std.specs.List.{AllByRecursion}
use Rattle.std.proofs.lemmas.Int.{ints}
use Rattle.std.proofs.lemmas.Bool.{cases_Bool, cases_lt, or_cases, and_parts}
use Rattle.std.proofs.lemmas.Bool.Decides.{nat_tests}
use Rattle.mc_packet.specs.declared.choice.Dir.TheVariants.{Forward}
use Rattle.mc_packet.specs.declared.packet.Packet.{Packet}
use Rattle.mc_packet.specs.Choices.{or_else}
use Rattle.mc_journal.specs.Films.{at, IsRising, TimesRise, last, first_from, sync_for}
use Rattle.mc_journal.specs.Ranges.{within, any_below, is_upto, served_forward}
use Rattle.mc_journal.proofs.Lists.{all_kept, or_else-cases}
use Rattle.mc_journal.proofs.Within.{in_yes, in_below, within-past, within-whole, past_all, all_low}

-- what holds of each packet holds of the first one at or after t
pub first_from-all : (Q : Packet → Type 0) (t : ℤ) (ps : List Packet) (s : Packet) → AllByRecursion Q ps → first_from t ps ≡ Some s → Q s
first_from-all Q t [] s all h = absurd (cc)
first_from-all Q t (p ∷ ps) s all h = elim (cases_Bool (int_le t p.time)) [
  | inl y ↦ let e : Some p ≡ Some s = rw y at h in let same : p ≡ s = cc in subst Q same all.0
  | inr n ↦ first_from-all Q t ps s all.1 (rw n at h)
]

-- and of the last one
pub last-all : (Q : Packet → Type 0) (ps : List Packet) (s : Packet) → AllByRecursion Q ps → last ps ≡ Some s → Q s
last-all Q [] s all h = absurd (cc)
last-all Q (p ∷ ps) s all h = elim (or_else-cases (last ps) (Some p) s h) [
  | inl there ↦ last-all Q ps s all.1 there
  | inr here ↦ let e : Some p ≡ Some s = here.1 in let same : p ≡ s = cc in subst Q same all.0
]

-- one is below t, and all are later than u
below-late : (t u : ℤ) (ps : List Packet) → AllByRecursion (λ q. u <ℤ q.time) ps → any_below t ps ≡ true → u <ℤ t
below-late t u [] all h = absurd (cc)
below-late t u (p ∷ ps) all h = elim (or_cases (int_lt p.time t) (any_below t ps) h) [
  | inl y ↦ let l = all.0 in grind (arith, ints)
  | inr more ↦ below-late t u ps all.1 more
]

-- the one inside shows that none before it is at least t: it is at t, or one below t lies inside, or nothing lies before
abbrev Shows : ℕ → ℤ → Packet → List Packet → List Packet → Type 0
Shows from t s inside ps = (s.time ≤ℤ t) ⊎ ((any_below t inside ≡ true) ⊎ AllByRecursion (λ p. from ≤ at p) ps)

-- the first inside at or after t is the first at all
some-from : (from to : ℕ) (t : ℤ) (s : Packet) (ps : List Packet) → IsRising ps → TimesRise ps
    → first_from t (within from to ps) ≡ Some s → Shows from t s (within from to ps) ps → first_from t ps ≡ Some s
some-from from to t s [] rise times some shows = some
some-from from to t s (p ∷ ps) rise times some shows =
    elim (cases_lt (at p) from) [
      | inl under ↦
          let n = in_below from to (at p) under in
          let some' : first_from t (within from to ps) ≡ Some s = rw n at some in
          let inside : AllByRecursion (λ q. p.time <ℤ q.time) (within from to ps) = all_kept (λ q. p.time <ℤ q.time) _ ps times.0 in
          let early : p.time <ℤ t = elim shows [
            | inl upto ↦ let l : p.time <ℤ s.time = first_from-all (λ q. p.time <ℤ q.time) t (within from to ps) s inside some' in grind (arith, ints)
            | inr more ↦ elim more [
              | inl below ↦ below-late t p.time (within from to ps) inside (rw n at below)
              | inr low ↦ absurd (omega (arith, low.0))
            ]
          ] in
          let off : int_le t p.time ≡ false = grind (arith, ints) in
          let shows' : Shows from t s (within from to ps) ps = elim shows [
            | inl upto ↦ inl upto
            | inr more ↦ elim more [ inl below ↦ inr (inl (rw n at below)) | inr low ↦ inr (inr low.1) ]
          ] in
          rw off (some-from from to t s ps rise.1 times.1 some' shows')
      | inr over ↦ elim (cases_lt (at p) to) [
        | inl below ↦
            let y = in_yes from to (at p) over below in
            let some' : (if int_le t p.time then Some p else first_from t (within from to ps)) ≡ Some s = rw y at some in
            elim (cases_Bool (int_le t p.time)) [
              | inl soon ↦ rw soon (rw soon at some')
              | inr off ↦ rw off (some-from from to t s ps rise.1 times.1 (rw off at some') (inr (inr (past_all from p ps over rise.0))))
            ]
        | inr past ↦
            let e : within from to (p ∷ ps) ≡ [] = within-past from to (p ∷ ps) (past, past_all to p ps past rise.0) in
            absurd (let f : first_from t [] ≡ Some s = rw e at some in cc)
      ]
    ]

-- none is at or after t, so all are before
all-early : (t : ℤ) (ps : List Packet) → first_from t ps ≡ None → AllByRecursion (λ p. p.time <ℤ t) ps
all-early t [] h = tt
all-early t (p ∷ ps) h = elim (cases_Bool (int_le t p.time)) [
  | inl y ↦ absurd (let e : Some p ≡ None = rw y at h in cc)
  | inr n ↦ (grind (arith, ints), all-early t ps (rw n at h))
]

-- none inside is at or after t, and nothing lies past: then none at all is, and the last inside is the last
none-from : (from to : ℕ) (t : ℤ) (s : Packet) (ps : List Packet) → IsRising ps → TimesRise ps → AllByRecursion (λ p. at p < to) ps
    → first_from t (within from to ps) ≡ None → last (within from to ps) ≡ Some s → (first_from t ps ≡ None) × (last ps ≡ Some s)
none-from from to t s [] rise times high none is = absurd (cc)
none-from from to t s (p ∷ ps) rise times high none is =
    elim (cases_lt (at p) from) [
      | inl under ↦
          let n = in_below from to (at p) under in
          let both = none-from from to t s ps rise.1 times.1 high.1 (rw n at none) (rw n at is) in
          let before : p.time <ℤ s.time = last-all (λ q. p.time <ℤ q.time) ps s times.0 both.1 in
          let early : s.time <ℤ t = last-all (λ q. q.time <ℤ t) ps s (all-early t ps both.0) both.1 in
          let off : int_le t p.time ≡ false = grind (arith, ints) in
          (rw off both.0, rw both.1 refl)
      | inr over ↦
          let whole : within from to (p ∷ ps) ≡ p ∷ ps = within-whole from to (p ∷ ps) (over, past_all from p ps over rise.0) high in
          (ap (first_from t) (sym whole) ∙ none, ap last (sym whole) ∙ is)
    ]

shown_by : (from : ℕ) (t : ℤ) (s : Packet) (inside ps : List Packet) → (is_upto t (Some s) || (any_below t inside || from == 0)) ≡ true → Shows from t s inside ps
shown_by from t s inside ps h = elim (or_cases (int_le s.time t) (any_below t inside || from == 0) h) [
  | inl upto ↦ inl (grind (arith, ints))
  | inr more ↦ elim (or_cases (any_below t inside) (from == 0) more) [
    | inl below ↦ inr (inl below)
    | inr begin ↦ let zero_from : from ≡ 0 = grind (arith, nat_tests) in inr (inr (rw zero_from (all_low ps)))
  ]
]

last_by : (from to : ℕ) (t : ℤ) (ps : List Packet) → IsRising ps → TimesRise ps → AllByRecursion (λ p. at p < to) ps → first_from t (within from to ps) ≡ None
    → (o : Option Packet) → last (within from to ps) ≡ o → (is_some o || from == 0) ≡ true → last (within from to ps) ≡ sync_for Forward t ps
last_by from to t ps rise times high none (Some s) is h =
    let both = none-from from to t s ps rise times high none is in
    rw both.0 (is ∙ sym both.1)
last_by from to t ps rise times high none None is h =
    let begin : from ≡ 0 = grind (arith, nat_tests) in
    let low : AllByRecursion (λ p. from ≤ at p) ps = rw begin (all_low ps) in
    let whole : within from to ps ≡ ps = within-whole from to ps low high in
    let off : first_from t ps ≡ None = ap (first_from t) (sym whole) ∙ none in
    rw off (ap last whole)

forward_by : (from to : ℕ) (ended : Bool) (t : ℤ) (ps : List Packet) → IsRising ps → TimesRise ps
    → (ended ≡ true → AllByRecursion (λ p. at p < to) ps)
    → (o : Option Packet) → first_from t (within from to ps) ≡ o
    → (if is_some o then is_upto t o || (any_below t (within from to ps) || from == 0) else ended && (is_some (last (within from to ps)) || from == 0)) ≡ true
    → or_else o (last (within from to ps)) ≡ sync_for Forward t ps
forward_by from to ended t ps rise times whole (Some s) is h =
    rw (some-from from to t s ps rise times is (shown_by from t s (within from to ps) ps h)) refl
forward_by from to ended t ps rise times whole None is h =
    let parts = and_parts ended (is_some (last (within from to ps)) || from == 0) h in
    last_by from to t ps rise times (whole parts.0) is (last (within from to ps)) refl parts.1

-- where a queue shows which sync point a seek forward asks for, it is the one of the whole film
pub forward-is-sync : (from to : ℕ) (ended : Bool) (t : ℤ) (ps : List Packet) → IsRising ps → TimesRise ps
    → (ended ≡ true → AllByRecursion (λ p. at p < to) ps) → served_forward from ended t (within from to ps) ≡ true
    → sync_for Forward t (within from to ps) ≡ sync_for Forward t ps
forward-is-sync from to ended t ps rise times whole h = forward_by from to ended t ps rise times whole (first_from t (within from to ps)) refl h
