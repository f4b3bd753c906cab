-- A queue that serves a seek back shows the sync point that the whole film gives.
use Rattle.std.proofs.Common.{◌≡◌, ℕ, ◌<◌, ◌≤◌, ◌==◌, Bool, true, false, ◌&&◌, ◌||◌, List, [], ◌∷◌, Option, Some, None, ℤ, arith, refl, ◌⊎◌, inl, inr}
use Rattle.std.specs.Prelude.{nat_le, nat_lt, int_le, if◌then◌else◌, ◌<ℤ◌, ◌≤ℤ◌, is_some}
use Rattle.std.specs.List.{AllByRecursion}
use Rattle.std.proofs.lemmas.Int.{ints}
use Rattle.std.proofs.lemmas.Bool.{cases_Bool, cases_lt, or_cases, and_parts}
use Rattle.std.proofs.lemmas.Bool.Decides.{nat_tests}
use Rattle.mc_packet.specs.declared.choice.Dir.TheVariants.{Back}
use Rattle.mc_packet.specs.declared.packet.Packet.{Packet}
use Rattle.mc_packet.specs.Choices.{or_else}
use Rattle.mc_journal.specs.Films.{at, IsRising, TimesRise, first, last_upto, sync_for}
use Rattle.mc_journal.specs.Ranges.{within, any_from, served_back}
use Rattle.mc_journal.proofs.Lists.{or_else-cases, or_else-some}
use Rattle.mc_journal.proofs.Within.{in_yes, in_below, within-past, past_all, late_all, all_low}

-- all are later than t, so none is at most t
later : (t : ℤ) (ps : List Packet) → AllByRecursion (λ p. t <ℤ p.time) ps → last_upto t ps ≡ None
later t [] h = refl
later t (p ∷ ps) h =
    let e = later t ps h.1 in
    let l : int_le p.time t ≡ false = grind (arith, ints) in
    rw (e, l)

-- nor is one inside
within-later : (from to : ℕ) (t : ℤ) (ps : List Packet) → AllByRecursion (λ p. t <ℤ p.time) ps → last_upto t (within from to ps) ≡ None
within-later from to t [] h = refl
within-later from to t (p ∷ ps) h =
    let e = within-later from to t ps h.1 in
    let l : int_le p.time t ≡ false = grind (arith, ints) in
    elim (cases_Bool (nat_le from (at p) && nat_lt (at p) to)) [
      | inl y ↦ rw (y, e, l)
      | inr n ↦ rw (n, e)
    ]

-- none is at most t, so the first is later
first-late : (t : ℤ) (p : Packet) (ps : List Packet) → last_upto t (p ∷ ps) ≡ None → t <ℤ p.time
first-late t p ps h =
    elim (cases_Bool (int_le p.time t)) [
      | inl y ↦ absurd (or_else-some (last_upto t ps) p (rw y at h))
      | inr n ↦ grind (arith, ints)
    ]

-- one inside is seen, or there are no more behind it
abbrev IsSeen : ℕ → Bool → List Packet → Type 0
IsSeen to seen ps = (seen ≡ true) ⊎ AllByRecursion (λ p. at p < to) ps

-- none inside is at most t, and the first inside is seen or there is no more: then none at all is
none-upto : (from to : ℕ) (t : ℤ) (ps : List Packet) → IsRising ps → TimesRise ps
    → AllByRecursion (λ p. from ≤ at p) ps → last_upto t (within from to ps) ≡ None
    → IsSeen to (is_some (first (within from to ps))) ps
    → (last_upto t ps ≡ None) × (first (within from to ps) ≡ first ps)
none-upto from to t [] rise times low none seen = (refl, refl)
none-upto from to t (p ∷ ps) rise times low none seen =
    elim (cases_lt (at p) to) [
      | inl below ↦
          let y = in_yes from to (at p) low.0 below in
          let late : t <ℤ p.time = first-late t p (within from to ps) (rw y at none) in
          let soon : t ≤ℤ p.time = grind (arith, ints) in
          (later t (p ∷ ps) (late, late_all t p ps soon times.0), rw y refl)
      | inr past ↦
          let e : within from to (p ∷ ps) ≡ [] = within-past from to (p ∷ ps) (past, past_all to p ps past rise.0) in
          elim seen [ inl s ↦ absurd (let f : is_some (first []) ≡ true = rw e at s in cc) | inr all ↦ absurd (omega (arith, all.0)) ]
    ]

first-seen : (t : ℤ) (ps : List Packet) → any_from t ps ≡ true → is_some (first ps) ≡ true
first-seen t [] h = h
first-seen t (p ∷ ps) h = refl

-- the last inside that is at most t is the last at all, where one inside is at least t or there is no more
some-upto : (from to : ℕ) (t : ℤ) (s : Packet) (ps : List Packet) → IsRising ps → TimesRise ps
    → last_upto t (within from to ps) ≡ Some s → IsSeen to (any_from t (within from to ps)) ps → last_upto t ps ≡ Some s
some-upto from to t s [] rise times some seen = some
some-upto from to t s (p ∷ ps) rise times some seen =
    elim (cases_lt (at p) from) [
      | inl under ↦
          let n = in_below from to (at p) under in
          let seen' : IsSeen to (any_from t (within from to ps)) ps = elim seen [ inl a ↦ inl (rw n at a) | inr all ↦ inr all.1 ] in
          rw (some-upto from to t s ps rise.1 times.1 (rw n at some) seen') refl
      | inr over ↦ elim (cases_lt (at p) to) [
        | inl below ↦
            let y = in_yes from to (at p) over below in
            let low = past_all from p ps over rise.0 in
            let some' : or_else (last_upto t (within from to ps)) (if int_le p.time t then Some p else None) ≡ Some s = rw y at some in
            let seen' : ((int_le t p.time || any_from t (within from to ps)) ≡ true) ⊎ AllByRecursion (λ q. at q < to) (p ∷ ps) = elim seen [ inl a ↦ inl (rw y at a) | inr all ↦ inr all ] in
            elim (or_else-cases (last_upto t (within from to ps)) (if int_le p.time t then Some p else None) s some') [
              | inl here ↦
                  let seen'' : IsSeen to (any_from t (within from to ps)) ps = elim seen' [
                    | inl a ↦ elim (or_cases (int_le t p.time) (any_from t (within from to ps)) a) [
                      | inl soon ↦
                          let none = within-later from to t ps (late_all t p ps (grind (arith, ints)) times.0) in
                          absurd (cc)
                      | inr more ↦ inl more
                    ]
                    | inr all ↦ inr all.1
                  ] in
                  rw (some-upto from to t s ps rise.1 times.1 here seen'') refl
              | inr last ↦
                  let none : last_upto t ps ≡ None = elim seen' [
                    | inl a ↦ elim (or_cases (int_le t p.time) (any_from t (within from to ps)) a) [
                      | inl soon ↦ later t ps (late_all t p ps (grind (arith, ints)) times.0)
                      | inr more ↦ (none-upto from to t ps rise.1 times.1 low last.0 (inl (first-seen t (within from to ps) more))).0
                    ]
                    | inr all ↦ (none-upto from to t ps rise.1 times.1 low last.0 (inr all.1)).0
                  ] in
                  rw none last.1
            ]
        | inr past ↦
            let e : within from to (p ∷ ps) ≡ [] = within-past from to (p ∷ ps) (past, past_all to p ps past rise.0) in
            absurd (let f : last_upto t [] ≡ Some s = rw e at some in cc)
      ]
    ]

seen_by : (to : ℕ) (seen ended : Bool) (ps : List Packet) → (ended ≡ true → AllByRecursion (λ p. at p < to) ps) → (seen || ended) ≡ true → IsSeen to seen ps
seen_by to seen ended ps whole h = elim (or_cases seen ended h) [ inl a ↦ inl a | inr e ↦ inr (whole e) ]

back_by : (from to : ℕ) (ended : Bool) (t : ℤ) (ps : List Packet) → IsRising ps → TimesRise ps
    → (ended ≡ true → AllByRecursion (λ p. at p < to) ps)
    → (last : Option Packet) → last_upto t (within from to ps) ≡ last
    → (if is_some last then any_from t (within from to ps) || ended else from == 0 && (is_some (first (within from to ps)) || ended)) ≡ true
    → or_else last (first (within from to ps)) ≡ sync_for Back t ps
back_by from to ended t ps rise times whole (Some s) is h =
    rw (some-upto from to t s ps rise times is (seen_by to _ ended ps whole h)) refl
back_by from to ended t ps rise times whole None is h =
    let parts = and_parts (from == 0) (is_some (first (within from to ps)) || ended) h in
    let begin : from ≡ 0 = grind (arith, nat_tests) in
    let low : AllByRecursion (λ p. from ≤ at p) ps = rw begin (all_low ps) in
    let both = none-upto from to t ps rise times low is (seen_by to _ ended ps whole parts.1) in
    rw (both.0, both.1) refl

-- where a queue shows which sync point a seek back asks for, it is the one of the whole film
pub back-is-sync : (from to : ℕ) (ended : Bool) (t : ℤ) (ps : List Packet) → IsRising ps → TimesRise ps
    → (ended ≡ true → AllByRecursion (λ p. at p < to) ps) → served_back from ended t (within from to ps) ≡ true
    → sync_for Back t (within from to ps) ≡ sync_for Back t ps
back-is-sync from to ended t ps rise times whole h = back_by from to ended t ps rise times whole (last_upto t (within from to ps)) refl h
