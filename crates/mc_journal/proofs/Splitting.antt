-- What lies between two places, taken apart and put together.
use Rattle.std.proofs.Common.{◌≡◌, ℕ, ◌≤◌, ◌&&◌, List, [], ◌∷◌, ◌++◌, arith, refl, ap, inl, inr}
use Rattle.std.specs.Prelude.{nat_le, nat_lt}
use Rattle.std.specs.List.{AllByRecursion}
use Rattle.std.proofs.lemmas.Bool.{cases_Bool, cases_lt}
use Rattle.mc_packet.specs.declared.packet.Packet.{Packet}
use Rattle.mc_journal.specs.Films.{at, IsRising}
use Rattle.mc_journal.specs.Ranges.{within}
use Rattle.mc_journal.specs.Views.{from_place}
use Rattle.mc_journal.proofs.Within.{in_yes, in_below, in_past, within-past, past_all}
use Rattle.mc_journal.proofs.Rests.{le_yes, le_no}

-- past the middle it makes no difference where it begins
within-behind : (from mid to : ℕ) (ps : List Packet) → from ≤ mid → AllByRecursion (λ q. mid ≤ at q) ps → within from to ps ≡ within mid to ps
within-behind from mid to [] f all = refl
within-behind from mid to (q ∷ qs) f all =
    let e = within-behind from mid to qs f all.1 in
    elim (cases_lt (at q) to) [
      | inl l ↦ rw (in_yes from to (at q) (let h = all.0 in omega arith) l, in_yes mid to (at q) all.0 l) (ap (λ xs. q ∷ xs) e)
      | inr g ↦ rw (in_past from to (at q) g, in_past mid to (at q) g) e
    ]

-- up to the middle, and from there on
pub within-split : (from mid to : ℕ) (ps : List Packet) → IsRising ps → from ≤ mid → mid ≤ to → within from to ps ≡ within from mid ps ++ within mid to ps
within-split from mid to [] rise f g = refl
within-split from mid to (p ∷ ps) rise f g =
    let e = within-split from mid to ps rise.1 f g in
    elim (cases_lt (at p) mid) [
      | inl below ↦ let off = in_below mid to (at p) below in elim (cases_lt (at p) from) [
        | inl under ↦ rw (in_below from to (at p) under, in_below from mid (at p) under, off) e
        | inr over ↦ rw (in_yes from to (at p) over (omega arith), in_yes from mid (at p) over below, off) (ap (λ xs. p ∷ xs) e)
      ]
      | inr past ↦
          let none : within from mid (p ∷ ps) ≡ [] = within-past from mid (p ∷ ps) (past, past_all mid p ps past rise.0) in
          rw none (within-behind from mid to (p ∷ ps) f (past, past_all mid p ps past rise.0))
    ]

-- what is left behind a cut
pub within-cut : (from cut to : ℕ) (ps : List Packet) → from ≤ cut → from_place cut (within from to ps) ≡ within cut to ps
within-cut from cut to [] h = refl
within-cut from cut to (p ∷ ps) h =
    let e = within-cut from cut to ps h in
    elim (cases_lt (at p) to) [
      | inl l ↦ elim (cases_lt (at p) cut) [
        | inl below ↦ elim (cases_Bool (nat_le from (at p) && nat_lt (at p) to)) [
          | inl y ↦ rw (y, le_no cut (at p) below) e
          | inr o ↦ rw (o, in_below cut to (at p) below) e
        ]
        | inr past ↦ rw (in_yes from to (at p) (omega arith) l, in_yes cut to (at p) past l, le_yes cut (at p) past) (ap (λ xs. p ∷ xs) e)
      ]
      | inr g ↦ rw (in_past from to (at p) g, in_past cut to (at p) g) e
    ]
