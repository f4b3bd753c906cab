-- What is shown of the ranges, and of where they begin.
use Rattle.std.proofs.Common.{◌∷◌, ◌≡◌, ℕ, ◌==◌, List, [], ◌++◌, Option, Some, None, refl, subst, arith, inl, inr}
use Rattle.std.specs.Prelude.{map, nat_le}
use Rattle.std.proofs.lemmas.Bool.{cases_Bool, leb-true, leb-false, eq-eqb, ne_eqb}
use Rattle.std.specs.List.{AllByRecursion}
use Rattle.mc_packet.specs.declared.cache.RangeView.{RangeView}
use Rattle.mc_packet.specs.declared.packet.Pos.{Pos}
use Rattle.mc_journal.specs.Films.{rank}
use Rattle.mc_range.specs.Range.{RangeState}
use Rattle.mc_range.specs.Filmed.{HaveFrames}
use Rattle.mc_range.specs.Tracks.{intervals}
use Rattle.mc_cache.specs.Cache.{in_front}
use Rattle.mc_cache.specs.Shown.{shown}

zero_is : rank (record { block = 0; lane = 0 }) ≡ 0
unfolding rank
zero_is = refl

pub at_start : (p : Pos) → nat_le (rank p) (rank (record { block = 0; lane = 0 })) ≡ (rank p == 0)
at_start p = rw zero_is (by_test (rank p))
  where
    by_test : (n : ℕ) → nat_le n 0 ≡ (n == 0)
    by_test n = elim (cases_Bool (nat_le n 0)) [
      | inl y ↦ let l = leb-true n 0 y in let e = eq-eqb n 0 (omega arith) in rw (y, e) refl
      | inr m ↦ let l = leb-false n 0 m in let e = ne_eqb n 0 (λ z. absurd (omega arith)) in rw (m, e) refl
    ]

pub front_shown : (c : Option RangeState) (rs : List RangeState) → map shown (in_front c []) ++ map shown rs ≡ map shown (in_front c rs)
front_shown None rs = refl
front_shown (Some r) rs = refl

pub framed_more : (vs : List RangeView) (v : RangeView) → AllByRecursion (λ x. HaveFrames x.spans) vs → HaveFrames v.spans → AllByRecursion (λ x. HaveFrames x.spans) (vs ++ v ∷ [])
framed_more [] v a f = (f, tt)
framed_more (w ∷ vs) v a f = (a.0, framed_more vs v a.1 f)

pub framed_ranges : (rs : List RangeState) (vs : List RangeView) → vs ≡ map shown rs → AllByRecursion (λ x. HaveFrames x.spans) vs → AllByRecursion (λ r. HaveFrames (intervals r.queues)) rs
framed_ranges rs vs e a = by rs (subst (λ (xs : List RangeView). AllByRecursion (λ x. HaveFrames x.spans) xs) e a)
  where
    by : (rs : List RangeState) → AllByRecursion (λ (x : RangeView). HaveFrames x.spans) (map shown rs) → AllByRecursion (λ r. HaveFrames (intervals r.queues)) rs
    by [] a = tt
    by (r ∷ rs) a = (a.0, by rs a.1)
