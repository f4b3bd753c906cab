-- Lists of packets as a journal tells of them, and parts of them from place to place.
use Rattle.std.proofs.Common.{◌≡◌, ℕ, ◌<◌, ◌≤◌, ◌==◌, Bool, false, ◌&&◌, List, [], ◌∷◌, ◌++◌, Option, ℤ, arith, refl, ap, sym, ◌∙◌, inl, inr}
use Rattle.std.specs.Prelude.{nat_le, nat_lt}
use Rattle.std.specs.List.{filter, find}
use Rattle.std.specs.Option.{option_map}
use Rattle.std.proofs.lemmas.Bool.{cases_Bool, cases_lt, leb-true, leb-false, lt-ltb, le-ltb, ne_eqb, true≢false}
use Rattle.mc_packet.specs.declared.packet.Packet.{Packet}
use Rattle.mc_packet.specs.declared.packet.Pos.{Pos}
use Rattle.mc_journal.specs.Films.{at, rank, IsRising}
use Rattle.mc_journal.specs.Ranges.{within}
use Rattle.mc_journal.specs.Views.{from_place}
use Rattle.mc_journal.proofs.Within.{in_yes, in_below, in_past}
use Rattle.mc_journal.proofs.Splitting.{within-split, within-cut}
use Rattle.mc_queue.specs.Differences.{time_at}
use Rattle.mc_queue.specs.Union.{earlier, later}
use Rattle.mc_queue.proofs.Uniting.{earlier_least, later_greatest}

-- ---- one test behind another

pub kept_swap : (f g : Packet → Bool) (ps : List Packet) → filter f (filter g ps) ≡ filter g (filter f ps)
kept_swap f g [] = refl
kept_swap f g (p ∷ ps) =
    let e = kept_swap f g ps in
    elim (cases_Bool (f p)) [
      | inl y ↦ elim (cases_Bool (g p)) [ inl z ↦ rw (z, y, z) (ap (λ xs. p ∷ xs) e) | inr z ↦ rw (z, y, z) e ]
      | inr n ↦ elim (cases_Bool (g p)) [ inl z ↦ rw (z, n) e | inr z ↦ rw (z, n) e ]
    ]

-- ---- parts

abbrev pub before : ℕ → List Packet → List Packet
before cut ps = filter (λ p. nat_lt (at p) cut) ps

pub none_within : (from to : ℕ) (ps : List Packet) → to ≤ from → within from to ps ≡ []
none_within from to [] l = refl
none_within from to (p ∷ ps) l =
    let e = none_within from to ps l in
    elim (cases_lt (at p) from) [
      | inl m ↦ rw (in_below from to (at p) m) e
      | inr m ↦ rw (in_past from to (at p) (omega arith)) e
    ]

before_within : (from to cut : ℕ) (ps : List Packet) → cut ≤ to → before cut (within from to ps) ≡ within from cut ps
before_within from to cut [] l = refl
before_within from to cut (p ∷ ps) l =
    let e = before_within from to cut ps l in
    elim (cases_lt (at p) from) [
      | inl m ↦ rw (in_below from to (at p) m, in_below from cut (at p) m) e
      | inr m ↦ elim (cases_lt (at p) cut) [
        | inl k ↦ rw (in_yes from to (at p) m (omega arith), in_yes from cut (at p) m k, lt-ltb (at p) cut k) (ap (λ xs. p ∷ xs) e)
        | inr k ↦ elim (cases_lt (at p) to) [
          | inl i ↦ rw (in_yes from to (at p) m i, in_past from cut (at p) k, le-ltb (at p) cut k) e
          | inr i ↦ rw (in_past from to (at p) i, in_past from cut (at p) k) e
        ]
      ]
    ]

front_part : (a b : Pos) (ps : List Packet) → within (rank b) (rank a) ps ≡ within (rank (earlier a b)) (rank a) ps
front_part a b ps = elim (cases_Bool (nat_le (rank a) (rank b))) [
  | inl y ↦
      let l = leb-true (rank a) (rank b) y in
      rw y (none_within (rank b) (rank a) ps l ∙ sym (none_within (rank a) (rank a) ps (omega arith)))
  | inr n ↦ rw n refl
]

pub rear_part : (a b : Pos) (ps : List Packet) → within (rank a) (rank b) ps ≡ within (rank a) (rank (later a b)) ps
rear_part a b ps = elim (cases_Bool (nat_le (rank a) (rank b))) [
  | inl y ↦ rw y refl
  | inr n ↦
      let l = leb-false (rank a) (rank b) n in
      rw n (none_within (rank a) (rank b) ps (omega arith) ∙ sym (none_within (rank a) (rank a) ps (omega arith)))
]

-- a part that is read on to a place, which may lie before its end
pub grown_part : (f t u : Pos) (ps : List Packet) → IsRising ps → rank f ≤ rank t
    → within (rank f) (rank t) ps ++ within (rank t) (rank u) ps ≡ within (rank f) (rank (later t u)) ps
grown_part f t u ps r l =
    let h = later_greatest t u in
    ap (λ qs. within (rank f) (rank t) ps ++ qs) (rear_part t u ps)
    ∙ sym (within-split (rank f) (rank t) (rank (later t u)) ps r l h.0)

-- two parts that meet
pub united_part : (f t g u : Pos) (ps : List Packet) → IsRising ps → rank f ≤ rank t → rank f ≤ rank u → rank g ≤ rank t
    → before (rank f) (within (rank g) (rank u) ps) ++ (within (rank f) (rank t) ps ++ from_place (rank t) (within (rank g) (rank u) ps)) ≡ within (rank (earlier f g)) (rank (later t u)) ps
united_part f t g u ps r l m n =
    let lo = rank (earlier f g) in
    let hi = rank (later t u) in
    let e = earlier_least f g in
    let h = later_greatest t u in
    let e0 = e.0 in
    let h0 = h.0 in
    let front : before (rank f) (within (rank g) (rank u) ps) ≡ within lo (rank f) ps = before_within (rank g) (rank u) (rank f) ps m ∙ front_part f g ps in
    let rear : from_place (rank t) (within (rank g) (rank u) ps) ≡ within (rank t) hi ps = within-cut (rank g) (rank t) (rank u) ps n ∙ rear_part t u ps in
    let two = within-split (rank f) (rank t) hi ps r l h.0 in
    let all = within-split lo (rank f) hi ps r e.0 (omega arith) in
    ap (λ qs. qs ++ (within (rank f) (rank t) ps ++ from_place (rank t) (within (rank g) (rank u) ps))) front
    ∙ ap (λ qs. within lo (rank f) ps ++ (within (rank f) (rank t) ps ++ qs)) rear
    ∙ ap (λ qs. within lo (rank f) ps ++ qs) (sym two) ∙ sym all

-- ---- the time at a place

abbrev pub seen_at : ℕ → List Packet → Option ℤ
seen_at x ps = option_map (λ p. p.time) (find (λ p. at p == x) ps)

pub times_seen : (x : ℕ) (ps : List Packet) → time_at x ps ≡ seen_at x ps
times_seen x [] = refl
times_seen x (p ∷ ps) =
    let e = times_seen x ps in
    elim (cases_Bool (rank p.pos == x)) [ inl y ↦ rw y refl | inr n ↦ rw n e ]

pub seen_within : (from to x : ℕ) (ps : List Packet) → from ≤ x → x < to → seen_at x (within from to ps) ≡ seen_at x ps
seen_within from to x [] l m = refl
seen_within from to x (p ∷ ps) l m =
    let more = seen_within from to x ps l m in
    elim (cases_Bool (nat_le from (at p) && nat_lt (at p) to)) [
      | inl y ↦ elim (cases_Bool (at p == x)) [ inl z ↦ rw (y, z) refl | inr z ↦ rw (y, z) more ]
      | inr n ↦
          let z : (at p == x) ≡ false = ne_eqb (at p) x (λ e. true≢false (sym (in_yes from to (at p) (omega arith) (omega arith)) ∙ n)) in
          rw (n, z) more
    ]
