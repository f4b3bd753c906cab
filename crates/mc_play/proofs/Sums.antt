-- What is counted in packets of two tracks is what is counted in those of the one and of the other, in whichever order they stand.
use Rattle.std.proofs.Common.{◌≡◌, ℕ, suc, ◌+◌, ◌<◌, ◌^◌, Bool, true, false, List, [], ◌∷◌, length, map, refl, sym, ap, ◌∙◌, ◌⊎◌, inl, inr, arith, ℤ}
use Rattle.std.specs.Prelude.{◌==◌, ◌||◌, not, pos, sum_by}
use Rattle.std.specs.Int.{int_max}
use Rattle.std.specs.List.{filter, fold, list_any}
use Rattle.std.proofs.lemmas.Bool.{cases_Bool}
use Rattle.std.proofs.lemmas.Bool.Decides.{nat_tests}
use Rattle.std.proofs.lemmas.Int.{clamps, ints}
use Rattle.std.proofs.lemmas.List.Sums.{sum_by-cons}
use Rattle.mc_packet.specs.declared.packet.Packet.{Packet}
use Rattle.mc_packet.specs.Contents.{Content, content, contents}
use Rattle.mc_gen.specs.Summary.{last_of, sums_of}
use Rattle.mc_journal.specs.Told.{Told, told}
use Rattle.mc_journal.specs.Films.{track_of}
use Rattle.mc_play.specs.Summing.{counted, sums_told}

max_joined : (a b c : ℤ) → int_max (int_max a b) c ≡ int_max a (int_max b c)
max_joined a b c = omega (arith, ints, clamps)

max_turned : (a b : ℤ) → int_max a b ≡ int_max b a
max_turned a b = omega (arith, ints, clamps)

max_moved : (a b c : ℤ) → int_max a (int_max b c) ≡ int_max b (int_max a c)
max_moved a b c = omega (arith, ints, clamps)

fold_max : (a b : ℤ) (xs : List ℤ) → fold int_max (int_max a b) xs ≡ int_max a (fold int_max b xs)
fold_max a b [] = refl
fold_max a b (x ∷ xs) = ap (λ (y : ℤ). fold int_max y xs) (max_joined a b x) ∙ fold_max a (int_max b x) xs

-- the last of some times, by the first and the others
pub last_more : (x : ℤ) (xs : List ℤ) → last_of (x ∷ xs) ≡ int_max x (last_of xs)
last_more x xs = ap (λ (y : ℤ). fold int_max y xs) (max_turned (pos 0) x) ∙ fold_max x (pos 0) xs

-- ---- two tracks

abbrev pub content_len : Content → ℕ
content_len c = length c.body

abbrev pub is_of : ℕ → Told → Bool
is_of k t = t.track == k

abbrev pub is_strange : Told → Bool
is_strange t = not (t.track == 1 || t.track == 2)

abbrev pub only : ℕ → List Told → List Told
only k ts = filter (is_of k) ts

abbrev len_of : Told → ℕ
len_of t = t.len

abbrev time_of : Told → ℤ
time_of t = t.time

abbrev last_in : List Told → ℤ
last_in ts = last_of (map time_of ts)

-- what is said of all, of the first track's, and of the second's
pub record Parts (all one two : List Told) : Type 0 where
  pub count : length all ≡ length one + length two
  pub octets : sum_by len_of all ≡ sum_by len_of one + sum_by len_of two
  pub last : last_in all ≡ int_max (last_in one) (last_in two)

to_one : (t : Told) (all one two : List Told) → Parts all one two → Parts (t ∷ all) (t ∷ one) two
to_one t all one two p = record {
  count = omega (arith, p.count);
  octets = omega (arith, p.octets, sum_by-cons len_of t all, sum_by-cons len_of t one);
  last = last_more t.time (map time_of all) ∙ ap (int_max t.time) p.last ∙ sym (max_joined t.time (last_in one) (last_in two))
      ∙ ap (λ (x : ℤ). int_max x (last_in two)) (sym (last_more t.time (map time_of one)));
}

to_two : (t : Told) (all one two : List Told) → Parts all one two → Parts (t ∷ all) one (t ∷ two)
to_two t all one two p = record {
  count = omega (arith, p.count);
  octets = omega (arith, p.octets, sum_by-cons len_of t all, sum_by-cons len_of t two);
  last = last_more t.time (map time_of all) ∙ ap (int_max t.time) p.last ∙ max_moved t.time (last_in one) (last_in two)
      ∙ ap (int_max (last_in one)) (sym (last_more t.time (map time_of two)));
}

or_false : (a b : Bool) → (a || b) ≡ false → (a ≡ false) × (b ≡ false)
or_false true b e = absurd (let f : true ≡ false = e in cc)
or_false false b e = (refl, e)

pub same_number : (a b : ℕ) → (a == b) ≡ true → a ≡ b
same_number a b e = grind (arith, nat_tests)

-- the number is that of the one track or of the other, and not of both
which : (n : ℕ) → not (n == 1 || n == 2) ≡ false → ((n == 1) ≡ true × (n == 2) ≡ false) ⊎ ((n == 1) ≡ false × (n == 2) ≡ true)
which n e = elim (cases_Bool (n == 1)) [
  | inl y ↦ inl (y, let s : n ≡ 1 = same_number n 1 y in rw s refl)
  | inr o ↦ elim (cases_Bool (n == 2)) [
    | inl z ↦ inr (o, z)
    | inr w ↦ absurd (let f : true ≡ false = rw (o, w) at e in cc)
  ]
]

pub parted : (ts : List Told) → list_any is_strange ts ≡ false → Parts ts (only 1 ts) (only 2 ts)
parted [] e = record { count = refl; octets = refl; last = refl }
parted (t ∷ ts) e =
    let f = or_false (is_strange t) (list_any is_strange ts) e in
    let p = parted ts f.1 in
    elim (which t.track f.0) [
      | inl y ↦ rw (y.0, y.1) (to_one t ts (only 1 ts) (only 2 ts) p)
      | inr y ↦ rw (y.0, y.1) (to_two t ts (only 1 ts) (only 2 ts) p)
    ]

-- lists of such packets that have the same of each track are counted alike
pub alike : (ts us : List Told) → list_any is_strange ts ≡ false → list_any is_strange us ≡ false → only 1 ts ≡ only 1 us → only 2 ts ≡ only 2 us → sums_told ts ≡ sums_told us
alike ts us e f one two =
    let p = parted ts e in
    let q = parted us f in
    let count : length ts ≡ length us = p.count ∙ ap (λ (x : List Told). length x + length (only 2 ts)) one ∙ ap (λ (x : List Told). length (only 1 us) + length x) two ∙ sym q.count in
    let octets : sum_by len_of ts ≡ sum_by len_of us
    = p.octets ∙ ap (λ (x : List Told). sum_by len_of x + sum_by len_of (only 2 ts)) one ∙ ap (λ (x : List Told). sum_by len_of (only 1 us) + sum_by len_of x) two ∙ sym q.octets in
    let last : last_in ts ≡ last_in us
    = p.last ∙ ap (λ (x : List Told). int_max (last_in x) (last_in (only 2 ts))) one ∙ ap (λ (x : List Told). int_max (last_in (only 1 us)) (last_in x)) two ∙ sym q.last in
    rw (count, octets, last) refl

-- ---- of a film's packets

pub only_told : (k : ℕ) (ps : List Packet) → only k (map told ps) ≡ map told (track_of k ps)
only_told k [] = refl
only_told k (p ∷ ps) = elim (cases_Bool (p.track == k)) [
  | inl y ↦ rw (y, only_told k ps) refl
  | inr n ↦ rw (n, only_told k ps) refl
]

told_octets : (ps : List Packet) → sum_by len_of (map told ps) ≡ sum_by content_len (contents ps)
told_octets [] = refl
told_octets (p ∷ ps) = omega (arith, told_octets ps, sum_by-cons len_of (told p) (map told ps), sum_by-cons content_len (content p) (contents ps))

told_times : (ps : List Packet) → map time_of (map told ps) ≡ map (λ (c : Content). c.time) (contents ps)
told_times [] = refl
told_times (p ∷ ps) = ap (λ (ts : List ℤ). p.time ∷ ts) (told_times ps)

told_count : (ps : List Packet) → length (map told ps) ≡ length (contents ps)
told_count [] = refl
told_count (p ∷ ps) = ap suc (told_count ps)

pub told_sums : (ps : List Packet) → length (contents ps) < 2 ^ 64 → sum_by content_len (contents ps) < 2 ^ 64 → sums_told (map told ps) ≡ sums_of (contents ps)
told_sums ps few small =
    let count : counted (length (map told ps)) ≡ length (contents ps) = omega (arith, told_count ps) in
    let octets : counted (sum_by len_of (map told ps)) ≡ sum_by content_len (contents ps) = omega (arith, told_octets ps) in
    rw (count, octets, told_times ps) refl
