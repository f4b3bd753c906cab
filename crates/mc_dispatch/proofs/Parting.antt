-- Turning a queue once round parts those that pass a test from the others.
use Rattle.std.proofs.Common.{◌≡◌, ℕ, ◌+◌, ◌<◌, ◌≤◌, Bool, suc, List, [], ◌∷◌, ◌++◌, length, take, arith, refl, ap, subst, sym, length-append, ◌∙◌, inl, inr}
use Rattle.std.specs.List.{filter}
use Rattle.std.proofs.lemmas.Bool.{cases_Bool}
use Rattle.std.proofs.lemmas.List.{append_assoc, append-nil, take_all, take-append-le}
use Rattle.mc_dispatch.specs.declared.request.Request.{Request}
use Rattle.mc_dispatch.specs.Queue.{without}
use Rattle.mc_dispatch.specs.Turning.{Parts, turned, turn}

pub length-parts : (P : Request → Bool) (rs : List Request) → length (filter P rs) + length (without P rs) ≡ length rs
length-parts P [] = refl
length-parts P (r ∷ rs) =
    let more = length-parts P rs in
    elim (cases_Bool (P r)) [ inl y ↦ rw y (omega arith) | inr n ↦ rw n (omega arith) ]

pub turn_round : (P : Request → Bool) (xs ys gone : List Request) → turn P (length xs) (xs ++ ys, gone) ≡ (ys ++ without P xs, gone ++ filter P xs)
turn_round P [] ys gone = let e = append-nil ys in let f = append-nil gone in rw (e, f) refl
turn_round P (x ∷ xs) ys gone = elim (cases_Bool (P x)) [
  | inl y ↦ rw y (let e = turn_round P xs ys (gone ++ x ∷ []) in let a = append_assoc gone (x ∷ []) (filter P xs) in e ∙ ap (λ g. (ys ++ without P xs, g)) a)
  | inr n ↦ rw n (
      let a = append_assoc xs ys (x ∷ []) in
      let b = append_assoc ys (x ∷ []) (without P xs) in
      ap (λ q. turn P (length xs) (q, gone)) a ∙ turn_round P xs (ys ++ x ∷ []) gone ∙ ap (λ q. (q, gone ++ filter P xs)) b)
]

-- n requests are still to be turned, to the end, and what leaves has its room
pub record Parting (P : Request → Bool) (n : ℕ) (whole : Parts) (queue gone : List Request) (room : ℕ) : Type 0 where
  pub joined : turn P n (queue, gone) ≡ whole
  pub long : n ≤ length queue
  pub space : length gone + length (filter P (take n queue)) ≤ room

pub begins : (P : Request → Bool) (xs gone : List Request) (room : ℕ) → length gone + length (filter P xs) ≤ room
    → Parting P (length xs) (turn P (length xs) (xs, gone)) xs gone room
begins P xs gone room l = let e : take (length xs) xs ≡ xs = take_all (length xs) xs (omega arith) in record { joined = refl; long = omega arith; space = rw e l }

goes_on_by : (P : Request → Bool) (n : ℕ) (whole : Parts) (r : Request) (rs gone : List Request) (room : ℕ) → Parting P (suc n) whole (r ∷ rs) gone room
    → Parting P n whole (turned P r rs gone).0 (turned P r rs gone).1 room
goes_on_by P n whole r rs gone room h =
    let j = h.joined in
    let l : suc n ≤ suc (length rs) = h.long in
    let s = h.space in
    let short : n ≤ length rs = omega arith in
    elim (cases_Bool (P r)) [
      | inl y ↦
          let longer : length (gone ++ r ∷ []) ≡ length gone + 1 = length-append gone (r ∷ []) in
          let t : length gone + suc (length (filter P (take n rs))) ≤ room = rw y at s in
          let k : turn P n (rs, gone ++ r ∷ []) ≡ whole = rw y at j in
          rw y (record { joined = k; long = short; space = omega arith })
      | inr y ↦
          let longer : length (rs ++ r ∷ []) ≡ length rs + 1 = length-append rs (r ∷ []) in
          let t : length gone + length (filter P (take n rs)) ≤ room = rw y at s in
          let k : turn P n (rs ++ r ∷ [], gone) ≡ whole = rw y at j in
          let same : take n (rs ++ r ∷ []) ≡ take n rs = take-append-le n rs (r ∷ []) short in
          rw y (record { joined = k; long = omega arith; space = rw same t })
    ]

pub goes_on : (P : Request → Bool) (n m : ℕ) (whole : Parts) (queue gone queue' gone' : List Request) (room : ℕ) → n ≡ suc m
    → Parting P n whole queue gone room → (queue', gone') ≡ turn P 1 (queue, gone) → Parting P m whole queue' gone' room
goes_on P n m whole [] gone queue' gone' room k h e = absurd (let l : n ≤ 0 = h.long in omega arith)
goes_on P n m whole (r ∷ rs) gone queue' gone' room k h e =
    let g : Parting P (suc m) whole (r ∷ rs) gone room = subst (λ i. Parting P i whole (r ∷ rs) gone room) k h in
    subst (λ (p : Parts). Parting P m whole p.0 p.1 room) (sym e) (goes_on_by P m whole r rs gone room g)

pub has_first : (P : Request → Bool) (n m : ℕ) (whole : Parts) (queue gone : List Request) (room : ℕ) → n ≡ suc m → Parting P n whole queue gone room
    → (0 < length queue) × (length gone + length (filter P (take 1 queue)) ≤ room)
has_first P n m whole [] gone room k h = absurd (let l : n ≤ 0 = h.long in omega arith)
has_first P n m whole (r ∷ rs) gone room k h =
    let g : Parting P (suc m) whole (r ∷ rs) gone room = subst (λ i. Parting P i whole (r ∷ rs) gone room) k h in
    let s = g.space in (
      omega arith,
      elim (cases_Bool (P r)) [
        | inl y ↦ let t : length gone + suc (length (filter P (take m rs))) ≤ room = rw y at s in rw y (omega arith)
        | inr y ↦ let t : length gone + length (filter P (take m rs)) ≤ room = rw y at s in rw y (omega arith)
      ],
    )

pub ends : (P : Request → Bool) (n : ℕ) (xs gone queue gone' : List Request) (room : ℕ) → n ≡ 0 → Parting P n (turn P (length xs) (xs, gone)) queue gone' room
    → (queue ≡ without P xs) × (gone' ≡ gone ++ filter P xs)
ends P n xs gone queue gone' room k h =
    let g : Parting P 0 (turn P (length xs) (xs, gone)) queue gone' room = subst (λ i. Parting P i (turn P (length xs) (xs, gone)) queue gone' room) k h in
    let a : turn P (length xs) (xs, gone) ≡ turn P (length xs) (xs ++ [], gone) = let e = append-nil xs in rw e refl in
    let b : (queue, gone') ≡ (without P xs, gone ++ filter P xs) = g.joined ∙ a ∙ turn_round P xs [] gone in
    (ap (λ (p : Parts). p.0) b, ap (λ (p : Parts). p.1) b)
