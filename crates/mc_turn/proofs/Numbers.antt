-- Rising lists of caller numbers: their parts, two in one, and the first numbers.
use Rattle.std.proofs.Common.{◌≡◌, ◌≢◌, ℕ, zero, suc, ◌+◌, ◌-◌, ◌<◌, ◌≤◌, ◌⊎◌, Bool, true, false, cond, leb, List, [], ◌∷◌, length, take, drop, refl, ap, sym, subst, ◌∙◌, inl, inr, ⊎_elim, arith}
use Rattle.std.proofs.lemmas.Bool.{leb-true, leb-false}
use Rattle.mc_turn.specs.Callers.{Has, Rising, count_from, placed, merged}
use Rattle.mc_turn.specs.Laws.{from_length}

pub rising_length : (ns : List ℕ) (low high : ℕ) → low ≤ high → Rising ns → ((n : ℕ) → Has ns n → (low ≤ n) × (n < high)) → length ns + low ≤ high
rising_length [] low high le r all = omega arith
rising_length (n ∷ ns) low high le r all = let h = all n (inl refl) in let a : low ≤ n = h.0 in let b : n < high = h.1 in
    let more : length ns + suc n ≤ high = rising_length ns (suc n) high (omega arith) r.1 (λ m t. (r.0 m t, (all m (inr t)).1)) in omega arith

pub has_take : (ns : List ℕ) (k n : ℕ) → Has (take k ns) n → Has ns n
has_take [] zero n h = h
has_take [] (suc k) n h = h
has_take (m ∷ ms) zero n h = absurd h
has_take (m ∷ ms) (suc k) n h = ⊎_elim (λ e. inl e) (λ t. inr (has_take ms k n t)) h

pub has_drop : (ns : List ℕ) (k n : ℕ) → Has (drop k ns) n → Has ns n
has_drop [] zero n h = h
has_drop [] (suc k) n h = h
has_drop (m ∷ ms) zero n h = h
has_drop (m ∷ ms) (suc k) n h = inr (has_drop ms k n h)

-- each number is in one of the two parts
pub has_part : (ns : List ℕ) (k n : ℕ) → Has ns n → Has (take k ns) n ⊎ Has (drop k ns) n
has_part [] k n h = absurd h
has_part (m ∷ ms) zero n h = inr h
has_part (m ∷ ms) (suc k) n h = ⊎_elim (λ e. inl (inl e)) (λ t. ⊎_elim (λ u. inl (inr u)) (λ u. inr u) (has_part ms k n t)) h

-- the same, as a pass and the one that it was split into know it
pub has_parts : (ns ms front back : List ℕ) (k n : ℕ) → ms ≡ ns → front ≡ take k ms → back ≡ drop k ms → Has ns n → Has front n ⊎ Has back n
has_parts ns ms front back k n same e f h = subst (λ (x : List ℕ × List ℕ). Has x.0 n ⊎ Has x.1 n) (λ i. (sym e i, sym f i)) (has_part ms k n (subst (λ (l : List ℕ). Has l n) (sym same) h))

pub rising_take : (ns : List ℕ) (k : ℕ) → Rising ns → Rising (take k ns)
rising_take [] zero r = tt
rising_take [] (suc k) r = tt
rising_take (m ∷ ms) zero r = tt
rising_take (m ∷ ms) (suc k) r = ((λ n h. r.0 n (has_take ms k n h)), rising_take ms k r.1)

pub rising_drop : (ns : List ℕ) (k : ℕ) → Rising ns → Rising (drop k ns)
rising_drop [] zero r = tt
rising_drop [] (suc k) r = tt
rising_drop (m ∷ ms) zero r = r
rising_drop (m ∷ ms) (suc k) r = rising_drop ms k r.1

-- a number is in one part alone
pub parts_apart : (ns : List ℕ) (k n : ℕ) → Rising ns → Has (take k ns) n → Has (drop k ns) n → ⊥
parts_apart [] zero n r h l = h
parts_apart [] (suc k) n r h l = h
parts_apart (m ∷ ms) zero n r h l = h
parts_apart (m ∷ ms) (suc k) n r h l = ⊎_elim (λ (e : m ≡ n). let lt : m < n = r.0 n (has_drop ms k n l) in omega arith) (λ t. parts_apart ms k n r.1 t l) h

has_cond : (b : Bool) (n m k : ℕ) (ms more : List ℕ) → Has (cond b (n ∷ m ∷ ms) (m ∷ more)) k → (Has more k → (n ≡ k) ⊎ Has ms k) → (n ≡ k) ⊎ Has (m ∷ ms) k
has_cond true n m k ms more h go = h
has_cond false n m k ms more h go = ⊎_elim (λ e. inr (inl e)) (λ t. ⊎_elim (λ e. inl e) (λ u. inr (inr u)) (go t)) h

pub has_placed : (n k : ℕ) (ms : List ℕ) → Has (placed n ms) k → (n ≡ k) ⊎ Has ms k
has_placed n k [] h = h
has_placed n k (m ∷ ms) h = has_cond (leb n m) n m k ms (placed n ms) h (has_placed n k ms)

pub has_merged : (ns ms : List ℕ) (k : ℕ) → Has (merged ns ms) k → Has ns k ⊎ Has ms k
has_merged [] ms k h = inr h
has_merged (n ∷ ns) ms k h = ⊎_elim (λ (e : n ≡ k). inl (inl e)) (λ t. ⊎_elim (λ u. inl (inr u)) (λ u. inr u) (has_merged ns ms k t)) (has_placed n k (merged ns ms) h)

cond_length : (b : Bool) (n m : ℕ) (ms more : List ℕ) → length more ≡ suc (length ms) → length (cond b (n ∷ m ∷ ms) (m ∷ more)) ≡ suc (suc (length ms))
cond_length true n m ms more e = refl
cond_length false n m ms more e = ap suc e

placed_length : (n : ℕ) (ms : List ℕ) → length (placed n ms) ≡ suc (length ms)
placed_length n [] = refl
placed_length n (m ∷ ms) = cond_length (leb n m) n m ms (placed n ms) (placed_length n ms)

pub merged_length : (ns ms : List ℕ) → length (merged ns ms) ≡ length ns + length ms
merged_length [] ms = omega arith
merged_length (n ∷ ns) ms = let more : length (merged ns ms) ≡ length ns + length ms = merged_length ns ms in let one = placed_length n (merged ns ms) in omega arith

cond_has : (b : Bool) (n m k : ℕ) (ms more : List ℕ) → (Has ms k → Has more k) → (n ≡ k → Has more k) → (n ≡ k) ⊎ Has (m ∷ ms) k → Has (cond b (n ∷ m ∷ ms) (m ∷ more)) k
cond_has true n m k ms more rest new h = h
cond_has false n m k ms more rest new h = ⊎_elim (λ e. inr (new e)) (λ t. ⊎_elim (λ e. inl e) (λ u. inr (rest u)) t) h

pub placed_has : (n k : ℕ) (ms : List ℕ) → (n ≡ k) ⊎ Has ms k → Has (placed n ms) k
placed_has n k [] h = h
placed_has n k (m ∷ ms) h = cond_has (leb n m) n m k ms (placed n ms) (λ t. placed_has n k ms (inr t)) (λ e. placed_has n k ms (inl e)) h

pub merged_right : (ns ms : List ℕ) (k : ℕ) → Has ms k → Has (merged ns ms) k
merged_right [] ms k h = h
merged_right (n ∷ ns) ms k h = placed_has n k (merged ns ms) (inr (merged_right ns ms k h))

pub merged_left : (ns ms : List ℕ) (k : ℕ) → Has ns k → Has (merged ns ms) k
merged_left [] ms k h = absurd h
merged_left (n ∷ ns) ms k h = placed_has n k (merged ns ms) (⊎_elim (λ e. inl e) (λ t. inr (merged_left ns ms k t)) h)

rising_cond : (b : Bool) (n m : ℕ) (ms : List ℕ) → leb n m ≡ b → (Has (m ∷ ms) n → ⊥) → Rising (m ∷ ms) → Rising (placed n ms) → Rising (cond b (n ∷ m ∷ ms) (m ∷ placed n ms))
rising_cond true n m ms e not r more = let lt : n < m = (let le : n ≤ m = leb-true n m e in let ne : m ≢ n = (λ h. not (inl h)) in omega arith) in
    ((λ k h. ⊎_elim (λ (same : m ≡ k). omega arith) (λ t. let far : m < k = r.0 k t in omega arith) h), r)
rising_cond false n m ms e not r more = let lt : m < n = leb-false n m e in
    ((λ k h. ⊎_elim (λ (same : n ≡ k). omega arith) (λ t. r.0 k t) (has_placed n k ms h)), more)

pub rising_placed : (n : ℕ) (ms : List ℕ) → Rising ms → (Has ms n → ⊥) → Rising (placed n ms)
rising_placed n [] r not = ((λ k h. absurd h), tt)
rising_placed n (m ∷ ms) r not = rising_cond (leb n m) n m ms refl not r (rising_placed n ms r.1 (λ h. not (inr h)))

pub rising_merged : (ns ms : List ℕ) → Rising ns → Rising ms → ((k : ℕ) → Has ns k → Has ms k → ⊥) → Rising (merged ns ms)
rising_merged [] ms r q apart = q
rising_merged (n ∷ ns) ms r q apart = rising_placed n (merged ns ms) (rising_merged ns ms r.1 q (λ k h l. apart k (inr h) l))
    (λ h. ⊎_elim (λ (t : Has ns n). let lt : n < n = r.0 n t in omega arith) (λ t. apart n (inl refl) t) (has_merged ns ms n h))

has_from : (n k m : ℕ) → Has (count_from n k) m → n ≤ m
has_from n zero m h = absurd h
has_from n (suc k) m h = ⊎_elim (λ (e : n ≡ m). omega arith) (λ t. let le : suc n ≤ m = has_from (suc n) k m t in omega arith) h

pub from_below : (n k m : ℕ) → Has (count_from n k) m → m < n + k
from_below n zero m h = absurd h
from_below n (suc k) m h = ⊎_elim (λ (e : n ≡ m). omega arith) (λ t. let lt : m < suc n + k = from_below (suc n) k m t in omega arith) h

pub rising_from : (n k : ℕ) → Rising (count_from n k)
rising_from n zero = tt
rising_from n (suc k) = ((λ m h. has_from (suc n) k m h), rising_from (suc n) k)

take_from : (j k n : ℕ) → j ≤ k → take j (count_from n k) ≡ count_from n j
take_from zero zero n le = refl
take_from zero (suc k) n le = refl
take_from (suc j) zero n le = absurd (omega arith)
take_from (suc j) (suc k) n le = ap (λ l. n ∷ l) (take_from j k (suc n) (omega arith))

drop_from : (j k n : ℕ) → j ≤ k → drop j (count_from n k) ≡ count_from (n + j) (k - j)
drop_from zero zero n le = refl
drop_from zero (suc k) n le = let e : n ≡ n + 0 = omega arith in let f : suc k ≡ suc k - 0 = omega arith in λ i. count_from (e i) (f i)
drop_from (suc j) zero n le = absurd (omega arith)
drop_from (suc j) (suc k) n le = let e : suc n + j ≡ n + suc j = omega arith in let f : k - j ≡ suc k - suc j = omega arith in drop_from j k (suc n) (omega arith) ∙ λ i. count_from (e i) (f i)

-- the numbers from n on are cut into those from n on and those behind them
pub cut_from : (ms ns front back : List ℕ) (number count first size : ℕ) → number ≡ length ms → count < length ns → ms ≡ ns → ns ≡ count_from first size → front ≡ take (number - count) ms → back ≡ drop (number - count) ms
    → (front ≡ count_from first (size - count)) × (back ≡ count_from (first + (size - count)) count)
cut_from ms ns front back number count first size counts fewer same is e f =
    let long : length ns ≡ size = ap length is ∙ from_length first size in
    let also : length ms ≡ length ns = ap length same in
    let low : count < size = omega (arith, long, fewer) in
    let k : number - count ≡ size - count = omega (arith, counts, also, long) in
    let le : size - count ≤ size = omega arith in
    let rest : size - (size - count) ≡ count = omega arith in
    let all : ms ≡ count_from first size = same ∙ is in (
      e ∙ ((λ i. take (k i) (all i)) ∙ take_from (size - count) size first le),
      f ∙ ((λ i. drop (k i) (all i)) ∙ (drop_from (size - count) size first le ∙ ap (count_from (first + (size - count))) rest)),
    )
