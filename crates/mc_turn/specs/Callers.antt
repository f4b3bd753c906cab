-- Caller numbers, and the entries of a journal under them. A journal is a list of entries, and `by` is the number of an entry's caller.
use Rattle.std.specs.Prelude.{◌≡◌, ℕ, zero, suc, ◌+◌, ◌-◌, ◌<◌, ◌⊎◌, cond, leb, List, [], ◌∷◌, ◌++◌, length, take, drop, filter, ◌==◌}

-- n is one of the numbers
abbrev pub Has : List ℕ → ℕ → Type 0
Has [] n = ⊥
Has (m ∷ ms) n = (m ≡ n) ⊎ Has ms n

-- n is below each of the numbers
abbrev pub Above : ℕ → List ℕ → Type 0
Above n ms = (m : ℕ) → Has ms m → n < m

-- the numbers rise, so that each stands once
abbrev pub Rising : List ℕ → Type 0
Rising [] = Unit {0}
Rising (n ∷ ns) = Above n ns × Rising ns

-- each is below this one
abbrev pub Below : ℕ → List ℕ → Type 0
Below count ns = (n : ℕ) → Has ns n → n < count

-- each number below this one is there
abbrev pub HasAll : ℕ → List ℕ → Type 0
HasAll count ns = (n : ℕ) → n < count → Has ns n

-- the numbers from n on, k of them
abbrev pub count_from : ℕ → ℕ → List ℕ
count_from n zero = []
count_from n (suc k) = n ∷ count_from (suc n) k

-- the numbers without the last `count` of them, and these
abbrev pub all_but : ℕ → List ℕ → List ℕ
all_but count ns = take (length ns - count) ns

abbrev pub last_of : ℕ → List ℕ → List ℕ
last_of count ns = drop (length ns - count) ns

-- each of the numbers is in one of the two lists
abbrev pub Divides : List ℕ → List ℕ → List ℕ → Type 0
Divides ns front back = (n : ℕ) → Has ns n → Has front n ⊎ Has back n

-- where the numbers are those from a first one on, the last `count` are cut off, and both lists are such again
abbrev pub CutsRange : ℕ → List ℕ → List ℕ → List ℕ → Type 0
CutsRange count ns front back = (first size : ℕ) → ns ≡ count_from first size
    → (front ≡ count_from first (size - count)) × (back ≡ count_from (first + (size - count)) count)

-- what is in one of the two lists is in this one
abbrev pub HasBoth : List ℕ → List ℕ → List ℕ → Type 0
HasBoth ns ms all = (n : ℕ) → Has ns n ⊎ Has ms n → Has all n

-- n is put in its place among rising numbers
abbrev pub placed : ℕ → List ℕ → List ℕ
placed n [] = n ∷ []
placed n (m ∷ ms) = cond (leb n m) (n ∷ m ∷ ms) (m ∷ placed n ms)

-- both lists of rising numbers in one
abbrev pub merged : List ℕ → List ℕ → List ℕ
merged [] ms = ms
merged (n ∷ ns) ms = placed n (merged ns ms)

module _ {E : Type 0} (by : E → ℕ) where
  -- the entries of one caller, in order
  abbrev pub of_caller : ℕ → List E → List E
  of_caller n xs = filter (λ (x : E). by x == n) xs

  -- every entry bears one of the numbers
  abbrev pub Bear : List ℕ → List E → Type 0
  Bear ns [] = Unit {0}
  Bear ns (x ∷ xs) = Has ns (by x) × Bear ns xs

  -- every entry bears a number below this one
  abbrev pub Within : ℕ → List E → Type 0
  Within count [] = Unit {0}
  Within count (x ∷ xs) = (by x < count) × Within count xs

  -- ys goes on where xs ends, with entries of these callers
  abbrev pub Extends : List ℕ → List E → List E → Type 0
  Extends ns xs ys = (new : List E) × (xs ++ new ≡ ys) × Bear ns new

  -- each of these callers has the same entries in both
  abbrev pub SameOwn : List ℕ → List E → List E → Type 0
  SameOwn ns xs ys = (n : ℕ) → Has ns n → of_caller n xs ≡ of_caller n ys

  -- the caller n has in ys what it has in xs, and then these calls, each once
  abbrev pub Makes : ℕ → List E → List E → List E → Type 0
  Makes n calls xs ys = of_caller n ys ≡ of_caller n xs ++ calls
