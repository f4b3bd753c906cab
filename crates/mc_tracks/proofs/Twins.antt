-- Going over numbers, those that were seen stand behind in the other order.
use Rattle.std.proofs.Common.{◌≡◌, ℕ, ◌+◌, ◌<◌, Bool, Some, List, [], ◌∷◌, ap, sym, ◌∙◌, length, take, drop, get_or}
use Rattle.std.specs.Prelude.{if◌then◌else◌, reverse}
use Rattle.std.specs.List.{list_any}
use Rattle.std.proofs.lemmas.List.{drop_more, take_more, reverse-append}
use Rattle.std.proofs.lemmas.List.Sorted.{list_any-IsPermutation, IsPermutation-reverse}
use Rattle.mc_tracks.specs.declared.track.Track.{Track}
use Rattle.mc_tracks.specs.Selection.{first_twin, is_twin}

any_back : (test : ℕ → Bool) (xs : List ℕ) → list_any test (reverse xs) ≡ list_any test xs
any_back test xs = sym (list_any-IsPermutation test xs (reverse xs) (IsPermutation-reverse xs))

seen_more : (xs : List ℕ) (i : ℕ) → i < length xs → reverse (take (i + 1) xs) ≡ get_or xs i 0 ∷ reverse (take i xs)
seen_more xs i h = ap (λ (ys : List ℕ). reverse ys) (take_more xs i 0 h) ∙ reverse-append (take i xs) (get_or xs i 0 ∷ [])

pub twin_next : (list : List Track) (xs : List ℕ) (i : ℕ) → i < length xs
    → first_twin list (reverse (take i xs)) (drop i xs)
    ≡ (if list_any (is_twin list (get_or xs i 0)) (take i xs) then Some (get_or xs i 0) else first_twin list (reverse (take (i + 1) xs)) (drop (i + 1) xs))
twin_next list xs i h =
    let n = get_or xs i 0 in
    let rest = first_twin list (n ∷ reverse (take i xs)) (drop (i + 1) xs) in
    ap (λ (ys : List ℕ). first_twin list (reverse (take i xs)) ys) (drop_more xs i 0 h)
    ∙ ap (λ b. if b then Some n else rest) (any_back (is_twin list n) (take i xs))
    ∙ ap (λ (ys : List ℕ). if list_any (is_twin list n) (take i xs) then Some n else first_twin list ys (drop (i + 1) xs)) (sym (seen_more xs i h))
