-- A list of tracks that is noted one after the other.
use Rattle.std.proofs.Common.{◌≡◌, ℕ, zero, suc, ◌+◌, ◌<◌, List, [], ◌∷◌, ◌++◌, map, take, drop, set, get_or, length, Some, refl, ap, ◌∙◌, add-one, arith}
use Rattle.std.proofs.lemmas.Bool.{eq-eqb, ne_eqb}
use Rattle.mc_index.specs.declared.entry.Point.{Point}
use Rattle.mc_index.specs.declared.entry.LastSync.{LastSync}
use Rattle.mc_index.specs.Entries.{noted}

set-next : (f : LastSync → LastSync) (xs : List LastSync) (i : ℕ) (d : LastSync) → i < length xs
    → set (map f (take i xs) ++ drop i xs) i (f (get_or (map f (take i xs) ++ drop i xs) i d)) ≡ map f (take (suc i) xs) ++ drop (suc i) xs
set-next f [] i d h = absurd (omega arith)
set-next f (x ∷ xs) zero d h = refl
set-next f (x ∷ xs) (suc i) d h = ap (λ ys. f x ∷ ys) (set-next f xs i d (omega arith))

pub noted-next : (track : ℕ) (point : Point) (xs ts ts' : List LastSync) (i : ℕ) (d : LastSync) → i < length xs
    → ts ≡ map (noted track point) (take i xs) ++ drop i xs → ts' ≡ set ts i (noted track point (get_or ts i d))
    → ts' ≡ map (noted track point) (take (i + 1) xs) ++ drop (i + 1) xs
noted-next track point xs ts ts' i d h is next =
    next ∙ ap (λ ys. set ys i (noted track point (get_or ys i d))) is ∙ set-next (noted track point) xs i d h ∙ rw add-one refl

pub noted-same : (track : ℕ) (point : Point) (l : LastSync) → track ≡ l.track → noted track point l ≡ record { track = l.track; point = Some point }
noted-same track point l e = rw (eq-eqb track l.track e) refl

pub noted-other : (track : ℕ) (point : Point) (l : LastSync) → (track ≡ l.track → ⊥) → noted track point l ≡ l
noted-other track point l e = rw (ne_eqb track l.track e) refl
