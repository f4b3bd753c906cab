-- A text that is gathered in pieces and written piece by piece.
use Rattle.std.proofs.Common.{◌≡◌, ℕ, suc, ◌+◌, ◌-◌, ◌*◌, ◌/◌, ◌<◌, ◌≤◌, List, [], ◌++◌, length, map, take, min, Option, Some, None, Result, Ok, Err, refl, sym, ap, subst, ◌∙◌, arith, append_assoc}
use Rattle.std.specs.List.{range_with_len}
use Rattle.std.proofs.Math.Seq.{take-append-add}
use Rattle.std.proofs.lemmas.List.{append-nil, take-append-le, take_min}
use Rattle.std.specs.Prelude.{OnOk, OnErr}
use Rattle.mc_outside.specs.Sink.{Grows, GrowsByFront}
use Rattle.mc_written.specs.Elements.{element_text}
use Rattle.mc_written.specs.Clusters.{cluster, clusters_text}
use Rattle.mc_written.specs.Fronts.{front_with}
use Rattle.mc_gen.specs.Made.{made_body}
use Rattle.mc_gen.specs.Generated.{cluster_at, generated}

-- ---- what is left

-- the Clusters from one on
unfoldable pub left_text : ℕ → ℕ → List ℕ
left_text n k = clusters_text (map (λ k. cluster_at n (12 * k)) (range_with_len k ((n + 11) / 12 - k)))

pub all_left : (n : ℕ) → front_with 1000000 made_body ++ left_text n 0 ≡ generated n
unfolding left_text generated
all_left n = let all : (n + 11) / 12 - 0 ≡ (n + 11) / 12 = omega arith in rw all refl

pub none_left : (n k : ℕ) → (n + 11) / 12 ≤ k → left_text n k ≡ []
unfolding left_text
none_left n k le = let none : (n + 11) / 12 - k ≡ 0 = omega arith in rw none refl

pub one_left : (n k : ℕ) → k < (n + 11) / 12 → left_text n k ≡ element_text (cluster (cluster_at n (12 * k))) ++ left_text n (k + 1)
unfolding left_text
one_left n k lt = let some : (n + 11) / 12 - k ≡ suc ((n + 11) / 12 - (k + 1)) = omega arith in rw some refl

-- ---- what was gathered

-- of a whole, a front was written, a piece behind it was gathered, and the rest is left
abbrev pub Gathered : Option (List ℕ) → Option (List ℕ) → List ℕ → List ℕ → List ℕ → Type 0
Gathered old new piece rest whole = (done : List ℕ) × Grows old new done × (done ++ (piece ++ rest) ≡ whole)

grows_nothing : (t : Option (List ℕ)) → Grows t t []
grows_nothing None = refl
grows_nothing (Some t) = ap (λ (x : List ℕ). Some x) (sym (append-nil t))

-- by one piece and then by another
grows_on : (old mid new : Option (List ℕ)) (a b : List ℕ) → Grows old mid a → Grows mid new b → Grows old new (a ++ b)
grows_on None mid new a b g h = let P : Option (List ℕ) → Type 0 = λ t. Grows t new b in subst P g h
grows_on (Some old) mid new a b g h =
    let P : Option (List ℕ) → Type 0 = λ t. Grows t new b in
    let both : new ≡ Some ((old ++ a) ++ b) = subst P g h in
    both ∙ ap (λ (x : List ℕ). Some x) (append_assoc old a b)

pub begins : (t : Option (List ℕ)) (piece rest whole : List ℕ) → piece ++ rest ≡ whole → Gathered t t piece rest whole
begins t piece rest whole is = ([], grows_nothing t, is)

-- more is gathered
pub gathers : (old new : Option (List ℕ)) (piece more rest rest' whole : List ℕ) → rest ≡ more ++ rest' → Gathered old new piece rest whole → Gathered old new (piece ++ more) rest' whole
gathers old new piece more rest rest' whole is g =
    let parts : (piece ++ more) ++ rest' ≡ piece ++ rest = append_assoc piece more rest' ∙ ap (λ (x : List ℕ). piece ++ x) (sym is) in
    (g.0, g.1, ap (λ (x : List ℕ). g.0 ++ x) parts ∙ g.2)

-- a front of what was gathered is written
pub writes : (old mid new : Option (List ℕ)) (piece done piece' rest whole : List ℕ) → Grows mid new done → done ++ piece' ≡ piece → Gathered old mid piece rest whole → Gathered old new piece' rest whole
writes old mid new piece done piece' rest whole grown is g =
    let parts : (g.0 ++ done) ++ (piece' ++ rest) ≡ g.0 ++ (piece ++ rest)
    = append_assoc g.0 done (piece' ++ rest) ∙ ap (λ (x : List ℕ). g.0 ++ x) (sym (append_assoc done piece' rest) ∙ ap (λ (x : List ℕ). x ++ rest) is) in
    (g.0 ++ done, grows_on old mid new g.0 done g.1 grown, parts ∙ g.2)

-- all of it is written, and nothing is left
pub ends : (old mid new : Option (List ℕ)) (piece rest whole : List ℕ) → rest ≡ [] → Grows mid new piece → Gathered old mid piece rest whole → Grows old new whole
ends old mid new piece rest whole none grown g =
    let P : List ℕ → Type 0 = λ x. Grows old new x in
    let parts : g.0 ++ piece ≡ g.0 ++ (piece ++ rest) = ap (λ (x : List ℕ). g.0 ++ x) (sym (append-nil piece) ∙ ap (λ (x : List ℕ). piece ++ x) (sym none)) in
    subst P (parts ∙ g.2) (grows_on old mid new g.0 piece g.1 grown)

-- of two pieces a front of the first is one of both
front_of : (n : ℕ) (a b : List ℕ) → take n a ≡ take (min n (length a)) (a ++ b)
front_of n a b =
    let few : min n (length a) ≤ length a = omega arith in
    sym (take-append-le (min n (length a)) a b few ∙ take_min n a)

front_part : (old new : Option (List ℕ)) (a b : List ℕ) → GrowsByFront old new a → GrowsByFront old new (a ++ b)
front_part old new a b h =
    let P : List ℕ → Type 0 = λ x. Grows old new x in
    (min h.0 (length a), subst P (front_of h.0 a b) h.1)

-- a front of what was gathered was written, and then a refusal
pub stops_within : (old mid new : Option (List ℕ)) (piece rest whole : List ℕ) → GrowsByFront mid new piece → Gathered old mid piece rest whole → GrowsByFront old new whole
stops_within old mid new piece rest whole front g =
    let h : GrowsByFront mid new (piece ++ rest) = front_part mid new piece rest front in
    let P : List ℕ → Type 0 = λ x. Grows old new x in
    let Q : List ℕ → Type 0 = λ x. GrowsByFront old new x in
    subst Q g.2 (length g.0 + h.0, subst P (sym (take-append-add g.0 (piece ++ rest) h.0)) (grows_on old mid new g.0 (take h.0 (piece ++ rest)) g.1 h.1))

-- of what was handed in
pub front_as : (old new : Option (List ℕ)) (a b : List ℕ) → a ≡ b → GrowsByFront old new a → GrowsByFront old new b
front_as old new a b is front =
    let P : List ℕ → Type 0 = λ x. GrowsByFront old new x in subst P is front

-- a refusal before it is written
pub stops : (old new : Option (List ℕ)) (piece rest whole : List ℕ) → Gathered old new piece rest whole → GrowsByFront old new whole
stops old new piece rest whole g = stops_within old new new piece rest whole (0, grows_nothing new) g

-- of the last write
pub last_ok : {T E : Type 0} (old mid new : Option (List ℕ)) (piece rest whole : List ℕ) (r : Result T E) → rest ≡ [] → Gathered old mid piece rest whole → OnOk r (Grows mid new piece) → OnOk r (Grows old new whole)
last_ok old mid new piece rest whole (Ok done) none g grown = ends old mid new piece rest whole none grown g
last_ok old mid new piece rest whole (Err e) none g grown = tt

pub last_refused : {T E : Type 0} (old mid new : Option (List ℕ)) (piece rest whole : List ℕ) (r : Result T E) → Gathered old mid piece rest whole → OnErr r (GrowsByFront mid new piece) → OnErr r (GrowsByFront old new whole)
last_refused old mid new piece rest whole (Ok done) g front = tt
last_refused old mid new piece rest whole (Err e) g front = stops_within old mid new piece rest whole front g

-- what holds at a refusal
pub at_err : {T E P : Type 0} (r : Result T E) → P → OnErr r P
at_err (Ok done) p = tt
at_err (Err e) p = p
