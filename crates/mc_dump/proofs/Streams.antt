-- A text that grows piece by piece.
use Rattle.std.proofs.Common.{◌≡◌, ℕ, ◌+◌, ◌≤◌, List, [], ◌++◌, length, take, min, Option, Some, None, Result, Ok, Err, refl, sym, ap, subst, ◌∙◌, arith}
use Rattle.std.proofs.Math.Seq.{take-append-add, take-append_seam}
use Rattle.std.proofs.lemmas.List.{append-nil, append_assoc, take-append-le, take_min}
use Rattle.std.specs.Result.{IsErr}
use Rattle.std.specs.Prelude.{OnOk, OnErr}
use Rattle.mc_outside.specs.Sink.{Grows, GrowsByFront}
use Rattle.mc_dump.specs.Writes.{Wrote}

pub grows_nothing : (t : Option (List ℕ)) → Grows t t []
grows_nothing None = refl
grows_nothing (Some t) = ap (λ (x : List ℕ). Some x) (sym (append-nil t))

-- by one piece and then by another
pub grows_on : (old mid new : Option (List ℕ)) (a b : List ℕ) → Grows old mid a → Grows mid new b → Grows old new (a ++ b)
grows_on None mid new a b g h = let P : Option (List ℕ) → Type 0 = λ t. Grows t new b in subst P g h
grows_on (Some old) mid new a b g h =
    let P : Option (List ℕ) → Type 0 = λ t. Grows t new b in
    let both : new ≡ Some ((old ++ a) ++ b) = subst P g h in
    both ∙ ap (λ (x : List ℕ). Some x) (append_assoc old a b)

-- of two pieces a front of the first is one of both
front_of : (n : ℕ) (a b : List ℕ) → take n a ≡ take (min n (length a)) (a ++ b)
front_of n a b =
    let few : min n (length a) ≤ length a = omega arith in
    sym (take-append-le (min n (length a)) a b few ∙ take_min n a)

pub front_nothing : (t : Option (List ℕ)) (text : List ℕ) → GrowsByFront t t text
front_nothing t text = (0, grows_nothing t)

pub front_part : (old new : Option (List ℕ)) (a b : List ℕ) → GrowsByFront old new a → GrowsByFront old new (a ++ b)
front_part old new a b h =
    let P : List ℕ → Type 0 = λ x. Grows old new x in
    (min h.0 (length a), subst P (front_of h.0 a b) h.1)

pub front_whole : (old new : Option (List ℕ)) (a b : List ℕ) → Grows old new a → GrowsByFront old new (a ++ b)
front_whole old new a b g =
    let P : List ℕ → Type 0 = λ x. Grows old new x in
    (length a, subst P (sym (take-append_seam a b)) g)

pub front_on : (old mid new : Option (List ℕ)) (a b : List ℕ) → Grows old mid a → GrowsByFront mid new b → GrowsByFront old new (a ++ b)
front_on old mid new a b g h =
    let P : List ℕ → Type 0 = λ x. Grows old new x in
    (length a + h.0, subst P (sym (take-append-add a b h.0)) (grows_on old mid new a (take h.0 b) g h.1))

-- a piece, and then a write of the other
pub wrote_on : {T E : Type 0} (old mid new : Option (List ℕ)) (a b : List ℕ) (r : Result T E) → Grows old mid a → Wrote mid new b r → Wrote old new (a ++ b) r
wrote_on old mid new a b (Ok done) g h = grows_on old mid new a b g h
wrote_on old mid new a b (Err e) g h = front_on old mid new a b g h

-- a piece, and then a refusal
pub wrote_front : {T E : Type 0} (old new : Option (List ℕ)) (text : List ℕ) (r : Result T E) → IsErr r → GrowsByFront old new text → Wrote old new text r
wrote_front old new text (Ok done) e g = absurd (cc e)
wrote_front old new text (Err error) e g = g

pub wrote_full : {T E : Type 0} (old new : Option (List ℕ)) (text : List ℕ) (r : Result T E) → OnOk r (Grows old new text) → OnErr r (GrowsByFront old new text) → Wrote old new text r
wrote_full old new text (Ok done) g f = g
wrote_full old new text (Err e) g f = f

-- one piece of two that make a text, and then a refusal; and both of them
pub first_refused : {T E : Type 0} (old new : Option (List ℕ)) (a b text : List ℕ) (r : Result T E) → IsErr r → a ++ b ≡ text → GrowsByFront old new a → Wrote old new text r
first_refused {T} {E} old new a b text r e whole g =
    let P : List ℕ → Type 0 = λ x. Wrote old new x r in subst P whole (wrote_front old new (a ++ b) r e (front_part old new a b g))

pub both_wrote : {T E : Type 0} (old mid new : Option (List ℕ)) (a b text : List ℕ) (r : Result T E) → a ++ b ≡ text → Grows old mid a → Wrote mid new b r → Wrote old new text r
both_wrote {T} {E} old mid new a b text r whole g h =
    let P : List ℕ → Type 0 = λ x. Wrote old new x r in subst P whole (wrote_on old mid new a b r g h)

pub front_whole_is : {T E : Type 0} (old mid new : Option (List ℕ)) (a b text : List ℕ) (r : Result T E) → IsErr r → a ++ b ≡ text → Grows old mid a → GrowsByFront mid new b → Wrote old new text r
front_whole_is {T} {E} old mid new a b text r e whole g h =
    let P : List ℕ → Type 0 = λ x. Wrote old new x r in subst P whole (wrote_front old new (a ++ b) r e (front_on old mid new a b g h))

pub grows_whole : (old mid new : Option (List ℕ)) (a b text : List ℕ) → a ++ b ≡ text → Grows old mid a → Grows mid new b → Grows old new text
grows_whole old mid new a b text whole g h =
    let P : List ℕ → Type 0 = λ x. Grows old new x in subst P whole (grows_on old mid new a b g h)
