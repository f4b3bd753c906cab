-- How many of a list pass a test.
use Rattle.std.proofs.Common.{◌≡◌, ◌+◌, ◌≤◌, inl, inr, Bool, true, false, not, ◌&&◌, List, [], ◌∷◌, drop, Option, Some, None, refl, arith}
use Rattle.std.specs.Prelude.{filter, slice_get}
use Rattle.std.proofs.lemmas.Bool.{cases_Bool}
use Rattle.mc_dispatch.specs.Queue.{is_named, without}
use Rattle.mc_dispatch.specs.declared.call.Call.{Call}
use Rattle.mc_dispatch.specs.declared.call.Call.TheVariants as call
use Rattle.mc_dispatch.specs.declared.request.ClientNo.{ClientNo}
use Rattle.mc_dispatch.specs.declared.request.Request.{Request}
use Rattle.mc_player.specs.Journals.{left_by, put, taken_by, unless}
use Rattle.mc_player.specs.Waiting.{count, one}

pub count_put : (P : Request → Bool) (o : Option Request) (qs : List Request) → count P (put o qs) ≡ count P qs + one P o
count_put P None qs = omega arith
count_put P (Some q) [] = elim (cases_Bool (P q)) [ inl y ↦ rw y refl | inr n ↦ rw n refl ]
count_put P (Some q) (x ∷ xs) =
    let e = count_put P (Some q) xs in
    elim (cases_Bool (P x)) [ inl y ↦ rw y (omega (arith, e)) | inr n ↦ rw n e ]

pub count_parts : (P Q : Request → Bool) (qs : List Request) → count P (filter Q qs) + count P (without Q qs) ≡ count P qs
count_parts P Q [] = refl
count_parts P Q (x ∷ xs) =
    let e = count_parts P Q xs in
    elim (cases_Bool (Q x)) [
      | inl y ↦ elim (cases_Bool (P x)) [ inl z ↦ rw (y, z) (omega (arith, e)) | inr m ↦ rw (y, m) e ]
      | inr n ↦ elim (cases_Bool (P x)) [ inl z ↦ rw (n, z) (omega (arith, e)) | inr m ↦ rw (n, m) e ]
    ]

pub count_first : (P : Request → Bool) (qs : List Request) → count P (drop 1 qs) + one P (slice_get qs 0) ≡ count P qs
count_first P [] = refl
count_first P (x ∷ xs) = elim (cases_Bool (P x)) [ inl y ↦ rw y (omega arith) | inr n ↦ rw n (omega arith) ]

-- those that are left, by the test of what is left
pub count_but : (P Q : Request → Bool) (qs : List Request) → count P (without Q qs) ≡ count (λ (q : Request). P q && not (Q q)) qs
count_but P Q [] = refl
count_but P Q (x ∷ xs) =
    let e = count_but P Q xs in
    elim (cases_Bool (Q x)) [
      | inl y ↦ elim (cases_Bool (P x)) [ inl z ↦ rw (y, z) e | inr m ↦ rw (y, m) e ]
      | inr n ↦ elim (cases_Bool (P x)) [ inl z ↦ rw (n, z) (omega (arith, e)) | inr m ↦ rw (n, m) e ]
    ]

pub one_but : (P Q : Request → Bool) (w : Option Request) → one P (unless Q w) ≡ one (λ (q : Request). P q && not (Q q)) w
one_but P Q None = refl
one_but P Q (Some q) = elim (cases_Bool (Q q)) [
  | inl y ↦ elim (cases_Bool (P q)) [ inl z ↦ rw (y, z) refl | inr m ↦ rw (y, m) refl ]
  | inr n ↦ elim (cases_Bool (P q)) [ inl z ↦ rw (n, z) refl | inr m ↦ rw (n, m) refl ]
]

-- ---- by the tests

pub count_none : (P : Request → Bool) (qs : List Request) → ((q : Request) → P q ≡ false) → count P qs ≡ 0
count_none P [] none = refl
count_none P (x ∷ xs) none = let n = none x in rw n (count_none P xs none)

pub one_none : (P : Request → Bool) (w : Option Request) → ((q : Request) → P q ≡ false) → one P w ≡ 0
one_none P None none = refl
one_none P (Some q) none = let n = none q in rw n refl

pub count_same : (P Q : Request → Bool) (qs : List Request) → ((q : Request) → P q ≡ Q q) → count P qs ≡ count Q qs
count_same P Q [] same = refl
count_same P Q (x ∷ xs) same =
    let e = same x in
    let more = count_same P Q xs same in
    elim (cases_Bool (Q x)) [ inl y ↦ rw (e, y) (omega (arith, more)) | inr n ↦ rw (e, n) more ]

pub one_same : (P Q : Request → Bool) (w : Option Request) → ((q : Request) → P q ≡ Q q) → one P w ≡ one Q w
one_same P Q None same = refl
one_same P Q (Some q) same = let e = same q in rw e refl

-- what passes the first passes the second
pub count_less : (P Q : Request → Bool) (qs : List Request) → ((q : Request) → P q ≡ true → Q q ≡ true) → count P qs ≤ count Q qs
count_less P Q [] to = omega arith
count_less P Q (x ∷ xs) to =
    let more = count_less P Q xs to in
    elim (cases_Bool (P x)) [
      | inl y ↦ let z = to x y in rw (y, z) (omega (arith, more))
      | inr n ↦ elim (cases_Bool (Q x)) [ inl z ↦ rw (n, z) (omega (arith, more)) | inr m ↦ rw (n, m) more ]
    ]

pub one_less : (P Q : Request → Bool) (w : Option Request) → ((q : Request) → P q ≡ true → Q q ≡ true) → one P w ≤ one Q w
one_less P Q None to = omega arith
one_less P Q (Some q) to = elim (cases_Bool (P q)) [
  | inl y ↦ let z = to q y in rw (y, z) (omega arith)
  | inr n ↦ rw n (omega arith)
]

pub one_most : (P : Request → Bool) (w : Option Request) → one P w ≤ 1
one_most P None = omega arith
one_most P (Some q) = elim (cases_Bool (P q)) [ inl y ↦ rw y (omega arith) | inr n ↦ rw n (omega arith) ]

-- ---- an abort parts the queue

pub left_parts : (P : Request → Bool) (d : ClientNo) (x : Call) (qs : List Request) → count P (left_by d x qs) + count P (taken_by d x qs) ≡ count P qs
left_parts P d (call.Abort id) qs = let e = count_parts P (is_named d id) qs in omega (arith, e)
left_parts P d call.Poll qs = omega arith
left_parts P d (call.Observe id name format) qs = omega arith
left_parts P d (call.Unobserve id) qs = omega arith
left_parts P d (call.Event n on) qs = omega arith
left_parts P d (call.Command id words) qs = omega arith
left_parts P d (call.Get id name format) qs = omega arith
left_parts P d (call.Set id name value) qs = omega arith
