-- What holds of each element, and which list begins another.
use Rattle.std.proofs.Common.{◌≡◌, ◌+◌, ◌≤◌, inl, inr, Bool, List, [], ◌∷◌, ◌++◌, length, drop, Option, Some, None, arith, ap, subst, sym, ◌∙◌, append_assoc, length-append}
use Rattle.std.specs.Prelude.{filter, slice_get, IfSome, not}
use Rattle.std.specs.List.{AllByRecursion}
use Rattle.std.proofs.lemmas.Bool.{cases_Bool}
use Rattle.mc_dispatch.specs.Queue.{is_named}
use Rattle.mc_dispatch.specs.declared.call.Call.{Call}
use Rattle.mc_dispatch.specs.declared.call.Call.TheVariants as call
use Rattle.mc_dispatch.specs.declared.request.ClientNo.{ClientNo}
use Rattle.mc_dispatch.specs.declared.request.Request.{Request}
use Rattle.mc_player.specs.Journals.{ended_by, left_by, put, taken_by, unless}
use Rattle.mc_player.specs.Laws.{IsBegun}

pub All-to : {X : Type 0} (P Q : X → Type 0) → ((x : X) → P x → Q x) → (xs : List X) → AllByRecursion P xs → AllByRecursion Q xs
All-to P Q f [] h = h
All-to P Q f (x ∷ xs) h = (f x h.0, All-to P Q f xs h.1)

pub All-kept : {X : Type 0} (P : X → Type 0) (test : X → Bool) (xs : List X) → AllByRecursion P xs → AllByRecursion P (filter test xs)
All-kept P test [] h = h
All-kept P test (x ∷ xs) h =
    let e = All-kept P test xs h.1 in
    elim (cases_Bool (test x)) [ inl y ↦ rw y (h.0, e) | inr n ↦ rw n e ]

pub All-put : {X : Type 0} (P : X → Type 0) (o : Option X) (xs : List X) → AllByRecursion P xs → IfSome o P → AllByRecursion P (put o xs)
All-put P None xs all one = all
All-put P (Some x) [] all one = (one, tt)
All-put P (Some x) (y ∷ ys) all one = (all.0, All-put P (Some x) ys all.1 one)

pub All-rest : {X : Type 0} (P : X → Type 0) (xs : List X) → AllByRecursion P xs → AllByRecursion P (drop 1 xs)
All-rest P [] h = h
All-rest P (x ∷ xs) h = h.1

pub All-append : {X : Type 0} (P : X → Type 0) (xs ys : List X) → AllByRecursion P xs → AllByRecursion P ys → AllByRecursion P (xs ++ ys)
All-append P [] ys h g = g
All-append P (x ∷ xs) ys h g = (h.0, All-append P xs ys h.1 g)

pub All-first : {X : Type 0} (P : X → Type 0) (xs : List X) → AllByRecursion P xs → IfSome (slice_get xs 0) P
All-first P [] h = tt
All-first P (x ∷ xs) h = h.0

pub some-to : {X : Type 0} (P Q : X → Type 0) → ((x : X) → P x → Q x) → (o : Option X) → IfSome o P → IfSome o Q
some-to P Q f None h = tt
some-to P Q f (Some x) h = f x h

pub at_some : {X : Type 0} (P : X → Type 0) (o : Option X) (x : X) → IfSome o P → o ≡ Some x → P x
at_some P o x all is = let e : IfSome (Some x) P = subst (λ z. IfSome z P) is all in e

-- ---- requests

pub unless-some : (P : Request → Type 0) (test : Request → Bool) (w : Option Request) → IfSome w P → IfSome (unless test w) P
unless-some P test None s = tt
unless-some P test (Some q) s = elim (cases_Bool (test q)) [ inl y ↦ rw y tt | inr k ↦ rw k s ]

pub ended-some : (P : Request → Type 0) (ds : List Request) (w : Option Request) → IfSome w P → IfSome (ended_by ds w) P
ended-some P [] w s = tt
ended-some P (q ∷ qs) w s = s

pub left-all : (P : Request → Type 0) (c : ClientNo) (x : Call) (qs : List Request) → AllByRecursion P qs → AllByRecursion P (left_by c x qs)
left-all P c (call.Abort id) qs h = All-kept P (λ (q : Request). not (is_named c id q)) qs h
left-all P c call.Poll qs h = h
left-all P c (call.Observe id name format) qs h = h
left-all P c (call.Unobserve id) qs h = h
left-all P c (call.Event n on) qs h = h
left-all P c (call.Command id words) qs h = h
left-all P c (call.Get id name format) qs h = h
left-all P c (call.Set id name value) qs h = h

pub taken-all : (P : Request → Type 0) (c : ClientNo) (x : Call) (qs : List Request) → AllByRecursion P qs → AllByRecursion P (taken_by c x qs)
taken-all P c (call.Abort id) qs h = All-kept P (is_named c id) qs h
taken-all P c call.Poll qs h = tt
taken-all P c (call.Observe id name format) qs h = tt
taken-all P c (call.Unobserve id) qs h = tt
taken-all P c (call.Event n on) qs h = tt
taken-all P c (call.Command id words) qs h = tt
taken-all P c (call.Get id name format) qs h = tt
taken-all P c (call.Set id name value) qs h = tt

-- ---- beginnings

pub begun_more : {X : Type 0} (xs ys : List X) (e : X) → IsBegun xs ys → IsBegun xs (ys ++ e ∷ [])
begun_more xs ys e b = (b.0 ++ e ∷ [], sym (append_assoc xs b.0 (e ∷ [])) ∙ ap (λ zs. zs ++ e ∷ []) b.1)

pub begun-length : {X : Type 0} (xs ys : List X) → IsBegun xs ys → length xs ≤ length ys
begun-length xs ys b = let e : length xs + length b.0 ≡ length ys = sym (length-append xs b.0) ∙ ap (λ zs. length zs) b.1 in omega (arith, e)

-- the first of what is left is put behind what begins
pub put_next : {X : Type 0} (xs later ys : List X) (e : X) → xs ++ later ≡ ys → slice_get later 0 ≡ Some e → (xs ++ e ∷ []) ++ drop 1 later ≡ ys
put_next xs [] ys e told is = absurd (cc)
put_next xs (x ∷ later) ys e told is =
    let same : e ≡ x = cc in append_assoc xs (e ∷ []) later ∙ (ap (λ y. xs ++ y ∷ later) same ∙ told)
