-- The tickets without a reply are just those of the requests that wait.
use Rattle.std.proofs.Common.{◌≡◌, ℕ, ◌+◌, ◌≤◌, ◌==◌, inl, inr, Bool, true, false, ◌&&◌, List, [], ◌∷◌, length, Option, Some, None, refl, sym, ap, subst, ◌∙◌, arith, length-append}
use Rattle.std.specs.Prelude.{if◌then◌else◌, filter}
use Rattle.std.proofs.lemmas.Bool.{cases_Bool, eqb-true, eq-eqb, and_parts, or_left, or_right}
use Rattle.mc_dispatch.specs.Queue.{has_ticket}
use Rattle.mc_dispatch.specs.declared.call.Call.{Call}
use Rattle.mc_dispatch.specs.declared.request.ClientNo.{ClientNo}
use Rattle.mc_dispatch.specs.declared.request.Request.{Request}
use Rattle.mc_player.specs.declared.record.CoreRecord.{CoreRecord}
use Rattle.mc_player.specs.declared.record.CoreRecord.TheVariants.{Created, Destroyed, Called, Learned, Wrote, Took, Ordered, Did, Pushed, Replied}
use Rattle.mc_player.specs.Journals.{put, request}
use Rattle.mc_player.specs.Lives.{Table}
use Rattle.mc_player.specs.Rings.{has, unanswered, without_ticket}
use Rattle.mc_player.specs.Rules.{IsAllowed}
use Rattle.mc_player.specs.Waiting.{is_client, one, waiting}
use Rattle.mc_player.proofs.Once.{once}
use Rattle.mc_player.proofs.Waits.{others_left, own_gone, replies_to, waiting_called, waiting_gone, waiting_less, waiting_replied, waiting_took}

-- ---- numbers in a list

abbrev pub times : ℕ → List ℕ → ℕ
times n us = length (filter (λ (m : ℕ). m == n) us)

abbrev pub one_of : ℕ → Option ℕ → ℕ
one_of n None = 0
one_of n (Some m) = if m == n then 1 else 0

times_put : (n : ℕ) (o : Option ℕ) (us : List ℕ) → times n (put o us) ≡ times n us + one_of n o
times_put n None us = omega arith
times_put n (Some m) [] = elim (cases_Bool (m == n)) [ inl y ↦ rw y refl | inr k ↦ rw k refl ]
times_put n (Some m) (u ∷ us) =
    let e = times_put n (Some m) us in
    elim (cases_Bool (u == n)) [ inl y ↦ rw y (omega (arith, e)) | inr k ↦ rw k e ]

times_without : (n m : ℕ) (us : List ℕ) → times m (without_ticket n us) ≡ (if n == m then 0 else times m us)
times_without n m [] = elim (cases_Bool (n == m)) [ inl y ↦ rw y refl | inr k ↦ rw k refl ]
times_without n m (u ∷ us) =
    let e = times_without n m us in
    elim (cases_Bool (u == n)) [
      | inl y ↦ elim (cases_Bool (n == m)) [
        | inl z ↦ let e' : times m (without_ticket n us) ≡ 0 = e ∙ rw z refl in rw (y, z) e'
        | inr k ↦
            let e' : times m (without_ticket n us) ≡ times m us = e ∙ rw k refl in
            let d : (u == m) ≡ false = subst (λ (j : ℕ). (j == m) ≡ false) (sym (eqb-true u n y)) k in
            rw (y, k, d) e'
      ]
      | inr x ↦ elim (cases_Bool (n == m)) [
        | inl z ↦
            let e' : times m (without_ticket n us) ≡ 0 = e ∙ rw z refl in
            let d : (u == m) ≡ false = subst (λ (j : ℕ). (u == j) ≡ false) (eqb-true n m z) x in
            rw (x, z, d) e'
        | inr k ↦
            let e' : times m (without_ticket n us) ≡ times m us = e ∙ rw k refl in
            elim (cases_Bool (u == m)) [ inl w ↦ rw (x, k, w) (omega (arith, e')) | inr w ↦ rw (x, k, w) e' ]
      ]
    ]

length_without : (n : ℕ) (us : List ℕ) → length (without_ticket n us) + times n us ≡ length us
length_without n [] = refl
length_without n (u ∷ us) =
    let e = length_without n us in
    elim (cases_Bool (u == n)) [ inl y ↦ rw y (omega (arith, e)) | inr k ↦ rw k (omega (arith, e)) ]

pub has_times : (n : ℕ) (us : List ℕ) → has n us ≡ true → 1 ≤ times n us
has_times n [] h = absurd (cc)
has_times n (u ∷ us) h = elim (cases_Bool (u == n)) [
  | inl y ↦ rw y (omega arith)
  | inr k ↦ let g : has n us ≡ true = rw k at h in rw k (has_times n us g)
]

pub times_has : (n : ℕ) (us : List ℕ) → 1 ≤ times n us → has n us ≡ true
times_has n [] l = absurd (omega (arith, l))
times_has n (u ∷ us) l = elim (cases_Bool (u == n)) [
  | inl y ↦ or_left (u == n) (has n us) y
  | inr k ↦ let g : 1 ≤ times n us = rw k at l in or_right (u == n) (has n us) (times_has n us g)
]

-- ---- the tickets of a client

abbrev pub of_both : ℕ → ℕ → Request → Bool
of_both c n q = is_client c q && has_ticket n q

both_client : (c n : ℕ) (q : Request) → of_both c n q ≡ true → is_client c q ≡ true
both_client c n q p = (and_parts (q.client.0 == c) (q.ticket == n) p).0

both_ticket : (c n : ℕ) (q : Request) → of_both c n q ≡ true → has_ticket n q ≡ true
both_ticket c n q p = (and_parts (q.client.0 == c) (q.ticket == n) p).1

own_request : (c n : ℕ) (d : ClientNo) (ticket : Option ℕ) (x : Call) → (d.0 == c) ≡ true → one (of_both c n) (request d ticket x) ≡ one_of n ticket
own_request c n d None x y = refl
own_request c n d (Some m) x y = rw y refl

other_request : (c n : ℕ) (d : ClientNo) (ticket : Option ℕ) (x : Call) → (d.0 == c) ≡ false → one (of_both c n) (request d ticket x) ≡ 0
other_request c n d None x k = refl
other_request c n d (Some m) x k = rw k refl

pub reply_both : (c m n : ℕ) (d : ClientNo) (q : Request) → d ≡ q.client → n ≡ q.ticket → one (of_both c m) (Some q) ≡ (if (d.0 == c) && (n == m) then 1 else 0)
reply_both c m n d q e s =
    ap (λ (k : ClientNo). if (k.0 == c) && (q.ticket == m) then 1 else 0) (sym e) ∙ ap (λ (k : ℕ). if (d.0 == c) && (k == m) then 1 else 0) (sym s)

-- at most one
pub both_once : (t : Table) (h : List CoreRecord) (c n : ℕ) → IsAllowed t h → waiting (of_both c n) h ≤ 1
both_once t h c n all = let l = waiting_less (of_both c n) (has_ticket n) h (both_ticket c n) in let o = once t h n all in omega (arith, l, o)

pub owed : (t : Table) (h : List CoreRecord) (c n : ℕ) → IsAllowed t h → times n (unanswered c h) ≡ waiting (of_both c n) h
owed t [] c n all = refl
owed t (Destroyed by d ∷ h) c n all =
    let e = owed t h c n all.1 in
    let g = waiting_gone (of_both c n) by d h (all.0.1).due in
    elim (cases_Bool (d.0 == c)) [
      | inl y ↦ let z = own_gone (of_both c n) c d h y (both_client c n) in rw y (sym (g ∙ z))
      | inr k ↦ let z = others_left (of_both c n) c d h k (both_client c n) in rw k (e ∙ sym (g ∙ z))
    ]
owed t (Called by d ticket x a ∷ h) c n all =
    let e = owed t h c n all.1 in
    let g = waiting_called (of_both c n) by d ticket x a h (all.0.1).due in
    elim (cases_Bool (d.0 == c)) [
      | inl y ↦ let p = times_put n ticket (unanswered c h) in let o = own_request c n d ticket x y in rw y (omega (arith, e, g, p, o))
      | inr k ↦ let o = other_request c n d ticket x k in rw k (omega (arith, e, g, o))
    ]
owed t (Took by d m id ∷ h) c n all = owed t h c n all.1 ∙ sym (waiting_took (of_both c n) by d m id h all.0.0.idle)
owed t (Replied by d m x ∷ h) c n all =
    let e = owed t h c n all.1 in
    let r = replies_to t h d m x all.0.0 in
    let l = waiting_replied (of_both c n) by d m x h r in
    let b = reply_both c n m d r.request r.of_client r.of_ticket in
    let u = both_once t h c n all.1 in
    let w = times_without m n (unanswered c h) in
    elim (cases_Bool (d.0 == c)) [
      | inl y ↦ elim (cases_Bool (m == n)) [
        | inl z ↦
            let b' : one (of_both c n) (Some r.request) ≡ 1 = b ∙ rw (y, z) refl in
            let w' : times n (without_ticket m (unanswered c h)) ≡ 0 = w ∙ rw z refl in
            rw y (omega (arith, l, b', u, w'))
        | inr k ↦
            let b' : one (of_both c n) (Some r.request) ≡ 0 = b ∙ rw (y, k) refl in
            let w' : times n (without_ticket m (unanswered c h)) ≡ times n (unanswered c h) = w ∙ rw k refl in
            rw y (omega (arith, l, b', e, w'))
      ]
      | inr k ↦ let b' : one (of_both c n) (Some r.request) ≡ 0 = b ∙ rw k refl in rw k (omega (arith, l, b', e))
    ]
owed t (Created by d name size ∷ h) c n all = owed t h c n all.1
owed t (Learned by view ∷ h) c n all = owed t h c n all.1
owed t (Wrote by mask f ∷ h) c n all = owed t h c n all.1
owed t (Ordered by o ∷ h) c n all = owed t h c n all.1
owed t (Did by o ∷ h) c n all = owed t h c n all.1
owed t (Pushed by d x kept ∷ h) c n all = owed t h c n all.1

-- ---- how many they are

length_put : (o : Option ℕ) (us : List ℕ) (c : ℕ) (d : ClientNo) (x : Call) → (d.0 == c) ≡ true → length (put o us) ≡ length us + one (is_client c) (request d o x)
length_put None us c d x y = omega arith
length_put (Some n) us c d x y = rw y (length-append us (n ∷ []))

no_request : (c : ℕ) (d : ClientNo) (o : Option ℕ) (x : Call) → (d.0 == c) ≡ false → one (is_client c) (request d o x) ≡ 0
no_request c d None x k = refl
no_request c d (Some n) x k = rw k refl

pub owed_count : (t : Table) (h : List CoreRecord) (c : ℕ) → IsAllowed t h → length (unanswered c h) ≡ waiting (is_client c) h
owed_count t [] c all = refl
owed_count t (Destroyed by d ∷ h) c all =
    let e = owed_count t h c all.1 in
    let g = waiting_gone (is_client c) by d h (all.0.1).due in
    elim (cases_Bool (d.0 == c)) [
      | inl y ↦ let z = own_gone (is_client c) c d h y (λ q p. p) in rw y (sym (g ∙ z))
      | inr k ↦ let z = others_left (is_client c) c d h k (λ q p. p) in rw k (e ∙ sym (g ∙ z))
    ]
owed_count t (Called by d ticket x a ∷ h) c all =
    let e = owed_count t h c all.1 in
    let g = waiting_called (is_client c) by d ticket x a h (all.0.1).due in
    elim (cases_Bool (d.0 == c)) [
      | inl y ↦ let p = length_put ticket (unanswered c h) c d x y in rw y (omega (arith, e, g, p))
      | inr k ↦ let o = no_request c d ticket x k in rw k (omega (arith, e, g, o))
    ]
owed_count t (Took by d m id ∷ h) c all = owed_count t h c all.1 ∙ sym (waiting_took (is_client c) by d m id h all.0.0.idle)
owed_count t (Replied by d m x ∷ h) c all =
    let e = owed_count t h c all.1 in
    let r = replies_to t h d m x all.0.0 in
    let l = waiting_replied (is_client c) by d m x h r in
    let o : one (is_client c) (Some r.request) ≡ (if d.0 == c then 1 else 0) = ap (λ (k : ClientNo). if k.0 == c then 1 else 0) (sym r.of_client) in
    elim (cases_Bool (d.0 == c)) [
      | inl y ↦
          let o' : one (is_client c) (Some r.request) ≡ 1 = o ∙ rw y refl in
          let w = length_without m (unanswered c h) in
          let s = owed t h c m all.1 in
          let u = both_once t h c m all.1 in
          let b : one (of_both c m) (Some r.request) ≡ 1 = reply_both c m m d r.request r.of_client r.of_ticket ∙ rw (y, eq-eqb m m refl) refl in
          let k = waiting_replied (of_both c m) by d m x h r in
          rw y (omega (arith, e, l, o', w, s, u, b, k))
      | inr k ↦ let o' : one (is_client c) (Some r.request) ≡ 0 = o ∙ rw k refl in rw k (omega (arith, e, l, o'))
    ]
owed_count t (Created by d name size ∷ h) c all = owed_count t h c all.1
owed_count t (Learned by view ∷ h) c all = owed_count t h c all.1
owed_count t (Wrote by mask f ∷ h) c all = owed_count t h c all.1
owed_count t (Ordered by o ∷ h) c all = owed_count t h c all.1
owed_count t (Did by o ∷ h) c all = owed_count t h c all.1
owed_count t (Pushed by d x kept ∷ h) c all = owed_count t h c all.1
