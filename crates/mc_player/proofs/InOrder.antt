-- Requests are taken in the order in which they were accepted.
use Rattle.std.proofs.Common.{◌≡◌, ℕ, Bool, List, [], ◌∷◌, ◌++◌, drop, Option, Some, None, refl, ap, subst, sym, ◌∙◌, inl, inr, append_assoc}
use Rattle.std.specs.Prelude.{not, filter, slice_get, IsSomeAnd}
use Rattle.std.proofs.lemmas.Bool.{cases_Bool}
use Rattle.mc_dispatch.specs.Queue.{is_named, is_of}
use Rattle.mc_dispatch.specs.declared.call.Call.{Call}
use Rattle.mc_dispatch.specs.declared.call.Call.TheVariants as call
use Rattle.mc_dispatch.specs.declared.request.ClientNo.{ClientNo}
use Rattle.mc_dispatch.specs.declared.request.Request.{Request}
use Rattle.mc_player.specs.declared.record.CoreRecord.{CoreRecord}
use Rattle.mc_player.specs.declared.record.CoreRecord.TheVariants.{Created, Destroyed, Called, Learned, Wrote, Took, Ordered, Did, Pushed, Replied}
use Rattle.mc_player.specs.Journals.{left_by, put, queued, request}
use Rattle.mc_player.specs.Lives.{Table}
use Rattle.mc_player.specs.Laws.{IsInOrder}
use Rattle.mc_player.specs.Rules.{IsAllowed}
use Rattle.mc_player.specs.Tickets.{IsPart, asked, tickets, took}

part_none : (ys : List ℕ) → IsPart [] ys
part_none [] = refl
part_none (y ∷ ys) = inl (part_none ys)

part_all : (xs : List ℕ) → IsPart xs xs
part_all [] = refl
part_all (x ∷ xs) = inr (refl, part_all xs)

part_trans : (xs ys zs : List ℕ) → IsPart xs ys → IsPart ys zs → IsPart xs zs
part_trans xs ys [] p q = let e : IsPart xs [] = subst (λ (us : List ℕ). IsPart xs us) q p in e
part_trans xs [] (z ∷ zs) p q = let e : IsPart [] (z ∷ zs) = part_none (z ∷ zs) in rw p e
part_trans xs (y ∷ ys) (z ∷ zs) p q = elim q [
  | inl r ↦ inl (part_trans xs (y ∷ ys) zs p r)
  | inr r ↦ elim p [
    | inl s ↦ inl (part_trans xs ys zs s r.1)
    | inr s ↦ inr (s.0 ∙ r.0, part_trans (drop 1 xs) ys zs s.1 r.1)
  ]
]

-- after the same begin
part_after : (bs xs ys : List ℕ) → IsPart xs ys → IsPart (bs ++ xs) (bs ++ ys)
part_after [] xs ys p = p
part_after (a ∷ bs) xs ys p = inr (refl, part_after bs xs ys p)

-- one more behind both
part_more : (xs ys : List ℕ) (n : ℕ) → IsPart xs ys → IsPart (xs ++ n ∷ []) (ys ++ n ∷ [])
part_more xs [] n p = rw p (part_all (n ∷ []))
part_more xs (y ∷ ys) n p = elim p [
  | inl q ↦ inl (part_more xs ys n q)
  | inr q ↦ inr (part_head xs y n ys q.0 (part_more (drop 1 xs) ys n q.1))
]
  where
    part_head : (xs : List ℕ) (y n : ℕ) (ys : List ℕ) → slice_get xs 0 ≡ Some y → IsPart (drop 1 xs ++ n ∷ []) (ys ++ n ∷ [])
        → (slice_get (xs ++ n ∷ []) 0 ≡ Some y) × IsPart (drop 1 (xs ++ n ∷ [])) (ys ++ n ∷ [])
    part_head [] y n ys e p = absurd (cc)
    part_head (x ∷ xs) y n ys e p = (e, p)

tickets-put : (c : ClientNo) (n : ℕ) (x : Call) (qs : List Request) → tickets (put (request c (Some n) x) qs) ≡ tickets qs ++ n ∷ []
tickets-put c n x [] = refl
tickets-put c n x (q ∷ qs) = ap (λ us. q.ticket ∷ us) (tickets-put c n x qs)

tickets-kept : (test : Request → Bool) (qs : List Request) → IsPart (tickets (filter test qs)) (tickets qs)
tickets-kept test [] = refl
tickets-kept test (q ∷ qs) =
    let e = tickets-kept test qs in
    elim (cases_Bool (test q)) [ inl y ↦ rw y (inr (refl, e)) | inr k ↦ rw k (inl e) ]

tickets-left : (c : ClientNo) (x : Call) (qs : List Request) → IsPart (tickets (left_by c x qs)) (tickets qs)
tickets-left c (call.Abort id) qs = tickets-kept (λ (q : Request). not (is_named c id q)) qs
tickets-left c call.Poll qs = part_all (tickets qs)
tickets-left c (call.Observe id name format) qs = part_all (tickets qs)
tickets-left c (call.Unobserve id) qs = part_all (tickets qs)
tickets-left c (call.Event n on) qs = part_all (tickets qs)
tickets-left c (call.Command id words) qs = part_all (tickets qs)
tickets-left c (call.Get id name format) qs = part_all (tickets qs)
tickets-left c (call.Set id name value) qs = part_all (tickets qs)

put_step : (h : List CoreRecord) (c : ClientNo) (ticket : Option ℕ) (x : Call) (qs : List Request) → IsPart (took h ++ tickets qs) (asked h)
    → IsPart (took h ++ tickets (put (request c ticket x) qs)) (put ticket (asked h))
put_step h c None x qs p = p
put_step h c (Some n) x qs p =
    rw (tickets-put c n x qs, sym (append_assoc (took h) (tickets qs) (n ∷ []))) (part_more (took h ++ tickets qs) (asked h) n p)

took_step : (bs ys : List ℕ) (qs : List Request) (c : ClientNo) (n id : ℕ) → IsSomeAnd (slice_get qs 0) (λ q. (q.client ≡ c) × (q.ticket ≡ n) × (q.id ≡ id))
    → IsPart (bs ++ tickets qs) ys → IsPart ((bs ++ n ∷ []) ++ tickets (drop 1 qs)) ys
took_step bs ys [] c n id s p = absurd s
took_step bs ys (q ∷ qs) c n id s p = rw (sym s.1, append_assoc bs (q.ticket ∷ []) (tickets qs)) p

pub in_order : (t : Table) (h : List CoreRecord) → IsAllowed t h → IsInOrder h
in_order t [] all = refl
in_order t (Called by c ticket x a ∷ h) all =
    put_step h c ticket x (left_by c x (queued h)) (part_trans _ _ (asked h) (part_after (took h) _ _ (tickets-left c x (queued h))) (in_order t h all.1))
in_order t (Took by c n id ∷ h) all = took_step (took h) (asked h) (queued h) c n id all.0.0.oldest (in_order t h all.1)
in_order t (Destroyed by c ∷ h) all =
    part_trans _ _ (asked h) (part_after (took h) _ _ (tickets-kept (λ (q : Request). not (is_of c q)) (queued h))) (in_order t h all.1)
in_order t (Created by c name size ∷ h) all = in_order t h all.1
in_order t (Learned by view ∷ h) all = in_order t h all.1
in_order t (Wrote by mask f ∷ h) all = in_order t h all.1
in_order t (Ordered by o ∷ h) all = in_order t h all.1
in_order t (Did by o ∷ h) all = in_order t h all.1
in_order t (Pushed by c x kept ∷ h) all = in_order t h all.1
in_order t (Replied by c n e ∷ h) all = in_order t h all.1
