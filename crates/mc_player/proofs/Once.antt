-- Tickets are new, and at most one request with a ticket waits.
use Rattle.std.proofs.Common.{◌≡◌, ℕ, ◌<◌, ◌≤◌, ◌==◌, inl, inr, Bool, true, false, List, [], ◌∷◌, length, Option, Some, None, refl, sym, ◌∙◌, arith}
use Rattle.std.specs.Prelude.{IfSome, IsSomeAnd}
use Rattle.std.specs.Bool.{MatchBool}
use Rattle.std.proofs.lemmas.Bool.{cases_eq, ne_eqb, and_parts}
use Rattle.mc_dispatch.specs.Queue.{has_ticket}
use Rattle.mc_dispatch.specs.declared.call.Call.{Call}
use Rattle.mc_dispatch.specs.declared.request.ClientNo.{ClientNo}
use Rattle.mc_ring.specs.Ring.{is_full}
use Rattle.mc_player.specs.declared.record.Answer.{Answer}
use Rattle.mc_player.specs.declared.record.CoreRecord.{CoreRecord}
use Rattle.mc_player.specs.declared.record.CoreRecord.TheVariants.{Created, Destroyed, Called, Learned, Wrote, Took, Ordered, Did, Pushed, Replied}
use Rattle.mc_player.specs.Facts.{life_of}
use Rattle.mc_player.specs.Journals.{request}
use Rattle.mc_player.specs.Lives.{Life, Table}
use Rattle.mc_player.specs.Rules.{IsAccepted, IsAllowed, IsAnswered, MayCall, answer_of, is_bad, is_request}
use Rattle.mc_player.specs.Waiting.{one, waiting}
use Rattle.mc_player.proofs.Counts.{one_most}
use Rattle.mc_player.proofs.Waits.{but, replies_to, waiting_called, waiting_gone, waiting_less, waiting_replied, waiting_took}

-- ---- the ticket of an accepted request

abbrev pub IsNew : List CoreRecord → Option ℕ → Type 0
IsNew h ticket = IfSome ticket (λ n. n ≡ length h)

none_new : (h : List CoreRecord) (ticket : Option ℕ) → ticket ≡ None → IsNew h ticket
none_new h None e = tt
none_new h (Some n) e = absurd (cc)

length_new : (h : List CoreRecord) (ticket : Option ℕ) → ticket ≡ Some (length h) → IsNew h ticket
length_new h None e = tt
length_new h (Some n) e = let same : n ≡ length h = cc in same

by_fullness : (h : List CoreRecord) (ticket : Option ℕ) (a b : Answer) (full : Bool) → MatchBool full (IsAnswered ticket a b) (IsAccepted h ticket a) → IsNew h ticket
by_fullness h ticket a b true may = none_new h ticket may.untold
by_fullness h ticket a b false may = length_new h ticket may.new

by_form : (h : List CoreRecord) (ticket : Option ℕ) (a b d : Answer) (bad full : Bool)
    → MatchBool bad (IsAnswered ticket a b) (MatchBool full (IsAnswered ticket a d) (IsAccepted h ticket a)) → IsNew h ticket
by_form h ticket a b d true full may = none_new h ticket may.untold
by_form h ticket a b d false full may = by_fullness h ticket a d full may

by_kind : (h : List CoreRecord) (ticket : Option ℕ) (a b c d : Answer) (asks bad full : Bool)
    → MatchBool asks (MatchBool bad (IsAnswered ticket a b) (MatchBool full (IsAnswered ticket a d) (IsAccepted h ticket a))) (IsAnswered ticket a c) → IsNew h ticket
by_kind h ticket a b c d true bad full may = by_form h ticket a b d bad full may
by_kind h ticket a b c d false bad full may = none_new h ticket may.untold

by_life : (t : Table) (h : List CoreRecord) (c : ClientNo) (ticket : Option ℕ) (x : Call) (a : Answer) (o : Option Life) → IsSomeAnd o (MayCall t h c ticket x a) → IsNew h ticket
by_life t h c ticket x a None may = absurd may
by_life t h c ticket x a (Some l) may = by_kind h ticket a _ (answer_of t h c l x) _ (is_request x) (is_bad x) (is_full l.ring) may

pub ticket_new : (t : Table) (h : List CoreRecord) (c : ClientNo) (ticket : Option ℕ) (x : Call) (a : Answer) → IsSomeAnd (life_of t c.0 h) (MayCall t h c ticket x a) → IsNew h ticket
ticket_new t h c ticket x a may = by_life t h c ticket x a (life_of t c.0 h) may

-- ---- no later ticket waits

request_below : (h : List CoreRecord) (c : ClientNo) (ticket : Option ℕ) (x : Call) (n : ℕ) → IsNew h ticket → length h < n → one (has_ticket n) (request c ticket x) ≡ 0
request_below h c None x n new below = refl
request_below h c (Some m) x n new below = let e : (m == n) ≡ false = ne_eqb m n (λ s. absurd (let g : length h ≡ n = sym new ∙ s in omega (arith, g))) in rw e refl

pub none_later : (t : Table) (h : List CoreRecord) (n : ℕ) → IsAllowed t h → length h ≤ n → waiting (has_ticket n) h ≡ 0
none_later t [] n all below = refl
none_later t (Called by c ticket x a ∷ h) n all below =
    let e = none_later t h n all.1 (omega arith) in
    let g = waiting_called (has_ticket n) by c ticket x a h (all.0.1).due in
    let r = request_below h c ticket x n (ticket_new t h c ticket x a all.0.0) (omega arith) in
    omega (arith, e, g, r)
none_later t (Destroyed by c ∷ h) n all below =
    let e = none_later t h n all.1 (omega arith) in
    let g = waiting_gone (has_ticket n) by c h (all.0.1).due in
    let l = waiting_less (but (has_ticket n) c) (has_ticket n) h (λ q p. (and_parts (q.ticket == n) _ p).0) in
    omega (arith, e, g, l)
none_later t (Took by c m id ∷ h) n all below =
    let e = none_later t h n all.1 (omega arith) in let g = waiting_took (has_ticket n) by c m id h all.0.0.idle in omega (arith, e, g)
none_later t (Replied by c m x ∷ h) n all below =
    let e = none_later t h n all.1 (omega arith) in
    let g = waiting_replied (has_ticket n) by c m x h (replies_to t h c m x all.0.0) in
    omega (arith, e, g)
none_later t (Created by c name size ∷ h) n all below = none_later t h n all.1 (omega arith)
none_later t (Learned by view ∷ h) n all below = none_later t h n all.1 (omega arith)
none_later t (Wrote by mask f ∷ h) n all below = none_later t h n all.1 (omega arith)
none_later t (Ordered by o ∷ h) n all below = none_later t h n all.1 (omega arith)
none_later t (Did by o ∷ h) n all below = none_later t h n all.1 (omega arith)
none_later t (Pushed by c x kept ∷ h) n all below = none_later t h n all.1 (omega arith)

-- ---- at most one waits

request_other : (h : List CoreRecord) (c : ClientNo) (ticket : Option ℕ) (x : Call) (n : ℕ) → IsNew h ticket → (n ≡ length h → ⊥) → one (has_ticket n) (request c ticket x) ≡ 0
request_other h c None x n new other = refl
request_other h c (Some m) x n new other = let e : (m == n) ≡ false = ne_eqb m n (λ s. absurd (other (sym s ∙ new))) in rw e refl

pub once : (t : Table) (h : List CoreRecord) (n : ℕ) → IsAllowed t h → waiting (has_ticket n) h ≤ 1
once t [] n all = omega arith
once t (Called by c ticket x a ∷ h) n all =
    let g = waiting_called (has_ticket n) by c ticket x a h (all.0.1).due in
    elim (cases_eq n (length h)) [
      | inl s ↦
          let z = none_later t h n all.1 (omega (arith, s)) in
          let m = one_most (has_ticket n) (request c ticket x) in
          omega (arith, g, z, m)
      | inr d ↦
          let e = once t h n all.1 in
          let z = request_other h c ticket x n (ticket_new t h c ticket x a all.0.0) d in
          omega (arith, g, e, z)
    ]
once t (Destroyed by c ∷ h) n all =
    let e = once t h n all.1 in
    let g = waiting_gone (has_ticket n) by c h (all.0.1).due in
    let l = waiting_less (but (has_ticket n) c) (has_ticket n) h (λ q p. (and_parts (q.ticket == n) _ p).0) in
    omega (arith, e, g, l)
once t (Took by c m id ∷ h) n all = let e = once t h n all.1 in let g = waiting_took (has_ticket n) by c m id h all.0.0.idle in omega (arith, e, g)
once t (Replied by c m x ∷ h) n all =
    let e = once t h n all.1 in
    let g = waiting_replied (has_ticket n) by c m x h (replies_to t h c m x all.0.0) in
    omega (arith, e, g)
once t (Created by c name size ∷ h) n all = once t h n all.1
once t (Learned by view ∷ h) n all = once t h n all.1
once t (Wrote by mask f ∷ h) n all = once t h n all.1
once t (Ordered by o ∷ h) n all = once t h n all.1
once t (Did by o ∷ h) n all = once t h n all.1
once t (Pushed by c x kept ∷ h) n all = once t h n all.1
