-- The next drop: that there is one, and that nothing grows by it.
use Rattle.std.proofs.Common.{◌≡◌, ℕ, ◌+◌, ◌<◌, ◌≤◌, Bool, true, false, List, [], ◌∷◌, ◌++◌, length, Option, Some, None, refl, ap, sym, ◌∙◌, arith, inl, inr}
use Rattle.std.specs.Prelude.{IsSomeAnd, if◌then◌else◌, nat_lt, nat_le}
use Rattle.std.proofs.lemmas.Bool.{cases_Bool, ltb-false, ltb-true}
use Rattle.std.proofs.lemmas.List.{append-nil, length-append}
use Rattle.mc_packet.specs.declared.packet.Packet.{Packet}
use Rattle.mc_packet.specs.declared.packet.Pos.{Pos}
use Rattle.mc_packet.specs.declared.cache.Heads.{Heads}
use Rattle.mc_packet.specs.declared.choice.Kind.{Kind}
use Rattle.mc_packet.specs.declared.choice.Kind.TheVariants.{Video, Audio, Sub}
use Rattle.mc_packet.specs.declared.walk.Mark.{Mark}
use Rattle.mc_journal.specs.Films.{rank}
use Rattle.mc_queue.specs.Places.{Rise, place, weights}
use Rattle.mc_journal.specs.Views.{from_place}
use Rattle.mc_queue.specs.Queue.{QueueState, first_of}
use Rattle.mc_queue.proofs.Rising.{all_from, less_weight_from}
use Rattle.mc_range.specs.declared.cutting.Cut.{Cut}
use Rattle.mc_range.specs.declared.queues.Queues.{Queues}
use Rattle.mc_range.specs.Range.{RangeState, IsRange, QueueIn, count, weight_in as weight_of_queue}
use Rattle.mc_range.specs.Tracks.{queue_under, with_queue}
use Rattle.mc_range.specs.Cutting.{Cuts, CutsOne, IsCut, bound_under, cut_at, cuttable, earlier_victim, first_cuttable, victim, victim_in, victim_under, weight_ahead, weight_from}
use Rattle.mc_cache.specs.Cache.{holds, in_front, weight_in, weight_of}
use Rattle.mc_cache.specs.Pruning.{CutsLast, CutsRange}

-- ---- without a drop there is no victim

no_victim : (heads : Option Heads) (old new : Queues) (v : _) → Cuts heads old new v None → v ≡ None
no_victim heads old new None c = refl
no_victim heads old new (Some v) c = absurd (one (bound_under v.kind heads) (queue_under v.kind old) (queue_under v.kind new) c.0)
  where
    one : (h : Option Pos) (o n : Option QueueState) → CutsOne h o n None → ⊥
    one h None n c = c
    one h (Some q) n c = let e = c.0 in cc

neither : (a b : _) → earlier_victim a b ≡ None → (a ≡ None) × (b ≡ None)
neither None b e = (refl, e)
neither (Some a) None e = absurd (cc)
neither (Some a) (Some b) e = absurd (some (nat_le (rank a.place) (rank b.place)) a b e)
  where
    some : {A : Type 0} (t : Bool) (a b : A) → (if t then Some a else Some b) ≡ None → ⊥
    some true a b e = cc
    some false a b e = cc

not_under : (kind : Kind) (p : Option Packet) → victim_under kind p ≡ None → p ≡ None
not_under kind None e = refl
not_under kind (Some p) e = absurd (cc)

pub record NoneCut (heads : Option Heads) (qs : Queues) : Type 0 where
  pub video : first_cuttable (bound_under Video heads) qs.video ≡ None
  pub audio : first_cuttable (bound_under Audio heads) qs.audio ≡ None
  pub sub : first_cuttable (bound_under Sub heads) qs.sub ≡ None

none_cut : (heads : Option Heads) (old new : Queues) → Cuts heads old new (victim heads old) None → NoneCut heads old
none_cut heads old new c =
    let a = neither (victim_in Video heads old) _ (no_victim heads old new (victim heads old) c) in
    let b = neither (victim_in Audio heads old) (victim_in Sub heads old) a.1 in
    record { video = not_under Video _ a.0; audio = not_under Audio _ b.0; sub = not_under Sub _ b.1 }

-- ---- where nothing can be cut

empty_one : (q : Option QueueState) → first_cuttable None q ≡ None → count q ≡ 0
empty_one None e = refl
empty_one (Some q) e = by_packets q.packets e
  where
    by_packets : (ps : List Packet) → cuttable None (first_of ps) ≡ None → length ps ≡ 0
    by_packets [] e = refl
    by_packets (p ∷ ps) e = absurd (cc)

all_ahead : (head : Option Pos) (q : Option QueueState) (track : Option ℕ) (mark : Mark) → QueueIn track mark q → first_cuttable head q ≡ None → weight_of_queue q ≤ weight_ahead head q
all_ahead None None track mark i e = omega arith
all_ahead (Some h) None track mark i e = omega arith
all_ahead None (Some q) track mark i e = by_packets q.packets e
  where
    by_packets : (ps : List Packet) → cuttable None (first_of ps) ≡ None → weights ps ≤ 0
    by_packets [] e = omega arith
    by_packets (p ∷ ps) e = absurd (cc)
all_ahead (Some h) (Some q) track mark i e = by_packets q.packets e i.2.rise
  where
    by_packets : (ps : List Packet) → cuttable (Some h) (first_of ps) ≡ None → Rise q.track (rank q.from) (rank q.to) ps → weights ps ≤ weights (from_place (rank h) ps)
    by_packets [] e r = omega arith
    by_packets (p ∷ ps) e r = elim (cases_Bool (nat_lt (place p) (rank h))) [
      | inl y ↦ let z = rw y at e in absurd (cc)
      | inr n ↦
          let l = ltb-false (place p) (rank h) n in
          let f = all_from q.track (place p) (rank q.to) (rank h) (p ∷ ps) (omega arith) (r.0, omega arith, r.2) in
          rw f (omega arith)
    ]

pub some_cut : (r q : RangeState) (c : Option Cut) → holds r ≡ true → IsCut None r q c → IsSomeAnd c (λ x. c ≡ Some x)
some_cut r q (Some c) h i = refl
some_cut r q None h i =
    let n = none_cut None r.queues q.queues i.queues in
    let v = empty_one r.queues.video n.video in
    let a = empty_one r.queues.audio n.audio in
    let s = empty_one r.queues.sub n.sub in
    let l = ltb-true 0 (count r.queues.video + (count r.queues.audio + count r.queues.sub)) h in
    absurd (omega arith)

pub some_cut_ahead : (heads : Heads) (r q : RangeState) (c : Option Cut) → IsRange r → weight_from heads r.queues < weight_in r → IsCut (Some heads) r q c → IsSomeAnd c (λ x. c ≡ Some x)
some_cut_ahead heads r q (Some c) i l k = refl
some_cut_ahead heads r q None i l k =
    let n = none_cut (Some heads) r.queues q.queues k.queues in
    let v = all_ahead heads.video r.queues.video r.set.video r.mark i.held.video n.video in
    let a = all_ahead heads.audio r.queues.audio r.set.audio r.mark i.held.audio n.audio in
    let s = all_ahead heads.sub r.queues.sub r.set.sub r.mark i.held.sub n.sub in
    absurd (omega arith)

-- ---- nothing grows

one_weighs : (head : Option Pos) (o n : Option QueueState) (c : Option Cut) → CutsOne head o n c → weight_of_queue n ≤ weight_of_queue o
one_weighs head None n c d = absurd d
one_weighs head (Some q) None c d = omega arith
one_weighs head (Some q) (Some m) c d =
    let e : weights m.packets ≡ weights (from_place (rank (cut_at head q)) q.packets) = ap (λ (x : QueueState). weights x.packets) d.1.packets_left in
    let l = less_weight_from (rank (cut_at head q)) q.packets in
    omega arith

kind_weighs : (kind : Kind) (q : Option QueueState) (old new : Queues) → weight_of_queue (queue_under kind new) ≤ weight_of_queue (queue_under kind old) → new ≡ with_queue kind (queue_under kind new) old
    → weight_of_queue new.video + (weight_of_queue new.audio + weight_of_queue new.sub) ≤ weight_of_queue old.video + (weight_of_queue old.audio + weight_of_queue old.sub)
kind_weighs Video q old new l e =
    let a : weight_of_queue new.audio ≡ weight_of_queue old.audio = ap (λ (x : Queues). weight_of_queue x.audio) e in
    let s : weight_of_queue new.sub ≡ weight_of_queue old.sub = ap (λ (x : Queues). weight_of_queue x.sub) e in
    omega arith
kind_weighs Audio q old new l e =
    let v : weight_of_queue new.video ≡ weight_of_queue old.video = ap (λ (x : Queues). weight_of_queue x.video) e in
    let s : weight_of_queue new.sub ≡ weight_of_queue old.sub = ap (λ (x : Queues). weight_of_queue x.sub) e in
    omega arith
kind_weighs Sub q old new l e =
    let v : weight_of_queue new.video ≡ weight_of_queue old.video = ap (λ (x : Queues). weight_of_queue x.video) e in
    let a : weight_of_queue new.audio ≡ weight_of_queue old.audio = ap (λ (x : Queues). weight_of_queue x.audio) e in
    omega arith

cuts_weigh : (heads : Option Heads) (old new : Queues) (v : _) (c : Option Cut) → Cuts heads old new v c
    → weight_of_queue new.video + (weight_of_queue new.audio + weight_of_queue new.sub) ≤ weight_of_queue old.video + (weight_of_queue old.audio + weight_of_queue old.sub)
cuts_weigh heads old new None c d = let e = d.1 in rw e (omega arith)
cuts_weigh heads old new (Some v) c d =
    kind_weighs v.kind (queue_under v.kind new) old new (one_weighs (bound_under v.kind heads) (queue_under v.kind old) (queue_under v.kind new) c d.0) d.1

pub cut_weighs : (heads : Option Heads) (r q : RangeState) (c : Option Cut) → IsCut heads r q c → weight_in q ≤ weight_in r
cut_weighs heads r q c i = cuts_weigh heads r.queues q.queues (victim heads r.queues) c i.queues

-- ---- what a drop tells

told_by : (heads : Option Heads) (r q : RangeState) (c : Option Cut) → IsSomeAnd c (λ x. c ≡ Some x) → IsCut heads r q c → IsSomeAnd c (λ x. IsCut heads r q (Some x))
told_by heads r q None s i = absurd s
told_by heads r q (Some x) s i = i

pub ahead_told : (heads : Heads) (r q : RangeState) (c : Option Cut) → IsRange r → weight_from heads r.queues < weight_in r → IsCut (Some heads) r q c → IsSomeAnd c (λ x. IsCut (Some heads) r q (Some x))
ahead_told heads r q c i l k = told_by (Some heads) r q c (some_cut_ahead heads r q c i l k) k

-- the last of others is cut
abbrev pub LastCut : List RangeState → RangeState → List RangeState → Cut → Type 0
LastCut rs r new c = (q : RangeState) × IsCut None r q (Some c) × (new ≡ rs ++ (if holds q then q ∷ [] else [])) × IsRange q × (weight_of (q ∷ []) ≤ weight_of (r ∷ []))

pub last_gone : (rs : List RangeState) (r q : RangeState) (c : Option Cut) (b : Bool) → holds r ≡ true → IsRange q → IsCut None r q c → b ≡ holds q → b ≡ false → IsSomeAnd c (λ x. LastCut rs r rs x)
last_gone rs r q None b h i k e n = absurd (some_cut r q None h k)
last_gone rs r q (Some c) b h i k e n =
    let w = cut_weighs None r q (Some c) k in
    let z : holds q ≡ false = sym e ∙ n in
    (q, k, rw z (sym (append-nil rs)), i, omega arith)

cuts_last : (xs : List RangeState) (r q : RangeState) (c : Cut) → IsCut None r q (Some c) → CutsLast (xs ++ r ∷ []) (xs ++ (if holds q then q ∷ [] else [])) c
cuts_last [] r q c i = (q, i, refl)
cuts_last (x ∷ []) r q c i = ((if holds q then q ∷ [] else []), (q, i, refl), refl)
cuts_last (x ∷ y ∷ xs) r q c i = ((y ∷ xs) ++ (if holds q then q ∷ [] else []), cuts_last (y ∷ xs) r q c i, refl)

cuts_range : (heads : Heads) (a : Option RangeState) (xs new : List RangeState) (r q : RangeState) (c : Cut) → IsCut None r q (Some c) → new ≡ xs ++ (if holds q then q ∷ [] else []) → CutsRange heads a (xs ++ r ∷ []) a new c
cuts_range heads a [] new r q c i e = rw e (cuts_last [] r q c i, refl)
cuts_range heads a (x ∷ xs) new r q c i e = rw e (cuts_last (x ∷ xs) r q c i, refl)

pub next_value : (heads : Heads) (a : Option RangeState) (old xs new : List RangeState) (r : RangeState) (c : Option Cut) → old ≡ xs ++ r ∷ [] → IsSomeAnd c (λ x. LastCut xs r new x) → IsSomeAnd c (λ x. CutsRange heads a old a new x)
next_value heads a old xs new r None e s = absurd s
next_value heads a old xs new r (Some c) e s = rw e (cuts_range heads a xs new r s.0 c s.1 s.2)

weight_both : (xs ys : List RangeState) → weight_of (xs ++ ys) ≡ weight_of xs + weight_of ys
weight_both [] ys = omega arith
weight_both (x ∷ xs) ys = let m = weight_both xs ys in omega arith

last_weight : (xs : List RangeState) (r q : RangeState) → weight_of (q ∷ []) ≤ weight_of (r ∷ []) → weight_of (xs ++ (if holds q then q ∷ [] else [])) ≤ weight_of (xs ++ r ∷ [])
last_weight xs r q l =
    let b = weight_both xs (r ∷ []) in
    elim (cases_Bool (holds q)) [
      | inl y ↦ let a = weight_both xs (q ∷ []) in rw y (omega arith)
      | inr n ↦ let a = weight_both xs [] in rw n (omega arith)
    ]

last_number : (xs : List RangeState) (r q : RangeState) → length (xs ++ (if holds q then q ∷ [] else [])) ≤ length (xs ++ r ∷ [])
last_number xs r q =
    let b = length-append xs (r ∷ []) in
    elim (cases_Bool (holds q)) [
      | inl y ↦ let a = length-append xs (q ∷ []) in rw y (omega arith)
      | inr n ↦ let a = length-append xs [] in rw n (omega arith)
    ]

front_less : (a : Option RangeState) (xs ys : List RangeState) → weight_of xs ≤ weight_of ys → weight_of (in_front a xs) ≤ weight_of (in_front a ys)
front_less None xs ys l = l
front_less (Some r) xs ys l = omega arith

front_fewer : (a : Option RangeState) (xs ys : List RangeState) → length xs ≤ length ys → length (in_front a xs) ≤ length (in_front a ys)
front_fewer None xs ys l = l
front_fewer (Some r) xs ys l = omega arith

pub next_weight : (a : Option RangeState) (old xs new : List RangeState) (r : RangeState) (c : Option Cut) → old ≡ xs ++ r ∷ [] → IsSomeAnd c (λ x. LastCut xs r new x) → weight_of (in_front a new) ≤ weight_of (in_front a old)
next_weight a old xs new r None e s = absurd s
next_weight a old xs new r (Some c) e s = let k = s.2 in rw (e, k) (front_less a _ _ (last_weight xs r s.0 s.4))

pub next_number : (a : Option RangeState) (old xs new : List RangeState) (r : RangeState) (c : Option Cut) → old ≡ xs ++ r ∷ [] → IsSomeAnd c (λ x. LastCut xs r new x) → length (in_front a new) ≤ length (in_front a old)
next_number a old xs new r None e s = absurd s
next_number a old xs new r (Some c) e s = let k = s.2 in rw (e, k) (front_fewer a _ _ (last_number xs r s.0))
