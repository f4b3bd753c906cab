-- A drop takes packets, and none at a head or behind it.
use Rattle.std.proofs.Common.{◌≡◌, ℕ, ◌<◌, List, [], ◌∷◌, Option, Some, None, arith, refl, ap, ◌∙◌, inl, inr}
use Rattle.std.specs.Prelude.{IsSomeAnd, nat_le, nat_lt}
use Rattle.std.proofs.lemmas.Bool.{cases_Bool, ltb-true, lt-leb}
use Rattle.std.proofs.lemmas.List.Sums.{sum_by-cons}
use Rattle.mc_packet.specs.declared.packet.Packet.{Packet}
use Rattle.mc_packet.specs.declared.packet.Pos.{Pos}
use Rattle.mc_packet.specs.declared.cache.Heads.{Heads}
use Rattle.mc_packet.specs.declared.choice.Kind.{Kind}
use Rattle.mc_packet.specs.declared.choice.Kind.TheVariants.{Video, Audio, Sub}
use Rattle.mc_journal.specs.Films.{rank}
use Rattle.mc_queue.specs.Places.{place, weight_of, weights}
use Rattle.mc_journal.specs.Views.{from_place}
use Rattle.mc_queue.specs.Queue.{QueueState, IsQueue, first_of, next_cut}
use Rattle.mc_queue.proofs.Rising.{less_weight_from}
use Rattle.mc_queue.proofs.Rests.{from_again}
use Rattle.mc_queue.proofs.Cutting.{cut_behind}
use Rattle.mc_queue.proofs.Uniting.{earlier_least}
use Rattle.mc_range.specs.declared.queues.Queues.{Queues}
use Rattle.mc_range.specs.declared.cutting.Cut.{Cut}
use Rattle.mc_range.specs.declared.cutting.Victim.{Victim}
use Rattle.mc_range.specs.Range.{RangeState, IsRange, weight_in, weight_of_all}
use Rattle.mc_range.specs.Growing.{IsSound}
use Rattle.mc_range.specs.Tracks.{queue_under, with_queue}
use Rattle.mc_range.specs.Cutting.{weight_ahead, weight_from, head_under, bound_under, cuttable, first_cuttable, victim, cut_at, CutsOne, Cuts, IsCut}
use Rattle.mc_range.proofs.Dropping.{is_victim, all_sound, sound_under}

-- ---- something goes

less_from : (cut : ℕ) (p : Packet) (ps : List Packet) → place p < cut → weights (from_place cut (p ∷ ps)) < weights (p ∷ ps)
less_from cut p ps l =
    let n = lt-leb cut (place p) l in
    let m = less_weight_from cut ps in
    let all = sum_by-cons weight_of p ps in
    rw n (omega arith)

first_goes : (head : Option Pos) (q : QueueState) (x p : Packet) (ps : List Packet) → IsQueue q → q.packets ≡ p ∷ ps → cuttable head (Some p) ≡ Some x → place p < rank (cut_at head q)
first_goes None q x p ps i e c = cut_behind q p ps i e
first_goes (Some h) q x p ps i e c =
    let m = cut_behind q p ps i e in
    elim (cases_Bool (nat_lt (place p) (rank h))) [
      | inl y ↦
          let l = ltb-true (place p) (rank h) y in
          elim (cases_Bool (nat_le (rank h) (rank (next_cut q)))) [ inl z ↦ rw z l | inr z ↦ rw z m ]
      | inr n ↦ absurd (let f : None ≡ Some x = rw n at c in cc)
    ]

less_by : (head : Option Pos) (q : QueueState) (x : Packet) (ps : List Packet) → IsQueue q → q.packets ≡ ps → cuttable head (first_of ps) ≡ Some x
    → weights (from_place (rank (cut_at head q)) ps) < weights ps
less_by None q x [] i e c = absurd (cc)
less_by (Some h) q x [] i e c = absurd (cc)
less_by head q x (p ∷ ps) i e c = less_from (rank (cut_at head q)) p ps (first_goes head q x p ps i e c)

less_one : (head : Option Pos) (o n : Option QueueState) (c : Cut) (x : Packet) → IsSound o → first_cuttable head o ≡ Some x → CutsOne head o n (Some c) → weight_in n < weight_in o
less_one head None n c x s f k = absurd k
less_one head (Some q) None c x s f k = absurd k.1
less_one head (Some q) (Some m) c x s f k =
    let e : m.packets ≡ from_place (rank (cut_at head q)) q.packets = ap (λ (z : QueueState). z.packets) k.1.packets_left in
    rw e (less_by head q x q.packets s refl f)

less_all : (kind : Kind) (old new : Queues) → weight_in (queue_under kind new) < weight_in (queue_under kind old) → new ≡ with_queue kind (queue_under kind new) old → weight_of_all new < weight_of_all old
less_all Video old new l e = let x = ap (λ (q : Queues). weight_in q.audio) e in let y = ap (λ (q : Queues). weight_in q.sub) e in omega arith
less_all Audio old new l e = let x = ap (λ (q : Queues). weight_in q.video) e in let y = ap (λ (q : Queues). weight_in q.sub) e in omega arith
less_all Sub old new l e = let x = ap (λ (q : Queues). weight_in q.video) e in let y = ap (λ (q : Queues). weight_in q.audio) e in omega arith

pub cut_lighter : (heads : Option Heads) (old new : RangeState) (c : Cut) → IsRange old → IsCut heads old new (Some c) → weight_of_all new.queues < weight_of_all old.queues
cut_lighter heads old new c i k = by (victim heads old.queues) refl k.queues
  where
    one : (v : Victim) (o : Option Packet) → first_cuttable (bound_under v.kind heads) (queue_under v.kind old.queues) ≡ o → IsSomeAnd o (λ p. p.pos ≡ v.place)
        → CutsOne (bound_under v.kind heads) (queue_under v.kind old.queues) (queue_under v.kind new.queues) (Some c) → weight_in (queue_under v.kind new.queues) < weight_in (queue_under v.kind old.queues)
    one v None f s x = absurd s
    one v (Some p) f s x = less_one (bound_under v.kind heads) (queue_under v.kind old.queues) (queue_under v.kind new.queues) c p (sound_under v.kind old.queues (all_sound old i)) f x

    by : (v : Option Victim) → victim heads old.queues ≡ v → Cuts heads old.queues new.queues v (Some c) → weight_of_all new.queues < weight_of_all old.queues
    by None e x = absurd (let f = x.0 in cc)
    by (Some v) e x = less_all v.kind old.queues new.queues (one v (first_cuttable (bound_under v.kind heads) (queue_under v.kind old.queues)) refl (is_victim heads old.queues v e) x.0) x.1

-- ---- what lies at a head or behind it stays

spared_one : (h : Pos) (o n : Option QueueState) (c : Option Cut) → CutsOne (Some h) o n c → weight_ahead (Some h) n ≡ weight_ahead (Some h) o
spared_one h None n c k = absurd k
spared_one h (Some q) None c k = absurd k.1
spared_one h (Some q) (Some m) c k =
    let e : m.packets ≡ from_place (rank (cut_at (Some h) q)) q.packets = ap (λ (z : QueueState). z.packets) k.1.packets_left in
    let l = (earlier_least h (next_cut q)).0 in
    ap (λ ps. weights (from_place (rank h) ps)) e ∙ ap (λ ps. weights ps) (from_again (rank (cut_at (Some h) q)) (rank h) q.packets l)

spared_in : (head : Option Pos) (o n : Option QueueState) (c : Option Cut) → CutsOne head o n c → weight_ahead head n ≡ weight_ahead head o
spared_in None o n c k = refl
spared_in (Some h) o n c k = spared_one h o n c k

spared_kind : (kind : Kind) (heads : Heads) (old new : Queues) → weight_ahead (head_under kind heads) (queue_under kind new) ≡ weight_ahead (head_under kind heads) (queue_under kind old)
    → new ≡ with_queue kind (queue_under kind new) old → weight_from heads new ≡ weight_from heads old
spared_kind Video heads old new a e = let x = ap (λ (q : Queues). weight_ahead heads.audio q.audio) e in let y = ap (λ (q : Queues). weight_ahead heads.sub q.sub) e in rw (a, x, y) refl
spared_kind Audio heads old new a e = let x = ap (λ (q : Queues). weight_ahead heads.video q.video) e in let y = ap (λ (q : Queues). weight_ahead heads.sub q.sub) e in rw (a, x, y) refl
spared_kind Sub heads old new a e = let x = ap (λ (q : Queues). weight_ahead heads.video q.video) e in let y = ap (λ (q : Queues). weight_ahead heads.audio q.audio) e in rw (a, x, y) refl

pub cut_spares : (heads : Heads) (old new : RangeState) (c : Option Cut) → IsCut (Some heads) old new c → weight_from heads new.queues ≡ weight_from heads old.queues
cut_spares heads old new c k = by (victim (Some heads) old.queues) k.queues
  where
    by : (v : Option Victim) → Cuts (Some heads) old.queues new.queues v c → weight_from heads new.queues ≡ weight_from heads old.queues
    by None x = ap (λ (q : Queues). weight_from heads q) x.1
    by (Some v) x = spared_kind v.kind heads old.queues new.queues (spared_in (head_under v.kind heads) (queue_under v.kind old.queues) (queue_under v.kind new.queues) c x.0) x.1
