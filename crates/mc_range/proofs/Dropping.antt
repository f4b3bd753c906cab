-- A cut lies in its queue's interval, and a range that is cut is one.
use Rattle.std.proofs.Common.{◌≡◌, ℕ, ◌≤◌, ◌⊎◌, List, [], ◌∷◌, Option, Some, None, arith, refl, ap, subst, sym, inl, inr}
use Rattle.std.specs.Prelude.{nat_le, nat_lt, IsSomeAnd}
use Rattle.std.proofs.lemmas.Bool.{cases_Bool, ltb-true}
use Rattle.mc_packet.specs.declared.packet.Packet.{Packet}
use Rattle.mc_packet.specs.declared.packet.Pos.{Pos}
use Rattle.mc_packet.specs.declared.cache.Heads.{Heads}
use Rattle.mc_packet.specs.declared.choice.Kind.{Kind}
use Rattle.mc_packet.specs.declared.choice.Kind.TheVariants.{Video, Audio, Sub}
use Rattle.mc_packet.specs.declared.walk.Mark.{Mark}
use Rattle.mc_journal.specs.Films.{rank}
use Rattle.mc_queue.specs.Places.{place, Rise}
use Rattle.mc_queue.specs.Queue.{QueueState, IsQueue, first_of, next_cut}
use Rattle.mc_queue.proofs.Uniting.{earlier_least}
use Rattle.mc_queue.proofs.Cutting.{cut_within}
use Rattle.mc_range.specs.declared.queues.Queues.{Queues}
use Rattle.mc_range.specs.declared.cutting.Cut.{Cut}
use Rattle.mc_range.specs.declared.cutting.Victim.{Victim}
use Rattle.mc_range.specs.Range.{RangeState, QueueIn, IsRange}
use Rattle.mc_range.specs.Growing.{IsSound, AllSound}
use Rattle.mc_range.specs.Tracks.{queue_under, with_queue}
use Rattle.mc_range.specs.Cutting.{bound_under, cuttable, first_cuttable, victim_under, earlier_victim, victim_in, victim, cut_at, CutsOne, Cuts, IsAhead, IsAheadIn}

pub cut_low : (head : Option Pos) (q : QueueState) → IsQueue q → IsAhead head q → rank q.from ≤ rank (cut_at head q)
cut_low None q i a = (cut_within q i.rise).0
cut_low (Some h) q i a = let l = (cut_within q i.rise).0 in elim (cases_Bool (nat_le (rank h) (rank (next_cut q)))) [ inl y ↦ rw y a | inr n ↦ rw n l ]

pub cut_high : (head : Option Pos) (q : QueueState) → IsQueue q → IsAhead head q → rank (cut_at head q) ≤ rank q.to
cut_high None q i a = (cut_within q i.rise).1
cut_high (Some h) q i a = let l = (earlier_least h (next_cut q)).1 in let m = (cut_within q i.rise).1 in omega arith

-- ---- the victim

first_ahead : (head : Option Pos) (o : Option QueueState) (p : Packet) → IsSound o → first_cuttable head o ≡ Some p → IsAheadIn head o
first_ahead head None p s e = absurd (cc)
first_ahead None (Some q) p s e = tt
first_ahead (Some h) (Some q) p s e = by q.packets s.rise e
  where
    by : (ps : List Packet) → Rise q.track (rank q.from) (rank q.to) ps → cuttable (Some h) (first_of ps) ≡ Some p → rank q.from ≤ rank h
    by [] r e = absurd (cc)
    by (x ∷ ps) r e = elim (cases_Bool (nat_lt (place x) (rank h))) [
      | inl y ↦ let l = ltb-true (place x) (rank h) y in let m = r.1 in omega arith
      | inr n ↦ absurd (let f : None ≡ Some p = rw n at e in cc)
    ]

-- which kind it is of
one_of : (a b : Option Victim) (v : Victim) → earlier_victim a b ≡ Some v → (a ≡ Some v) ⊎ (b ≡ Some v)
one_of None b v e = inr e
one_of (Some a) None v e = inl e
one_of (Some a) (Some b) v e = elim (cases_Bool (nat_le (rank a.place) (rank b.place))) [ inl y ↦ inl (rw y at e) | inr n ↦ inr (rw n at e) ]

under : (kind : Kind) (o : Option Packet) (v : Victim) → victim_under kind o ≡ Some v → (v.kind ≡ kind) × IsSomeAnd o (λ p. p.pos ≡ v.place)
under kind None v e = absurd (cc)
under kind (Some p) v e = let f : record { kind = kind; place = p.pos } ≡ v = some _ _ e in (sym (ap (λ (x : Victim). x.kind) f), ap (λ (x : Victim). x.place) f)
  where
    some : (a b : Victim) → Some a ≡ Some b → a ≡ b
    some a b e = cc

pub is_victim : (heads : Option Heads) (qs : Queues) (v : Victim) → victim heads qs ≡ Some v
    → IsSomeAnd (first_cuttable (bound_under v.kind heads) (queue_under v.kind qs)) (λ p. p.pos ≡ v.place)
is_victim heads qs v e = elim (one_of (victim_in Video heads qs) _ v e) [
  | inl x ↦ by Video x
  | inr y ↦ elim (one_of (victim_in Audio heads qs) (victim_in Sub heads qs) v y) [ inl x ↦ by Audio x | inr x ↦ by Sub x ]
]
  where
    by : (kind : Kind) → victim_in kind heads qs ≡ Some v → IsSomeAnd (first_cuttable (bound_under v.kind heads) (queue_under v.kind qs)) (λ p. p.pos ≡ v.place)
    by kind x =
        let u = under kind (first_cuttable (bound_under kind heads) (queue_under kind qs)) v x in
        subst (λ (k : Kind). IsSomeAnd (first_cuttable (bound_under k heads) (queue_under k qs)) (λ p. p.pos ≡ v.place)) (sym u.0) u.1

pub sound_under : (kind : Kind) (qs : Queues) → AllSound qs → IsSound (queue_under kind qs)
sound_under Video qs s = s.video
sound_under Audio qs s = s.audio
sound_under Sub qs s = s.sub

pub victim_ahead : (heads : Option Heads) (qs : Queues) (v : Victim) → AllSound qs → victim heads qs ≡ Some v → IsAheadIn (bound_under v.kind heads) (queue_under v.kind qs)
victim_ahead heads qs v s e = by (first_cuttable (bound_under v.kind heads) (queue_under v.kind qs)) refl (is_victim heads qs v e)
  where
    by : (o : Option Packet) → first_cuttable (bound_under v.kind heads) (queue_under v.kind qs) ≡ o → IsSomeAnd o (λ p. p.pos ≡ v.place) → IsAheadIn (bound_under v.kind heads) (queue_under v.kind qs)
    by None f i = absurd i
    by (Some p) f i = first_ahead (bound_under v.kind heads) (queue_under v.kind qs) p (sound_under v.kind qs s) f

-- ---- a range that is cut is one

cut_in : (t : Option ℕ) (m : Mark) (head : Option Pos) (o n : Option QueueState) (c : Option Cut) → QueueIn t m o → CutsOne head o n c → IsSound n → QueueIn t m n
cut_in t m head None n c i x s = absurd x
cut_in t m head (Some q) None c i x s = tt
cut_in t m head (Some q) (Some n) c i x s =
    let track : n.track ≡ q.track = ap (λ (z : QueueState). z.track) x.1.packets_left in
    let end : n.to ≡ q.to = ap (λ (z : QueueState). z.to) x.1.packets_left in
    (rw track i.0, rw end i.1, s)

pub cut_range : (heads : Option Heads) (r : RangeState) (new : Queues) (v : Option Victim) (c : Option Cut) → IsRange r → Cuts heads r.queues new v c → AllSound new
    → IsRange (record { set = r.set; queues = new; mark = r.mark; ending = r.ending })
cut_range heads r new None c i x s = rw x.1 i
cut_range heads r new (Some v) c i x s = by v.kind x.0 x.1
  where
    by : (k : Kind) → CutsOne (bound_under k heads) (queue_under k r.queues) (queue_under k new) c → new ≡ with_queue k (queue_under k new) r.queues
        → IsRange (record { set = r.set; queues = new; mark = r.mark; ending = r.ending })
    by Video x e = record {
      distinct = i.distinct;
      held = record {
        video = cut_in r.set.video r.mark (bound_under Video heads) r.queues.video new.video c i.held.video x s.video;
        audio = let o = ap (λ (q : Queues). q.audio) e in rw o i.held.audio;
        sub = let o = ap (λ (q : Queues). q.sub) e in rw o i.held.sub;
      };
    }
    by Audio x e = record {
      distinct = i.distinct;
      held = record {
        video = let o = ap (λ (q : Queues). q.video) e in rw o i.held.video;
        audio = cut_in r.set.audio r.mark (bound_under Audio heads) r.queues.audio new.audio c i.held.audio x s.audio;
        sub = let o = ap (λ (q : Queues). q.sub) e in rw o i.held.sub;
      };
    }
    by Sub x e = record {
      distinct = i.distinct;
      held = record {
        video = let o = ap (λ (q : Queues). q.video) e in rw o i.held.video;
        audio = let o = ap (λ (q : Queues). q.audio) e in rw o i.held.audio;
        sub = cut_in r.set.sub r.mark (bound_under Sub heads) r.queues.sub new.sub c i.held.sub x s.sub;
      };
    }

-- a range's queues are sound
sound_in : (t : Option ℕ) (m : Mark) (o : Option QueueState) → QueueIn t m o → IsSound o
sound_in t m None i = tt
sound_in t m (Some q) i = i.2

pub all_sound : (r : RangeState) → IsRange r → AllSound r.queues
all_sound r i = record {
  video = sound_in r.set.video r.mark r.queues.video i.held.video;
  audio = sound_in r.set.audio r.mark r.queues.audio i.held.audio;
  sub = sound_in r.set.sub r.mark r.queues.sub i.held.sub;
}
