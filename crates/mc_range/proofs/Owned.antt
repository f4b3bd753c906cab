-- The queue of a track: what holds of each kind's queue holds of it.
use Rattle.std.proofs.Common.{◌≡◌, ℕ, ◌≤◌, ◌==◌, true, false, List, Option, Some, None, refl, ap, inl, inr}
use Rattle.std.specs.Prelude.{IfSome}
use Rattle.std.proofs.lemmas.Bool.{cases_Bool, eqb-true}
use Rattle.mc_packet.specs.declared.packet.Packet.{Packet}
use Rattle.mc_packet.specs.declared.packet.Pos.{Pos}
use Rattle.mc_packet.specs.declared.walk.Mark.{Mark}
use Rattle.mc_packet.specs.Choices.{or_else}
use Rattle.mc_journal.specs.Films.{rank, first_lane}
use Rattle.mc_queue.specs.Queue.{QueueState, IsQueue}
use Rattle.mc_range.specs.declared.queues.Queues.{Queues}
use Rattle.mc_range.specs.Range.{RangeState, QueueIn, IsRange, own, queue_of}
use Rattle.mc_range.specs.Growing.{ExtendsIn, ExtendsAll}
use Rattle.mc_range.specs.Joining.{MeetIn, UnitesIn, AllMeet, AllUnited}

own_all : (P : QueueState → Type 0) (k : ℕ) (o : Option QueueState) → IfSome o P → IfSome (own k o) (λ q. (q.track ≡ k) × P q)
own_all P k None h = tt
own_all P k (Some q) h = elim (cases_Bool (q.track == k)) [ inl y ↦ let e = eqb-true q.track k y in rw y (e, h) | inr n ↦ rw n tt ]

or_all : (P : QueueState → Type 0) (a b : Option QueueState) → IfSome a P → IfSome b P → IfSome (or_else a b) P
or_all P None b h k = k
or_all P (Some q) b h k = h

pub found : (P : QueueState → Type 0) (k : ℕ) (qs : Queues) → IfSome qs.video P → IfSome qs.audio P → IfSome qs.sub P
    → IfSome (queue_of k qs) (λ q. (q.track ≡ k) × P q)
found P k qs v a s =
    or_all (λ q. (q.track ≡ k) × P q) (own k qs.video) _ (own_all P k qs.video v)
    (or_all (λ q. (q.track ≡ k) × P q) (own k qs.audio) (own k qs.sub) (own_all P k qs.audio a) (own_all P k qs.sub s))

-- a range's queue of a track reaches the mark
abbrev pub Reaches : Mark → QueueState → Type 0
Reaches m q = (first_lane m.pos ≤ rank q.to) × IsQueue q

abbrev pub Queued : ℕ → Mark → QueueState → Type 0
Queued k m q = (q.track ≡ k) × Reaches m q

reach_in : (t : Option ℕ) (m : Mark) (o : Option QueueState) → QueueIn t m o → IfSome o (Reaches m)
reach_in t m None i = tt
reach_in t m (Some q) i = (i.1, i.2)

pub queued : (r : RangeState) → IsRange r → (k : ℕ) → IfSome (queue_of k r.queues) (Queued k r.mark)
queued r i k =
    found (Reaches r.mark) k r.queues (reach_in r.set.video r.mark r.queues.video i.held.video) (reach_in r.set.audio r.mark r.queues.audio i.held.audio)
    (reach_in r.set.sub r.mark r.queues.sub i.held.sub)

-- ---- queues that take packets

extends_own : (upto : Pos) (ps : List Packet) (k : ℕ) (o n : Option QueueState) → ExtendsIn upto ps o n → ExtendsIn upto ps (own k o) (own k n)
extends_own upto ps k None n e = rw e refl
extends_own upto ps k (Some q) None e = absurd e
extends_own upto ps k (Some q) (Some m) e =
    let t : m.track ≡ q.track = ap (λ (x : QueueState). x.track) e.grown in
    elim (cases_Bool (q.track == k)) [
      | inl y ↦ let z : (m.track == k) ≡ true = rw t y in rw (y, z) e
      | inr n ↦ let z : (m.track == k) ≡ false = rw t n in rw (n, z) refl
    ]

extends_or : (upto : Pos) (ps : List Packet) (a b c d : Option QueueState) → ExtendsIn upto ps a b → ExtendsIn upto ps c d → ExtendsIn upto ps (or_else a c) (or_else b d)
extends_or upto ps None b c d e f = rw e f
extends_or upto ps (Some q) None c d e f = absurd e
extends_or upto ps (Some q) (Some m) c d e f = e

pub extends_of : (upto : Pos) (ps : List Packet) (old new : Queues) → ExtendsAll upto ps old new → (k : ℕ) → ExtendsIn upto ps (queue_of k old) (queue_of k new)
extends_of upto ps old new e k =
    extends_or upto ps (own k old.video) (own k new.video) _ _ (extends_own upto ps k old.video new.video e.video)
    (extends_or upto ps (own k old.audio) (own k new.audio) (own k old.sub) (own k new.sub) (extends_own upto ps k old.audio new.audio e.audio)
    (extends_own upto ps k old.sub new.sub e.sub))

-- ---- queues that are united

abbrev pub Joins : Option QueueState → Option QueueState → Option QueueState → Type 0
Joins a b n = MeetIn a b × UnitesIn a b n

joins_own : (k : ℕ) (a b n : Option QueueState) → Joins a b n → Joins (own k a) (own k b) (own k n)
joins_own k None None n j = let x = j.1 in rw x (tt, refl)
joins_own k None (Some o) n j = absurd j.0
joins_own k (Some q) None n j = absurd j.0
joins_own k (Some q) (Some o) None j = absurd j.1
joins_own k (Some q) (Some o) (Some u) j =
    let t : u.track ≡ q.track = ap (λ (x : QueueState). x.track) j.1.both in
    let s = j.0.one_track in
    elim (cases_Bool (q.track == k)) [
      | inl y ↦ let z : (u.track == k) ≡ true = rw t y in let w : (o.track == k) ≡ true = rw s y in rw (y, z, w) j
      | inr n ↦ let z : (u.track == k) ≡ false = rw t n in let w : (o.track == k) ≡ false = rw s n in rw (n, z, w) (tt, refl)
    ]

joins_or : (a b n c d p : Option QueueState) → Joins a b n → Joins c d p → Joins (or_else a c) (or_else b d) (or_else n p)
joins_or None None n c d p i j = let x = i.1 in rw x j
joins_or None (Some o) n c d p i j = absurd i.0
joins_or (Some q) None n c d p i j = absurd i.0
joins_or (Some q) (Some o) None c d p i j = absurd i.1
joins_or (Some q) (Some o) (Some u) c d p i j = i

pub joins_of : (qs os new : Queues) → AllMeet qs os → AllUnited qs os new → (k : ℕ) → Joins (queue_of k qs) (queue_of k os) (queue_of k new)
joins_of qs os new m u k =
    joins_or (own k qs.video) (own k os.video) (own k new.video) _ _ _ (joins_own k qs.video os.video new.video (m.video, u.video))
    (joins_or (own k qs.audio) (own k os.audio) (own k new.audio) (own k qs.sub) (own k os.sub) (own k new.sub)
    (joins_own k qs.audio os.audio new.audio (m.audio, u.audio)) (joins_own k qs.sub os.sub new.sub (m.sub, u.sub)))
