-- What is read ahead of a reader, packet by packet.
use Rattle.std.proofs.Common.{◌≡◌, ℕ, ◌+◌, ◌≤◌, ◌<◌, Bool, true, false, ◌&&◌, Option, Some, None, List, [], ◌∷◌, refl, ap, sym, subst, ◌∙◌, inl, inr, arith, length}
use Rattle.std.specs.Prelude.{nat_le, is_some, IfSome, ℤ, ◌-ℤ◌, int_lt, int_le, if◌then◌else◌}
use Rattle.std.specs.List.{find, list_all}
use Rattle.std.proofs.lemmas.Bool.{cases_Bool}
use Rattle.std.proofs.lemmas.Bool.Decides.{nat_tests}
use Rattle.std.proofs.lemmas.Int.{ints}
use Rattle.mc_packet.specs.declared.packet.Packet.{Packet}
use Rattle.mc_packet.specs.declared.packet.Pos.{Pos}
use Rattle.mc_packet.specs.declared.choice.Choice.{Choice}
use Rattle.mc_packet.specs.declared.cache.Heads.{Heads}
use Rattle.mc_journal.specs.Films.{rank}
use Rattle.mc_journal.specs.Ranges.{greatest_time}
use Rattle.mc_journal.specs.Views.{wants_more, from_place}
use Rattle.mc_queue.specs.Places.{Rise, is_from}
use Rattle.mc_queue.specs.Queue.{QueueState, IsQueue}
use Rattle.mc_range.specs.Range.{RangeState, IsRange, queue_of}
use Rattle.mc_range.specs.Serving.{first_from}
use Rattle.mc_range.proofs.Owned.{Queued, queued}
use Rattle.mc_cache.specs.Cache.{CacheState, IsCache, first_in}
use Rattle.mc_calls.specs.declared.waiting.Target.{Target}
use Rattle.mc_calls.specs.State.{DemuxState, ahead, ahead_in, head_of}
use Rattle.mc_calls.specs.Demuxers.{IsDemux, IsPlaced}
use Rattle.mc_calls.specs.Jobs.{wants}
use Rattle.mc_calls.specs.Readings.{past}
use Rattle.mc_calls.specs.Wanting.{is_near, held_from}
use Rattle.mc_calls.proofs.Giving.{rank-past}

-- ---- from one packet to the next

found_from : (n : ℕ) (ps : List Packet) (p : Packet) → find (is_from n) ps ≡ Some p → n ≤ rank p.pos
found_from n [] p e = absurd (cc)
found_from n (x ∷ ps) p e = elim (cases_Bool (is_from n x)) [
  | inl y ↦ let same : Some x ≡ Some p = rw y at e in let is : x ≡ p = cc in let l : n ≤ rank x.pos = grind (arith, nat_tests) in subst (λ (z : Packet). n ≤ rank z.pos) is l
  | inr o ↦ found_from n ps p (rw o at e)
]

all_from : (track from to n : ℕ) (ps : List Packet) → Rise track from to ps → n ≤ from → from_place n ps ≡ ps
all_from track from to n [] r l = refl
all_from track from to n (p ∷ ps) r l =
    let above : from ≤ rank p.pos = r.1 in
    let y : nat_le n (rank p.pos) ≡ true = grind (arith, nat_tests) in
    rw y (ap (λ qs. p ∷ qs) (all_from track (rank p.pos + 1) to n ps r.2 (omega arith)))

pub one_by_one : (track from to n : ℕ) (ps : List Packet) (p : Packet) → Rise track from to ps → find (is_from n) ps ≡ Some p
    → from_place n ps ≡ p ∷ from_place (rank p.pos + 1) ps
one_by_one track from to n [] p r e = absurd (cc)
one_by_one track from to n (x ∷ ps) p r e = elim (cases_Bool (nat_le n (rank x.pos))) [
  | inl y ↦
      let same : Some x ≡ Some p = rw y at e in
      let is : x ≡ p = cc in
      let l : n ≤ rank x.pos = grind (arith, nat_tests) in
      let off : nat_le (rank x.pos + 1) (rank x.pos) ≡ false = grind (arith, nat_tests) in
      let whole : from_place n ps ≡ from_place (rank x.pos + 1) ps =
      all_from track (rank x.pos + 1) to n ps r.2 (omega arith) ∙ sym (all_from track (rank x.pos + 1) to (rank x.pos + 1) ps r.2 (omega arith)) in
      subst (λ (z : Packet). from_place n (x ∷ ps) ≡ z ∷ from_place (rank z.pos + 1) (x ∷ ps)) is (rw (y, off) (ap (λ qs. x ∷ qs) whole))
  | inr o ↦
      let f : find (is_from n) ps ≡ Some p = rw o at e in
      let l = found_from n ps p f in
      let off : nat_le (rank p.pos + 1) (rank x.pos) ≡ false = grind (arith, nat_tests) in
      rw (o, off) (one_by_one track (rank x.pos + 1) to n ps p r.2 f)
]

none_from : (n : ℕ) (ps : List Packet) → find (is_from n) ps ≡ None → from_place n ps ≡ []
none_from n [] e = refl
none_from n (p ∷ ps) e = elim (cases_Bool (is_from n p)) [
  | inl y ↦ absurd (let f : Some p ≡ None = rw y at e in cc)
  | inr o ↦ rw o (none_from n ps (rw o at e))
]

queue_step : (k : ℕ) (at next : Pos) (p : Packet) (o : Option QueueState) → IfSome o IsQueue → first_from at o ≡ Some p → rank next ≡ rank p.pos + 1
    → ahead o (Some at) ≡ p ∷ ahead o (Some next)
queue_step k at next p None i e n = absurd (cc)
queue_step k at next p (Some q) i e n =
    one_by_one q.track (rank q.from) (rank q.to) (rank at) q.packets p i.rise e ∙ ap (λ m. p ∷ from_place m q.packets) (sym n)

is_queue : (r : RangeState) (k : ℕ) → IsRange r → IfSome (queue_of k r.queues) IsQueue
is_queue r k i = is_queue_of r k (queue_of k r.queues) (queued r i k) where
  is_queue_of : (r : RangeState) (k : ℕ) (o : Option QueueState) → IfSome o (Queued k r.mark) → IfSome o IsQueue
  is_queue_of r k None h = tt
  is_queue_of r k (Some q) h = h.1.1

range_step : (k : ℕ) (at next : Pos) (p : Packet) (o : Option RangeState) → IfSome o IsRange → first_in k at o ≡ Some p → rank next ≡ rank p.pos + 1
    → held_from k at o ≡ p ∷ held_from k next o
range_step k at next p None i e n = absurd (cc)
range_step k at next p (Some r) i e n = queue_step k at next p (queue_of k r.queues) (is_queue r k i) e n

-- the packet at a place, and all behind it
pub held_step : (st : CacheState) (k : ℕ) (at next : Pos) (p : Packet) → IsCache st → first_in k at st.current ≡ Some p → rank next ≡ rank p.pos + 1
    → held_from k at st.current ≡ p ∷ held_from k next st.current
held_step st k at next p i e n = range_step k at next p st.current i.current e n

no_queue : (at : Pos) (o : Option QueueState) → first_from at o ≡ None → ahead o (Some at) ≡ []
no_queue at None e = refl
no_queue at (Some q) e = none_from (rank at) q.packets e

pub held_none : (k : ℕ) (at : Pos) (o : Option RangeState) → first_in k at o ≡ None → held_from k at o ≡ []
held_none k at None e = refl
held_none k at (Some r) e = no_queue at (queue_of k r.queues) e

-- ---- a test of each, one after another

-- the packet there passes, and the rest decides
pub test_on : (st : CacheState) (k : ℕ) (head at next : Pos) (p : Packet) (test : Packet → Bool) → IsCache st → Some p ≡ first_in k at st.current → next ≡ past p.pos
    → test p ≡ true → list_all test (held_from k at st.current) ≡ list_all test (held_from k head st.current)
    → list_all test (held_from k next st.current) ≡ list_all test (held_from k head st.current)
test_on st k head at next p test i e n y so =
    let step = held_step st k at next p i (sym e) (ap rank n ∙ rank-past p.pos) in
    let one : list_all test (held_from k at st.current) ≡ list_all test (held_from k next st.current) = rw (step, y) refl in
    sym one ∙ so

-- it fails
pub test_off : (st : CacheState) (k : ℕ) (head at : Pos) (p : Packet) (test : Packet → Bool) → IsCache st → Some p ≡ first_in k at st.current
    → test p ≡ false → list_all test (held_from k at st.current) ≡ list_all test (held_from k head st.current) → false ≡ list_all test (held_from k head st.current)
test_off st k head at p test i e n so =
    let step = held_step st k at (past p.pos) p i (sym e) (rank-past p.pos) in
    let one : list_all test (held_from k at st.current) ≡ false = rw (step, n) refl in
    sym one ∙ so

pub test_end : (st : CacheState) (k : ℕ) (head at : Pos) (test : Packet → Bool) → None ≡ first_in k at st.current
    → list_all test (held_from k at st.current) ≡ list_all test (held_from k head st.current) → true ≡ list_all test (held_from k head st.current)
test_end st k head at test e so =
    let z = held_none k at st.current (sym e) in
    let one : list_all test (held_from k at st.current) ≡ true = rw z refl in
    sym one ∙ so

pub test_less : (st : CacheState) (k : ℕ) (at next : Pos) (p : Packet) → IsCache st → Some p ≡ first_in k at st.current → next ≡ past p.pos
    → length (held_from k next st.current) < length (held_from k at st.current)
test_less st k at next p i e n =
    let l = ap length (held_step st k at next p i (sym e) (ap rank n ∙ rank-past p.pos)) in
    omega arith

-- ---- all of them are near

near_step : (t f near u : ℤ) → is_near f near (if int_le t u then u else t) ≡ (is_near f near t && is_near f near u)
near_step t f near u = elim (cases_Bool (int_le t u)) [
  | inl y ↦ elim (cases_Bool (int_lt (t -ℤ f) near)) [
    | inl a ↦ rw (y, a) refl
    | inr b ↦ let c : int_lt (u -ℤ f) near ≡ false = grind (arith, ints) in rw (y, b, c) refl
  ]
  | inr n ↦ elim (cases_Bool (int_lt (t -ℤ f) near)) [
    | inl a ↦ let c : int_lt (u -ℤ f) near ≡ true = grind (arith, ints) in rw (n, a, c) refl
    | inr b ↦ rw (n, b) refl
  ]
]

and_assoc : (a b c : Bool) → ((a && b) && c) ≡ (a && (b && c))
and_assoc true b c = refl
and_assoc false b c = refl

all_near : (f near t : ℤ) (ps : List Packet) → int_lt (greatest_time t (ps) -ℤ f) near ≡ (is_near f near t && list_all (λ p. is_near f near p.time) ps)
all_near f near t [] = elim (cases_Bool (int_lt (t -ℤ f) near)) [ inl y ↦ rw y refl | inr n ↦ rw n refl ]
all_near f near t (p ∷ ps) =
    all_near f near (if int_le t p.time then p.time else t) ps
    ∙ ap (λ b. b && list_all (λ (q : Packet). is_near f near q.time) ps) (near_step t f near p.time)
    ∙ and_assoc (is_near f near t) (is_near f near p.time) (list_all (λ (q : Packet). is_near f near q.time) ps)

-- a track wants no more where a packet is as far as that behind the first
pub wants_near : (near : ℤ) (p : Packet) (ps : List Packet) → list_all (λ q. is_near p.time near q.time) (p ∷ ps) ≡ wants_more near ((p ∷ ps))
wants_near near p ps = sym (all_near p.time near p.time ps)

pub some_near : (st : CacheState) (k : ℕ) (at : Pos) (p : Packet) → IsCache st → Some p ≡ first_in k at st.current
    → list_all (λ q. is_near p.time st.limits.readahead q.time) (held_from k at st.current) ≡ wants_more st.limits.readahead ((held_from k at st.current))
some_near st k at p i e =
    let z = held_step st k at (past p.pos) p i (sym e) (rank-past p.pos) in
    rw z (wants_near st.limits.readahead p (held_from k (past p.pos) st.current))

pub none_near : (st : CacheState) (k : ℕ) (at : Pos) → None ≡ first_in k at st.current → true ≡ wants_more st.limits.readahead ((held_from k at st.current))
none_near st k at e = let z = held_none k at st.current (sym e) in rw z refl

-- ---- heads

no_head_in : (set : Choice) (heads : Heads) (track : ℕ) (o : Option QueueState) (hd : Option Pos) → (is_some o ≡ true → is_some hd ≡ true) → hd ≡ None → ahead o hd ≡ []
no_head_in set heads track None hd h e = refl
no_head_in set heads track (Some q) None h e = absurd (let f = h refl in cc)
no_head_in set heads track (Some q) (Some p) h e = absurd (cc)

no_head_at : (set : Choice) (heads : Heads) (waiting : Choice) (seeking : Option Target) (current : Option RangeState) (track : ℕ) → IsPlaced set heads waiting seeking current
    → head_of set heads track ≡ None → ahead_in set heads track current ≡ []
no_head_at set heads waiting (Some s) current track i e = rw i.0 refl
no_head_at set heads waiting None None track i e = refl
no_head_at set heads waiting None (Some r) track i e = no_head_in set heads track (queue_of track r.queues) (head_of set heads track) (i.1 track) e

pub no_head : (d : DemuxState) (track : ℕ) → IsDemux d → head_of d.set d.heads track ≡ None → wants d track ≡ true
no_head d track i e = let z = no_head_at d.set d.heads d.waiting d.seeking d.cache.current track i.placed e in rw z refl

head_at : (set : Choice) (heads : Heads) (track : ℕ) (p : Pos) (current : Option RangeState) → head_of set heads track ≡ Some p → ahead_in set heads track current ≡ held_from track p current
head_at set heads track p None e = refl
head_at set heads track p (Some r) e = rw e refl

pub a_head : (d : DemuxState) (track : ℕ) (p : Pos) → head_of d.set d.heads track ≡ Some p
    → wants_more d.cache.limits.readahead ((held_from track p d.cache.current)) ≡ wants d track
a_head d track p e = ap (λ (ps : List Packet). wants_more d.cache.limits.readahead (ps)) (sym (head_at d.set d.heads track p d.cache.current e))
