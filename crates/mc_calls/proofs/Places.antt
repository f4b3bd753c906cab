-- Where a range serves a seek, each selected track has a queue in it and a head at its place.
use Rattle.std.proofs.Common.{◌≡◌, ℕ, Bool, true, false, ◌&&◌, ◌||◌, Option, Some, None, refl, sym, subst, inl, inr, ◌==◌}
use Rattle.std.specs.Prelude.{is_some, IfSome, IsSomeAnd, ℤ}
use Rattle.std.specs.Option.{option_map}
use Rattle.std.proofs.lemmas.Bool.{cases_Bool, eqb-true, and_parts}
use Rattle.mc_packet.specs.declared.packet.Pos.{Pos}
use Rattle.mc_packet.specs.declared.choice.Choice.{Choice}
use Rattle.mc_packet.specs.declared.choice.Dir.{Dir}
use Rattle.mc_packet.specs.declared.cache.Heads.{Heads}
use Rattle.mc_packet.specs.Choices.{is_track, has, nothing, passes}
use Rattle.mc_journal.specs.Films.{rank, block_of, time_or, video_sync, audio_sync, audio_dir}
use Rattle.mc_journal.specs.Ranges.{Span, on_span}
use Rattle.mc_queue.specs.Queue.{QueueState}
use Rattle.mc_range.specs.Range.{RangeState, IsRange, QueueIn, own, queue_of, span_of, spans_of}
use Rattle.mc_range.specs.Serving.{AreHeads, head_at, heads_by, heads_of, serves_by, serves_sub, serves_track, sub_block, syncs_of}
use Rattle.mc_cache.specs.Changing.{serves}
use Rattle.mc_calls.specs.State.{head_of}
use Rattle.mc_calls.specs.Demuxers.{AreQueued, HaveHeads}
use Rattle.mc_calls.specs.Seeking.{heads_or}
use Rattle.mc_calls.specs.Film.{PlacesAre}

-- ---- of the track of a kind

on_track : (o : Option ℕ) (k : ℕ) (test : ℕ → Bool) → is_track o k ≡ true → passes o test ≡ true → test k ≡ true
on_track None k test e p = absurd (cc)
on_track (Some n) k test e p = subst (λ (i : ℕ). test i ≡ true) (eqb-true n k e) p

spanned : (q : Option QueueState) (test : Span → Bool) → on_span (option_map span_of q) test ≡ true → is_some q ≡ true
spanned None test e = absurd (cc)
spanned (Some q) test e = refl

-- the queue of a range that has one is that of a selected track
own_none : (t : Option ℕ) (r : RangeState) (o : Option QueueState) (k : ℕ) → QueueIn t r.mark o → is_track t k ≡ false → own k o ≡ None
own_none t r None k i e = refl
own_none t r (Some q) k i e = let f : (q.track == k) ≡ false = subst (λ (x : Option ℕ). is_track x k ≡ false) i.0 e in rw f refl

no_track : (a b c : Bool) → (a || (b || c)) ≡ false → (a ≡ false) × (b ≡ false) × (c ≡ false)
no_track true b c e = absurd (cc)
no_track false true c e = absurd (cc)
no_track false false true e = absurd (cc)
no_track false false false e = (refl, refl, refl)

pub queue_selected : (r : RangeState) (k : ℕ) → IsRange r → is_some (queue_of k r.queues) ≡ true → has r.set k ≡ true
queue_selected r k i e = elim (cases_Bool (has r.set k)) [
  | inl y ↦ y
  | inr n ↦
      let none = no_track (is_track r.set.video k) (is_track r.set.audio k) (is_track r.set.sub k) n in
      let v = own_none r.set.video r r.queues.video k i.held.video none.0 in
      let a = own_none r.set.audio r r.queues.audio k i.held.audio none.1 in
      let s = own_none r.set.sub r r.queues.sub k i.held.sub none.2 in
      absurd (let bad : false ≡ true = rw (v, a, s) at e in cc)
]

-- ---- each selected track has a queue

queued_by : (set : Choice) (t : ℤ) (dir : Dir) (r : RangeState) (k : ℕ) → serves_by (spans_of r.queues) (is_some r.ending) (syncs_of r.queues) set dir t ≡ true
    → has set k ≡ true → is_some (queue_of k r.queues) ≡ true
queued_by set t dir r k s e =
    let ended = is_some r.ending in
    let spans = spans_of r.queues in
    let syncs = syncs_of r.queues in
    let time = time_or t (video_sync syncs set dir t) in
    let audio_test : ℕ → Bool = serves_track spans ended syncs (audio_dir set.video dir) time in
    let sub_test : ℕ → Bool = serves_sub spans set (sub_block syncs set dir t) in
    let one = and_parts (passes set.video (serves_track spans ended syncs dir t)) (passes set.audio audio_test && passes set.sub sub_test) s in
    let two = and_parts (passes set.audio audio_test) (passes set.sub sub_test) one.1 in
    elim (cases_Bool (is_track set.video k)) [
      | inl v ↦ spanned (queue_of k r.queues) _ (on_track set.video k (serves_track spans ended syncs dir t) v one.0)
      | inr nv ↦ elim (cases_Bool (is_track set.audio k)) [
        | inl a ↦ spanned (queue_of k r.queues) _ (on_track set.audio k audio_test a two.0)
        | inr na ↦ let b : is_track set.sub k ≡ true = rw (nv, na) at e in spanned (queue_of k r.queues) _ (on_track set.sub k sub_test b two.1)
      ]
    ]

-- ---- and a head

some_head : (o : Option ℕ) (k block : ℕ) → is_track o k ≡ true → is_some (head_at o block) ≡ true
some_head None k block e = absurd (cc)
some_head (Some n) k block e = refl

headed : (set : Choice) (heads : Heads) (v a b : ℕ) (k : ℕ) → heads.video ≡ head_at set.video v → heads.audio ≡ head_at set.audio a → heads.sub ≡ head_at set.sub b
    → has set k ≡ true → is_some (head_of set heads k) ≡ true
headed set heads v a b k ev ea es e = elim (cases_Bool (is_track set.video k)) [
  | inl y ↦ rw (y, ev) (some_head set.video k v y)
  | inr nv ↦ elim (cases_Bool (is_track set.audio k)) [
    | inl y ↦ rw (nv, y, ea) (some_head set.audio k a y)
    | inr na ↦ let y : is_track set.sub k ≡ true = rw (nv, na) at e in rw (nv, na, y, es) (some_head set.sub k b y)
  ]
]

pub serving_places : (set : Choice) (heads : Heads) (t : ℤ) (dir : Dir) (r : RangeState) → IsRange r → r.set ≡ set → serves set t dir r ≡ true
    → AreQueued set nothing r × HaveHeads set (heads_or heads (heads_of r set t dir)) r
serving_places set heads t dir r i e s = elim (cases_Bool (serves_by (spans_of r.queues) (is_some r.ending) (syncs_of r.queues) set dir t)) [
  | inr n ↦ absurd (let bad : false ≡ true = rw n at s in cc)
  | inl y ↦
      let new : Heads = heads_by (syncs_of r.queues) set dir t in
      let here : heads_or heads (heads_of r set t dir) ≡ new = rw y refl in
      let have : HaveHeads set new r = λ k q.
      headed set new (block_of (video_sync (syncs_of r.queues) set dir t)) (block_of (audio_sync (syncs_of r.queues) set dir t)) (sub_block (syncs_of r.queues) set dir t) k refl refl refl
      (subst (λ (c : Choice). has c k ≡ true) e (queue_selected r k i q)) in (
        record { blank = λ k w. absurd (cc); queued = λ k sel w. queued_by set t dir r k y sel },
        subst (λ (h : Heads). HaveHeads set h r) (sym here) have,
      )
]

-- ---- the heads are at their places

on_head : (o : Option ℕ) (k : ℕ) (hd : Option Pos) (place : ℕ → ℕ) → is_track o k ≡ true → IfSome o (λ track. IsSomeAnd hd (λ p. rank p ≡ place track))
    → IsSomeAnd hd (λ p. rank p ≡ place k)
on_head None k hd place e h = absurd (cc)
on_head (Some n) k hd place e h = subst (λ (i : ℕ). IsSomeAnd hd (λ p. rank p ≡ place i)) (eqb-true n k e) h

at_place : (set : Choice) (heads : Heads) (place : ℕ → ℕ) (k : ℕ) → AreHeads set place heads → has set k ≡ true → IsSomeAnd (head_of set heads k) (λ p. rank p ≡ place k)
at_place set heads place k h e = elim (cases_Bool (is_track set.video k)) [
  | inl y ↦ rw y (on_head set.video k heads.video place y h.video)
  | inr nv ↦ elim (cases_Bool (is_track set.audio k)) [
    | inl y ↦ rw (nv, y) (on_head set.audio k heads.audio place y h.audio)
    | inr na ↦ let y : is_track set.sub k ≡ true = rw (nv, na) at e in rw (nv, na, y) (on_head set.sub k heads.sub place y h.sub)
  ]
]

pub if_queue : (q : Option QueueState) (P : Type 0) → (is_some q ≡ true → P) → IfSome q (λ x. P)
if_queue None P f = tt
if_queue (Some q) P f = f refl

pub heads_places : (set : Choice) (heads : Heads) (place : ℕ → ℕ) (r : RangeState) → IsRange r → r.set ≡ set → AreHeads set place heads → PlacesAre set heads place r
heads_places set heads place r i e h = λ k.
    if_queue (queue_of k r.queues) (IsSomeAnd (head_of set heads k) (λ p. rank p ≡ place k))
    (λ q. at_place set heads place k h (subst (λ (c : Choice). has c k ≡ true) e (queue_selected r k i q)))
