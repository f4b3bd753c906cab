-- Where each selected track has a queue in the current range and a head under its kind, all of them can be read.
use Rattle.std.proofs.Common.{◌≡◌, ℕ, ◌==◌, true, false, Option, Some, None, refl, ap, subst, ◌∙◌, inl, inr}
use Rattle.std.specs.Prelude.{is_some}
use Rattle.std.proofs.lemmas.Bool.{cases_Bool}
use Rattle.mc_packet.specs.declared.packet.Pos.{Pos}
use Rattle.mc_packet.specs.declared.choice.Choice.{Choice}
use Rattle.mc_packet.specs.declared.cache.Heads.{Heads}
use Rattle.mc_packet.specs.declared.walk.Mark.{Mark}
use Rattle.mc_packet.specs.Choices.{has, is_distinct, is_track, nothing}
use Rattle.mc_queue.specs.Queue.{QueueState}
use Rattle.mc_range.specs.declared.queues.Queues.{Queues}
use Rattle.mc_range.specs.Range.{RangeState, IsRange, QueueIn, QueuesIn, own, queue_of}
use Rattle.mc_range.proofs.Selecting.{is_it}
use Rattle.mc_calls.specs.State.{head_of}
use Rattle.mc_calls.specs.Demuxers.{IsPlaced}
use Rattle.mc_calls.proofs.ByKind.{KindIs, KindsAre, kinds_are}
use Rattle.mc_calls.proofs.Seeking.{not_nothing}

-- ---- a queue is of a selected track

pub own_off : (t : Option ℕ) (m : Mark) (o : Option QueueState) (k : ℕ) → QueueIn t m o → is_track t k ≡ false → own k o ≡ None
own_off t m None k i e = refl
own_off t m (Some q) k i e = let f : (q.track == k) ≡ false = subst (λ (x : Option ℕ). is_track x k ≡ false) i.0 e in rw f refl

queue_has : (set : Choice) (m : Mark) (qs : Queues) (k : ℕ) → QueuesIn set m qs → is_some (queue_of k qs) ≡ true → has set k ≡ true
queue_has set m qs k i e = elim (cases_Bool (is_track set.video k)) [
  | inl v ↦ rw v refl
  | inr nv ↦ elim (cases_Bool (is_track set.audio k)) [
    | inl a ↦ rw (nv, a) refl
    | inr na ↦ elim (cases_Bool (is_track set.sub k)) [
      | inl s ↦ rw (nv, na, s) refl
      | inr ns ↦
          let x = own_off set.video m qs.video k i.video nv in
          let y = own_off set.audio m qs.audio k i.audio na in
          let z = own_off set.sub m qs.sub k i.sub ns in
          absurd (let f : false ≡ true = rw (x, y, z) at e in cc)
    ]
  ]
]

-- ---- by kind

-- the kind's track has a queue and a head
abbrev pub IsThere : Option ℕ → Option QueueState → Option Pos → Type 0
IsThere t q hd = (k : ℕ) → t ≡ Some k → (is_some q ≡ true) × (is_some hd ≡ true)

there : (set : Choice) (heads : Heads) (qs : Queues) (t : Option ℕ) (q : Option QueueState) (hd : Option Pos) (k : ℕ) → KindIs set heads qs t q hd → IsThere t q hd → is_track t k ≡ true
    → (is_some (queue_of k qs) ≡ true) × (is_some (head_of set heads k) ≡ true)
there set heads qs t q hd k kind is e =
    let f = is_it t k e in
    let both = kind k f in
    let some = is k f in
    (ap (λ (x : Option QueueState). is_some x) both.0 ∙ some.0, ap (λ (x : Option Pos). is_some x) both.1 ∙ some.1)

all_there : (set : Choice) (heads : Heads) (qs : Queues) (k : ℕ) → KindsAre set heads qs → IsThere set.video qs.video heads.video → IsThere set.audio qs.audio heads.audio → IsThere set.sub qs.sub heads.sub
    → has set k ≡ true → (is_some (queue_of k qs) ≡ true) × (is_some (head_of set heads k) ≡ true)
all_there set heads qs k kinds v a s h = elim (cases_Bool (is_track set.video k)) [
  | inl y ↦ there set heads qs set.video qs.video heads.video k kinds.video v y
  | inr nv ↦ elim (cases_Bool (is_track set.audio k)) [
    | inl y ↦ there set heads qs set.audio qs.audio heads.audio k kinds.audio a y
    | inr na ↦ let y : is_track set.sub k ≡ true = rw (nv, na) at h in there set heads qs set.sub qs.sub heads.sub k kinds.sub s y
  ]
]

pub set_kinds : (set : Choice) (heads : Heads) (r : RangeState) → IsRange r → r.set ≡ set → KindsAre set heads r.queues
set_kinds set heads r i e =
    let d : is_distinct set ≡ true = subst (λ (s : Choice). is_distinct s ≡ true) e i.distinct in
    let held : QueuesIn set r.mark r.queues = subst (λ (s : Choice). QueuesIn s r.mark r.queues) e i.held in
    kinds_are set heads r.mark r.queues d held

pub kinds_placed : (set : Choice) (heads : Heads) (r : RangeState) → IsRange r → r.set ≡ set
    → IsThere set.video r.queues.video heads.video → IsThere set.audio r.queues.audio heads.audio → IsThere set.sub r.queues.sub heads.sub
    → IsPlaced set heads nothing None (Some r)
kinds_placed set heads r i e v a s =
    let held : QueuesIn set r.mark r.queues = subst (λ (x : Choice). QueuesIn x r.mark r.queues) e i.held in
    let kinds = set_kinds set heads r i e in (
      record { blank = λ k w. not_nothing k w; queued = λ k h w. (all_there set heads r.queues k kinds v a s h).0 },
      λ k q. (all_there set heads r.queues k kinds v a s (queue_has set r.mark r.queues k held q)).1,
    )
