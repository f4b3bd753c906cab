-- Where nothing is to be done and no selected track has a packet at its head, each of them can be its end or a failure.
use Rattle.std.proofs.Common.{◌≡◌, ℕ, ◌≤◌, ◌<◌, Bool, true, false, ◌||◌, not, Option, Some, None, List, [], ◌∷◌, refl, ap, sym, subst, ◌∙◌, inl, inr, arith}
use Rattle.std.specs.Prelude.{nat_le, if◌then◌else◌, is_some, IfSome}
use Rattle.std.specs.List.{find, AllByRecursion}
use Rattle.std.proofs.lemmas.Bool.{cases_Bool, eq-eqb}
use Rattle.std.proofs.lemmas.Bool.Decides.{nat_tests}
use Rattle.mc_journal.specs.Views.{wants_more, from_place}
use Rattle.mc_packet.specs.declared.packet.Packet.{Packet}
use Rattle.mc_packet.specs.declared.packet.Pos.{Pos}
use Rattle.mc_packet.specs.declared.choice.Choice.{Choice}
use Rattle.mc_packet.specs.declared.cache.Heads.{Heads}
use Rattle.mc_packet.specs.declared.walk.Ending.{Ending}
use Rattle.mc_packet.specs.Choices.{or_else, is_track, has, is_empty}
use Rattle.mc_journal.specs.Choices.{meets, of_track, total_of}
use Rattle.mc_journal.specs.Films.{rank}
use Rattle.mc_queue.specs.Places.{is_from, weights}
use Rattle.mc_queue.specs.Queue.{QueueState}
use Rattle.mc_range.specs.Range.{RangeState, queue_of}
use Rattle.mc_cache.specs.Cache.{ending_in, mark_in, in_front}
use Rattle.mc_calls.proofs.Forward.{forward_kinds}
use Rattle.mc_calls.specs.declared.answer.Peek.TheVariants.{Finish}
use Rattle.mc_calls.specs.declared.job.Job.TheVariants.{Refresh, Idle}
use Rattle.mc_calls.specs.declared.waiting.Target.{Target}
use Rattle.mc_calls.specs.declared.waiting.Failure.{Failure}
use Rattle.mc_calls.specs.declared.waiting.Failure.TheVariants.{Failed, Starved}
use Rattle.mc_calls.specs.State.{DemuxState, head_of, first_at, next_in, end_in, ahead, ahead_in, forward_of}
use Rattle.mc_calls.specs.Jobs.{read_at, wants, some_wants, is_full, read_job, start_job, job_of}
use Rattle.mc_calls.specs.Demuxers.{IsDemux, IsPlaced, HaveHeads}
use Rattle.mc_calls.specs.Readings.{past_packets, reading_of, peek_at}

-- ---- what nothing at the heads means

none_from : (n : ℕ) (ps : List Packet) → find (is_from n) ps ≡ None → from_place n ps ≡ []
none_from n [] e = refl
none_from n (p ∷ ps) e = elim (cases_Bool (is_from n p)) [
  | inl y ↦ absurd (let f : Some p ≡ None = rw y at e in cc)
  | inr o ↦ rw o (none_from n ps (rw o at e))
]

queue_ahead : (o : Option QueueState) (hd : Option Pos) → (is_some o ≡ true → is_some hd ≡ true) → first_at o hd ≡ None → ahead o hd ≡ []
queue_ahead None hd h e = refl
queue_ahead (Some q) None h e = absurd (let f = h refl in cc)
queue_ahead (Some q) (Some p) h e = none_from (rank p) q.packets e

range_ahead : (set : Choice) (heads : Heads) (track : ℕ) (current : Option RangeState) → IfSome current (HaveHeads set heads)
    → next_in set heads track current ≡ None → ahead_in set heads track current ≡ []
range_ahead set heads track None h e = refl
range_ahead set heads track (Some r) h e = queue_ahead (queue_of track r.queues) (head_of set heads track) (h track) e

-- ---- of each selected track

of_kind : (o : Option ℕ) (P : ℕ → Type 0) → ((k : ℕ) → is_track o k ≡ true → P k) → IfSome o P
of_kind None P h = tt
of_kind (Some n) P h = h n (eq-eqb n n refl)

in_video : (set : Choice) (k : ℕ) → is_track set.video k ≡ true → has set k ≡ true
in_video set k e = rw e refl

in_audio : (set : Choice) (k : ℕ) → is_track set.audio k ≡ true → has set k ≡ true
in_audio set k e = elim (cases_Bool (is_track set.video k)) [ inl y ↦ rw y refl | inr n ↦ rw (n, e) refl ]

in_sub : (set : Choice) (k : ℕ) → is_track set.sub k ≡ true → has set k ≡ true
in_sub set k e = elim (cases_Bool (is_track set.video k)) [
  | inl y ↦ rw y refl
  | inr n ↦ elim (cases_Bool (is_track set.audio k)) [ inl a ↦ rw (n, a) refl | inr b ↦ rw (n, b, e) refl ]
]

some_one : (v a s : Option ℕ) (k : ℕ) → (is_track v k || (is_track a k || is_track s k)) ≡ true → is_some (or_else s (or_else v a)) ≡ true
some_one v a (Some n) k h = refl
some_one (Some n) a None k h = refl
some_one None (Some n) None k h = refl
some_one None None None k h = absurd (cc)

pub not_empty : (set : Choice) (k : ℕ) → has set k ≡ true → is_empty set ≡ false
not_empty set k h = rw (some_one set.video set.audio set.sub k h) refl

pub empty_has : (set : Choice) (k : ℕ) → is_empty set ≡ true → has set k ≡ false
empty_has set k e = elim (cases_Bool (has set k)) [ inl y ↦ absurd (let f = not_empty set k y in cc) | inr n ↦ n ]

no_weight : (o : Option ℕ) (f : ℕ → ℕ) → IfSome o (λ k. f k ≡ 0) → of_track o f ≡ 0
no_weight None f h = refl
no_weight (Some k) f h = h

none_total : (set : Choice) (f : ℕ → ℕ) → ((k : ℕ) → has set k ≡ true → f k ≡ 0) → total_of set f ≡ 0
none_total set f h =
    let v = no_weight set.video f (of_kind set.video (λ k. f k ≡ 0) (λ k e. h k (in_video set k e))) in
    let a = no_weight set.audio f (of_kind set.audio (λ k. f k ≡ 0) (λ k e. h k (in_audio set k e))) in
    let b = no_weight set.sub f (of_kind set.sub (λ k. f k ≡ 0) (λ k e. h k (in_sub set k e))) in
    rw (v, a, b) refl

some_meets : (v a s : Option ℕ) (f : ℕ → Bool) → IfSome v (λ k. f k ≡ true) → IfSome a (λ k. f k ≡ true) → IfSome s (λ k. f k ≡ true)
    → is_some (or_else s (or_else v a)) ≡ true → (if is_some (or_else v a) then meets v f || meets a f else meets s f) ≡ true
some_meets (Some v) a s f x y z e = rw x refl
some_meets None (Some a) s f x y z e = y
some_meets None None (Some s) f x y z e = z
some_meets None None None f x y z e = absurd (cc)

all_want : (d : DemuxState) (track : ℕ) → has d.set track ≡ true → ((k : ℕ) → has d.set k ≡ true → wants d k ≡ true) → some_wants d ≡ true
all_want d track sel h =
    some_meets d.set.video d.set.audio d.set.sub (wants d)
    (of_kind d.set.video (λ k. wants d k ≡ true) (λ k e. h k (in_video d.set k e)))
    (of_kind d.set.audio (λ k. wants d k ≡ true) (λ k e. h k (in_audio d.set k e)))
    (of_kind d.set.sub (λ k. wants d k ≡ true) (λ k e. h k (in_sub d.set k e)))
    (some_one d.set.video d.set.audio d.set.sub track sel)

-- ---- the ending is cached

above_none : (n m : ℕ) → 1 ≤ n → m ≡ 0 → nat_le n m ≡ false
above_none n m h e = let l : m < n = omega arith in grind (arith, nat_tests)

ended_by : (e full wanted : Bool) → (e || (full || not wanted)) ≡ true → full ≡ false → wanted ≡ true → e ≡ true
ended_by true full wanted h f w = refl
ended_by false true wanted h f w = cc
ended_by false false true h f w = cc
ended_by false false false h f w = cc

set_of : (P : RangeState → Type 0) (o : Option RangeState) (rs : List RangeState) → AllByRecursion P (in_front o rs) → IfSome o P
set_of P None rs h = tt
set_of P (Some r) rs h = h.0

pub own_set : (d : DemuxState) → IsDemux d → IfSome d.cache.current (λ r. r.set ≡ d.set)
own_set d i = set_of (λ r. r.set ≡ d.set) d.cache.current d.cache.others i.sets

pub have_heads : (set : Choice) (heads : Heads) (waiting : Choice) (o : Option Target) (current : Option RangeState) → IsPlaced set heads waiting o current
    → IfSome current (HaveHeads set heads)
have_heads set heads waiting (Some s) None h = tt
have_heads set heads waiting (Some s) (Some r) h = absurd (let e = h.0 in cc)
have_heads set heads waiting None None h = tt
have_heads set heads waiting None (Some r) h = h.1

is_ended : (d : DemuxState) (track : ℕ) → IsDemux d → has d.set track ≡ true
    → ((k : ℕ) → has d.set k ≡ true → ahead_in d.set d.heads k d.cache.current ≡ [])
    → is_full d ≡ true → is_some (ending_in d.cache.current) ≡ true
is_ended d track i sel none full =
    let have = have_heads d.set d.heads d.waiting d.seeking d.cache.current i.placed in
    let zero : forward_of d ≡ 0 = sym (forward_kinds d.set d.heads d.cache.current i.cache.current (own_set d i) have) ∙ none_total d.set (λ k. weights (ahead_in d.set d.heads k d.cache.current)) (λ k e. ap weights (none k e)) in
    let below : nat_le d.cache.limits.forward (forward_of d) ≡ false = above_none d.cache.limits.forward (forward_of d) i.limits.some zero in
    let wanted : some_wants d ≡ true = all_want d track sel (λ k e. ap (λ (ps : List Packet). wants_more d.cache.limits.readahead (ps)) (none k e)) in
    ended_by (is_some (ending_in d.cache.current)) (nat_le d.cache.limits.forward (forward_of d)) (some_wants d) full below wanted

end_there : (set : Choice) (heads : Heads) (waiting : Choice) (current : Option RangeState) (track : ℕ) → IsPlaced set heads waiting None current
    → is_empty waiting ≡ true → has set track ≡ true → is_some (ending_in current) ≡ true → is_some (end_in track current) ≡ true
end_there set heads waiting None track h e sel some = absurd (cc)
end_there set heads waiting (Some r) track h e sel some =
    let q = h.0.queued track sel (empty_has waiting track e) in rw q some

marked : (set : Choice) (heads : Heads) (waiting : Choice) (current : Option RangeState) (track n : ℕ) (fed : Bool) → IsPlaced set heads waiting None current
    → is_empty waiting ≡ true → has set track ≡ true → read_at n fed (mark_in current) ≡ Idle → ⊥
marked set heads waiting None track n fed h e sel i =
    let f = not_empty set track sel in let g : is_empty set ≡ true = subst (λ (c : Choice). is_empty c ≡ true) h e in cc
marked set heads waiting (Some r) track n true h e sel i = cc
marked set heads waiting (Some r) track n false h e sel i = cc

-- ---- why nothing is to be done

or_true : (b : Bool) → (b || true) ≡ true
or_true true = refl
or_true false = refl

placed_none : (set : Choice) (heads : Heads) (waiting : Choice) (o : Option Target) (current : Option RangeState) → IsPlaced set heads waiting o current → o ≡ None
    → IsPlaced set heads waiting None current
placed_none set heads waiting o current h e = subst (λ (x : Option Target). IsPlaced set heads waiting x current) e h

no_target : (d : DemuxState) (o : Option Target) → start_job d o ≡ Idle → o ≡ None
no_target d None h = refl
no_target d (Some s) h = absurd (cc)

full_read : (d : DemuxState) (track : ℕ) → IsPlaced d.set d.heads d.waiting None d.cache.current → has d.set track ≡ true
    → start_job d None ≡ Idle → (is_empty d.waiting ≡ true) × (is_full d ≡ true)
full_read d track placed sel h = elim (cases_Bool (is_empty d.waiting)) [
  | inl y ↦
      let j : read_job d ≡ Idle = rw y at h in
      elim (cases_Bool (is_full d)) [
        | inl full ↦ (y, full)
        | inr open_end ↦ absurd (marked d.set d.heads d.waiting d.cache.current track d.number d.fed placed y sel (rw open_end at j))
      ]
  | inr n ↦ absurd (let f : Refresh d.number d.waiting d.switch.lead d.switch.at ≡ Idle = rw n at h in cc)
]

told_end : (e : Option Ending) (f : Option Failure) (forward max : ℕ) → (is_some e || is_some f) ≡ true → peek_at (past_packets e f forward max) ≡ Finish
told_end (Some e) f forward max h = refl
told_end None (Some (Failed before after)) forward max h = refl
told_end None (Some Starved) forward max h = refl
told_end None None forward max h = absurd (cc)

why_idle : (d : DemuxState) (f : Option Failure) (track : ℕ) → IsDemux d → has d.set track ≡ true
    → ((k : ℕ) → has d.set k ≡ true → ahead_in d.set d.heads k d.cache.current ≡ [])
    → (if is_empty d.set || is_some f then Idle else start_job d d.seeking) ≡ Idle → (is_some (end_in track d.cache.current) || is_some f) ≡ true
why_idle d (Some f) track i sel none h = or_true (is_some (end_in track d.cache.current))
why_idle d None track i sel none h =
    let j : start_job d d.seeking ≡ Idle = rw (not_empty d.set track sel) at h in
    let calm : d.seeking ≡ None = no_target d d.seeking j in
    let placed = placed_none d.set d.heads d.waiting d.seeking d.cache.current i.placed calm in
    let k : start_job d None ≡ Idle = subst (λ (o : Option Target). start_job d o ≡ Idle) calm j in
    let full = full_read d track placed sel k in
    let some = is_ended d track i sel none full.1 in
    let there = end_there d.set d.heads d.waiting d.cache.current track placed full.0 sel some in
    rw there refl

pub rests : (d : DemuxState) (track : ℕ) → IsDemux d → job_of d ≡ Idle
    → ((k : ℕ) → has d.set k ≡ true → next_in d.set d.heads k d.cache.current ≡ None)
    → has d.set track ≡ true → peek_at (reading_of track d) ≡ Finish
rests d track i idle none sel =
    let heads = have_heads d.set d.heads d.waiting d.seeking d.cache.current i.placed in
    let quiet : (k : ℕ) → has d.set k ≡ true → ahead_in d.set d.heads k d.cache.current ≡ [] =
    λ k e. range_ahead d.set d.heads k d.cache.current heads (none k e) in
    let why = why_idle d d.failure track i sel quiet idle in
    let e : next_in d.set d.heads track d.cache.current ≡ None = none track sel in
    rw (sel, e) (told_end (end_in track d.cache.current) d.failure (forward_of d) d.cache.limits.forward why)
