-- Two ranges that hold a film's packets have no difference, and joined they hold its packets.
use Rattle.std.proofs.Common.{◌≡◌, ℕ, ◌<◌, ◌≤◌, ◌==◌, true, List, ◌++◌, Option, Some, None, arith, refl, ap, subst, sym, ◌∙◌, inl, inr}
use Rattle.std.specs.Prelude.{nat_le, nat_lt, min, max, IfSome}
use Rattle.std.specs.Option.{option_map}
use Rattle.std.proofs.lemmas.Bool.{cases_Bool, leb-true, leb-false, ltb-true, ltb-false}
use Rattle.mc_packet.specs.declared.packet.Pos.{Pos}
use Rattle.mc_packet.specs.declared.walk.Mark.{Mark}
use Rattle.mc_packet.specs.declared.packet.Packet.{Packet}
use Rattle.mc_journal.specs.Films.{rank, track_of, IsRising}
use Rattle.mc_journal.specs.Ranges.{within, in_span}
use Rattle.mc_journal.specs.Stands.{union_span, union_range}
use Rattle.mc_journal.specs.Views.{from_place}
use Rattle.mc_journal.proofs.Lists.{rising_kept}
use Rattle.mc_queue.specs.declared.differences.Difference.{Difference}
use Rattle.mc_queue.specs.declared.queue.UnionError.{UnionError}
use Rattle.mc_queue.specs.declared.queue.UnionError.TheVariants.{NoMemory, Mismatch}
use Rattle.mc_queue.specs.Queue.{QueueState}
use Rattle.mc_queue.specs.Differences.{time_at}
use Rattle.mc_queue.specs.Union.{earlier, later, united, behind_all, shared_from, shared_to}
use Rattle.mc_queue.proofs.Rising.{rise_bounds}
use Rattle.mc_queue.proofs.Uniting.{earlier_least, later_greatest}
use Rattle.mc_range.specs.Range.{RangeState, QueueIn, IsRange, queue_of, span_of, as_range, meets_range}
use Rattle.mc_range.specs.Joining.{MeetIn, ComparedIn, FirstDifference, numbered, greater, IsJoined, JoinRefused}
use Rattle.mc_range.specs.Serving.{packets_in, HoldsFilm}
use Rattle.mc_range.proofs.Owned.{Queued, queued, Joins, joins_of}
use Rattle.mc_range.proofs.Telling.{before, united_part, seen_at, times_seen, seen_within}
use Rattle.mc_range.proofs.Unions.{touching_meet, video_is, audio_is, sub_is}
use Rattle.mc_range.proofs.Fed.{range_is}

-- ---- the joined range

pub earlier_min : (f g : Pos) → rank (earlier f g) ≡ min (rank f) (rank g)
earlier_min f g = elim (cases_Bool (nat_le (rank f) (rank g))) [
  | inl y ↦ let l = leb-true (rank f) (rank g) y in rw y (omega arith)
  | inr n ↦ let l = leb-false (rank f) (rank g) n in rw n (omega arith)
]

later_max : (f g : Pos) → rank (later f g) ≡ max (rank f) (rank g)
later_max f g = elim (cases_Bool (nat_le (rank f) (rank g))) [
  | inl y ↦ let l = leb-true (rank f) (rank g) y in rw y (omega arith)
  | inr n ↦ let l = leb-false (rank f) (rank g) n in rw n (omega arith)
]

greater_max : (a b : Mark) → (greater a b).pos ≡ max a.pos b.pos
greater_max a b = elim (cases_Bool (nat_lt a.pos b.pos)) [
  | inl y ↦ let l = ltb-true a.pos b.pos y in rw y (omega arith)
  | inr n ↦ let l = ltb-false a.pos b.pos n in rw n (omega arith)
]

joined_span : (a b n : Option QueueState) → Joins a b n → option_map span_of n ≡ union_span (option_map span_of a) (option_map span_of b)
joined_span None None n j = let x = j.1 in rw x refl
joined_span None (Some o) n j = absurd j.0
joined_span (Some q) None n j = absurd j.0
joined_span (Some q) (Some o) None j = absurd j.1
joined_span (Some q) (Some o) (Some u) j =
    ap (λ (s : QueueState). Some (span_of s)) j.1.both
    ∙ (λ i. Some (record { from = earlier_min q.from o.from i; to = later_max q.to o.to i }))

pub joined_ranges : (r o r' o' : RangeState) → IsRange r → IsRange o → meets_range r o ≡ true → IsJoined r o r' o' → as_range r' ≡ union_range (as_range r) (as_range o)
joined_ranges r o r' o' i k m j =
    range_is _ _ _ _ _ _ (λ t. joined_span (queue_of t r.queues) (queue_of t o.queues) (queue_of t r'.queues) (joins_of r.queues o.queues r'.queues (touching_meet r o i k m) j.queues t))
    (ap (λ (n : Mark). n.pos) j.mark_is ∙ greater_max r.mark o.mark) j.ending_is

-- ---- what it holds

film_united : (q o : QueueState) (ps qs : List Packet) → q.packets ≡ ps → o.packets ≡ qs
    → (united q o) ≡ before (rank q.from) qs ++ (ps ++ from_place (rank q.to) qs)
film_united q o ps qs e f =
    ap (λ xs. xs ++ (q.packets ++ behind_all q o)) (ap (λ xs. before (rank q.from) xs) f)
    ∙ ap (λ xs. before (rank q.from) qs ++ xs) (ap (λ xs. xs ++ behind_all q o) e ∙ ap (λ xs. ps ++ from_place (rank q.to) xs) f)

joined_held : (ps : List Packet) (k : ℕ) (m n : Mark) (a b u : Option QueueState) → IsRising ps → IfSome a (Queued k m) → IfSome b (Queued k n) → Joins a b u
    → in_span (option_map span_of a) (track_of k ps) ≡ (packets_in a) → in_span (option_map span_of b) (track_of k ps) ≡ (packets_in b)
    → in_span (option_map span_of u) (track_of k ps) ≡ (packets_in u)
joined_held ps k m n None None u r v w j g h = let x = j.1 in rw x refl
joined_held ps k m n None (Some o) u r v w j g h = absurd j.0
joined_held ps k m n (Some q) None u r v w j g h = absurd j.0
joined_held ps k m n (Some q) (Some o) None r v w j g h = absurd j.1
joined_held ps k m n (Some q) (Some o) (Some u) r v w j g h =
    let T = track_of k ps in
    let rt = rising_kept (λ p. p.track == k) ps r in
    let l = rise_bounds q.track (rank q.from) (rank q.to) q.packets v.1.1.rise in
    let e = united_part q.from q.to o.from o.to T rt l j.0.ours j.0.other in
    let f = film_united q o (within (rank q.from) (rank q.to) T) (within (rank o.from) (rank o.to) T) (sym g) (sym h) in
    subst (λ (s : QueueState). within (rank s.from) (rank s.to) T ≡ s.packets) (sym j.1.both) (sym (f ∙ e))

pub joined_film : (ps : List Packet) (r o r' o' : RangeState) → IsRising ps → IsRange r → IsRange o → meets_range r o ≡ true → IsJoined r o r' o' → HoldsFilm ps r → HoldsFilm ps o → HoldsFilm ps r'
joined_film ps r o r' o' s i k m j g h = λ t.
    joined_held ps t r.mark o.mark (queue_of t r.queues) (queue_of t o.queues) (queue_of t r'.queues) s (queued r i t) (queued o k t)
    (joins_of r.queues o.queues r'.queues (touching_meet r o i k m) j.queues t) (g t) (h t)

-- ---- no difference

-- a kind's queue, if there is one, holds the film's packets of its track
abbrev HeldIn : List Packet → Option QueueState → Type 0
HeldIn ps o = IfSome o (λ q. within (rank q.from) (rank q.to) (track_of q.track ps) ≡ q.packets)

held_in : (ps : List Packet) (r : RangeState) (t : Option ℕ) (o : Option QueueState) → HoldsFilm ps r → QueueIn t r.mark o → ((k : ℕ) → t ≡ Some k → queue_of k r.queues ≡ o) → HeldIn ps o
held_in ps r t None h i f = tt
held_in ps r t (Some q) h i f = subst (λ (o : Option QueueState). in_span (option_map span_of o) (track_of q.track ps) ≡ (packets_in o)) (f q.track i.0) (h q.track)

same_times : (ps : List Packet) (q o : QueueState) (x : ℕ) → o.track ≡ q.track → within (rank q.from) (rank q.to) (track_of q.track ps) ≡ q.packets
    → within (rank o.from) (rank o.to) (track_of o.track ps) ≡ o.packets → shared_from q o ≤ x → x < shared_to q o → time_at x q.packets ≡ time_at x o.packets
same_times ps q o x t g h l m =
    let a = later_greatest q.from o.from in
    let b = earlier_least q.to o.to in
    let a0 = a.0 in
    let a1 = a.1 in
    let b0 = b.0 in
    let b1 = b.1 in
    times_seen x q.packets ∙ ap (λ xs. seen_at x xs) (sym g) ∙ seen_within (rank q.from) (rank q.to) x (track_of q.track ps) (omega arith) (omega arith)
    ∙ ap (λ k. seen_at x (track_of k ps)) (sym t)
    ∙ sym (times_seen x o.packets ∙ ap (λ xs. seen_at x xs) (sym h) ∙ seen_within (rank o.from) (rank o.to) x (track_of o.track ps) (omega arith) (omega arith))

none_differs : (ps : List Packet) (a b : Option QueueState) (d : Option Difference) → MeetIn a b → HeldIn ps a → HeldIn ps b → ComparedIn a b d → d ≡ None
none_differs ps None b d m g h c = c
none_differs ps (Some q) None d m g h c = c
none_differs ps (Some q) (Some o) None m g h c = refl
none_differs ps (Some q) (Some o) (Some d) m g h c =
    absurd (c.two (c.ours_is ∙ same_times ps q o (rank d.pos) m.one_track g h c.begins c.ends ∙ sym c.other_is))

numbered_none : (o : Option QueueState) → numbered o None ≡ None
numbered_none None = refl
numbered_none (Some q) = refl

pub none_told : (ps : List Packet) (r o : RangeState) (d : Option Difference) → IsRange r → IsRange o → meets_range r o ≡ true → HoldsFilm ps r → HoldsFilm ps o
    → FirstDifference r.queues o.queues d → d ≡ None
none_told ps r o d i k m g h (v, a, s, c, e) =
    let t = touching_meet r o i k m in
    let x = none_differs ps r.queues.video o.queues.video v t.video (held_in ps r r.set.video r.queues.video g i.held.video (λ n z. video_is r n i z))
    (held_in ps o o.set.video o.queues.video h k.held.video (λ n z. video_is o n k z)) c.video in
    let y = none_differs ps r.queues.audio o.queues.audio a t.audio (held_in ps r r.set.audio r.queues.audio g i.held.audio (λ n z. audio_is r n i z))
    (held_in ps o o.set.audio o.queues.audio h k.held.audio (λ n z. audio_is o n k z)) c.audio in
    let z = none_differs ps r.queues.sub o.queues.sub s t.sub (held_in ps r r.set.sub r.queues.sub g i.held.sub (λ n z. sub_is r n i z))
    (held_in ps o o.set.sub o.queues.sub h k.held.sub (λ n z. sub_is o n k z)) c.sub in
    e ∙ (rw (x, y, z, numbered_none r.queues.video, numbered_none r.queues.audio, numbered_none r.queues.sub) refl)

pub only_memory : (ps : List Packet) (r o : RangeState) (e : UnionError) → IsRange r → IsRange o → meets_range r o ≡ true → HoldsFilm ps r → HoldsFilm ps o
    → JoinRefused r o e → e ≡ NoMemory
only_memory ps r o NoMemory i k m g h j = refl
only_memory ps r o (Mismatch pos ours other) i k m g h j =
    let f = none_told ps r o (Some (record { pos = pos; ours = ours; other = other })) i k m g h j in
    absurd cc
