-- A range that holds a film's packets and is fed the next part of the film holds its packets still.
use Rattle.std.proofs.Common.{◌≡◌, ℕ, ◌≤◌, ◌==◌, true, false, List, ◌++◌, Option, Some, None, refl, ap, subst, sym, ◌∙◌, inl, inr}
use Rattle.std.specs.Prelude.{nat_le, IfSome}
use Rattle.std.specs.Option.{option_map}
use Rattle.std.proofs.lemmas.Bool.{cases_Bool}
use Rattle.mc_packet.specs.declared.packet.Packet.{Packet}
use Rattle.mc_packet.specs.declared.packet.Pos.{Pos}
use Rattle.mc_packet.specs.declared.walk.Chunk.{Chunk}
use Rattle.mc_packet.specs.declared.walk.Ending.{Ending}
use Rattle.mc_packet.specs.declared.walk.Mark.{Mark}
use Rattle.mc_journal.specs.Films.{rank, first_lane, track_of, IsRising}
use Rattle.mc_journal.specs.Ranges.{Range, Span, within, in_span}
use Rattle.mc_journal.specs.Stands.{grown, fed_range}
use Rattle.mc_journal.specs.Views.{from_place}
use Rattle.mc_journal.proofs.Lists.{rising_kept}
use Rattle.mc_journal.proofs.Splitting.{within-cut}
use Rattle.mc_queue.specs.Queue.{QueueState}
use Rattle.mc_queue.specs.Union.{later}
use Rattle.mc_queue.proofs.Rising.{rise_bounds}
use Rattle.mc_range.specs.Range.{RangeState, IsRange, queue_of, span_of, as_range, place_at}
use Rattle.mc_range.specs.Growing.{news, ExtendsIn, IsFed}
use Rattle.mc_range.specs.Serving.{packets_in, HoldsFilm}
use Rattle.mc_range.specs.Filmed.{IsPart}
use Rattle.mc_range.proofs.Places.{same_lane}
use Rattle.mc_range.proofs.Owned.{Queued, queued, extends_of}
use Rattle.mc_range.proofs.Telling.{kept_swap, grown_part}

abbrev range_with : (ℕ → Option Span) → ℕ → Option Ending → Range
range_with f m e = record { spans = f; mark = m; ending = e }

-- ranges are equal where their spans are, track by track
pub range_is : (f g : ℕ → Option Span) (m n : ℕ) (a b : Option Ending) → ((k : ℕ) → f k ≡ g k) → m ≡ n → a ≡ b
    → range_with f m a ≡ range_with g n b
range_is f g m n a b h e x = λ i. range_with (λ k. h k i) (e i) (x i)

fed_span : (b : ℕ) (ps : List Packet) (o n : Option QueueState) → ExtendsIn (place_at b) ps o n → option_map span_of n ≡ option_map (grown (first_lane b)) (option_map span_of o)
fed_span b ps None n e = rw e refl
fed_span b ps (Some q) None e = absurd e
fed_span b ps (Some q) (Some m) e =
    ap (λ (s : QueueState). Some (span_of s)) e.grown ∙ (elim (cases_Bool (nat_le (rank q.to) (rank (place_at b)))) [
      | inl y ↦ let z : nat_le (rank q.to) (first_lane b) ≡ true = rw (same_lane b) at y in rw (y, z, same_lane b) refl
      | inr n ↦ let z : nat_le (rank q.to) (first_lane b) ≡ false = rw (same_lane b) at n in rw (n, z) refl
    ])

pub fed_ranges : (c : Chunk) (old new : RangeState) → IsFed c old new → as_range new ≡ fed_range c.to.pos c.ending (as_range old)
fed_ranges c old new f =
    range_is _ _ _ _ _ _ (λ k. fed_span c.to.pos c.packets (queue_of k old.queues) (queue_of k new.queues) (extends_of (place_at c.to.pos) c.packets old.queues new.queues f.queues k))
    (ap (λ (m : Mark). m.pos) f.mark_is) f.ending_is

-- ---- what it holds

film_news : (ps : List Packet) (q : QueueState) (a b : ℕ) (cs : List Packet) → cs ≡ within a b ps → a ≤ rank q.to
    → (news cs q) ≡ within (rank q.to) b (track_of q.track ps)
film_news ps q a b cs e l =
    ap (λ xs. from_place (rank q.to) (track_of q.track xs)) e
    ∙ ap (λ xs. from_place (rank q.to) xs) (kept_swap (λ p. p.track == q.track) _ ps)
    ∙ within-cut a (rank q.to) b (track_of q.track ps) l

fed_packets : (ps : List Packet) (k a : ℕ) (u : Pos) (m : Mark) (cs : List Packet) (q n : QueueState) → IsRising ps → cs ≡ within a (rank u) ps → a ≡ first_lane m.pos
    → Queued k m q → n ≡ record { track = q.track; from = q.from; to = later q.to u; packets = q.packets ++ news cs q; spare = n.spare }
    → within (rank q.from) (rank q.to) (track_of k ps) ≡ q.packets
    → within (rank n.from) (rank n.to) (track_of k ps) ≡ n.packets
fed_packets ps k a u m cs q n r e g w x h =
    let T = track_of k ps in
    let rt = rising_kept (λ p. p.track == k) ps r in
    let lo = w.1.0 in
    let l : a ≤ rank q.to = rw g lo in
    let b = rise_bounds q.track (rank q.from) (rank q.to) q.packets w.1.1.rise in
    let t : (news cs q) ≡ within (rank q.to) (rank u) T = film_news ps q a (rank u) cs e l ∙ ap (λ j. within (rank q.to) (rank u) (track_of j ps)) w.0 in
    let all : within (rank q.from) (rank (later q.to u)) T ≡ (q.packets ++ news cs q) =
    sym (ap (λ xs. xs ++ news cs q) (sym h) ∙ ap (λ xs. within (rank q.from) (rank q.to) T ++ xs) t
    ∙ grown_part q.from q.to u T rt b) in
    subst (λ (s : QueueState). within (rank s.from) (rank s.to) T ≡ s.packets) (sym x) all

fed_held : (ps : List Packet) (k a : ℕ) (u : Pos) (m : Mark) (cs : List Packet) (o n : Option QueueState) → IsRising ps → cs ≡ within a (rank u) ps → a ≡ first_lane m.pos
    → IfSome o (Queued k m) → ExtendsIn u cs o n → in_span (option_map span_of o) (track_of k ps) ≡ (packets_in o)
    → in_span (option_map span_of n) (track_of k ps) ≡ (packets_in n)
fed_held ps k a u m cs None n r e g w x h = rw x refl
fed_held ps k a u m cs (Some q) None r e g w x h = absurd x
fed_held ps k a u m cs (Some q) (Some n) r e g w x h = fed_packets ps k a u m cs q n r e g w x.grown h

pub fed_film : (ps : List Packet) (c : Chunk) (old new : RangeState) → IsRising ps → IsPart ps c → c.from ≡ old.mark → IsRange old → IsFed c old new
    → HoldsFilm ps old → HoldsFilm ps new
fed_film ps c old new r p e i f h = λ k.
    let part : c.packets ≡ within (first_lane c.from.pos) (rank (place_at c.to.pos)) ps = p ∙ ap (λ n. within (first_lane c.from.pos) n ps) (sym (same_lane c.to.pos)) in
    fed_held ps k (first_lane c.from.pos) (place_at c.to.pos) old.mark c.packets (queue_of k old.queues) (queue_of k new.queues) r part (ap (λ (m : Mark). first_lane m.pos) e)
    (queued old i k) (extends_of (place_at c.to.pos) c.packets old.queues new.queues f.queues k) (h k)
