-- The octets ahead of the readers, by the queues and by the journal.
use Rattle.std.proofs.Common.{◌≡◌, ℕ, ◌+◌, Option, Some, None, List, [], ◌∷◌, refl, ap, sym, subst, ◌∙◌, inl, inr}
use Rattle.std.specs.Prelude.{nat_le, IfSome, IsSomeAnd, sum_by}
use Rattle.std.specs.List.{fold}
use Rattle.std.specs.Option.{option_map}
use Rattle.std.proofs.lemmas.Bool.{cases_Bool}
use Rattle.mc_packet.specs.declared.packet.Packet.{Packet}
use Rattle.mc_packet.specs.declared.packet.Pos.{Pos}
use Rattle.mc_packet.specs.declared.choice.Choice.{Choice}
use Rattle.mc_packet.specs.declared.cache.Heads.{Heads}
use Rattle.mc_packet.specs.declared.cache.Limits.{Limits}
use Rattle.mc_journal.specs.declared.record.DemuxRecord.{DemuxRecord}
use Rattle.mc_journal.specs.Choices.{of_track, total_of}
use Rattle.mc_journal.specs.Films.{Film, rank}
use Rattle.mc_journal.specs.Ranges.{Range, held}
use Rattle.mc_journal.specs.Stands.{stand}
use Rattle.mc_journal.specs.Views.{from_place as from_told, head, forward, forward_in, weight, from_place}
use Rattle.mc_queue.specs.Places.{weight_of, weights}
use Rattle.mc_queue.specs.Queue.{QueueState}
use Rattle.mc_range.specs.Range.{RangeState, IsRange, as_range, queue_of}
use Rattle.mc_range.specs.Serving.{HoldsFilm, packets_in}
use Rattle.mc_calls.specs.declared.waiting.Target.{Target}
use Rattle.mc_calls.specs.declared.waiting.Switch.{Switch}
use Rattle.mc_calls.specs.declared.waiting.Failure.{Failure}
use Rattle.mc_calls.specs.State.{head_of, ahead, ahead_in}
use Rattle.mc_cache.specs.Pruning.{ahead_in as forward_of_kinds}
use Rattle.mc_calls.specs.Demuxers.{HaveHeads}
use Rattle.mc_calls.specs.Film.{Fits, PlacesAre}
use Rattle.mc_calls.proofs.ByKind.{kinds_ahead}

from_both : (n : ℕ) (ps : List Packet) → from_told n (ps) ≡ (from_place n ps)
from_both n [] = refl
from_both n (p ∷ ps) = elim (cases_Bool (nat_le n (rank p.pos))) [ inl y ↦ rw y (ap (λ qs. p ∷ qs) (from_both n ps)) | inr o ↦ rw o (from_both n ps) ]

sums_told : (n : ℕ) (ps : List Packet) → fold (λ a x. a + weight x) n (ps) ≡ fold (λ a x. a + weight_of x) n ps
sums_told n [] = refl
sums_told n (p ∷ ps) = sums_told (n + weight_of p) ps

pub weights_told : (ps : List Packet) → sum_by weight (ps) ≡ weights ps
weights_told ps = sums_told 0 ps

-- what is from a head on
pub ahead_told : (o : Option QueueState) (hd : Option Pos) (n : ℕ) → IfSome o (λ q. IsSomeAnd hd (λ p. rank p ≡ n))
    → from_told n ((packets_in o)) ≡ (ahead o hd)
ahead_told None hd n h = refl
ahead_told (Some q) None n h = absurd h
ahead_told (Some q) (Some p) n h = subst (λ m. from_told m (q.packets) ≡ (from_place (rank p) q.packets)) h (from_both (rank p) q.packets)

pub same_on : (o : Option ℕ) (f g : ℕ → ℕ) → ((k : ℕ) → f k ≡ g k) → of_track o f ≡ of_track o g
same_on None f g e = refl
same_on (Some k) f g e = e k

pub same_total : (set : Choice) (f g : ℕ → ℕ) → ((k : ℕ) → f k ≡ g k) → total_of set f ≡ total_of set g
same_total set f g e =
    ap (λ n. n + (of_track set.audio f + of_track set.sub f)) (same_on set.video f g e)
    ∙ ap (λ n. of_track set.video g + (n + of_track set.sub f)) (same_on set.audio f g e)
    ∙ ap (λ n. of_track set.video g + (of_track set.audio g + n)) (same_on set.sub f g e)

nothing_ahead : (o : Option ℕ) → of_track o (λ k. weights []) ≡ 0
nothing_ahead None = refl
nothing_ahead (Some k) = refl

forward_none : (set : Choice) → 0 ≡ total_of set (λ k. weights [])
forward_none set = rw (nothing_ahead set.video, nothing_ahead set.audio, nothing_ahead set.sub) refl

pub forward_told : (ps : List Packet) (set : Choice) (heads : Heads) (n : ℕ → ℕ) (current : Option RangeState)
    → IfSome current (HoldsFilm ps) → IfSome current (PlacesAre set heads n)
    → forward_in ps set n (option_map as_range current) ≡ total_of set (λ k. weights (ahead_in set heads k current))
forward_told ps set heads n None all places = forward_none set
forward_told ps set heads n (Some r) all places =
    same_total set (λ k. sum_by weight (from_told (n k) (held (as_range r) ps k))) (λ k. weights (ahead (queue_of k r.queues) (head_of set heads k)))
    (λ k. ap (λ (qs : List Packet). sum_by weight (from_told (n k) qs)) (all k)
    ∙ ap (λ (qs : List Packet). sum_by weight qs) (ahead_told (queue_of k r.queues) (head_of set heads k) (n k) (places k))
    ∙ weights_told (ahead (queue_of k r.queues) (head_of set heads k)))

pub forward_kinds : (set : Choice) (heads : Heads) (current : Option RangeState) → IfSome current IsRange → IfSome current (λ r. r.set ≡ set)
    → IfSome current (HaveHeads set heads) → total_of set (λ k. weights (ahead_in set heads k current)) ≡ forward_of_kinds heads current
forward_kinds set heads None i e have = sym (forward_none set)
forward_kinds set heads (Some r) i e have = sym (kinds_ahead set heads r i e have)

pub forward-is : (film : Film) (limits : Limits) (set : Choice) (current : Option RangeState) (others : List RangeState) (heads : Heads)
    (seeking : Option Target) (waiting : Choice) (switch : Switch) (failure : Option Failure) (ended : Choice) (h : List DemuxRecord)
    → IfSome current IsRange → IfSome current (λ r. r.set ≡ set) → IfSome current (HaveHeads set heads)
    → Fits film limits set current others heads seeking waiting switch failure ended h
    → forward film.packets h ≡ forward_of_kinds heads current
forward-is film limits set current others heads seeking waiting switch failure ended h range own_set have f =
    ap (λ (s : Choice). forward_in film.packets s (λ k. head film.packets k h) (stand film.packets h).current) f.set_is
    ∙ ap (λ (o : Option Range). forward_in film.packets set (λ k. head film.packets k h) o) f.current_is
    ∙ forward_told film.packets set heads (λ k. head film.packets k h) current f.held f.places
    ∙ forward_kinds set heads current range own_set have
