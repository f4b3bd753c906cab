-- What stands at a track's head by the queues is what stands there by the journal.
use Rattle.std.proofs.Common.{◌≡◌, ℕ, ◌&&◌, Option, Some, None, List, [], ◌∷◌, refl, ap, subst, ◌∙◌, inl, inr}
use Rattle.std.specs.Prelude.{nat_le, if◌then◌else◌, is_some, IfSome, IsSomeAnd}
use Rattle.std.specs.List.{find}
use Rattle.std.specs.Option.{option_map}
use Rattle.std.proofs.lemmas.Bool.{cases_Bool}
use Rattle.mc_packet.specs.declared.packet.Packet.{Packet}
use Rattle.mc_packet.specs.declared.packet.Pos.{Pos}
use Rattle.mc_packet.specs.declared.choice.Choice.{Choice}
use Rattle.mc_packet.specs.declared.cache.Heads.{Heads}
use Rattle.mc_packet.specs.declared.cache.Limits.{Limits}
use Rattle.mc_packet.specs.declared.walk.Ending.{Ending}
use Rattle.mc_journal.specs.declared.record.DemuxRecord.{DemuxRecord}
use Rattle.mc_journal.specs.Films.{Film, rank, first}
use Rattle.mc_journal.specs.Ranges.{Range}
use Rattle.mc_journal.specs.Views.{from_place, head, next, next_in as next_held}
use Rattle.mc_journal.specs.Used.{can_end, ends_in}
use Rattle.mc_queue.specs.Places.{is_from}
use Rattle.mc_queue.specs.Queue.{QueueState}
use Rattle.mc_range.specs.Range.{RangeState, as_range, queue_of, span_of}
use Rattle.mc_range.specs.Serving.{HoldsFilm, packets_in}
use Rattle.mc_calls.specs.declared.waiting.Target.{Target}
use Rattle.mc_calls.specs.declared.waiting.Switch.{Switch}
use Rattle.mc_calls.specs.declared.waiting.Failure.{Failure}
use Rattle.mc_calls.specs.State.{head_of, first_at, next_in, end_in}
use Rattle.mc_calls.specs.Film.{Fits, PlacesAre}

found_told : (n : ℕ) (ps : List Packet) → first (from_place n (ps)) ≡ (find (is_from n) ps)
found_told n [] = refl
found_told n (p ∷ ps) = elim (cases_Bool (nat_le n (rank p.pos))) [ inl y ↦ rw y refl | inr o ↦ rw o (found_told n ps) ]

first_told : (o : Option QueueState) (hd : Option Pos) (n : ℕ) → IfSome o (λ q. IsSomeAnd hd (λ p. rank p ≡ n))
    → first (from_place n ((packets_in o))) ≡ (first_at o hd)
first_told None hd n h = refl
first_told (Some q) None n h = absurd h
first_told (Some q) (Some p) n h = subst (λ m. first (from_place m (q.packets)) ≡ (find (is_from (rank p)) q.packets)) h (found_told (rank p) q.packets)

pub next_told : (ps : List Packet) (set : Choice) (heads : Heads) (n : ℕ → ℕ) (track : ℕ) (current : Option RangeState)
    → IfSome current (HoldsFilm ps) → IfSome current (PlacesAre set heads n)
    → next_held ps track (n track) (option_map as_range current) ≡ (next_in set heads track current)
next_told ps set heads n track None held_all places = refl
next_told ps set heads n track (Some r) held_all places =
    ap (λ (qs : List Packet). first (from_place (n track) qs)) (held_all track) ∙ first_told (queue_of track r.queues) (head_of set heads track) (n track) (places track)

pub next-is : (film : Film) (limits : Limits) (set : Choice) (current : Option RangeState) (others : List RangeState) (heads : Heads)
    (seeking : Option Target) (waiting : Choice) (switch : Switch) (failure : Option Failure) (ended : Choice) (h : List DemuxRecord) (track : ℕ)
    → Fits film limits set current others heads seeking waiting switch failure ended h
    → next film.packets h track ≡ (next_in set heads track current)
next-is film limits set current others heads seeking waiting switch failure ended h track f =
    ap (λ (o : Option Range). next_held film.packets track (head film.packets track h) o) f.current_is
    ∙ next_told film.packets set heads (λ k. head film.packets k h) track current f.held f.places

-- ---- the end

some_end : (o : Option QueueState) (e : Option Ending) → (is_some e && is_some (option_map span_of o)) ≡ is_some (if is_some o then e else None)
some_end None None = refl
some_end None (Some e) = refl
some_end (Some q) None = refl
some_end (Some q) (Some e) = refl

pub ends_told : (track : ℕ) (current : Option RangeState) → ends_in track (option_map as_range current) ≡ is_some (end_in track current)
ends_told track None = refl
ends_told track (Some r) = some_end (queue_of track r.queues) r.ending

pub end-is : (film : Film) (limits : Limits) (set : Choice) (current : Option RangeState) (others : List RangeState) (heads : Heads)
    (seeking : Option Target) (waiting : Choice) (switch : Switch) (failure : Option Failure) (ended : Choice) (h : List DemuxRecord) (track : ℕ)
    → Fits film limits set current others heads seeking waiting switch failure ended h
    → can_end film.packets h track ≡ is_some (end_in track current)
end-is film limits set current others heads seeking waiting switch failure ended h track f =
    ap (λ (o : Option Range). ends_in track o) f.current_is ∙ ends_told track current
