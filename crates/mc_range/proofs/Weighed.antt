-- The spans, weights and bounds of a range that holds a film's packets are those of the definitions over the film's list.
use Rattle.std.proofs.Common.{◌≡◌, ℕ, ◌+◌, ◌*◌, ◌/◌, ◌%◌, ◌<◌, Bool, List, Option, Some, None, arith, refl, ap, sym, ◌∙◌}
use Rattle.std.specs.Prelude.{is_some, IfSome, IsSomeAnd, sum_by}
use Rattle.std.specs.List.{filter}
use Rattle.mc_packet.specs.declared.packet.Packet.{Packet}
use Rattle.mc_packet.specs.declared.packet.Pos.{Pos}
use Rattle.mc_packet.specs.declared.cache.Heads.{Heads}
use Rattle.mc_packet.specs.declared.choice.Dir.TheVariants.{Back}
use Rattle.mc_packet.specs.Choices.{lead_of}
use Rattle.mc_journal.specs.Choices.{of_track}
use Rattle.mc_journal.specs.Films.{rank}
use Rattle.mc_journal.specs.Ranges.{held, held_syncs, serves, bounds, bounds_by, syncs_of_lead, held_by_lead}
use Rattle.mc_journal.specs.Views.{weight, range_weight, forward_in, from_place, pos_of, span_shown, spans_shown}
use Rattle.mc_queue.specs.Places.{weights}
use Rattle.mc_queue.specs.Queue.{QueueState}
use Rattle.mc_range.specs.Range.{RangeState, QueueIn, IsRange, queue_of, as_range, weight_in, weight_of_all}
use Rattle.mc_range.specs.Serving.{packets_in, sync_points, HoldsFilm, AreHeads}
use Rattle.mc_range.specs.Cutting.{weight_ahead, weight_from}
use Rattle.mc_range.specs.Tracks.{interval_of, intervals}
use Rattle.mc_range.specs.Filmed.{HasFrames, HaveFrames}
use Rattle.mc_range.specs.Bounds.{serves_time, bounds_in, bounds_of, lead_queue}
use Rattle.mc_range.proofs.Films.{film_served, same_syncs}
use Rattle.mc_range.proofs.Unions.{video_is, audio_is, sub_is}

-- ---- weights

in_weight : (o : Option QueueState) → weights (packets_in o) ≡ weight_in o
in_weight None = refl
in_weight (Some q) = refl

weigh_kind : (ps : List Packet) (r : RangeState) (t : Option ℕ) (o : Option QueueState) → HoldsFilm ps r → QueueIn t r.mark o → ((k : ℕ) → t ≡ Some k → queue_of k r.queues ≡ o)
    → of_track t (λ k. sum_by weight (held (as_range r) ps k)) ≡ weight_in o
weigh_kind ps r None None h i f = refl
weigh_kind ps r None (Some q) h i f = absurd (let e = i.0 in cc)
weigh_kind ps r (Some k) o h i f =
    ap (λ xs. sum_by weight xs) (h k) ∙ ap (λ (x : Option QueueState). weights (packets_in x)) (f k refl) ∙ in_weight o

pub film_weight : (ps : List Packet) (r : RangeState) → IsRange r → HoldsFilm ps r → range_weight ps r.set (as_range r) ≡ weight_of_all r.queues
film_weight ps r i h =
    let v = weigh_kind ps r r.set.video r.queues.video h i.held.video (λ k e. video_is r k i e) in
    let a = weigh_kind ps r r.set.audio r.queues.audio h i.held.audio (λ k e. audio_is r k i e) in
    let s = weigh_kind ps r r.set.sub r.queues.sub h i.held.sub (λ k e. sub_is r k i e) in
    rw (v, a, s) refl

in_ahead : (place : ℕ) (head : Pos) (o : Option QueueState) → rank head ≡ place → weights (from_place place (packets_in o)) ≡ weight_ahead (Some head) o
in_ahead place head None e = refl
in_ahead place head (Some q) e = ap (λ n. weights (from_place n q.packets)) (sym e)

none_ahead : (head : Option Pos) → 0 ≡ weight_ahead head None
none_ahead None = refl
none_ahead (Some p) = refl

ahead_kind : (ps : List Packet) (r : RangeState) (t : Option ℕ) (o : Option QueueState) (place : ℕ → ℕ) (head : Option Pos) → HoldsFilm ps r → QueueIn t r.mark o
    → ((k : ℕ) → t ≡ Some k → queue_of k r.queues ≡ o) → IfSome t (λ k. IsSomeAnd head (λ p. rank p ≡ place k))
    → of_track t (λ k. sum_by weight (from_place (place k) (held (as_range r) ps k))) ≡ weight_ahead head o
ahead_kind ps r None None place head h i f a = none_ahead head
ahead_kind ps r None (Some q) place head h i f a = absurd (let e = i.0 in cc)
ahead_kind ps r (Some k) o place None h i f a = absurd a
ahead_kind ps r (Some k) o place (Some p) h i f a =
    ap (λ xs. sum_by weight (from_place (place k) xs)) (h k)
    ∙ ap (λ (x : Option QueueState). weights (from_place (place k) (packets_in x))) (f k refl) ∙ in_ahead (place k) p o a

pub film_ahead : (ps : List Packet) (r : RangeState) (place : ℕ → ℕ) (heads : Heads) → IsRange r → HoldsFilm ps r → AreHeads r.set place heads
    → forward_in ps r.set place (Some (as_range r)) ≡ weight_from heads r.queues
film_ahead ps r place heads i h a =
    let v = ahead_kind ps r r.set.video r.queues.video place heads.video h i.held.video (λ k e. video_is r k i e) a.video in
    let d = ahead_kind ps r r.set.audio r.queues.audio place heads.audio h i.held.audio (λ k e. audio_is r k i e) a.audio in
    let s = ahead_kind ps r r.set.sub r.queues.sub place heads.sub h i.held.sub (λ k e. sub_is r k i e) a.sub in
    rw (v, d, s) refl

-- ---- bounds

filter_same : (f g : Packet → Bool) → ((p : Packet) → f p ≡ g p) → (ps : List Packet) → filter f ps ≡ filter g ps
filter_same f g h ps = ap (λ (t : Packet → Bool). filter t ps) (λ i. λ p. h p i)

lead_bounds : (ps : List Packet) (r : RangeState) (o : Option ℕ) → HoldsFilm ps r
    → bounds_in (serves_time r.queues (is_some r.ending) r.set) (is_some r.ending) (packets_in (lead_queue r.queues o))
    ≡ bounds_by (filter (λ p. serves ps r.set Back p.time (as_range r)) (syncs_of_lead (as_range r) ps o)) (held_by_lead (as_range r) ps o) (is_some r.ending)
lead_bounds ps r None h = refl
lead_bounds ps r (Some k) h =
    ap (λ xs. bounds_by xs ((packets_in (queue_of k r.queues))) (is_some r.ending))
    (filter_same (λ p. serves_time r.queues (is_some r.ending) r.set p.time) (λ p. serves ps r.set Back p.time (as_range r)) (λ p. film_served ps r r.set p.time Back h) (sync_points (packets_in (queue_of k r.queues)))
    ∙ ap (λ xs. filter (λ p. serves ps r.set Back p.time (as_range r)) xs) (sym (same_syncs ps r h k)))
    ∙ ap (λ xs. bounds_by (filter (λ p. serves ps r.set Back p.time (as_range r)) (held_syncs (as_range r) ps k)) xs (is_some r.ending)) (sym (h k))

pub film_bounds : (ps : List Packet) (r : RangeState) → HoldsFilm ps r → bounds_of r ≡ bounds ps r.set (as_range r)
film_bounds ps r h = lead_bounds ps r (lead_of r.set) h

-- ---- spans

pos_back : (p : Pos) → p.lane < 65536 → pos_of (rank p) ≡ p
unfolding rank
pos_back p l = let a : (p.block * 65536 + p.lane) / 65536 ≡ p.block = omega arith in let b : (p.block * 65536 + p.lane) % 65536 ≡ p.lane = omega arith in rw (a, b) refl

abbrev pair_of : Pos → Pos → Option (Pos × Pos)
pair_of a b = Some (a, b)

interval_back : (q : QueueState) → HasFrames (pair_of q.from q.to) → pair_of (pos_of (rank q.from)) (pos_of (rank q.to)) ≡ pair_of q.from q.to
interval_back q f = let a = pos_back q.from f.0 in let b = pos_back q.to f.1 in rw (a, b) refl

shown_kind : (r : RangeState) (t : Option ℕ) (o : Option QueueState) → QueueIn t r.mark o → ((k : ℕ) → t ≡ Some k → queue_of k r.queues ≡ o) → HasFrames (interval_of o) → span_shown (as_range r) t ≡ interval_of o
shown_kind r None None i f h = refl
shown_kind r None (Some q) i f h = absurd (let e = i.0 in cc)
shown_kind r (Some k) None i f h = let e = f k refl in rw e refl
shown_kind r (Some k) (Some q) i f h = let e = f k refl in rw e (interval_back q h)

pub film_spans : (r : RangeState) → IsRange r → HaveFrames (intervals r.queues) → spans_shown r.set (as_range r) ≡ intervals r.queues
film_spans r i f =
    let v = shown_kind r r.set.video r.queues.video i.held.video (λ k e. video_is r k i e) f.0 in
    let a = shown_kind r r.set.audio r.queues.audio i.held.audio (λ k e. audio_is r k i e) f.1 in
    let s = shown_kind r r.set.sub r.queues.sub i.held.sub (λ k e. sub_is r k i e) f.2 in
    λ j. record { video = v j; audio = a j; sub = s j }
