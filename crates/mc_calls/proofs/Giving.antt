-- A packet that is given leaves a demuxer that stands for the film.
use Rattle.std.proofs.Common.{◌≡◌, ℕ, ◌+◌, Bool, true, false, ◌&&◌, Option, Some, None, List, [], ◌∷◌, refl, sym, subst, ◌∙◌, inl, inr, ◌==◌, arith}
use Rattle.std.specs.Prelude.{if◌then◌else◌, IfSome, IsSomeAnd, nat_le, nat_lt}
use Rattle.std.specs.List.{filter, AllByRecursion}
use Rattle.std.proofs.lemmas.Bool.{cases_Bool, eqb-true}
use Rattle.mc_packet.specs.declared.packet.Packet.{Packet}
use Rattle.mc_packet.specs.declared.packet.Pos.{Pos}
use Rattle.mc_packet.specs.declared.choice.Choice.{Choice}
use Rattle.mc_packet.specs.declared.cache.Heads.{Heads}
use Rattle.mc_packet.specs.declared.cache.Limits.{Limits}
use Rattle.mc_journal.specs.declared.record.DemuxRecord.{DemuxRecord}
use Rattle.mc_journal.specs.Told.{gave_by, told}
use Rattle.mc_packet.specs.Choices.{is_track, has}
use Rattle.mc_journal.specs.Films.{Film, at, rank, first, track_of}
use Rattle.mc_journal.specs.Ranges.{Range, Span, in_span}
use Rattle.mc_journal.specs.Readings.{selected}
use Rattle.mc_journal.specs.Stands.{stand}
use Rattle.mc_journal.specs.Views.{head, next, next_in as next_held, from_place}
use Rattle.mc_journal.specs.Used.{is_still}
use Rattle.mc_queue.specs.Queue.{QueueState}
use Rattle.mc_range.specs.Range.{RangeState, queue_of}
use Rattle.mc_calls.specs.declared.waiting.Target.{Target}
use Rattle.mc_calls.specs.declared.waiting.Switch.{Switch}
use Rattle.mc_calls.specs.declared.waiting.Failure.{Failure}
use Rattle.mc_calls.specs.State.{next_in, head_of}
use Rattle.mc_calls.specs.Readings.{past, with_head}
use Rattle.mc_calls.specs.Film.{Fits, PlacesAre}
use Rattle.mc_calls.proofs.Nexts.{next-is}
use Rattle.mc_calls.proofs.Quiet.{tidy, is_selected}

-- ---- the packet is of the track

all_of : (track : ℕ) (ps : List Packet) → AllByRecursion (λ p. p.track ≡ track) (track_of track ps)
all_of track [] = tt
all_of track (p ∷ ps) = elim (cases_Bool (p.track == track)) [ inl y ↦ rw y (eqb-true p.track track y, all_of track ps) | inr n ↦ rw n (all_of track ps) ]

kept_all : (P : Packet → Type 0) (test : Packet → Bool) (ps : List Packet) → AllByRecursion P ps → AllByRecursion P (filter test ps)
kept_all P test [] h = tt
kept_all P test (p ∷ ps) h = elim (cases_Bool (test p)) [ inl y ↦ rw y (h.0, kept_all P test ps h.1) | inr n ↦ rw n (kept_all P test ps h.1) ]

span_all : (P : Packet → Type 0) (s : Option Span) (ps : List Packet) → AllByRecursion P ps → AllByRecursion P (in_span s ps)
span_all P None ps h = tt
span_all P (Some s) ps h = kept_all P (λ p. nat_le s.from (at p) && nat_lt (at p) s.to) ps h

first_all : (P : Packet → Type 0) (ps : List Packet) (p : Packet) → AllByRecursion P ps → first ps ≡ Some p → P p
first_all P [] p h e = absurd (cc)
first_all P (q ∷ ps) p h e = let same : q ≡ p = cc in subst P same h.0

next_track : (ps : List Packet) (track n : ℕ) (o : Option Range) (p : Packet) → next_held ps track n o ≡ Some p → p.track ≡ track
next_track ps track n None p e = absurd (cc)
next_track ps track n (Some r) p e =
    let P : Packet → Type 0 = λ q. q.track ≡ track in
    let all : AllByRecursion P (from_place n (in_span (r.spans track) (track_of track ps))) =
    kept_all P (λ q. nat_le n (at q)) (in_span (r.spans track) (track_of track ps)) (span_all P (r.spans track) (track_of track ps) (all_of track ps)) in
    first_all P (from_place n (in_span (r.spans track) (track_of track ps))) p all e

-- ---- the heads

pub rank-past : (p : Pos) → rank (past p) ≡ rank p + 1
unfolding rank
rank-past p = elim (cases_Bool (p.lane == 65535)) [
  | inl y ↦ let e : p.lane ≡ 65535 = eqb-true p.lane 65535 y in rw y (omega arith)
  | inr n ↦ rw n (omega arith)
]

not_other : (o : Option ℕ) (k j : ℕ) → is_track o k ≡ true → (k == j) ≡ false → is_track o j ≡ false
not_other None k j h n = absurd (cc)
not_other (Some i) k j h n = subst (λ x. (x == j) ≡ false) (sym (eqb-true i k h)) n

pub moved_same : (set : Choice) (heads : Heads) (k : ℕ) (place : Pos) → has set k ≡ true → head_of set (with_head set k place heads) k ≡ Some place
moved_same set heads k place has_k = elim (cases_Bool (is_track set.video k)) [
  | inl v ↦ rw v refl
  | inr nv ↦ elim (cases_Bool (is_track set.audio k)) [
    | inl a ↦ rw (nv, a) refl
    | inr na ↦ let b : is_track set.sub k ≡ true = rw (nv, na) at has_k in rw (nv, na, b) refl
  ]
]

pub moved_other : (set : Choice) (heads : Heads) (k j : ℕ) (place : Pos) → (k == j) ≡ false → head_of set (with_head set k place heads) j ≡ head_of set heads j
moved_other set heads k j place n = elim (cases_Bool (is_track set.video k)) [
  | inl v ↦ let o = not_other set.video k j v n in rw (v, o) refl
  | inr nv ↦ elim (cases_Bool (is_track set.audio k)) [
    | inl a ↦ let o = not_other set.audio k j a n in rw (nv, a, o) refl
    | inr na ↦ elim (cases_Bool (is_track set.sub k)) [
      | inl b ↦ let o = not_other set.sub k j b n in rw (nv, na, b, o) refl
      | inr nb ↦ rw (nv, na, nb) refl
    ]
  ]
]

place_one : (set : Choice) (heads : Heads) (track : ℕ) (pos : Pos) (n : ℕ → ℕ) (j : ℕ) (q : Option QueueState) → has set track ≡ true
    → IfSome q (λ q. IsSomeAnd (head_of set heads j) (λ p. rank p ≡ n j))
    → IfSome q (λ q. IsSomeAnd (head_of set (with_head set track (past pos) heads) j) (λ p. rank p ≡ (if track == j then rank pos + 1 else n j)))
place_one set heads track pos n j None sel h = tt
place_one set heads track pos n j (Some q) sel h = elim (cases_Bool (track == j)) [
  | inl y ↦
      let same : track ≡ j = eqb-true track j y in
      let here : head_of set (with_head set track (past pos) heads) j ≡ Some (past pos) =
      subst (λ i. head_of set (with_head set track (past pos) heads) i ≡ Some (past pos)) same (moved_same set heads track (past pos) sel) in
      subst (λ (o : Option Pos). IsSomeAnd o (λ p. rank p ≡ (if track == j then rank pos + 1 else n j))) (sym here) (rw y (rank-past pos))
  | inr o ↦
      let there : head_of set (with_head set track (past pos) heads) j ≡ head_of set heads j = moved_other set heads track j (past pos) o in
      subst (λ (x : Option Pos). IsSomeAnd x (λ p. rank p ≡ (if track == j then rank pos + 1 else n j))) (sym there) (rw o h)
]

places_one : (set : Choice) (heads : Heads) (track : ℕ) (pos : Pos) (n : ℕ → ℕ) (current : Option RangeState) → has set track ≡ true
    → IfSome current (PlacesAre set heads n)
    → IfSome current (PlacesAre set (with_head set track (past pos) heads) (λ j. if track == j then rank pos + 1 else n j))
places_one set heads track pos n None sel h = tt
places_one set heads track pos n (Some r) sel h = λ j. place_one set heads track pos n j (queue_of j r.queues) sel (h j)

-- ---- the step

-- the packet at the head is told as it is
is_told : (film : Film) (h : List DemuxRecord) (p : Packet) → next film.packets h p.track ≡ Some p
    → IsSomeAnd (next film.packets h p.track) (λ q. told q ≡ told p)
is_told film h p e = subst (λ (o : Option Packet). IsSomeAnd o (λ q. told q ≡ told p)) (sym e) refl

pub gave_step : (film : Film) (limits : Limits) (set : Choice) (current : Option RangeState) (others : List RangeState) (heads : Heads)
    (seeking : Option Target) (waiting : Choice) (switch : Switch) (failure : Option Failure) (ended : Choice) (h : List DemuxRecord) (by track : ℕ) (p : Packet)
    → Fits film limits set current others heads seeking waiting switch failure ended h → is_still film.packets h ≡ true
    → has set track ≡ true → next_in set heads track current ≡ Some p
    → Fits film limits set current others (with_head set track (past p.pos) heads) seeking waiting switch failure ended (gave_by by p ∷ h)
gave_step film limits set current others heads seeking waiting switch failure ended h by track p f still sel is =
    let here : next film.packets h track ≡ Some p =
    next-is film limits set current others heads seeking waiting switch failure ended h track f ∙ is in
    let same : p.track ≡ track = next_track film.packets track (head film.packets track h) (stand film.packets h).current p here in
    let chosen : has (selected h) p.track ≡ true =
    is_selected film limits set current others heads seeking waiting switch failure ended h p.track f (subst (λ k. has set k ≡ true) (sym same) sel) in
    let there : next film.packets h p.track ≡ Some p = subst (λ k. next film.packets h k ≡ Some p) (sym same) here in
    let moved : IfSome current (PlacesAre set (with_head set track (past p.pos) heads) (λ j. if p.track == j then rank p.pos + 1 else head film.packets j h)) =
    subst (λ k. IfSome current (PlacesAre set (with_head set track (past p.pos) heads) (λ j. if k == j then rank p.pos + 1 else head film.packets j h))) (sym same)
    (places_one set heads track p.pos (λ j. head film.packets j h) current sel f.places) in
    record {
      film_is = f.film_is;
      used = (((chosen, is_told film h p there), still, tt), f.used);
      set_is = f.set_is;
      current_is = f.current_is;
      others_are = tidy film.packets h ∙ f.others_are;
      held = f.held;
      all_held = f.all_held;
      places = moved;
      seeks = f.seeks;
      target_is = f.target_is;
      sought_at = f.sought_at;
      waits_are = f.waits_are;
      added_at = f.added_at;
      failure_is = f.failure_is;
      ended_are = f.ended_are;
    }
