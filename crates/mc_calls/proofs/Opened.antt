-- A new demuxer stands for every film of its tracks.
use Rattle.std.proofs.Common.{◌≡◌, ℕ, ◌+◌, Bool, true, false, ◌&&◌, Option, Some, None, List, [], ◌∷◌, length, refl, ap, sym, subst, ◌∙◌, inl, inr, arith, take}
use Rattle.std.specs.Prelude.{if◌then◌else◌, is_some, IfSome, IsSomeAnd, reverse, pos}
use Rattle.std.specs.List.{AllByRecursion}
use Rattle.std.specs.Option.{option_map}
use Rattle.std.proofs.lemmas.Bool.{cases_Bool, and_parts}
use mathlib.Core.Path.{fun_ext}
use Rattle.mc_packet.specs.declared.packet.Pos.{Pos}
use Rattle.mc_packet.specs.declared.choice.Choice.{Choice}
use Rattle.mc_packet.specs.declared.choice.Kind.{Kind}
use Rattle.mc_packet.specs.declared.choice.Kind.TheVariants.{Video, Audio, Sub}
use Rattle.mc_packet.specs.declared.choice.Starts.{Starts}
use Rattle.mc_packet.specs.declared.cache.Heads.{Heads}
use Rattle.mc_packet.specs.declared.cache.Limits.{Limits}
use Rattle.mc_tracks.specs.declared.track.Track.{Track}
use Rattle.mc_journal.specs.declared.record.DemuxRecord.{DemuxRecord}
use Rattle.mc_journal.specs.declared.record.DemuxRecord.TheVariants.{Opened}
use Rattle.mc_journal.specs.declared.record.Removal.{Removal}
use Rattle.mc_packet.specs.Choices.{has, is_distinct, is_known, is_track, nothing, passes, AtMark}
use Rattle.mc_journal.specs.Films.{Film, first_lane, rank}
use Rattle.mc_journal.specs.Ranges.{Range, Span}
use Rattle.mc_journal.specs.Readings.{waits}
use Rattle.mc_journal.specs.Stands.{empty_span, span_given}
use Rattle.mc_journal.specs.Used.{is_still}
use Rattle.mc_journal.specs.Views.{was_ended}
use Rattle.mc_queue.specs.Queue.{QueueState}
use Rattle.mc_range.specs.Range.{RangeState, IsBegun, IsRange, as_range, queue_of, span_of, spans_of}
use Rattle.mc_range.proofs.Chosen.{begun_film, begun_ranges, start_map}
use Rattle.mc_cache.specs.Cache.{CacheState, IsCache, in_front, left_with, ranges_of, weight_of}
use Rattle.mc_cache.specs.Changing.{IsNew, IsStarted}
use Rattle.mc_cache.proofs.Started.{begun_light}
use Rattle.mc_calls.specs.declared.waiting.Switch.{Switch}
use Rattle.mc_calls.specs.State.{DemuxState, head_of}
use Rattle.mc_calls.specs.Demuxers.{AreAwaited, AreLimits, IsDemux, IsPlaced}
use Rattle.mc_calls.specs.Film.{Fits, StandsFor}
use Rattle.mc_calls.specs.Opening.{HasTracks, MayOpen, first_starts, no_heads}
use Rattle.mc_calls.specs.Outcomes.{head_at, heads_at}
use Rattle.mc_tracks.specs.Selection.{knows}
use Rattle.mc_calls.proofs.Awaited.{none_await}
use Rattle.mc_calls.proofs.Places.{if_queue, queue_selected}
use Rattle.mc_calls.proofs.Seeking.{none_of, not_nothing}
use Rattle.mc_calls.proofs.Recalled.{made_tied}

-- ---- the cache

first_at : (o : Option ℕ) → AtMark 0 (option_map (λ track. 0) o)
first_at None = tt
first_at (Some n) = omega arith

pub video_at : (set : Choice) (starts : Starts) → starts ≡ first_starts set → AtMark starts.mark.pos starts.video
video_at set starts e = subst (λ (s : Starts). AtMark s.mark.pos s.video) (sym e) (first_at set.video)

pub audio_at : (set : Choice) (starts : Starts) → starts ≡ first_starts set → AtMark starts.mark.pos starts.audio
audio_at set starts e = subst (λ (s : Starts). AtMark s.mark.pos s.audio) (sym e) (first_at set.audio)

pub sub_at : (set : Choice) (starts : Starts) → starts ≡ first_starts set → AtMark starts.mark.pos starts.sub
sub_at set starts e = subst (λ (s : Starts). AtMark s.mark.pos s.sub) (sym e) (first_at set.sub)

pub begins_there : (set : Choice) (starts : Starts) (drops : List Removal) (old new : CacheState) → starts ≡ first_starts set → IsStarted set starts drops old new
    → IsSomeAnd new.current (IsBegun set (first_starts set))
begins_there set starts drops old new e s = subst (λ (x : Starts). IsSomeAnd new.current (IsBegun set x)) e s.current

pub none_beside : (set : Choice) (limits : Limits) (starts : Starts) (drops : List Removal) (old new : CacheState) → IsNew limits old → IsStarted set starts drops old new → new.others ≡ []
none_beside set limits starts drops old new n s =
    s.others_is ∙ ap (λ (o : Option RangeState). take 9 (left_with o old.others)) n.no_current ∙ ap (λ (rs : List RangeState). take 9 rs) n.no_others

-- ---- its one range, over a film's list

-- the start of a selected track is the film's beginning
first_span : (o : Option ℕ) (k : ℕ) → is_track o k ≡ true → option_map (λ b. empty_span (first_lane b)) (option_map (λ track. 0) o) ≡ Some (empty_span 0)
unfolding first_lane
first_span None k e = absurd (cc)
first_span (Some n) k e = refl

span_first : (set : Choice) (k : ℕ) → span_given set (first_starts set) k ≡ (if has set k then Some (empty_span 0) else None)
span_first set k = start_map set (first_starts set) k ∙ elim (cases_Bool (is_track set.video k)) [
  | inl y ↦ rw y (first_span set.video k y)
  | inr nv ↦ elim (cases_Bool (is_track set.audio k)) [
    | inl y ↦ rw (nv, y) (first_span set.audio k y)
    | inr na ↦ elim (cases_Bool (is_track set.sub k)) [
      | inl y ↦ rw (nv, na, y) (first_span set.sub k y)
      | inr nb ↦ rw (nv, na, nb) refl
    ]
  ]
]

first_range : (set : Choice) (r : RangeState) → is_distinct set ≡ true → IsBegun set (first_starts set) r
    → as_range r ≡ record { spans = λ track. if has set track then Some (empty_span 0) else None; mark = 0; ending = None }
first_range set r d b =
    begun_ranges set (first_starts set) r d b
    ∙ ap (λ (f : ℕ → Option Span). let x : Range = record { spans = f; mark = 0; ending = None } in x) (fun_ext (λ k. span_first set k))

some_span : (o : Option QueueState) → is_some (option_map span_of o) ≡ is_some o
some_span None = refl
some_span (Some q) = refl

first_queue : (set : Choice) (r : RangeState) (k : ℕ) → is_distinct set ≡ true → IsBegun set (first_starts set) r → has set k ≡ true → is_some (queue_of k r.queues) ≡ true
first_queue set r k d b e =
    let one : is_some (spans_of r.queues k) ≡ is_some (span_given set (first_starts set) k) = ap (λ (x : Range). is_some (x.spans k)) (begun_ranges set (first_starts set) r d b) in
    let two : is_some (span_given set (first_starts set) k) ≡ true = ap (λ (o : Option Span). is_some o) (span_first set k) ∙ rw e refl in
    sym (some_span (queue_of k r.queues)) ∙ one ∙ two

-- ---- its heads

first_head : (o : Option ℕ) (k : ℕ) → is_track o k ≡ true → IsSomeAnd (head_at (option_map (λ track. 0) o) None) (λ p. rank p ≡ 0)
unfolding rank
first_head None k e = absurd (cc)
first_head (Some n) k e = refl

first_place : (set : Choice) (k : ℕ) → has set k ≡ true → IsSomeAnd (head_of set (heads_at (first_starts set) no_heads) k) (λ p. rank p ≡ 0)
first_place set k e = elim (cases_Bool (is_track set.video k)) [
  | inl y ↦ rw y (first_head set.video k y)
  | inr nv ↦ elim (cases_Bool (is_track set.audio k)) [
    | inl y ↦ rw (nv, y) (first_head set.audio k y)
    | inr na ↦ let y : is_track set.sub k ≡ true = rw (nv, na) at e in rw (nv, na, y) (first_head set.sub k y)
  ]
]

some_place : (o : Option Pos) → IsSomeAnd o (λ p. rank p ≡ 0) → is_some o ≡ true
some_place None h = absurd h
some_place (Some p) h = refl

own_track : (r : RangeState) (set : Choice) (k : ℕ) → IsRange r → r.set ≡ set → is_some (queue_of k r.queues) ≡ true → has set k ≡ true
own_track r set k i e q = subst (λ (c : Choice). has c k ≡ true) e (queue_selected r k i q)

-- ---- it is a demuxer

-- the one range of the cache
record Begins (set : Choice) (c : CacheState) (r : RangeState) : Type 0 where
  current_is : c.current ≡ Some r
  begun : IsBegun set (first_starts set) r
  range : IsRange r
  all : ranges_of c ≡ r ∷ []

one_range : (set : Choice) (c : CacheState) (o : Option RangeState) → c.current ≡ o → IsSomeAnd o (IsBegun set (first_starts set)) → c.others ≡ [] → IfSome o IsRange → (r : RangeState) × Begins set c r
one_range set c None e b n i = absurd b
one_range set c (Some r) e b n i =
    (r, record { current_is = e; begun = b; range = i; all = ap (λ (o : Option RangeState). in_front o c.others) e ∙ ap (λ (rs : List RangeState). in_front (Some r) rs) n })

placed_first : (set : Choice) (r : RangeState) → is_distinct set ≡ true → IsRange r → IsBegun set (first_starts set) r → IsPlaced set (heads_at (first_starts set) no_heads) nothing None (Some r)
placed_first set r d i b = (
  record { blank = λ k w. absurd (cc); queued = λ k s w. first_queue set r k d b s },
  λ k q. some_place (head_of set (heads_at (first_starts set) no_heads) k) (first_place set k (own_track r set k i b.set_is q)),
)

pub set_distinct : (known : Kind → ℕ → Bool) (set : Choice) → is_known known set ≡ true → is_distinct set ≡ true
set_distinct known set k =
    let one = and_parts (passes set.video (known Video)) (passes set.audio (known Audio) && (passes set.sub (known Sub) && is_distinct set)) k in
    let two = and_parts (passes set.audio (known Audio)) (passes set.sub (known Sub) && is_distinct set) one.1 in
    (and_parts (passes set.sub (known Sub)) (is_distinct set) two.1).1

-- what a new demuxer is made of
pub record IsMade (list : List Track) (set : Choice) (limits : Limits) (c : CacheState) (heads : Heads) (none ended : Choice) (journal : List DemuxRecord) : Type 0 where
  pub may : MayOpen list set limits
  pub cache : IsCache c
  pub limits_are : c.limits ≡ limits
  pub current : IsSomeAnd c.current (IsBegun set (first_starts set))
  pub no_others : c.others ≡ []
  pub heads_are : heads ≡ heads_at (first_starts set) no_heads
  pub none_wait : none ≡ nothing
  pub none_ended : ended ≡ nothing
  pub told : journal ≡ Opened 0 set ∷ []

abbrev pub made : List Track → CacheState → Choice → Heads → Choice → Choice → List DemuxRecord → ℕ → DemuxState
made list c set heads none ended journal spare = record {
  list = list;
  cache = c;
  set = set;
  heads = heads;
  seeking = None;
  waiting = none;
  switch = record { lead = None; at = pos 0 };
  failure = None;
  ended = ended;
  number = 1;
  kept = None;
  fed = false;
  journal = journal;
  spare = spare;
}

pub made_is : (list : List Track) (set : Choice) (limits : Limits) (c : CacheState) (heads : Heads) (none ended : Choice) (journal : List DemuxRecord) (spare : ℕ)
    → IsMade list set limits c heads none ended journal → IsDemux (made list c set heads none ended journal spare)
made_is list set limits c heads none ended journal spare m =
    let dist = set_distinct (knows list) set m.may.known in
    let one = one_range set c c.current refl m.current m.no_others m.cache.current in
    let r = one.0 in
    let b = one.1 in
    let light : weight_of (ranges_of c) ≡ 0 = ap (λ (rs : List RangeState). weight_of rs) b.all ∙ ap (λ n. n + 0) (begun_light set (first_starts set) r b.begun) in
    let long : length journal ≡ 1 = ap (λ (l : List DemuxRecord). length l) m.told in
    record {
      cache = m.cache;
      limits = subst (λ (l : Limits). AreLimits l) (sym m.limits_are) m.may.limits_are;
      distinct = dist;
      known = m.may.known;
      sets = subst (λ (rs : List RangeState). AllByRecursion (λ x. x.set ≡ set) rs) (sym b.all) (b.begun.set_is, tt);
      placed =
          subst (λ (o : Option RangeState). IsPlaced set heads none None o) (sym b.current_is)
          (subst (λ (h : Heads). IsPlaced set h none None (Some r)) (sym m.heads_are)
          (subst (λ (w : Choice). IsPlaced set (heads_at (first_starts set) no_heads) w None (Some r)) (sym m.none_wait) (placed_first set r dist b.range b.begun)));
      waits = subst (λ (w : Choice). AreAwaited set w c.others) (sym m.none_wait) (none_await set c.others);
      numbered = omega arith;
      kept = tt;
      within = omega arith;
      weight = omega arith;
    }

-- ---- it stands for each film of its tracks

known_is : (list : List Track) (film : Film) → HasTracks list film → film.known ≡ knows list
known_is list film h = fun_ext (λ kind. fun_ext (λ track. h.known kind track))

made_fits : (film : Film) (list : List Track) (set : Choice) (limits : Limits) (r : RangeState) → HasTracks list film → is_known (knows list) set ≡ true → IsRange r → IsBegun set (first_starts set) r
    → Fits film limits set (Some r) [] (heads_at (first_starts set) no_heads) None nothing (record { lead = None; at = pos 0 }) None nothing (Opened 0 set ∷ [])
made_fits film list set limits r h k i b =
    let dist = set_distinct (knows list) set k in
    let known : is_known film.known set ≡ true = ap (λ (f : Kind → ℕ → Bool). is_known f set) (known_is list film h) ∙ k in
    record {
      film_is = h.film_is;
      used = (((refl, known), refl, tt), tt);
      set_is = refl;
      current_is = ap (λ (x : Range). Some x) (sym (first_range set r dist b));
      others_are = refl;
      held = begun_film film.packets set (first_starts set) r b;
      all_held = tt;
      places = λ k. if_queue (queue_of k r.queues) (IsSomeAnd (head_of set (heads_at (first_starts set) no_heads) k) (λ p. rank p ≡ 0)) (λ q. first_place set k (own_track r set k i b.set_is q));
      seeks = refl;
      target_is = tt;
      sought_at = tt;
      waits_are = sym (none_of set (λ track. waits track (Opened 0 set ∷ [])) (λ k e. refl));
      added_at = λ track e. not_nothing track e;
      failure_is = refl;
      ended_are = sym (none_of set (was_ended (Opened 0 set ∷ [])) (λ k e. refl));
    }

pub made_stands : (list : List Track) (set : Choice) (limits : Limits) (c : CacheState) (heads : Heads) (none ended : Choice) (journal : List DemuxRecord) (spare : ℕ)
    → IsMade list set limits c heads none ended journal → (film : Film) → HasTracks list film → StandsFor film (made list c set heads none ended journal spare)
made_stands list set limits c heads none ended journal spare m film h =
    let one = one_range set c c.current refl m.current m.no_others m.cache.current in
    let r = one.0 in
    let b = one.1 in
    let switch : Switch = record { lead = None; at = pos 0 } in
    let told : Opened 0 set ∷ [] ≡ reverse journal = sym (ap (λ (j : List DemuxRecord). reverse j) m.told) in
    let fits = made_fits film list set c.limits r h m.may.known b.range b.begun in
    record {
      fits =
          subst (λ (x : List DemuxRecord). Fits film c.limits set c.current c.others heads None none switch None ended x) told
          (subst (λ (e : Choice). Fits film c.limits set c.current c.others heads None none switch None e (Opened 0 set ∷ [])) (sym m.none_ended)
          (subst (λ (w : Choice). Fits film c.limits set c.current c.others heads None w switch None nothing (Opened 0 set ∷ [])) (sym m.none_wait)
          (subst (λ (x : Heads). Fits film c.limits set c.current c.others x None nothing switch None nothing (Opened 0 set ∷ [])) (sym m.heads_are)
          (subst (λ (o : Option RangeState). Fits film c.limits set o c.others (heads_at (first_starts set) no_heads) None nothing switch None nothing (Opened 0 set ∷ [])) (sym b.current_is)
          (subst (λ (rs : List RangeState). Fits film c.limits set (Some r) rs (heads_at (first_starts set) no_heads) None nothing switch None nothing (Opened 0 set ∷ [])) (sym m.no_others) fits)))));
      still = subst (λ (x : List DemuxRecord). is_still film.packets x ≡ true) told refl;
      tied = made_tied c journal set r b.all b.begun.mark_is m.told;
      known = h.known;
    }
