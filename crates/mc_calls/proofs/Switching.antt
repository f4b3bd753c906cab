-- A selection and the drops that it tells leave a demuxer that fits the film.
use Rattle.std.proofs.Common.{◌≡◌, ℕ, ℤ, Bool, true, false, ◌&&◌, ◌||◌, not, Option, Some, None, List, [], ◌∷◌, refl, ap, sym, subst, ◌∙◌}
use Rattle.std.specs.Prelude.{map, if◌then◌else◌, IfSome}
use Rattle.std.specs.List.{AllByRecursion, filter}
use Rattle.std.specs.Bool.{MatchBool}
use Rattle.std.specs.Option.{option_map, option_map_or}
use Rattle.mc_packet.specs.declared.packet.Pos.{Pos}
use Rattle.mc_packet.specs.declared.choice.Choice.{Choice}
use Rattle.mc_packet.specs.declared.cache.Heads.{Heads}
use Rattle.mc_packet.specs.declared.cache.Limits.{Limits}
use Rattle.mc_journal.specs.declared.record.Cause.{Cause}
use Rattle.mc_journal.specs.declared.record.Cause.TheVariants.{TrackChanged}
use Rattle.mc_journal.specs.declared.record.Removal.{Removal}
use Rattle.mc_journal.specs.declared.record.Sought.TheVariants.{Sent}
use Rattle.mc_journal.specs.declared.record.DemuxRecord.{DemuxRecord}
use Rattle.mc_journal.specs.declared.record.DemuxRecord.TheVariants.{Dropped, Sought, Switched}
use Rattle.mc_packet.specs.declared.packet.Packet.{Packet}
use Rattle.mc_packet.specs.Choices.{has, is_empty, is_known, lead_of, nothing}
use Rattle.mc_journal.specs.Choices.{kept_of, kept_track}
use Rattle.mc_journal.specs.Films.{Film, rank}
use Rattle.mc_journal.specs.Ranges.{Range}
use Rattle.mc_journal.specs.Readings.{selected, follows, target, direction, switcher, pending, waits}
use Rattle.mc_journal.specs.Stands.{stand, holds_any, switched}
use Rattle.mc_journal.specs.Views.{head, was_ended}
use Rattle.mc_journal.specs.Allowed.{added_by, how_by, is_added, is_served, joinable}
use Rattle.mc_journal.specs.Used.{Due, IsDue, are_told, due, is_begun, is_still, joins_now, is_too_many, onto}
use Rattle.mc_range.specs.Range.{RangeState, as_range}
use Rattle.mc_range.specs.Serving.{HoldsFilm}
use Rattle.mc_cache.specs.Placed.{due_of}
use Rattle.mc_cache.proofs.FilmTold.{told_next}
use Rattle.mc_calls.specs.declared.waiting.Target.{Target}
use Rattle.mc_calls.specs.declared.waiting.Switch.{Switch}
use Rattle.mc_calls.specs.declared.waiting.Failure.{Failure}
use Rattle.mc_calls.specs.Film.{Fits, PlacesAre}
use Rattle.mc_calls.specs.Selecting.{told_drops}
use Rattle.mc_calls.proofs.Kept.{has_kept}
use Rattle.mc_calls.proofs.Quiet.{tidy}
use Rattle.mc_calls.proofs.Seeking.{has_video, has_audio, has_sub, none_of, not_nothing}

-- ---- the tracks that wait

same_kept : (p q : ℕ → Bool) (o : Option ℕ) → ((k : ℕ) → o ≡ Some k → p k ≡ q k) → kept_track p o ≡ kept_track q o
same_kept p q None f = refl
same_kept p q (Some k) f = let e = f k refl in rw e refl

pub kept_same : (set : Choice) (p q : ℕ → Bool) → ((k : ℕ) → has set k ≡ true → p k ≡ q k) → kept_of set p ≡ kept_of set q
kept_same set p q f =
    let v = same_kept p q set.video (λ k e. f k (has_video set k e)) in
    let a = same_kept p q set.audio (λ k e. f k (has_audio set k e)) in
    let s = same_kept p q set.sub (λ k e. f k (has_sub set k e)) in
    ap (λ (x : Option ℕ). let c : Choice = record { video = x; audio = kept_track p set.audio; sub = kept_track p set.sub } in c) v
    ∙ ap (λ (x : Option ℕ). let c : Choice = record { video = kept_track q set.video; audio = x; sub = kept_track p set.sub } in c) a
    ∙ ap (λ (x : Option ℕ). let c : Choice = record { video = kept_track q set.video; audio = kept_track q set.audio; sub = x } in c) s

own_test : (s w : Bool) → (not s || w) ≡ (if (not s || w) then true else w)
own_test true true = refl
own_test true false = refl
own_test false w = refl

only_new : (s w : Bool) → (not s || (s && w)) ≡ (not s || w)
only_new true w = refl
only_new false w = refl

-- they are those that were added, and those that waited before are among them
waits_added : (h : List DemuxRecord) (next added : Choice) → added ≡ added_by h next → added ≡ kept_of next (λ k. if has added k then true else waits k h)
waits_added h next added e =
    e ∙ kept_same next (is_added h) (λ k. if has added k then true else waits k h)
    (λ k y.
    let same : has added k ≡ is_added h k = ap (λ (c : Choice). has c k) e ∙ has_kept next (is_added h) k ∙ ap (λ b. b && is_added h k) y in
    own_test (has (selected h) k) (waits k h) ∙ ap (λ b. if b then true else waits k h) (sym same))

pub added_same : (h : List DemuxRecord) (set waiting next : Choice) → selected h ≡ set → waiting ≡ kept_of set (λ k. waits k h)
    → kept_of next (λ k. not (has set k) || has waiting k) ≡ added_by h next
added_same h set waiting next e w =
    kept_same next (λ k. not (has set k) || has waiting k) (is_added h)
    (λ k y.
    ap (λ (c : Choice). not (has set k) || has c k) w
    ∙ ap (λ b. not (has set k) || b) (has_kept set (λ j. waits j h) k)
    ∙ only_new (has set k) (waits k h)
    ∙ ap (λ (c : Choice). not (has c k) || waits k h) (sym e))

-- ---- its own record, where no seek is pending

pub switched_step : (film : Film) (limits : Limits) (set next : Choice) (current : Option RangeState) (others : List RangeState) (heads : Heads)
    (waiting : Choice) (switch : Switch) (failure : Option Failure) (ended : Choice) (h : List DemuxRecord) (by : ℕ) (at : ℤ) (added : Choice) (current' : Option RangeState)
    → Fits film limits set current others heads None waiting switch failure ended h → is_still film.packets h ≡ true
    → is_known film.known next ≡ true → added ≡ added_by h next → (next ≡ set → ⊥)
    → (switched next (stand film.packets h)).current ≡ option_map as_range current'
    → IfSome current' (HoldsFilm film.packets) → IfSome current' (PlacesAre next heads (λ track. head film.packets track h))
    → Fits film limits next current' [] heads None added (record { lead = lead_of next; at = at }) None nothing (Switched by next added at ∷ h)
switched_step film limits set next current others heads waiting switch failure ended h by at added current' f still known e other is held places = record {
  film_is = f.film_is;
  used = (((known, e, λ same. other (same ∙ f.set_is)), still, tt), f.used);
  set_is = refl;
  current_is = is;
  others_are = refl;
  held = held;
  all_held = tt;
  places = places;
  seeks = f.seeks;
  target_is = tt;
  sought_at = tt;
  waits_are = waits_added h next added e;
  added_at = λ track y. rw y refl;
  failure_is = refl;
  ended_are = sym (none_of next (was_ended (Switched by next added at ∷ h)) (λ k y. refl));
}

-- ---- and a pending seek again

or_left : (a b : Bool) → a ≡ true → (a || b) ≡ true
or_left true b e = refl
or_left false b e = absurd (cc)

none_left : (ps : List Packet) (next : Choice) (f : Range → Range) (b : Bool) (o : Option Range) → o ≡ None
    → filter (holds_any ps next) (option_map_or (λ r. r ∷ []) (if b then None else option_map f o) []) ≡ []
none_left ps next f b o e = rw e (by b)
  where
    by : (b : Bool) → filter (holds_any ps next) (option_map_or (λ r. r ∷ []) (if b then None else option_map f None) []) ≡ []
    by true = refl
    by false = refl

pub resent_step : (film : Film) (limits : Limits) (set next : Choice) (current : Option RangeState) (others : List RangeState) (heads : Heads) (s : Target)
    (waiting : Choice) (switch : Switch) (failure : Option Failure) (ended : Choice) (h : List DemuxRecord) (by : ℕ) (at : ℤ) (added : Choice)
    → Fits film limits set current others heads (Some s) waiting switch failure ended h → is_still film.packets h ≡ true
    → is_known film.known next ≡ true → added ≡ added_by h next → (next ≡ set → ⊥) → current ≡ None
    → Fits film limits next None [] heads (Some s) nothing (record { lead = lead_of next; at = at }) None nothing (Sought by next s.t s.dir Sent ∷ Switched by next added at ∷ h)
resent_step film limits set next current others heads s waiting switch failure ended h by at added f still known e other none =
    let late : pending h ≡ true = f.seeks in
    let gone : (stand film.packets h).current ≡ None = f.current_is ∙ ap (λ (o : Option RangeState). option_map as_range o) none in
    let again : MatchBool (pending h) ((Sent ≡ Sent) × (target h ≡ Some s.t) × (s.dir ≡ direction h) × (switcher (Switched by next added at ∷ h) ≡ Some by))
    ((is_empty next ≡ false) × (Sent ≡ how_by (is_served film.packets (Switched by next added at ∷ h) next s.dir s.t))) =
    subst (λ b. MatchBool b ((Sent ≡ Sent) × (target h ≡ Some s.t) × (s.dir ≡ direction h) × (switcher (Switched by next added at ∷ h) ≡ Some by))
    ((is_empty next ≡ false) × (Sent ≡ how_by (is_served film.packets (Switched by next added at ∷ h) next s.dir s.t)))) (sym late)
    (refl, f.target_is.0, sym f.target_is.1, refl) in
    record {
      film_is = f.film_is;
      used = (((refl, again), or_left (pending h) _ late, tt), (((known, e, λ same. other (same ∙ f.set_is)), still, tt), f.used));
      set_is = refl;
      current_is = refl;
      others_are = none_left film.packets next _ (is_empty next) (stand film.packets h).current gone;
      held = tt;
      all_held = tt;
      places = tt;
      seeks = refl;
      target_is = (refl, refl);
      sought_at = λ track y. rw y refl;
      waits_are = sym (none_of next (λ track. waits track (Sought by next s.t s.dir Sent ∷ Switched by next added at ∷ h)) (λ k y. rw y refl));
      added_at = λ track y. not_nothing track y;
      failure_is = refl;
      ended_are = sym (none_of next (was_ended (Sought by next s.t s.dir Sent ∷ Switched by next added at ∷ h)) (λ k y. refl));
    }

-- ---- the drops that are due

-- nothing comes before these drops
pub record AreDue (ps : List Packet) (h : List DemuxRecord) (ms : List Removal) : Type 0 where
  pub begun : is_begun h ≡ true
  pub alone : follows h ≡ false
  pub joins : joins_now h ≡ false
  pub due_are : map due_of ms ≡ due ps h
  pub causes : AllByRecursion (λ m. m.cause ≡ TrackChanged) ms

changed_step : (film : Film) (limits : Limits) (set : Choice) (current : Option RangeState) (heads : Heads)
    (seeking : Option Target) (waiting : Choice) (switch : Switch) (failure : Option Failure) (ended : Choice) (h : List DemuxRecord) (by track : ℕ) (from to : Pos)
    → Fits film limits set current [] heads seeking waiting switch failure ended h → follows h ≡ false → IsDue (due film.packets h) track (rank from) (rank to) TrackChanged
    → Fits film limits set current [] heads seeking waiting switch failure ended (Dropped by (record { track = track; from = from; to = to; cause = TrackChanged }) ∷ h)
changed_step film limits set current heads seeking waiting switch failure ended h by track from to f alone d =
    let turn : not (follows h) ≡ true = rw alone refl in
    record {
      film_is = f.film_is;
      used = ((tt, turn, d), f.used);
      set_is = f.set_is;
      current_is = f.current_is;
      others_are = tidy film.packets h ∙ f.others_are;
      held = f.held;
      all_held = f.all_held;
      places = f.places;
      seeks = f.seeks;
      target_is = f.target_is;
      sought_at = f.sought_at;
      waits_are = f.waits_are;
      added_at = f.added_at;
      failure_is = f.failure_is;
      ended_are = f.ended_are;
    }

and_off : (a b : Bool) → b ≡ false → (a && b) ≡ false
and_off true b e = e
and_off false b e = refl

still_then : (a b c d e : Bool) → a ≡ true → b ≡ false → c ≡ true → d ≡ false → (a && (not b && (c && not (d && e)))) ≡ true
still_then a b c d e f g h i = rw (f, g, h, i) refl

pub record IsDone (film : Film) (limits : Limits) (set : Choice) (current : Option RangeState) (heads : Heads)
    (seeking : Option Target) (waiting : Choice) (switch : Switch) (failure : Option Failure) (ended : Choice) (h : List DemuxRecord) : Type 0 where
  pub fits : Fits film limits set current [] heads seeking waiting switch failure ended h
  pub still : is_still film.packets h ≡ true

pub drops_step : (film : Film) (limits : Limits) (set : Choice) (current : Option RangeState) (heads : Heads)
    (seeking : Option Target) (waiting : Choice) (switch : Switch) (failure : Option Failure) (ended : Choice) (h : List DemuxRecord) (by : ℕ) (ms : List Removal)
    → Fits film limits set current [] heads seeking waiting switch failure ended h → AreDue film.packets h ms
    → IsDone film limits set current heads seeking waiting switch failure ended (onto (told_drops by ms) h)
drops_step film limits set current heads seeking waiting switch failure ended h by [] f d = record {
  fits = f;
  still = still_then (is_begun h) (follows h) (are_told (due film.packets h)) (joins_now h) (joinable film.packets h)
      d.begun d.alone (subst (λ (ds : List Due). are_told ds ≡ true) d.due_are refl) d.joins;
}
drops_step film limits set current heads seeking waiting switch failure ended h by (m ∷ ms) f d =
    let next = told_next m ms (due film.packets h) d.due_are in
    let known : m ≡ record { track = m.track; from = m.from; to = m.to; cause = TrackChanged } =
    ap (λ (c : Cause). let x : Removal = record { track = m.track; from = m.from; to = m.to; cause = c } in x) d.causes.0 in
    let is : IsDue (due film.packets h) m.track (rank m.from) (rank m.to) TrackChanged =
    subst (λ (c : Cause). IsDue (due film.packets h) m.track (rank m.from) (rank m.to) c) d.causes.0 next.0 in
    let one = changed_step film limits set current heads seeking waiting switch failure ended h by m.track m.from m.to f d.alone is in
    let fits = subst (λ (x : Removal). Fits film limits set current [] heads seeking waiting switch failure ended (Dropped by x ∷ h)) (sym known) one in
    drops_step film limits set current heads seeking waiting switch failure ended (Dropped by m ∷ h) by ms fits (record {
      begun = refl;
      alone = refl;
      joins = and_off (is_too_many m.cause) (joins_now h) d.joins;
      due_are = next.1;
      causes = d.causes.1;
    })
