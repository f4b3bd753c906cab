-- A seek leaves a demuxer that stands for the film.
use Rattle.std.proofs.Common.{◌≡◌, ℕ, Bool, true, false, ◌&&◌, ◌||◌, Option, Some, None, List, ◌∷◌, refl, ap, sym, subst, ◌∙◌, inl, inr}
use Rattle.std.specs.Prelude.{map, not, IfSome, ℤ}
use Rattle.std.specs.List.{AllByRecursion}
use Rattle.std.specs.Bool.{MatchBool}
use Rattle.std.specs.Option.{option_map}
use Rattle.std.proofs.lemmas.Bool.{cases_Bool, eq-eqb, and_parts}
use Rattle.mc_packet.specs.declared.choice.Choice.{Choice}
use Rattle.mc_packet.specs.declared.choice.Dir.{Dir}
use Rattle.mc_packet.specs.declared.cache.Heads.{Heads}
use Rattle.mc_packet.specs.declared.cache.Limits.{Limits}
use Rattle.mc_journal.specs.declared.record.Sought.{Sought as How}
use Rattle.mc_journal.specs.declared.record.Sought.TheVariants.{Cached, Sent}
use Rattle.mc_journal.specs.declared.record.DemuxRecord.{DemuxRecord}
use Rattle.mc_journal.specs.declared.record.DemuxRecord.TheVariants.{Sought}
use Rattle.mc_packet.specs.declared.packet.Packet.{Packet}
use Rattle.mc_packet.specs.Choices.{has, is_track, is_empty, nothing}
use Rattle.mc_journal.specs.Choices.{kept_of, kept_track}
use Rattle.mc_journal.specs.Films.{Film}
use Rattle.mc_journal.specs.Readings.{selected, follows, target, direction, switcher, waits}
use Rattle.mc_journal.specs.Stands.{stand}
use Rattle.mc_journal.specs.Views.{head, was_ended}
use Rattle.mc_journal.specs.Allowed.{MaySeek, how_by, is_served, joinable}
use Rattle.mc_journal.specs.Used.{is_still, is_begun, are_told, due, joins_now}
use Rattle.mc_range.specs.Range.{RangeState, as_range}
use Rattle.mc_range.specs.Serving.{HoldsFilm}
use Rattle.mc_calls.specs.declared.waiting.Target.{Target}
use Rattle.mc_calls.specs.declared.waiting.Switch.{Switch}
use Rattle.mc_calls.specs.declared.waiting.Failure.{Failure}
use Rattle.mc_calls.specs.Film.{Fits, PlacesAre}

-- ---- at rest no seek is owed

pub no_follow : (ps : List Packet) (h : List DemuxRecord) → is_still ps h ≡ true → follows h ≡ false
no_follow ps h still =
    let one = and_parts (is_begun h) (not (follows h) && (are_told (due ps h) && not (joins_now h && joinable ps h))) still in
    let two = and_parts (not (follows h)) (are_told (due ps h) && not (joins_now h && joinable ps h)) one.1 in
    elim (cases_Bool (follows h)) [
      | inl y ↦ absurd (let bad : false ≡ true = rw y at two.0 in cc)
      | inr n ↦ n
    ]

-- ---- choices of which nothing stays

is_own : (o : Option ℕ) (k : ℕ) → o ≡ Some k → is_track o k ≡ true
is_own o k e = subst (λ (x : Option ℕ). is_track x k ≡ true) (sym e) (eq-eqb k k refl)

pub has_video : (set : Choice) (k : ℕ) → set.video ≡ Some k → has set k ≡ true
has_video set k e = let y = is_own set.video k e in rw y refl

pub has_audio : (set : Choice) (k : ℕ) → set.audio ≡ Some k → has set k ≡ true
has_audio set k e = let y = is_own set.audio k e in elim (cases_Bool (is_track set.video k)) [ inl v ↦ rw v refl | inr n ↦ rw (n, y) refl ]

pub has_sub : (set : Choice) (k : ℕ) → set.sub ≡ Some k → has set k ≡ true
has_sub set k e =
    let y = is_own set.sub k e in
    elim (cases_Bool (is_track set.video k)) [
      | inl v ↦ rw v refl
      | inr n ↦ elim (cases_Bool (is_track set.audio k)) [ inl a ↦ rw (n, a) refl | inr m ↦ rw (n, m, y) refl ]
    ]

none_kept : (test : ℕ → Bool) (o : Option ℕ) → ((k : ℕ) → o ≡ Some k → test k ≡ false) → kept_track test o ≡ None
none_kept test None f = refl
none_kept test (Some k) f = let e = f k refl in rw e refl

pub none_of : (set : Choice) (test : ℕ → Bool) → ((k : ℕ) → has set k ≡ true → test k ≡ false) → kept_of set test ≡ nothing
none_of set test f =
    let v = none_kept test set.video (λ k e. f k (has_video set k e)) in
    let a = none_kept test set.audio (λ k e. f k (has_audio set k e)) in
    let b = none_kept test set.sub (λ k e. f k (has_sub set k e)) in
    ap (λ (x : Option ℕ). let c : Choice = record { video = x; audio = kept_track test set.audio; sub = kept_track test set.sub } in c) v
    ∙ ap (λ (x : Option ℕ). let c : Choice = record { video = None; audio = x; sub = kept_track test set.sub } in c) a
    ∙ ap (λ (x : Option ℕ). let c : Choice = record { video = None; audio = None; sub = x } in c) b

-- nothing is in no choice
pub not_nothing : {A : Type 0} (k : ℕ) → has nothing k ≡ true → A
not_nothing k e = absurd (cc)

-- ---- the record may come

may_seek : (ps : List Packet) (h : List DemuxRecord) (by : ℕ) (set : Choice) (t : ℤ) (dir : Dir) (how : How) → selected h ≡ set → follows h ≡ false
    → is_empty set ≡ false → how ≡ how_by (is_served ps h set dir t) → MaySeek ps h by set t dir how
may_seek ps h by set t dir how e off some is =
    (sym e, subst (λ b. MatchBool b ((how ≡ Sent) × (target h ≡ Some t) × (dir ≡ direction h) × (switcher h ≡ Some by)) ((is_empty set ≡ false) × (how ≡ how_by (is_served ps h set dir t)))) (sym off) (some, is))

or_right : (a b : Bool) → b ≡ true → (a || b) ≡ true
or_right true b e = refl
or_right false b e = e

in_turn : (ps : List Packet) (h : List DemuxRecord) → is_still ps h ≡ true → (follows h || is_still ps h) ≡ true
in_turn ps h still = or_right (follows h) (is_still ps h) still

-- ---- the step

-- what no range has to do with: the readings behind a seek
unwaited : (ps : List Packet) (h : List DemuxRecord) (by : ℕ) (set : Choice) (t : ℤ) (dir : Dir) (how : How)
    → nothing ≡ kept_of set (λ track. waits track (Sought by set t dir how ∷ h))
unwaited ps h by set t dir how = sym (none_of set (λ track. waits track (Sought by set t dir how ∷ h)) (λ k e. rw e refl))

unended : (h : List DemuxRecord) (by : ℕ) (set : Choice) (t : ℤ) (dir : Dir) (how : How) → nothing ≡ kept_of set (was_ended (Sought by set t dir how ∷ h))
unended h by set t dir how = sym (none_of set (was_ended (Sought by set t dir how ∷ h)) (λ k e. refl))

pub cached_step : (film : Film) (limits : Limits) (set : Choice) (current : Option RangeState) (others : List RangeState) (heads : Heads)
    (seeking : Option Target) (waiting : Choice) (switch : Switch) (failure : Option Failure) (ended : Choice) (h : List DemuxRecord) (by : ℕ) (t : ℤ) (dir : Dir)
    (current' : Option RangeState) (others' : List RangeState) (heads' : Heads)
    → Fits film limits set current others heads seeking waiting switch failure ended h → is_still film.packets h ≡ true
    → is_empty set ≡ false → is_served film.packets h set dir t ≡ true
    → (stand film.packets (Sought by set t dir Cached ∷ h)).current ≡ option_map as_range current'
    → (stand film.packets (Sought by set t dir Cached ∷ h)).others ≡ map as_range others'
    → IfSome current' (HoldsFilm film.packets) → AllByRecursion (HoldsFilm film.packets) others'
    → IfSome current' (PlacesAre set heads' (λ track. head film.packets track (Sought by set t dir Cached ∷ h)))
    → Fits film limits set current' others' heads' None nothing switch None nothing (Sought by set t dir Cached ∷ h)
cached_step film limits set current others heads seeking waiting switch failure ended h by t dir current' others' heads' f still some is current_is others_are held all_held places =
    let off : follows h ≡ false = no_follow film.packets h still in
    let how : Cached ≡ how_by (is_served film.packets h set dir t) = rw is refl in
    record {
      film_is = f.film_is;
      used = ((may_seek film.packets h by set t dir Cached f.set_is off some how, in_turn film.packets h still, tt), f.used);
      set_is = refl;
      current_is = current_is;
      others_are = others_are;
      held = held;
      all_held = all_held;
      places = places;
      seeks = refl;
      target_is = tt;
      sought_at = tt;
      waits_are = unwaited film.packets h by set t dir Cached;
      added_at = λ track e. not_nothing track e;
      failure_is = refl;
      ended_are = unended h by set t dir Cached;
    }

pub sent_step : (film : Film) (limits : Limits) (set : Choice) (current : Option RangeState) (others : List RangeState) (heads : Heads)
    (seeking : Option Target) (waiting : Choice) (switch : Switch) (failure : Option Failure) (ended : Choice) (h : List DemuxRecord) (by : ℕ) (t : ℤ) (dir : Dir)
    (others' : List RangeState) (heads' : Heads)
    → Fits film limits set current others heads seeking waiting switch failure ended h → is_still film.packets h ≡ true
    → is_empty set ≡ false → is_served film.packets h set dir t ≡ false
    → (stand film.packets (Sought by set t dir Sent ∷ h)).others ≡ map as_range others'
    → AllByRecursion (HoldsFilm film.packets) others'
    → Fits film limits set None others' heads' (Some (record { t = t; dir = dir })) nothing switch None nothing (Sought by set t dir Sent ∷ h)
sent_step film limits set current others heads seeking waiting switch failure ended h by t dir others' heads' f still some is others_are all_held =
    let off : follows h ≡ false = no_follow film.packets h still in
    let how : Sent ≡ how_by (is_served film.packets h set dir t) = rw is refl in
    record {
      film_is = f.film_is;
      used = ((may_seek film.packets h by set t dir Sent f.set_is off some how, in_turn film.packets h still, tt), f.used);
      set_is = refl;
      current_is = refl;
      others_are = others_are;
      held = tt;
      all_held = all_held;
      places = tt;
      seeks = refl;
      target_is = (refl, refl);
      sought_at = λ track e. rw e refl;
      waits_are = unwaited film.packets h by set t dir Sent;
      added_at = λ track e. not_nothing track e;
      failure_is = refl;
      ended_are = unended h by set t dir Sent;
    }
