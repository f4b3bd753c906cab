-- Each record that may come keeps the facts.
use Rattle.std.proofs.Common.{◌≡◌, ℕ, ◌+◌, ◌<◌, ◌≤◌, ◌==◌, Bool, true, false, not, ◌&&◌, ◌||◌, List, [], ◌∷◌, ◌++◌, Option, Some, None, ℤ, arith, refl, subst, sym, ap, ◌∙◌, inl, inr}
use Rattle.std.specs.Prelude.{IfSome, IsSomeAnd, is_some, if◌then◌else◌}
use Rattle.std.specs.Bool.{MatchBool}
use Rattle.std.specs.List.{AllByRecursion}
use Rattle.std.proofs.lemmas.Bool.{cases_Bool, eqb-true}
use Rattle.mc_packet.specs.declared.choice.Choice.{Choice}
use Rattle.mc_packet.specs.declared.choice.Kind.{Kind}
use Rattle.mc_packet.specs.declared.choice.Starts.{Starts}
use Rattle.mc_packet.specs.declared.choice.Dir.{Dir}
use Rattle.mc_packet.specs.declared.walk.Ending.{Ending}
use Rattle.mc_journal.specs.declared.record.Cause.{Cause}
use Rattle.mc_journal.specs.declared.record.Cause.TheVariants.{Limit, TooMany, TrackChanged, Mismatch}
use Rattle.mc_journal.specs.declared.record.Sought.{Sought as How}
use Rattle.mc_journal.specs.declared.record.Sought.TheVariants.{Cached, Sent}
use Rattle.mc_journal.specs.declared.record.DemuxRecord.{DemuxRecord}
use Rattle.mc_journal.specs.declared.record.DemuxRecord.TheVariants.{Opened, Sought, Switched, Found, Fed, Failed, Starved, Dropped, Joined, Gave, Ended, Overfull, Faulted, Wanting, Shown, Refused}
use Rattle.mc_packet.specs.declared.packet.Packet.{Packet}
use Rattle.mc_packet.specs.Choices.{is_track, has, lead_of, is_empty, is_known}
use Rattle.mc_journal.specs.Choices.{meets, kept_track, kept_of, OnTrack}
use Rattle.mc_journal.specs.Told.{Told, told}
use Rattle.mc_journal.specs.Films.{fresh, Film, rank, first_lane, IsFilm, HasLanes, switch_start}
use Rattle.mc_journal.specs.Ranges.{Span, Range}
use Rattle.mc_journal.specs.Readings.{selected, read_from, given, pending, waits, follows, target, direction, switcher}
use Rattle.mc_journal.specs.Stands.{stand, tidied, holds_any, opened, empty_span, start_given, dropped}
use Rattle.mc_journal.specs.Views.{head, next}
use Rattle.mc_journal.specs.Allowed.{how_by, is_served, is_added, added_by, EachStart, StartsOf, is_sought, May, MaySeek, MayDrop}
use Rattle.mc_journal.proofs.Rests.{rest, rest-fresh}
use Rattle.mc_journal.proofs.Facts.{Facts, Holds, facts_kept}
use Rattle.mc_journal.proofs.Giving.{gave_step}
use Rattle.mc_journal.proofs.Seeking.{sent_step, cached_step}
use Rattle.mc_journal.proofs.Feeding.{Closes, before_block, fed_step, joined_step, cut_step}
use Rattle.mc_journal.proofs.Finding.{found_step}
use Rattle.mc_journal.proofs.Switching.{switch_step}

-- ---- opened

lane_begin : first_lane 0 ≡ 0
unfolding first_lane
lane_begin = refl

open_span : (b : Bool) (Q : Span → Type 0) → (b ≡ true → Q (empty_span 0)) → IfSome (if b then Some (empty_span 0) else None) Q
open_span true Q h = h refl
open_span false Q h = tt

opened_step : (ps : List Packet) (E : Ending) (known : Kind → ℕ → Bool) (set : Choice) → IsFilm ps → is_known known set ≡ true
    → Facts ps E known set (opened set).current [] false (λ k. false) (λ k. 0) (λ k. []) (λ k. 0)
opened_step ps E known set film fits = record {
  fits = fits;
  here = (
    record {
      ended = tt;
      marked = λ k. open_span (has set k) (λ s. first_lane 0 ≤ s.to) (λ y. omega (arith, lane_begin));
      owned = λ k. open_span (has set k) (λ s. has set k ≡ true) (λ y. y);
    },
    refl,
    record {
      ahead = λ k has_k. open_span (has set k) (λ s. s.from ≤ 0) (λ y. omega arith);
      blank = λ k has_k w. absurd (cc);
    },
  );
  there = tt;
  blank = λ k has_k w. refl;
  going = λ k has_k w. record {
    start = 0;
    told = refl;
    exact = λ regular. subst (λ n. rest k n ps ≡ fresh k 0 ps) lane_begin (rest-fresh k 0 ps film.lanes);
  };
}

-- ---- sought

-- an answer from the cache comes only where a range serves
served_by : (b c : Bool) (A B : Type 0) (how : How) → (A → how ≡ Sent) → (B → how ≡ how_by c) → MatchBool b A B → how ≡ Cached → c ≡ true
served_by true c A B how f g h e = absurd (let s = f h in cc)
served_by false true A B how f g h e = refl
served_by false false A B how f g h e = absurd (let s = g h in cc)

same_set : (film : Film) (h : List DemuxRecord) (set : Choice) → set ≡ selected h → Holds film h
    → Facts film.packets film.ending film.known set (stand film.packets h).current (stand film.packets h).others
    (pending h) (λ k. waits k h) (λ k. head film.packets k h) (λ k. given k h) (λ k. read_from film.packets k h)
same_set film h set e f =
    subst (λ (s : Choice). Facts film.packets film.ending film.known s (stand film.packets h).current (stand film.packets h).others
    (pending h) (λ k. waits k h) (λ k. head film.packets k h) (λ k. given k h) (λ k. read_from film.packets k h)) (sym e) f

if_true : {A : Type 0} (b : Bool) (x y : A) → b ≡ true → (if b then x else y) ≡ x
if_true b x y e = rw e refl

sought_step : (film : Film) (h : List DemuxRecord) (by : ℕ) (set : Choice) (t : ℤ) (dir : Dir) (how : How) → IsFilm film.packets → Holds film h
    → MaySeek film.packets h by set t dir how → Holds film (Sought by set t dir how ∷ h)
sought_step film h by set t dir Sent is f may =
    facts_kept (holds_any film.packets set) (sent_step film.packets film.ending film.known set _ _ _ _ _ _ _ _ _ _ _ (same_set film h set may.0 f) (λ k has_k. if_true (has set k) _ _ has_k))
sought_step film h by set t dir Cached is f may =
    let served = served_by (follows h) (is_served film.packets h set dir t) ((Cached ≡ Sent) × (target h ≡ Some t) × (dir ≡ direction h) × (switcher h ≡ Some by))
    ((is_empty set ≡ false) × (Cached ≡ how_by (is_served film.packets h set dir t))) Cached (λ a. a.0) (λ b. b.1) may.1 refl in
    facts_kept (holds_any film.packets set) (cached_step film.packets film.ending film.known set dir t _ _ _ _ _ _ _ _ _ _ is (same_set film h set may.0 f) served
    (λ k has_k. if_true (has set k) _ _ has_k) (λ k has_k. if_true (has set k) _ _ has_k) (λ k has_k. if_true (has set k) _ _ has_k))

-- ---- fed and dropped

unended : (o : Option Range) (block : ℕ) → IsSomeAnd o (λ r. (r.ending ≡ None) × (r.mark ≡ block)) → IfSome o (λ r. r.ending ≡ None)
unended None block h = tt
unended (Some r) block h = h.0

closes_by : (ps : List Packet) (E : Ending) (block : ℕ) (o : Option Ending) → AllByRecursion HasLanes ps
    → IfSome o (λ e. (e ≡ E) × AllByRecursion (λ p. p.pos.block < block) ps) → IfSome o (Closes ps E block)
closes_by ps E block None lanes h = tt
closes_by ps E block (Some e) lanes h = (h.0, before_block block ps lanes h.1)

dropped_step : (film : Film) (h : List DemuxRecord) (k low high : ℕ) (cause : Cause) → Holds film h
    → MayDrop film.packets h k low high cause
    → Facts film.packets film.ending film.known (selected h) (dropped k high cause (stand film.packets h)).current (dropped k high cause (stand film.packets h)).others
    (pending h) (λ k. waits k h) (λ k. head film.packets k h) (λ k. given k h) (λ k. read_from film.packets k h)
dropped_step film h k low high (Limit back max) f may = cut_step film.packets film.ending film.known (selected h) _ _ _ _ _ _ _ k low high f may
dropped_step film h k low high (TooMany count) f may = f
dropped_step film h k low high TrackChanged f may = f
dropped_step film h k low high (Mismatch place ours other) f may = absurd may

-- ---- what is said by kind, of each track

kept_at : (test : ℕ → Bool) (o : Option ℕ) (k : ℕ) → is_track (kept_track test o) k ≡ (is_track o k && test k)
kept_at test None k = refl
kept_at test (Some j) k = kept_if (test j) refl
  where
    kept_if : (b : Bool) → test j ≡ b → is_track (if b then Some j else None) k ≡ ((j == k) && test k)
    kept_if true is = elim (cases_Bool (j == k)) [
      | inl y ↦ let e : test k ≡ true = subst (λ i. test i ≡ true) (eqb-true j k y) is in rw (y, e) refl
      | inr n ↦ rw n refl
    ]
    kept_if false is = elim (cases_Bool (j == k)) [
      | inl y ↦ let e : test k ≡ false = subst (λ i. test i ≡ false) (eqb-true j k y) is in rw (y, e) refl
      | inr n ↦ rw n refl
    ]

three : (a b c w : Bool) → ((a && w) || ((b && w) || (c && w))) ≡ ((a || (b || c)) && w)
three true b c true = refl
three false true c true = refl
three false false true true = refl
three false false false true = refl
three true true true false = refl
three true true false false = refl
three true false true false = refl
three true false false false = refl
three false true true false = refl
three false true false false = refl
three false false true false = refl
three false false false false = refl

has_kept : (set : Choice) (test : ℕ → Bool) (k : ℕ) → has (kept_of set test) k ≡ (has set k && test k)
has_kept set test k =
    rw (kept_at test set.video k, kept_at test set.audio k, kept_at test set.sub k) (three (is_track set.video k) (is_track set.audio k) (is_track set.sub k) (test k))

has_added : (h : List DemuxRecord) (set added : Choice) → added ≡ added_by h set → (k : ℕ) → has added k ≡ (has set k && (not (has (selected h) k) || waits k h))
has_added h set added e k = ap (λ (s : Choice). has s k) e ∙ has_kept set (is_added h) k

on_at : (o : Option ℕ) (P : ℕ → Type 0) (k : ℕ) → OnTrack o P → is_track o k ≡ true → P k
on_at None P k h is = absurd (cc)
on_at (Some j) P k h is = subst P (eqb-true j k is) h

each_at : (set : Choice) (starts : Starts) (P : ℕ → Option ℕ → Type 0) → EachStart set starts P → ((k : ℕ) → P k None) → (k : ℕ) → P k (start_given set starts k)
each_at set starts P h none k = elim (cases_Bool (is_track set.video k)) [
  | inl v ↦ rw v (on_at set.video (λ k. P k starts.video) k h.0 v)
  | inr nv ↦ elim (cases_Bool (is_track set.audio k)) [
    | inl a ↦ rw (nv, a) (on_at set.audio (λ k. P k starts.audio) k h.1 a)
    | inr na ↦ elim (cases_Bool (is_track set.sub k)) [
      | inl s ↦ rw (nv, na, s) (on_at set.sub (λ k. P k starts.sub) k h.2 s)
      | inr ns ↦ rw (nv, na, ns) (none k)
    ]
  ]
]

meets_at : (o : Option ℕ) (test : ℕ → Bool) (k : ℕ) → is_track o k ≡ true → meets o test ≡ test k
meets_at None test k is = absurd (cc)
meets_at (Some j) test k is = ap test (eqb-true j k is)

tracks_of : (set : Choice) (test : ℕ → Bool) (starts : Starts) → StartsOf set test starts → (k : ℕ) → is_some (start_given set starts k) ≡ (has set k && test k)
tracks_of set test starts e k = elim (cases_Bool (is_track set.video k)) [
  | inl v ↦ rw v (e.0 ∙ meets_at set.video test k v)
  | inr nv ↦ elim (cases_Bool (is_track set.audio k)) [
    | inl a ↦ rw (nv, a) (e.1 ∙ meets_at set.audio test k a)
    | inr na ↦ elim (cases_Bool (is_track set.sub k)) [
      | inl s ↦ rw (nv, na, s) (e.2 ∙ meets_at set.sub test k s)
      | inr ns ↦ rw (nv, na, ns) refl
    ]
  ]
]

-- ---- a packet that is given

some_is : {P : Packet → Type 0} (o : Option Packet) → IsSomeAnd o P → (p : Packet) × (o ≡ Some p) × P p
some_is None h = absurd h
some_is (Some p) h = (p, refl, h)

-- what a journal holds once a packet was given that is told so
abbrev HoldsGiven : Film → List DemuxRecord → Told → Type 0
HoldsGiven film h t = Facts film.packets film.ending film.known (selected h)
    (tidied film.packets (selected h) (stand film.packets h)).current (tidied film.packets (selected h) (stand film.packets h)).others
    (pending h) (λ k. waits k h) (λ k. if t.track == k then rank t.pos + 1 else head film.packets k h)
    (λ k. if t.track == k then given k h ++ t ∷ [] else given k h) (λ k. read_from film.packets k h)

given_step : (film : Film) (h : List DemuxRecord) (t : Told) → IsFilm film.packets → Holds film h → has (selected h) t.track ≡ true
    → (p : Packet) × (next film.packets h t.track ≡ Some p) × (told p ≡ t) → HoldsGiven film h t
given_step film h t is f sel at_head =
    let p = at_head.0 in
    let sel_p : has (selected h) p.track ≡ true = subst (λ (x : Told). has (selected h) x.track ≡ true) (sym at_head.2) sel in
    let head_p : next film.packets h p.track ≡ Some p = subst (λ (x : Told). next film.packets h x.track ≡ Some p) (sym at_head.2) at_head.1 in
    subst (λ (x : Told). HoldsGiven film h x) at_head.2
    (facts_kept (holds_any film.packets (selected h)) (gave_step film.packets film.ending film.known (selected h) _ _ _ _ _ _ _ p is.rising f sel_p head_p))

-- ---- any record

pub step : (film : Film) (h : List DemuxRecord) (r : DemuxRecord) → IsFilm film.packets → Holds film h → May film h r → Holds film (r ∷ h)
step film h (Opened by set) is f may = facts_kept (holds_any film.packets set) (opened_step film.packets film.ending film.known set is may.1)
step film h (Sought by set t dir how) is f may = sought_step film h by set t dir how is f may
step film h (Switched by set added t) is f may =
    facts_kept (holds_any film.packets set) (switch_step film.packets film.ending film.known (selected h) _ _ _ _ _ _ _ set added
    (λ k. switch_start film.packets (lead_of set) added t k) (is_empty set) f may.0 (has_added h set added may.1))
step film h (Found by starts) is f may =
    facts_kept (holds_any film.packets (selected h)) (found_step film.packets film.ending film.known (selected h) _ _ _ _ _ _ _ starts is.lanes f
    (tracks_of (selected h) (is_sought h) starts may.tracks)
    (λ regular k. each_at (selected h) starts (λ k start. IfSome start (λ b. b ≡ read_from film.packets k h)) (may.exact regular) (λ k. tt) k)
    (λ k. each_at (selected h) starts (λ k start. IfSome start (λ b. starts.mark.pos ≤ b)) may.least (λ k. tt) k))
step film h (Fed by from to took ending) is f may =
    facts_kept (holds_any film.packets (selected h)) (fed_step film.packets film.ending film.known (selected h) _ _ _ _ _ _ _ to.pos ending f
    (unended _ from.pos may.here) (closes_by film.packets film.ending to.pos ending is.lanes may.ends))
step film h (Failed by before later) is f may = facts_kept (holds_any film.packets (selected h)) f
step film h (Starved by) is f may = facts_kept (holds_any film.packets (selected h)) f
step film h (Dropped by removal) is f may =
    facts_kept (holds_any film.packets (selected h)) (dropped_step film h removal.track (rank removal.from) (rank removal.to) removal.cause f may)
step film h (Joined by) is f may = facts_kept (holds_any film.packets (selected h)) (joined_step film.packets film.ending film.known (selected h) _ _ _ _ _ _ _ f)
step film h (Gave by track pos time len sum sync key) is f may =
    given_step film h (record { track = track; pos = pos; time = time; len = len; sum = sum; sync = sync; key = key }) is f may.0
    (some_is (next film.packets h track) may.1)
step film h (Ended by track e) is f may = facts_kept (holds_any film.packets (selected h)) f
step film h (Overfull by track bytes max) is f may = facts_kept (holds_any film.packets (selected h)) f
step film h (Faulted by track before later) is f may = facts_kept (holds_any film.packets (selected h)) f
step film h (Wanting by track) is f may = facts_kept (holds_any film.packets (selected h)) f
step film h (Shown by view) is f may = facts_kept (holds_any film.packets (selected h)) f
step film h (Refused by why) is f may = facts_kept (holds_any film.packets (selected h)) f
