-- Ranges that touch have queues that meet; making room changes nothing of what is united; and what is joined is a range.
use Rattle.std.proofs.Common.{◌≡◌, ℕ, ◌≤◌, Bool, true, false, ◌⊎◌, ◌||◌, ◌&&◌, Option, Some, None, arith, refl, ap, sym, ◌∙◌, inl, inr}
use Rattle.std.specs.Prelude.{◌==◌, nat_lt, nat_le}
use Rattle.std.specs.Option.{option_map}
use Rattle.std.proofs.lemmas.Bool.{cases_Bool, eq-eqb, eqb-true, eqb-false, ne_eqb, not-true, leb-true, and_parts}
use Rattle.mc_packet.specs.declared.walk.Ending.{Ending}
use Rattle.mc_packet.specs.declared.walk.Mark.{Mark}
use Rattle.mc_packet.specs.Choices.{or_else, passes, is_other}
use Rattle.mc_journal.specs.Films.{rank, first_lane}
use Rattle.mc_journal.specs.Ranges.{on_span}
use Rattle.mc_queue.specs.Queue.{QueueState}
use Rattle.mc_queue.specs.Union.{later, added}
use Rattle.mc_range.specs.declared.queues.Queues.{Queues}
use Rattle.mc_range.specs.Range.{RangeState, QueueIn, IsRange, Roomier, AreRoomier, own, queue_of, span_of, weight_in, weight_of_all, is_same, is_same_set, meets_range}
use Rattle.mc_range.specs.Growing.{IsSound, AllSound}
use Rattle.mc_range.specs.Joining.{MeetIn, UnitesIn, lacks_for, lacks_any, AllMeet, AllUnited, greater}
use Rattle.mc_range.proofs.Places.{later_is_upto}

-- ---- room

pub same_room : (o : Option QueueState) → Roomier o o
same_room None = refl
same_room (Some q) = (refl, omega arith)

or_right : (a b : Bool) → b ≡ true → (a || b) ≡ true
or_right true b h = refl
or_right false b h = h

pub lacks_video : (qs os : Queues) → lacks_for qs.video os.video ≡ true → lacks_any qs os ≡ true
lacks_video qs os e = rw e refl

pub lacks_audio : (qs os : Queues) → lacks_for qs.audio os.audio ≡ true → lacks_any qs os ≡ true
lacks_audio qs os e = or_right (lacks_for qs.video os.video) _ (rw e refl)

pub lacks_sub : (qs os : Queues) → lacks_for qs.sub os.sub ≡ true → lacks_any qs os ≡ true
lacks_sub qs os e = or_right (lacks_for qs.video os.video) _ (or_right (lacks_for qs.audio os.audio) _ e)

one_meets : (a n b : Option QueueState) → Roomier a n → MeetIn a b → MeetIn n b
one_meets None n b r m = rw r m
one_meets (Some q) None b r m = absurd r
one_meets (Some q) (Some k) None r m = m
one_meets (Some q) (Some k) (Some o) r m = rw r.0 (record { one_track = m.one_track; ours = m.ours; other = m.other })

one_weighs : (a n : Option QueueState) → Roomier a n → weight_in n ≡ weight_in a
one_weighs None n r = rw r refl
one_weighs (Some q) None r = absurd r
one_weighs (Some q) (Some k) r = rw r.0 refl

one_unites : (a n b u : Option QueueState) → Roomier a n → MeetIn a b → UnitesIn n b u → UnitesIn a b u
one_unites None n b u r m x = rw r at x
one_unites (Some q) None b u r m x = absurd r
one_unites (Some q) (Some k) None u r m x = absurd m
one_unites (Some q) (Some k) (Some o) None r m x = absurd x
one_unites (Some q) (Some k) (Some o) (Some n) r m x =
    let l = r.1 in
    let e = ap (λ (z : QueueState). added z o) r.0 in
    let s = x.room_used in
    record { both = rw r.0 at x.both; room_used = omega arith }

pub meet_roomier : (qs new os : Queues) → AreRoomier qs new → AllMeet qs os → AllMeet new os
meet_roomier qs new os r m = record {
  video = one_meets qs.video new.video os.video r.video m.video;
  audio = one_meets qs.audio new.audio os.audio r.audio m.audio;
  sub = one_meets qs.sub new.sub os.sub r.sub m.sub;
}

pub weigh_roomier : (qs new : Queues) → AreRoomier qs new → weight_of_all new ≡ weight_of_all qs
weigh_roomier qs new r =
    let v = one_weighs qs.video new.video r.video in
    let a = one_weighs qs.audio new.audio r.audio in
    let s = one_weighs qs.sub new.sub r.sub in
    omega arith

pub unite_roomier : (qs new os united : Queues) → AreRoomier qs new → AllMeet qs os → AllUnited new os united → AllUnited qs os united
unite_roomier qs new os united r m u = record {
  video = one_unites qs.video new.video os.video united.video r.video m.video u.video;
  audio = one_unites qs.audio new.audio os.audio united.audio r.audio m.audio u.audio;
  sub = one_unites qs.sub new.sub os.sub united.sub r.sub m.sub u.sub;
}

-- ---- the queue of each kind is the queue of the selected track

is_it : (t : Option ℕ) (m : Mark) (k : ℕ) (o : Option QueueState) → QueueIn t m o → t ≡ Some k → own k o ≡ o
is_it t m k None i e = refl
is_it t m k (Some q) i e =
    let f : Some q.track ≡ Some k = sym i.0 ∙ e in
    let z : (q.track == k) ≡ true = eq-eqb q.track k (some q.track k f) in
    rw z refl
  where
    some : (i j : ℕ) → Some i ≡ Some j → i ≡ j
    some i j e = cc

pub not_it : (t u : Option ℕ) (m : Mark) (k : ℕ) (o : Option QueueState) → is_other t u ≡ true → QueueIn t m o → u ≡ Some k → own k o ≡ None
not_it t u m k None d i e = refl
not_it t u m k (Some q) d i e =
    let f = i.0 in
    let n : (q.track == k) ≡ false = not-true (q.track == k) (rw (f, e) at d) in
    rw n refl

pub other_way : (t u : Option ℕ) → is_other t u ≡ true → is_other u t ≡ true
other_way None None d = refl
other_way None (Some b) d = refl
other_way (Some a) None d = refl
other_way (Some a) (Some b) d =
    let n = not-true (a == b) d in
    rw (ne_eqb b a (λ z. eqb-false a b n (sym z))) refl

pub or_none : (a : Option QueueState) → or_else a None ≡ a
or_none (Some x) = refl
or_none None = refl

pub video_is : (r : RangeState) (k : ℕ) → IsRange r → r.set.video ≡ Some k → queue_of k r.queues ≡ r.queues.video
video_is r k i e =
    let one = and_parts (is_other r.set.video r.set.audio) _ i.distinct in
    let two = and_parts (is_other r.set.video r.set.sub) (is_other r.set.audio r.set.sub) one.1 in
    let v = is_it r.set.video r.mark k r.queues.video i.held.video e in
    let a = not_it r.set.audio r.set.video r.mark k r.queues.audio (other_way r.set.video r.set.audio one.0) i.held.audio e in
    let s = not_it r.set.sub r.set.video r.mark k r.queues.sub (other_way r.set.video r.set.sub two.0) i.held.sub e in
    rw (v, a, s) (or_none r.queues.video)

pub audio_is : (r : RangeState) (k : ℕ) → IsRange r → r.set.audio ≡ Some k → queue_of k r.queues ≡ r.queues.audio
audio_is r k i e =
    let one = and_parts (is_other r.set.video r.set.audio) _ i.distinct in
    let two = and_parts (is_other r.set.video r.set.sub) (is_other r.set.audio r.set.sub) one.1 in
    let v = not_it r.set.video r.set.audio r.mark k r.queues.video one.0 i.held.video e in
    let a = is_it r.set.audio r.mark k r.queues.audio i.held.audio e in
    let s = not_it r.set.sub r.set.audio r.mark k r.queues.sub (other_way r.set.audio r.set.sub two.1) i.held.sub e in
    rw (v, a, s) (or_none r.queues.audio)

pub sub_is : (r : RangeState) (k : ℕ) → IsRange r → r.set.sub ≡ Some k → queue_of k r.queues ≡ r.queues.sub
sub_is r k i e =
    let one = and_parts (is_other r.set.video r.set.audio) _ i.distinct in
    let two = and_parts (is_other r.set.video r.set.sub) (is_other r.set.audio r.set.sub) one.1 in
    let v = not_it r.set.video r.set.sub r.mark k r.queues.video two.0 i.held.video e in
    let a = not_it r.set.audio r.set.sub r.mark k r.queues.audio two.1 i.held.audio e in
    let s = is_it r.set.sub r.mark k r.queues.sub i.held.sub e in
    rw (v, a, s) refl

-- ---- what touches, meets

abbrev pub both_in : Option QueueState → Option QueueState → Bool
both_in a b = on_span (option_map span_of a) (λ s. on_span (option_map span_of b) (λ t. nat_le s.from t.to && nat_le t.from s.to))

some_meet : (t u : Option ℕ) (m n : Mark) (k : ℕ) (a b : Option QueueState) → QueueIn t m a → QueueIn u n b → t ≡ Some k → u ≡ Some k
    → both_in a b ≡ true → MeetIn a b
some_meet t u m n k None b i j e f h = absurd (cc)
some_meet t u m n k (Some q) None i j e f h = absurd (cc)
some_meet t u m n k (Some q) (Some o) i j e f h =
    let p = and_parts (nat_le (rank q.from) (rank o.to)) (nat_le (rank o.from) (rank q.to)) h in
    let x : q.track ≡ k = some q.track k (sym i.0 ∙ e) in
    let y : o.track ≡ k = some o.track k (sym j.0 ∙ f) in
    record { one_track = y ∙ sym x; ours = leb-true (rank q.from) (rank o.to) p.0; other = leb-true (rank o.from) (rank q.to) p.1 }
  where
    some : (i j : ℕ) → Some i ≡ Some j → i ≡ j
    some i j e = cc

none_meet : (m n : Mark) (a b : Option QueueState) → QueueIn None m a → QueueIn None n b → MeetIn a b
none_meet m n None None i j = tt
none_meet m n None (Some o) i j = absurd (let e = j.0 in cc)
none_meet m n (Some q) b i j = absurd (let e = i.0 in cc)

pub same_some : (t u : Option ℕ) (k : ℕ) → is_same t u ≡ true → t ≡ Some k → u ≡ Some k
same_some None u k s e = absurd (cc)
same_some (Some a) None k s e = absurd (cc)
same_some (Some a) (Some b) k s e = ap (λ x. Some x) (sym (eqb-true a b s)) ∙ e

same_none : (t u : Option ℕ) → is_same t u ≡ true → t ≡ None → u ≡ None
same_none None None s e = refl
same_none None (Some b) s e = absurd (cc)
same_none (Some a) u s e = absurd (cc)

-- at one kind, by what its track's queues are
kind_meets : (t u : Option ℕ) (m n : Mark) (a b : Option QueueState) (qa qb : ℕ → Option QueueState)
    → ((k : ℕ) → t ≡ Some k → qa k ≡ a) → ((k : ℕ) → u ≡ Some k → qb k ≡ b) → QueueIn t m a → QueueIn u n b → is_same t u ≡ true
    → passes t (λ k. both_in (qa k) (qb k)) ≡ true → MeetIn a b
kind_meets None u m n a b qa qb x y i j s h = let e = same_none None u s refl in none_meet m n a b i (rw e at j)
kind_meets (Some k) u m n a b qa qb x y i j s h =
    let e = same_some (Some k) u k s refl in
    let p = x k refl in
    let q = y k e in
    some_meet (Some k) u m n k a b i j refl e (rw (p, q) at h)

pub touching_meet : (r o : RangeState) → IsRange r → IsRange o → meets_range r o ≡ true → AllMeet r.queues o.queues
touching_meet r o i j h =
    let all = and_parts (is_same_set r.set o.set) _ h in
    let sames = and_parts (is_same r.set.video o.set.video) _ all.0 in
    let more = and_parts (is_same r.set.audio o.set.audio) (is_same r.set.sub o.set.sub) sames.1 in
    let test : ℕ → Bool = λ k. both_in (queue_of k r.queues) (queue_of k o.queues) in
    let touch = and_parts (passes r.set.video test) _ all.1 in
    let rest = and_parts (passes r.set.audio test) (passes r.set.sub test) touch.1 in
    record {
      video = kind_meets r.set.video o.set.video r.mark o.mark r.queues.video o.queues.video (λ k. queue_of k r.queues) (λ k. queue_of k o.queues)
          (λ k e. video_is r k i e) (λ k e. video_is o k j e) i.held.video j.held.video sames.0 touch.0;
      audio = kind_meets r.set.audio o.set.audio r.mark o.mark r.queues.audio o.queues.audio (λ k. queue_of k r.queues) (λ k. queue_of k o.queues)
          (λ k e. audio_is r k i e) (λ k e. audio_is o k j e) i.held.audio j.held.audio more.0 rest.0;
      sub = kind_meets r.set.sub o.set.sub r.mark o.mark r.queues.sub o.queues.sub (λ k. queue_of k r.queues) (λ k. queue_of k o.queues)
          (λ k e. sub_is r k i e) (λ k e. sub_is o k j e) i.held.sub j.held.sub more.1 rest.1;
    }

-- ---- what is joined is a range

lane_greater : (a b : Mark) (x y : ℕ) → first_lane a.pos ≤ x → first_lane b.pos ≤ y → (first_lane (greater a b).pos ≤ x) ⊎ (first_lane (greater a b).pos ≤ y)
lane_greater a b x y l m = elim (cases_Bool (nat_lt a.pos b.pos)) [ inl t ↦ rw t (inr m) | inr f ↦ rw f (inl l) ]

joined_in : (t u : Option ℕ) (a b : Mark) (q o n : Option QueueState) → QueueIn t a q → QueueIn u b o → MeetIn q o → UnitesIn q o n → IsSound n → QueueIn t (greater a b) n
joined_in t u a b None o n i j m x s = rw x tt
joined_in t u a b (Some q) None n i j m x s = absurd m
joined_in t u a b (Some q) (Some o) None i j m x s = absurd x
joined_in t u a b (Some q) (Some o) (Some n) i j m x s =
    let track : n.track ≡ q.track = ap (λ (z : QueueState). z.track) x.both in
    let end : n.to ≡ later q.to o.to = ap (λ (z : QueueState). z.to) x.both in
    let l = later_is_upto q.to o.to in
    let f = l.0 in
    let g = l.1 in
    let high : first_lane (greater a b).pos ≤ rank (later q.to o.to) = elim (lane_greater a b (rank q.to) (rank o.to) i.1 j.1) [ inl y ↦ omega arith | inr y ↦ omega arith ] in
    (rw track i.0, rw end high, s)

pub joined_range : (r o : RangeState) (new : Queues) (e : Option Ending) → IsRange r → IsRange o → AllMeet r.queues o.queues
    → AllUnited r.queues o.queues new → AllSound new → IsRange (record { set = r.set; queues = new; mark = greater r.mark o.mark; ending = e })
joined_range r o new e i j m u s = record {
  distinct = i.distinct;
  held = record {
    video = joined_in r.set.video o.set.video r.mark o.mark r.queues.video o.queues.video new.video i.held.video j.held.video m.video u.video s.video;
    audio = joined_in r.set.audio o.set.audio r.mark o.mark r.queues.audio o.queues.audio new.audio i.held.audio j.held.audio m.audio u.audio s.audio;
    sub = joined_in r.set.sub o.set.sub r.mark o.mark r.queues.sub o.queues.sub new.sub i.held.sub j.held.sub m.sub u.sub s.sub;
  };
}

-- what only has other room is one, and so is one without queues
roomier_in : (t : Option ℕ) (m : Mark) (o n : Option QueueState) → QueueIn t m o → Roomier o n → QueueIn t m n
roomier_in t m None n i r = rw r tt
roomier_in t m (Some q) None i r = absurd r
roomier_in t m (Some q) (Some k) i r = rw r.0 (i.0, i.1, record { rise = i.2.rise; fits = i.2.fits })

pub roomier_range : (r : RangeState) (new : Queues) → IsRange r → AreRoomier r.queues new → IsRange (record { set = r.set; queues = new; mark = r.mark; ending = r.ending })
roomier_range r new i a = record {
  distinct = i.distinct;
  held = record {
    video = roomier_in r.set.video r.mark r.queues.video new.video i.held.video a.video;
    audio = roomier_in r.set.audio r.mark r.queues.audio new.audio i.held.audio a.audio;
    sub = roomier_in r.set.sub r.mark r.queues.sub new.sub i.held.sub a.sub;
  };
}
