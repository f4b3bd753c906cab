-- Whose track packets are of, and who takes them.
use Rattle.std.proofs.Common.{◌≡◌, ℕ, ◌+◌, Bool, true, false, ◌||◌, Option, Some, None, List, [], ◌∷◌, arith, refl, ap, subst, sym, ◌∙◌}
use Rattle.std.specs.Prelude.{◌==◌}
use Rattle.std.proofs.lemmas.Bool.{eqb-true, eqb-false, ne_eqb, not-true, and_parts}
use Rattle.mc_packet.specs.declared.packet.Packet.{Packet}
use Rattle.mc_packet.specs.declared.packet.Pos.{Pos}
use Rattle.mc_packet.specs.declared.walk.Ending.{Ending}
use Rattle.mc_packet.specs.declared.walk.Mark.{Mark}
use Rattle.mc_packet.specs.declared.choice.Choice.{Choice}
use Rattle.mc_packet.specs.declared.choice.Kind.TheVariants.{Video, Audio, Sub}
use Rattle.mc_packet.specs.Choices.{or_else, is_other}
use Rattle.mc_journal.specs.Films.{rank}
use Rattle.mc_queue.specs.Places.{place, Rise}
use Rattle.mc_queue.specs.Queue.{QueueState}
use Rattle.mc_queue.specs.Union.{later}
use Rattle.mc_range.specs.declared.queues.Queues.{Queues}
use Rattle.mc_range.specs.Range.{RangeState, QueueIn, IsRange, is_of, place_at}
use Rattle.mc_range.specs.Growing.{of_track, takes, taker, lacks, lacks_room, RiseTogether, first_track, IsForeign, AreOwn, AreApart, AllApart, Owns, ExtendsIn, ExtendsAll, IsSound, AllSound}
use Rattle.mc_range.proofs.Places.{lane_upto, later_is_upto}

-- ---- whose the packets are

no_others : (k j low to : ℕ) (ps : List Packet) → (j == k) ≡ false → Rise k low to ps → of_track j ps ≡ []
no_others k j low to [] n r = refl
no_others k j low to (p ∷ ps) n r =
    let e : (p.track == j) ≡ false = other p.track k j r.0 n in
    rw e (no_others k j (place p + 1) to ps n r.2)
  where
    other : (i k j : ℕ) → i ≡ k → (j == k) ≡ false → (i == j) ≡ false
    other i k j e n = ne_eqb i j (λ z. eqb-false j k n (sym z ∙ e))

own_by : (upto : Pos) (k : ℕ) (ps : List Packet) (o : Option QueueState) → first_track ps ≡ Some k → RiseTogether upto ps → is_of k o ≡ true → AreOwn upto ps o
own_by upto k ps None e r is = tt
own_by upto k [] (Some q) e r is = absurd (cc)
own_by upto k (p ∷ ps) (Some q) e r is =
    let t : q.track ≡ p.track = eqb-true q.track k is ∙ sym (some p.track k e) in
    subst (λ i. Rise i 0 (rank upto) (p ∷ ps)) (sym t) r
  where
    some : (i j : ℕ) → Some i ≡ Some j → i ≡ j
    some i j e = cc

foreign_by : (upto : Pos) (k : ℕ) (ps : List Packet) (o : Option QueueState) → first_track ps ≡ Some k → RiseTogether upto ps → is_of k o ≡ false → IsForeign ps o
foreign_by upto k ps None e r n = tt
foreign_by upto k [] (Some q) e r n = refl
foreign_by upto k (p ∷ ps) (Some q) e r n =
    let t : p.track ≡ k = some p.track k e in
    no_others p.track q.track 0 (rank upto) (p ∷ ps) (rw t n) r
  where
    some : (i j : ℕ) → Some i ≡ Some j → i ≡ j
    some i j e = cc

apart_right : (k : ℕ) (a b : Option QueueState) → AreApart a b → is_of k a ≡ true → is_of k b ≡ false
apart_right k None b n is = absurd (cc)
apart_right k (Some a) None n is = refl
apart_right k (Some a) (Some b) n is = let e = eqb-true a.track k is in other a.track b.track k n e
  where
    other : (i j k : ℕ) → (i == j) ≡ false → i ≡ k → (j == k) ≡ false
    other i j k n e = ne_eqb j k (λ z. eqb-false i j n (e ∙ sym z))

pub apart_left : (k : ℕ) (a b : Option QueueState) → AreApart a b → is_of k b ≡ true → is_of k a ≡ false
apart_left k None b n is = refl
apart_left k (Some a) None n is = absurd (cc)
apart_left k (Some a) (Some b) n is = let e = eqb-true b.track k is in other a.track b.track k n e
  where
    other : (i j k : ℕ) → (i == j) ≡ false → j ≡ k → (i == k) ≡ false
    other i j k n e = rw (← e) n

pub owned_video : (upto : Pos) (k : ℕ) (ps : List Packet) (qs : Queues) → first_track ps ≡ Some k → RiseTogether upto ps → AllApart qs
    → is_of k qs.video ≡ true → Owns upto ps qs (Some Video)
owned_video upto k ps qs e r a is = (
  own_by upto k ps qs.video e r is,
  foreign_by upto k ps qs.audio e r (apart_right k qs.video qs.audio a.video_audio is),
  foreign_by upto k ps qs.sub e r (apart_right k qs.video qs.sub a.video_sub is),
)

pub owned_audio : (upto : Pos) (k : ℕ) (ps : List Packet) (qs : Queues) → first_track ps ≡ Some k → RiseTogether upto ps → AllApart qs
    → is_of k qs.audio ≡ true → Owns upto ps qs (Some Audio)
owned_audio upto k ps qs e r a is = (
  own_by upto k ps qs.audio e r is,
  foreign_by upto k ps qs.video e r (apart_left k qs.video qs.audio a.video_audio is),
  foreign_by upto k ps qs.sub e r (apart_right k qs.audio qs.sub a.audio_sub is),
)

pub owned_sub : (upto : Pos) (k : ℕ) (ps : List Packet) (qs : Queues) → first_track ps ≡ Some k → RiseTogether upto ps → AllApart qs
    → is_of k qs.sub ≡ true → Owns upto ps qs (Some Sub)
owned_sub upto k ps qs e r a is = (
  own_by upto k ps qs.sub e r is,
  foreign_by upto k ps qs.video e r (apart_left k qs.video qs.sub a.video_sub is),
  foreign_by upto k ps qs.audio e r (apart_left k qs.audio qs.sub a.audio_sub is),
)

pub owned_none : (upto : Pos) (k : ℕ) (ps : List Packet) (qs : Queues) → first_track ps ≡ Some k → RiseTogether upto ps
    → is_of k qs.video ≡ false → is_of k qs.audio ≡ false → is_of k qs.sub ≡ false → Owns upto ps qs None
owned_none upto k ps qs e r v a s = (foreign_by upto k ps qs.video e r v, foreign_by upto k ps qs.audio e r a, foreign_by upto k ps qs.sub e r s)

foreign_none : (ps : List Packet) (o : Option QueueState) → first_track ps ≡ None → IsForeign ps o
foreign_none ps None e = tt
foreign_none [] (Some q) e = refl
foreign_none (p ∷ ps) (Some q) e = absurd (cc)

pub owned_empty : (upto : Pos) (ps : List Packet) (qs : Queues) → first_track ps ≡ None → Owns upto ps qs None
owned_empty upto ps qs e = (foreign_none ps qs.video e, foreign_none ps qs.audio e, foreign_none ps qs.sub e)

-- ---- who takes them

foreign_takes : (ps : List Packet) (o : Option QueueState) → IsForeign ps o → takes ps o ≡ None
foreign_takes ps None f = refl
foreign_takes ps (Some q) f = rw f refl

or_none : (a : Option ℕ) → or_else a None ≡ a
or_none None = refl
or_none (Some x) = refl

pub taken_none : (upto : Pos) (ps : List Packet) (qs : Queues) → Owns upto ps qs None → taker ps qs ≡ None
taken_none upto ps qs f =
    let v = foreign_takes ps qs.video f.0 in let a = foreign_takes ps qs.audio f.1 in let s = foreign_takes ps qs.sub f.2 in
    rw (v, a, s) refl

pub taken_video : (upto : Pos) (ps : List Packet) (qs : Queues) → Owns upto ps qs (Some Video) → taker ps qs ≡ takes ps qs.video
taken_video upto ps qs f =
    let a = foreign_takes ps qs.audio f.1 in let s = foreign_takes ps qs.sub f.2 in
    rw (a, s) (or_none (takes ps qs.video))

pub taken_audio : (upto : Pos) (ps : List Packet) (qs : Queues) → Owns upto ps qs (Some Audio) → taker ps qs ≡ takes ps qs.audio
taken_audio upto ps qs f =
    let v = foreign_takes ps qs.video f.1 in let s = foreign_takes ps qs.sub f.2 in
    rw (v, s) (or_none (takes ps qs.audio))

pub taken_sub : (upto : Pos) (ps : List Packet) (qs : Queues) → Owns upto ps qs (Some Sub) → taker ps qs ≡ takes ps qs.sub
taken_sub upto ps qs f =
    let v = foreign_takes ps qs.video f.1 in let a = foreign_takes ps qs.audio f.2 in
    rw (v, a) refl

or_right : (a b : Bool) → b ≡ true → (a || b) ≡ true
or_right true b h = refl
or_right false b h = h

pub lacks_video : (ps : List Packet) (qs : Queues) → lacks ps qs.video ≡ true → lacks_room ps qs ≡ true
lacks_video ps qs e = rw e refl

pub lacks_audio : (ps : List Packet) (qs : Queues) → lacks ps qs.audio ≡ true → lacks_room ps qs ≡ true
lacks_audio ps qs e = or_right (lacks ps qs.video) _ (rw e refl)

pub lacks_sub : (ps : List Packet) (qs : Queues) → lacks ps qs.sub ≡ true → lacks_room ps qs ≡ true
lacks_sub ps qs e = or_right (lacks ps qs.video) _ (or_right (lacks ps qs.audio) _ e)

-- ---- a range's queues are of different tracks

two_apart : (t u : Option ℕ) (m : Mark) (a b : Option QueueState) → is_other t u ≡ true → QueueIn t m a → QueueIn u m b → AreApart a b
two_apart t u m None b o i j = tt
two_apart t u m (Some a) None o i j = tt
two_apart t u m (Some a) (Some b) o i j = not-true (a.track == b.track) (let e = i.0 in let f = j.0 in rw (e, f) at o)

pub all_apart : (r : RangeState) → IsRange r → AllApart r.queues
all_apart r i =
    let one = and_parts (is_other r.set.video r.set.audio) _ i.distinct in
    let two = and_parts (is_other r.set.video r.set.sub) (is_other r.set.audio r.set.sub) one.1 in
    record {
      video_audio = two_apart r.set.video r.set.audio r.mark r.queues.video r.queues.audio one.0 i.held.video i.held.audio;
      video_sub = two_apart r.set.video r.set.sub r.mark r.queues.video r.queues.sub two.0 i.held.video i.held.sub;
      audio_sub = two_apart r.set.audio r.set.sub r.mark r.queues.audio r.queues.sub two.1 i.held.audio i.held.sub;
    }

-- ---- a range that was fed is one

still_in : (t : Option ℕ) (m to : Mark) (ps : List Packet) (o n : Option QueueState) → QueueIn t m o → ExtendsIn (place_at to.pos) ps o n → IsSound n → QueueIn t to n
still_in t m to ps None n i e s = rw e tt
still_in t m to ps (Some q) None i e s = absurd e
still_in t m to ps (Some q) (Some k) i e s =
    let track : k.track ≡ q.track = ap (λ (x : QueueState). x.track) e.grown in
    let end : k.to ≡ later q.to (place_at to.pos) = ap (λ (x : QueueState). x.to) e.grown in
    let l = (later_is_upto q.to (place_at to.pos)).1 in
    let u = lane_upto to.pos to.pos (omega arith) in
    (rw track i.0, rw end (omega arith), s)

pub still_range : (set : Choice) (m to : Mark) (e f : Option Ending) (ps : List Packet) (old new : Queues)
    → IsRange (record { set = set; queues = old; mark = m; ending = e }) → ExtendsAll (place_at to.pos) ps old new → AllSound new
    → IsRange (record { set = set; queues = new; mark = to; ending = f })
still_range set m to e f ps old new i x s = record {
  distinct = i.distinct;
  held = record {
    video = still_in set.video m to ps old.video new.video i.held.video x.video s.video;
    audio = still_in set.audio m to ps old.audio new.audio i.held.audio x.audio s.audio;
    sub = still_in set.sub m to ps old.sub new.sub i.held.sub x.sub s.sub;
  };
}
