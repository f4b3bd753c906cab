-- The tracks that have a queue in the current range: while they stay, the readers have their heads.
use Rattle.std.proofs.Common.{◌≡◌, ℕ, ◌==◌, true, false, Option, Some, None, List, refl, ap, sym, subst, ◌∙◌, inl, inr}
use Rattle.std.specs.Prelude.{is_some, IfSome, IsSomeAnd}
use Rattle.std.proofs.lemmas.Bool.{cases_Bool}
use Rattle.mc_packet.specs.declared.packet.Packet.{Packet}
use Rattle.mc_packet.specs.declared.packet.Pos.{Pos}
use Rattle.mc_packet.specs.declared.choice.Choice.{Choice}
use Rattle.mc_packet.specs.declared.cache.Heads.{Heads}
use Rattle.mc_packet.specs.Choices.{or_else}
use Rattle.mc_journal.specs.Films.{rank}
use Rattle.mc_queue.specs.Queue.{QueueState}
use Rattle.mc_range.specs.declared.queues.Queues.{Queues}
use Rattle.mc_range.specs.Range.{RangeState, Roomier, own, queue_of, IsRoomier, place_at}
use Rattle.mc_range.specs.Growing.{ExtendsIn, IsFed}
use Rattle.mc_range.specs.Joining.{IsJoined, UnitesIn}
use Rattle.mc_packet.specs.declared.walk.Chunk.{Chunk}
use Rattle.mc_calls.specs.declared.waiting.Target.{Target}
use Rattle.mc_calls.specs.State.{head_of}
use Rattle.mc_calls.specs.Demuxers.{IsPlaced}
use Rattle.mc_calls.specs.Film.{PlacesAre}

-- ---- one queue

-- of the same track, or none
abbrev pub SameTrack : Option QueueState → Option QueueState → Type 0
SameTrack None n = n ≡ None
SameTrack (Some q) n = IsSomeAnd n (λ m. m.track ≡ q.track)

own_same : (k : ℕ) (o n : Option QueueState) → SameTrack o n → is_some (own k n) ≡ is_some (own k o)
own_same k None n h = rw h refl
own_same k (Some q) None h = absurd h
own_same k (Some q) (Some m) h =
    let e : (m.track == k) ≡ (q.track == k) = ap (λ x. x == k) h in
    elim (cases_Bool (q.track == k)) [ inl y ↦ let z : (m.track == k) ≡ true = e ∙ y in rw (y, z) refl | inr o ↦ let z : (m.track == k) ≡ false = e ∙ o in rw (o, z) refl ]

or_same : (a b c d : Option QueueState) → is_some a ≡ is_some c → is_some b ≡ is_some d → is_some (or_else a b) ≡ is_some (or_else c d)
or_same None b None d e f = f
or_same None b (Some c) d e f = absurd (cc)
or_same (Some a) b None d e f = absurd (cc)
or_same (Some a) b (Some c) d e f = refl

queue_same : (k : ℕ) (old new : Queues) → SameTrack old.video new.video → SameTrack old.audio new.audio → SameTrack old.sub new.sub
    → is_some (queue_of k new) ≡ is_some (queue_of k old)
queue_same k old new v a s =
    or_same (own k new.video) (or_else (own k new.audio) (own k new.sub)) (own k old.video) (or_else (own k old.audio) (own k old.sub))
    (own_same k old.video new.video v)
    (or_same (own k new.audio) (own k new.sub) (own k old.audio) (own k old.sub) (own_same k old.audio new.audio a) (own_same k old.sub new.sub s))

-- ---- a range

-- the same set, and queues of the same tracks
pub record HasSameTracks (old new : RangeState) : Type 0 where
  pub set_is : new.set ≡ old.set
  pub queues : (k : ℕ) → is_some (queue_of k new.queues) ≡ is_some (queue_of k old.queues)

abbrev pub SameTracks : Option RangeState → Option RangeState → Type 0
SameTracks None n = n ≡ None
SameTracks (Some r) n = IsSomeAnd n (λ q. HasSameTracks r q)

pub tracks_self : (r : RangeState) → HasSameTracks r r
tracks_self r = record { set_is = refl; queues = λ k. refl }

pub tracks_both : (a b c : RangeState) → HasSameTracks a b → HasSameTracks b c → HasSameTracks a c
tracks_both a b c x y = record { set_is = y.set_is ∙ x.set_is; queues = λ k. y.queues k ∙ x.queues k }

pub same_both : (a b c : Option RangeState) → SameTracks a b → SameTracks b c → SameTracks a c
same_both None b c x y = let z : SameTracks None c = subst (λ (o : Option RangeState). SameTracks o c) x y in z
same_both (Some a) None c x y = absurd x
same_both (Some a) (Some b) None x y = absurd y
same_both (Some a) (Some b) (Some c) x y = tracks_both a b c x y

-- ---- what leaves them

roomier_one : (o n : Option QueueState) → Roomier o n → SameTrack o n
roomier_one None n h = h
roomier_one (Some q) None h = absurd h
roomier_one (Some q) (Some m) h = ap (λ (x : QueueState). x.track) h.0

pub roomier_tracks : (o n : RangeState) → IsRoomier o n → HasSameTracks o n
roomier_tracks o n r = record {
  set_is = r.set_is;
  queues = λ k. queue_same k o.queues n.queues (roomier_one o.queues.video n.queues.video r.queues.video)
      (roomier_one o.queues.audio n.queues.audio r.queues.audio) (roomier_one o.queues.sub n.queues.sub r.queues.sub);
}

extends_one : (upto : Pos) (ps : List Packet) (o n : Option QueueState) → ExtendsIn upto ps o n → SameTrack o n
extends_one upto ps None n h = h
extends_one upto ps (Some q) None h = absurd h
extends_one upto ps (Some q) (Some m) h = ap (λ (x : QueueState). x.track) h.grown

pub fed_tracks : (c : Chunk) (o n : RangeState) → IsFed c o n → HasSameTracks o n
fed_tracks c o n f = record {
  set_is = f.set_is;
  queues = λ k. queue_same k o.queues n.queues (extends_one (place_at c.to.pos) c.packets o.queues.video n.queues.video f.queues.video)
      (extends_one (place_at c.to.pos) c.packets o.queues.audio n.queues.audio f.queues.audio)
      (extends_one (place_at c.to.pos) c.packets o.queues.sub n.queues.sub f.queues.sub);
}

unites_one : (o p n : Option QueueState) → UnitesIn o p n → SameTrack o n
unites_one None p n h = h
unites_one (Some q) None n h = subst (λ (x : Option QueueState). SameTrack (Some q) x) (sym h) refl
unites_one (Some q) (Some p) None h = absurd h
unites_one (Some q) (Some p) (Some m) h = ap (λ (x : QueueState). x.track) h.both

pub joined_tracks : (r o r' o' : RangeState) → IsJoined r o r' o' → HasSameTracks r r'
joined_tracks r o r' o' j = record {
  set_is = j.set_is;
  queues = λ k. queue_same k r.queues r'.queues (unites_one r.queues.video o.queues.video r'.queues.video j.queues.video)
      (unites_one r.queues.audio o.queues.audio r'.queues.audio j.queues.audio) (unites_one r.queues.sub o.queues.sub r'.queues.sub j.queues.sub);
}

-- ---- what stays then

pub placed_same : (set : Choice) (heads : Heads) (waiting : Choice) (seeking : Option Target) (o n : Option RangeState) → SameTracks o n
    → IsPlaced set heads waiting seeking o → IsPlaced set heads waiting seeking n
placed_same set heads waiting (Some s) None n l p = (l, p.1)
placed_same set heads waiting (Some s) (Some r) n l p = absurd (let e = p.0 in cc)
placed_same set heads waiting None None n l p = subst (λ (x : Option RangeState). IsPlaced set heads waiting None x) (sym l) p
placed_same set heads waiting None (Some r) None l p = absurd l
placed_same set heads waiting None (Some r) (Some q) l p =
    (record { blank = λ k w. l.queues k ∙ p.0.blank k w; queued = λ k s w. l.queues k ∙ p.0.queued k s w }, λ k e. p.1 k (sym (l.queues k) ∙ e))

place_one : (o n : Option QueueState) (hd : Option Pos) (place : ℕ) → is_some n ≡ is_some o → IfSome o (λ q. IsSomeAnd hd (λ p. rank p ≡ place))
    → IfSome n (λ q. IsSomeAnd hd (λ p. rank p ≡ place))
place_one o None hd place e h = tt
place_one None (Some m) hd place e h = absurd (cc)
place_one (Some q) (Some m) hd place e h = h

pub places_same : (set : Choice) (heads : Heads) (place : ℕ → ℕ) (o n : Option RangeState) → SameTracks o n
    → IfSome o (PlacesAre set heads place) → IfSome n (PlacesAre set heads place)
places_same set heads place None n l p = subst (λ (x : Option RangeState). IfSome x (PlacesAre set heads place)) (sym l) tt
places_same set heads place (Some r) None l p = absurd l
places_same set heads place (Some r) (Some q) l p = λ k. place_one (queue_of k r.queues) (queue_of k q.queues) (head_of set heads k) (place k) (l.queues k) (p k)
