-- Room for a part of the film and for the joins after it.
use Rattle.std.proofs.Common.{◌≡◌, ℕ, ◌+◌, ◌≤◌, ◌==◌, Bool, true, false, ◌&&◌, ◌||◌, List, [], ◌∷◌, length, Option, Some, None, refl, ap, sym, ◌∙◌, arith, inl, inr}
use Rattle.std.specs.Prelude.{IfSome, IsSomeAnd, OnOk, Result, Ok, Err}
use Rattle.std.specs.List.{AllByRecursion, filter}
use Rattle.std.proofs.lemmas.Bool.{cases_Bool}
use Rattle.mc_packet.specs.declared.packet.Packet.{Packet}
use Rattle.mc_packet.specs.declared.packet.Pos.{Pos}
use Rattle.mc_packet.specs.declared.walk.Chunk.{Chunk}
use Rattle.mc_packet.specs.Choices.{or_else}
use Rattle.mc_journal.specs.Films.{rank}
use Rattle.mc_queue.specs.Queue.{QueueState}
use Rattle.mc_queue.specs.Places.{is_from}
use Rattle.mc_range.specs.declared.queues.Queues.{Queues}
use Rattle.mc_range.specs.Range.{RangeState, IsRange, IsRoomier, Roomier, is_of, is_same_set, meets_range, own, place_at, queue_of}
use Rattle.mc_range.specs.Growing.{ExtendsAll, ExtendsIn, IsFed, news, of_track}
use Rattle.mc_range.specs.Tracks.{interval_of, intervals, spans_touch}
use Rattle.mc_range.proofs.Touching.{meets_same}
use Rattle.mc_cache.specs.Cache.{CacheState, IsCache, IsOther}
use Rattle.mc_cache.specs.Changing.{Feeds, RoomierIn}
use Rattle.mc_cache.specs.Rooms.{HasRoomFor, HasRoomToFeed, HasRoomToJoin, HasSpareFor, MayTake, MayTakePart, count_at_all, longer, longer_spans, meets_any, meets_any_then, meets_then, meets_then_in}

-- ---- the spare room after a part

few_pass : (t : Packet → Bool) (ps : List Packet) → length (filter t ps) ≤ length ps
few_pass t [] = omega arith
few_pass t (p ∷ ps) = let m = few_pass t ps in elim (cases_Bool (t p)) [ inl y ↦ rw y (omega arith) | inr n ↦ rw n (omega arith) ]

few_news : (ps : List Packet) (q : QueueState) → length (news ps q) ≤ length ps
few_news ps q = let a = few_pass (λ p. p.track == q.track) ps in let b = few_pass (is_from (rank q.to)) (of_track q.track ps) in omega arith

abbrev Takes : ℕ → Option QueueState → Option QueueState → Type 0
Takes m None b = b ≡ None
Takes m (Some q) b = IsSomeAnd b (λ n. (n.track ≡ q.track) × (q.spare ≤ n.spare + m))

extends_takes : (upto : Pos) (ps : List Packet) (q n : Option QueueState) → ExtendsIn upto ps q n → Takes (length ps) q n
extends_takes upto ps None n e = e
extends_takes upto ps (Some q) None e = absurd e
extends_takes upto ps (Some q) (Some n) e = let l = few_news ps q in let r = e.room_used in (ap (λ (x : QueueState). x.track) e.grown, omega arith)

own_takes : (track m : ℕ) (q n : Option QueueState) → Takes m q n → Takes m (own track q) (own track n)
own_takes track m None n t = rw t refl
own_takes track m (Some q) None t = absurd t
own_takes track m (Some q) (Some n) t =
    let e = t.0 in
    elim (cases_Bool (is_of track (Some q))) [
      | inl y ↦ let z : is_of track (Some n) ≡ true = rw e y in rw (y, z) t
      | inr k ↦ let z : is_of track (Some n) ≡ false = rw e k in rw (k, z) refl
    ]

or_takes : (m : ℕ) (a b x y : Option QueueState) → Takes m a x → Takes m b y → Takes m (or_else a b) (or_else x y)
or_takes m None b x y r s = rw r s
or_takes m (Some a) b None y r s = absurd r
or_takes m (Some a) b (Some x) y r s = r

of_takes : (upto : Pos) (ps : List Packet) (track : ℕ) (qs ns : Queues) → ExtendsAll upto ps qs ns → Takes (length ps) (queue_of track qs) (queue_of track ns)
of_takes upto ps track qs ns e =
    or_takes (length ps) (own track qs.video) _ (own track ns.video) _ (own_takes track (length ps) qs.video ns.video (extends_takes upto ps qs.video ns.video e.video))
    (or_takes (length ps) (own track qs.audio) _ (own track ns.audio) _ (own_takes track (length ps) qs.audio ns.audio (extends_takes upto ps qs.audio ns.audio e.audio))
    (own_takes track (length ps) qs.sub ns.sub (extends_takes upto ps qs.sub ns.sub e.sub)))

spare_after : (m k : ℕ) (a b : Option QueueState) → Takes m a b → IfSome a (λ q. m + k ≤ q.spare) → IfSome b (λ q. 0 + k ≤ q.spare)
spare_after m k None b t h = rw t tt
spare_after m k (Some a) None t h = absurd t
spare_after m k (Some a) (Some b) t h = let l = t.1 in omega arith

kind_after : (rs : List RangeState) (upto : Pos) (ps : List Packet) (qs ns : Queues) (track : Option ℕ) → ExtendsAll upto ps qs ns → HasSpareFor rs (length ps) qs track → HasSpareFor rs 0 ns track
kind_after rs upto ps qs ns None e h = tt
kind_after rs upto ps qs ns (Some k) e h = spare_after (length ps) (count_at_all k rs) (queue_of k qs) (queue_of k ns) (of_takes upto ps k qs ns e) h

room_after : (rs : List RangeState) (c : Chunk) (r n : RangeState) → IsFed c r n → HasRoomFor rs (length c.packets) r → HasRoomFor rs 0 n
room_after rs c r n f h = let e = f.set_is in record {
  video = rw e (kind_after rs (place_at c.to.pos) c.packets r.queues n.queues r.set.video f.queues h.video);
  audio = rw e (kind_after rs (place_at c.to.pos) c.packets r.queues n.queues r.set.audio f.queues h.audio);
  sub = rw e (kind_after rs (place_at c.to.pos) c.packets r.queues n.queues r.set.sub f.queues h.sub);
}

-- ---- what is touched after a part

longer_is : (upto : Pos) (ps : List Packet) (q n : Option QueueState) → ExtendsIn upto ps q n → interval_of n ≡ longer upto (interval_of q)
longer_is upto ps None n e = rw e refl
longer_is upto ps (Some q) None e = absurd e
longer_is upto ps (Some q) (Some n) e = ap (λ (x : QueueState). Some (x.from, x.to)) e.grown

spans_after : (upto : Pos) (ps : List Packet) (qs ns : Queues) → ExtendsAll upto ps qs ns → intervals ns ≡ longer_spans upto (intervals qs)
spans_after upto ps qs ns e =
    let v = longer_is upto ps qs.video ns.video e.video in
    let a = longer_is upto ps qs.audio ns.audio e.audio in
    let s = longer_is upto ps qs.sub ns.sub e.sub in
    rw (v, a, s) refl

meets_after : (c : Chunk) (r n o : RangeState) → IsRange n → IsRange o → IsFed c r n → meets_range n o ≡ meets_then (place_at c.to.pos) r o
meets_after c r n o i j f =
    let e = f.set_is in
    let s = spans_after (place_at c.to.pos) c.packets r.queues n.queues f.queues in
    meets_same n o i j ∙ ap (λ x. is_same_set x o.set && spans_touch x (intervals n.queues) (intervals o.queues)) e ∙ ap (λ x. is_same_set r.set o.set && spans_touch r.set x (intervals o.queues)) s

any_after : (c : Chunk) (r n : RangeState) (rs : List RangeState) → IsRange n → AllByRecursion IsOther rs → IsFed c r n → meets_any n rs ≡ meets_any_then (place_at c.to.pos) r rs
any_after c r n [] i a f = refl
any_after c r n (o ∷ rs) i a f =
    let m = meets_after c r n o i a.0.range f in
    let k = any_after c r n rs i a.1 f in
    ap (λ x. x || meets_any n rs) m ∙ ap (λ x. meets_then (place_at c.to.pos) r o || x) k

take_after : (c : Chunk) (d e : ℕ) (a b : Option RangeState) (rs : List RangeState) → d ≤ e → IfSome b IsRange → AllByRecursion IsOther rs → IsSomeAnd a (λ o. IsSomeAnd b (λ n. IsFed c o n)) → IfSome a (MayTakePart c d rs) → IfSome b (MayTake e rs)
take_after c d e None b rs l i o f h = absurd f
take_after c d e (Some r) None rs l i o f h = absurd f
take_after c d e (Some r) (Some n) rs l i o f h = λ y.
    let z = h.joined (sym (any_after c r n rs i o f) ∙ y) in
    let x = z.0 in
    (omega arith, room_after rs c r n f z.1)

pub fed_room : (c : Chunk) (old new : CacheState) → IsCache new → Feeds c old new → HasRoomToFeed c old → HasRoomToJoin new
fed_room c old new i f h =
    let o = f.others_is in
    let a = i.others in
    let b : AllByRecursion IsOther old.others = rw o at a in
    rw o (take_after c old.join_room new.join_room old.current new.current old.others f.rest.join_room i.current b f.current h)

-- ---- room does not change what is touched

interval_same : (q n : Option QueueState) → Roomier q n → interval_of n ≡ interval_of q
interval_same None n r = rw r refl
interval_same (Some q) None r = absurd r
interval_same (Some q) (Some n) r = ap (λ (x : QueueState). Some (x.from, x.to)) r.0

spans_same : (r q : RangeState) → IsRoomier r q → intervals q.queues ≡ intervals r.queues
spans_same r q i =
    let v = interval_same r.queues.video q.queues.video i.queues.video in
    let a = interval_same r.queues.audio q.queues.audio i.queues.audio in
    let s = interval_same r.queues.sub q.queues.sub i.queues.sub in
    rw (v, a, s) refl

same_then : (upto : Pos) (r q o : RangeState) → IsRoomier r q → meets_then upto q o ≡ meets_then upto r o
same_then upto r q o i =
    let e = i.set_is in
    ap (λ x. is_same_set x o.set && spans_touch x (longer_spans upto (intervals q.queues)) (intervals o.queues)) e
    ∙ ap (λ x. is_same_set r.set o.set && spans_touch r.set (longer_spans upto x) (intervals o.queues)) (spans_same r q i)

pub any_then : (upto : Pos) (r q : RangeState) (rs : List RangeState) → IsRoomier r q → meets_any_then upto q rs ≡ meets_any_then upto r rs
any_then upto r q [] i = refl
any_then upto r q (o ∷ rs) i =
    ap (λ x. x || meets_any_then upto q rs) (same_then upto r q o i) ∙ ap (λ x. meets_then upto r o || x) (any_then upto r q rs i)

-- ---- the same of a call that may be refused

pub fed_ready : {A B : Type 0} (c : Chunk) (b : Option RangeState) (old : CacheState) (e : ℕ) (rs : List RangeState) (result : Result A B) → old.join_room ≤ e → rs ≡ old.others → IfSome b IsRange
    → AllByRecursion IsOther rs → OnOk result (IsSomeAnd old.current (λ o. IsSomeAnd b (λ n. IsFed c o n))) → OnOk result (HasRoomToFeed c old → IfSome b (MayTake e rs))
fed_ready c b old e rs (Err x) l r i a f = tt
fed_ready c b old e rs (Ok x) l r i a f = λ h. let z : AllByRecursion IsOther old.others = rw r at a in rw r (take_after c old.join_room e old.current b old.others l i z f h)

alone_in : (c : Chunk) (d more : ℕ) (a b : Option RangeState) (rs : List RangeState) (t : Bool) → more ≡ length c.packets → RoomierIn a b → t ≡ meets_then_in (place_at c.to.pos) a rs → t ≡ false
    → IfSome b (λ r. HasRoomFor [] more r) → IfSome b (MayTakePart c d rs)
alone_in c d more None b rs t m i y n h = rw i tt
alone_in c d more (Some r) None rs t m i y n h = absurd i
alone_in c d more (Some r) (Some q) rs t m i y n h =
    let e = any_then (place_at c.to.pos) r q rs i in
    let z : meets_any_then (place_at c.to.pos) q rs ≡ false = e ∙ sym y ∙ n in
    record { alone = rw (← m) h; joined = λ x. absurd (cc) }

pub alone : {A B : Type 0} (c : Chunk) (d more : ℕ) (a b : Option RangeState) (rs : List RangeState) (t : Bool) (result : Result A B) → more ≡ length c.packets → RoomierIn a b → t ≡ meets_then_in (place_at c.to.pos) a rs → t ≡ false
    → OnOk result (IfSome b (λ r. HasRoomFor [] more r)) → OnOk result (IfSome b (MayTakePart c d rs))
alone c d more a b rs t (Err x) m i y n h = tt
alone c d more a b rs t (Ok x) m i y n h = alone_in c d more a b rs t m i y n h
