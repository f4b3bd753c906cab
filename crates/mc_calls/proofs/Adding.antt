-- Tracks that are added to the current range.
use Rattle.std.proofs.Common.{◌≡◌, ℕ, ◌≤◌, true, false, ◌&&◌, inl, inr, arith, length, ◌∷◌, ◌==◌, Option, Some, None, List, refl, ap, sym, subst, ◌∙◌}
use Rattle.std.specs.Prelude.{is_some, IfSome, IsSomeAnd}
use Rattle.std.specs.List.{AllByRecursion}
use Rattle.std.proofs.lemmas.Bool.{cases_Bool, eqb-true, eq-eqb, and_parts}
use Rattle.mc_packet.specs.declared.packet.Packet.{Packet}
use Rattle.mc_packet.specs.declared.packet.Pos.{Pos}
use Rattle.mc_queue.specs.Places.{weights}
use Rattle.mc_range.proofs.Unions.{other_way}
use Rattle.mc_packet.specs.declared.choice.Choice.{Choice}
use Rattle.mc_packet.specs.declared.choice.Kind.{Kind}
use Rattle.mc_packet.specs.declared.choice.Kind.TheVariants.{Video, Audio, Sub}
use Rattle.mc_packet.specs.declared.walk.Mark.{Mark}
use Rattle.mc_packet.specs.declared.cache.Heads.{Heads}
use Rattle.mc_packet.specs.declared.choice.Starts.{Starts}
use Rattle.mc_packet.specs.Choices.{AreAtMark, has, is_distinct, is_other, is_track, nothing, AtMark}
use Rattle.mc_queue.specs.Queue.{QueueState, IsNew}
use Rattle.mc_range.specs.declared.queues.Queues.{Queues}
use Rattle.mc_range.specs.Range.{RangeState, IsRange, count, place_at, queue_of, weight_in as queue_weight}
use Rattle.mc_range.specs.Tracks.{IsAdded, queue_under, selected_under, with_queue}
use Rattle.mc_cache.specs.Cache.{CacheState, IsCache, in_front, ranges_of}
use Rattle.mc_cache.specs.Changing.{AddsTrack}
use Rattle.mc_calls.specs.Demuxers.{AreAwaited, AreQueued, HaveHeads, IsPlaced, IsSelected}
use Rattle.mc_calls.specs.Finding.{AddsOne, AddsTracks, MayAddAll, MayAddOne}
use Rattle.mc_calls.specs.Outcomes.{AreStartsFor, head_at, heads_at}
use Rattle.mc_calls.specs.State.{head_of}
use Rattle.mc_calls.proofs.Placing.{IsThere, kinds_placed, set_kinds}
use Rattle.mc_calls.proofs.Seeking.{has_video, has_audio, has_sub}
use Rattle.mc_calls.proofs.Starting.{HasBegun}

-- ---- one kind after another

abbrev pub AreApart : Kind → Kind → Type 0
AreApart Video Video = ⊥
AreApart Audio Audio = ⊥
AreApart Sub Sub = ⊥
AreApart a b = Unit {0}

other_queue : (a b : Kind) (q : Option QueueState) (qs : Queues) → AreApart a b → queue_under b (with_queue a q qs) ≡ queue_under b qs
other_queue Video Video q qs x = absurd x
other_queue Video Audio q qs x = refl
other_queue Video Sub q qs x = refl
other_queue Audio Video q qs x = refl
other_queue Audio Audio q qs x = absurd x
other_queue Audio Sub q qs x = refl
other_queue Sub Video q qs x = refl
other_queue Sub Audio q qs x = refl
other_queue Sub Sub q qs x = absurd x

added_may : (a b : Kind) (track start k : ℕ) (mark : Mark) (o n : RangeState) → AreApart a b → IsAdded a track start mark o n
    → (selected_under b o.set ≡ Some k) × (queue_under b o.queues ≡ None) → (selected_under b n.set ≡ Some k) × (queue_under b n.queues ≡ None)
added_may a b track start k mark o n x i m = (
  ap (λ (s : Choice). selected_under b s) i.set_is ∙ m.0,
  ap (λ (q : Queues). queue_under b q) i.queues.others ∙ other_queue a b (queue_under a n.queues) o.queues x ∙ m.1,
)

current_may : (a b : Kind) (track start k : ℕ) (mark : Mark) (o n : Option RangeState) → AreApart a b → IsSomeAnd o (λ x. IsSomeAnd n (λ y. IsAdded a track start mark x y))
    → IsSomeAnd o (λ r. (selected_under b r.set ≡ Some k) × (queue_under b r.queues ≡ None)) → IsSomeAnd n (λ r. (selected_under b r.set ≡ Some k) × (queue_under b r.queues ≡ None))
current_may a b track start k mark None n x i m = absurd i
current_may a b track start k mark (Some r) None x i m = absurd i
current_may a b track start k mark (Some r) (Some q) x i m = added_may a b track start k mark r q x i m

may_one : (a b : Kind) (track start : ℕ) (mark : Mark) (t s : Option ℕ) (old new : CacheState) → AreApart a b → AddsTrack a track start mark old new
    → MayAddOne b t s mark old → MayAddOne b t s mark new
may_one a b track start mark None s old new x i m = tt
may_one a b track start mark (Some k) None old new x i m = tt
may_one a b track start mark (Some k) (Some p) old new x i m = (current_may a b track start k mark old.current new.current x i.current m.0, m.1)

pub still_may : (a b : Kind) (track start : Option ℕ) (mark : Mark) (t s : Option ℕ) (old new : CacheState) → AreApart a b → AddsOne a track start mark old new
    → MayAddOne b t s mark old → MayAddOne b t s mark new
still_may a b None start mark t s old new x i m = subst (λ (c : CacheState). MayAddOne b t s mark c) (sym i) m
still_may a b (Some k) None mark t s old new x i m = subst (λ (c : CacheState). MayAddOne b t s mark c) (sym i) m
still_may a b (Some k) (Some p) mark t s old new x i m = may_one a b k p mark t s old new x i m

-- ---- what a track that is added changes

-- a queue is new where a track has its start, and else as it was
abbrev pub AddedIn : Option ℕ → Option ℕ → Option QueueState → Option QueueState → Type 0
AddedIn None start o n = n ≡ o
AddedIn (Some track) None o n = n ≡ o
AddedIn (Some track) (Some start) o n = IsSomeAnd n (λ q. IsNew track (place_at start) q)

pub record OneAdded (kind : Kind) (track start : Option ℕ) (o n : RangeState) : Type 0 where
  pub set_is : n.set ≡ o.set
  pub added : AddedIn track start (queue_under kind o.queues) (queue_under kind n.queues)
  pub others : n.queues ≡ with_queue kind (queue_under kind n.queues) o.queues

same_queues : (kind : Kind) (qs : Queues) → qs ≡ with_queue kind (queue_under kind qs) qs
same_queues Video qs = refl
same_queues Audio qs = refl
same_queues Sub qs = refl

-- of the current range, which is there still
abbrev pub AddedCurrent : Kind → Option ℕ → Option ℕ → RangeState → Option RangeState → Type 0
AddedCurrent kind track start r n = IsSomeAnd n (λ q. OneAdded kind track start r q)

pub record CacheAdded (kind : Kind) (track start : Option ℕ) (r : RangeState) (old new : CacheState) : Type 0 where
  pub current : AddedCurrent kind track start r new.current
  pub others_is : new.others ≡ old.others
  pub limits_are : new.limits ≡ old.limits

here : (kind : Kind) (track start : Option ℕ) (r : RangeState) (o n : Option RangeState) → o ≡ Some r → n ≡ o → OneAdded kind track start r r → AddedCurrent kind track start r n
here kind track start r o n e f a = subst (λ (x : Option RangeState). AddedCurrent kind track start r x) (sym (f ∙ e)) a

track_added : (kind : Kind) (track start : ℕ) (mark : Mark) (r : RangeState) (o n : Option RangeState) → o ≡ Some r → IsSomeAnd o (λ x. IsSomeAnd n (λ y. IsAdded kind track start mark x y))
    → AddedCurrent kind (Some track) (Some start) r n
track_added kind track start mark r o None e a = absurd (let z : IsSomeAnd (Some r) (λ x. IsSomeAnd None (λ y. IsAdded kind track start mark x y)) = subst (λ (x : Option RangeState). IsSomeAnd x (λ x. IsSomeAnd None (λ y. IsAdded kind track start mark x y))) e a in z)
track_added kind track start mark r o (Some q) e a =
    let z : IsAdded kind track start mark r q = subst (λ (x : Option RangeState). IsSomeAnd x (λ x. IsAdded kind track start mark x q)) e a in
    record { set_is = z.set_is; added = z.queues.begun; others = z.queues.others }

pub one_added : (kind : Kind) (track start : Option ℕ) (mark : Mark) (r : RangeState) (old new : CacheState) → old.current ≡ Some r → AddsOne kind track start mark old new → CacheAdded kind track start r old new
one_added kind None start mark r old new e a = record {
  current = here kind None start r old.current new.current e (ap (λ (c : CacheState). c.current) a) (record { set_is = refl; added = refl; others = same_queues kind r.queues });
  others_is = ap (λ (c : CacheState). c.others) a;
  limits_are = ap (λ (c : CacheState). c.limits) a;
}
one_added kind (Some k) None mark r old new e a = record {
  current = here kind (Some k) None r old.current new.current e (ap (λ (c : CacheState). c.current) a) (record { set_is = refl; added = refl; others = same_queues kind r.queues });
  others_is = ap (λ (c : CacheState). c.others) a;
  limits_are = ap (λ (c : CacheState). c.limits) a;
}
one_added kind (Some k) (Some s) mark r old new e a = record {
  current = track_added kind k s mark r old.current new.current e a.current;
  others_is = a.others_is;
  limits_are = a.rest.limits_is;
}

-- ---- all kinds

pub record AllAdded (added : Choice) (starts : Starts) (o n : RangeState) : Type 0 where
  pub set_is : n.set ≡ o.set
  pub video : AddedIn added.video starts.video o.queues.video n.queues.video
  pub audio : AddedIn added.audio starts.audio o.queues.audio n.queues.audio
  pub sub : AddedIn added.sub starts.sub o.queues.sub n.queues.sub

three_added : (added : Choice) (starts : Starts) (o a b n : RangeState) → OneAdded Video added.video starts.video o a → OneAdded Audio added.audio starts.audio a b → OneAdded Sub added.sub starts.sub b n
    → AllAdded added starts o n
three_added added starts o a b n x y z =
    let nv : n.queues.video ≡ a.queues.video = ap (λ (q : Queues). q.video) z.others ∙ ap (λ (q : Queues). q.video) y.others in
    let na : n.queues.audio ≡ b.queues.audio = ap (λ (q : Queues). q.audio) z.others in
    let aa : a.queues.audio ≡ o.queues.audio = ap (λ (q : Queues). q.audio) x.others in
    let bs : b.queues.sub ≡ o.queues.sub = ap (λ (q : Queues). q.sub) y.others ∙ ap (λ (q : Queues). q.sub) x.others in
    record {
      set_is = z.set_is ∙ y.set_is ∙ x.set_is;
      video = subst (λ (q : Option QueueState). AddedIn added.video starts.video o.queues.video q) (sym nv) x.added;
      audio = subst (λ (q : Option QueueState). AddedIn added.audio starts.audio o.queues.audio q) (sym na)
          (subst (λ (q : Option QueueState). AddedIn added.audio starts.audio q b.queues.audio) aa y.added);
      sub = subst (λ (q : Option QueueState). AddedIn added.sub starts.sub q n.queues.sub) bs z.added;
    }

pub record CurrentAdded (added : Choice) (starts : Starts) (r : RangeState) (old new : CacheState) : Type 0 where
  pub current : RangeState
  pub is : new.current ≡ Some current
  pub all : AllAdded added starts r current
  pub others_is : new.others ≡ old.others
  pub limits_are : new.limits ≡ old.limits

pub there : (P : RangeState → Type 0) (o : Option RangeState) → IsSomeAnd o P → (r : RangeState) × (o ≡ Some r) × P r
there P None h = absurd h
there P (Some r) h = (r, refl, h)

pub tracks_added : (added : Choice) (starts : Starts) (r : RangeState) (old new : CacheState) → old.current ≡ Some r → AddsTracks added starts old new → CurrentAdded added starts r old new
tracks_added added starts r old new e t =
    let x = one_added Video added.video starts.video starts.mark r old t.one e t.video in
    let a = there (λ q. OneAdded Video added.video starts.video r q) t.one.current x.current in
    let y = one_added Audio added.audio starts.audio starts.mark a.0 t.one t.two a.1 t.audio in
    let b = there (λ q. OneAdded Audio added.audio starts.audio a.0 q) t.two.current y.current in
    let z = one_added Sub added.sub starts.sub starts.mark b.0 t.two new b.1 t.sub in
    let n = there (λ q. OneAdded Sub added.sub starts.sub b.0 q) new.current z.current in
    record {
      current = n.0;
      is = n.1;
      all = three_added added starts r a.0 b.0 n.0 a.2 b.2 n.2;
      others_is = z.others_is ∙ y.others_is ∙ x.others_is;
      limits_are = z.limits_are ∙ y.limits_are ∙ x.limits_are;
    }

-- ---- what has to be so before

may_kind : (kind : Kind) (track start : Option ℕ) (mark : Mark) (r : RangeState) (st : CacheState) → st.current ≡ Some r → AtMark mark.pos start
    → ((k : ℕ) → track ≡ Some k → (selected_under kind r.set ≡ Some k) × (queue_under kind r.queues ≡ None)) → MayAddOne kind track start mark st
may_kind kind None start mark r st e m f = tt
may_kind kind (Some k) None mark r st e m f = tt
may_kind kind (Some k) (Some s) mark r st e m f =
    (subst (λ (o : Option RangeState). IsSomeAnd o (λ r. (selected_under kind r.set ≡ Some k) × (queue_under kind r.queues ≡ None))) (sym e) (f k refl), m)

is_none : (o : Option QueueState) → is_some o ≡ false → o ≡ None
is_none None e = refl
is_none (Some q) e = absurd (cc)

picks : (o : Option ℕ) (w : Option ℕ) (k : ℕ) → IsSelected o w → w ≡ Some k → o ≡ Some k
picks o None k s e = absurd (cc)
picks o (Some m) k s e = s ∙ e

pub may_add : (set waiting : Choice) (heads : Heads) (others : List RangeState) (starts : Starts) (r : RangeState) (st : CacheState) → st.current ≡ Some r → IsRange r → r.set ≡ set
    → AreAwaited set waiting others → AreQueued set waiting r → AreAtMark starts → MayAddAll waiting starts st
may_add set waiting heads others starts r st e i own w q m =
    let kinds = set_kinds set heads r i own in
    record {
      video = may_kind Video waiting.video starts.video starts.mark r st e m.video (λ k f.
          let p = picks set.video waiting.video k w.video f in
          (ap (λ (s : Choice). s.video) own ∙ p, sym (kinds.video k p).0 ∙ is_none (queue_of k r.queues) (q.blank k (has_video waiting k f))));
      audio = may_kind Audio waiting.audio starts.audio starts.mark r st e m.audio (λ k f.
          let p = picks set.audio waiting.audio k w.audio f in
          (ap (λ (s : Choice). s.audio) own ∙ p, sym (kinds.audio k p).0 ∙ is_none (queue_of k r.queues) (q.blank k (has_audio waiting k f))));
      sub = may_kind Sub waiting.sub starts.sub starts.mark r st e m.sub (λ k f.
          let p = picks set.sub waiting.sub k w.sub f in
          (ap (λ (s : Choice). s.sub) own ∙ p, sym (kinds.sub k p).0 ∙ is_none (queue_of k r.queues) (q.blank k (has_sub waiting k f))));
    }

-- ---- then all tracks can be read

some_is : (P : QueueState → Type 0) (o : Option QueueState) → IsSomeAnd o P → is_some o ≡ true
some_is P None h = absurd h
some_is P (Some q) h = refl

add_there : (t w s : Option ℕ) (o n : Option QueueState) (hd : Option Pos) → AddedIn w s o n → is_some s ≡ is_some w
    → ((k : ℕ) → t ≡ Some k → w ≡ None → (is_some o ≡ true) × (is_some hd ≡ true)) → IsThere t n (head_at s hd)
add_there t None None o n hd a e f = λ k g. let b = f k g refl in (ap (λ (x : Option QueueState). is_some x) a ∙ b.0, b.1)
add_there t None (Some s) o n hd a e f = absurd (cc)
add_there t (Some x) None o n hd a e f = absurd (cc)
add_there t (Some x) (Some s) o n hd a e f = λ k g. (some_is (λ q. IsNew x (place_at s) q) n a, refl)

pub wait_off : (a b w : Option ℕ) (k : ℕ) → is_other a b ≡ true → a ≡ Some k → IsSelected b w → is_track w k ≡ false
wait_off a b None k o e s = refl
wait_off a b (Some m) k o e s = elim (cases_Bool (m == k)) [
  | inl y ↦
      let g : m ≡ k = eqb-true m k y in
      let both : is_other (Some k) (Some k) ≡ true = subst (λ (x : Option ℕ). is_other x (Some k) ≡ true) e (subst (λ (x : Option ℕ). is_other a x ≡ true) (s ∙ ap (λ (n : ℕ). Some n) g) o) in
      let same : (k == k) ≡ true = eq-eqb k k refl in
      absurd (let bad : false ≡ true = rw same at both in cc)
  | inr n ↦ n
]

none_off : (w : Option ℕ) (k : ℕ) → w ≡ None → is_track w k ≡ false
none_off w k e = ap (λ (x : Option ℕ). is_track x k) e

no_wait : (w : Choice) (k : ℕ) → is_track w.video k ≡ false → is_track w.audio k ≡ false → is_track w.sub k ≡ false → has w k ≡ false
no_wait w k a b c = rw (a, b, c) refl

old_there : (set waiting : Choice) (heads : Heads) (r : RangeState) (t : Option ℕ) (q : Option QueueState) (hd : Option Pos) (k : ℕ) → AreQueued set waiting r → HaveHeads set heads r
    → (queue_of k r.queues ≡ q) × (head_of set heads k ≡ hd) → has set k ≡ true → has waiting k ≡ false → (is_some q ≡ true) × (is_some hd ≡ true)
old_there set waiting heads r t q hd k a h kind s n =
    let some = a.queued k s n in
    (sym (ap (λ (x : Option QueueState). is_some x) kind.0) ∙ some, sym (ap (λ (x : Option Pos). is_some x) kind.1) ∙ h k some)

add_weight : (w s : Option ℕ) (o n : Option QueueState) → AddedIn w s o n → queue_weight n ≤ queue_weight o
add_weight None s o n a = rw a (omega arith)
add_weight (Some k) None o n a = rw a (omega arith)
add_weight (Some k) (Some s) o None a = absurd a
add_weight (Some k) (Some s) o (Some q) a = let e = ap (λ (ps : List Packet). weights ps) a.none_yet in omega arith

add_count : (w s : Option ℕ) (o n : Option QueueState) → AddedIn w s o n → count n ≤ count o
add_count None s o n a = rw a (omega arith)
add_count (Some k) None o n a = rw a (omega arith)
add_count (Some k) (Some s) o None a = absurd a
add_count (Some k) (Some s) o (Some q) a = let e = ap (λ (ps : List Packet). length ps) a.none_yet in omega arith

all_placed : (set waiting : Choice) (heads : Heads) (starts : Starts) (r n : RangeState) (others : List RangeState) → IsRange r → IsRange n → r.set ≡ set → AreAwaited set waiting others
    → AreQueued set waiting r → HaveHeads set heads r → AreStartsFor waiting starts → AllAdded waiting starts r n → IsPlaced set (heads_at starts heads) nothing None (Some n)
all_placed set waiting heads starts r n others i j own w q h f a =
    let kinds = set_kinds set heads r i own in
    let d : is_distinct set ≡ true = subst (λ (s : Choice). is_distinct s ≡ true) own i.distinct in
    let one = and_parts (is_other set.video set.audio) (is_other set.video set.sub && is_other set.audio set.sub) d in
    let two = and_parts (is_other set.video set.sub) (is_other set.audio set.sub) one.1 in
    kinds_placed set (heads_at starts heads) n j (a.set_is ∙ own)
    (add_there set.video waiting.video starts.video r.queues.video n.queues.video heads.video a.video f.video (λ k e z.
    old_there set waiting heads r set.video r.queues.video heads.video k q h (kinds.video k e) (has_video set k e)
    (no_wait waiting k (none_off waiting.video k z) (wait_off set.video set.audio waiting.audio k one.0 e w.audio) (wait_off set.video set.sub waiting.sub k two.0 e w.sub))))
    (add_there set.audio waiting.audio starts.audio r.queues.audio n.queues.audio heads.audio a.audio f.audio (λ k e z.
    old_there set waiting heads r set.audio r.queues.audio heads.audio k q h (kinds.audio k e) (has_audio set k e)
    (no_wait waiting k (wait_off set.audio set.video waiting.video k (other_way set.video set.audio one.0) e w.video) (none_off waiting.audio k z) (wait_off set.audio set.sub waiting.sub k two.1 e w.sub))))
    (add_there set.sub waiting.sub starts.sub r.queues.sub n.queues.sub heads.sub a.sub f.sub (λ k e z.
    old_there set waiting heads r set.sub r.queues.sub heads.sub k q h (kinds.sub k e) (has_sub set k e)
    (no_wait waiting k (wait_off set.sub set.video waiting.video k (other_way set.video set.sub two.0) e w.video) (wait_off set.sub set.audio waiting.audio k (other_way set.audio set.sub two.1) e w.audio)
    (none_off waiting.sub k z))))

pub add_begins : (set waiting : Choice) (heads : Heads) (starts : Starts) (r : RangeState) (old new : CacheState) → IsCache new → old.current ≡ Some r → IsRange r → r.set ≡ set
    → AreAwaited set waiting old.others → AreQueued set waiting r → HaveHeads set heads r → AreStartsFor waiting starts → AddsTracks waiting starts old new → HasBegun set (heads_at starts heads) old new
add_begins set waiting heads starts r old new ic e i own w q h f t =
    let c = tracks_added waiting starts r old new e t in
    let n = c.current in
    let a = c.all in
    let before : ranges_of old ≡ r ∷ old.others = ap (λ (x : Option RangeState). in_front x old.others) e in
    let after : ranges_of new ≡ n ∷ old.others = ap (λ (x : Option RangeState). in_front x new.others) c.is ∙ ap (λ (rs : List RangeState). n ∷ rs) c.others_is in
    let range : IsRange n = subst (λ (x : Option RangeState). IfSome x IsRange) c.is ic.current in
    let wv = add_weight waiting.video starts.video r.queues.video n.queues.video a.video in
    let wa = add_weight waiting.audio starts.audio r.queues.audio n.queues.audio a.audio in
    let ws = add_weight waiting.sub starts.sub r.queues.sub n.queues.sub a.sub in
    let cv = add_count waiting.video starts.video r.queues.video n.queues.video a.video in
    let ca = add_count waiting.audio starts.audio r.queues.audio n.queues.audio a.audio in
    let cs = add_count waiting.sub starts.sub r.queues.sub n.queues.sub a.sub in
    record {
      placed = subst (λ (x : Option RangeState). IsPlaced set (heads_at starts heads) nothing None x) (sym c.is) (all_placed set waiting heads starts r n old.others i range own w q h f a);
      sets = λ x.
          let y : AllByRecursion (λ r. r.set ≡ set) (r ∷ old.others) = subst (λ (rs : List RangeState). AllByRecursion (λ r. r.set ≡ set) rs) before x in
          subst (λ (rs : List RangeState). AllByRecursion (λ r. r.set ≡ set) rs) (sym after) (a.set_is ∙ own, y.1);
      lighter = rw (before, after) (omega arith);
      fewer = rw (before, after) (omega arith);
      limits_are = c.limits_are;
    }
