-- The mark and the ending of a range with added tracks, and the heads of a range where starts were found.
use Rattle.std.proofs.Common.{◌≡◌, ℕ, min, Bool, true, false, ◌&&◌, ◌||◌, Option, Some, None, refl, ap, sym, subst, ◌∙◌, inl, inr, arith}
use Rattle.std.specs.Prelude.{is_some, not, if◌then◌else◌, IfSome, IsSomeAnd, nat_lt}
use Rattle.std.specs.Option.{option_map_or}
use Rattle.std.proofs.lemmas.Bool.{cases_Bool, and_parts, ltb-true, ltb-false, le-ltb}
use Rattle.mc_packet.specs.declared.packet.Pos.{Pos}
use Rattle.mc_packet.specs.declared.choice.Choice.{Choice}
use Rattle.mc_packet.specs.declared.choice.Kind.{Kind}
use Rattle.mc_packet.specs.declared.choice.Kind.TheVariants.{Video, Audio, Sub}
use Rattle.mc_packet.specs.declared.choice.Starts.{Starts}
use Rattle.mc_packet.specs.declared.cache.Heads.{Heads}
use Rattle.mc_packet.specs.declared.walk.Ending.{Ending}
use Rattle.mc_packet.specs.declared.walk.Mark.{Mark}
use Rattle.mc_packet.specs.Choices.{or_else, is_distinct, is_empty, is_other}
use Rattle.mc_journal.specs.Films.{first_lane, rank}
use Rattle.mc_journal.specs.Stands.{add_spans, start_given}
use Rattle.mc_queue.specs.Queue.{QueueState}
use Rattle.mc_range.specs.Range.{RangeState, IsBegun, IsRange, StartsAt, as_range, place_at, queue_of}
use Rattle.mc_range.specs.Tracks.{IsAdded}
use Rattle.mc_range.proofs.Fed.{range_is}
use Rattle.mc_range.proofs.Places.{same_lane}
use Rattle.mc_range.proofs.Unions.{other_way}
use Rattle.mc_cache.specs.Cache.{CacheState}
use Rattle.mc_calls.specs.Film.{PlacesAre}
use Rattle.mc_calls.specs.Finding.{AddsOne, AddsTracks}
use Rattle.mc_calls.specs.Outcomes.{AreStartsFor, head_at, heads_at}
use Rattle.mc_calls.specs.State.{head_of}
use Rattle.mc_calls.proofs.Adding.{AddedIn, AllAdded, there, wait_off}
use Rattle.mc_calls.proofs.Awaited.{same_selected}
use Rattle.mc_calls.proofs.ByKind.{KindIs}
use Rattle.mc_calls.proofs.FilmAdding.{OfKind, given_audio, given_sub, given_video, in_set, no_queue, of_kind, span_all}
use Rattle.mc_calls.proofs.FilmAdding.OfKind.{of_video, of_audio, of_sub, of_none}
use Rattle.mc_calls.proofs.Placing.{set_kinds}

-- ---- the mark goes back, and the ending with it

record Lowered (b : Bool) (m : Mark) (o n : RangeState) : Type 0 where
  mark : n.mark.pos ≡ (if b then min m.pos o.mark.pos else o.mark.pos)
  ending : n.ending ≡ (if b then (if nat_lt m.pos o.mark.pos then None else o.ending) else o.ending)

lower_again : (m : Mark) (o a n : RangeState) → Lowered true m o a → Lowered true m a n → Lowered true m o n
lower_again m o a n x y =
    let p = x.mark in
    let q = y.mark in
    let off : nat_lt m.pos a.mark.pos ≡ false = le-ltb m.pos a.mark.pos (omega arith) in
    record { mark = omega arith; ending = y.ending ∙ ap (λ (t : Bool). if t then None else a.ending) off ∙ x.ending }

lower_then : (b : Bool) (m : Mark) (o a n : RangeState) → Lowered b m o a → Lowered false m a n → Lowered b m o n
lower_then b m o a n x y = record { mark = y.mark ∙ x.mark; ending = y.ending ∙ x.ending }

lower_late : (m : Mark) (o a n : RangeState) → Lowered false m o a → Lowered true m a n → Lowered true m o n
lower_late m o a n x y = record {
  mark = y.mark ∙ ap (λ (p : ℕ). min m.pos p) x.mark;
  ending = y.ending ∙ ap (λ (p : ℕ). if nat_lt m.pos p then None else a.ending) x.mark ∙ ap (λ (e : Option Ending). if nat_lt m.pos o.mark.pos then None else e) x.ending;
}

lower_both : (b c : Bool) (m : Mark) (o a n : RangeState) → Lowered b m o a → Lowered c m a n → Lowered (b || c) m o n
lower_both true true m o a n x y = lower_again m o a n x y
lower_both true false m o a n x y = lower_then true m o a n x y
lower_both false true m o a n x y = lower_late m o a n x y
lower_both false false m o a n x y = lower_then false m o a n x y

lesser_pos : (a b : Mark) → (if nat_lt a.pos b.pos then a else b).pos ≡ min a.pos b.pos
lesser_pos a b = elim (cases_Bool (nat_lt a.pos b.pos)) [
  | inl y ↦ let l = ltb-true a.pos b.pos y in rw y (omega arith)
  | inr n ↦ let l = ltb-false a.pos b.pos n in rw n (omega arith)
]

unmoved : (m : Mark) (r : RangeState) → Lowered false m r r
unmoved m r = record { mark = refl; ending = refl }

moved : (kind : Kind) (track start : ℕ) (m : Mark) (r : RangeState) (o n : Option RangeState) → o ≡ Some r → IsSomeAnd o (λ x. IsSomeAnd n (λ y. IsAdded kind track start m x y))
    → IsSomeAnd n (λ q. Lowered true m r q)
moved kind track start m r o None e a =
    let z : IsSomeAnd (Some r) (λ x. IsSomeAnd None (λ y. IsAdded kind track start m x y)) = subst (λ (x : Option RangeState). IsSomeAnd x (λ x. IsSomeAnd None (λ y. IsAdded kind track start m x y))) e a in absurd z
moved kind track start m r o (Some q) e a =
    let z : IsAdded kind track start m r q = subst (λ (x : Option RangeState). IsSomeAnd x (λ x. IsAdded kind track start m x q)) e a in
    record { mark = ap (λ (x : Mark). x.pos) z.mark_is ∙ lesser_pos m r.mark; ending = z.ending_is }

lower_one : (kind : Kind) (track start : Option ℕ) (m : Mark) (r : RangeState) (old new : CacheState) → old.current ≡ Some r → is_some start ≡ is_some track → AddsOne kind track start m old new
    → IsSomeAnd new.current (λ q. Lowered (is_some start) m r q)
lower_one kind None None m r old new e f a =
    subst (λ (x : Option RangeState). IsSomeAnd x (λ q. Lowered false m r q)) (sym (ap (λ (c : CacheState). c.current) a ∙ e)) (unmoved m r)
lower_one kind None (Some s) m r old new e f a = absurd (cc)
lower_one kind (Some k) None m r old new e f a = absurd (cc)
lower_one kind (Some k) (Some s) m r old new e f a = moved kind k s m r old.current new.current e a.current

some_added : (v a s : Option ℕ) (x y z : Option ℕ) → is_some x ≡ is_some v → is_some y ≡ is_some a → is_some z ≡ is_some s → not (is_some (or_else s (or_else v a))) ≡ false
    → ((is_some x || is_some y) || is_some z) ≡ true
some_added v a s (Some x) y z e f g n = refl
some_added v a s None (Some y) z e f g n = refl
some_added v a s None None (Some z) e f g n = refl
some_added None None None None None None e f g n = absurd (cc)
some_added (Some v) a s None None None e f g n = absurd (cc)
some_added None (Some a) s None None None e f g n = absurd (cc)
some_added None None (Some s) None None None e f g n = absurd (cc)

some_range : (a b : RangeState) → Some a ≡ Some b → a ≡ b
some_range a b e = cc

lowered : (waiting : Choice) (starts : Starts) (r n : RangeState) (old new : CacheState) → old.current ≡ Some r → new.current ≡ Some n → AreStartsFor waiting starts → is_empty waiting ≡ false
    → AddsTracks waiting starts old new → Lowered true starts.mark r n
lowered waiting starts r n old new e g f some t =
    let m = starts.mark in
    let a = there (λ q. Lowered (is_some starts.video) m r q) t.one.current (lower_one Video waiting.video starts.video m r old t.one e f.video t.video) in
    let b = there (λ q. Lowered (is_some starts.audio) m a.0 q) t.two.current (lower_one Audio waiting.audio starts.audio m a.0 t.one t.two a.1 f.audio t.audio) in
    let c = there (λ q. Lowered (is_some starts.sub) m b.0 q) new.current (lower_one Sub waiting.sub starts.sub m b.0 t.two new b.1 f.sub t.sub) in
    let same : c.0 ≡ n = some_range c.0 n (sym c.1 ∙ g) in
    let all = lower_both (is_some starts.video || is_some starts.audio) (is_some starts.sub) m r b.0 c.0
    (lower_both (is_some starts.video) (is_some starts.audio) m r a.0 b.0 a.2 b.2) c.2 in
    let one = some_added waiting.video waiting.audio waiting.sub starts.video starts.audio starts.sub f.video f.audio f.sub some in
    subst (λ (q : RangeState). Lowered true m r q) same (subst (λ (b : Bool). Lowered b m r c.0) one all)

pub added_range : (set waiting : Choice) (heads : Heads) (starts : Starts) (r n : RangeState) (old new : CacheState) → IsRange r → IsRange n → r.set ≡ set → AllAdded waiting starts r n
    → old.current ≡ Some r → new.current ≡ Some n → AreStartsFor waiting starts → is_empty waiting ≡ false → AddsTracks waiting starts old new
    → as_range n ≡ add_spans set starts (as_range r)
added_range set waiting heads starts r n old new i j own a e g f some t =
    let l = lowered waiting starts r n old new e g f some t in
    range_is _ _ _ _ _ _ (λ k. span_all set waiting heads starts r n k i j own a f (of_kind set k)) l.mark l.ending

-- ---- heads

abbrev pub IsAt : (ℕ → ℕ) → Option ℕ → Option QueueState → Option Pos → Type 0
IsAt place t q hd = (k : ℕ) → t ≡ Some k → IfSome q (λ x. IsSomeAnd hd (λ p. rank p ≡ place k))

place_one : (place : ℕ) (q qk : Option QueueState) (hd hk : Option Pos) → qk ≡ q → hk ≡ hd → IfSome q (λ x. IsSomeAnd hd (λ p. rank p ≡ place)) → IfSome qk (λ x. IsSomeAnd hk (λ p. rank p ≡ place))
place_one place q qk hd hk e f h =
    subst (λ (x : Option QueueState). IfSome x (λ x. IsSomeAnd hk (λ p. rank p ≡ place))) (sym e) (subst (λ (y : Option Pos). IfSome q (λ x. IsSomeAnd y (λ p. rank p ≡ place))) (sym f) h)

place_kind : (set : Choice) (heads : Heads) (place : ℕ → ℕ) (r : RangeState) (k : ℕ) → IsRange r → r.set ≡ set → IsAt place set.video r.queues.video heads.video → IsAt place set.audio r.queues.audio heads.audio
    → IsAt place set.sub r.queues.sub heads.sub → OfKind set k → IfSome (queue_of k r.queues) (λ q. IsSomeAnd (head_of set heads k) (λ p. rank p ≡ place k))
place_kind set heads place r k i own v a s (of_video e) =
    let b = (set_kinds set heads r i own).video k e in place_one (place k) r.queues.video (queue_of k r.queues) heads.video (head_of set heads k) b.0 b.1 (v k e)
place_kind set heads place r k i own v a s (of_audio x e) =
    let b = (set_kinds set heads r i own).audio k e in place_one (place k) r.queues.audio (queue_of k r.queues) heads.audio (head_of set heads k) b.0 b.1 (a k e)
place_kind set heads place r k i own v a s (of_sub x y e) =
    let b = (set_kinds set heads r i own).sub k e in place_one (place k) r.queues.sub (queue_of k r.queues) heads.sub (head_of set heads k) b.0 b.1 (s k e)
place_kind set heads place r k i own v a s (of_none x y z) =
    let u = no_queue set r.mark r.queues k (in_set set r i own) x y z in
    subst (λ (o : Option QueueState). IfSome o (λ q. IsSomeAnd (head_of set heads k) (λ p. rank p ≡ place k))) (sym u) tt

places_kinds : (set : Choice) (heads : Heads) (place : ℕ → ℕ) (r : RangeState) → IsRange r → r.set ≡ set → IsAt place set.video r.queues.video heads.video → IsAt place set.audio r.queues.audio heads.audio
    → IsAt place set.sub r.queues.sub heads.sub → PlacesAre set heads place r
places_kinds set heads place r i own v a s = λ k. place_kind set heads place r k i own v a s (of_kind set k)

-- ---- a start found

at_start : (b : ℕ) (g : Option ℕ) (x : ℕ) → g ≡ Some b → rank (place_at b) ≡ option_map_or first_lane g x
at_start b g x e = same_lane b ∙ ap (λ (o : Option ℕ). option_map_or first_lane o x) (sym e)

-- of a range that begins, each track has its start
begun_at : (given : ℕ → Option ℕ) (x : ℕ → ℕ) (t s : Option ℕ) (q : Option QueueState) (hd : Option Pos) → StartsAt t s q → is_some s ≡ is_some t → ((k : ℕ) → t ≡ Some k → given k ≡ s)
    → IsAt (λ k. option_map_or first_lane (given k) (x k)) t q (head_at s hd)
begun_at given x t s None hd h e g = λ k f. tt
begun_at given x None s (Some q) hd h e g = λ k f. absurd (cc)
begun_at given x (Some t) None (Some q) hd h e g = λ k f. absurd (cc)
begun_at given x (Some t) (Some b) (Some q) hd h e g = λ k f. at_start b (given k) (x k) (g k f)

-- of one that stands, each track that waited, and the others as before
added_at : (given : ℕ → Option ℕ) (x : ℕ → ℕ) (t w s : Option ℕ) (o n : Option QueueState) (hd : Option Pos) → AddedIn w s o n → is_some s ≡ is_some w → ((k : ℕ) → t ≡ Some k → given k ≡ s)
    → IsAt x t o hd → IsAt (λ k. option_map_or first_lane (given k) (x k)) t n (head_at s hd)
added_at given x t None None o n hd a e g h = λ k f.
    subst (λ (z : Option QueueState). IfSome z (λ q. IsSomeAnd hd (λ p. rank p ≡ option_map_or first_lane (given k) (x k)))) (sym a)
    (subst (λ (z : Option ℕ). IfSome o (λ q. IsSomeAnd hd (λ p. rank p ≡ option_map_or first_lane z (x k)))) (sym (g k f)) (h k f))
added_at given x t None (Some s) o n hd a e g h = absurd (cc)
added_at given x t (Some w) None o n hd a e g h = absurd (cc)
added_at given x t (Some w) (Some b) o None hd a e g h = λ k f. tt
added_at given x t (Some w) (Some b) o (Some q) hd a e g h = λ k f. at_start b (given k) (x k) (g k f)

-- each selected track's start is that of its kind
given_by_audio : (set : Choice) (starts : Starts) (k : ℕ) → is_distinct set ≡ true → set.audio ≡ Some k → start_given set starts k ≡ starts.audio
given_by_audio set starts k d e =
    let one = and_parts (is_other set.video set.audio) (is_other set.video set.sub && is_other set.audio set.sub) d in
    given_audio set starts k (wait_off set.audio set.video set.video k (other_way set.video set.audio one.0) e (same_selected set.video)) e

given_by_sub : (set : Choice) (starts : Starts) (k : ℕ) → is_distinct set ≡ true → set.sub ≡ Some k → start_given set starts k ≡ starts.sub
given_by_sub set starts k d e =
    let one = and_parts (is_other set.video set.audio) (is_other set.video set.sub && is_other set.audio set.sub) d in
    let two = and_parts (is_other set.video set.sub) (is_other set.audio set.sub) one.1 in
    given_sub set starts k (wait_off set.sub set.video set.video k (other_way set.video set.sub two.0) e (same_selected set.video))
    (wait_off set.sub set.audio set.audio k (other_way set.audio set.sub two.1) e (same_selected set.audio)) e

-- the place of each track once starts were found
abbrev pub place_after : Choice → Starts → (ℕ → ℕ) → ℕ → ℕ
place_after set starts place k = option_map_or first_lane (start_given set starts k) (place k)

pub begun_places : (set : Choice) (heads : Heads) (starts : Starts) (place : ℕ → ℕ) (r : RangeState) → IsRange r → is_distinct set ≡ true → IsBegun set starts r → AreStartsFor set starts
    → PlacesAre set (heads_at starts heads) (place_after set starts place) r
begun_places set heads starts place r i d b f =
    places_kinds set (heads_at starts heads) (place_after set starts place) r i b.set_is
    (begun_at (start_given set starts) place set.video starts.video r.queues.video heads.video b.video f.video (λ k e. given_video set starts k e))
    (begun_at (start_given set starts) place set.audio starts.audio r.queues.audio heads.audio b.audio f.audio (λ k e. given_by_audio set starts k d e))
    (begun_at (start_given set starts) place set.sub starts.sub r.queues.sub heads.sub b.sub f.sub (λ k e. given_by_sub set starts k d e))

old_at : (set : Choice) (heads : Heads) (place : ℕ → ℕ) (r : RangeState) (t : Option ℕ) (q : Option QueueState) (hd : Option Pos) → KindIs set heads r.queues t q hd → PlacesAre set heads place r → IsAt place t q hd
old_at set heads place r t q hd kind p = λ k e.
    let b = kind k e in place_one (place k) (queue_of k r.queues) q (head_of set heads k) hd (sym b.0) (sym b.1) (p k)

pub added_places : (set waiting : Choice) (heads : Heads) (starts : Starts) (place : ℕ → ℕ) (r n : RangeState) → IsRange r → IsRange n → r.set ≡ set → is_distinct set ≡ true → AllAdded waiting starts r n
    → AreStartsFor waiting starts → PlacesAre set heads place r → PlacesAre set (heads_at starts heads) (place_after set starts place) n
added_places set waiting heads starts place r n i j own d a f p =
    let kinds = set_kinds set heads r i own in
    places_kinds set (heads_at starts heads) (place_after set starts place) n j (a.set_is ∙ own)
    (added_at (start_given set starts) place set.video waiting.video starts.video r.queues.video n.queues.video heads.video a.video f.video (λ k e. given_video set starts k e)
    (old_at set heads place r set.video r.queues.video heads.video kinds.video p))
    (added_at (start_given set starts) place set.audio waiting.audio starts.audio r.queues.audio n.queues.audio heads.audio a.audio f.audio (λ k e. given_by_audio set starts k d e)
    (old_at set heads place r set.audio r.queues.audio heads.audio kinds.audio p))
    (added_at (start_given set starts) place set.sub waiting.sub starts.sub r.queues.sub n.queues.sub heads.sub a.sub f.sub (λ k e. given_by_sub set starts k d e)
    (old_at set heads place r set.sub r.queues.sub heads.sub kinds.sub p))
