-- Over the film's list the current range with added tracks is the one of the rule.
use Rattle.std.proofs.Common.{◌≡◌, ℕ, true, false, Option, Some, None, List, refl, ap, sym, subst, ◌∙◌, inl, inr}
use Rattle.std.specs.Prelude.{is_some, IfSome}
use Rattle.std.specs.Option.{option_map}
use Rattle.std.proofs.lemmas.Bool.{cases_Bool, eq-eqb}
use Rattle.mc_packet.specs.declared.choice.Choice.{Choice}
use Rattle.mc_packet.specs.declared.choice.Starts.{Starts}
use Rattle.mc_packet.specs.declared.cache.Heads.{Heads}
use Rattle.mc_packet.specs.declared.walk.Mark.{Mark}
use Rattle.mc_packet.specs.declared.packet.Packet.{Packet}
use Rattle.mc_packet.specs.Choices.{or_else, is_track}
use Rattle.mc_journal.specs.Films.{first_lane, track_of}
use Rattle.mc_journal.specs.Ranges.{in_span}
use Rattle.mc_journal.specs.Stands.{empty_span, span_given, start_given}
use Rattle.mc_queue.specs.Queue.{QueueState}
use Rattle.mc_range.specs.declared.queues.Queues.{Queues}
use Rattle.mc_range.specs.Range.{RangeState, IsRange, QueueIn, QueuesIn, own, queue_of, span_of}
use Rattle.mc_range.specs.Serving.{HoldsFilm, packets_in}
use Rattle.mc_range.proofs.Chosen.{blank_held, new_blank}
use Rattle.mc_range.proofs.Places.{same_lane}
use Rattle.mc_range.proofs.Selecting.{is_it}
use Rattle.mc_calls.specs.Outcomes.{AreStartsFor}
use Rattle.mc_calls.proofs.Adding.{AddedIn, AllAdded}
use Rattle.mc_calls.proofs.Placing.{own_off, set_kinds}

-- ---- a track is of one kind, or of none

is_own : (o : Option ℕ) (k : ℕ) → o ≡ Some k → is_track o k ≡ true
is_own o k e = subst (λ (x : Option ℕ). is_track x k ≡ true) (sym e) (eq-eqb k k refl)

pub data OfKind (set : Choice) (k : ℕ) : Type 0 where
  of_video : set.video ≡ Some k → OfKind set k
  of_audio : is_track set.video k ≡ false → set.audio ≡ Some k → OfKind set k
  of_sub : is_track set.video k ≡ false → is_track set.audio k ≡ false → set.sub ≡ Some k → OfKind set k
  of_none : is_track set.video k ≡ false → is_track set.audio k ≡ false → is_track set.sub k ≡ false → OfKind set k

pub of_kind : (set : Choice) (k : ℕ) → OfKind set k
of_kind set k = elim (cases_Bool (is_track set.video k)) [
  | inl y ↦ of_video (is_it set.video k y)
  | inr nv ↦ elim (cases_Bool (is_track set.audio k)) [
    | inl y ↦ of_audio nv (is_it set.audio k y)
    | inr na ↦ elim (cases_Bool (is_track set.sub k)) [ inl y ↦ of_sub nv na (is_it set.sub k y) | inr ns ↦ of_none nv na ns ]
  ]
]

pub no_queue : (set : Choice) (m : Mark) (qs : Queues) (k : ℕ) → QueuesIn set m qs → is_track set.video k ≡ false → is_track set.audio k ≡ false → is_track set.sub k ≡ false → queue_of k qs ≡ None
no_queue set m qs k i a b c =
    let x = own_off set.video m qs.video k i.video a in
    let y = own_off set.audio m qs.audio k i.audio b in
    let z = own_off set.sub m qs.sub k i.sub c in
    rw (x, y, z) refl

pub in_set : (set : Choice) (r : RangeState) → IsRange r → r.set ≡ set → QueuesIn set r.mark r.queues
in_set set r i e = subst (λ (s : Choice). QueuesIn s r.mark r.queues) e i.held

-- the start that was found for a track of each kind
pub given_video : (set : Choice) (starts : Starts) (k : ℕ) → set.video ≡ Some k → start_given set starts k ≡ starts.video
given_video set starts k e = let y = is_own set.video k e in rw y refl

pub given_audio : (set : Choice) (starts : Starts) (k : ℕ) → is_track set.video k ≡ false → set.audio ≡ Some k → start_given set starts k ≡ starts.audio
given_audio set starts k n e = let y = is_own set.audio k e in rw (n, y) refl

pub given_sub : (set : Choice) (starts : Starts) (k : ℕ) → is_track set.video k ≡ false → is_track set.audio k ≡ false → set.sub ≡ Some k → start_given set starts k ≡ starts.sub
given_sub set starts k n m e = let y = is_own set.sub k e in rw (n, m, y) refl

given_none : (set : Choice) (starts : Starts) (k : ℕ) → is_track set.video k ≡ false → is_track set.audio k ≡ false → is_track set.sub k ≡ false → start_given set starts k ≡ None
given_none set starts k a b c = rw (a, b, c) refl

-- ---- spans

added_span : (w s : Option ℕ) (o n : Option QueueState) → AddedIn w s o n → is_some s ≡ is_some w
    → option_map span_of n ≡ or_else (option_map (λ block. empty_span (first_lane block)) s) (option_map span_of o)
added_span None None o n a e = ap (λ (x : Option QueueState). option_map span_of x) a
added_span None (Some s) o n a e = absurd (cc)
added_span (Some w) None o n a e = absurd (cc)
added_span (Some w) (Some s) o None a e = absurd a
added_span (Some w) (Some s) o (Some q) a e =
    let f = a.from_is in
    let t = a.to_is in
    let l = same_lane s in
    rw (f, t, l) refl

span_one : (set : Choice) (starts : Starts) (k : ℕ) (w s : Option ℕ) (o n : Option QueueState) (qo qn : Option QueueState) → AddedIn w s o n → is_some s ≡ is_some w → qo ≡ o → qn ≡ n → start_given set starts k ≡ s
    → option_map span_of qn ≡ or_else (span_given set starts k) (option_map span_of qo)
span_one set starts k w s o n qo qn a e x y g =
    ap (λ (z : Option QueueState). option_map span_of z) y ∙ added_span w s o n a e
    ∙ ap (λ (z : Option QueueState). or_else (option_map (λ block. empty_span (first_lane block)) s) (option_map span_of z)) (sym x)
    ∙ ap (λ (z : Option ℕ). or_else (option_map (λ block. empty_span (first_lane block)) z) (option_map span_of qo)) (sym g)

pub span_all : (set waiting : Choice) (heads : Heads) (starts : Starts) (r n : RangeState) (k : ℕ) → IsRange r → IsRange n → r.set ≡ set → AllAdded waiting starts r n → AreStartsFor waiting starts → OfKind set k
    → option_map span_of (queue_of k n.queues) ≡ or_else (span_given set starts k) (option_map span_of (queue_of k r.queues))
span_all set waiting heads starts r n k i j own a f (of_video e) =
    span_one set starts k waiting.video starts.video r.queues.video n.queues.video (queue_of k r.queues) (queue_of k n.queues) a.video f.video
    ((set_kinds set heads r i own).video k e).0 ((set_kinds set heads n j (a.set_is ∙ own)).video k e).0 (given_video set starts k e)
span_all set waiting heads starts r n k i j own a f (of_audio x e) =
    span_one set starts k waiting.audio starts.audio r.queues.audio n.queues.audio (queue_of k r.queues) (queue_of k n.queues) a.audio f.audio
    ((set_kinds set heads r i own).audio k e).0 ((set_kinds set heads n j (a.set_is ∙ own)).audio k e).0 (given_audio set starts k x e)
span_all set waiting heads starts r n k i j own a f (of_sub x y e) =
    span_one set starts k waiting.sub starts.sub r.queues.sub n.queues.sub (queue_of k r.queues) (queue_of k n.queues) a.sub f.sub
    ((set_kinds set heads r i own).sub k e).0 ((set_kinds set heads n j (a.set_is ∙ own)).sub k e).0 (given_sub set starts k x y e)
span_all set waiting heads starts r n k i j own a f (of_none x y z) =
    let u = no_queue set r.mark r.queues k (in_set set r i own) x y z in
    let v = no_queue set n.mark n.queues k (in_set set n j (a.set_is ∙ own)) x y z in
    let g = given_none set starts k x y z in
    rw (u, v) (ap (λ (s : Option ℕ). or_else (option_map (λ block. empty_span (first_lane block)) s) None) (sym g))

-- ---- the film's packets

abbrev Holds : List Packet → ℕ → Option QueueState → Type 0
Holds ps k o = in_span (option_map span_of o) (track_of k ps) ≡ (packets_in o)

added_holds : (ps : List Packet) (k : ℕ) (w s : Option ℕ) (o n : Option QueueState) → AddedIn w s o n → IfSome n (λ q. q.track ≡ k) → Holds ps k o → Holds ps k n
added_holds ps k None s o n a t h = subst (λ (x : Option QueueState). Holds ps k x) (sym a) h
added_holds ps k (Some w) None o n a t h = subst (λ (x : Option QueueState). Holds ps k x) (sym a) h
added_holds ps k (Some w) (Some s) o None a t h = absurd a
added_holds ps k (Some w) (Some s) o (Some q) a t h = blank_held ps k (Some q) (t, new_blank w s q a)

holds_one : (ps : List Packet) (k : ℕ) (t : Option ℕ) (m : Mark) (w s : Option ℕ) (o n qo qn : Option QueueState) → AddedIn w s o n → QueueIn t m n → t ≡ Some k → qo ≡ o → qn ≡ n → Holds ps k qo → Holds ps k qn
holds_one ps k t m w s o n qo qn a i e x y h =
    subst (λ (z : Option QueueState). Holds ps k z) (sym y) (added_holds ps k w s o n a (own_track n i) (subst (λ (z : Option QueueState). Holds ps k z) x h))
  where
    some : (a b : ℕ) → Some a ≡ Some b → a ≡ b
    some a b e = cc

    own_track : (q : Option QueueState) → QueueIn t m q → IfSome q (λ z. z.track ≡ k)
    own_track None i = tt
    own_track (Some q) i = some q.track k (sym i.0 ∙ e)

holds_all : (ps : List Packet) (set waiting : Choice) (heads : Heads) (starts : Starts) (r n : RangeState) (k : ℕ) → IsRange r → IsRange n → r.set ≡ set → AllAdded waiting starts r n → HoldsFilm ps r → OfKind set k
    → Holds ps k (queue_of k n.queues)
holds_all ps set waiting heads starts r n k i j own a h (of_video e) =
    holds_one ps k set.video n.mark waiting.video starts.video r.queues.video n.queues.video (queue_of k r.queues) (queue_of k n.queues) a.video (in_set set n j (a.set_is ∙ own)).video e
    ((set_kinds set heads r i own).video k e).0 ((set_kinds set heads n j (a.set_is ∙ own)).video k e).0 (h k)
holds_all ps set waiting heads starts r n k i j own a h (of_audio x e) =
    holds_one ps k set.audio n.mark waiting.audio starts.audio r.queues.audio n.queues.audio (queue_of k r.queues) (queue_of k n.queues) a.audio (in_set set n j (a.set_is ∙ own)).audio e
    ((set_kinds set heads r i own).audio k e).0 ((set_kinds set heads n j (a.set_is ∙ own)).audio k e).0 (h k)
holds_all ps set waiting heads starts r n k i j own a h (of_sub x y e) =
    holds_one ps k set.sub n.mark waiting.sub starts.sub r.queues.sub n.queues.sub (queue_of k r.queues) (queue_of k n.queues) a.sub (in_set set n j (a.set_is ∙ own)).sub e
    ((set_kinds set heads r i own).sub k e).0 ((set_kinds set heads n j (a.set_is ∙ own)).sub k e).0 (h k)
holds_all ps set waiting heads starts r n k i j own a h (of_none x y z) =
    let v = no_queue set n.mark n.queues k (in_set set n j (a.set_is ∙ own)) x y z in
    subst (λ (o : Option QueueState). Holds ps k o) (sym v) refl

pub added_film : (ps : List Packet) (set waiting : Choice) (heads : Heads) (starts : Starts) (r n : RangeState) → IsRange r → IsRange n → r.set ≡ set → AllAdded waiting starts r n → HoldsFilm ps r → HoldsFilm ps n
added_film ps set waiting heads starts r n i j own a h = λ k. holds_all ps set waiting heads starts r n k i j own a h (of_kind set k)
