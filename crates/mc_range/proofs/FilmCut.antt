-- The next drop of a range that holds a film's packets is that of the definitions over the film's list, and what is left holds them.
use Rattle.std.proofs.Common.{◌≡◌, ℕ, ◌≤◌, ◌==◌, true, false, List, [], ◌∷◌, drop, Option, Some, None, refl, ap, subst, sym, ◌∙◌, inl, inr}
use Rattle.std.specs.Prelude.{⊤, nat_le, nat_lt, IfSome, IsSomeAnd}
use Rattle.std.specs.List.{filter}
use Rattle.std.specs.Option.{option_map, option_map_or}
use Rattle.std.proofs.lemmas.Bool.{cases_Bool, eqb-true, eqb-false, ne_eqb}
use Rattle.mc_packet.specs.declared.packet.Packet.{Packet}
use Rattle.mc_packet.specs.declared.packet.Pos.{Pos}
use Rattle.mc_packet.specs.declared.cache.Heads.{Heads}
use Rattle.mc_packet.specs.declared.choice.Choice.{Choice}
use Rattle.mc_packet.specs.declared.choice.Kind.{Kind}
use Rattle.mc_packet.specs.declared.choice.Kind.TheVariants.{Video, Audio, Sub}
use Rattle.mc_packet.specs.declared.walk.Mark.{Mark}
use Rattle.mc_journal.specs.Films.{at, rank, first, track_of}
use Rattle.mc_journal.specs.Ranges.{Span, held, in_span, within}
use Rattle.mc_journal.specs.Stands.{cut_span, cut_range}
use Rattle.mc_journal.specs.Views.{from_place}
use Rattle.mc_journal.specs.Used as used
use Rattle.mc_journal.specs.Used.{at_most, next_sync}
use Rattle.mc_journal.proofs.Splitting.{within-cut}
use Rattle.mc_queue.specs.Places.{place, Rise}
use Rattle.mc_queue.specs.Queue.{QueueState, IsQueue, DropsTo, first_of, first_that, place_or, next_cut, is_sync}
use Rattle.mc_range.specs.declared.queues.Queues.{Queues}
use Rattle.mc_range.specs.declared.cutting.Cut.{Cut}
use Rattle.mc_range.specs.declared.cutting.Victim.{Victim}
use Rattle.mc_range.specs.Range.{RangeState, QueueIn, IsRange, own, queue_of, span_of, spans_of, as_range}
use Rattle.mc_range.specs.Serving.{packets_in, HoldsFilm}
use Rattle.mc_range.specs.Tracks.{selected_under, queue_under, with_queue}
use Rattle.mc_range.specs.Cutting.{bound_under, cuttable, first_cuttable, victim_under, earlier_victim, victim_in, victim, cut_at, cut_of, CutsOne, Cuts, IsCut, IsAheadIn}
use Rattle.mc_range.specs.Filmed.{AreBounds}
use Rattle.mc_range.proofs.Dropping.{cut_low, victim_ahead, all_sound, sound_under}
use Rattle.mc_range.proofs.Fed.{range_is}
use Rattle.mc_range.proofs.Joined.{earlier_min}
use Rattle.mc_range.proofs.Unions.{video_is, audio_is, sub_is}

-- ---- the victim

-- a packet of the film and a victim are the same
abbrev Same : Queues → Option Packet → Option Victim → Type 0
Same qs None None = ⊤
Same qs None (Some v) = ⊥
Same qs (Some p) None = ⊥
Same qs (Some p) (Some v) = (at p ≡ rank v.place) × IsSomeAnd (queue_under v.kind qs) (λ q. p.track ≡ q.track)

same_earlier : (qs : Queues) (a b : Option Packet) (x y : Option Victim) → Same qs a x → Same qs b y → Same qs (used.earlier a b) (earlier_victim x y)
same_earlier qs None b None y h k = k
same_earlier qs None b (Some v) y h k = absurd h
same_earlier qs (Some p) b None y h k = absurd h
same_earlier qs (Some p) None (Some v) None h k = h
same_earlier qs (Some p) None (Some v) (Some w) h k = absurd k
same_earlier qs (Some p) (Some q) (Some v) None h k = absurd k
same_earlier qs (Some p) (Some q) (Some v) (Some w) h k =
    let e : nat_le (at p) (at q) ≡ nat_le (rank v.place) (rank w.place) = ap (λ m. nat_le m (at q)) h.0 ∙ ap (λ m. nat_le (rank v.place) m) k.0 in
    elim (cases_Bool (nat_le (rank v.place) (rank w.place))) [
      | inl y ↦ let z : nat_le (at p) (at q) ≡ true = e ∙ y in rw (y, z) h
      | inr n ↦ let z : nat_le (at p) (at q) ≡ false = e ∙ n in rw (n, z) k
    ]

first_same : (kind : Kind) (qs : Queues) (head : Option Pos) (q : QueueState) (ps : List Packet) → queue_under kind qs ≡ Some q → Rise q.track (rank q.from) (rank q.to) ps
    → Same qs (used.cuttable (option_map rank head) ps) (victim_under kind (cuttable head (first_of ps)))
first_same kind qs None q [] e r = tt
first_same kind qs (Some h) q [] e r = tt
first_same kind qs None q (p ∷ ps) e r = (refl, rw e r.0)
first_same kind qs (Some h) q (p ∷ ps) e r = elim (cases_Bool (nat_lt (place p) (rank h))) [
  | inl y ↦ rw y (refl, rw e r.0)
  | inr n ↦ rw n tt
]

kind_same : (ps : List Packet) (r : RangeState) (kind : Kind) (t : Option ℕ) (upto : ℕ → Option ℕ) (heads : Option Heads) (o : Option QueueState) → HoldsFilm ps r → QueueIn t r.mark o
    → queue_under kind r.queues ≡ o → ((k : ℕ) → t ≡ Some k → queue_of k r.queues ≡ o) → IfSome t (λ k. upto k ≡ option_map rank (bound_under kind heads))
    → Same r.queues (used.cut_first ps upto (as_range r) t) (victim_under kind (first_cuttable (bound_under kind heads) o))
kind_same ps r kind None upto heads None h i e f u = tt
kind_same ps r kind None upto heads (Some q) h i e f u = absurd (let z = i.0 in cc)
kind_same ps r kind (Some k) upto heads None h i e f u =
    let x : held (as_range r) ps k ≡ [] = h k ∙ ap (λ (x : Option QueueState). (packets_in x)) (f k refl) in
    rw (x, u) (none (bound_under kind heads))
  where
    none : (head : Option Pos) → Same r.queues (used.cuttable (option_map rank head) []) None
    none None = tt
    none (Some p) = tt
kind_same ps r kind (Some k) upto heads (Some q) h i e f u =
    let x : held (as_range r) ps k ≡ q.packets = h k ∙ ap (λ (x : Option QueueState). (packets_in x)) (f k refl) in
    rw (x, u) (first_same kind r.queues (bound_under kind heads) q q.packets e i.2.rise)

same_victim : (ps : List Packet) (r : RangeState) (upto : ℕ → Option ℕ) (heads : Option Heads) → IsRange r → HoldsFilm ps r → AreBounds r.set upto heads
    → Same r.queues (used.victim ps r.set upto (as_range r)) (victim heads r.queues)
same_victim ps r upto heads i h b =
    same_earlier r.queues (used.cut_first ps upto (as_range r) r.set.video) _ (victim_in Video heads r.queues) _
    (kind_same ps r Video r.set.video upto heads r.queues.video h i.held.video refl (λ k e. video_is r k i e) b.video)
    (same_earlier r.queues (used.cut_first ps upto (as_range r) r.set.audio) (used.cut_first ps upto (as_range r) r.set.sub) (victim_in Audio heads r.queues) (victim_in Sub heads r.queues)
    (kind_same ps r Audio r.set.audio upto heads r.queues.audio h i.held.audio refl (λ k e. audio_is r k i e) b.audio)
    (kind_same ps r Sub r.set.sub upto heads r.queues.sub h i.held.sub refl (λ k e. sub_is r k i e) b.sub))

-- ---- the track of a kind

queue_track : (t : Option ℕ) (m : Mark) (q : QueueState) (o : Option QueueState) → QueueIn t m o → o ≡ Some q → t ≡ Some q.track
queue_track t m q None i e = absurd cc
queue_track t m q (Some p) i e = i.0 ∙ ap (λ (x : QueueState). Some x.track) (some p q e)
  where
    some : (a b : QueueState) → Some a ≡ Some b → a ≡ b
    some a b e = cc

track_under : (r : RangeState) (kind : Kind) (q : QueueState) → IsRange r → queue_under kind r.queues ≡ Some q → (selected_under kind r.set ≡ Some q.track) × (queue_of q.track r.queues ≡ Some q)
track_under r Video q i e = let s = queue_track r.set.video r.mark q r.queues.video i.held.video e in (s, video_is r q.track i s ∙ e)
track_under r Audio q i e = let s = queue_track r.set.audio r.mark q r.queues.audio i.held.audio e in (s, audio_is r q.track i s ∙ e)
track_under r Sub q i e = let s = queue_track r.set.sub r.mark q r.queues.sub i.held.sub e in (s, sub_is r q.track i s ∙ e)

bound_of : (set : Choice) (upto : ℕ → Option ℕ) (heads : Option Heads) (kind : Kind) (k : ℕ) → AreBounds set upto heads → selected_under kind set ≡ Some k → upto k ≡ option_map rank (bound_under kind heads)
bound_of set upto heads Video k b e = rw e at b.video
bound_of set upto heads Audio k b e = rw e at b.audio
bound_of set upto heads Sub k b e = rw e at b.sub

-- another track has the queue that it had
other_track : (kind : Kind) (k : ℕ) (old new : Queues) → new ≡ with_queue kind (queue_under kind new) old → own k (queue_under kind old) ≡ None → own k (queue_under kind new) ≡ None
    → queue_of k new ≡ queue_of k old
other_track Video k old new e a b =
    let x = ap (λ (q : Queues). q.audio) e in let y = ap (λ (q : Queues). q.sub) e in rw (a, b, x, y) refl
other_track Audio k old new e a b =
    let x = ap (λ (q : Queues). q.video) e in let y = ap (λ (q : Queues). q.sub) e in rw (a, b, x, y) refl
other_track Sub k old new e a b =
    let x = ap (λ (q : Queues). q.video) e in let y = ap (λ (q : Queues). q.audio) e in rw (a, b, x, y) refl

-- ---- where it is cut

next_sync_is : (to : Pos) (ps : List Packet) → option_map_or at (first (filter (λ p. p.sync) ps)) (rank to) ≡ rank (place_or to (first_that is_sync ps))
next_sync_is to [] = refl
next_sync_is to (p ∷ ps) = elim (cases_Bool p.sync) [ inl y ↦ rw y refl | inr n ↦ rw n (next_sync_is to ps) ]

next_cut_is : (q : QueueState) → next_sync (rank q.to) q.packets ≡ rank (next_cut q)
next_cut_is q = by q.packets
  where
    by : (ps : List Packet) → next_sync (rank q.to) ps ≡ rank (place_or q.to (first_that is_sync (drop 1 ps)))
    by [] = refl
    by (p ∷ ps) = next_sync_is q.to ps

cut_place : (head : Option Pos) (q : QueueState) → rank (cut_at head q) ≡ at_most (option_map rank head) (rank (next_cut q))
cut_place None q = refl
cut_place (Some h) q = earlier_min h (next_cut q)

-- ---- the drop

some_cut : (a b : Cut) → Some a ≡ Some b → a ≡ b
some_cut a b e = cc

pub record FilmCut (ps : List Packet) (old new : RangeState) (upto : ℕ → Option ℕ) (c : Cut) : Type 0 where
  pub cut : used.IsCut ps old.set upto c.track (rank c.from) (rank c.to) (as_range old)
  pub range : as_range new ≡ cut_range c.track (rank c.to) (as_range old)
  pub film : HoldsFilm ps new

own_not : (k : ℕ) (o : Option QueueState) (q : QueueState) → o ≡ Some q → (k == q.track) ≡ false → own k o ≡ None
own_not k o q e n = rw e (let z : (q.track == k) ≡ false = ne_eqb q.track k (λ x. eqb-false k q.track n (sym x)) in rw z refl)

one_cut : (ps : List Packet) (old new : RangeState) (upto : ℕ → Option ℕ) (heads : Option Heads) (kind : Kind) (p : Packet) (q n : QueueState) (c : Cut)
    → IsRange old → IsRange new → HoldsFilm ps old → AreBounds old.set upto heads → used.victim ps old.set upto (as_range old) ≡ Some p → p.track ≡ q.track
    → queue_under kind old.queues ≡ Some q → queue_under kind new.queues ≡ Some n → c ≡ cut_of (bound_under kind heads) q → DropsTo (cut_at (bound_under kind heads) q) q n
    → new.queues ≡ with_queue kind (queue_under kind new.queues) old.queues → rank q.from ≤ rank (cut_at (bound_under kind heads) q) → new.mark ≡ old.mark → new.ending ≡ old.ending
    → FilmCut ps old new upto c
one_cut ps old new upto heads kind p q n c i j h b v t e f x d w l m g =
    let s = track_under old kind q i e in
    let u = track_under new kind n j f in
    let k = q.track in
    let same : n.track ≡ k = ap (λ (z : QueueState). z.track) d.packets_left in
    let here : queue_of k new.queues ≡ Some n = ap (λ m. queue_of m new.queues) (sym same) ∙ u.1 in
    let held_is : held (as_range old) ps k ≡ q.packets = h k ∙ ap (λ (z : Option QueueState). (packets_in z)) s.1 in
    let bound = bound_of old.set upto heads kind k b s.0 in
    let span : spans_of old.queues k ≡ Some (span_of q) = ap (λ (z : Option QueueState). option_map span_of z) s.1 in
    let seen : within (rank q.from) (rank q.to) (track_of k ps) ≡ q.packets = sym (ap (λ (z : Option Span). in_span z (track_of k ps)) span) ∙ held_is in
    let place : rank (cut_at (bound_under kind heads) q) ≡ at_most (upto k) (next_sync (rank q.to) (within (rank q.from) (rank q.to) (track_of k ps))) =
    cut_place (bound_under kind heads) q ∙ ap (λ z. at_most z (rank (next_cut q))) (sym bound) ∙ ap (λ z. at_most (upto k) z) (sym (next_cut_is q)) ∙ ap (λ z. at_most (upto k) (next_sync (rank q.to) z)) (sym seen) in
    let others : (z : ℕ) → (z == k) ≡ false → queue_of z new.queues ≡ queue_of z old.queues =
    λ z o. other_track kind z old.queues new.queues w (own_not z (queue_under kind old.queues) q e o) (own_not z (queue_under kind new.queues) n f (rw same o)) in
    let left : within (rank n.from) (rank n.to) (track_of k ps) ≡ n.packets =
    subst (λ (z : QueueState). within (rank z.from) (rank z.to) (track_of k ps) ≡ z.packets) (sym d.packets_left)
    (sym (ap (λ z. from_place (rank (cut_at (bound_under kind heads) q)) z) (sym seen)
    ∙ within-cut (rank q.from) (rank (cut_at (bound_under kind heads) q)) (rank q.to) (track_of k ps) l)) in
    rw x (record {
      cut = (rw v t, rw span (refl, place));
      range = range_is _ _ _ _ _ _ (λ z. elim (cases_Bool (z == k)) [
        | inl y ↦
            let y' = eqb-true z k y in
            rw y (ap (λ m. spans_of new.queues m) y' ∙ ap (λ (o : Option QueueState). option_map span_of o) here ∙ ap (λ (o : QueueState). Some (span_of o)) d.packets_left
            ∙ ap (λ (o : Option Span). option_map (cut_span (rank (cut_at (bound_under kind heads) q))) o) (sym (ap (λ m. spans_of old.queues m) y' ∙ span)))
        | inr o ↦ rw o (ap (λ (a : Option QueueState). option_map span_of a) (others z o))
      ]) (ap (λ (z : Mark). z.pos) m) g;
      film = λ z. elim (cases_Bool (z == k)) [
        | inl y ↦
            let y' = eqb-true z k y in
            rw y' (subst (λ (o : Option QueueState). in_span (option_map span_of o) (track_of k ps) ≡ (packets_in o)) (sym here) left)
        | inr o ↦ subst (λ (a : Option QueueState). in_span (option_map span_of a) (track_of z ps) ≡ (packets_in a)) (sym (others z o)) (h z)
      ];
    })

pub film_cut : (ps : List Packet) (old new : RangeState) (upto : ℕ → Option ℕ) (heads : Option Heads) (c : Cut) → IsRange old → IsRange new → HoldsFilm ps old → AreBounds old.set upto heads
    → IsCut heads old new (Some c) → FilmCut ps old new upto c
film_cut ps old new upto heads c i j h b d = by (used.victim ps old.set upto (as_range old)) (victim heads old.queues) refl refl (same_victim ps old upto heads i h b) d.queues
  where
    under : (p : Packet) (v : Victim) (o n : Option QueueState) → used.victim ps old.set upto (as_range old) ≡ Some p → victim heads old.queues ≡ Some v → queue_under v.kind old.queues ≡ o → queue_under v.kind new.queues ≡ n
        → IsSomeAnd o (λ q. p.track ≡ q.track) → CutsOne (bound_under v.kind heads) o n (Some c) → new.queues ≡ with_queue v.kind (queue_under v.kind new.queues) old.queues → FilmCut ps old new upto c
    under p v None n f g e u t x w = absurd t
    under p v (Some q) None f g e u t x w = absurd x.1
    under p v (Some q) (Some n) f g e u t x w =
        let a : IsAheadIn (bound_under v.kind heads) (Some q) = rw e at (victim_ahead heads old.queues v (all_sound old i) g) in
        one_cut ps old new upto heads v.kind p q n c i j h b f t e u (some_cut _ _ x.0) x.1 w (cut_low (bound_under v.kind heads) q (sound q e) a) d.mark_is d.ending_is
      where
        sound : (q : QueueState) → queue_under v.kind old.queues ≡ Some q → IsQueue q
        sound q e = rw e at (sound_under v.kind old.queues (all_sound old i))

    by : (a : Option Packet) (x : Option Victim) → used.victim ps old.set upto (as_range old) ≡ a → victim heads old.queues ≡ x → Same old.queues a x → Cuts heads old.queues new.queues x (Some c) → FilmCut ps old new upto c
    by None None f g s k = absurd (let e = k.0 in cc)
    by None (Some v) f g s k = absurd s
    by (Some p) None f g s k = absurd s
    by (Some p) (Some v) f g s k = under p v (queue_under v.kind old.queues) (queue_under v.kind new.queues) f g refl refl s.1 k.0 k.1

pub film_whole : (ps : List Packet) (old new : RangeState) (upto : ℕ → Option ℕ) (heads : Option Heads) → IsRange old → HoldsFilm ps old → AreBounds old.set upto heads
    → IsCut heads old new None → used.victim ps old.set upto (as_range old) ≡ None
film_whole ps old new upto heads i h b d = by (used.victim ps old.set upto (as_range old)) (victim heads old.queues) (same_victim ps old upto heads i h b) d.queues
  where
    one : (o n : Option QueueState) (head : Option Pos) → CutsOne head o n None → ⊥
    one None n head x = x
    one (Some q) n head x = let e = x.0 in cc

    by : (a : Option Packet) (x : Option Victim) → Same old.queues a x → Cuts heads old.queues new.queues x None → a ≡ None
    by None x s k = refl
    by (Some p) None s k = absurd s
    by (Some p) (Some v) s k = absurd (one (queue_under v.kind old.queues) (queue_under v.kind new.queues) (bound_under v.kind heads) k.0)
