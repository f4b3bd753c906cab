-- A range that gets another set or a track more is what the definitions over a film's list have.
use Rattle.std.proofs.Common.{◌≡◌, ℕ, ◌==◌, Bool, true, false, ◌&&◌, ◌||◌, List, Option, Some, None, arith, refl, ap, subst, sym, ◌∙◌, inl, inr, ◌⊎◌}
use Rattle.std.specs.Prelude.{min, nat_lt, if◌then◌else◌, IsSomeAnd}
use Rattle.std.specs.Option.{option_map}
use Rattle.std.proofs.lemmas.Bool.{cases_Bool, eqb-true, ltb-true, ltb-false, and_parts}
use Rattle.mc_packet.specs.declared.choice.Choice.{Choice}
use Rattle.mc_packet.specs.declared.choice.Kind.{Kind}
use Rattle.mc_packet.specs.declared.choice.Kind.TheVariants.{Video, Audio, Sub}
use Rattle.mc_packet.specs.declared.walk.Mark.{Mark}
use Rattle.mc_packet.specs.declared.packet.Packet.{Packet}
use Rattle.mc_packet.specs.Choices.{or_else, is_track, is_other, is_distinct, has}
use Rattle.mc_journal.specs.Films.{first_lane, track_of}
use Rattle.mc_journal.specs.Ranges.{Span, in_span}
use Rattle.mc_journal.specs.Stands.{empty_span, keep_tracks, span_given, add_spans}
use Rattle.mc_queue.specs.Queue.{QueueState, IsNew}
use Rattle.mc_range.specs.declared.queues.Queues.{Queues}
use Rattle.mc_range.specs.Range.{RangeState, IsRange, is_of, own, queue_of, span_of, spans_of, as_range, place_at}
use Rattle.mc_range.specs.Growing.{AreApart, AllApart}
use Rattle.mc_range.specs.Serving.{packets_in, HoldsFilm}
use Rattle.mc_range.specs.Tracks.{kept_queue, kept_queues, retracked, selected_under, queue_under, PutsIn, IsAdded}
use Rattle.mc_range.specs.Filmed.{start_only, same_kinds}
use Rattle.mc_range.proofs.Owners.{all_apart, apart_left}
use Rattle.mc_range.proofs.Unions.{not_it, other_way, or_none}
use Rattle.mc_range.proofs.Selecting.{is_it}
use Rattle.mc_range.proofs.Chosen.{other_not, map_else, begun_own, start_map, new_blank, blank_held, IsBlank}
use Rattle.mc_range.proofs.Fed.{range_is}

-- ---- another set

kept_own : (k : ℕ) (u : Option ℕ) (o : Option QueueState) → own k (kept_queue u o) ≡ (if is_track u k then own k o else None)
kept_own k u None = elim (cases_Bool (is_track u k)) [ inl y ↦ rw y refl | inr n ↦ rw n refl ]
kept_own k u (Some q) = elim (cases_Bool (q.track == k)) [
  | inl y ↦
      let e = eqb-true q.track k y in
      elim (cases_Bool (is_track u k)) [
        | inl t ↦ let z : is_track u q.track ≡ true = rw e t in rw (t, z) refl
        | inr t ↦ let z : is_track u q.track ≡ false = rw e t in rw (t, z) refl
      ]
  | inr n ↦
      elim (cases_Bool (is_track u q.track)) [
        | inl z ↦ elim (cases_Bool (is_track u k)) [ inl t ↦ rw (z, t, n) refl | inr t ↦ rw (z, t, n) refl ]
        | inr z ↦ elim (cases_Bool (is_track u k)) [ inl t ↦ rw (z, t, n) refl | inr t ↦ rw (z, t) refl ]
      ]
]

kept_of : (v a s : Bool) (x y z : Option QueueState) → (v ≡ true → (y ≡ None) × (z ≡ None)) → (a ≡ true → (x ≡ None) × (z ≡ None)) → (s ≡ true → (x ≡ None) × (y ≡ None))
    → or_else (if v then x else None) (or_else (if a then y else None) (if s then z else None)) ≡ (if v || (a || s) then or_else x (or_else y z) else None)
kept_of true true true x y z f g h = refl
kept_of true true false x y z f g h = let e = (f refl).1 in rw e refl
kept_of true false true x y z f g h = let e = (f refl).0 in rw e refl
kept_of true false false x y z f g h = let e = (f refl).0 in let d = (f refl).1 in rw (e, d) refl
kept_of false true true x y z f g h = let e = (g refl).0 in rw e refl
kept_of false true false x y z f g h = let e = (g refl).0 in let d = (g refl).1 in rw (e, d) refl
kept_of false false true x y z f g h = let e = (h refl).0 in let d = (h refl).1 in rw (e, d) refl
kept_of false false false x y z f g h = refl

kept_track : (set : Choice) (r : RangeState) → IsRange r → same_kinds r.set set ≡ true → (k : ℕ) → queue_of k (kept_queues set r.queues) ≡ (if has set k then queue_of k r.queues else None)
kept_track set r i e k =
    let p = and_parts (is_other r.set.video set.audio && is_other r.set.video set.sub) _ e in
    let v = and_parts (is_other r.set.video set.audio) (is_other r.set.video set.sub) p.0 in
    let q = and_parts (is_other r.set.audio set.video && is_other r.set.audio set.sub) (is_other r.set.sub set.video && is_other r.set.sub set.audio) p.1 in
    let a = and_parts (is_other r.set.audio set.video) (is_other r.set.audio set.sub) q.0 in
    let s = and_parts (is_other r.set.sub set.video) (is_other r.set.sub set.audio) q.1 in
    let x = r.queues.video in
    let y = r.queues.audio in
    let z = r.queues.sub in
    ap (λ (o : Option QueueState). or_else o (or_else (own k (kept_queue set.audio y)) (own k (kept_queue set.sub z)))) (kept_own k set.video x)
    ∙ ap (λ (o : Option QueueState). or_else (if is_track set.video k then own k x else None) (or_else o (own k (kept_queue set.sub z)))) (kept_own k set.audio y)
    ∙ ap (λ (o : Option QueueState). or_else (if is_track set.video k then own k x else None) (or_else (if is_track set.audio k then own k y else None) o)) (kept_own k set.sub z)
    ∙ kept_of (is_track set.video k) (is_track set.audio k) (is_track set.sub k) (own k x) (own k y) (own k z)
    (λ t. (not_it r.set.audio set.video r.mark k y a.0 i.held.audio (is_it set.video k t), not_it r.set.sub set.video r.mark k z s.0 i.held.sub (is_it set.video k t)))
    (λ t. (not_it r.set.video set.audio r.mark k x v.0 i.held.video (is_it set.audio k t), not_it r.set.sub set.audio r.mark k z s.1 i.held.sub (is_it set.audio k t)))
    (λ t. (not_it r.set.video set.sub r.mark k x v.1 i.held.video (is_it set.sub k t), not_it r.set.audio set.sub r.mark k y a.1 i.held.audio (is_it set.sub k t)))

span_if : (b : Bool) (o : Option QueueState) → option_map span_of (if b then o else None) ≡ (if b then option_map span_of o else None)
span_if true o = refl
span_if false o = refl

pub kept_ranges : (set : Choice) (r : RangeState) → IsRange r → same_kinds r.set set ≡ true → as_range (retracked set r) ≡ keep_tracks set (as_range r)
kept_ranges set r i e =
    range_is _ _ _ _ _ _ (λ k. ap (λ (o : Option QueueState). option_map span_of o) (kept_track set r i e k) ∙ span_if (has set k) (queue_of k r.queues)) refl refl

held_if : (b : Bool) (o : Option QueueState) (T : List Packet) → in_span (option_map span_of o) T ≡ (packets_in o)
    → in_span (option_map span_of (if b then o else None)) T ≡ (packets_in (if b then o else None))
held_if true o T h = h
held_if false o T h = refl

pub kept_film : (ps : List Packet) (set : Choice) (r : RangeState) → IsRange r → same_kinds r.set set ≡ true → HoldsFilm ps r → HoldsFilm ps (retracked set r)
kept_film ps set r i e h = λ k.
    subst (λ (o : Option QueueState). in_span (option_map span_of o) (track_of k ps) ≡ (packets_in o)) (sym (kept_track set r i e k))
    (held_if (has set k) (queue_of k r.queues) (track_of k ps) (h k))

-- ---- a track more

one_none : (k : ℕ) (a b : Option QueueState) → AreApart a b → (own k b ≡ None) ⊎ (own k a ≡ None)
one_none k a b h = elim (cases_Bool (is_of k b)) [
  | inl y ↦ let z = apart_left k a b h y in inr (rw z refl)
  | inr n ↦ inl (rw n refl)
]

audio_swap : (x y z : Option QueueState) → (y ≡ None) ⊎ (x ≡ None) → or_else x (or_else y z) ≡ or_else y (or_else x z)
audio_swap x y z (inl e) = rw e refl
audio_swap x y z (inr e) = rw e refl

sub_swap : (x y z : Option QueueState) → (z ≡ None) ⊎ (x ≡ None) → (z ≡ None) ⊎ (y ≡ None) → or_else x (or_else y z) ≡ or_else z (or_else x (or_else y None))
sub_swap x y z (inl e) h = rw e refl
sub_swap x y z (inr e) (inl f) = rw f refl
sub_swap x y z (inr e) (inr f) = rw (e, f) (sym (or_none z))

put_track : (kind : Kind) (track start k : ℕ) (old new : Queues) → AllApart new → queue_under kind old ≡ None → PutsIn kind track start old new
    → queue_of k new ≡ or_else (own k (queue_under kind new)) (queue_of k old)
put_track Video track start k old new a w p =
    let x = ap (λ (q : Queues). q.audio) p.others in
    let y = ap (λ (q : Queues). q.sub) p.others in
    rw (w, x, y) refl
put_track Audio track start k old new a w p =
    let x = ap (λ (q : Queues). q.video) p.others in
    let y = ap (λ (q : Queues). q.sub) p.others in
    audio_swap (own k new.video) (own k new.audio) (own k new.sub) (one_none k new.video new.audio a.video_audio) ∙ (rw (w, x, y) refl)
put_track Sub track start k old new a w p =
    let x = ap (λ (q : Queues). q.video) p.others in
    let y = ap (λ (q : Queues). q.audio) p.others in
    sub_swap (own k new.video) (own k new.audio) (own k new.sub) (one_none k new.video new.sub a.video_sub) (one_none k new.audio new.sub a.audio_sub) ∙ (rw (w, x, y) refl)

-- ---- the span that is given

abbrev no_span : Option Span
no_span = None

both_none : (a s : Bool) → (if a then None else (if s then None else None)) ≡ no_span
both_none true s = refl
both_none false true = refl
both_none false false = refl

abbrev given_if : ℕ → ℕ → ℕ → Option Span
given_if track start k = if is_track (Some track) k then option_map (λ b. empty_span (first_lane b)) (Some start) else None

given_is : (kind : Kind) (track start : ℕ) (mark : Mark) (set : Choice) (k : ℕ) → is_distinct set ≡ true → selected_under kind set ≡ Some track
    → span_given set (start_only kind start mark) k ≡ given_if track start k
given_is Video track start mark set k d s =
    start_map set (start_only Video start mark) k ∙ (rw s (elim (cases_Bool (track == k)) [
      | inl y ↦ rw y refl
      | inr n ↦ rw n (both_none (is_track set.audio k) (is_track set.sub k))
    ]))
given_is Audio track start mark set k d s =
    let one = and_parts (is_other set.video set.audio) _ d in
    start_map set (start_only Audio start mark) k ∙ (elim (cases_Bool (track == k)) [
      | inl y ↦
          let t : is_track set.audio k ≡ true = rw s y in
          let v = other_not set.audio set.video k (other_way set.video set.audio one.0) t in
          rw (v, t, y) refl
      | inr n ↦
          let t : is_track set.audio k ≡ false = rw s n in
          rw (t, n) (both_none (is_track set.video k) (is_track set.sub k))
    ])
given_is Sub track start mark set k d s =
    let one = and_parts (is_other set.video set.audio) _ d in
    let two = and_parts (is_other set.video set.sub) (is_other set.audio set.sub) one.1 in
    start_map set (start_only Sub start mark) k ∙ (elim (cases_Bool (track == k)) [
      | inl y ↦
          let t : is_track set.sub k ≡ true = rw s y in
          let v = other_not set.sub set.video k (other_way set.video set.sub two.0) t in
          let a = other_not set.sub set.audio k (other_way set.audio set.sub two.1) t in
          rw (v, a, t, y) refl
      | inr n ↦
          let t : is_track set.sub k ≡ false = rw s n in
          rw (t, n) (both_none (is_track set.video k) (is_track set.audio k))
    ])

put_own : (track start k : ℕ) (o : Option QueueState) → IsSomeAnd o (λ q. IsNew track (place_at start) q) → option_map span_of (own k o) ≡ given_if track start k
put_own track start k o h = begun_own (Some track) (Some start) k o h

lesser_pos : (a b : Mark) → (if nat_lt a.pos b.pos then a else b).pos ≡ min a.pos b.pos
lesser_pos a b = elim (cases_Bool (nat_lt a.pos b.pos)) [
  | inl y ↦ let l = ltb-true a.pos b.pos y in rw y (omega arith)
  | inr n ↦ let l = ltb-false a.pos b.pos n in rw n (omega arith)
]

lesser_mark : (kind : Kind) (start : ℕ) (m : Mark) → (start_only kind start m).mark ≡ m
lesser_mark Video start m = refl
lesser_mark Audio start m = refl
lesser_mark Sub start m = refl

pub added_ranges : (kind : Kind) (track start : ℕ) (mark : Mark) (old new : RangeState) → IsRange old → IsRange new → selected_under kind old.set ≡ Some track
    → queue_under kind old.queues ≡ None → IsAdded kind track start mark old new → as_range new ≡ add_spans old.set (start_only kind start mark) (as_range old)
added_ranges kind track start mark old new i j s w a =
    let m = lesser_mark kind start mark in
    rw m (range_is _ _ _ _ _ _
    (λ k. ap (λ (o : Option QueueState). option_map span_of o) (put_track kind track start k old.queues new.queues (all_apart new j) w a.queues)
    ∙ map_else (own k (queue_under kind new.queues)) (queue_of k old.queues)
    ∙ ap (λ (x : Option Span). or_else x (spans_of old.queues k)) (put_own track start k (queue_under kind new.queues) a.queues.begun ∙ sym (given_is kind track start mark old.set k i.distinct s)))
    (ap (λ (x : Mark). x.pos) a.mark_is ∙ lesser_pos mark old.mark) a.ending_is)

put_held : (track start k : ℕ) (o b : Option QueueState) (T : List Packet) → IsSomeAnd o (λ q. IsNew track (place_at start) q) → ((q : QueueState) → own k o ≡ Some q → in_span (option_map span_of (Some q)) T ≡ q.packets)
    → in_span (option_map span_of b) T ≡ (packets_in b) → in_span (option_map span_of (or_else (own k o) b)) T ≡ (packets_in (or_else (own k o) b))
put_held track start k None b T h f g = absurd h
put_held track start k (Some q) b T h f g = elim (cases_Bool (q.track == k)) [
  | inl y ↦ let z : own k (Some q) ≡ Some q = rw y refl in rw y (f q z)
  | inr n ↦ rw n g
]

pub added_film : (ps : List Packet) (kind : Kind) (track start : ℕ) (mark : Mark) (old new : RangeState) → IsRange new → queue_under kind old.queues ≡ None
    → IsAdded kind track start mark old new → HoldsFilm ps old → HoldsFilm ps new
added_film ps kind track start mark old new j w a h = λ k.
    subst (λ (o : Option QueueState). in_span (option_map span_of o) (track_of k ps) ≡ (packets_in o)) (sym (put_track kind track start k old.queues new.queues (all_apart new j) w a.queues))
    (put_held track start k (queue_under kind new.queues) (queue_of k old.queues) (track_of k ps) a.queues.begun
    (λ q e. new_held k (queue_under kind new.queues) q a.queues.begun e) (h k))
  where
    new_held : (k : ℕ) (o : Option QueueState) (q : QueueState) → IsSomeAnd o (λ n. IsNew track (place_at start) n) → own k o ≡ Some q
        → in_span (option_map span_of (Some q)) (track_of k ps) ≡ q.packets
    new_held k None q n e = absurd n
    new_held k (Some p) q n e = elim (cases_Bool (p.track == k)) [
      | inl y ↦
          let f : Some p ≡ Some q = rw y at e in
          let g : p ≡ q = cc in
          blank_held ps k (Some q) (subst (λ (x : QueueState). (x.track ≡ k) × IsBlank x) g (eqb-true p.track k y, new_blank track start p n))
      | inr m ↦ absurd (let f : None ≡ Some q = rw m at e in cc)
    ]
