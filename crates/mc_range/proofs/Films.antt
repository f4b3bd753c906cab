-- What a range serves by its queues is what it serves by the definitions over a film's list, of which it holds its part.
use Rattle.std.proofs.Common.{◌≡◌, ℕ, Bool, true, false, ◌&&◌, ◌==◌, Option, Some, None, List, [], ◌∷◌, ℤ, refl, ap, sym, ◌∙◌}
use Rattle.std.specs.Prelude.{nat_le, nat_lt, if◌then◌else◌, is_some, IfSome, IsSomeAnd}
use Rattle.std.specs.List.{filter}
use Rattle.std.proofs.lemmas.Bool.{eq-eqb, not-true, and_parts}
use Rattle.mc_packet.specs.declared.packet.Packet.{Packet}
use Rattle.mc_packet.specs.declared.packet.Pos.{Pos}
use Rattle.mc_packet.specs.declared.cache.Heads.{Heads}
use Rattle.mc_packet.specs.declared.choice.Choice.{Choice}
use Rattle.mc_packet.specs.declared.choice.Dir.{Dir}
use Rattle.mc_packet.specs.Choices.{passes, is_track, is_other, is_distinct}
use Rattle.mc_journal.specs.Films.{at, rank, first_lane, block_of, time_or, track_of, syncs, track_sync, video_sync, audio_sync, audio_dir, least_of, sync_for, start_by, start_with}
use Rattle.mc_journal.specs.Ranges.{Span, in_span, held_syncs, on_span, served, serves, served_head}
use Rattle.mc_range.specs.Range.{RangeState, as_range, spans_of}
use Rattle.mc_range.specs.Serving.{syncs_of, serves_track, serves_sub, sub_block, serves_by, head_at, heads_by, heads_of, HoldsFilm, AreHeads}
use Rattle.mc_range.proofs.Places.{same_lane}

-- ---- what is held of sync points

swap_step : (f h : Packet → Bool) (a b c : Bool) (p : Packet) (xs ys : List Packet) → f p ≡ c → h p ≡ b → filter f xs ≡ filter h (filter f ys)
    → filter f (if a && b then p ∷ xs else xs) ≡ filter h (filter f (if a then p ∷ ys else ys))
swap_step f h false b c p xs ys x y e = e
swap_step f h true true true p xs ys x y e = rw x (rw y (ap (λ qs. p ∷ qs) e))
swap_step f h true true false p xs ys x y e = rw x e
swap_step f h true false true p xs ys x y e = rw x (rw y e)
swap_step f h true false false p xs ys x y e = rw x e

-- a test may come before another or behind it
swapped : (f g h : Packet → Bool) (ps : List Packet) → filter f (filter (λ p. g p && h p) ps) ≡ filter h (filter f (filter g ps))
swapped f g h [] = refl
swapped f g h (p ∷ ps) = swap_step f h (g p) (h p) (f p) p (filter (λ q. g q && h q) ps) (filter g ps) refl refl (swapped f g h ps)

span_syncs : (s : Option Span) (track : ℕ) (ps : List Packet) → in_span s (syncs track ps) ≡ filter (λ p. p.sync) (in_span s (track_of track ps))
span_syncs None track ps = refl
span_syncs (Some s) track ps = swapped (λ p. nat_le s.from (at p) && nat_lt (at p) s.to) (λ p. p.track == track) (λ p. p.sync) ps

pub same_syncs : (ps : List Packet) (r : RangeState) → HoldsFilm ps r → (track : ℕ) → held_syncs (as_range r) ps track ≡ syncs_of r.queues track
same_syncs ps r h track =
    span_syncs (spans_of r.queues track) track ps ∙ ap (λ qs. filter (λ p. p.sync) qs) (h track)

-- ---- the rule, by equal sync points

track_same : (f g : ℕ → List Packet) → ((k : ℕ) → f k ≡ g k) → (dir : Dir) (t : ℤ) (o : Option ℕ) → track_sync f dir t o ≡ track_sync g dir t o
track_same f g h dir t None = refl
track_same f g h dir t (Some k) = ap (λ x. sync_for dir t x) (h k)

video_same : (f g : ℕ → List Packet) → ((k : ℕ) → f k ≡ g k) → (set : Choice) (dir : Dir) (t : ℤ) → video_sync f set dir t ≡ video_sync g set dir t
video_same f g h set dir t = track_same f g h dir t set.video

audio_same : (f g : ℕ → List Packet) → ((k : ℕ) → f k ≡ g k) → (set : Choice) (dir : Dir) (t : ℤ) → audio_sync f set dir t ≡ audio_sync g set dir t
audio_same f g h set dir t =
    track_same f g h (audio_dir set.video dir) (time_or t (video_sync f set dir t)) set.audio
    ∙ ap (λ v. track_sync g (audio_dir set.video dir) (time_or t v) set.audio) (video_same f g h set dir t)

sub_same : (f g : ℕ → List Packet) → ((k : ℕ) → f k ≡ g k) → (set : Choice) (dir : Dir) (t : ℤ) → sub_block f set dir t ≡ sub_block g set dir t
sub_same f g h set dir t =
    ap (λ v. least_of set.video set.audio (block_of v) (block_of (audio_sync f set dir t))) (video_same f g h set dir t)
    ∙ ap (λ a. least_of set.video set.audio (block_of (video_sync g set dir t)) (block_of a)) (audio_same f g h set dir t)

passes_same : (spans : ℕ → Option Span) (ended : Bool) (f g : ℕ → List Packet) → ((k : ℕ) → f k ≡ g k) → (dir : Dir) (t : ℤ) (o : Option ℕ)
    → passes o (serves_track spans ended f dir t) ≡ passes o (serves_track spans ended g dir t)
passes_same spans ended f g h dir t None = refl
passes_same spans ended f g h dir t (Some k) = ap (λ x. on_span (spans k) (λ s. served dir s.from ended t x)) (h k)

and_same : (a b c d : Bool) → a ≡ b → c ≡ d → (a && c) ≡ (b && d)
and_same a b c d e f = ap (λ x. x && c) e ∙ ap (λ x. b && x) f

serves_same : (spans : ℕ → Option Span) (ended : Bool) (f g : ℕ → List Packet) → ((k : ℕ) → f k ≡ g k) → (set : Choice) (dir : Dir) (t : ℤ)
    → serves_by spans ended f set dir t ≡ serves_by spans ended g set dir t
serves_same spans ended f g h set dir t =
    and_same _ _ _ _ (passes_same spans ended f g h dir t set.video)
    (and_same _ _ _ _
    (passes_same spans ended f g h (audio_dir set.video dir) (time_or t (video_sync f set dir t)) set.audio
    ∙ ap (λ v. passes set.audio (serves_track spans ended g (audio_dir set.video dir) (time_or t v))) (video_same f g h set dir t))
    (ap (λ n. passes set.sub (serves_sub spans set n)) (sub_same f g h set dir t)))

some_if : {A : Type 0} (b : Bool) (x : A) → is_some (if b then Some x else None) ≡ b
some_if true x = refl
some_if false x = refl

pub film_served : (ps : List Packet) (r : RangeState) (set : Choice) (t : ℤ) (dir : Dir) → HoldsFilm ps r
    → is_some (heads_of r set t dir) ≡ serves ps set dir t (as_range r)
film_served ps r set t dir h =
    some_if (serves_by (spans_of r.queues) (is_some r.ending) (syncs_of r.queues) set dir t) (heads_by (syncs_of r.queues) set dir t)
    ∙ sym (serves_same (spans_of r.queues) (is_some r.ending) (λ k. held_syncs (as_range r) ps k) (syncs_of r.queues) (same_syncs ps r h) set dir t)

-- ---- its heads

is_it : (k : ℕ) → is_track (Some k) k ≡ true
is_it k = eq-eqb k k refl

is_not : (v : Option ℕ) (k : ℕ) → is_other v (Some k) ≡ true → is_track v k ≡ false
is_not None k o = refl
is_not (Some j) k o = not-true (j == k) o

video_head : (v : Option ℕ) (m n l : ℕ) (a s : Option ℕ)
    → IfSome v (λ k. IsSomeAnd (head_at v m) (λ p. rank p ≡ first_lane (if is_track v k then m else (if is_track a k then n else l))))
video_head None m n l a s = tt
video_head (Some k) m n l a s = rw (is_it k) (same_lane m)

audio_head : (v a : Option ℕ) (m n l : ℕ) → is_other v a ≡ true
    → IfSome a (λ k. IsSomeAnd (head_at a n) (λ p. rank p ≡ first_lane (if is_track v k then m else (if is_track a k then n else l))))
audio_head v None m n l o = tt
audio_head v (Some k) m n l o = let x = is_not v k o in rw (x, is_it k) (same_lane n)

sub_head : (v a s : Option ℕ) (m n l : ℕ) → is_other v s ≡ true → is_other a s ≡ true
    → IfSome s (λ k. IsSomeAnd (head_at s l) (λ p. rank p ≡ first_lane (if is_track v k then m else (if is_track a k then n else l))))
sub_head v a None m n l o u = tt
sub_head v a (Some k) m n l o u = let x = is_not v k o in let y = is_not a k u in rw (x, y) (same_lane l)

heads_stand : (set : Choice) (f : ℕ → List Packet) (dir : Dir) (t : ℤ) → is_distinct set ≡ true
    → AreHeads set (λ k. first_lane (start_with f set dir t k)) (heads_by f set dir t)
heads_stand set f dir t d =
    let one = and_parts (is_other set.video set.audio) _ d in
    let two = and_parts (is_other set.video set.sub) (is_other set.audio set.sub) one.1 in
    let m = block_of (video_sync f set dir t) in
    let n = block_of (audio_sync f set dir t) in
    let l = sub_block f set dir t in
    record {
      video = video_head set.video m n l set.audio set.sub;
      audio = audio_head set.video set.audio m n l one.0;
      sub = sub_head set.video set.audio set.sub m n l two.0 two.1;
    }

start_same : (f g : ℕ → List Packet) → ((k : ℕ) → f k ≡ g k) → (set : Choice) (dir : Dir) (t : ℤ) (track : ℕ) → start_with f set dir t track ≡ start_with g set dir t track
start_same f g h set dir t track =
    ap (λ v. start_by set v (audio_sync f set dir t) track) (video_same f g h set dir t)
    ∙ ap (λ a. start_by set (video_sync g set dir t) a track) (audio_same f g h set dir t)

-- places that are equal at each track
move_one : (o : Option ℕ) (head : Option Pos) (f g : ℕ → ℕ) → ((k : ℕ) → f k ≡ g k)
    → IfSome o (λ k. IsSomeAnd head (λ p. rank p ≡ f k)) → IfSome o (λ k. IsSomeAnd head (λ p. rank p ≡ g k))
move_one None head f g h i = tt
move_one (Some k) None f g h i = absurd i
move_one (Some k) (Some p) f g h i = i ∙ h k

heads_if : (b : Bool) (set : Choice) (x : Heads) (f : ℕ → ℕ) → AreHeads set f x → IfSome (if b then Some x else None) (λ y. AreHeads set f y)
heads_if true set x f a = a
heads_if false set x f a = tt

pub film_heads : (ps : List Packet) (r : RangeState) (set : Choice) (t : ℤ) (dir : Dir) → HoldsFilm ps r → is_distinct set ≡ true
    → IfSome (heads_of r set t dir) (λ h. AreHeads set (served_head ps set dir t (as_range r)) h)
film_heads ps r set t dir h d =
    let a = heads_stand set (syncs_of r.queues) dir t d in
    let e : (k : ℕ) → first_lane (start_with (syncs_of r.queues) set dir t k) ≡ served_head ps set dir t (as_range r) k
    = λ k. ap (λ n. first_lane n) (sym (start_same (λ j. held_syncs (as_range r) ps j) (syncs_of r.queues) (same_syncs ps r h) set dir t k)) in
    let x = heads_by (syncs_of r.queues) set dir t in
    heads_if (serves_by (spans_of r.queues) (is_some r.ending) (syncs_of r.queues) set dir t) set x (served_head ps set dir t (as_range r)) (record {
      video = move_one set.video x.video _ _ e a.video;
      audio = move_one set.audio x.audio _ _ e a.audio;
      sub = move_one set.sub x.sub _ _ e a.sub;
    })
