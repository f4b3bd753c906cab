-- The heads of a range that serves a seek lie at or behind the begins of its spans.
use Rattle.std.proofs.Common.{◌≡◌, ℕ, ◌≤◌, ◌==◌, Bool, true, false, ◌&&◌, ◌||◌, List, [], ◌∷◌, Option, Some, None, ℤ, arith, refl, subst, inl, inr}
use Rattle.std.specs.Prelude.{IfSome, is_some, int_le, if◌then◌else◌, nat_le}
use Rattle.std.specs.List.{AllByRecursion}
use Rattle.std.proofs.lemmas.Bool.{cases_Bool, eqb-true, and_parts}
use Rattle.std.proofs.lemmas.Bool.Decides.{nat_tests}
use Rattle.mc_packet.specs.declared.choice.Choice.{Choice}
use Rattle.mc_packet.specs.declared.choice.Dir.{Dir}
use Rattle.mc_packet.specs.declared.choice.Dir.TheVariants.{Back, Forward}
use Rattle.mc_packet.specs.declared.packet.Packet.{Packet}
use Rattle.mc_packet.specs.Choices.{or_else, is_track, has, lead_of, passes}
use Rattle.mc_journal.specs.Films.{at, rank, first, last, first_lane, HasLanes, syncs, last_upto, first_from, sync_for, block_of, track_sync, least_of, video_sync, audio_sync, audio_dir, time_or}
use Rattle.mc_journal.specs.Ranges.{Span, Range, in_span, within, held_syncs, any_from, any_below, is_upto, served, on_span, served_track, served_sub, serves, served_head}
use Rattle.mc_journal.proofs.Lists.{all_kept, or_else-cases}
use Rattle.mc_journal.proofs.Within.{within-low}
use Rattle.mc_journal.proofs.Onward.{first_from-all, last-all}

last_upto-all : (Q : Packet → Type 0) (t : ℤ) (ps : List Packet) (s : Packet) → AllByRecursion Q ps → last_upto t ps ≡ Some s → Q s
last_upto-all Q t [] s all h = absurd (cc)
last_upto-all Q t (p ∷ ps) s all h = elim (or_else-cases (last_upto t ps) (if int_le p.time t then Some p else None) s h) [
  | inl there ↦ last_upto-all Q t ps s all.1 there
  | inr here ↦ elim (cases_Bool (int_le p.time t)) [
    | inl y ↦ let e : Some p ≡ Some s = rw y at here.1 in let same : p ≡ s = cc in subst Q same all.0
    | inr n ↦ absurd (let e : None ≡ Some s = rw n at here.1 in cc)
  ]
]

-- a sync point stands in lane 0 of its block
abbrev IsFirst : Packet → Type 0
IsFirst p = at p ≡ first_lane p.pos.block

syncs-first : (k : ℕ) (ps : List Packet) → AllByRecursion HasLanes ps → AllByRecursion IsFirst (syncs k ps)
unfolding rank first_lane
syncs-first k [] h = tt
syncs-first k (p ∷ ps) h =
    let e = syncs-first k ps h.1 in
    elim (cases_Bool (p.track == k && p.sync)) [
      | inl y ↦
          let lane : p.pos.lane ≡ 0 = h.0.1 ((and_parts (p.track == k) p.sync y).1) in
          rw y (omega arith, e)
      | inr n ↦ rw n e
    ]

-- of a queue's sync points: it begins at or before each, and each stands in lane 0
low_first : (from : ℕ) (s : Packet) → from ≤ at s → IsFirst s → from ≤ first_lane (block_of (Some s))
low_first from s low same = omega arith

back_ahead : (from to : ℕ) (ended : Bool) (t : ℤ) (ps : List Packet) → AllByRecursion IsFirst ps
    → (o : Option Packet) → last_upto t (within from to ps) ≡ o
    → (if is_some o then any_from t (within from to ps) || ended else from == 0 && (is_some (first (within from to ps)) || ended)) ≡ true
    → from ≤ first_lane (block_of (or_else o (first (within from to ps))))
back_ahead from to ended t ps firsts (Some s) is h =
    low_first from s (last_upto-all (λ p. from ≤ at p) t (within from to ps) s (within-low from to ps) is)
    (last_upto-all IsFirst t (within from to ps) s (all_kept IsFirst _ ps firsts) is)
back_ahead from to ended t ps firsts None is h =
    let begin : from ≡ 0 = (let y = (and_parts _ _ h).0 in eqb-true from 0 y) in omega arith

last_ahead : (from to : ℕ) (ps : List Packet) → AllByRecursion IsFirst ps → (o : Option Packet) → last (within from to ps) ≡ o → (is_some o || from == 0) ≡ true
    → from ≤ first_lane (block_of o)
last_ahead from to ps firsts (Some s) is h =
    low_first from s (last-all (λ p. from ≤ at p) (within from to ps) s (within-low from to ps) is)
    (last-all IsFirst (within from to ps) s (all_kept IsFirst _ ps firsts) is)
last_ahead from to ps firsts None is h = let begin : from ≡ 0 = eqb-true from 0 h in omega arith

forward_ahead : (from to : ℕ) (ended : Bool) (t : ℤ) (ps : List Packet) → AllByRecursion IsFirst ps
    → (o : Option Packet) → first_from t (within from to ps) ≡ o
    → (if is_some o then is_upto t o || (any_below t (within from to ps) || from == 0) else ended && (is_some (last (within from to ps)) || from == 0)) ≡ true
    → from ≤ first_lane (block_of (or_else o (last (within from to ps))))
forward_ahead from to ended t ps firsts (Some s) is h =
    low_first from s (first_from-all (λ p. from ≤ at p) t (within from to ps) s (within-low from to ps) is)
    (first_from-all IsFirst t (within from to ps) s (all_kept IsFirst _ ps firsts) is)
forward_ahead from to ended t ps firsts None is h = last_ahead from to ps firsts (last (within from to ps)) refl (and_parts ended _ h).1

served_ahead : (dir : Dir) (from to : ℕ) (ended : Bool) (t : ℤ) (ps : List Packet) → AllByRecursion IsFirst ps
    → served dir from ended t (within from to ps) ≡ true
    → from ≤ first_lane (block_of (sync_for dir t (within from to ps)))
served_ahead Back from to ended t ps firsts h = back_ahead from to ended t ps firsts (last_upto t (within from to ps)) refl h
served_ahead Forward from to ended t ps firsts h = forward_ahead from to ended t ps firsts (first_from t (within from to ps)) refl h

span_ahead : (dir : Dir) (o : Option Span) (ended : Bool) (t : ℤ) (ps : List Packet) → AllByRecursion IsFirst ps
    → on_span o (λ s. served dir s.from ended t (in_span o ps)) ≡ true
    → IfSome o (λ s. s.from ≤ first_lane (block_of (sync_for dir t (in_span o ps))))
span_ahead dir None ended t ps firsts h = tt
span_ahead dir (Some s) ended t ps firsts h = served_ahead dir s.from s.to ended t ps firsts h

track_ahead : (o : Option ℕ) (k : ℕ) (r : Range) (dir : Dir) (t : ℤ) (ps : List Packet) → AllByRecursion HasLanes ps
    → passes o (served_track r ps dir t) ≡ true → is_track o k ≡ true
    → IfSome (r.spans k) (λ s. s.from ≤ first_lane (block_of (track_sync (held_syncs r ps) dir t o)))
track_ahead None k r dir t ps lanes h is = absurd (cc)
track_ahead (Some j) k r dir t ps lanes h is =
    let one : (i : ℕ) → j ≡ i → IfSome (r.spans i) (λ s. s.from ≤ first_lane (block_of (sync_for dir t (held_syncs r ps j)))) =
    λ i e. subst (λ i. IfSome (r.spans i) (λ s. s.from ≤ first_lane (block_of (sync_for dir t (held_syncs r ps j))))) e
    (span_ahead dir (r.spans j) (is_some r.ending) t (syncs j ps) (syncs-first j ps lanes) h) in
    one k (eqb-true j k is)

sub_ahead_by : (o : Option Span) (lead : Bool) (place : ℕ) → on_span o (λ s. if lead then nat_le s.from place && nat_le place s.to else s.from == 0) ≡ true
    → IfSome o (λ s. s.from ≤ place)
sub_ahead_by None lead place h = tt
sub_ahead_by (Some s) true place h = grind (arith, nat_tests)
sub_ahead_by (Some s) false place h = let e : s.from ≡ 0 = eqb-true s.from 0 h in omega arith

abbrev sub_place : Range → List Packet → Choice → Dir → ℤ → ℕ
sub_place r ps set dir t =
    first_lane (least_of set.video set.audio (block_of (video_sync (held_syncs r ps) set dir t)) (block_of (audio_sync (held_syncs r ps) set dir t)))

sub_ahead : (o : Option ℕ) (k : ℕ) (r : Range) (set : Choice) (dir : Dir) (t : ℤ) (ps : List Packet)
    → passes o (served_sub r ps set dir t) ≡ true → is_track o k ≡ true
    → IfSome (r.spans k) (λ s. s.from ≤ sub_place r ps set dir t)
sub_ahead None k r set dir t ps h is = absurd (cc)
sub_ahead (Some j) k r set dir t ps h is =
    subst (λ i. IfSome (r.spans i) (λ s. s.from ≤ sub_place r ps set dir t))
    (eqb-true j k is) (sub_ahead_by (r.spans j) (is_some (lead_of set)) (sub_place r ps set dir t) h)

pub serves-ahead : (ps : List Packet) (r : Range) (set : Choice) (dir : Dir) (t : ℤ) → AllByRecursion HasLanes ps → serves ps set dir t r ≡ true
    → (k : ℕ) → has set k ≡ true → IfSome (r.spans k) (λ s. s.from ≤ served_head ps set dir t r k)
serves-ahead ps r set dir t lanes h k has_k =
    let parts = and_parts _ _ h in
    let more = and_parts _ _ parts.1 in
    elim (cases_Bool (is_track set.video k)) [
      | inl v ↦ rw v (track_ahead set.video k r dir t ps lanes parts.0 v)
      | inr nv ↦ elim (cases_Bool (is_track set.audio k)) [
        | inl a ↦ rw (nv, a) (track_ahead set.audio k r (audio_dir set.video dir) (time_or t (video_sync (held_syncs r ps) set dir t)) ps lanes more.0 a)
        | inr na ↦
            let s : is_track set.sub k ≡ true = rw (nv, na) at has_k in
            rw (nv, na) (sub_ahead set.sub k r set dir t ps more.1 s)
      ]
    ]
