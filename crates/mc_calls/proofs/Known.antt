-- The tracks that accepted numbers select are known, and no known track has two kinds.
use Rattle.std.proofs.Common.{◌≡◌, ℕ, Bool, true, ◌&&◌, ◌==◌, Option, Some, None, List, [], ◌∷◌, refl, sym, subst, ◌∙◌, inl, inr}
use Rattle.std.specs.Prelude.{not, is_some}
use Rattle.std.specs.List.{find}
use Rattle.std.specs.Option.{option_map}
use Rattle.std.proofs.lemmas.Bool.{cases_Bool, eqb-true, and_parts}
use Rattle.mc_packet.specs.declared.choice.Choice.{Choice}
use Rattle.mc_packet.specs.declared.choice.Kind.{Kind}
use Rattle.mc_packet.specs.declared.choice.Kind.TheVariants.{Video, Audio, Sub}
use Rattle.mc_packet.specs.declared.choice.Why.TheVariants.{UnknownTrack, Unsupported, TwoOfKind}
use Rattle.mc_packet.specs.Choices.{or_else, passes, is_other, is_distinct, is_known}
use Rattle.mc_tracks.specs.declared.track.Track.{Track}
use Rattle.mc_tracks.specs.TrackList.{numbered, is_of}
use Rattle.mc_range.specs.Filmed.{same_kinds}
use Rattle.mc_tracks.specs.Selection.{choice_of, first_twin, is_coded, is_listed_as, knows, refusal_of}

-- ---- one kind a track

same_kind : (a k : Kind) → is_of a k ≡ true → a ≡ k
same_kind Video Video e = refl
same_kind Video Audio e = absurd (cc)
same_kind Video Sub e = absurd (cc)
same_kind Audio Video e = absurd (cc)
same_kind Audio Audio e = refl
same_kind Audio Sub e = absurd (cc)
same_kind Sub Video e = absurd (cc)
same_kind Sub Audio e = absurd (cc)
same_kind Sub Sub e = refl

one_kind : (a b : Kind) (t : Option Track) → is_listed_as a t ≡ true → is_listed_as b t ≡ true → a ≡ b
one_kind a b None d e = absurd (cc)
one_kind a b (Some t) d e = same_kind a t.kind d ∙ sym (same_kind b t.kind e)

apart : (list : List Track) (a b : Kind) (o p : Option ℕ) → (a ≡ b → ⊥) → passes o (knows list a) ≡ true → passes p (knows list b) ≡ true → is_other o p ≡ true
apart list a b None p f d e = refl
apart list a b (Some m) None f d e = refl
apart list a b (Some m) (Some n) f d e = elim (cases_Bool (m == n)) [
  | inl y ↦
      let same : m ≡ n = eqb-true m n y in
      let x = (and_parts (is_listed_as a (numbered m list)) (not (is_coded (numbered m list))) d).0 in
      let z = (and_parts (is_listed_as b (numbered n list)) (not (is_coded (numbered n list))) e).0 in
      absurd (f (one_kind a b (numbered n list) (subst (λ k. is_listed_as a (numbered k list) ≡ true) same x) z))
  | inr o ↦ rw o refl
]

-- ---- what a known choice is

pub record KnownParts (known : Kind → ℕ → Bool) (set : Choice) : Type 0 where
  pub video : passes set.video (known Video) ≡ true
  pub audio : passes set.audio (known Audio) ≡ true
  pub sub : passes set.sub (known Sub) ≡ true
  pub distinct : is_distinct set ≡ true

pub known_parts : (known : Kind → ℕ → Bool) (set : Choice) → is_known known set ≡ true → KnownParts known set
known_parts known set e =
    let one = and_parts (passes set.video (known Video)) (passes set.audio (known Audio) && (passes set.sub (known Sub) && is_distinct set)) e in
    let two = and_parts (passes set.audio (known Audio)) (passes set.sub (known Sub) && is_distinct set) one.1 in
    let three = and_parts (passes set.sub (known Sub)) (is_distinct set) two.1 in
    record { video = one.0; audio = two.0; sub = three.0; distinct = three.1 }

pub known_distinct : (list : List Track) (set : Choice) → is_known (knows list) set ≡ true → is_distinct set ≡ true
known_distinct list set e = (known_parts (knows list) set e).distinct

video_audio : Video ≡ Audio → ⊥
video_audio e = cc

video_sub : Video ≡ Sub → ⊥
video_sub e = cc

audio_sub : Audio ≡ Sub → ⊥
audio_sub e = cc

-- a track that two known sets have is of one kind in both
pub known_same : (list : List Track) (a b : Choice) → is_known (knows list) a ≡ true → is_known (knows list) b ≡ true → same_kinds a b ≡ true
known_same list a b d e =
    let x = known_parts (knows list) a d in
    let y = known_parts (knows list) b e in
    let va = apart list Video Audio a.video b.audio video_audio x.video y.audio in
    let vs = apart list Video Sub a.video b.sub video_sub x.video y.sub in
    let av = apart list Audio Video a.audio b.video (λ h. video_audio (sym h)) x.audio y.video in
    let at = apart list Audio Sub a.audio b.sub audio_sub x.audio y.sub in
    let sv = apart list Sub Video a.sub b.video (λ h. video_sub (sym h)) x.sub y.video in
    let sa = apart list Sub Audio a.sub b.audio (λ h. audio_sub (sym h)) x.sub y.audio in
    rw (va, vs, av, at, sv, sa) refl

-- the same where another test answers alike
passes_same : (o : Option ℕ) (p q : ℕ → Bool) → ((k : ℕ) → p k ≡ q k) → passes o p ≡ passes o q
passes_same None p q h = refl
passes_same (Some k) p q h = h k

pub known_alike : (known other : Kind → ℕ → Bool) (set : Choice) → ((kind : Kind) (k : ℕ) → known kind k ≡ other kind k) → is_known other set ≡ true → is_known known set ≡ true
known_alike known other set h e =
    let v = passes_same set.video (known Video) (other Video) (h Video) in
    let a = passes_same set.audio (known Audio) (other Audio) (h Audio) in
    let s = passes_same set.sub (known Sub) (other Sub) (h Sub) in
    rw (v, a, s) e

-- ---- accepted numbers

or_none : {A : Type 0} (a b : Option A) → or_else a b ≡ None → (a ≡ None) × (b ≡ None)
or_none None b e = (refl, e)
or_none (Some x) b e = absurd (cc)

map_none : {A B : Type 0} (f : A → B) (o : Option A) → option_map f o ≡ None → o ≡ None
map_none f None e = refl
map_none f (Some x) e = absurd (cc)

found_known : (list : List Track) (kind : Kind) (ns : List ℕ) → find (λ n. is_coded (numbered n list)) ns ≡ None
    → passes (find (λ n. is_listed_as kind (numbered n list)) ns) (knows list kind) ≡ true
found_known list kind [] e = refl
found_known list kind (n ∷ ns) e = elim (cases_Bool (is_coded (numbered n list))) [
  | inl y ↦ absurd (let f : Some n ≡ None = rw y at e in cc)
  | inr c ↦ elim (cases_Bool (is_listed_as kind (numbered n list))) [
    | inl y ↦ rw (y, y, c) refl
    | inr o ↦ rw o (found_known list kind ns (rw c at e))
  ]
]

both_distinct : (a b c : Bool) → a ≡ true → b ≡ true → c ≡ true → (a && (b && c)) ≡ true
both_distinct a b c d e f = rw (d, e, f) refl

pub choice_known : (list : List Track) (ns : List ℕ) → refusal_of list ns ≡ None → is_known (knows list) (choice_of list ns) ≡ true
choice_known list ns e =
    let one = or_none (option_map UnknownTrack (find (λ n. not (is_some (numbered n list))) ns)) (or_else (option_map Unsupported (find (λ n. is_coded (numbered n list)) ns)) (option_map TwoOfKind (first_twin list [] ns))) e in
    let two = or_none (option_map Unsupported (find (λ n. is_coded (numbered n list)) ns)) (option_map TwoOfKind (first_twin list [] ns)) one.1 in
    let read = map_none Unsupported (find (λ n. is_coded (numbered n list)) ns) two.0 in
    let set = choice_of list ns in
    let v : passes set.video (knows list Video) ≡ true = found_known list Video ns read in
    let a : passes set.audio (knows list Audio) ≡ true = found_known list Audio ns read in
    let s : passes set.sub (knows list Sub) ≡ true = found_known list Sub ns read in
    let va = apart list Video Audio set.video set.audio video_audio v a in
    let vs = apart list Video Sub set.video set.sub video_sub v s in
    let at = apart list Audio Sub set.audio set.sub audio_sub a s in
    both_distinct (passes set.video (knows list Video)) (passes set.audio (knows list Audio)) (passes set.sub (knows list Sub) && is_distinct set) v a
    (rw s (both_distinct (is_other set.video set.audio) (is_other set.video set.sub) (is_other set.audio set.sub) va vs at))
