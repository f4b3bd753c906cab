-- A set that a client's property selects is known where the selected set was.
use Rattle.std.proofs.Common.{IfOk, ◌≡◌, ◌⊎◌, inl, inr, ℕ, zero, suc, ℤ, pos, negsuc, Bool, true, false, List, [], ◌∷◌, Option, Some, None, refl, sym, ap, subst, ◌∙◌}
use Rattle.std.specs.Prelude.{◌&&◌, not, ◌==◌, nat_eq, if◌then◌else◌, map, filter, slice_get, Result, Ok, Err, cond}
use Rattle.std.specs.List.{AllByRecursion, IsDistinct}
use Rattle.std.proofs.lemmas.Bool.{and_from, and_parts, cases_Bool, eqb-true, eq-eqb, true≢false}
use Rattle.std.specs.Prelude.{codes}
use Rattle.std.specs.Str.{bytes_eq}
use Rattle.mc_value.specs.declared.value.Value.{Value, out-Value}
use Rattle.mc_value.specs.declared.value.Value.TheOpen.{Value-F}
use Rattle.mc_value.specs.Conversions.{as_flag, as_number}
use Rattle.mc_packet.specs.declared.choice.Choice.{Choice}
use Rattle.mc_packet.specs.declared.choice.Kind.{Kind}
use Rattle.mc_packet.specs.declared.choice.Kind.TheVariants.{Video, Audio, Sub}
use Rattle.mc_packet.specs.Choices.{is_distinct, is_known, is_other, passes}
use Rattle.mc_tracks.specs.declared.track.Track.{Track}
use Rattle.mc_tracks.specs.TrackList.{HaveDistinctNumbers, all_of_kind, is_of, numbered, track_of_kind}
use Rattle.mc_props.specs.Readings.{Answers}
use Rattle.mc_props.specs.Settings.{AreKnown, SelectsKnown, flag_write, is_no, number_write, selection_write, set_at, set_entry, set_to, written_over, track_at, track_write, with_track}
use Rattle.mc_props.specs.Entries.{place_of}
use Rattle.mc_props.specs.declared.entries.PropEntry.{PropEntry}
use Rattle.mc_props.specs.declared.reading.Reading.{Reading}
use Rattle.mc_props.specs.declared.reading.Reading.TheVariants as reading
use Rattle.mc_props.specs.declared.facts.Facts.{Facts}
use Rattle.mc_props.specs.declared.refusal.PropError.{PropError}
use Rattle.mc_props.specs.declared.refusal.PropError.TheVariants as refusal
use Rattle.mc_props.specs.declared.settings.Write.{Write}
use Rattle.mc_props.specs.declared.settings.Write.TheVariants as write
use Rattle.mc_tracks.specs.Selection.{is_coded, is_listed_as, knows}
use Rattle.mc_tracks.proofs.Selecting.{Shown, shown}

-- ---- two known numbers of two kinds differ

one_track : (a b : Track) → ◌≡◌ {A = Option Track} (Some a) (Some b) → a ≡ b
one_track a b e = cc

of_itself : (k : Kind) → is_of k k ≡ true
of_itself Video = refl
of_itself Audio = refl
of_itself Sub = refl

kinds_differ : (k l : Kind) → is_of k l ≡ false → k ≡ l → ⊥
kinds_differ k l n e = true≢false (sym (of_itself k) ∙ ap (λ (m : Kind). is_of k m) e ∙ n)

apart : (list : List Track) (k l : Kind) (n m : ℕ) → knows list k n ≡ true → knows list l m ≡ true → is_of k l ≡ false → not (n == m) ≡ true
apart list k l n m p q d = elim (cases_Bool (n == m)) [
  | inl e ↦ absurd (same_number (eqb-true n m e))
  | inr e ↦ rw e refl
]
  where
    same_number : n ≡ m → ⊥
    same_number e =
        let x : Shown list k n = shown list k n p in
        let y : Shown list l n = subst (λ (j : ℕ). Shown list l j) (sym e) (shown list l m q) in
        let t : x.track ≡ y.track = one_track x.track y.track (sym x.found ∙ y.found) in
        kinds_differ k l d (sym x.kind_is ∙ ap (λ (u : Track). u.kind) t ∙ y.kind_is)

others : (list : List Track) (k l : Kind) (a b : Option ℕ) → passes a (knows list k) ≡ true → passes b (knows list l) ≡ true → is_of k l ≡ false → is_other a b ≡ true
others list k l None b p q d = refl
others list k l (Some n) None p q d = refl
others list k l (Some n) (Some m) p q d = apart list k l n m p q d

known_by_parts : (list : List Track) (v a s : Option ℕ) → passes v (knows list Video) ≡ true → passes a (knows list Audio) ≡ true → passes s (knows list Sub) ≡ true
    → is_known (knows list) (record { video = v; audio = a; sub = s }) ≡ true
known_by_parts list v a s p q r =
    and_from (passes v (knows list Video)) (passes a (knows list Audio) && (passes s (knows list Sub) && is_distinct (record { video = v; audio = a; sub = s }))) p
    (and_from (passes a (knows list Audio)) (passes s (knows list Sub) && is_distinct (record { video = v; audio = a; sub = s })) q
    (and_from (passes s (knows list Sub)) (is_distinct (record { video = v; audio = a; sub = s })) r
    (and_from (is_other v a) (is_other v s && is_other a s) (others list Video Audio v a p q refl)
    (and_from (is_other v s) (is_other a s) (others list Video Sub v s p r refl) (others list Audio Sub a s q r refl)))))

-- ---- the track that a property's number names

off_head : (k n : ℕ) (u : Track) (us : List Track) (t : Track) (b : Bool) → nat_eq k u.no ≡ false → (numbered n us ≡ Some t → nat_eq k t.no ≡ false)
    → cond b (Some u) (numbered n us) ≡ Some t → nat_eq k t.no ≡ false
off_head k n u us t true a f e = subst (λ (x : Track). nat_eq k x.no ≡ false) (one_track u t e) a
off_head k n u us t false a f e = f e

off : (k : ℕ) (us : List Track) (n : ℕ) (t : Track) → AllByRecursion (λ y. nat_eq k y ≡ false) (map (λ (u : Track). u.no) us) → numbered n us ≡ Some t → nat_eq k t.no ≡ false
off k [] n t a e = absurd (cc)
off k (u ∷ us) n t a e = off_head k n u us t (n == u.no) a.0 (off k us n t a.1) e

turned : (a b : ℕ) → nat_eq a b ≡ false → (b == a) ≡ false
turned a b e = elim (cases_Bool (b == a)) [
  | inl h ↦ absurd (true≢false (sym (eq-eqb a b (sym (eqb-true b a h))) ∙ e))
  | inr h ↦ h
]

-- the first of these is not numbered so
picked_later : (u : Track) (us : List Track) (t : Track) → AllByRecursion (λ y. nat_eq u.no y ≡ false) (map (λ (x : Track). x.no) us) → numbered t.no us ≡ Some t → numbered t.no (u ∷ us) ≡ Some t
picked_later u us t a e = rw (turned u.no t.no (off u.no us t.no t a e)) e

Picked : Kind → Track → List Track → Type 0
Picked kind t list = (is_of kind t.kind ≡ true) × (numbered t.no list ≡ Some t)

picked_head : (kind : Kind) (id : ℕ) (u : Track) (us : List Track) (t : Track) (b : Bool) → is_of kind u.kind ≡ b
    → ((k : ℕ) → slice_get (all_of_kind kind us) k ≡ Some t → Picked kind t (u ∷ us))
    → slice_get (if b then u ∷ all_of_kind kind us else all_of_kind kind us) id ≡ Some t → Picked kind t (u ∷ us)
unfolding Picked
picked_head kind id u us t false k f e = f id e
picked_head kind zero u us t true k f e =
    let s : u ≡ t = one_track u t e in
    subst (λ (x : Track). (is_of kind x.kind ≡ true) × (numbered x.no (u ∷ us) ≡ Some x)) s (k, rw (eq-eqb u.no u.no refl) refl)
picked_head kind (suc id) u us t true k f e = f id e

picked : (kind : Kind) (id : ℕ) (us : List Track) (t : Track) → HaveDistinctNumbers us → slice_get (all_of_kind kind us) id ≡ Some t → Picked kind t us
unfolding Picked IsDistinct
picked kind id [] t d e = absurd (cc)
picked kind id (u ∷ us) t d e =
    picked_head kind id u us t (is_of kind u.kind) refl
    (λ k f. let p : Picked kind t us = picked kind k us t d.1 f in (p.0, picked_later u us t d.0 p.1)) e

knows_picked : (kind : Kind) (t : Track) (list : List Track) → Picked kind t list → t.encoded ≡ false → knows list kind t.no ≡ true
unfolding Picked
knows_picked kind t list p e = rw (p.1, e) (and_from _ _ p.0 refl)

-- ---- the set that is written

one_set : (a b : Choice) → ◌≡◌ {A = Result Write PropError} (Ok (write.Select a)) (Ok (write.Select b)) → a ≡ b
one_set a b e = cc

with_known : (list : List Track) (kind : Kind) (n : Option ℕ) (set : Choice) → passes n (knows list kind) ≡ true → is_known (knows list) set ≡ true → is_known (knows list) (with_track kind n set) ≡ true
with_known list Video n set p k = known_by_parts list n set.audio set.sub p (and_parts _ _ (and_parts _ _ k).1).0 (and_parts _ _ (and_parts _ _ (and_parts _ _ k).1).1).0
with_known list Audio n set p k = known_by_parts list set.video n set.sub (and_parts _ _ k).0 p (and_parts _ _ (and_parts _ _ (and_parts _ _ k).1).1).0
with_known list Sub n set p k = known_by_parts list set.video set.audio n (and_parts _ _ k).0 (and_parts _ _ (and_parts _ _ k).1).0 p

encoded_known : (f : Facts) (kind : Kind) (t : Track) (set : Choice) (b : Bool) → t.encoded ≡ b → Picked kind t f.tracks → AreKnown f f.set
    → (if b then Err refusal.Unsupported else Ok (write.Select (with_track kind (Some t.no) f.set))) ≡ Ok (write.Select set) → AreKnown f set
encoded_known f kind t set true b p k e = absurd (cc)
encoded_known f kind t set false b p k e =
    subst (λ (x : Choice). is_known (knows f.tracks) x ≡ true) (one_set (with_track kind (Some t.no) f.set) set e)
    (with_known f.tracks kind (Some t.no) f.set (knows_picked kind t f.tracks p b) k)

track_known : (f : Facts) (kind : Kind) (o : Option Track) (set : Choice) → ((t : Track) → o ≡ Some t → Picked kind t f.tracks) → AreKnown f f.set
    → track_write kind f.set o ≡ Ok (write.Select set) → AreKnown f set
track_known f kind None set p k e = absurd (cc)
track_known f kind (Some t) set p k e = encoded_known f kind t set t.encoded refl (p t refl) k e

place_known : (f : Facts) (kind : Kind) (z : ℤ) (t : Track) → HaveDistinctNumbers f.tracks → track_at kind z f.tracks ≡ Some t → Picked kind t f.tracks
place_known f kind (pos zero) t d e = absurd (cc)
place_known f kind (pos (suc n)) t d e = picked kind n f.tracks t d e
place_known f kind (negsuc n) t d e = absurd (cc)

number_known : (f : Facts) (kind : Kind) (o : Option ℤ) (set : Choice) → HaveDistinctNumbers f.tracks → AreKnown f f.set → number_write kind f o ≡ Ok (write.Select set) → AreKnown f set
number_known f kind None set d k e = absurd (cc)
number_known f kind (Some z) set d k e = track_known f kind (track_at kind z f.tracks) set (λ t h. place_known f kind z t d h) k e

written_known : (f : Facts) (kind : Kind) (v : Value-F Value) (set : Choice) (b : Bool) → HaveDistinctNumbers f.tracks → AreKnown f f.set
    → (if b then Ok (write.Select (with_track kind None f.set)) else number_write kind f (as_number v)) ≡ Ok (write.Select set) → AreKnown f set
written_known f kind v set true d k e =
    subst (λ (x : Choice). is_known (knows f.tracks) x ≡ true) (one_set (with_track kind None f.set) set e) (with_known f.tracks kind None f.set refl k)
written_known f kind v set false d k e = number_known f kind (as_number v) set d k e

selection_known : (f : Facts) (kind : Kind) (v : Value-F Value) (set : Choice) → HaveDistinctNumbers f.tracks → AreKnown f f.set
    → selection_write kind f v ≡ Ok (write.Select set) → AreKnown f set
selection_known f kind v set d k e = written_known f kind v set (is_no v) d k e

-- ---- by a property's name

flag_never : (to : Bool → Write) (o : Option Bool) (set : Choice) → ((b : Bool) → to b ≡ write.Select set → ⊥) → flag_write to o ≡ Ok (write.Select set) → ⊥
flag_never to None set n e = cc
flag_never to (Some b) set n e = n b (one_write (to b) (write.Select set) e)
  where
    one_write : (a b : Write) → ◌≡◌ {A = Result Write PropError} (Ok a) (Ok b) → a ≡ b
    one_write a b e = cc

pause_never : (b : Bool) (set : Choice) → write.Pause b ≡ write.Select set → ⊥
pause_never b set e = cc

mute_never : (b : Bool) (set : Choice) → write.Mute b ≡ write.Select set → ⊥
mute_never b set e = cc

named_known : (f : Facts) (w : Value-F Value) (set : Choice) (p m v a s : Bool) → HaveDistinctNumbers f.tracks → AreKnown f f.set
    → (if p then flag_write write.Pause (as_flag w) else
    if m then flag_write write.Mute (as_flag w) else
    if v then selection_write Video f w else
    if a then selection_write Audio f w else
    if s then selection_write Sub f w else
    Err refusal.ReadOnly) ≡ Ok (write.Select set) → AreKnown f set
named_known f w set true m v a s d k e = absurd (flag_never write.Pause (as_flag w) set (λ b h. pause_never b set h) e)
named_known f w set false true v a s d k e = absurd (flag_never write.Mute (as_flag w) set (λ b h. mute_never b set h) e)
named_known f w set false false true a s d k e = selection_known f Video w set d k e
named_known f w set false false false true s d k e = selection_known f Audio w set d k e
named_known f w set false false false false true d k e = selection_known f Sub w set d k e
named_known f w set false false false false false d k e = absurd (cc)

over_known : (r : Reading) (name : List ℕ) (f : Facts) (v : Value) (set : Choice) → HaveDistinctNumbers f.tracks → AreKnown f f.set
    → written_over r name f v ≡ Ok (write.Select set) → AreKnown f set
over_known reading.Unavailable name f v set d k e = absurd (cc)
over_known (reading.Is before) name f v set d k e =
    named_known f (out-Value v) set (bytes_eq name (codes "pause")) (bytes_eq name (codes "mute")) (bytes_eq name (codes "vid")) (bytes_eq name (codes "aid")) (bytes_eq name (codes "sid")) d k e

entry_known : (stated : ℕ → Facts → Reading) (place : ℕ) (name : List ℕ) (f : Facts) (v : Value) (set : Choice) (b : Bool) → HaveDistinctNumbers f.tracks → AreKnown f f.set
    → (if b then written_over (stated place f) name f v else Err refusal.ReadOnly) ≡ Ok (write.Select set) → AreKnown f set
entry_known stated place name f v set true d k e = over_known (stated place f) name f v set d k e
entry_known stated place name f v set false d k e = absurd (cc)

found_known : (stated : ℕ → Facts → Reading) (place : ℕ) (o : Option PropEntry) (name : List ℕ) (f : Facts) (v : Value) (set : Choice) → HaveDistinctNumbers f.tracks → AreKnown f f.set
    → set_entry stated place o name f v ≡ Ok (write.Select set) → AreKnown f set
found_known stated place None name f v set d k e = absurd (cc)
found_known stated place (Some entry) name f v set d k e = entry_known stated place name f v set entry.writable d k e

place_set_known : (stated : ℕ → Facts → Reading) (entries : List PropEntry) (o : Option ℕ) (name : List ℕ) (f : Facts) (v : Value) (set : Choice) → HaveDistinctNumbers f.tracks → AreKnown f f.set
    → set_at stated entries o name f v ≡ Ok (write.Select set) → AreKnown f set
place_set_known stated entries None name f v set d k e = absurd (cc)
place_set_known stated entries (Some place) name f v set d k e = found_known stated place (slice_get entries place) name f v set d k e

-- whatever a client sets: the set that it selects is known
set_known : (stated : ℕ → Facts → Reading) (entries : List PropEntry) (name : List ℕ) (f : Facts) (v : Value) (set : Choice) → HaveDistinctNumbers f.tracks → AreKnown f f.set
    → set_to stated entries name f v ≡ Ok (write.Select set) → AreKnown f set
set_known stated entries name f v set d k e = place_set_known stated entries (place_of name entries) name f v set d k e

given_known : (stated : ℕ → Facts → Reading) (entries : List PropEntry) (name : List ℕ) (f : Facts) (v : Value) (w : Write) → HaveDistinctNumbers f.tracks
    → Ok w ≡ set_to stated entries name f v → SelectsKnown f w
given_known stated entries name f v (write.Pause flag) d e = tt
given_known stated entries name f v (write.Mute flag) d e = tt
given_known stated entries name f v (write.Select set) d e = λ k. set_known stated entries name f v set d k (sym e)

pub selects_known : (stated : ℕ → Facts → Reading) (entries : List PropEntry) (name : List ℕ) (f : Facts) (v : Value) (r : Result Write PropError) → HaveDistinctNumbers f.tracks
    → Answers r (set_to stated entries name f v) → IfOk r (λ w. SelectsKnown f w)
selects_known stated entries name f v (Ok w) d e = given_known stated entries name f v w d e
selects_known stated entries name f v (Err x) d e = tt
