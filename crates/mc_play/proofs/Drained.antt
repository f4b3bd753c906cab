-- A drain to the ends gives each of two tracks whole.
use Rattle.std.proofs.Common.{◌≡◌, ℕ, Bool, true, false, List, [], ◌∷◌, ◌++◌, length, map, Some, None, refl, sym, ap, subst, ◌∙◌, inl, inr, arith, length-append}
use Rattle.std.specs.Prelude.{◌==◌, ◌||◌, ◌&&◌, not, nat_le, reverse}
use Rattle.std.specs.List.{list_any}
use Rattle.std.proofs.lemmas.Bool.{cases_Bool}
use Rattle.std.proofs.lemmas.Bool.Decides.{nat_tests}
use Rattle.std.proofs.lemmas.List.{append-nil, reverse-append}
use Rattle.std.proofs.lemmas.List.Elements.{filter-append}
use Rattle.std.proofs.lemmas.List.Folds.{list_any-append}
use Rattle.std.proofs.lemmas.List.Sorted.{IsPermutation-reverse, list_any-IsPermutation}
use Rattle.std.proofs.lemmas.Grind.{flat_map-append}
use Rattle.mc_packet.specs.declared.choice.Choice.{Choice}
use Rattle.mc_packet.specs.declared.choice.Kind.{Kind}
use Rattle.mc_packet.specs.declared.choice.Kind.TheVariants.{Video, Audio, Sub}
use Rattle.mc_packet.specs.declared.packet.Packet.{Packet}
use Rattle.mc_packet.specs.declared.walk.Ending.{Ending}
use Rattle.mc_packet.specs.Choices.{has}
use Rattle.mc_packet.specs.Choices as choices
use Rattle.mc_journal.specs.declared.record.DemuxRecord.{DemuxRecord}
use Rattle.mc_journal.specs.declared.record.DemuxRecord.TheVariants.{Opened, Sought, Switched, Found, Fed, Failed, Starved, Dropped, Joined, Gave, Ended, Overfull, Faulted, Wanting, Shown, Refused}
use Rattle.mc_journal.specs.Told.{Told, told}
use Rattle.mc_journal.specs.Films.{fresh, track_of}
use Rattle.mc_journal.specs.Readings.{selected, read_from, given}
use Rattle.mc_journal.specs.Legal.{EndsWell, IsLegal, reading}
use Rattle.mc_journal.specs.Drives.{Each, Readings, still_left, untold}
use Rattle.mc_script.specs.Plays.{May}
use Rattle.mc_script.specs.declared.acts.Act.TheVariants.{Drain}
use Rattle.mc_play.specs.Completing.{ends_reader}
use Rattle.mc_play.specs.Summing.{all_given, told_of}
use Rattle.mc_play.proofs.Sums.{is_of, is_strange, only, same_number}

-- a track of video and one of audio
abbrev pub two : Choice
two = record { video = Some 1; audio = Some 2; sub = None }

abbrev pub start : List DemuxRecord
start = Opened 0 two ∷ []

-- ---- records behind the opening

-- an opening, a seek or a switch
abbrev pub is_odd : DemuxRecord → Bool
is_odd (Opened by set) = true
is_odd (Sought by set t dir how) = true
is_odd (Switched by set added t) = true
is_odd _ = false

record Kept (ps : List Packet) (k : ℕ) (r : DemuxRecord) (h : List DemuxRecord) : Type 0 where
  set : selected (r ∷ h) ≡ selected h
  from : read_from ps k (r ∷ h) ≡ read_from ps k h
  gives : given k (r ∷ h) ≡ given k h ++ only k (told_of r)

no_more : (k : ℕ) (h : List DemuxRecord) → given k h ≡ given k h ++ []
no_more k h = sym (append-nil (given k h))

kept : (ps : List Packet) (k : ℕ) (r : DemuxRecord) (h : List DemuxRecord) → is_odd r ≡ false → Kept ps k r h
kept ps k (Opened by set) h e = absurd (let f : true ≡ false = e in cc)
kept ps k (Sought by set t dir how) h e = absurd (let f : true ≡ false = e in cc)
kept ps k (Switched by set added t) h e = absurd (let f : true ≡ false = e in cc)
kept ps k (Gave by track place time len sum sync key) h e = elim (cases_Bool (track == k)) [
  | inl y ↦ record { set = refl; from = refl; gives = rw y refl }
  | inr n ↦ record { set = refl; from = refl; gives = rw n (no_more k h) }
]
kept ps k (Found by starts) h e = record { set = refl; from = refl; gives = no_more k h }
kept ps k (Fed by from to took ending) h e = record { set = refl; from = refl; gives = no_more k h }
kept ps k (Failed by before after) h e = record { set = refl; from = refl; gives = no_more k h }
kept ps k (Starved by) h e = record { set = refl; from = refl; gives = no_more k h }
kept ps k (Dropped by removal) h e = record { set = refl; from = refl; gives = no_more k h }
kept ps k (Joined by) h e = record { set = refl; from = refl; gives = no_more k h }
kept ps k (Ended by track ending) h e = record { set = refl; from = refl; gives = no_more k h }
kept ps k (Overfull by track forward max) h e = record { set = refl; from = refl; gives = no_more k h }
kept ps k (Faulted by track before after) h e = record { set = refl; from = refl; gives = no_more k h }
kept ps k (Wanting by track) h e = record { set = refl; from = refl; gives = no_more k h }
kept ps k (Shown by view) h e = record { set = refl; from = refl; gives = no_more k h }
kept ps k (Refused by why) h e = record { set = refl; from = refl; gives = no_more k h }

or_false : (a b : Bool) → (a || b) ≡ false → (a ≡ false) × (b ≡ false)
or_false true b e = absurd (let f : true ≡ false = e in cc)
or_false false b e = (refl, e)

set_is : (ps : List Packet) (k : ℕ) (rs : List DemuxRecord) → list_any is_odd rs ≡ false → selected (rs ++ start) ≡ two
set_is ps k [] e = refl
set_is ps k (r ∷ rs) e = let f = or_false (is_odd r) (list_any is_odd rs) e in (kept ps k r (rs ++ start) f.0).set ∙ set_is ps k rs f.1

from_is : (ps : List Packet) (k : ℕ) (rs : List DemuxRecord) → list_any is_odd rs ≡ false → read_from ps k (rs ++ start) ≡ 0
from_is ps k [] e = refl
from_is ps k (r ∷ rs) e = let f = or_false (is_odd r) (list_any is_odd rs) e in (kept ps k r (rs ++ start) f.0).from ∙ from_is ps k rs f.1

-- what was given, by the newest record first
abbrev pub back_given : List DemuxRecord → List Told
back_given [] = []
back_given (r ∷ h) = back_given h ++ told_of r

given_is : (ps : List Packet) (k : ℕ) (rs : List DemuxRecord) → list_any is_odd rs ≡ false → given k (rs ++ start) ≡ only k (back_given rs)
given_is ps k [] e = refl
given_is ps k (r ∷ rs) e =
    let f = or_false (is_odd r) (list_any is_odd rs) e in
    (kept ps k r (rs ++ start) f.0).gives ∙ ap (λ (x : List Told). x ++ only k (told_of r)) (given_is ps k rs f.1) ∙ sym (filter-append (is_of k) (back_given rs) (told_of r))

-- ---- a reader that was told its end was given all

from_first : (n : ℕ) → nat_le 0 n ≡ true
from_first n = grind (arith, nat_tests)

all_fresh : (k : ℕ) (ps : List Packet) → fresh k 0 ps ≡ track_of k ps
all_fresh k [] = refl
all_fresh k (p ∷ ps) = elim (cases_Bool (p.track == k)) [
  | inl y ↦ rw (y, from_first p.pos.block, all_fresh k ps) refl
  | inr n ↦ rw (n, all_fresh k ps) refl
]

reading_is : (ps : List Packet) (k : ℕ) (h : List DemuxRecord) → read_from ps k h ≡ 0 → reading ps k h ≡ track_of k ps
reading_is ps k h e = ap (λ (from : ℕ). fresh k from ps) e ∙ all_fresh k ps

and_true : (a b : Bool) → (a && b) ≡ true → b ≡ true
and_true true b e = e
and_true false b e = absurd (let f : false ≡ true = e in cc)

-- by its end
record Whole (ps : List Packet) (n k : ℕ) (r : DemuxRecord) (h : List DemuxRecord) : Type 0 where
  before : given k h ≡ map told (reading ps k h)
  same : given k (r ∷ h) ≡ given k h

told_whole : (ps : List Packet) (ending : Ending) (n k : ℕ) (r : DemuxRecord) (h : List DemuxRecord) → ends_reader n k r ≡ true → EndsWell ps ending (r ∷ h) → Whole ps n k r h
told_whole ps ending n k (Ended by track e) h is w =
    let same : track ≡ k = same_number track k (and_true (by == n) (track == k) is) in
    record { before = subst (λ (j : ℕ). given j h ≡ map told (reading ps j h)) same w.1; same = refl }
told_whole ps ending n k (Opened by set) h is w = absurd (let f : false ≡ true = is in cc)
told_whole ps ending n k (Sought by set t dir how) h is w = absurd (let f : false ≡ true = is in cc)
told_whole ps ending n k (Switched by set added t) h is w = absurd (let f : false ≡ true = is in cc)
told_whole ps ending n k (Gave by track place time len sum sync key) h is w = absurd (let f : false ≡ true = is in cc)
told_whole ps ending n k (Found by starts) h is w = absurd (let f : false ≡ true = is in cc)
told_whole ps ending n k (Fed by from to took e) h is w = absurd (let f : false ≡ true = is in cc)
told_whole ps ending n k (Failed by before after) h is w = absurd (let f : false ≡ true = is in cc)
told_whole ps ending n k (Starved by) h is w = absurd (let f : false ≡ true = is in cc)
told_whole ps ending n k (Dropped by removal) h is w = absurd (let f : false ≡ true = is in cc)
told_whole ps ending n k (Joined by) h is w = absurd (let f : false ≡ true = is in cc)
told_whole ps ending n k (Overfull by track forward max) h is w = absurd (let f : false ≡ true = is in cc)
told_whole ps ending n k (Faulted by track before after) h is w = absurd (let f : false ≡ true = is in cc)
told_whole ps ending n k (Wanting by track) h is w = absurd (let f : false ≡ true = is in cc)
told_whole ps ending n k (Shown by view) h is w = absurd (let f : false ≡ true = is in cc)
told_whole ps ending n k (Refused by why) h is w = absurd (let f : false ≡ true = is in cc)

nothing_behind : (xs ys zs : List Told) → (xs ++ ys) ++ zs ≡ xs → xs ++ ys ≡ xs
nothing_behind xs [] zs e = append-nil xs
nothing_behind xs (y ∷ ys) zs e = absurd (omega (arith, ap length e, length-append (xs ++ y ∷ ys) zs, length-append xs (y ∷ ys)))

all_given_to : (ps : List Packet) (ending : Ending) (n k : ℕ) (rs : List DemuxRecord) → has two k ≡ true → list_any is_odd rs ≡ false → IsLegal ps ending (rs ++ start) → list_any (ends_reader n k) rs ≡ true
    → given k (rs ++ start) ≡ map told (track_of k ps)
all_given_to ps ending n k [] in_two e legal told_end = absurd (let f : false ≡ true = told_end in cc)
all_given_to ps ending n k (r ∷ rs) in_two e legal told_end =
    let f = or_false (is_odd r) (list_any is_odd rs) e in
    let h : List DemuxRecord = rs ++ start in
    let whole : List Told = map told (track_of k ps) in
    let read : reading ps k h ≡ track_of k ps = reading_is ps k h (from_is ps k rs f.1) in
    elim (cases_Bool (ends_reader n k r)) [
      | inl y ↦ let w = told_whole ps ending n k r h y legal.1 in w.same ∙ w.before ∙ ap (map told) read
      | inr o ↦
          let before : given k h ≡ whole = all_given_to ps ending n k rs in_two f.1 legal.2 (rw o at told_end) in
          let more : given k (r ∷ h) ≡ whole ++ only k (told_of r) = (kept ps k r h f.0).gives ∙ ap (λ (x : List Told). x ++ only k (told_of r)) before in
          let chosen : has (selected (r ∷ h)) k ≡ true = ap (λ (s : Choice). has s k) (set_is ps k (r ∷ rs) e) ∙ in_two in
          let front = legal.0 k chosen in
          let read' : reading ps k (r ∷ h) ≡ track_of k ps = reading_is ps k (r ∷ h) (from_is ps k (r ∷ rs) e) in
          let joined : (whole ++ only k (told_of r)) ++ front.0 ≡ whole = ap (λ (x : List Told). x ++ front.0) (sym more) ∙ front.1 ∙ ap (map told) read' in
          more ∙ nothing_behind whole (only k (told_of r)) front.0 joined
    ]

-- ---- what a drain leaves

known_track : (a : List DemuxRecord) (kind : Kind) (k : ℕ) → choices.track_of (untold two a) kind ≡ Some k → not (k == 1 || k == 2) ≡ false
known_track a Video k e = elim (cases_Bool (list_any (Rattle.mc_journal.specs.Drives.tells_reader 2 1) a)) [
  | inl y ↦ absurd (let f : None ≡ Some k = rw y at e in cc)
  | inr n ↦ let f : Some 1 ≡ Some k = rw n at e in let g : 1 ≡ k = cc in rw (sym g) refl
]
known_track a Audio k e = elim (cases_Bool (list_any (Rattle.mc_journal.specs.Drives.tells_reader 3 2) a)) [
  | inl y ↦ absurd (let f : None ≡ Some k = rw y at e in cc)
  | inr n ↦ let f : Some 2 ≡ Some k = rw n at e in let g : 2 ≡ k = cc in rw (sym g) refl
]
known_track a Sub k e = absurd (let f : None ≡ Some k = e in cc)

abbrev IsPlain : DemuxRecord → Type 0
IsPlain r = (is_odd r ≡ false) × (list_any is_strange (told_of r) ≡ false)

is_plain : (rd : Readings) (a : List DemuxRecord) (r : DemuxRecord) → May rd Drain start a r → IsPlain r
is_plain rd a (Gave by k place time len sum sync key) m = (refl, rw (known_track a m.0 k m.3.0) refl)
is_plain rd a (Opened by set) m = absurd m
is_plain rd a (Sought by set t dir how) m = absurd m
is_plain rd a (Switched by set added t) m = absurd m
is_plain rd a (Found by starts) m = (refl, refl)
is_plain rd a (Fed by from to took ending) m = (refl, refl)
is_plain rd a (Failed by before after) m = (refl, refl)
is_plain rd a (Starved by) m = (refl, refl)
is_plain rd a (Dropped by removal) m = (refl, refl)
is_plain rd a (Joined by) m = (refl, refl)
is_plain rd a (Ended by track ending) m = (refl, refl)
is_plain rd a (Overfull by track forward max) m = (refl, refl)
is_plain rd a (Faulted by track before after) m = (refl, refl)
is_plain rd a (Wanting by track) m = (refl, refl)
is_plain rd a (Shown by view) m = (refl, refl)
is_plain rd a (Refused by why) m = (refl, refl)

pub are_plain : (rd : Readings) (a part : List DemuxRecord) → Each (May rd Drain start) a part → (list_any is_odd part ≡ false) × (list_any is_strange (all_given part) ≡ false)
are_plain rd a [] e = (refl, refl)
are_plain rd a (r ∷ rs) e =
    let here = is_plain rd a r e.0 in
    let there = are_plain rd (a ++ r ∷ []) rs e.1 in
    (rw (here.0, there.0) refl, list_any-append is_strange (told_of r) (all_given rs) ∙ rw (here.1, there.1) refl)

-- ---- oldest and newest first

given_back : (h : List DemuxRecord) → all_given (reverse h) ≡ back_given h
given_back [] = refl
given_back (r ∷ h) =
    ap all_given (reverse-append (r ∷ []) h) ∙ flat_map-append told_of (reverse h) (r ∷ []) ∙ ap (λ (x : List Told). all_given (reverse h) ++ x) (append-nil (told_of r))
    ∙ ap (λ (x : List Told). x ++ told_of r) (given_back h)

reverse_twice : (h : List DemuxRecord) → reverse (reverse h) ≡ h
reverse_twice [] = refl
reverse_twice (r ∷ h) = ap reverse (reverse-append (r ∷ []) h) ∙ reverse-append (reverse h) (r ∷ []) ∙ ap (λ (x : List DemuxRecord). r ∷ x) (reverse_twice h)

same_any : (test : DemuxRecord → Bool) (h : List DemuxRecord) → list_any test h ≡ list_any test (reverse h)
same_any test h = list_any-IsPermutation test h (reverse h) (IsPermutation-reverse h)

-- a track whose reader was told its end in what a drain left
pub given_whole : (ps : List Packet) (ending : Ending) (n k : ℕ) (part hd : List DemuxRecord) → has two k ≡ true → hd ≡ start ++ part → list_any is_odd part ≡ false → IsLegal ps ending (reverse hd)
    → list_any (ends_reader n k) part ≡ true → only k (all_given hd) ≡ map told (track_of k ps)
given_whole ps ending n k part hd in_two is plain legal told_end =
    let rs : List DemuxRecord = reverse part in
    let back : reverse hd ≡ rs ++ start = ap reverse is ∙ reverse-append start part in
    let legal' : IsLegal ps ending (rs ++ start) = subst (λ (h : List DemuxRecord). IsLegal ps ending h) back legal in
    let odd : list_any is_odd rs ≡ false = sym (same_any is_odd part) ∙ plain in
    let ends : list_any (ends_reader n k) rs ≡ true = sym (same_any (ends_reader n k) part) ∙ told_end in
    let all : all_given hd ≡ back_given rs = ap all_given is ∙ sym (ap all_given (reverse_twice part)) ∙ given_back rs in
    ap (only k) all ∙ sym (given_is ps k rs odd) ∙ all_given_to ps ending n k rs in_two odd legal' ends
