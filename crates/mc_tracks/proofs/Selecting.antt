-- A known set is selected by its numbers.
use Rattle.std.proofs.Common.{◌≡◌, ℕ, Bool, true, false, List, Option, Some, None, refl, sym}
use Rattle.std.specs.Prelude.{◌&&◌, not, ◌==◌}
use Rattle.std.proofs.lemmas.Bool.{and_parts, and_right, true≢false}
use Rattle.mc_packet.specs.declared.choice.Choice.{Choice}
use Rattle.mc_packet.specs.declared.choice.Kind.{Kind}
use Rattle.mc_packet.specs.declared.choice.Kind.TheVariants.{Video, Audio, Sub}
use Rattle.mc_packet.specs.Choices.{is_known, passes}
use Rattle.mc_tracks.specs.declared.track.Track.{Track}
use Rattle.mc_tracks.specs.TrackList.{numbered, is_of}
use Rattle.mc_tracks.specs.Selection.{choice_of, is_coded, is_listed_as, is_same_kind, is_twin, knows, numbers_of, refusal_of}

-- the track of a number
pub record Shown (list : List Track) (kind : Kind) (n : ℕ) : Type 0 where
  pub track : Track
  pub found : numbered n list ≡ Some track
  pub kind_is : track.kind ≡ kind
  pub plain : track.encoded ≡ false

same_kind : (a b : Kind) → is_of a b ≡ true → b ≡ a
same_kind Video Video e = refl
same_kind Audio Audio e = refl
same_kind Sub Sub e = refl
same_kind Video Audio e = absurd (true≢false (sym e))
same_kind Video Sub e = absurd (true≢false (sym e))
same_kind Audio Video e = absurd (true≢false (sym e))
same_kind Audio Sub e = absurd (true≢false (sym e))
same_kind Sub Video e = absurd (true≢false (sym e))
same_kind Sub Audio e = absurd (true≢false (sym e))

not_so : (b : Bool) → not b ≡ true → b ≡ false
not_so false e = refl
not_so true e = absurd (true≢false (sym e))

shown_by : (list : List Track) (kind : Kind) (n : ℕ) (o : Option Track) → numbered n list ≡ o → (is_listed_as kind o && not (is_coded o)) ≡ true → Shown list kind n
shown_by list kind n None f e = absurd (true≢false (sym e))
shown_by list kind n (Some t) f e = record { track = t; found = f; kind_is = same_kind kind t.kind (and_parts _ _ e).0; plain = not_so t.encoded (and_parts _ _ e).1 }

pub shown : (list : List Track) (kind : Kind) (n : ℕ) → knows list kind n ≡ true → Shown list kind n
shown list kind n e = shown_by list kind n (numbered n list) refl e

no_twin : (list : List Track) (a b : ℕ) (k l : Kind) → Shown list k a → Shown list l b → is_of k l ≡ false → is_twin list a b ≡ false
no_twin list a b k l s t e = and_right (not (a == b)) (is_same_kind (numbered a list) (numbered b list)) (rw (s.found, t.found, s.kind_is, t.kind_is) e)

pub numbers_select : (list : List Track) (set : Choice) → is_known (knows list) set ≡ true → (refusal_of list (numbers_of set) ≡ None) × (choice_of list (numbers_of set) ≡ set)
numbers_select list set e = by_parts set.video set.audio set.sub (and_parts _ _ e).0 (and_parts _ _ (and_parts _ _ e).1).0 (and_parts _ _ (and_parts _ _ (and_parts _ _ e).1).1).0
  where
    by_parts : (v a s : Option ℕ) → passes v (knows list Video) ≡ true → passes a (knows list Audio) ≡ true → passes s (knows list Sub) ≡ true
        → (refusal_of list (numbers_of (record { video = v; audio = a; sub = s })) ≡ None) × (choice_of list (numbers_of (record { video = v; audio = a; sub = s })) ≡ record { video = v; audio = a; sub = s })
    by_parts None None None p q r = (refl, refl)
    by_parts (Some v) None None p q r = let x = shown list Video v p in (rw (x.found, x.plain) refl, rw (x.found, x.kind_is) refl)
    by_parts None (Some a) None p q r = let x = shown list Audio a q in (rw (x.found, x.plain) refl, rw (x.found, x.kind_is) refl)
    by_parts None None (Some s) p q r = let x = shown list Sub s r in (rw (x.found, x.plain) refl, rw (x.found, x.kind_is) refl)
    by_parts (Some v) (Some a) None p q r =
        let x = shown list Video v p in let y = shown list Audio a q in let xy = no_twin list a v Audio Video y x refl in
        (rw (xy, x.found, y.found, x.plain, y.plain) refl, rw (x.found, y.found, x.kind_is, y.kind_is) refl)
    by_parts (Some v) None (Some s) p q r =
        let x = shown list Video v p in let z = shown list Sub s r in let xz = no_twin list s v Sub Video z x refl in
        (rw (xz, x.found, z.found, x.plain, z.plain) refl, rw (x.found, z.found, x.kind_is, z.kind_is) refl)
    by_parts None (Some a) (Some s) p q r =
        let y = shown list Audio a q in let z = shown list Sub s r in let yz = no_twin list s a Sub Audio z y refl in
        (rw (yz, y.found, z.found, y.plain, z.plain) refl, rw (y.found, z.found, y.kind_is, z.kind_is) refl)
    by_parts (Some v) (Some a) (Some s) p q r =
        let x = shown list Video v p in let y = shown list Audio a q in let z = shown list Sub s r in
        let xy = no_twin list a v Audio Video y x refl in let xz = no_twin list s v Sub Video z x refl in let yz = no_twin list s a Sub Audio z y refl in
        (rw (xy, xz, yz, x.found, y.found, z.found, x.plain, y.plain, z.plain) refl, rw (x.found, y.found, z.found, x.kind_is, y.kind_is, z.kind_is) refl)
