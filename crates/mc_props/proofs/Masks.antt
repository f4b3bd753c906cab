-- What a reading at one facts has, it has at all facts that agree on the entry's mask.
use Rattle.std.proofs.Common.{◌≡◌, ℕ, ◌<◌, Bool, true, false, not, ◌&&◌, ◌||◌, List, length, Option, Some, None, IfSome, refl, ap, sym, ◌∙◌, arith, inl, inr}
use Rattle.std.proofs.lemmas.Option.{slice_get_cases}
use Rattle.std.specs.List.{slice_get}
use Rattle.mc_value.specs.declared.value.Format.{Format}
use Rattle.mc_props.specs.Entries.{Masked, path_part}
use Rattle.mc_props.specs.Fields.{Agree, AgreeOutside, both_have, has_field, share_field}
use Rattle.mc_props.specs.Readings.{cut, given_in, mask_at, mask_of, present_of, shown}
use Rattle.mc_props.specs.declared.facts.Facts.{Facts}
use Rattle.mc_props.specs.declared.entries.PropEntry.{PropEntry}
use Rattle.mc_props.specs.declared.reading.Reading.{Reading}

absurd_some : (x : PropEntry) → Some x ≡ None → ⊥
absurd_some x e = cc

is_there : (entries : List PropEntry) (k : ℕ) → slice_get entries k ≡ None → k < length entries → ⊥
is_there entries k e lt = elim (slice_get_cases entries k).1 [ inl h ↦ absurd_some h.0 (sym h.2 ∙ e) | inr h ↦ omega (arith, h.0) ]

at_found : (stated : ℕ → Facts → Reading) (entries : List PropEntry) → Masked stated entries → (k : ℕ) → k < length entries
    → (o : Option PropEntry) → slice_get entries k ≡ o → (f g : Facts) → Agree (mask_of o) f g → stated k f ≡ stated k g
at_found stated entries masked k lt None e f g agree = absurd (is_there entries k e lt)
at_found stated entries masked k lt (Some found) e f g agree = masked k found e f g agree

pub same_reading : (stated : ℕ → Facts → Reading) (entries : List PropEntry) → Masked stated entries → (k : ℕ) → k < length entries
    → (f g : Facts) → Agree (mask_at entries (Some k)) f g → stated k f ≡ stated k g
same_reading stated entries masked k lt f g agree = at_found stated entries masked k lt (slice_get entries k) refl f g agree

pub same_present : (stated : ℕ → Facts → Reading) (entries : List PropEntry) → Masked stated entries → (entry : Option ℕ) → IfSome entry (λ k. k < length entries)
    → (name : List ℕ) (to : Format) (f g : Facts) → Agree (mask_at entries entry) f g → present_of stated entry name to f ≡ present_of stated entry name to g
same_present stated entries masked None known name to f g agree = refl
same_present stated entries masked (Some k) known name to f g agree =
    ap (λ (r : Reading). shown to (given_in to (cut (path_part name) r))) (same_reading stated entries masked k known f g agree)

pub nothing_present : (stated : ℕ → Facts → Reading) (entry : Option ℕ) → entry ≡ None
    → (name : List ℕ) (to : Format) (f g : Facts) → present_of stated entry name to f ≡ present_of stated entry name to g
nothing_present stated None e name to f g = refl
nothing_present stated (Some k) e name to f g = cc

-- a field that one of two masks has, where they have none in common, the other has not
unless : (x y : Bool) → (x && y) ≡ false → x ≡ true → not y ≡ true
unless true true e h = cc
unless true false e h = refl
unless false y e h = cc

record AllFalse (p q r s t : Bool) : Type 0 where
  p_is : p ≡ false
  q_is : q ≡ false
  r_is : r ≡ false
  s_is : s ≡ false
  t_is : t ≡ false

all_false : (p q r s t : Bool) → (p || (q || (r || (s || t)))) ≡ false → AllFalse p q r s t
all_false true q r s t e = cc
all_false false true r s t e = cc
all_false false false true s t e = cc
all_false false false false true t e = cc
all_false false false false false true e = cc
all_false false false false false false e = record { p_is = refl; q_is = refl; r_is = refl; s_is = refl; t_is = refl }

apart : (a b : ℕ) → AllFalse (both_have a b 1) (both_have a b 2) (both_have a b 4) (both_have a b 8) (both_have a b 16)
    → (f g : Facts) → AgreeOutside b f g → Agree a f g
apart a b none f g outside = record {
  pause = λ h. outside.pause (unless (has_field a 1) (has_field b 1) none.p_is h);
  mute = λ h. outside.mute (unless (has_field a 2) (has_field b 2) none.q_is h);
  path = λ h. outside.path (unless (has_field a 4) (has_field b 4) none.r_is h);
  tracks = λ h. outside.tracks (unless (has_field a 4) (has_field b 4) none.r_is h);
  loaded = λ h. outside.loaded (unless (has_field a 4) (has_field b 4) none.r_is h);
  set = λ h. outside.set (unless (has_field a 8) (has_field b 8) none.s_is h);
  cache = λ h. outside.cache (unless (has_field a 16) (has_field b 16) none.t_is h);
}

pub agree_apart : (a b : ℕ) → share_field a b ≡ false → (f g : Facts) → AgreeOutside b f g → Agree a f g
agree_apart a b e f g outside =
    apart a b (all_false (both_have a b 1) (both_have a b 2) (both_have a b 4) (both_have a b 8) (both_have a b 16) e) f g outside

pub spared : (stated : ℕ → Facts → Reading) (entries : List PropEntry) → Masked stated entries → (k : ℕ) → k < length entries
    → (mask : ℕ) → share_field (mask_at entries (Some k)) mask ≡ false → (f g : Facts) → AgreeOutside mask f g
    → (name : List ℕ) (to : Format) → present_of stated (Some k) name to f ≡ present_of stated (Some k) name to g
spared stated entries masked k lt mask e f g outside name to =
    same_present stated entries masked (Some k) lt name to f g (agree_apart (mask_at entries (Some k)) mask e f g outside)
