-- Facts that agree outside a mask show the same where a property's mask has no field in common with it.
use Rattle.std.proofs.Common.{◌≡◌, ℕ, ◌<◌, Bool, true, false, not, ◌&&◌, ◌||◌, List, length, Option, Some, None, refl, sym, ◌∙◌, arith, inl, inr}
use Rattle.std.proofs.lemmas.Option.{slice_get_cases}
use Rattle.std.specs.List.{slice_get}
use Rattle.mc_props.specs.Fields.{both_have, has_field, share_field}
use Rattle.mc_props.specs.Readings.{mask_at, mask_of}
use Rattle.mc_props.specs.declared.entries.PropEntry.{PropEntry}
use Rattle.mc_playlist.specs.Fields.{Agree, AgreeOutside}
use Rattle.mc_playlist.specs.Table.{Masked, Stated}
use Rattle.mc_playlist.specs.declared.facts.ListFacts.{ListFacts}

-- a field that one of two masks has, where they have none in common, the other has not
unless : (x y : Bool) → (x && y) ≡ false → x ≡ true → not y ≡ true
unless true true e h = cc
unless true false e h = refl
unless false y e h = cc

record AllFalse (p q s : Bool) : Type 0 where
  p_is : p ≡ false
  q_is : q ≡ false
  s_is : s ≡ false

all_false : (p q s t : Bool) → (p || (q || (s || t))) ≡ false → AllFalse p q s
all_false true q s t e = cc
all_false false true s t e = cc
all_false false false true t e = cc
all_false false false false t e = record { p_is = refl; q_is = refl; s_is = refl }

apart : (a b : ℕ) → AllFalse (both_have a b 1) (both_have a b 2) (both_have a b 4)
    → (f g : ListFacts) → AgreeOutside b f g → Agree a f g
apart a b none f g outside = record {
  names = λ h. outside.names (unless (has_field a 1) (has_field b 1) none.p_is h);
  pos = λ h. outside.pos (unless (has_field a 2) (has_field b 2) none.q_is h);
  plays = λ h. outside.plays (unless (has_field a 4) (has_field b 4) none.s_is h);
}

agree_apart : (a b : ℕ) → share_field a b ≡ false → (f g : ListFacts) → AgreeOutside b f g → Agree a f g
agree_apart a b e f g outside =
    apart a b (all_false (both_have a b 1) (both_have a b 2) (both_have a b 4) (both_have a b 8 || both_have a b 16) e) f g outside

absurd_some : (x : PropEntry) → Some x ≡ None → ⊥
absurd_some x e = cc

is_there : (entries : List PropEntry) (k : ℕ) → slice_get entries k ≡ None → k < length entries → ⊥
is_there entries k e lt = elim (slice_get_cases entries k).1 [ inl h ↦ absurd_some h.0 (sym h.2 ∙ e) | inr h ↦ omega (arith, h.0) ]

at_found : (stated : Stated) (entries : List PropEntry) → Masked stated entries → (k : ℕ) → k < length entries
    → (o : Option PropEntry) → slice_get entries k ≡ o → (f g : ListFacts) → Agree (mask_of o) f g → stated k f ≡ stated k g
at_found stated entries masked k lt None e f g agree = absurd (is_there entries k e lt)
at_found stated entries masked k lt (Some found) e f g agree = masked k found e f g agree

pub spared : (stated : Stated) (entries : List PropEntry) → Masked stated entries → (k : ℕ) → k < length entries
    → (mask : ℕ) → share_field (mask_at entries (Some k)) mask ≡ false → (f g : ListFacts) → AgreeOutside mask f g
    → stated k f ≡ stated k g
spared stated entries masked k lt mask e f g outside =
    at_found stated entries masked k lt (slice_get entries k) refl f g (agree_apart (mask_at entries (Some k)) mask e f g outside)
