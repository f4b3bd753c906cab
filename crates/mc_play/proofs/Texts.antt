-- Files that were opened, and texts of which a front was read.
use Rattle.std.proofs.Common.{◌≡◌, ℕ, ◌<◌, ◌≤◌, List, length, take, min, false, Option, Some, None, Result, refl, sym, ap, ◌∙◌, subst, inl, inr, arith}
use Rattle.std.specs.Prelude.{nat_le}
use Rattle.std.proofs.lemmas.Bool.{cases_Bool}
use Rattle.std.proofs.lemmas.Bool.Decides.{nat_tests}
use Rattle.std.proofs.lemmas.List.{take_all, length-take}
use Rattle.mc_outside.specs.Shelf.{Files, Opened, Opens, IsTold, octets_under}
use Rattle.mc_script.specs.declared.acts.Act.{Act}
use Rattle.mc_script.specs.declared.acts.ScriptError.{ScriptError}
use Rattle.mc_script.specs.declared.acts.ScriptWhy.{ScriptWhy}
use Rattle.mc_script.specs.Script.{Gives, script_of}
use Rattle.mc_play.specs.Opening.{OpensFile}

-- ---- a file

told_octets : (files : Files) (opened : Opened) (name : List ℕ) (file : ℕ) (o : Option (List ℕ)) → files name ≡ o → opened file ≡ Some name → IsTold o → OpensFile (Some files) opened name file
told_octets files opened name file None e f t = absurd t
told_octets files opened name file (Some octets) e f t = (octets, e, ap (λ (x : Option (List ℕ)). octets_under files x) f ∙ e)

pub opens_file : (files : Option Files) (opened : Opened) (name : List ℕ) (file : ℕ) → Opens files opened name file → OpensFile files opened name file
opens_file None opened name file h = tt
opens_file (Some files) opened name file h = told_octets files opened name file (files name) refl h.0 h.1

-- ---- a front that is all

pub whole_front : (octets front : List ℕ) → front ≡ take 65536 octets → length front < 65536 → front ≡ take 16777217 octets
whole_front octets front e l =
    let long : length (take 65536 octets) ≡ min 65536 (length octets) = length-take 65536 octets in
    let same : length front ≡ length (take 65536 octets) = ap length e in
    let few : length octets < 65536 = omega (arith, long, same, l) in
    e ∙ take_all 65536 octets (omega (arith, few)) ∙ sym (take_all 16777217 octets (omega (arith, few)))

-- one octet more than a script may have tells that it is too long
pub script_front : (octets : List ℕ) → script_of (take 16777217 octets) ≡ script_of octets
script_front octets = elim (cases_Bool (nat_le (length octets) 16777216)) [
  | inl y ↦
      let few : length octets ≤ 16777216 = grind (arith, nat_tests) in
      ap script_of (take_all 16777217 octets (omega (arith, few)))
  | inr n ↦
      let many : 16777216 < length octets = grind (arith, nat_tests) in
      let long : length (take 16777217 octets) ≡ min 16777217 (length octets) = length-take 16777217 octets in
      let over : nat_le (length (take 16777217 octets)) 16777216 ≡ false = rw long (grind (arith, nat_tests, many)) in
      rw (over, n) refl
]

pub script_said : (octets text : List ℕ) (r : Result (List (ℕ × Act)) ScriptError) → text ≡ take 16777217 octets → Gives r (script_of text) → Gives r (script_of octets)
script_said octets text r e h = subst (λ (x : Result (List (ℕ × Act)) (ℕ × ScriptWhy)). Gives r x) (ap script_of e ∙ script_front octets) h
