-- A text that is refused as a whole, or read.
use Rattle.std.proofs.Common.{◌≡◌, ◌≤◌, List, ℕ, length, refl, inl, inr}
use Rattle.std.specs.Prelude.{false, Err}
use Rattle.std.specs.Str.{IsUtf8, is_utf8}
use Rattle.std.proofs.lemmas.Bool.{le-leb, cases_Bool}
use Rattle.std.proofs.lemmas.Str.{IsUtf8-from_is_utf8, is_utf8-from_IsUtf8}
use Rattle.mc_script.specs.declared.acts.ScriptWhy.TheVariants.{Utf8}
use Rattle.mc_script.specs.Script.{acts_from, script_lines, script_of}

pub of_text : (text : List ℕ) → length text ≤ 16777216 → IsUtf8 text → script_of text ≡ acts_from 1 false (script_lines text)
of_text text small utf8 = rw (le-leb (length text) 16777216 small, is_utf8-from_IsUtf8 text utf8) refl

no_text : (text : List ℕ) → (IsUtf8 text → ⊥) → is_utf8 text ≡ false
no_text text none = elim (cases_Bool (is_utf8 text)) [ inl told ↦ absurd (none (IsUtf8-from_is_utf8 text told)) | inr told ↦ told ]

pub of_other : (text : List ℕ) → length text ≤ 16777216 → (IsUtf8 text → ⊥) → script_of text ≡ Err (0, Utf8)
of_other text small none = rw (le-leb (length text) 16777216 small, no_text text none) refl
