-- A list's script that is read line by line.
use Rattle.std.proofs.Common.{◌≡◌, ◌≤◌, ◌<◌, ◌+◌, ◌++◌, ◌∷◌, [], List, ℕ, length, map, take, drop, get_or, refl, ap, sym, ◌∙◌, subst, append-nil, inl, inr}
use Rattle.std.proofs.lemmas.List.{drop_more, take-append-drop}
use Rattle.std.proofs.lemmas.Bool.{le-leb, cases_Bool}
use Rattle.std.proofs.lemmas.Str.{IsUtf8-from_is_utf8, is_utf8-from_IsUtf8}
use Rattle.std.specs.Prelude.{false, Result, Ok, Err, IsErrAnd}
use Rattle.std.specs.Str.{IsUtf8, is_utf8}
use Rattle.std.specs.Str.Lines.{strip_carriage_return}
use Rattle.mc_script.specs.Script.{script_lines}
use Rattle.mc_playlist.specs.Answers.{Answers}
use Rattle.mc_playlist.specs.Lines.{acts_from, list_said}
use Rattle.mc_playlist.specs.Reading.{Takes, resumed}
use Rattle.mc_playlist.specs.declared.acts.ListAct.{ListAct}
use Rattle.mc_playlist.specs.declared.script.Reading.{Reading}
use Rattle.mc_playlist.specs.declared.steps.ListError.{ListError}
use Rattle.mc_playlist.specs.declared.steps.ListError.TheVariants as errors

-- ---- a text that is refused as a whole, or read

pub of_text : (text : List ℕ) → length text ≤ 16777216 → IsUtf8 text → list_said text ≡ acts_from 1 (script_lines text)
of_text text few utf8 = rw (le-leb (length text) 16777216 few, is_utf8-from_IsUtf8 text utf8) refl

no_text : (text : List ℕ) → (IsUtf8 text → ⊥) → is_utf8 text ≡ false
no_text text none = elim (cases_Bool (is_utf8 text)) [ inl told ↦ absurd (none (IsUtf8-from_is_utf8 text told)) | inr told ↦ told ]

pub of_other : (text : List ℕ) → length text ≤ 16777216 → (IsUtf8 text → ⊥) → Err errors.NotUtf8 ≡ list_said text
of_other text few none = rw (le-leb (length text) 16777216 few, no_text text none) refl

-- ---- line by line

-- these lines were read, their carriage returns not yet dropped
pub record IsReadTo (r : Reading) (lines : List (List ℕ)) : Type 0 where
  pub number : r.number ≡ length lines
  pub same : (more : List (List ℕ)) → resumed r (map strip_carriage_return more) ≡ acts_from 1 (map strip_carriage_return (lines ++ more))

-- all lines were read
pub finished : (r : Reading) (lines all : List (List ℕ)) → IsReadTo r lines → lines ≡ all → Ok r.script ≡ acts_from 1 (map strip_carriage_return all)
finished r lines all read e =
    sym (ap (λ ls. acts_from 1 (map strip_carriage_return ls)) (sym e ∙ sym (append-nil lines)) ∙ sym (read.same []) ∙ ap (λ (s : List (ℕ × ListAct)). Ok s) (append-nil r.script))

-- the next line is refused
said : (r : Reading) (lines rest all : List (List ℕ)) (line : List ℕ) (e : ListError) → IsReadTo r lines → lines ++ line ∷ rest ≡ all
    → ((more : List (List ℕ)) → resumed r (strip_carriage_return line ∷ more) ≡ Err e) → Err e ≡ acts_from 1 (map strip_carriage_return all)
said r lines rest all line e read is taken =
    sym (ap (λ ls. acts_from 1 (map strip_carriage_return ls)) (sym is) ∙ sym (read.same (line ∷ rest)) ∙ taken (map strip_carriage_return rest))

pub refused : (r r' : Reading) (lines rest all : List (List ℕ)) (line : List ℕ) (e : ListError) → IsReadTo r lines → lines ++ line ∷ rest ≡ all
    → Takes r r' (strip_carriage_return line) (Err e) → Answers {T = List (ℕ × ListAct)} (Err e) (acts_from 1 (map strip_carriage_return all))
refused r r' lines rest all line errors.NoMemory read is taken = tt
refused r r' lines rest all line errors.NotFound read is taken = said r lines rest all line errors.NotFound read is taken
refused r r' lines rest all line (errors.NoEntry i n) read is taken = said r lines rest all line (errors.NoEntry i n) read is taken
refused r r' lines rest all line errors.TooMany read is taken = said r lines rest all line errors.TooMany read is taken
refused r r' lines rest all line errors.TooLong read is taken = said r lines rest all line errors.TooLong read is taken
refused r r' lines rest all line errors.NotUtf8 read is taken = said r lines rest all line errors.NotUtf8 read is taken
refused r r' lines rest all line (errors.BadLine n) read is taken = said r lines rest all line (errors.BadLine n) read is taken

-- the lines so far, the next one and the others
pub next_line : (lines all : List (List ℕ)) (n : ℕ) (line : List ℕ) → lines ≡ take n all → n < length all → line ≡ get_or all n line → lines ++ line ∷ drop (n + 1) all ≡ all
next_line lines all n line so_far within here = ap (λ ls. ls ++ line ∷ drop (n + 1) all) so_far ∙ ap (λ ls. take n all ++ ls) (ap (λ l. l ∷ drop (n + 1) all) here ∙ sym (drop_more all n line within)) ∙ take-append-drop n all

-- an error that is handed on
pub handed_on : {X : Type 0} (r : Result X ListError) (e : ListError) (P : Result X ListError → Type 0) → IsErrAnd r (λ x. x ≡ e) → P (Err e) → P r
handed_on (Ok x) e P h p = absurd h
handed_on (Err x) e P h p = subst (λ y. P (Err y)) (sym h) p
