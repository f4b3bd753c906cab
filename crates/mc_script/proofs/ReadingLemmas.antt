-- A script that is read line by line.
use Rattle.std.proofs.Common.{◌≡◌, ◌<◌, ◌+◌, ◌++◌, ◌∷◌, [], List, ℕ, length, map, take, drop, get_or, ap, sym, ◌∙◌, subst, append-nil}
use Rattle.std.proofs.lemmas.List.{drop_more, take-append-drop}
use Rattle.std.specs.Prelude.{false, Result, Ok, Err, IsErrAnd}
use Rattle.std.specs.Str.Lines.{strip_carriage_return}
use Rattle.mc_script.specs.declared.script.Reading.{Reading}
use Rattle.mc_script.specs.declared.acts.ScriptError.{ScriptError}
use Rattle.mc_script.specs.declared.acts.ScriptError.TheVariants as failures
use Rattle.mc_script.specs.Reading.{Takes, resumed}
use Rattle.mc_script.specs.Script.{Gives, acts_from}

-- these lines were read, their carriage returns not yet dropped
pub record IsReadTo (r : Reading) (lines : List (List ℕ)) : Type 0 where
  pub number : r.number ≡ length lines
  pub same : (more : List (List ℕ)) → resumed r (map strip_carriage_return more) ≡ acts_from 1 false (map strip_carriage_return (lines ++ more))

-- all lines were read
pub finished : (r : Reading) (lines all : List (List ℕ)) → IsReadTo r lines → lines ≡ all → acts_from 1 false (map strip_carriage_return all) ≡ Ok r.script
finished r lines all read e = ap (λ ls. acts_from 1 false (map strip_carriage_return ls)) (sym e ∙ sym (append-nil lines)) ∙ sym (read.same []) ∙ ap Ok (append-nil r.script)

-- the next line is refused
pub refused : (r r' : Reading) (lines rest all : List (List ℕ)) (line : List ℕ) (e : ScriptError) → IsReadTo r lines → lines ++ line ∷ rest ≡ all → Takes r r' (strip_carriage_return line) (Err e) → Gives (Err e) (acts_from 1 false (map strip_carriage_return all))
refused r r' lines rest all line (failures.Refused n why) read e taken = ap (λ ls. acts_from 1 false (map strip_carriage_return ls)) (sym e) ∙ sym (read.same (line ∷ rest)) ∙ taken (map strip_carriage_return rest)
refused r r' lines rest all line failures.NoMemory read e taken = tt

-- the lines so far, the next one and the others
pub next_line : (lines all : List (List ℕ)) (n : ℕ) (line : List ℕ) → lines ≡ take n all → n < length all → line ≡ get_or all n line → lines ++ line ∷ drop (n + 1) all ≡ all
next_line lines all n line so_far within here = ap (λ ls. ls ++ line ∷ drop (n + 1) all) so_far ∙ ap (λ ls. take n all ++ ls) (ap (λ l. l ∷ drop (n + 1) all) here ∙ sym (drop_more all n line within)) ∙ take-append-drop n all

-- an error that is handed on
pub handed_on : {X : Type 0} (r : Result X ScriptError) (e : ScriptError) (P : Result X ScriptError → Type 0) → IsErrAnd r (λ x. x ≡ e) → P (Err e) → P r
handed_on (Ok x) e P h p = absurd h
handed_on (Err x) e P h p = subst (λ y. P (Err y)) (sym h) p
