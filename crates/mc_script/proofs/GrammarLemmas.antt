-- Lines and scripts by what stands in them.
use Rattle.std.proofs.Common.{◌≡◌, ◌≤◌, ◌<◌, ◌+◌, ◌++◌, ◌∷◌, [], List, ℕ, length, refl, ap, sym, ◌∙◌, subst, inl, inr, arith, append_assoc, append-nil, length-append}
use Rattle.std.specs.Prelude.{Bool, true, false, Option, Some, None, Result, Ok, Err, nat_le, if◌then◌else◌}
use Rattle.std.specs.Option.{ok_or}
use Rattle.std.specs.Str.{IsUtf8, is_utf8}
use Rattle.std.proofs.lemmas.Bool.{cases_Bool, leb-true, leb-false}
use Rattle.std.proofs.lemmas.List.Sums.{fold-append}
use Rattle.std.proofs.lemmas.Str.{IsUtf8-from_is_utf8, is_utf8-from_IsUtf8}
use Rattle.mc_command.specs.Lines.{line_words}
use Rattle.mc_script.specs.declared.acts.Act.{Act}
use Rattle.mc_script.specs.declared.acts.ScriptError.{ScriptError}
use Rattle.mc_script.specs.declared.acts.ScriptError.TheVariants as failures
use Rattle.mc_script.specs.declared.acts.ScriptWhy.{ScriptWhy}
use Rattle.mc_script.specs.declared.acts.ScriptWhy.TheVariants.{Size, Utf8, Number}
use Rattle.mc_script.specs.Forms.{Form, act_in, act_of, may_stand}
use Rattle.mc_script.specs.Script.{Gives, act_of_words, acts_from, before_acts, is_comment, line_act, out_after, script_lines, script_of, some_act}
use Rattle.mc_script.specs.Reading.{behind_acts}
use Rattle.mc_script.specs.Grammar.{AreActs, Found, HasForm, IsFirstBad, IsRefused, IsScript, Says, SaysLine, is_out}
use Rattle.mc_script.specs.Grammar.SaysLine.{comment, no_words, act, bad_words, no_form, no_place, bad_number}
use Rattle.mc_script.specs.Grammar.AreActs.{none, skipped, more}
use Rattle.mc_script.specs.Grammar.IsRefused.{too_long, no_text, at_line}
use Rattle.mc_script.proofs.FormLemmas.{form_is, form_of, form_said}
use Rattle.mc_script.proofs.TextLemmas.{of_other, of_text}

-- what a line says

by_number : (out : Bool) (line : List ℕ) (words : List (List ℕ)) (form : Form) (o : Option Act) → is_comment line ≡ false → line_words line ≡ Ok words → HasForm words form → may_stand out form ≡ true → act_of form ≡ o → SaysLine out line (some_act (ok_or o Number))
by_number out line words form None told is has stands e = bad_number out line words form told is has stands e
by_number out line words form (Some one) told is has stands e = act out line words form one told is has stands e

by_place : (out : Bool) (line : List ℕ) (words : List (List ℕ)) (form : Form) → is_comment line ≡ false → line_words line ≡ Ok words → HasForm words form → SaysLine out line (some_act (act_in out (Some form)))
by_place out line words form told is has = elim (cases_Bool (may_stand out form)) [ inl stands ↦ rw stands (by_number out line words form (act_of form) told is has stands refl) | inr stands ↦ rw stands (no_place out line words form told is has stands) ]

by_form : (out : Bool) (line w : List ℕ) (ws : List (List ℕ)) (o : Option Form) → is_comment line ≡ false → line_words line ≡ Ok (w ∷ ws) → form_of (w ∷ ws) ≡ o → SaysLine out line (some_act (act_in out o))
by_form out line w ws None told is e = no_form out line w ws told is (λ form has. let k = form_is has in cc)
by_form out line w ws (Some form) told is e = by_place out line (w ∷ ws) form told is (form_said (w ∷ ws) form e)

by_words : (out : Bool) (line : List ℕ) (r : Result (List (List ℕ)) ℕ) → is_comment line ≡ false → line_words line ≡ r → SaysLine out line (act_of_words out r)
by_words out line (Err n) told is = bad_words out line n told is
by_words out line (Ok []) told is = no_words out line told is
by_words out line (Ok (w ∷ ws)) told is = by_form out line w ws (form_of (w ∷ ws)) told is refl

pub line_says : (out : Bool) (line : List ℕ) → SaysLine out line (line_act out line)
line_says out line = elim (cases_Bool (is_comment line)) [ inl told ↦ rw told (comment out line told) | inr told ↦ rw told (by_words out line (line_words line) told refl) ]

-- a line says nothing else

of_form : (out : Bool) (words : List (List ℕ)) (form : Form) → HasForm words form → act_of_words out (Ok words) ≡ some_act (act_in out (Some form))
of_form out [] form has = let k = form_is has in cc
of_form out (w ∷ ws) form has = ap (λ o. some_act (act_in out o)) (form_is has)

no_form_of : (words : List (List ℕ)) (o : Option Form) → ((form : Form) → HasForm words form → ⊥) → form_of words ≡ o → o ≡ None
no_form_of words None others e = refl
no_form_of words (Some form) others e = absurd (others form (form_said words form e))

not_comment : (out : Bool) (line : List ℕ) (r : Result (List (List ℕ)) ℕ) → is_comment line ≡ false → line_words line ≡ r → line_act out line ≡ act_of_words out r
not_comment out line r told is = rw (told, is) refl

pub line_only : {out : Bool} {line : List ℕ} {r : Result (Option Act) ScriptWhy} → SaysLine out line r → line_act out line ≡ r
line_only (comment out line told) = rw told refl
line_only (no_words out line told is) = not_comment out line (Ok []) told is
line_only (act out line words form one told is has stands e) = not_comment out line (Ok words) told is ∙ of_form out words form has ∙ rw (stands, e) refl
line_only (bad_words out line n told is) = not_comment out line (Err n) told is
line_only (no_form out line w ws told is others) = not_comment out line (Ok (w ∷ ws)) told is ∙ ap (λ o. some_act (act_in out o)) (no_form_of (w ∷ ws) (form_of (w ∷ ws)) others refl)
line_only (no_place out line words form told is has stands) = not_comment out line (Ok words) told is ∙ of_form out words form has ∙ rw stands refl
line_only (bad_number out line words form told is has stands e) = not_comment out line (Ok words) told is ∙ of_form out words form has ∙ rw (stands, e) refl

-- lines one after the other

abbrev Answer : Type 0
Answer = Result (List (ℕ × Act)) (ℕ × ScriptWhy)

in_front_none : (r : Answer) → behind_acts [] r ≡ r
in_front_none (Ok acts) = refl
in_front_none (Err refusal) = refl

one_more : (acts : List (ℕ × Act)) (one : ℕ × Act) (r : Answer) → behind_acts acts (before_acts one r) ≡ behind_acts (acts ++ one ∷ []) r
one_more acts one (Ok others) = ap Ok (sym (append_assoc acts (one ∷ []) others))
one_more acts one (Err refusal) = refl

out_more : (acts : List (ℕ × Act)) (n : ℕ) (one : Act) → is_out (acts ++ (n, one) ∷ []) ≡ out_after one (is_out acts)
out_more acts n one = fold-append (λ out act. out_after act.1 out) false acts ((n, one) ∷ [])

-- the lines behind those that were read, the next one among them
abbrev from_here : List (List ℕ) → List (ℕ × Act) → List (List ℕ) → Answer
from_here lines acts rest = behind_acts acts (acts_from (length lines + 1) (is_out acts) rest)

number_more : (lines : List (List ℕ)) (line : List ℕ) → length lines + 1 + 1 ≡ length (lines ++ line ∷ []) + 1
number_more lines line = omega (arith, length-append lines (line ∷ []))

skip_more : (lines rest : List (List ℕ)) (acts : List (ℕ × Act)) (line : List ℕ) → line_act (is_out acts) line ≡ Ok None → from_here lines acts (line ∷ rest) ≡ from_here (lines ++ line ∷ []) acts rest
skip_more lines rest acts line e = rw e (ap (λ n. behind_acts acts (acts_from n (is_out acts) rest)) (number_more lines line))

act_more : (lines rest : List (List ℕ)) (acts : List (ℕ × Act)) (line : List ℕ) (one : Act) → line_act (is_out acts) line ≡ Ok (Some one) → from_here lines acts (line ∷ rest) ≡ from_here (lines ++ line ∷ []) (acts ++ (length lines + 1, one) ∷ []) rest
act_more lines rest acts line one e =
    rw e (one_more acts (length lines + 1, one) (acts_from (length lines + 1 + 1) (out_after one (is_out acts)) rest)
    ∙ ap (λ n. behind_acts (acts ++ (length lines + 1, one) ∷ []) (acts_from n (out_after one (is_out acts)) rest)) (number_more lines line)
    ∙ ap (λ out. behind_acts (acts ++ (length lines + 1, one) ∷ []) (acts_from (length (lines ++ line ∷ []) + 1) out rest)) (sym (out_more acts (length lines + 1) one)))

upto : {lines : List (List ℕ)} {acts : List (ℕ × Act)} → AreActs lines acts → (rest : List (List ℕ)) → acts_from 1 false (lines ++ rest) ≡ from_here lines acts rest
upto none rest = sym (in_front_none (acts_from 1 false rest))
upto (skipped lines acts line read says) rest = ap (acts_from 1 false) (append_assoc lines (line ∷ []) rest) ∙ upto read (line ∷ rest) ∙ skip_more lines rest acts line (line_only says)
upto (more lines acts line one read says) rest = ap (acts_from 1 false) (append_assoc lines (line ∷ []) rest) ∙ upto read (line ∷ rest) ∙ act_more lines rest acts line one (line_only says)

-- a text says nothing else

all_acts : (lines : List (List ℕ)) (acts : List (ℕ × Act)) → AreActs lines acts → acts_from 1 false lines ≡ Ok acts
all_acts lines acts read = ap (acts_from 1 false) (sym (append-nil lines)) ∙ upto read [] ∙ ap Ok (append-nil acts)

first_bad : (lines : List (List ℕ)) (n : ℕ) (why : ScriptWhy) → IsFirstBad lines n why → acts_from 1 false lines ≡ Err (n, why)
first_bad lines n why bad =
    let e = line_only bad.refused in
    let here : from_here bad.before bad.acts (bad.line ∷ bad.behind) ≡ Err (length bad.before + 1, why) = rw e refl in
    ap (acts_from 1 false) bad.order ∙ upto bad.read (bad.line ∷ bad.behind) ∙ here ∙ ap (λ k. Err (k, why)) (sym bad.number)

long_of : (text : List ℕ) → 16777216 < length text → script_of text ≡ Err (0, Size)
long_of text long = elim (cases_Bool (nat_le (length text) 16777216)) [ inl told ↦ absurd (let k = leb-true (length text) 16777216 told in omega (arith, k, long)) | inr told ↦ rw told refl ]

refused_only : {text : List ℕ} {n : ℕ} {why : ScriptWhy} → IsRefused text n why → script_of text ≡ Err (n, why)
refused_only (too_long text long) = long_of text long
refused_only (no_text text small other) = of_other text small other
refused_only (at_line text n why small utf8 bad) = of_text text small utf8 ∙ first_bad (script_lines text) n why bad

pub text_only : (text : List ℕ) (said : Answer) → Says text said → script_of text ≡ said
text_only text (Ok acts) is = of_text text is.small is.utf8 ∙ all_acts (script_lines text) acts is.read
text_only text (Err refusal) is = refused_only is

-- what a text says

abbrev Told : List (List ℕ) → Answer → Type 0
Told all (Ok acts) = AreActs all acts
Told all (Err refusal) = IsFirstBad all refusal.0 refusal.1

at_next : (all lines rest : List (List ℕ)) (acts : List (ℕ × Act)) (line : List ℕ) (r : Result (Option Act) ScriptWhy) → all ≡ lines ++ line ∷ rest → AreActs lines acts → line_act (is_out acts) line ≡ r → SaysLine (is_out acts) line r → ((lines' : List (List ℕ)) (acts' : List (ℕ × Act)) → all ≡ lines' ++ rest → AreActs lines' acts' → Told all (from_here lines' acts' rest)) → Told all (from_here lines acts (line ∷ rest))
at_next all lines rest acts line (Err why) order read e says others = rw e (record { before = lines; line = line; behind = rest; acts = acts; order = order; read = read; refused = says; number = refl })
at_next all lines rest acts line (Ok None) order read e says others = subst (Told all) (sym (skip_more lines rest acts line e)) (others (lines ++ line ∷ []) acts (order ∙ sym (append_assoc lines (line ∷ []) rest)) (skipped lines acts line read says))
at_next all lines rest acts line (Ok (Some one)) order read e says others = subst (Told all) (sym (act_more lines rest acts line one e)) (others (lines ++ line ∷ []) (acts ++ (length lines + 1, one) ∷ []) (order ∙ sym (append_assoc lines (line ∷ []) rest)) (more lines acts line one read says))

walk : (rest all lines : List (List ℕ)) (acts : List (ℕ × Act)) → all ≡ lines ++ rest → AreActs lines acts → Told all (from_here lines acts rest)
walk [] all lines acts order read = subst (λ a. Told all (Ok a)) (sym (append-nil acts)) (subst (λ l. AreActs l acts) (sym (append-nil lines) ∙ sym order) read)
walk (line ∷ rest) all lines acts order read = at_next all lines rest acts line (line_act (is_out acts) line) order read refl (line_says (is_out acts) line) (λ lines' acts'. walk rest all lines' acts')

in_text : (text : List ℕ) (r : Answer) → length text ≤ 16777216 → IsUtf8 text → Told (script_lines text) r → Says text r
in_text text (Ok acts) small utf8 read = record { small = small; utf8 = utf8; read = read }
in_text text (Err refusal) small utf8 bad = at_line text refusal.0 refusal.1 small utf8 bad

of_size : (text : List ℕ) → length text ≤ 16777216 → Says text (if is_utf8 text then acts_from 1 false (script_lines text) else Err (0, Utf8))
of_size text small = elim (cases_Bool (is_utf8 text)) [ inl told ↦ rw told (in_text text (acts_from 1 false (script_lines text)) small (IsUtf8-from_is_utf8 text told) (subst (Told (script_lines text)) (in_front_none (acts_from 1 false (script_lines text))) (walk (script_lines text) (script_lines text) [] [] refl none))) | inr told ↦ rw told (no_text text small (λ utf8. let k = is_utf8-from_IsUtf8 text utf8 in cc)) ]

pub text_says : (text : List ℕ) → Says text (script_of text)
text_says text = elim (cases_Bool (nat_le (length text) 16777216)) [ inl told ↦ rw told (of_size text (leb-true (length text) 16777216 told)) | inr told ↦ rw told (too_long text (leb-false (length text) 16777216 told)) ]

pub acts_of_text : (text : List ℕ) (acts : List (ℕ × Act)) → script_of text ≡ Ok acts → acts_from 1 false (script_lines text) ≡ Ok acts
acts_of_text text acts e = let is : IsScript text acts = subst (Says text) e (text_says text) in all_acts (script_lines text) acts is.read

-- a call's answer

pub found : (r : Result (List (ℕ × Act)) ScriptError) (text : List ℕ) → Gives r (script_of text) → Found r (Says text)
found (Ok acts) text e = subst (Says text) e (text_says text)
found (Err (failures.Refused line why)) text e = subst (Says text) e (text_says text)
found (Err failures.NoMemory) text e = tt
