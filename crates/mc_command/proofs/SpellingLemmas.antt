-- The words that the scan gives are those that the line spells, and no others.
use Rattle.std.proofs.Common.{◌≡◌, ℕ, zero, suc, ◌+◌, ◌-◌, ◌^◌, ◌<◌, ◌≤◌, min, true, false, List, [], ◌∷◌, ◌++◌, length, refl, sym, ap, ◌∙◌, subst, arith, append_assoc, append-nil, add-zero, length-append, ◌⊎◌, inl, inr}
use Rattle.std.proofs.lemmas.Bool.{cases_Bool, or_parts, eqb-true}
use Rattle.std.specs.Prelude.{◌==◌, Result, Ok, Err, encode_utf8}
use Rattle.std.specs.List.{AllByRecursion}
use Rattle.std.specs.Str.{encode_utf8_all}
use Rattle.mc_command.specs.Commands.{Found, Parses}
use Rattle.mc_command.specs.declared.command.CommandError.{CommandError}
use Rattle.mc_command.specs.declared.command.CommandError.TheVariants as failures
use Rattle.mc_command.specs.declared.scan.Place.TheVariants.{Gap, Plain, Quoted, Escape, Closed}
use Rattle.mc_command.specs.Lines.{behind_words, ends_before, in_front, is_blank, is_special, told, words_from}
use Rattle.mc_command.specs.Spelling.{Begins, Ends, NoWord, Quotes, Spells, Word}
use Rattle.mc_command.specs.Spelling.Quotes.{nothing, itself, escape, backslash}
use Rattle.mc_command.specs.Spelling.Word.{plain, quoted}
use Rattle.mc_command.specs.Spelling.Begins.{here, blank, word}
use Rattle.mc_command.proofs.LineLemmas.{in_front_more, in_front_none, no_words}

-- what the scan answers to a spelling

one_quoted : (c : ℕ) (cs : List ℕ) → is_special c ≡ false → words_from Quoted (c ∷ cs) ≡ in_front (encode_utf8 c) (words_from Quoted cs)
one_quoted c cs told = let t = or_parts (c == 34) (c == 92) told in rw (t.0, t.1) refl

words_quoted : {cs text : List ℕ} → Quotes cs text → (more : List ℕ) → words_from Quoted (cs ++ 34 ∷ more) ≡ in_front text (words_from Closed more)
words_quoted nothing more = sym (in_front_none (words_from Closed more))
words_quoted (itself c cs text told q) more = let t = or_parts (c == 34) (c == 92) told in rw (t.0, t.1) (ap (in_front (encode_utf8 c)) (words_quoted q more) ∙ sym (in_front_more (encode_utf8 c) text (words_from Closed more)))
words_quoted (escape c cs text told q) more = rw told (ap (in_front (encode_utf8 c)) (words_quoted q more) ∙ sym (in_front_more (encode_utf8 c) text (words_from Closed more)))
words_quoted (backslash c cs text told q) more =
    let inside = words_from Quoted (cs ++ 34 ∷ more) in
    let so_far : in_front (encode_utf8 c) inside ≡ in_front text (words_from Closed more) = sym (one_quoted c (cs ++ 34 ∷ more) told) ∙ words_quoted q more in
    rw told (in_front_more (92 ∷ []) (encode_utf8 c) inside ∙ ap (in_front (92 ∷ [])) so_far ∙ sym (in_front_more (92 ∷ []) text (words_from Closed more)))

words_plain : (cs : List ℕ) → AllByRecursion (λ d. is_blank d ≡ false) cs → (more : List ℕ) → words_from Plain (cs ++ more) ≡ in_front (encode_utf8_all cs) (words_from Plain more)
words_plain [] all more = sym (in_front_none (words_from Plain more))
words_plain (c ∷ cs) all more = rw all.0 (ap (in_front (encode_utf8 c)) (words_plain cs all.1 more) ∙ sym (in_front_more (encode_utf8 c) (encode_utf8_all cs) (words_from Plain more)))

plain_ends : (more : List ℕ) → Ends more → words_from Plain more ≡ ends_before (words_from Gap more)
plain_ends [] ends = refl
plain_ends (c ∷ cs) ends = rw ends refl

closed_ends : (more : List ℕ) → Ends more → words_from Closed more ≡ ends_before (words_from Gap more)
closed_ends [] ends = refl
closed_ends (c ∷ cs) ends = rw ends refl

first_word : {s w : List ℕ} → Word s w → (more : List ℕ) → Ends more → words_from Gap (s ++ more) ≡ in_front w (ends_before (words_from Gap more))
first_word (plain c cs quote all) more ends = rw (all.0, quote) (ap (in_front (encode_utf8 c)) (words_plain cs all.1 more ∙ ap (in_front (encode_utf8_all cs)) (plain_ends more ends)) ∙ sym (in_front_more (encode_utf8 c) (encode_utf8_all cs) (ends_before (words_from Gap more))))
first_word (quoted cs text q) more ends = ap (words_from Quoted) (append_assoc cs (34 ∷ []) more) ∙ words_quoted q more ∙ ap (in_front text) (closed_ends more ends)

one_more : (w : List ℕ) (ws : List (List ℕ)) (r : Result (List (List ℕ)) ℕ) → in_front w (ends_before (behind_words ws r)) ≡ behind_words (w ∷ ws) r
one_more w ws (Ok vs) = rw append-nil refl
one_more w ws (Err n) = ap Err (omega arith)

begins_words : {cs : List ℕ} {ws : List (List ℕ)} {rest : List ℕ} → Begins cs ws rest → words_from Gap cs ≡ behind_words ws (words_from Gap rest)
begins_words (here rest) = sym (no_words (words_from Gap rest))
begins_words (blank c cs ws rest told b) = rw told (begins_words b)
begins_words (word s w more ws rest v ends b) = first_word v more ends ∙ ap (λ r. in_front w (ends_before r)) (begins_words b) ∙ one_more w ws (words_from Gap rest)

-- a scan that finds no word

is_err : Result (List (List ℕ)) ℕ → ℕ
is_err (Ok ws) = 1
is_err (Err n) = n

not_first : (w : List ℕ) (r : Result (List (List ℕ)) ℕ) → in_front w (ends_before r) ≡ Err 0 → ⊥
unfolding is_err
not_first w (Ok ws) e = cc
not_first w (Err n) e = let k : n + 1 ≡ 0 = ap is_err e in omega arith

no_word : (c : ℕ) (cs : List ℕ) → is_blank c ≡ false → words_from Gap (c ∷ cs) ≡ Err 0 → NoWord (c ∷ cs)
no_word c cs told e = (told, λ s w more v ends same. not_first w (words_from Gap more) (sym (first_word v more ends) ∙ ap (words_from Gap) (sym same) ∙ e))

-- what stands at a place

abbrev Plains : List ℕ → Type 0
Plains cs = (s : List ℕ) × (rest : List ℕ) × AllByRecursion (λ d. is_blank d ≡ false) s × Ends rest × (cs ≡ s ++ rest)

plains : (cs : List ℕ) → Plains cs
plains [] = ([], [], tt, tt, refl)
plains (c ∷ cs) = elim (cases_Bool (is_blank c)) [ inl told ↦ ([], c ∷ cs, tt, told, refl) | inr told ↦ let k = plains cs in (c ∷ k.0, k.1, (told, k.2), k.3, ap (λ l. c ∷ l) k.4) ]

-- the part before a closing quote, of characters that stand behind others
abbrev Part : List ℕ → List ℕ → Type 0
Part front cs = (inner : List ℕ) × (text : List ℕ) × (rest : List ℕ) × Quotes (front ++ inner) text × (cs ≡ inner ++ 34 ∷ rest)

abbrev Parts : List ℕ → Type 0
Parts cs = ((words_from Quoted cs ≡ Err 0) ⊎ Part [] cs) × ((words_from Escape cs ≡ Err 0) ⊎ Part (92 ∷ []) cs)

longer : (front cs : List ℕ) (c : ℕ) → ((inner text : List ℕ) → Quotes inner text → (t : List ℕ) × Quotes (front ++ c ∷ inner) t) → Part [] cs → Part front (c ∷ cs)
longer front cs c step k = let q = step k.0 k.1 k.3 in (c ∷ k.0, q.0, k.2, q.1, ap (λ l. c ∷ l) k.4)

in_quotes : (c : ℕ) (cs : List ℕ) → Parts cs → (words_from Quoted (c ∷ cs) ≡ Err 0) ⊎ Part [] (c ∷ cs)
in_quotes c cs parts = elim (cases_Bool (c == 34)) [ inl is_quote ↦ inr ([], [], cs, nothing, ap (λ d. d ∷ cs) (eqb-true c 34 is_quote)) | inr no_quote ↦ elim (cases_Bool (c == 92)) [ inl is_backslash ↦ behind_backslash no_quote is_backslash parts.1 | inr no_backslash ↦ itself_more no_quote no_backslash parts.0 ] ]
  where
    behind_backslash : (c == 34) ≡ false → (c == 92) ≡ true → ((words_from Escape cs ≡ Err 0) ⊎ Part (92 ∷ []) cs) → (words_from Quoted (c ∷ cs) ≡ Err 0) ⊎ Part [] (c ∷ cs)
    behind_backslash a b (inl e) = inl (rw (a, b) e)
    behind_backslash a b (inr k) = inr (92 ∷ k.0, k.1, k.2, k.3, rw (eqb-true c 92 b) (ap (λ l. 92 ∷ l) k.4))

    itself_more : (c == 34) ≡ false → (c == 92) ≡ false → ((words_from Quoted cs ≡ Err 0) ⊎ Part [] cs) → (words_from Quoted (c ∷ cs) ≡ Err 0) ⊎ Part [] (c ∷ cs)
    itself_more a b (inl e) = inl (rw (a, b) (ap (in_front (encode_utf8 c)) e))
    itself_more a b (inr k) = inr (longer [] cs c (λ inner text q. (encode_utf8 c ++ text, itself c inner text (rw (a, b) refl) q)) k)

escaped : (c : ℕ) (cs : List ℕ) → ((words_from Quoted cs ≡ Err 0) ⊎ Part [] cs) → (words_from Escape (c ∷ cs) ≡ Err 0) ⊎ Part (92 ∷ []) (c ∷ cs)
escaped c cs (inl e) = elim (cases_Bool (is_special c)) [ inl told ↦ inl (rw told (ap (in_front (encode_utf8 c)) e)) | inr told ↦ inl (rw told (ap (in_front (92 ∷ encode_utf8 c)) e)) ]
escaped c cs (inr k) = elim (cases_Bool (is_special c)) [ inl told ↦ inr (longer (92 ∷ []) cs c (λ inner text q. (encode_utf8 c ++ text, escape c inner text told q)) k) | inr told ↦ inr (longer (92 ∷ []) cs c (λ inner text q. (92 ∷ encode_utf8 c ++ text, backslash c inner (encode_utf8 c ++ text) told (itself c inner text told q))) k) ]

parts_of : (cs : List ℕ) → Parts cs
parts_of [] = (inl refl, inl refl)
parts_of (c ∷ cs) = let k = parts_of cs in (in_quotes c cs k, escaped c cs k.0)

-- a word stands at the front, or none does
abbrev First : List ℕ → Type 0
First cs = (s : List ℕ) × (w : List ℕ) × (more : List ℕ) × Word s w × Ends more × (cs ≡ s ++ more)

closed_first : (cs inner text rest : List ℕ) → Quotes inner text → cs ≡ inner ++ 34 ∷ rest → (words_from Quoted cs ≡ Err 0) ⊎ First (34 ∷ cs)
closed_first cs inner text [] q same = inr (34 ∷ inner ++ 34 ∷ [], text, [], quoted inner text q, tt, ap (λ l. 34 ∷ l) (same ∙ sym (append-nil (inner ++ 34 ∷ []))))
closed_first cs inner text (d ∷ rest) q same = elim (cases_Bool (is_blank d)) [ inl told ↦ inr (34 ∷ inner ++ 34 ∷ [], text, d ∷ rest, quoted inner text q, told, ap (λ l. 34 ∷ l) (same ∙ sym (append_assoc inner (34 ∷ []) (d ∷ rest)))) | inr told ↦ inl (ap (words_from Quoted) same ∙ words_quoted q (d ∷ rest) ∙ rw told refl) ]

quote_first : (cs : List ℕ) → ((words_from Quoted cs ≡ Err 0) ⊎ Part [] cs) → (words_from Quoted cs ≡ Err 0) ⊎ First (34 ∷ cs)
quote_first cs (inl e) = inl e
quote_first cs (inr k) = closed_first cs k.0 k.1 k.2 k.3 k.4

first : (c : ℕ) (cs : List ℕ) → is_blank c ≡ false → (words_from Gap (c ∷ cs) ≡ Err 0) ⊎ First (c ∷ cs)
first c cs told = elim (cases_Bool (c == 34)) [ inl is_quote ↦ at_quote is_quote (quote_first cs (parts_of cs).0) | inr no_quote ↦ let k = plains cs in inr (c ∷ k.0, encode_utf8_all (c ∷ k.0), k.1, plain c k.0 no_quote (told, k.2), k.3, ap (λ l. c ∷ l) k.4) ]
  where
    at_quote : (c == 34) ≡ true → ((words_from Quoted cs ≡ Err 0) ⊎ First (34 ∷ cs)) → (words_from Gap (c ∷ cs) ≡ Err 0) ⊎ First (c ∷ cs)
    at_quote e (inl h) = inl (rw (told, e) h)
    at_quote e (inr h) = inr (rw (eqb-true c 34 e) h)

no_word_answer : (cs : List ℕ) → NoWord cs → words_from Gap cs ≡ Err 0
no_word_answer [] none = absurd none
no_word_answer (c ∷ cs) none = elim (first c cs none.0) [ inl e ↦ e | inr k ↦ absurd (none.1 k.0 k.1 k.2 k.3 k.4 k.5) ]

-- each line has a reading

word_long : {s w : List ℕ} → Word s w → 0 < length s
word_long (plain c cs quote all) = omega arith
word_long (quoted cs text q) = omega arith

abbrev Reading : List ℕ → Type 0
Reading cs = (ws : List (List ℕ)) × (rest : List ℕ) × Begins cs ws rest × ((rest ≡ []) ⊎ NoWord rest)

reading : (n : ℕ) (cs : List ℕ) → length cs ≤ n → Reading cs
reading n [] le = ([], [], here [], inl refl)
reading zero (c ∷ cs) le = absurd (omega arith)
reading (suc n) (c ∷ cs) le = elim (cases_Bool (is_blank c)) [ inl told ↦ let k = reading n cs (omega arith) in (k.0, k.1, blank c cs k.0 k.1 told k.2, k.3) | inr told ↦ elim (first c cs told) [ inl e ↦ ([], c ∷ cs, here (c ∷ cs), inr (no_word c cs told e)) | inr f ↦ let k = reading n f.2 (omega (arith, word_long f.3, ap length f.5, length-append f.0 f.2)) in (f.1 ∷ k.0, k.1, subst (λ l. Begins l (f.1 ∷ k.0) k.1) (sym f.5) (word f.0 f.1 f.2 k.0 k.1 f.3 f.4 k.2), k.3) ] ]

line_told : (cs : List ℕ) (ws : List (List ℕ)) (rest : List ℕ) → Begins cs ws rest → (rest ≡ []) ⊎ NoWord rest → Spells cs (told (words_from Gap cs))
line_told cs ws rest b (inl e) =
    let words = begins_words b ∙ ap (λ l. behind_words ws (words_from Gap l)) e ∙ ap Ok (append-nil ws) in
    subst (λ r. Spells cs (told r)) (sym words) (subst (Begins cs ws) e b)
line_told cs ws rest b (inr none) =
    let words = begins_words b ∙ ap (behind_words ws) (no_word_answer rest none) in
    subst (λ r. Spells cs (told r)) (sym words) (ws, rest, b, none, ap (λ n. min n (2 ^ 32 - 1)) (add-zero (length ws)))

pub line_spelled : (cs : List ℕ) → Spells cs (told (words_from Gap cs))
line_spelled cs = let k = reading (length cs) cs (omega arith) in line_told cs k.0 k.1 k.2 k.3

pub line_only : (cs : List ℕ) (said : Result (List (List ℕ)) ℕ) → Spells cs said → told (words_from Gap cs) ≡ said
line_only cs (Ok ws) b = ap told (begins_words b ∙ ap Ok (append-nil ws))
line_only cs (Err n) k = ap told (begins_words k.2 ∙ ap (behind_words k.0) (no_word_answer k.1 k.3)) ∙ ap Err (ap (λ m. min m (2 ^ 32 - 1)) (add-zero (length k.0)) ∙ sym k.4)

pub found : {X : Type 0} (r : Result X CommandError) (said : Result X ℕ) (P : Result X ℕ → Type 0) → Parses r said → P said → Found r P
found (Ok x) said P h p = subst P h p
found (Err (failures.Bad n)) said P h p = subst P h p
found (Err failures.NoMemory) said P h p = tt
