-- Words in front of others.
use Rattle.std.proofs.Common.{◌≡◌, ◌++◌, ◌∷◌, [], List, ℕ, refl, arith, append_assoc, append-nil, length-append, ap, ◌∙◌}
use Rattle.std.specs.Prelude.{ℤ, Option, Some, None, Result, Ok, Err}
use Rattle.std.specs.Option.{ok_or}
use Rattle.std.specs.Prelude.{true, false, ◌==◌, OnOk, encode_utf8, string_bytes}
use Rattle.mc_command.specs.declared.scan.Scan.{Scan}
use Rattle.mc_command.specs.declared.scan.Place.{Place}
use Rattle.mc_command.specs.declared.scan.Place.TheVariants.{Gap, Plain, Quoted, Escape, Closed}
use Rattle.mc_command.specs.Lines.{Takes, begun, behind_words, ends_before, in_front, is_blank, is_special, words_from}

pub in_front_more : (w t : List ℕ) (r : Result (List (List ℕ)) ℕ) → in_front (w ++ t) r ≡ in_front w (in_front t r)
in_front_more w t (Ok []) = refl
in_front_more w t (Ok (v ∷ vs)) = rw append_assoc refl
in_front_more w t (Err n) = refl

pub in_front_none : (r : Result (List (List ℕ)) ℕ) → in_front [] r ≡ r
in_front_none (Ok []) = refl
in_front_none (Ok (v ∷ vs)) = refl
in_front_none (Err n) = refl

pub word_ends : (ws : List (List ℕ)) (w : List ℕ) (r : Result (List (List ℕ)) ℕ) → behind_words (ws ++ w ∷ []) r ≡ behind_words ws (in_front w (ends_before r))
word_ends ws w (Ok vs) = rw (append_assoc, append-nil) refl
word_ends ws w (Err n) = ap Err (simp length-append (omega arith))

pub no_words : (r : Result (List (List ℕ)) ℕ) → behind_words [] r ≡ r
no_words (Ok ws) = refl
no_words (Err n) = ap Err (omega arith)

pub ok_or_some : {E : Type 0} → (o : Option ℤ) (e : E) (t : ℤ) → ok_or o e ≡ Ok t → o ≡ Some t
ok_or_some None e t h = cc
ok_or_some (Some x) e t h = cc

pub ok_or_none : {E : Type 0} → (o : Option ℤ) (e f : E) → ok_or o e ≡ Err f → o ≡ None
ok_or_none None e f h = refl
ok_or_none (Some x) e f h = cc

-- a piece more of the word that was begun
grows : {E : Type 0} (r : Result (Unit {0}) E) (s t : Scan) (c : ℕ) (piece : List ℕ) → ((w more : List ℕ) → begun t.place (w ++ piece) (words_from t.place more) ≡ begun s.place w (words_from s.place (c ∷ more))) → t.words ≡ s.words → OnOk r (string_bytes t.word ≡ string_bytes s.word ++ piece) → OnOk r (Takes s t c)
grows (Ok x) s t c piece step words word = λ more. rw (words, word) (ap (behind_words s.words) (step (string_bytes s.word) more))
grows (Err x) s t c piece step words word = tt

plain_step : (p q : Place) (c : ℕ) → p ≡ Plain → q ≡ p → is_blank c ≡ false → (w more : List ℕ) → begun q (w ++ encode_utf8 c) (words_from q more) ≡ begun p w (words_from p (c ∷ more))
plain_step p q c is_plain same told w more = rw (same, is_plain, told) (in_front_more w (encode_utf8 c) (words_from Plain more))

quoted_step : (p q : Place) (c : ℕ) → p ≡ Quoted → q ≡ p → (c == 34) ≡ false → (c == 92) ≡ false → (w more : List ℕ) → begun q (w ++ encode_utf8 c) (words_from q more) ≡ begun p w (words_from p (c ∷ more))
quoted_step p q c is_quoted same quote backslash w more = rw (same, is_quoted, quote, backslash) (in_front_more w (encode_utf8 c) (words_from Quoted more))

escape_step : (p q : Place) (c : ℕ) → p ≡ Escape → q ≡ Quoted → is_special c ≡ true → (w more : List ℕ) → begun q (w ++ encode_utf8 c) (words_from q more) ≡ begun p w (words_from p (c ∷ more))
escape_step p q c is_escape is_quoted told w more = rw (is_quoted, is_escape, told) (in_front_more w (encode_utf8 c) (words_from Quoted more))

kept_step : (p q : Place) (c : ℕ) → p ≡ Escape → q ≡ Quoted → is_special c ≡ false → (w more : List ℕ) → begun q (w ++ 92 ∷ encode_utf8 c) (words_from q more) ≡ begun p w (words_from p (c ∷ more))
kept_step p q c is_escape is_quoted told w more = rw (is_quoted, is_escape, told) (in_front_more w (92 ∷ encode_utf8 c) (words_from Quoted more))

-- one more character of a word without quotes
pub plain_takes : {E : Type 0} (r : Result (Unit {0}) E) (s t : Scan) (c : ℕ) → s.place ≡ Plain → t.place ≡ s.place → is_blank c ≡ false → t.words ≡ s.words → OnOk r (string_bytes t.word ≡ string_bytes s.word ++ encode_utf8 c) → OnOk r (Takes s t c)
plain_takes r s t c is_plain same told = grows r s t c (encode_utf8 c) (plain_step s.place t.place c is_plain same told)

-- one more character between quotes
pub quoted_takes : {E : Type 0} (r : Result (Unit {0}) E) (s t : Scan) (c : ℕ) → s.place ≡ Quoted → t.place ≡ s.place → (c == 34) ≡ false → (c == 92) ≡ false → t.words ≡ s.words → OnOk r (string_bytes t.word ≡ string_bytes s.word ++ encode_utf8 c) → OnOk r (Takes s t c)
quoted_takes r s t c is_quoted same quote backslash = grows r s t c (encode_utf8 c) (quoted_step s.place t.place c is_quoted same quote backslash)

-- a character that a `\` escapes
pub escaped_takes : {E : Type 0} (r : Result (Unit {0}) E) (s t : Scan) (c : ℕ) → s.place ≡ Escape → t.place ≡ Quoted → is_special c ≡ true → t.words ≡ s.words → OnOk r (string_bytes t.word ≡ string_bytes s.word ++ encode_utf8 c) → OnOk r (Takes s t c)
escaped_takes r s t c is_escape is_quoted told = grows r s t c (encode_utf8 c) (escape_step s.place t.place c is_escape is_quoted told)

-- any other character behind a `\`
pub kept_takes : {E : Type 0} (r : Result (Unit {0}) E) (s t : Scan) (c : ℕ) (w : List ℕ) → s.place ≡ Escape → t.place ≡ Quoted → is_special c ≡ false → t.words ≡ s.words → w ≡ string_bytes s.word ++ 92 ∷ [] → OnOk r (string_bytes t.word ≡ w ++ encode_utf8 c) → OnOk r (Takes s t c)
kept_takes {E} (Ok x) s t c w is_escape is_quoted told words front word = grows {E = E} (Ok x) s t c (92 ∷ encode_utf8 c) (kept_step s.place t.place c is_escape is_quoted told) words (word ∙ ap (λ v. v ++ encode_utf8 c) front ∙ append_assoc (string_bytes s.word) (92 ∷ []) (encode_utf8 c))
kept_takes (Err x) s t c w is_escape is_quoted told words front word = tt

-- a blank behind a word without quotes
pub plain_ends : {E : Type 0} (r : Result (Unit {0}) E) (s s' : Scan) (c : ℕ) → s.place ≡ Plain → is_blank c ≡ true → OnOk r (s'.words ≡ s.words ++ string_bytes s.word ∷ []) → OnOk r (s'.place ≡ Gap) → OnOk r (Takes s s' c)
plain_ends (Ok x) s s' c at_place told words place = λ more. rw (at_place, told, words, place) (word_ends s.words (string_bytes s.word) (words_from Gap more))
plain_ends (Err x) s s' c at_place told words place = tt

-- a blank behind a closing quote
pub closed_ends : {E : Type 0} (r : Result (Unit {0}) E) (s s' : Scan) (c : ℕ) → s.place ≡ Closed → is_blank c ≡ true → OnOk r (s'.words ≡ s.words ++ string_bytes s.word ∷ []) → OnOk r (s'.place ≡ Gap) → OnOk r (Takes s s' c)
closed_ends (Ok x) s s' c at_place told words place = λ more. rw (at_place, told, words, place) (word_ends s.words (string_bytes s.word) (words_from Gap more))
closed_ends (Err x) s s' c at_place told words place = tt
