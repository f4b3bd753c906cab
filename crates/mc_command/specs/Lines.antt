-- The words of a line: between spaces and tabs, or between quotes.
use Rattle.std.specs.Prelude.{◌≡◌, ℕ, ◌+◌, ◌-◌, ◌^◌, min, Bool, if◌then◌else◌, ◌==◌, ◌||◌, List, [], ◌∷◌, ◌++◌, length, Result, Ok, Err, encode_utf8, string_bytes}
use Rattle.std.specs.Str.{chars}
use Rattle.mc_command.specs.declared.scan.Scan.{Scan}
use Rattle.mc_command.specs.declared.scan.Place.{Place}
use Rattle.mc_command.specs.declared.scan.Place.TheVariants.{Gap, Plain, Quoted, Escape, Closed, Broken}

-- a space or a tab
abbrev pub is_blank : ℕ → Bool
is_blank c = c == 32 || c == 9

-- what a `\` in quotes escapes: `"` and `\`
abbrev pub is_special : ℕ → Bool
is_special c = c == 34 || c == 92

-- a text in front of the first word
abbrev pub in_front : List ℕ → Result (List (List ℕ)) ℕ → Result (List (List ℕ)) ℕ
in_front text (Ok []) = Ok []
in_front text (Ok (w ∷ ws)) = Ok ((text ++ w) ∷ ws)
in_front text (Err n) = Err n

-- the word ends here, and these words follow
abbrev pub ends_before : Result (List (List ℕ)) ℕ → Result (List (List ℕ)) ℕ
ends_before (Ok ws) = Ok ([] ∷ ws)
ends_before (Err n) = Err (n + 1)

-- the words that characters give from a place on, the rest of a word that was begun first; or how
-- many words stand before the first wrong one
abbrev pub words_from : Place → List ℕ → Result (List (List ℕ)) ℕ
words_from Gap [] = Ok []
words_from Gap (c ∷ cs) =
    if is_blank c then words_from Gap cs else
    if c == 34 then words_from Quoted cs else in_front (encode_utf8 c) (words_from Plain cs)
words_from Plain [] = Ok ([] ∷ [])
words_from Plain (c ∷ cs) =
    if is_blank c then ends_before (words_from Gap cs) else
    in_front (encode_utf8 c) (words_from Plain cs)
words_from Quoted [] = Err 0
words_from Quoted (c ∷ cs) =
    if c == 34 then words_from Closed cs else
    if c == 92 then words_from Escape cs else in_front (encode_utf8 c) (words_from Quoted cs)
words_from Escape [] = Err 0
words_from Escape (c ∷ cs) =
    if is_special c then in_front (encode_utf8 c) (words_from Quoted cs) else
    in_front (92 ∷ encode_utf8 c) (words_from Quoted cs)
words_from Closed [] = Ok ([] ∷ [])
words_from Closed (c ∷ cs) = if is_blank c then ends_before (words_from Gap cs) else Err 0
words_from Broken cs = Err 0

-- the greatest number that is told
abbrev pub told : Result (List (List ℕ)) ℕ → Result (List (List ℕ)) ℕ
told (Ok ws) = Ok ws
told (Err n) = Err (min n (2 ^ 32 - 1))

-- the words of a line, or the number of the first wrong one
abbrev pub line_words : List ℕ → Result (List (List ℕ)) ℕ
line_words line = told (words_from Gap (chars line))

-- words before others
abbrev pub behind_words : List (List ℕ) → Result (List (List ℕ)) ℕ → Result (List (List ℕ)) ℕ
behind_words ws (Ok more) = Ok (ws ++ more)
behind_words ws (Err n) = Err (length ws + n)

-- outside a word none is begun
abbrev pub begun : Place → List ℕ → Result (List (List ℕ)) ℕ → Result (List (List ℕ)) ℕ
begun Gap word more = more
begun Plain word more = in_front word more
begun Quoted word more = in_front word more
begun Escape word more = in_front word more
begun Closed word more = in_front word more
begun Broken word more = in_front word more

-- the words of a scan and the characters still to come
abbrev pub resumed : Scan → List ℕ → Result (List (List ℕ)) ℕ
resumed s more =
    behind_words s.words (begun s.place (string_bytes s.word) (words_from s.place more))

-- a scan that took one character more gives the same words
abbrev pub Takes : Scan → Scan → ℕ → Type 0
Takes s s' c = (more : List ℕ) → resumed s' more ≡ resumed s (c ∷ more)
