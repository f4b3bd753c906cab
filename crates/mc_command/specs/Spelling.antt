-- How a line spells its words, by the characters that stand in it.
use Rattle.std.specs.Prelude.{◌≡◌, ℕ, ◌-◌, ◌^◌, min, true, false, ◌==◌, List, [], ◌∷◌, ◌++◌, length, Result, Ok, Err, encode_utf8, ⊤}
use Rattle.std.specs.List.{AllByRecursion}
use Rattle.std.specs.Str.{encode_utf8_all}
use Rattle.mc_command.specs.Lines.{is_blank, is_special}

-- characters between quotes, and the octets that they stand for: one other than `"` and `\` stands
-- for itself, `\"` and `\\` for `"` and `\`, and a `\` before any other for itself
pub data Quotes : List ℕ → List ℕ → Type 0 where
  nothing : Quotes [] []
  itself : (c : ℕ) (cs text : List ℕ) → is_special c ≡ false → Quotes cs text
      → Quotes (c ∷ cs) (encode_utf8 c ++ text)
  escape : (c : ℕ) (cs text : List ℕ) → is_special c ≡ true → Quotes cs text
      → Quotes (92 ∷ c ∷ cs) (encode_utf8 c ++ text)
  backslash : (c : ℕ) (cs text : List ℕ) → is_special c ≡ false → Quotes (c ∷ cs) text
      → Quotes (92 ∷ c ∷ cs) (92 ∷ text)

-- the characters of a word in a line, and its octets: characters other than spaces and tabs, the
-- first of them no `"`, or any between quotes
pub data Word : List ℕ → List ℕ → Type 0 where
  plain : (c : ℕ) (cs : List ℕ) → (c == 34) ≡ false
      → AllByRecursion (λ d. is_blank d ≡ false) (c ∷ cs) → Word (c ∷ cs) (encode_utf8_all (c ∷ cs))
  quoted : (cs text : List ℕ) → Quotes cs text → Word (34 ∷ cs ++ 34 ∷ []) text

-- where a word may end: before a space, a tab or the line's end
abbrev pub Ends : List ℕ → Type 0
Ends [] = ⊤
Ends (c ∷ cs) = is_blank c ≡ true

-- a line begins with these words, and spaces and tabs before, between and behind them; and the rest
-- of the line
pub data Begins : List ℕ → List (List ℕ) → List ℕ → Type 0 where
  here : (rest : List ℕ) → Begins rest [] rest
  blank : (c : ℕ) (cs : List ℕ) (ws : List (List ℕ)) (rest : List ℕ) → is_blank c ≡ true
      → Begins cs ws rest → Begins (c ∷ cs) ws rest
  word : (s w more : List ℕ) (ws : List (List ℕ)) (rest : List ℕ) → Word s w → Ends more
      → Begins more ws rest → Begins (s ++ more) (w ∷ ws) rest

-- something stands here, and no word does
abbrev pub NoWord : List ℕ → Type 0
NoWord [] = ⊥
NoWord (c ∷ cs) = (is_blank c ≡ false)
    × ((s w more : List ℕ) → Word s w → Ends more → c ∷ cs ≡ s ++ more → ⊥)

-- a line is these words; or so many words stand in it before something that is none, a number above
-- 2^32 - 1 being told as that
abbrev pub Spells : List ℕ → Result (List (List ℕ)) ℕ → Type 0
Spells line (Ok ws) = Begins line ws []
Spells line (Err n) = (ws : List (List ℕ)) × (rest : List ℕ) × Begins line ws rest
    × NoWord rest × (n ≡ min (length ws) (2 ^ 32 - 1))
