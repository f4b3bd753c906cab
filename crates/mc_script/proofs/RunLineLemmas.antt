-- The words of a line, by what stands in them.
use Rattle.std.proofs.Common.{◌≡◌, ◌≤◌, ◌+◌, ◌++◌, ◌∷◌, [], List, ℕ, length, take, drop, refl, ap, sym, ◌∙◌, subst, inl, inr, arith, length-append}
use Rattle.std.specs.Prelude.{true, false, Option, Some, None, IfSome, codes, ◌==◌, ◌&&◌, nat_le, option_and_then}
use Rattle.std.specs.Option.{option_map}
use Rattle.std.specs.Str.{bytes_eq}
use Rattle.std.proofs.lemmas.Bool.{cases_Bool, le-leb, leb-true}
use Rattle.std.proofs.lemmas.List.{take-append-drop}
use Rattle.std.proofs.lemmas.Slice.Eq.{bytes_eq-Decides}
use Rattle.mc_value.specs.Numbers.{number_of}
use Rattle.mc_script.specs.declared.options.RunLine.{RunLine}
use Rattle.mc_script.specs.declared.options.Setting.{Setting}
use Rattle.mc_script.specs.declared.options.Setting.TheVariants.{Forward, Back, Readahead}
use Rattle.mc_script.specs.declared.options.Chosen.{Chosen}
use Rattle.mc_script.specs.Options.{between, first_of_both, limits_of, names_at, nanoseconds, nothing_chosen, number_behind, options_at, run_line, set_in, set_or_named, setting_of}
use Rattle.mc_script.specs.RunLines.{IsRunLine, IsWithin, Says, Sets}
use Rattle.mc_script.specs.RunLines.Says.{forward, back, readahead}
use Rattle.mc_script.specs.RunLines.Sets.{none, more}
use Rattle.mc_script.specs.Words.{is_name}

-- an option's word

says_set : {w : List ℕ} {s : Setting} → Says w s → setting_of w ≡ Some s
says_set (forward digits n e low high) = rw (e, le-leb 1 n low, le-leb n 1073741824 high) refl
says_set (back digits n e high) = let low : 0 ≤ n = omega arith in rw (e, le-leb 0 n low, le-leb n 1073741824 high) refl
says_set (readahead digits n e high) = let low : 0 ≤ n = omega arith in rw (e, le-leb 0 n low, le-leb n 3600000 high) refl

same_octets : (w v : List ℕ) → bytes_eq w v ≡ true → w ≡ v
same_octets w v told = (bytes_eq-Decides w v).0 told

record IsNumbered (name w : List ℕ) (n : ℕ) : Type 0 where
  digits : List ℕ
  word : name ++ digits ≡ w
  number : number_of digits ≡ Some n

numbered : (name w : List ℕ) (n : ℕ) → number_behind name w ≡ Some n → IsNumbered name w n
numbered name w n = elim (cases_Bool (bytes_eq (take (length name) w) name)) [ inl told ↦ rw told (λ e. record { digits = drop (length name) w; word = ap (λ v. v ++ drop (length name) w) (sym (same_octets (take (length name) w) name told)) ∙ take-append-drop (length name) w; number = e }) | inr told ↦ rw told (λ e. cc) ]

pub record IsBetween (least most : ℕ) (o : Option ℕ) (n : ℕ) : Type 0 where
  pub number : o ≡ Some n
  pub low : least ≤ n
  pub high : n ≤ most

pub in_range : (least most : ℕ) (o : Option ℕ) (n : ℕ) → between least most o ≡ Some n → IsBetween least most o n
in_range least most None n = λ e. cc
in_range least most (Some m) n = elim (cases_Bool (nat_le least m)) [ inl low ↦ elim (cases_Bool (nat_le m most)) [ inl high ↦ rw (low, high) (λ e. subst (IsBetween least most (Some m)) (some_same e) (record { number = refl; low = leb-true least m low; high = leb-true m most high })) | inr high ↦ rw (low, high) (λ e. cc) ] | inr low ↦ rw low (λ e. cc) ]
  where
    some_same : {a b : ℕ} → Some a ≡ Some b → a ≡ b
    some_same e = cc

forward_said : (w : List ℕ) (n : ℕ) → between 1 1073741824 (number_behind (codes "--forward=") w) ≡ Some n → Says w (Forward n)
forward_said w n e = let r = in_range 1 1073741824 (number_behind (codes "--forward=") w) n e in let d = numbered (codes "--forward=") w n r.number in subst (λ v. Says v (Forward n)) d.word (forward d.digits n d.number r.low r.high)

back_said : (w : List ℕ) (n : ℕ) → between 0 1073741824 (number_behind (codes "--back=") w) ≡ Some n → Says w (Back n)
back_said w n e = let r = in_range 0 1073741824 (number_behind (codes "--back=") w) n e in let d = numbered (codes "--back=") w n r.number in subst (λ v. Says v (Back n)) d.word (back d.digits n d.number r.high)

readahead_said : (w : List ℕ) (n : ℕ) → between 0 3600000 (number_behind (codes "--readahead=") w) ≡ Some n → Says w (Readahead (nanoseconds n))
readahead_said w n e = let r = in_range 0 3600000 (number_behind (codes "--readahead=") w) n e in let d = numbered (codes "--readahead=") w n r.number in subst (λ v. Says v (Readahead (nanoseconds n))) d.word (readahead d.digits n d.number r.high)

one_said : (w : List ℕ) (s : Setting) (a b c : Option ℕ) → between 1 1073741824 (number_behind (codes "--forward=") w) ≡ a → between 0 1073741824 (number_behind (codes "--back=") w) ≡ b → between 0 3600000 (number_behind (codes "--readahead=") w) ≡ c → first_of_both (option_map Forward a) (first_of_both (option_map Back b) (option_map (λ n. Readahead (nanoseconds n)) c)) ≡ Some s → Says w s
one_said w s (Some n) b c is_a is_b is_c e = let same : Forward n ≡ s = cc in subst (Says w) same (forward_said w n is_a)
one_said w s None (Some n) c is_a is_b is_c e = let same : Back n ≡ s = cc in subst (Says w) same (back_said w n is_b)
one_said w s None None (Some n) is_a is_b is_c e = let same : Readahead (nanoseconds n) ≡ s = cc in subst (Says w) same (readahead_said w n is_c)
one_said w s None None None is_a is_b is_c e = cc

set_said : (w : List ℕ) (s : Setting) → setting_of w ≡ Some s → Says w s
set_said w s e = one_said w s _ _ _ refl refl refl e

-- a name is no option

no_setting : (f : List ℕ) → is_name f ≡ true → setting_of f ≡ None
no_setting [] = λ e. refl
no_setting (c ∷ cs) = elim (cases_Bool (c == 45)) [ inl told ↦ rw told (λ e. cc) | inr told ↦ λ e. rw told refl ]

named_first : (c : Chosen) (at : ℕ) (names : List (List ℕ)) (line : RunLine) → names_at c at names ≡ Some line → options_at c at names ≡ Some line
named_first c at [] line e = cc
named_first c at (f ∷ names) line e = elim (cases_Bool (is_name f)) [ inl told ↦ rw (no_setting f told) e | inr told ↦ absurd (not_named c at f names line told e) ]
  where
    not_named : (c : Chosen) (at : ℕ) (f : List ℕ) (names : List (List ℕ)) (line : RunLine) → is_name f ≡ false → names_at c at (f ∷ names) ≡ Some line → ⊥
    not_named c at f [] line told = rw told (λ e. cc)
    not_named c at f (s ∷ []) line told = rw told (λ e. cc)
    not_named c at f (s ∷ x ∷ xs) line told = λ e. cc

all_set : {c d : Chosen} {options : List (List ℕ)} → Sets c options d → (at : ℕ) (names : List (List ℕ)) (line : RunLine) → names_at d (at + length options) names ≡ Some line → options_at c at (options ++ names) ≡ Some line
all_set (none c) at names line e = let k : at + length {A = List ℕ} [] ≡ at = omega arith in named_first c at names line (subst (λ n. names_at c n names ≡ Some line) k e)
all_set (more w s ws before first last says set rest) at names line e =
    let k : at + length (w ∷ ws) ≡ at + 1 + length ws = omega arith in
    rw (says_set says, set) (all_set rest (at + 1) names line (subst (λ n. names_at last n names ≡ Some line) k e))

pub line_only : (words : List (List ℕ)) (line : RunLine) → IsRunLine words line → run_line words ≡ Some line
line_only words line is = ap run_line is.order ∙ all_set is.set 1 is.names line is.named

-- what options and names say

record Tail (c : Chosen) (at : ℕ) (words : List (List ℕ)) (line : RunLine) : Type 0 where
  options : List (List ℕ)
  names : List (List ℕ)
  chosen : Chosen
  order : words ≡ options ++ names
  set : Sets c options chosen
  named : names_at chosen (at + length options) names ≡ Some line

one_more : (c d : Chosen) (at : ℕ) (w : List ℕ) (ws : List (List ℕ)) (s : Setting) (line : RunLine) → setting_of w ≡ Some s → set_in s c ≡ Some d → Tail d (at + 1) ws line → Tail c at (w ∷ ws) line
one_more c d at w ws s line is set tail =
    let k : at + 1 + length tail.options ≡ at + length (w ∷ tail.options) = omega arith in
    record { options = w ∷ tail.options; names = tail.names; chosen = tail.chosen; order = ap (λ l. w ∷ l) tail.order; set = more w s tail.options c d tail.chosen (set_said w s is) set tail.set; named = subst (λ n. names_at tail.chosen n tail.names ≡ Some line) k tail.named }

after_set : (c : Chosen) (at : ℕ) (w : List ℕ) (ws : List (List ℕ)) (s : Setting) (line : RunLine) (o : Option Chosen) → setting_of w ≡ Some s → set_in s c ≡ o → ((d : Chosen) → options_at d (at + 1) ws ≡ Some line → Tail d (at + 1) ws line) → option_and_then (λ d. options_at d (at + 1) ws) o ≡ Some line → Tail c at (w ∷ ws) line
after_set c at w ws s line None is set others e = cc
after_set c at w ws s line (Some d) is set others e = one_more c d at w ws s line is set (others d e)

at_word : (c : Chosen) (at : ℕ) (w : List ℕ) (ws : List (List ℕ)) (line : RunLine) (o : Option Setting) → setting_of w ≡ o → ((d : Chosen) → options_at d (at + 1) ws ≡ Some line → Tail d (at + 1) ws line) → set_or_named o c (λ d. options_at d (at + 1) ws) (names_at c at (w ∷ ws)) ≡ Some line → Tail c at (w ∷ ws) line
at_word c at w ws line None is others e = let k : at ≡ at + length {A = List ℕ} [] = omega arith in record { options = []; names = w ∷ ws; chosen = c; order = refl; set = none c; named = subst (λ n. names_at c n (w ∷ ws) ≡ Some line) k e }
at_word c at w ws line (Some s) is others e = after_set c at w ws s line (set_in s c) is refl others e

tail_said : (words : List (List ℕ)) (c : Chosen) (at : ℕ) (line : RunLine) → options_at c at words ≡ Some line → Tail c at words line
tail_said [] c at line e = cc
tail_said (w ∷ ws) c at line e = at_word c at w ws line (setting_of w) refl (λ d. tail_said ws d (at + 1) line) e

pub line_said : (words : List (List ℕ)) (line : RunLine) → run_line words ≡ Some line → IsRunLine words line
line_said [] line = λ e. cc
line_said (command ∷ words) line = elim (cases_Bool (bytes_eq command (codes "run"))) [ inl told ↦ rw told (λ e. let t = tail_said words nothing_chosen 1 line e in record { options = t.options; names = t.names; chosen = t.chosen; order = ap (λ c. c ∷ words) (same_octets command (codes "run") told) ∙ ap (λ l. codes "run" ∷ l) t.order; set = t.set; named = t.named }) | inr told ↦ rw told (λ e. cc) ]

-- the names are among the words

abbrev file_at : Chosen → ℕ → Option ℕ → RunLine
file_at c at script = record { limits = limits_of c; file = at; script = script }

one_name : (c : Chosen) (at : ℕ) (line : RunLine) → Some (file_at c at None) ≡ Some line → IsWithin (at + 1) line
one_name c at line e = let same : file_at c at None ≡ line = cc in subst (IsWithin (at + 1)) same (record { file = omega arith; script = tt })

two_names : (c : Chosen) (at : ℕ) (line : RunLine) → Some (file_at c at (Some (at + 1))) ≡ Some line → IsWithin (at + 2) line
two_names c at line e = let same : file_at c at (Some (at + 1)) ≡ line = cc in subst (IsWithin (at + 2)) same (record { file = omega arith; script = omega arith })

names_within : (c : Chosen) (at : ℕ) (names : List (List ℕ)) (line : RunLine) → names_at c at names ≡ Some line → IsWithin (at + length names) line
names_within c at [] line = λ e. cc
names_within c at (f ∷ []) line = elim (cases_Bool (is_name f)) [ inl told ↦ rw told (λ e. one_name c at line e) | inr told ↦ rw told (λ e. cc) ]
names_within c at (f ∷ s ∷ []) line = elim (cases_Bool (is_name f && is_name s)) [ inl told ↦ rw told (λ e. two_names c at line e) | inr told ↦ rw told (λ e. cc) ]
names_within c at (f ∷ s ∷ x ∷ xs) line = λ e. cc

pub line_within : (words : List (List ℕ)) (line : RunLine) → IsRunLine words line → IsWithin (length words) line
line_within words line is =
    let k : length words ≡ 1 + length is.options + length is.names = omega (arith, ap length is.order, length-append is.options is.names) in
    subst (λ n. IsWithin n line) (sym k) (names_within is.chosen (1 + length is.options) is.names line is.named)

pub for_answer : (o : Option RunLine) (P : RunLine → Type 0) → ((line : RunLine) → o ≡ Some line → P line) → IfSome o P
for_answer None P told = tt
for_answer (Some line) P told = told line refl
