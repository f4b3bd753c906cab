-- The grammar of a script by what stands in it: the words of each form, and lines one after the other.
use Rattle.std.specs.Prelude.{◌≡◌, ◌≤◌, ◌<◌, ℕ, ◌+◌, Bool, true, false, fold, List, [], ◌∷◌, ◌++◌, length, Option, Some, None, Result, Ok, Err, codes, ⊤}
use Rattle.std.specs.List.{AllByRecursion}
use Rattle.std.specs.Str.{IsUtf8}
use Rattle.mc_packet.specs.declared.choice.Dir.TheVariants as dirs
use Rattle.mc_packet.specs.declared.choice.Kind.{Kind}
use Rattle.mc_packet.specs.declared.choice.Kind.TheVariants as kinds
use Rattle.mc_command.specs.Lines.{line_words}
use Rattle.mc_script.specs.declared.acts.Act.{Act}
use Rattle.mc_script.specs.declared.acts.ScriptError.{ScriptError}
use Rattle.mc_script.specs.declared.acts.ScriptError.TheVariants as failures
use Rattle.mc_script.specs.declared.acts.ScriptWhy.{ScriptWhy}
use Rattle.mc_script.specs.declared.acts.ScriptWhy.TheVariants.{Size, Utf8, Word, Number}
use Rattle.mc_script.specs.Forms.{Form, act_of, is_at, may_stand}
use Rattle.mc_script.specs.Script.{is_comment, out_after, script_lines}

abbrev pub kind_word : Kind → List ℕ
kind_word kinds.Video = codes "video"
kind_word kinds.Audio = codes "audio"
kind_word kinds.Sub = codes "sub"

-- no word is `at`
abbrev pub NoAt : List (List ℕ) → Type 0
NoAt words = AllByRecursion (λ w. is_at w ≡ false) words

-- the words of each form
pub data HasForm : List (List ℕ) → Form → Type 0 where
  seek : (s : List ℕ) → HasForm (codes "seek" ∷ s ∷ []) (Form.seek s dirs.Back)
  seek_forward : (s : List ℕ) → HasForm (codes "seek" ∷ s ∷ codes "forward" ∷ []) (Form.seek s dirs.Forward)
  switch : (tracks : List (List ℕ)) → NoAt tracks → HasForm (codes "switch" ∷ tracks) (Form.switch tracks None)
  switch_at : (tracks : List (List ℕ)) (s : List ℕ) → NoAt tracks → is_at s ≡ false → HasForm (codes "switch" ∷ tracks ++ codes "at" ∷ s ∷ []) (Form.switch tracks (Some s))
  show : HasForm (codes "show" ∷ []) Form.show
  demux : HasForm (codes "demux" ∷ []) (Form.demux None)
  demux_take : HasForm (codes "demux" ∷ codes "take" ∷ []) Form.demux_take
  demux_give : HasForm (codes "demux" ∷ codes "give" ∷ []) Form.demux_give
  demux_some : (n : List ℕ) → (n ≡ codes "take" → ⊥) → (n ≡ codes "give" → ⊥) → HasForm (codes "demux" ∷ n ∷ []) (Form.demux (Some n))
  read : (kind : Kind) → HasForm (codes "read" ∷ kind_word kind ∷ []) (Form.read kind None)
  read_some : (kind : Kind) (n : List ℕ) → HasForm (codes "read" ∷ kind_word kind ∷ n ∷ []) (Form.read kind (Some n))
  drain : HasForm (codes "drain" ∷ []) Form.drain

-- what a line says where a job is out, or none is: nothing, an act, or why it is refused
pub data SaysLine : Bool → List ℕ → Result (Option Act) ScriptWhy → Type 0 where
  comment : (out : Bool) (line : List ℕ) → is_comment line ≡ true → SaysLine out line (Ok None)
  no_words : (out : Bool) (line : List ℕ) → is_comment line ≡ false → line_words line ≡ Ok [] → SaysLine out line (Ok None)
  act : (out : Bool) (line : List ℕ) (words : List (List ℕ)) (form : Form) (act : Act) → is_comment line ≡ false → line_words line ≡ Ok words → HasForm words form → may_stand out form ≡ true → act_of form ≡ Some act → SaysLine out line (Ok (Some act))
  bad_words : (out : Bool) (line : List ℕ) (n : ℕ) → is_comment line ≡ false → line_words line ≡ Err n → SaysLine out line (Err Word)
  no_form : (out : Bool) (line w : List ℕ) (ws : List (List ℕ)) → is_comment line ≡ false → line_words line ≡ Ok (w ∷ ws) → ((form : Form) → HasForm (w ∷ ws) form → ⊥) → SaysLine out line (Err Word)
  no_place : (out : Bool) (line : List ℕ) (words : List (List ℕ)) (form : Form) → is_comment line ≡ false → line_words line ≡ Ok words → HasForm words form → may_stand out form ≡ false → SaysLine out line (Err Word)
  bad_number : (out : Bool) (line : List ℕ) (words : List (List ℕ)) (form : Form) → is_comment line ≡ false → line_words line ≡ Ok words → HasForm words form → may_stand out form ≡ true → act_of form ≡ None → SaysLine out line (Err Number)

-- whether a job is out behind acts: one was taken and not given
abbrev pub is_out : List (ℕ × Act) → Bool
is_out acts = fold (λ out act. out_after act.1 out) false acts

-- lines that are all in the grammar, and their acts with the lines' numbers, counted from 1 over all lines
pub data AreActs : List (List ℕ) → List (ℕ × Act) → Type 0 where
  none : AreActs [] []
  skipped : (lines : List (List ℕ)) (acts : List (ℕ × Act)) (line : List ℕ) → AreActs lines acts → SaysLine (is_out acts) line (Ok None) → AreActs (lines ++ line ∷ []) acts
  more : (lines : List (List ℕ)) (acts : List (ℕ × Act)) (line : List ℕ) (act : Act) → AreActs lines acts → SaysLine (is_out acts) line (Ok (Some act)) → AreActs (lines ++ line ∷ []) (acts ++ (length lines + 1, act) ∷ [])

-- the first line that is not: those before it are in the grammar, and it is refused behind their acts
pub record IsFirstBad (lines : List (List ℕ)) (n : ℕ) (why : ScriptWhy) : Type 0 where
  pub before : List (List ℕ)
  pub line : List ℕ
  pub behind : List (List ℕ)
  pub acts : List (ℕ × Act)
  pub order : lines ≡ before ++ line ∷ behind
  pub read : AreActs before acts
  pub refused : SaysLine (is_out acts) line (Err why)
  pub number : n ≡ length before + 1

-- why a text is refused, at its line or, at 0, as a whole
pub data IsRefused : List ℕ → ℕ → ScriptWhy → Type 0 where
  too_long : (text : List ℕ) → 16777216 < length text → IsRefused text 0 Size
  no_text : (text : List ℕ) → length text ≤ 16777216 → (IsUtf8 text → ⊥) → IsRefused text 0 Utf8
  at_line : (text : List ℕ) (n : ℕ) (why : ScriptWhy) → length text ≤ 16777216 → IsUtf8 text → IsFirstBad (script_lines text) n why → IsRefused text n why

-- a text is a script of these acts
pub record IsScript (text : List ℕ) (acts : List (ℕ × Act)) : Type 0 where
  pub small : length text ≤ 16777216
  pub utf8 : IsUtf8 text
  pub read : AreActs (script_lines text) acts

-- what a text says: its acts, or a line and why it is refused
abbrev pub Says : List ℕ → Result (List (ℕ × Act)) (ℕ × ScriptWhy) → Type 0
Says text (Ok acts) = IsScript text acts
Says text (Err refusal) = IsRefused text refusal.0 refusal.1

-- what a call answers, but for want of memory, is so
abbrev pub Found : Result (List (ℕ × Act)) ScriptError → (Result (List (ℕ × Act)) (ℕ × ScriptWhy) → Type 0) → Type 0
Found (Ok acts) P = P (Ok acts)
Found (Err (failures.Refused line why)) P = P (Err (line, why))
Found (Err failures.NoMemory) P = ⊤
