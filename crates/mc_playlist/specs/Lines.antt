-- The lines of a list's script, and what they ask for.
use Rattle.std.specs.Prelude.{◌≡◌, ℕ, ◌+◌, ◌^◌, nat_lt, nat_le, if◌then◌else◌, List, [], ◌∷◌, length, codes, Option, Some, None, Result, Ok, Err, ⊤}
use Rattle.std.specs.Option.{option_map}
use Rattle.std.specs.Str.{bytes_eq, is_utf8}
use Rattle.mc_command.specs.Lines.{line_words}
use Rattle.mc_script.specs.Script.{is_comment, script_lines}
use Rattle.mc_script.specs.Words.{is_name}
use Rattle.mc_value.specs.Numbers.{place_of}
use Rattle.mc_playlist.specs.declared.acts.ListAct.{ListAct}
use Rattle.mc_playlist.specs.declared.acts.ListAct.TheVariants.{Step, Play, PlayAll, Watch}
use Rattle.mc_playlist.specs.declared.lines.LineError.{LineError}
use Rattle.mc_playlist.specs.declared.lines.LineError.TheVariants as line_errors
use Rattle.mc_playlist.specs.declared.lines.Verb.{Verb}
use Rattle.mc_playlist.specs.declared.lines.Verb.TheVariants as verbs
use Rattle.mc_playlist.specs.declared.steps.ListError.{ListError}
use Rattle.mc_playlist.specs.declared.steps.ListError.TheVariants as errors
use Rattle.mc_playlist.specs.declared.steps.ListStep.{ListStep}
use Rattle.mc_playlist.specs.declared.steps.ListStep.TheVariants as steps

-- ---- forms

-- a place in a list: digits without a needless 0 in front, below 2^32
abbrev pub small : Option ℕ → Option ℕ
small None = None
small (Some n) = if nat_lt n (2 ^ 32) then Some n else None

abbrev pub entry_of : List ℕ → Option ℕ
entry_of w = small (place_of w)

-- add NAME; a NAME is not empty and does not begin with a dash
abbrev pub add_act : List (List ℕ) → Option ListAct
add_act [] = None
add_act (name ∷ []) = if is_name name then Some (Step (steps.Add name)) else None
add_act (name ∷ x ∷ xs) = None

-- an entry as the only word, and a step to it
abbrev pub one_entry : List (List ℕ) → Option ℕ
one_entry [] = None
one_entry (i ∷ []) = entry_of i
one_entry (i ∷ x ∷ xs) = None

abbrev pub entry_act : (ℕ → ListStep) → List (List ℕ) → Option ListAct
entry_act step args = option_map (λ n. Step (step n)) (one_entry args)

-- move I J
abbrev pub move_to : Option ℕ → Option ℕ → Option ListAct
move_to None j = None
move_to (Some i) None = None
move_to (Some i) (Some j) = Some (Step (steps.Move i j))

abbrev pub move_act : List (List ℕ) → Option ListAct
move_act [] = None
move_act (i ∷ []) = None
move_act (i ∷ j ∷ []) = move_to (entry_of i) (entry_of j)
move_act (i ∷ j ∷ x ∷ xs) = None

-- a line of one word
abbrev pub plain_act : ListAct → List (List ℕ) → Option ListAct
plain_act act [] = Some act
plain_act act (x ∷ xs) = None

-- play, and play all
abbrev pub play_act : List (List ℕ) → Option ListAct
play_act [] = Some Play
play_act (w ∷ []) = if bytes_eq w (codes "all") then Some PlayAll else None
play_act (w ∷ x ∷ xs) = None

-- watch NAME
abbrev pub watch_act : List (List ℕ) → Option ListAct
watch_act [] = None
watch_act (name ∷ []) = Some (Watch name)
watch_act (name ∷ x ∷ xs) = None

-- what a line's first word asks for
abbrev pub verb_of : List ℕ → Option Verb
verb_of w =
    if bytes_eq w (codes "add") then Some verbs.Add else
    if bytes_eq w (codes "remove") then Some verbs.Remove else
    if bytes_eq w (codes "move") then Some verbs.Move else
    if bytes_eq w (codes "clear") then Some verbs.Clear else
    if bytes_eq w (codes "next") then Some verbs.Next else
    if bytes_eq w (codes "prev") then Some verbs.Prev else
    if bytes_eq w (codes "jump") then Some verbs.Jump else
    if bytes_eq w (codes "play") then Some verbs.Play else
    if bytes_eq w (codes "watch") then Some verbs.Watch else None

-- what the first word and the others ask for
abbrev pub act_by : Option Verb → List (List ℕ) → Option ListAct
act_by None args = None
act_by (Some verbs.Add) args = add_act args
act_by (Some verbs.Remove) args = entry_act steps.Remove args
act_by (Some verbs.Move) args = move_act args
act_by (Some verbs.Clear) args = plain_act (Step steps.Clear) args
act_by (Some verbs.Next) args = plain_act (Step steps.Next) args
act_by (Some verbs.Prev) args = plain_act (Step steps.Prev) args
act_by (Some verbs.Jump) args = entry_act steps.Jump args
act_by (Some verbs.Play) args = play_act args
act_by (Some verbs.Watch) args = watch_act args

-- ---- lines

-- what the words of a line ask for, nothing where there are none; none of both where they are
-- outside the grammar
abbrev pub words_said : Result (List (List ℕ)) ℕ → Option (Option ListAct)
words_said (Err n) = None
words_said (Ok []) = Some None
words_said (Ok (w ∷ ws)) = option_map (λ act. Some act) (act_by (verb_of w) ws)

-- so of a line, which asks for nothing where it is a comment
abbrev pub line_said : List ℕ → Option (Option ListAct)
line_said line = if is_comment line then Some None else words_said (line_words line)

-- an act in front of the others
abbrev pub before_acts : ℕ × ListAct → Result (List (ℕ × ListAct)) ListError
    → Result (List (ℕ × ListAct)) ListError
before_acts act (Ok more) = Ok (act ∷ more)
before_acts act (Err e) = Err e

-- what the line of this number gives, and what follows it
abbrev pub behind_line : ℕ → Option (Option ListAct) → Result (List (ℕ × ListAct)) ListError
    → Result (List (ℕ × ListAct)) ListError
behind_line n None more = Err (errors.BadLine n)
behind_line n (Some None) more = more
behind_line n (Some (Some act)) more = before_acts (n, act) more

-- the acts of lines from a number on, each with the number of its line, or the first line outside
-- the grammar
abbrev pub acts_from : ℕ → List (List ℕ) → Result (List (ℕ × ListAct)) ListError
acts_from n [] = Ok []
acts_from n (line ∷ lines) = behind_line n (line_said line) (acts_from (n + 1) lines)

-- what a text says: its acts, or why it is refused
abbrev pub list_said : List ℕ → Result (List (ℕ × ListAct)) ListError
list_said text =
    if nat_le (length text) 16777216 then
    (if is_utf8 text then acts_from 1 (script_lines text) else Err errors.NotUtf8)
    else Err errors.TooLong

-- a line's reader answers what the line says; want of memory says nothing
abbrev pub Means : {T : Type 0} → Result T LineError → Option T → Type 0
Means (Ok act) said = said ≡ Some act
Means (Err line_errors.Bad) said = said ≡ None
Means (Err line_errors.NoMemory) said = ⊤
