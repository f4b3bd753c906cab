-- A script: its lines, and the acts that they mean.
use Rattle.std.specs.Prelude.{◌≡◌, ℕ, ◌+◌, nat_le, Bool, true, false, ◌==◌, if◌then◌else◌, List, [], ◌∷◌, map, length, Option, Some, None, Result, Ok, Err, ⊤}
use Rattle.std.specs.List.{slice_split}
use Rattle.std.specs.Str.{is_utf8}
use Rattle.std.specs.Str.Lines.{strip_carriage_return}
use Rattle.mc_command.specs.Lines.{line_words}
use Rattle.mc_script.specs.declared.acts.Act.{Act}
use Rattle.mc_script.specs.declared.acts.Act.TheVariants as acts
use Rattle.mc_script.specs.declared.acts.ScriptWhy.{ScriptWhy}
use Rattle.mc_script.specs.declared.acts.ScriptWhy.TheVariants.{Size, Utf8, Word}
use Rattle.mc_script.specs.declared.acts.ScriptError.{ScriptError}
use Rattle.mc_script.specs.declared.acts.ScriptError.TheVariants as failures
use Rattle.mc_script.specs.Forms.{words_act}

-- the lines of a text: an LF parts them, what stands behind the last LF is one too, and one CR at a line's end is dropped
abbrev pub script_lines : List ℕ → List (List ℕ)
script_lines text = map strip_carriage_return (slice_split (λ b. b == 10) text)

-- a line that begins with `#`
abbrev pub is_comment : List ℕ → Bool
is_comment [] = false
is_comment (c ∷ cs) = c == 35

-- an act that is there
abbrev pub some_act : Result Act ScriptWhy → Result (Option Act) ScriptWhy
some_act (Ok act) = Ok (Some act)
some_act (Err why) = Err why

-- an act of these words, if there are any
abbrev pub act_of_words : Bool → Result (List (List ℕ)) ℕ → Result (Option Act) ScriptWhy
act_of_words out (Err n) = Err Word
act_of_words out (Ok []) = Ok None
act_of_words out (Ok (w ∷ ws)) = some_act (words_act out w ws)

-- the act of a line, none where it is skipped, or why it is refused; whether a job is out where it stands
abbrev pub line_act : Bool → List ℕ → Result (Option Act) ScriptWhy
line_act out line = if is_comment line then Ok None else act_of_words out (line_words line)

-- whether a job is out behind an act
abbrev pub out_after : Act → Bool → Bool
out_after acts.DemuxTake out = true
out_after acts.DemuxGive out = false
out_after (acts.Seek t dir) out = out
out_after (acts.Switch set at) out = out
out_after acts.Show out = out
out_after (acts.Demux count) out = out
out_after (acts.Read kind count) out = out
out_after acts.Drain out = out

-- an act in front of the others
abbrev pub before_acts : ℕ × Act → Result (List (ℕ × Act)) (ℕ × ScriptWhy) → Result (List (ℕ × Act)) (ℕ × ScriptWhy)
before_acts act (Ok more) = Ok (act ∷ more)
before_acts act (Err refusal) = Err refusal

-- what the line of this number gives, and what follows it
abbrev pub behind_line : ℕ → Result (Option Act) ScriptWhy → Bool → (Bool → Result (List (ℕ × Act)) (ℕ × ScriptWhy)) → Result (List (ℕ × Act)) (ℕ × ScriptWhy)
behind_line n (Err why) out more = Err (n, why)
behind_line n (Ok None) out more = more out
behind_line n (Ok (Some act)) out more = before_acts (n, act) (more (out_after act out))

-- the acts of lines from a number on, each with the number of its line, or the first line that is refused; whether a job is out before them
abbrev pub acts_from : ℕ → Bool → List (List ℕ) → Result (List (ℕ × Act)) (ℕ × ScriptWhy)
acts_from n out [] = Ok []
acts_from n out (line ∷ lines) = behind_line n (line_act out line) out (λ after. acts_from (n + 1) after lines)

-- the acts of a text, or the line at which it is refused and why; 0 where it is refused as a whole
abbrev pub script_of : List ℕ → Result (List (ℕ × Act)) (ℕ × ScriptWhy)
script_of text = if nat_le (length text) 16777216 then (if is_utf8 text then acts_from 1 false (script_lines text) else Err (0, Utf8)) else Err (0, Size)

-- a call's answer: the acts, or the refusal; want of memory says nothing
abbrev pub Gives : Result (List (ℕ × Act)) ScriptError → Result (List (ℕ × Act)) (ℕ × ScriptWhy) → Type 0
Gives (Ok script) said = said ≡ Ok script
Gives (Err (failures.Refused line why)) said = said ≡ Err (line, why)
Gives (Err failures.NoMemory) said = ⊤

-- the same of one line, the line of this number
abbrev pub MeansAt : ℕ → Result (Option Act) ScriptError → Result (Option Act) ScriptWhy → Type 0
MeansAt n (Ok act) said = said ≡ Ok act
MeansAt n (Err (failures.Refused line why)) said = (line ≡ n) × (said ≡ Err why)
MeansAt n (Err failures.NoMemory) said = ⊤
