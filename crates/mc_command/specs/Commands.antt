-- The words of a command, or the first wrong or missing one.
use Rattle.std.specs.Prelude.{◌≡◌, ℕ, ℤ, Bool, true, false, if◌then◌else◌, List, [], ◌∷◌, codes, Option, Some, None, Result, Ok, Err, ⊤}
use Rattle.std.specs.Str.{bytes_eq}
use Rattle.mc_value.specs.Seconds.{seconds_of}
use Rattle.mc_command.specs.declared.command.Command.{Command}
use Rattle.mc_command.specs.declared.command.Command.TheVariants as commands
use Rattle.mc_command.specs.declared.command.CommandError.{CommandError}
use Rattle.mc_command.specs.declared.command.CommandError.TheVariants as failures
use Rattle.mc_command.specs.declared.parsing.Verb.{Verb}
use Rattle.mc_command.specs.declared.parsing.Verb.TheVariants as verbs

-- a call's answer: the command, or the number of the first bad word; want of memory says nothing
abbrev pub Parses : {X : Type 0} → Result X CommandError → Result X ℕ → Type 0
Parses (Ok x) wanted = wanted ≡ Ok x
Parses (Err (failures.Bad n)) wanted = wanted ≡ Err n
Parses (Err failures.NoMemory) wanted = ⊤

-- what a call's answer tells, but for want of memory, is so
abbrev pub Found : {X : Type 0} → Result X CommandError → (Result X ℕ → Type 0) → Type 0
Found (Ok x) P = P (Ok x)
Found (Err (failures.Bad n)) P = P (Err n)
Found (Err failures.NoMemory) P = ⊤

-- what a command's first word asks for
abbrev pub verb_of : List ℕ → Option Verb
verb_of w =
    if bytes_eq w (codes "seek") then Some verbs.Seek else
    if bytes_eq w (codes "set") then Some verbs.Set else
    if bytes_eq w (codes "cycle") then Some verbs.Cycle else
    if bytes_eq w (codes "script-message") then Some verbs.Message else
    if bytes_eq w (codes "script-message-to") then Some verbs.MessageTo else
    if bytes_eq w (codes "ignore") then Some verbs.Ignore else
    if bytes_eq w (codes "quit") then Some verbs.Quit else None

-- whether the flag of a `seek` asks for an absolute time
abbrev pub flag_of : List ℕ → Option Bool
flag_of w =
    if bytes_eq w (codes "relative") then Some false else
    if bytes_eq w (codes "absolute") then Some true else None

-- behind the flag of a `seek`: nothing, or `forward`
abbrev pub seek_with : ℤ → Option Bool → List (List ℕ) → Result Command ℕ
seek_with t None rest = Err 2
seek_with t (Some absolute) [] = Ok (commands.Seek t absolute false)
seek_with t (Some absolute) (w ∷ []) =
    if bytes_eq w (codes "forward") then Ok (commands.Seek t absolute true) else Err 3
seek_with t (Some absolute) (w ∷ x ∷ xs) = if bytes_eq w (codes "forward") then Err 4 else Err 3

-- behind the seconds of a `seek`
abbrev pub seek_at : Option ℤ → List (List ℕ) → Result Command ℕ
seek_at None rest = Err 1
seek_at (Some t) [] = Ok (commands.Seek t false false)
seek_at (Some t) (w ∷ rest) = seek_with t (flag_of w) rest

abbrev pub seek_command : List (List ℕ) → Result Command ℕ
seek_command [] = Err 1
seek_command (s ∷ rest) = seek_at (seconds_of s) rest

abbrev pub set_command : List (List ℕ) → Result Command ℕ
set_command [] = Err 1
set_command (name ∷ []) = Err 2
set_command (name ∷ value ∷ []) = Ok (commands.Set name value)
set_command (name ∷ value ∷ x ∷ xs) = Err 3

abbrev pub cycle_command : List (List ℕ) → Result Command ℕ
cycle_command [] = Err 1
cycle_command (name ∷ []) = Ok (commands.Cycle name)
cycle_command (name ∷ x ∷ xs) = Err 2

abbrev pub message_command : List (List ℕ) → Result Command ℕ
message_command [] = Err 1
message_command (w ∷ ws) = Ok (commands.Message (w ∷ ws))

abbrev pub send_command : List (List ℕ) → Result Command ℕ
send_command [] = Err 1
send_command (client ∷ []) = Err 2
send_command (client ∷ w ∷ ws) = Ok (commands.MessageTo client (w ∷ ws))

-- a command of one word
abbrev pub plain_command : Command → List (List ℕ) → Result Command ℕ
plain_command command [] = Ok command
plain_command command (x ∷ xs) = Err 1

-- by the first word
abbrev pub parsed_as : Option Verb → List (List ℕ) → Result Command ℕ
parsed_as None args = Err 0
parsed_as (Some verbs.Seek) args = seek_command args
parsed_as (Some verbs.Set) args = set_command args
parsed_as (Some verbs.Cycle) args = cycle_command args
parsed_as (Some verbs.Message) args = message_command args
parsed_as (Some verbs.MessageTo) args = send_command args
parsed_as (Some verbs.Ignore) args = plain_command commands.Ignore args
parsed_as (Some verbs.Quit) args = plain_command commands.Quit args

-- the command that words say
abbrev pub parsed : List (List ℕ) → Result Command ℕ
parsed [] = Err 0
parsed (name ∷ args) = parsed_as (verb_of name) args
