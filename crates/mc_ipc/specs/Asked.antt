-- What a line asks for: a JSON object with a command, in the manner of mpv's IPC.
use Rattle.std.specs.Prelude.{◌≡◌, ℕ, ◌^◌, Bool, true, false, if◌then◌else◌, nat_lt, List, [], ◌∷◌, codes, Option, Some, None, option_map, option_and_then, unwrap_or}
use Rattle.std.specs.Str.{is_utf8, bytes_eq}
use Rattle.mc_value.specs.Conversions.{text_of}
use Rattle.mc_value.specs.declared.value.Value.{Value}
use Rattle.mc_value.specs.declared.value.Value.TheVariants as value
use Rattle.mc_value.specs.declared.value.Format.{Format}
use Rattle.mc_value.specs.declared.value.Format.TheVariants as format
use Rattle.mc_dispatch.specs.declared.call.Call.TheVariants.{Command, Get, Set, Observe, Unobserve}
use Rattle.mc_ipc.specs.declared.asking.IpcCall.{IpcCall}
use Rattle.mc_ipc.specs.declared.asking.IpcCall.TheVariants.{Core, Name, Bad, Skip}
use Rattle.serde_json.specs.Data.{Data, null, boolean, number, string, array, object, Items, no_items, item}
use Rattle.serde_json.specs.Read.{read}
use Rattle.serde_json.specs.Find.{get, as_array, as_i64, as_number, as_str, as_u64}

-- Parts of a line

-- the JSON value that a line is, nested at most 127 deep (RFC 8259, in UTF-8)
abbrev pub json_in : List ℕ → Option Data
json_in line = if is_utf8 line then read line else None

abbrev pub listed : Items → List Data
listed no_items = []
listed (item d ds) = d ∷ listed ds

-- an integer from 0 that an `i64` holds
abbrev pub below_sign : ℕ → Option ℕ
below_sign n = if nat_lt n (2 ^ 63) then Some n else None

abbrev pub number_in : Data → Option ℕ
number_in d = option_and_then below_sign (option_and_then as_u64 (as_number d))

-- a string, a truth value or an integer that an `i64` holds
abbrev pub scalar_in : Data → Option Value
scalar_in null = None
scalar_in (boolean b) = Some (value.Flag b)
scalar_in (number n) = option_map value.Int (as_i64 n)
scalar_in (string s) = Some (value.Str s)
scalar_in (array ds) = None
scalar_in (object ms) = None

-- its text
abbrev pub word_in : Data → Option (List ℕ)
word_in d = option_map text_of (scalar_in d)

-- the texts of all, where each has one
abbrev pub words_in : List Data → Option (List (List ℕ))
words_in [] = Some []
words_in (d ∷ ds) = option_and_then (λ w. option_map (λ ws. w ∷ ws) (words_in ds)) (word_in d)

-- The table of words

-- the one argument is a name
abbrev pub get_call : ℕ → Format → List Data → Option IpcCall
get_call id f (d ∷ []) = option_map (λ name. Core id (Get id name f)) (as_str d)
get_call id f _ = None

-- the arguments are a name and what the property is set to
abbrev pub set_call : ℕ → List Data → Option IpcCall
set_call id (d ∷ e ∷ []) =
    option_and_then (λ name. option_map (λ v. Core id (Set id name v)) (scalar_in e)) (as_str d)
set_call id _ = None

-- the arguments are the observer's number and a name
abbrev pub observe_call : ℕ → List Data → Option IpcCall
observe_call id (d ∷ e ∷ []) =
    option_and_then (λ n. option_map (λ name. Core id (Observe n name format.Node)) (as_str e))
    (number_in d)
observe_call id _ = None

-- the one argument is the observers' number
abbrev pub unobserve_call : ℕ → List Data → Option IpcCall
unobserve_call id (d ∷ []) = option_map (λ n. Core id (Unobserve n)) (number_in d)
unobserve_call id _ = None

-- there is no argument
abbrev pub name_call : ℕ → List Data → Option IpcCall
name_call id [] = Some (Name id)
name_call id (d ∷ ds) = None

-- all words, the first one with them, are the command's
abbrev pub command_call : ℕ → List Data → Option IpcCall
command_call id ds = option_map (λ ws. Core id (Command id ws)) (words_in ds)

-- the call by its first word, with the arguments behind it
abbrev pub call_by : ℕ → List ℕ → List Data → List Data → Option IpcCall
call_by id word args all =
    if bytes_eq word (codes "get_property") then get_call id format.Node args else
    if bytes_eq word (codes "get_property_string") then get_call id format.String args else
    if bytes_eq word (codes "set_property") then set_call id args else
    if bytes_eq word (codes "observe_property") then observe_call id args else
    if bytes_eq word (codes "unobserve_property") then unobserve_call id args else
    if bytes_eq word (codes "client_name") then name_call id args else
    command_call id all

-- Lines

-- the call of a command's words, the first of which is a string
abbrev pub call_of : ℕ → List Data → Option IpcCall
call_of id [] = None
call_of id (d ∷ ds) = option_and_then (λ word. call_by id word ds (d ∷ ds)) (as_str d)

-- the number that a request bears: 0 where it has none; `None` where it is no integer from 0 that
-- an `i64` holds
abbrev pub id_given : Option Data → Option ℕ
id_given None = Some 0
id_given (Some d) = number_in d

abbrev pub id_in : Data → Option ℕ
id_in d = id_given (get (codes "request_id") d)

-- the elements of the array that is given as the command
abbrev pub command_in : Data → Option (List Data)
command_in d = option_map listed (option_and_then as_array (get (codes "command") d))

abbrev pub asked_with : Option ℕ → Option (List Data) → IpcCall
asked_with None ds = Bad 0
asked_with (Some id) None = Bad id
asked_with (Some id) (Some ds) = unwrap_or (call_of id ds) (Bad id)

-- what a JSON value asks for, by its `request_id` and its `command`
abbrev pub asked_by : Option Data → IpcCall
asked_by None = Bad 0
asked_by (Some d) = asked_with (id_in d) (command_in d)

-- what a line asks for
abbrev pub asked : List ℕ → IpcCall
asked [] = Skip
asked (c ∷ cs) = asked_by (json_in (c ∷ cs))
