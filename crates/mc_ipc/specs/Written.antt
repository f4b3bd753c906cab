-- The lines that a client is sent: JSON objects with their keys in byte order.
use Rattle.std.specs.Prelude.{◌≡◌, ℕ, ℤ, pos, neg_ℤ, Bool, true, false, if◌then◌else◌, ◌==◌, List, [], ◌∷◌, ◌++◌, map, codes, Option, Some, None}
use Rattle.std.specs.Ordering.{int_eq}
use Rattle.mc_value.specs.declared.value.Value.{Value, fold-Value}
use Rattle.mc_value.specs.declared.value.Value.TheOpen.{Value-F}
use Rattle.mc_value.specs.declared.value.Format.{Format}
use Rattle.mc_value.specs.declared.value.Format.TheVariants as format
use Rattle.mc_ring.specs.declared.event.Event.{Event}
use Rattle.mc_ring.specs.declared.event.Event.TheVariants as event
use Rattle.serde_json.specs.Data.{Data, null, boolean, number, string, array, object, unsigned, Members, no_members, put}
use Rattle.serde_json.specs.Find.{of_integer}
use Rattle.serde_json.specs.View.{items_of}
use Rattle.serde_json.specs.Written.{compact_text}

-- Values as JSON

-- members put into an object one after another: the last value of a key stays
abbrev pub put_all : List (List ℕ × Data) → Members → Members
put_all [] ms = ms
put_all (p ∷ ps) ms = put_all ps (put p.0 p.1 ms)

abbrev pub object_of : List (List ℕ × Data) → Data
object_of ps = object (put_all ps no_members)

-- one level, with the JSON of each value inside
abbrev pub data_step : Value-F Data → Data
data_step Value-F.None = null
data_step (Value-F.Str s) = string s
data_step (Value-F.Flag b) = boolean b
data_step (Value-F.Int n) = number (of_integer n)
data_step (Value-F.Array ds) = array (items_of ds)
data_step (Value-F.Map ps) = object_of ps

-- a value as JSON
abbrev pub data_of : Value → Data
data_of = fold-Value Data data_step

-- a JSON value as a line, with its LF
abbrev pub line_of : Data → List ℕ
line_of d = compact_text d ++ 10 ∷ []

-- Replies

-- the words for the errors of `client.h`
abbrev pub error_word : ℤ → List ℕ
error_word e =
    if int_eq e (pos 0) then codes "success" else
    if int_eq e (neg_ℤ (pos 1)) then codes "event queue full" else
    if int_eq e (neg_ℤ (pos 4)) then codes "invalid parameter" else
    if int_eq e (neg_ℤ (pos 8)) then codes "property not found" else
    if int_eq e (neg_ℤ (pos 9)) then codes "unsupported format for accessing property" else
    if int_eq e (neg_ℤ (pos 10)) then codes "property unavailable" else
    if int_eq e (neg_ℤ (pos 11)) then codes "error accessing property" else
    if int_eq e (neg_ℤ (pos 12)) then codes "error running command" else
    if int_eq e (neg_ℤ (pos 18)) then codes "not supported" else codes "unknown error"

-- a reply's value, which it has only where it has no error
abbrev pub reply_data : ℤ → Option Value → List (List ℕ × Data)
reply_data e None = []
reply_data e (Some v) = if int_eq e (pos 0) then (codes "data", data_of v) ∷ [] else []

abbrev pub reply_of : ℕ → ℤ → Option Value → Data
reply_of id e v =
    object_of ((codes "error", string (error_word e))
    ∷ (codes "request_id", number (unsigned id)) ∷ reply_data e v)

-- Events

-- the events that have a line: all but no event, and the replies
abbrev pub has_line : Event → Bool
has_line event.None = false
has_line (event.GetReply id e v) = false
has_line (event.SetReply id e) = false
has_line (event.CommandReply id e) = false
has_line e = true

-- the names of events, those of `client.h` in mpv's manual
abbrev pub event_word : Event → List ℕ
event_word event.None = codes "none"
event_word event.Shutdown = codes "shutdown"
event_word (event.GetReply id e v) = codes "get-property-reply"
event_word (event.SetReply id e) = codes "set-property-reply"
event_word (event.CommandReply id e) = codes "command-reply"
event_word event.StartFile = codes "start-file"
event_word (event.EndFile reason) = codes "end-file"
event_word event.FileLoaded = codes "file-loaded"
event_word (event.Message words) = codes "client-message"
event_word event.Seek = codes "seek"
event_word event.PlaybackRestart = codes "playback-restart"
event_word (event.Change id name f v) = codes "property-change"
event_word event.Overflow = codes "queue-overflow"

-- why a file ended
abbrev pub reason_word : ℕ → List ℕ
reason_word r =
    if r == 0 then codes "eof" else
    if r == 2 then codes "stop" else
    if r == 3 then codes "quit" else
    if r == 4 then codes "error" else codes "unknown"

-- a change has its value but in the format of no value
abbrev pub change_data : Format → Value → List (List ℕ × Data)
change_data format.None v = []
change_data f v = (codes "data", data_of v) ∷ []

-- what an event carries
abbrev pub event_data : Event → List (List ℕ × Data)
event_data (event.EndFile reason) = (codes "reason", string (reason_word reason)) ∷ []
event_data (event.Message words) = (codes "args", array (items_of (map string words))) ∷ []
event_data (event.Change id name f v) =
    (codes "id", number (unsigned id)) ∷ (codes "name", string name) ∷ change_data f v
event_data e = []

abbrev pub event_of : Event → Data
event_of e = object_of ((codes "event", string (event_word e)) ∷ event_data e)
