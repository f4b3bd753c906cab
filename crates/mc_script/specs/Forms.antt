-- The forms of a script's lines, and what they mean.
use Rattle.std.specs.Prelude.{ℕ, ℤ, Bool, true, not, ◌+◌, if◌then◌else◌, List, [], ◌∷◌, take, drop, position, codes, Option, Some, None, Result, Err}
use Rattle.std.specs.Option.{option_map, ok_or}
use Rattle.std.specs.Str.{bytes_eq}
use Rattle.mc_packet.specs.declared.choice.Dir.{Dir}
use Rattle.mc_packet.specs.declared.choice.Dir.TheVariants as dirs
use Rattle.mc_packet.specs.declared.choice.Kind.{Kind}
use Rattle.mc_packet.specs.declared.choice.Kind.TheVariants as kinds
use Rattle.mc_value.specs.Numbers.{place_of}
use Rattle.mc_value.specs.Seconds.{seconds_of}
use Rattle.mc_script.specs.declared.acts.Act.{Act}
use Rattle.mc_script.specs.declared.acts.Act.TheVariants as acts
use Rattle.mc_script.specs.declared.acts.ScriptWhy.{ScriptWhy}
use Rattle.mc_script.specs.declared.acts.ScriptWhy.TheVariants.{Word, Number}
use Rattle.mc_script.specs.declared.lines.Verb.{Verb}
use Rattle.mc_script.specs.declared.lines.Verb.TheVariants as verbs
use Rattle.mc_script.specs.Options.{between}

-- a line of a form; its numbers and times are still words
pub data Form : Type 0 where
  seek : List ℕ → Dir → Form
  switch : List (List ℕ) → Option (List ℕ) → Form
  show : Form
  demux : Option (List ℕ) → Form
  demux_take : Form
  demux_give : Form
  read : Kind → Option (List ℕ) → Form
  drain : Form

-- what a line's first word asks for
abbrev pub verb_of : List ℕ → Option Verb
verb_of w = if bytes_eq w (codes "seek") then Some verbs.Seek else if bytes_eq w (codes "switch") then Some verbs.Switch else if bytes_eq w (codes "show") then Some verbs.Show else if bytes_eq w (codes "demux") then Some verbs.Demux else if bytes_eq w (codes "read") then Some verbs.Read else if bytes_eq w (codes "drain") then Some verbs.Drain else None

abbrev pub kind_of : List ℕ → Option Kind
kind_of w = if bytes_eq w (codes "video") then Some kinds.Video else if bytes_eq w (codes "audio") then Some kinds.Audio else if bytes_eq w (codes "sub") then Some kinds.Sub else None

-- seek SECONDS [forward]
abbrev pub seek_form : List (List ℕ) → Option Form
seek_form [] = None
seek_form (s ∷ []) = Some (seek s dirs.Back)
seek_form (s ∷ w ∷ []) = if bytes_eq w (codes "forward") then Some (seek s dirs.Forward) else None
seek_form (s ∷ w ∷ x ∷ xs) = None

abbrev pub is_at : List ℕ → Bool
is_at w = bytes_eq w (codes "at")

-- the tracks before an `at`, and the words behind it
abbrev pub at_form : List (List ℕ) → List (List ℕ) → Option Form
at_form tracks [] = None
at_form tracks (s ∷ []) = if is_at s then None else Some (switch tracks (Some s))
at_form tracks (s ∷ x ∷ xs) = None

-- the words around the first `at`, which stands at this place
abbrev pub around_at : Option ℕ → List (List ℕ) → Option Form
around_at None words = Some (switch words None)
around_at (Some i) words = at_form (take i words) (drop (i + 1) words)

-- switch [NUMBER...] [at SECONDS]
abbrev pub switch_form : List (List ℕ) → Option Form
switch_form words = around_at (position is_at words) words

-- a line of one word
abbrev pub plain_form : Form → List (List ℕ) → Option Form
plain_form form [] = Some form
plain_form form (x ∷ xs) = None

-- demux [COUNT], demux take and demux give
abbrev pub demux_form : List (List ℕ) → Option Form
demux_form [] = Some (demux None)
demux_form (w ∷ []) = Some (if bytes_eq w (codes "take") then demux_take else if bytes_eq w (codes "give") then demux_give else demux (Some w))
demux_form (w ∷ x ∷ xs) = None

-- behind a KIND: nothing, or COUNT
abbrev pub read_with : Option Kind → List (List ℕ) → Option Form
read_with None words = None
read_with (Some kind) [] = Some (read kind None)
read_with (Some kind) (n ∷ []) = Some (read kind (Some n))
read_with (Some kind) (n ∷ x ∷ xs) = None

-- read KIND [COUNT]
abbrev pub read_form : List (List ℕ) → Option Form
read_form [] = None
read_form (k ∷ words) = read_with (kind_of k) words

-- by the first word
abbrev pub form_by : Option Verb → List (List ℕ) → Option Form
form_by None words = None
form_by (Some verbs.Seek) words = seek_form words
form_by (Some verbs.Switch) words = switch_form words
form_by (Some verbs.Show) words = plain_form show words
form_by (Some verbs.Demux) words = demux_form words
form_by (Some verbs.Read) words = read_form words
form_by (Some verbs.Drain) words = plain_form drain words

-- whether a line may stand where a job is out, or none is
abbrev pub may_stand : Bool → Form → Bool
may_stand out (seek s dir) = true
may_stand out (switch tracks at) = true
may_stand out show = true
may_stand out (demux count) = not out
may_stand out demux_take = not out
may_stand out demux_give = out
may_stand out (read kind count) = true
may_stand out drain = not out

-- 1 to 1000000 without a needless 0 in front, and 1 where nothing is said
abbrev pub count_of : Option (List ℕ) → Option ℕ
count_of None = Some 1
count_of (Some w) = between 1 1000000 (place_of w)

abbrev pub with_number : Option ℕ → Option (List ℕ) → Option (List ℕ)
with_number None numbers = None
with_number (Some n) None = None
with_number (Some n) (Some ns) = Some (n ∷ ns)

-- the numbers of tracks
abbrev pub tracks_of : List (List ℕ) → Option (List ℕ)
tracks_of [] = Some []
tracks_of (w ∷ ws) = with_number (place_of w) (tracks_of ws)

-- a switch to tracks, and to tracks at a time
abbrev pub switch_at : Option (List ℕ) → Option ℤ → Option Act
switch_at None time = None
switch_at (Some set) time = option_map (λ t. acts.Switch set (Some t)) time

abbrev pub switch_to : Option (List ℕ) → Option (List ℕ) → Option Act
switch_to set None = option_map (λ s. acts.Switch s None) set
switch_to set (Some s) = switch_at set (seconds_of s)

-- what a line means, where its numbers and times are right
abbrev pub act_of : Form → Option Act
act_of (seek s dir) = option_map (λ t. acts.Seek t dir) (seconds_of s)
act_of (switch tracks at) = switch_to (tracks_of tracks) at
act_of show = Some acts.Show
act_of (demux count) = option_map acts.Demux (count_of count)
act_of demux_take = Some acts.DemuxTake
act_of demux_give = Some acts.DemuxGive
act_of (read kind count) = option_map (acts.Read kind) (count_of count)
act_of drain = Some acts.Drain

-- what a line of a form means in its place, or why it has no meaning
abbrev pub act_in : Bool → Option Form → Result Act ScriptWhy
act_in out None = Err Word
act_in out (Some form) = if may_stand out form then ok_or (act_of form) Number else Err Word

-- the same of words
abbrev pub words_act : Bool → List ℕ → List (List ℕ) → Result Act ScriptWhy
words_act out word words = act_in out (form_by (verb_of word) words)
