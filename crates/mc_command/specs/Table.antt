-- The table of commands, and where other words leave it.
use Rattle.std.specs.Prelude.{◌≡◌, ℕ, ℤ, pos, neg_ℤ, ◌≤ℤ◌, ◌+◌, ◌^◌, ◌<◌, ◌≤◌, Bool, true, false, List, [], ◌∷◌, ◌++◌, codes, length, take, Some, Result, Ok, Err, ⊤}
use Rattle.mc_value.specs.Seconds.{seconds_of}
use Rattle.mc_command.specs.declared.command.Command.{Command}
use Rattle.mc_command.specs.declared.command.Command.TheVariants as commands

-- the flag of a `seek`
abbrev pub flag : Bool → List ℕ
flag true = codes "absolute"
flag false = codes "relative"

-- the words of each command
pub data Says : List (List ℕ) → Command → Type 0 where
  seek : (s : List ℕ) (t : ℤ) → seconds_of s ≡ Some t
      → Says (codes "seek" ∷ s ∷ []) (commands.Seek t false false)
  seek_by_flag : (s : List ℕ) (t : ℤ) (absolute : Bool) → seconds_of s ≡ Some t
      → Says (codes "seek" ∷ s ∷ flag absolute ∷ []) (commands.Seek t absolute false)
  seek_forward : (s : List ℕ) (t : ℤ) (absolute : Bool) → seconds_of s ≡ Some t
      → Says (codes "seek" ∷ s ∷ flag absolute ∷ codes "forward" ∷ [])
      (commands.Seek t absolute true)
  set : (name value : List ℕ) → Says (codes "set" ∷ name ∷ value ∷ []) (commands.Set name value)
  cycle : (name : List ℕ) → Says (codes "cycle" ∷ name ∷ []) (commands.Cycle name)
  message : (w : List ℕ) (ws : List (List ℕ))
      → Says (codes "script-message" ∷ w ∷ ws) (commands.Message (w ∷ ws))
  message_to : (client w : List ℕ) (ws : List (List ℕ))
      → Says (codes "script-message-to" ∷ client ∷ w ∷ ws) (commands.MessageTo client (w ∷ ws))
  ignore : Says (codes "ignore" ∷ []) commands.Ignore
  quit : Says (codes "quit" ∷ []) commands.Quit

-- some command begins with these words, or is them
abbrev pub Starts : List (List ℕ) → Type 0
Starts ws = (more : List (List ℕ)) × (command : Command) × Says (ws ++ more) command

-- the number of the first wrong or missing word of words that are no command: some command begins
-- with those before it, and none with it too
pub record IsFirstBad (ws : List (List ℕ)) (n : ℕ) : Type 0 where
  pub within : n ≤ length ws
  pub before : Starts (take n ws)
  pub no_command : (command : Command) → Says ws command → ⊥
  pub wrong : n < length ws → Starts (take (n + 1) ws) → ⊥

-- words say a command, or leave the table at a word
abbrev pub Means : List (List ℕ) → Result Command ℕ → Type 0
Means ws (Ok command) = Says ws command
Means ws (Err n) = IsFirstBad ws n

-- a time at most 2^62 nanoseconds on either side of 0
abbrev pub IsNear : Command → Type 0
IsNear (commands.Seek t absolute forward) = (neg_ℤ (pos (2 ^ 62)) ≤ℤ t) × (t ≤ℤ pos (2 ^ 62))
IsNear (commands.Set name value) = ⊤
IsNear (commands.Cycle name) = ⊤
IsNear (commands.Message words) = ⊤
IsNear (commands.MessageTo client words) = ⊤
IsNear commands.Ignore = ⊤
IsNear commands.Quit = ⊤
