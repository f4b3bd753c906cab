-- The selected tracks, at most one of a kind, and what is kept for each kind.
use Rattle.std.specs.Prelude.{ℕ, ◌≤◌, ◌==◌, Bool, true, false, ◌&&◌, ◌||◌, not, Option, Some, None, is_some, IfSome}
use Rattle.mc_packet.specs.declared.packet.Pos.{Pos}
use Rattle.mc_packet.specs.declared.choice.Choice.{Choice}
use Rattle.mc_packet.specs.declared.choice.Starts.{Starts}
use Rattle.mc_packet.specs.declared.choice.Kind.{Kind}
use Rattle.mc_packet.specs.declared.choice.Kind.TheVariants.{Video, Audio, Sub}
use Rattle.mc_packet.specs.declared.cache.Heads.{Heads}
use Rattle.mc_packet.specs.declared.cache.Spans.{Spans}

abbrev pub or_else : {A : Type 0} → Option A → Option A → Option A
or_else (Some x) other = Some x
or_else None other = other

abbrev pub is_track : Option ℕ → ℕ → Bool
is_track None track = false
is_track (Some n) track = n == track

-- a choice has the track
abbrev pub has : Choice → ℕ → Bool
has set track = is_track set.video track || (is_track set.audio track || is_track set.sub track)

abbrev pub nothing : Choice
nothing = record { video = None; audio = None; sub = None }

-- the lead: the selected video track, else the selected audio track
abbrev pub lead_of : Choice → Option ℕ
lead_of set = or_else set.video set.audio

abbrev pub is_empty : Choice → Bool
is_empty set = not (is_some (or_else set.sub (lead_of set)))

abbrev pub is_other : Option ℕ → Option ℕ → Bool
is_other (Some a) (Some b) = not (a == b)
is_other a b = true

-- no track stands under two kinds
abbrev pub is_distinct : Choice → Bool
is_distinct set = is_other set.video set.audio && (is_other set.video set.sub && is_other set.audio set.sub)

-- ---- a test of each track

-- no track, or one that passes
abbrev pub passes : Option ℕ → (ℕ → Bool) → Bool
passes None test = true
passes (Some track) test = test track

-- a choice of tracks that the film lists, each under its own kind and none under two
abbrev pub is_known : (Kind → ℕ → Bool) → Choice → Bool
is_known known set =
    passes set.video (known Video) && (passes set.audio (known Audio) && (passes set.sub (known Sub) && is_distinct set))

-- ---- what stands under a kind

abbrev pub track_of : Choice → Kind → Option ℕ
track_of set Video = set.video
track_of set Audio = set.audio
track_of set Sub = set.sub

abbrev pub start_of : Starts → Kind → Option ℕ
start_of starts Video = starts.video
start_of starts Audio = starts.audio
start_of starts Sub = starts.sub

abbrev pub head_of : Heads → Kind → Option Pos
head_of heads Video = heads.video
head_of heads Audio = heads.audio
head_of heads Sub = heads.sub

abbrev pub span_of : Spans → Kind → Option (Pos × Pos)
span_of spans Video = spans.video
span_of spans Audio = spans.audio
span_of spans Sub = spans.sub

-- ---- starts at their mark

-- a start is at the mark or behind it
abbrev pub AtMark : ℕ → Option ℕ → Type 0
AtMark mark start = IfSome start (λ at. mark ≤ at)

-- each start is
pub record AreAtMark (starts : Starts) : Type 0 where
  pub video : AtMark starts.mark.pos starts.video
  pub audio : AtMark starts.mark.pos starts.audio
  pub sub : AtMark starts.mark.pos starts.sub
