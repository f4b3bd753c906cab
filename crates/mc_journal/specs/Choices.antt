-- What is asked of each selected track, and what is counted of them all.
use Rattle.std.specs.Prelude.{ℕ, ◌+◌, Bool, false, ◌&&◌, ◌||◌, if◌then◌else◌, Option, Some, None, ⊤}
use Rattle.mc_packet.specs.declared.choice.Choice.{Choice}
use Rattle.mc_packet.specs.Choices.{passes}

-- ---- a test of each track

-- a track that passes
abbrev pub meets : Option ℕ → (ℕ → Bool) → Bool
meets None test = false
meets (Some track) test = test track

-- each selected track passes
abbrev pub each_of : Choice → (ℕ → Bool) → Bool
each_of set test = passes set.video test && (passes set.audio test && passes set.sub test)

-- some selected track passes
abbrev pub some_of : Choice → (ℕ → Bool) → Bool
some_of set test = meets set.video test || (meets set.audio test || meets set.sub test)

abbrev pub kept_track : (ℕ → Bool) → Option ℕ → Option ℕ
kept_track test None = None
kept_track test (Some track) = if test track then Some track else None

-- those tracks of a choice that pass
abbrev pub kept_of : Choice → (ℕ → Bool) → Choice
kept_of set test = record { video = kept_track test set.video; audio = kept_track test set.audio; sub = kept_track test set.sub }

-- ---- what is said or counted of each track

abbrev pub OnTrack : Option ℕ → (ℕ → Type 0) → Type 0
OnTrack None P = ⊤
OnTrack (Some track) P = P track

abbrev pub of_track : Option ℕ → (ℕ → ℕ) → ℕ
of_track None f = 0
of_track (Some track) f = f track

-- the sum over the selected tracks
abbrev pub total_of : Choice → (ℕ → ℕ) → ℕ
total_of set f = of_track set.video f + (of_track set.audio f + of_track set.sub f)
