-- Which film a cursor stands for.
use Rattle.std.specs.Prelude.{◌≡◌, ℕ, ◌+◌, ◌≤◌, max, ◌==◌, if◌then◌else◌, List, length, Option, None, Ok}
use Rattle.mc_outside.specs.Shelf.{Files, Opened}
use Rattle.mc_packet.specs.declared.walk.Chunk.{Chunk}
use Rattle.mc_packet.specs.declared.walk.Mark.{Mark}
use Rattle.mc_tracks.specs.declared.track.Track.{Track}
use Rattle.mc_walk.specs.declared.plan.Plan.{Plan}
use Rattle.mc_walk.specs.Opening.{opened_film}
use Rattle.mc_walk.specs.Parts.{place_of, Part, part_at, chunk_at}
use Rattle.mc_cursor.specs.declared.cursor.Cursor.{Cursor}
use Rattle.mc_cursor.specs.Reads.{InFile}

-- what a walk over these octets goes over, by what the cursor knows of the film
abbrev pub plan_for : List ℕ → Cursor → Plan
plan_for octets c = record { octets = octets; opening = c.opening; segment_end = c.segment_end; scale = c.scale; tracks = c.tracks }

-- the place from which it reads on
abbrev pub start_of : Cursor → ℕ
start_of c = if c.mark.pos == 0 then c.opening else c.mark.pos

abbrev pub tracks_of : Cursor → List Track
tracks_of c = c.tracks

abbrev pub scale_of : Cursor → ℕ
scale_of c = c.scale

abbrev pub mark_of : Cursor → Mark
mark_of c = c.mark

abbrev pub file_of : Cursor → ℕ
file_of c = c.file.0

-- the cursor at another mark
abbrev pub at_mark : Cursor → Mark → Cursor
at_mark c m = record c { mark = m }

-- the part that it reads next of a film
abbrev pub next_part : List ℕ → Cursor → Part
next_part octets c = part_at (plan_for octets c) c.mark

-- the same as a chunk
abbrev pub next_of : List ℕ → Cursor → Chunk
next_of octets c = chunk_at (plan_for octets c) c.mark

-- a film opens with what a cursor knows
abbrev pub IsKnown : List ℕ → Cursor → Type 0
IsKnown octets c = opened_film octets ≡ Ok (plan_for octets c)

-- a cursor stands for a film that opens with what it knows, at a mark within it
pub record StandsFor (octets : List ℕ) (c : Cursor) : Type 0 where
  pub opened : opened_film octets ≡ Ok (plan_for octets c)
  pub within : place_of (plan_for octets c) c.mark ≤ length octets

-- a fact of the told octets of a cursor's file, where it stands for them
abbrev pub OnFilm : {S : Type 0} → (S → Option Files) → (S → Opened) → S → Cursor → (List ℕ → Type 0) → Type 0
OnFilm files opened shelf c fact = InFile files opened shelf (file_of c) (λ octets. StandsFor octets c → fact octets)

-- reads for a part that does not end the film go at most 12 octets behind it
abbrev pub ReadsPart : Part → ℕ → ℕ → Type 0
ReadsPart p before now = p.ending ≡ None → now ≤ max before (p.to.pos + 12)

-- so are those for the part that it reads next of a film
abbrev pub ReadsNext : List ℕ → Cursor → ℕ → ℕ → Type 0
ReadsNext octets c before now = ReadsPart (next_part octets c) before now
