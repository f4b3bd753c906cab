-- The film that octets are, part by part.
use Rattle.std.specs.Prelude.{◌≡◌, ℕ, List, Result, Ok}
use Rattle.mc_packet.specs.declared.walk.Chunk.{Chunk}
use Rattle.mc_packet.specs.declared.walk.Mark.{Mark}
use Rattle.mc_tracks.specs.declared.refused.Refused.{Refused}
use Rattle.mc_tracks.specs.Answer.{◌>>=◌}
use Rattle.mc_walk.specs.declared.plan.Plan.{Plan}
use Rattle.mc_walk.specs.Opening.{opened_film}
use Rattle.mc_walk.specs.Parts.{chunk_at, IsMark}

-- the film's part from a mark on, or why the film is refused
abbrev pub chunk_in : List ℕ → Mark → Result Chunk Refused
chunk_in octets m = opened_film octets >>= λ plan. Ok (chunk_at plan m)

-- a mark from which the film can be read on
abbrev pub IsMarkIn : List ℕ → Mark → Type 0
IsMarkIn octets m = (plan : Plan) × (opened_film octets ≡ Ok plan) × IsMark plan m
