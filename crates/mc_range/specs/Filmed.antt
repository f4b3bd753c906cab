-- Ranges of a film's list: a part of the film that is fed, the start of one track, and sets that agree about kinds.
use Rattle.std.specs.Prelude.{◌≡◌, ◌<◌, ℕ, Bool, ◌&&◌, List, Option, Some, None, IfSome}
use Rattle.std.specs.Option.{option_map}
use Rattle.mc_packet.specs.declared.packet.Pos.{Pos}
use Rattle.mc_packet.specs.declared.cache.Heads.{Heads}
use Rattle.mc_packet.specs.declared.cache.Spans.{Spans}
use Rattle.mc_packet.specs.declared.choice.Choice.{Choice}
use Rattle.mc_packet.specs.declared.choice.Kind.{Kind}
use Rattle.mc_packet.specs.declared.choice.Kind.TheVariants.{Video, Audio, Sub}
use Rattle.mc_packet.specs.declared.choice.Starts.{Starts}
use Rattle.mc_packet.specs.declared.walk.Chunk.{Chunk}
use Rattle.mc_packet.specs.declared.walk.Mark.{Mark}
use Rattle.mc_packet.specs.declared.packet.Packet.{Packet}
use Rattle.mc_packet.specs.Choices.{is_other}
use Rattle.mc_journal.specs.Films.{first_lane, rank}
use Rattle.mc_journal.specs.Ranges.{within}
use Rattle.mc_range.specs.Cutting.{bound_under}

-- the packets of a chunk are the film's between its marks
abbrev pub IsPart : List Packet → Chunk → Type 0
IsPart ps c = c.packets ≡ within (first_lane c.from.pos) (first_lane c.to.pos) ps

-- each selected track's bound is that of its kind
pub record AreBounds (set : Choice) (upto : ℕ → Option ℕ) (heads : Option Heads) : Type 0 where
  pub video : IfSome set.video (λ track. upto track ≡ option_map rank (bound_under Video heads))
  pub audio : IfSome set.audio (λ track. upto track ≡ option_map rank (bound_under Audio heads))
  pub sub : IfSome set.sub (λ track. upto track ≡ option_map rank (bound_under Sub heads))

-- the frames of an interval's ends are numbers of their type
abbrev pub HasFrames : Option (Pos × Pos) → Type 0
HasFrames i = IfSome i (λ x. (x.0.lane < 65536) × (x.1.lane < 65536))

abbrev pub HaveFrames : Spans → Type 0
HaveFrames s = HasFrames s.video × HasFrames s.audio × HasFrames s.sub

-- starts with that of one kind alone
abbrev pub start_only : Kind → ℕ → Mark → Starts
start_only Video start mark = record { video = Some start; audio = None; sub = None; mark = mark }
start_only Audio start mark = record { video = None; audio = Some start; sub = None; mark = mark }
start_only Sub start mark = record { video = None; audio = None; sub = Some start; mark = mark }

-- no track of one set stands under another kind in the other
abbrev pub same_kinds : Choice → Choice → Bool
same_kinds a b =
    (is_other a.video b.audio && is_other a.video b.sub)
    && ((is_other a.audio b.video && is_other a.audio b.sub)
    && (is_other a.sub b.video && is_other a.sub b.audio))
