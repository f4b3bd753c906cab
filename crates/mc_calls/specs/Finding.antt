-- Starts that are taken.
use Rattle.std.specs.Prelude.{◌≡◌, ◌≤◌, ⊤, ℕ, false, List, [], ◌∷◌, ◌++◌, Option, Some, None}
use Rattle.std.specs.Option.{option_map}
use Rattle.mc_packet.specs.declared.cache.Heads.{Heads}
use Rattle.mc_packet.specs.declared.packet.Pos.{Pos}
use Rattle.mc_packet.specs.declared.choice.Choice.{Choice}
use Rattle.mc_packet.specs.declared.choice.Kind.{Kind}
use Rattle.mc_packet.specs.declared.choice.Kind.TheVariants.{Video, Audio, Sub}
use Rattle.mc_packet.specs.declared.choice.Starts.{Starts}
use Rattle.mc_packet.specs.declared.walk.Mark.{Mark}
use Rattle.mc_journal.specs.declared.record.DemuxRecord.{DemuxRecord}
use Rattle.mc_journal.specs.declared.record.DemuxRecord.TheVariants.{Found}
use Rattle.mc_journal.specs.declared.record.Removal.{Removal}
use Rattle.mc_packet.specs.Choices.{or_else, nothing}
use Rattle.mc_range.specs.Range.{RangeState, place_at}
use Rattle.mc_cache.specs.Cache.{CacheState, IsCache}
use Rattle.mc_cache.specs.Changing.{AddsTrack, IsStarted, MayAdd}
use Rattle.mc_cache.specs.Rooms.{IsPrepared}
use Rattle.mc_calls.specs.State.{DemuxState, renewed}
use Rattle.mc_calls.specs.Keeping.{IsAsBefore}
use Rattle.mc_calls.specs.Records.{WroteAll}
use Rattle.mc_journal.specs.Callers.{demuxer}
use Rattle.mc_calls.specs.Settling.{Settles, with_drops}

-- ---- the readers' places

abbrev pub head_at : Option ℕ → Option Pos → Option Pos
head_at start head = or_else (option_map place_at start) head

-- the heads of tracks whose start was found are there
abbrev pub heads_at : Starts → Heads → Heads
heads_at starts heads = record {
  video = head_at starts.video heads.video;
  audio = head_at starts.audio heads.audio;
  sub = head_at starts.sub heads.sub;
}

-- ---- the current range

-- a kind's track that was added, if there is one, has its start
abbrev pub AddsOne : Kind → Option ℕ → Option ℕ → Mark → CacheState → CacheState → Type 0
AddsOne kind None start mark old new = new ≡ old
AddsOne kind (Some track) None mark old new = new ≡ old
AddsOne kind (Some track) (Some start) mark old new = AddsTrack kind track start mark old new

-- each kind's
pub record AddsTracks (added : Choice) (starts : Starts) (old new : CacheState) : Type 0 where
  pub one : CacheState
  pub two : CacheState
  pub one_is : IsCache one
  pub two_is : IsCache two
  pub video : AddsOne Video added.video starts.video starts.mark old one
  pub audio : AddsOne Audio added.audio starts.audio starts.mark one two
  pub sub : AddsOne Sub added.sub starts.sub starts.mark two new

-- a new range with drops of an eleventh one, which are told behind the starts
pub record BeginsRange (set : Choice) (starts : Starts) (c₀ : CacheState) (j₀ : List DemuxRecord)
    (c : CacheState) (j : List DemuxRecord) : Type 0 where
  pub drops : List Removal
  pub started : IsStarted set starts drops c₀ c
  pub told : j ≡ with_drops demuxer (j₀ ++ Found demuxer starts ∷ []) drops

-- the current range takes the tracks that were added; without one a new range begins
abbrev pub BeginsBy : Choice → Choice → Starts → Option RangeState
    → CacheState → List DemuxRecord → CacheState → List DemuxRecord → Type 0
BeginsBy set added starts None c₀ j₀ c j = BeginsRange set starts c₀ j₀ c j
BeginsBy set added starts (Some r) c₀ j₀ c j = AddsTracks added starts c₀ c × (j ≡ j₀ ++ Found demuxer starts ∷ [])

abbrev pub Begins : Choice → Choice → Starts → CacheState → List DemuxRecord → CacheState → List DemuxRecord → Type 0
Begins set added starts c₀ j₀ c j = BeginsBy set added starts c₀.current c₀ j₀ c j

-- ---- starts that are taken

-- where there is room: the current range takes them, or a new one begins; then it is joined with others, and packets go as the
-- limit asks
pub record TakesStarts (starts : Starts) (old new : DemuxState) : Type 0 where
  pub begun : CacheState
  pub journal : List DemuxRecord
  pub is_cache : IsCache begun
  pub begins : Begins old.set old.waiting starts old.cache old.journal begun journal
  pub settles : Settles demuxer (heads_at starts old.heads) begun journal new.cache new.journal
  pub changed : new ≡ record (renewed false new old) {
    heads = heads_at starts old.heads;
    seeking = None;
    waiting = nothing;
  }

-- Starts that are brought, and taken. By steps: room is made for them, and then they are taken. In all: the readers of tracks
-- whose start was found stand there, no seek is pending, nothing waits, and what a job brings under an older number is stale
pub record PutsStarts (starts : Starts) (old new : DemuxState) : Type 0 where
  pub roomy : DemuxState
  pub room : IsAsBefore old roomy
  pub takes : TakesStarts starts roomy new
  pub changed : new ≡ record (renewed false new old) {
    heads = heads_at starts old.heads;
    seeking = None;
    waiting = nothing;
  }
  pub limits_are : new.cache.limits ≡ old.cache.limits
  pub wrote : WroteAll demuxer (Found demuxer starts ∷ []) old.journal new.journal

-- ---- what has to be so before

-- the current range has the kind's track selected and no queue of it, and the mark lies at its start or before
abbrev pub MayAddOne : Kind → Option ℕ → Option ℕ → Mark → CacheState → Type 0
MayAddOne kind None start mark st = ⊤
MayAddOne kind (Some track) None mark st = ⊤
MayAddOne kind (Some track) (Some start) mark st = MayAdd kind track st × (mark.pos ≤ start)

pub record MayAddAll (added : Choice) (starts : Starts) (st : CacheState) : Type 0 where
  pub video : MayAddOne Video added.video starts.video starts.mark st
  pub audio : MayAddOne Audio added.audio starts.audio starts.mark st
  pub sub : MayAddOne Sub added.sub starts.sub starts.mark st

-- the joins after it can't be refused
abbrev pub IsReadyToBegin : Choice → Starts → Option RangeState → CacheState → Type 0
IsReadyToBegin set starts None st = IsPrepared set starts st
IsReadyToBegin set starts (Some r) st = st.others ≡ []
