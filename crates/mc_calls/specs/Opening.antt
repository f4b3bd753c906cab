-- A demuxer that was just made.
use Rattle.std.specs.Prelude.{◌≡◌, ℕ, true, false, List, [], ◌∷◌, None, Result, Ok, Err, pos, ⊤, IsSomeAnd}
use Rattle.std.specs.Option.{option_map}
use Rattle.mc_packet.specs.declared.choice.Choice.{Choice}
use Rattle.mc_packet.specs.declared.choice.Kind.{Kind}
use Rattle.mc_packet.specs.declared.choice.Starts.{Starts}
use Rattle.mc_packet.specs.declared.cache.Heads.{Heads}
use Rattle.mc_packet.specs.declared.cache.Limits.{Limits}
use Rattle.mc_packet.specs.declared.walk.Level.TheVariants.{Segment}
use Rattle.mc_packet.specs.declared.walk.Mark.{Mark}
use Rattle.mc_tracks.specs.declared.track.Track.{Track}
use Rattle.mc_journal.specs.declared.record.DemuxRecord.TheVariants.{Opened}
use Rattle.mc_packet.specs.Choices.{is_known, nothing}
use Rattle.mc_journal.specs.Films.{Film, IsFilm}
use Rattle.mc_range.specs.Range.{IsBegun}
use Rattle.mc_calls.specs.declared.answer.DemuxError.{DemuxError}
use Rattle.mc_calls.specs.declared.answer.DemuxError.TheVariants.{NoMemory}
use Rattle.mc_journal.specs.Callers.{driver}
use Rattle.mc_calls.specs.State.{DemuxState}
use Rattle.mc_calls.specs.Demuxers.{AreLimits}
use Rattle.mc_calls.specs.Outcomes.{heads_at}
use Rattle.mc_tracks.specs.Selection.{knows}

-- the tracks are listed, each under its kind, and their blocks can be read
pub record MayOpen (list : List Track) (set : Choice) (limits : Limits) : Type 0 where
  pub known : is_known (knows list) set ≡ true
  pub limits_are : AreLimits limits

-- from where a film is read first
abbrev pub opening : Mark
opening = record { pos = 0; level = Segment }

-- each selected track starts at the film's beginning
abbrev pub first_starts : Choice → Starts
first_starts set = record { video = option_map (λ track. 0) set.video; audio = option_map (λ track. 0) set.audio; sub = option_map (λ track. 0) set.sub; mark = opening }

abbrev pub no_heads : Heads
no_heads = record { video = None; audio = None; sub = None }

-- the current range begins and ends there, nothing else is cached, and the journal tells what is selected
pub record IsOpened (list : List Track) (set : Choice) (limits : Limits) (new : DemuxState) : Type 0 where
  pub changed : new ≡ record {
    list = list;
    cache = new.cache;
    set = set;
    heads = heads_at (first_starts set) no_heads;
    seeking = None;
    waiting = nothing;
    switch = record { lead = None; at = pos 0 };
    failure = None;
    ended = nothing;
    number = 1;
    kept = None;
    fed = false;
    journal = Opened driver set ∷ [];
    spare = new.spare;
  }
  pub limits_are : new.cache.limits ≡ limits
  pub current : IsSomeAnd new.cache.current (IsBegun set (first_starts set))
  pub no_others : new.cache.others ≡ []

-- only memory may be wanting
abbrev pub Opens : List Track → Choice → Limits → Result DemuxState DemuxError → Type 0
Opens list set limits (Ok new) = IsOpened list set limits new
Opens list set limits (Err NoMemory) = ⊤
Opens list set limits (Err _) = ⊥

-- a film with these tracks
pub record HasTracks (list : List Track) (film : Film) : Type 0 where
  pub film_is : IsFilm film.packets
  pub known : (kind : Kind) (track : ℕ) → film.known kind track ≡ knows list kind track
