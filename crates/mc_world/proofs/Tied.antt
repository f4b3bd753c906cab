-- What each step does to a world, as a step over its two journals; and that it keeps their tie.
use Rattle.std.proofs.Common.{◌≡◌, ℕ, Bool, List, [], refl, sym, ap, subst, ◌∙◌}
use Rattle.mc_journal.specs.Films.{Film}
use Rattle.mc_player.specs.declared.record.CoreRecord.{CoreRecord}
use Rattle.mc_player.specs.Orders.{Opening}
use Rattle.mc_player.specs.Rules.{IsAllowed}
use Rattle.mc_props.specs.declared.entries.PropEntry.{PropEntry}
use Rattle.mc_props.specs.declared.facts.Facts.{Facts}
use Rattle.mc_props.specs.declared.reading.Reading.{Reading}
use Rattle.mc_tracks.specs.declared.track.Track.{Track}
use Rattle.mc_tracks.specs.TrackList.{default_choice_of}
use Rattle.mc_calls.specs.Film.{StandsFor}
use Rattle.mc_core.specs.Core.{IsCore, history, table_in}
use Rattle.mc_story.specs.Runs as story
use Rattle.mc_story.specs.Runs.Step.{Other}
use Rattle.mc_story.specs.Steps.{Adds, is_plain}
use Rattle.mc_story.specs.Tie.{IsTied}
use Rattle.mc_story.proofs.Stepping.{step_tied}
use Rattle.mc_steps.specs.Calls.{newest_first}
use Rattle.mc_world.specs.Story.{InStory, both}
use Rattle.mc_world.specs.World.{WorldView, opening}

-- the film that is loaded, the demuxer's tracks and the core's table stay, and the journals took such a step
pub record Moves (n : ℕ) (value : ℕ → Facts → Reading) (film : Film) (old new : WorldView) : Type 0 where
  pub path : new.path ≡ old.path
  pub tracks : new.tracks ≡ old.tracks
  pub list : new.demux.list ≡ old.demux.list
  pub entries : new.core.entries ≡ old.core.entries
  pub step : story.Step
  pub under : story.IsUnder n step
  pub is : story.StepOf film (opening old) (table_in value old.core) step (both old) (both new)

-- neither journal changed, nor what is out
pub record Rests (old new : WorldView) : Type 0 where
  pub demux : newest_first new.demux ≡ newest_first old.demux
  pub core : history new.core ≡ history old.core
  pub order : new.order ≡ old.order
  pub carried : new.carried ≡ old.carried

pub nothing_added : {R : Type 0} (test : R → Bool) (old new : List R) → new ≡ old → Adds test old new
nothing_added test old new e = record { extras = []; are = tt; grows = e }

-- a world that rests took a step that adds nothing
pub rests_is : (film : Film) (value : ℕ → Facts → Reading) (old new : WorldView) → Rests old new
    → story.StepOf film (opening old) (table_in value old.core) Other (both old) (both new)
rests_is film value old new r = record {
  adds = nothing_added is_plain (newest_first old.demux) (newest_first new.demux) r.demux;
  still = r.core;
  order = r.order;
  carried = r.carried;
}

-- nothing changed at all
pub unmoved : (n : ℕ) (value : ℕ → Facts → Reading) (film : Film) (old new : WorldView) → new ≡ old → Moves n value film old new
unmoved n value film old new e = record {
  path = ap (λ (w : WorldView). w.path) e;
  tracks = ap (λ (w : WorldView). w.tracks) e;
  list = ap (λ (w : WorldView). w.demux.list) e;
  entries = ap (λ (w : WorldView). w.core.entries) e;
  step = Other;
  under = tt;
  is = rests_is film value old new (record {
    demux = ap (λ (w : WorldView). newest_first w.demux) e;
    core = ap (λ (w : WorldView). history w.core) e;
    order = ap (λ (w : WorldView). w.order) e;
    carried = ap (λ (w : WorldView). w.carried) e;
  });
}

-- ---- the tie is kept

opening_by : (path path' : List ℕ) (tracks tracks' : List Track) → path' ≡ path → tracks' ≡ tracks
    → ◌≡◌ {A = Opening} (record { path = path'; tracks = tracks'; set = default_choice_of tracks' }) (record { path = path; tracks = tracks; set = default_choice_of tracks })
opening_by path path' tracks tracks' p t = rw (p, t) refl

-- what is loaded stays
pub opening_stays : (n : ℕ) (value : ℕ → Facts → Reading) (film : Film) (old new : WorldView) → Moves n value film old new → opening new ≡ opening old
opening_stays n value film old new m = opening_by old.path new.path old.tracks new.tracks m.path m.tracks

allowed_by : (value : ℕ → Facts → Reading) (entries entries' : List PropEntry) (h : List CoreRecord) → entries' ≡ entries
    → IsAllowed (record { value = value; entries = entries' }) h → IsAllowed (record { value = value; entries = entries }) h
allowed_by value entries entries' h e a = subst (λ (es : List PropEntry). IsAllowed (record { value = value; entries = es }) h) e a

tied_on : (n : ℕ) (value : ℕ → Facts → Reading) (film : Film) (old new : WorldView) → InStory n value film old → IsCore value new.core → Moves n value film old new
    → IsTied n film (opening old) (both new)
tied_on n value film old new i c m =
    step_tied n film (opening old) (table_in value old.core) m.step (both old) (both new) m.under
    (record { at_rest = i.demux.still; allowed = allowed_by value old.core.entries new.core.entries (history new.core) m.entries c.allowed; is = m.is })
    i.tied

pub kept_by : (n : ℕ) (value : ℕ → Facts → Reading) (film : Film) (old new : WorldView) → InStory n value film old → StandsFor film new.demux → IsCore value new.core
    → Moves n value film old new → InStory n value film new
kept_by n value film old new i d c m = record {
  demux = d;
  core = c;
  tracks = m.list ∙ i.tracks ∙ sym m.tracks;
  tied = subst (λ (o : Opening). IsTied n film o (both new)) (sym (opening_stays n value film old new m)) (tied_on n value film old new i c m);
}
