-- A new world, and what a tied one tells.
use Rattle.std.proofs.Common.{◌≡◌, ℕ, List, [], ◌∷◌, None, refl, sym, subst}
use Rattle.std.specs.Prelude.{reverse}
use Rattle.mc_packet.specs.declared.choice.Choice.{Choice}
use Rattle.mc_journal.specs.declared.record.DemuxRecord.{DemuxRecord}
use Rattle.mc_journal.specs.declared.record.DemuxRecord.TheVariants.{Opened}
use Rattle.mc_journal.specs.Films.{Film}
use Rattle.mc_player.specs.declared.record.CoreRecord.{CoreRecord}
use Rattle.mc_player.specs.Orders.{Opening}
use Rattle.mc_props.specs.declared.facts.Facts.{Facts}
use Rattle.mc_props.specs.declared.reading.Reading.{Reading}
use Rattle.mc_calls.specs.Film.{StandsFor}
use Rattle.mc_calls.specs.State.{DemuxState}
use Rattle.mc_core.specs.Core.{CoreView, IsCore, history, table_in}
use Rattle.mc_story.specs.Story.{OneStory}
use Rattle.mc_story.specs.Tie.{IsTied}
use Rattle.mc_story.proofs.Running.{fresh_tied, tied_story}
use Rattle.mc_steps.specs.Calls.{newest_first}
use Rattle.mc_world.specs.Story.{InStory, both}
use Rattle.mc_world.specs.World.{WorldView, new_world, opening}

fresh_by : (n by : ℕ) (film : Film) (w : Opening) (set : Choice) (d : List DemuxRecord) (c : List CoreRecord) → d ≡ Opened by set ∷ [] → c ≡ []
    → IsTied n film w (record { hd = reverse d; hc = reverse c; order = None; carried = None })
fresh_by n by film w set d c e f =
    subst (λ (k : List DemuxRecord). IsTied n film w (record { hd = reverse k; hc = reverse c; order = None; carried = None })) (sym e)
    (subst (λ (k : List CoreRecord). IsTied n film w (record { hd = reverse (Opened by set ∷ []); hc = reverse k; order = None; carried = None })) (sym f) (fresh_tied n by film w set))

pub begins : (n by : ℕ) (value : ℕ → Facts → Reading) (film : Film) (set : Choice) (demux : DemuxState) (core : CoreView) (path : List ℕ)
    → demux.journal ≡ Opened by set ∷ [] → core.journal ≡ [] → StandsFor film demux → IsCore value core → InStory n value film (new_world demux core path demux.list)
begins n by value film set demux core path e f s c = record {
  demux = s;
  core = c;
  tracks = refl;
  tied = fresh_by n by film (opening (new_world demux core path demux.list)) set demux.journal core.journal e f;
}

pub tells : (n : ℕ) (value : ℕ → Facts → Reading) (film : Film) (w : WorldView) → InStory n value film w → OneStory n film (opening w) (newest_first w.demux) (history w.core)
tells n value film w i = tied_story n film (opening w) (table_in value w.core) (both w) i.core.allowed i.tied
