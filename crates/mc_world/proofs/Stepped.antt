-- Each step of a world, and every list of them, keeps it in the story of its journals.
use Rattle.std.proofs.Common.{◌≡◌, ℕ, List, [], ◌∷◌, Result, refl, sym, ap, subst, ◌∙◌}
use Rattle.mc_packet.specs.declared.choice.Choice.{Choice}
use Rattle.mc_packet.specs.Choices.{track_of}
use Rattle.mc_journal.specs.declared.record.DemuxRecord.TheVariants.{Opened}
use Rattle.mc_journal.specs.Films.{Film}
use Rattle.mc_calls.specs.Film.{StandsFor}
use Rattle.mc_calls.specs.State.{DemuxState}
use Rattle.mc_core.specs.Core.{CoreView, IsCore, history}
use Rattle.mc_props.specs.declared.facts.Facts.{Facts}
use Rattle.mc_props.specs.declared.reading.Reading.{Reading}
use Rattle.mc_player.specs.Orders.{Opening}
use Rattle.mc_steps.specs.Calls.{newest_first}
use Rattle.mc_story.specs.Story.{OneStory}
use Rattle.mc_world.specs.declared.moves.Reply.{Reply}
use Rattle.mc_world.specs.declared.moves.Step.{Step}
use Rattle.mc_world.specs.declared.moves.Step.TheVariants as step
use Rattle.mc_world.specs.declared.moves.WorldError.{WorldError}
use Rattle.mc_world.specs.Steps.{May, Stepped}
use Rattle.mc_world.specs.Story.{InStory, IsUnder, Runs}
use Rattle.mc_world.specs.World.{WorldView, new_world, opening}
use Rattle.mc_world.proofs.Begun.{begins, tells}
use Rattle.mc_world.proofs.Demuxed as demuxed
use Rattle.mc_world.proofs.Played as played
use Rattle.mc_world.proofs.Carried as carried
use Rattle.mc_world.proofs.Tied.{Moves, kept_by, opening_stays}

moves : (n : ℕ) (value : ℕ → Facts → Reading) (film : Film) (s : Step) (old new : WorldView) (r : Result Reply WorldError) → InStory n value film old → IsUnder n s → May old s
    → Stepped value s old r new → Moves n value film old new
moves n value film (step.Seek by t dir) old new r i u m p = demuxed.seek n by value film t dir old new r i.demux u p
moves n value film (step.Switch by set at) old new r i u m p = demuxed.switch n by value film set at old new r i.demux u p
moves n value film (step.Show by) old new r i u m p = demuxed.show n by value film old new r p
moves n value film (step.Take by) old new r i u m p = demuxed.take n value film old new r p
moves n value film (step.Bring by what) old new r i u m p = demuxed.bring n value film what old new r old.job p
moves n value film (step.Read by kind) old new r i u m p = demuxed.read n by value film old new r (track_of old.demux.set kind) p
moves n value film (step.Learn by) old new r i u m p = played.learn n by value film old new r i p
moves n value film (step.Work by) old new r i u m p = played.work n by value film old new r (played.out_is n value film old i) m p
moves n value film (step.Carry by) old new r i u m p = carried.carry_out n by value film old.order old new r i u refl m.1 p
moves n value film (step.Done by) old new r i u m p = carried.done n by value film old.carried old new r i refl p
moves n value film (step.Create by name size) old new r i u m p = played.create n by value film name size old new r (played.out_is n value film old i) p
moves n value film (step.Destroy by c) old new r i u m p = played.destroy n by value film c old new r (played.out_is n value film old i) p
moves n value film (step.Call by c call) old new r i u m p = played.call n by value film c call old new r (played.out_is n value film old i) p

pub step_keeps : (n : ℕ) (value : ℕ → Facts → Reading) (film : Film) (s : Step) (old new : WorldView) (r : Result Reply WorldError) → InStory n value film old → IsUnder n s → May old s
    → Stepped value s old r new → StandsFor film new.demux → IsCore value new.core → InStory n value film new
step_keeps n value film s old new r i u m p d c = kept_by n value film old new i d c (moves n value film s old new r i u m p)

pub runs_keep : (n : ℕ) (value : ℕ → Facts → Reading) (film : Film) (steps : List (Step × Result Reply WorldError)) (old new : WorldView) → InStory n value film old
    → Runs n value film steps old new → InStory n value film new
runs_keep n value film [] old new i e = subst (λ (w : WorldView). InStory n value film w) (sym e) i
runs_keep n value film (s ∷ steps) old new i r =
    runs_keep n value film steps r.0 new (step_keeps n value film s.0 old r.0 s.1 i r.1.under r.1.may r.1.made r.1.demux r.1.core) r.2

runs_load : (n : ℕ) (value : ℕ → Facts → Reading) (film : Film) (steps : List (Step × Result Reply WorldError)) (old new : WorldView) → InStory n value film old
    → Runs n value film steps old new → opening new ≡ opening old
runs_load n value film [] old new i e = ap opening e
runs_load n value film (s ∷ steps) old new i r =
    runs_load n value film steps r.0 new (step_keeps n value film s.0 old r.0 s.1 i r.1.under r.1.may r.1.made r.1.demux r.1.core) r.2
    ∙ opening_stays n value film old r.0 (moves n value film s.0 old r.0 s.1 i r.1.under r.1.may r.1.made)

-- from a new world on
pub every_run : (n by : ℕ) (value : ℕ → Facts → Reading) (film : Film) (set : Choice) (demux : DemuxState) (core : CoreView) (path : List ℕ)
    (steps : List (Step × Result Reply WorldError)) (w : WorldView) → demux.journal ≡ Opened by set ∷ [] → core.journal ≡ [] → StandsFor film demux → IsCore value core
    → Runs n value film steps (new_world demux core path demux.list) w
    → OneStory n film (opening (new_world demux core path demux.list)) (newest_first w.demux) (history w.core)
every_run n by value film set demux core path steps w e f s c r =
    let i : InStory n value film (new_world demux core path demux.list) = begins n by value film set demux core path e f s c in
    subst (λ (o : Opening). OneStory n film o (newest_first w.demux) (history w.core)) (runs_load n value film steps (new_world demux core path demux.list) w i r)
    (tells n value film w (runs_keep n value film steps (new_world demux core path demux.list) w i r))
