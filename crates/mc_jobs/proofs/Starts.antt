-- The starts that an index finds are those of the film's rules, where the tracks are the film's.
use Rattle.std.proofs.Common.{◌≡◌, ℕ, true, Option, Some, None, ℤ, refl, sym, subst}
use Rattle.std.specs.Prelude.{IfSome}
use Rattle.std.specs.Option.{option_map}
use Rattle.mc_packet.specs.declared.choice.Choice.{Choice}
use Rattle.mc_packet.specs.declared.choice.Dir.{Dir}
use Rattle.mc_packet.specs.declared.choice.Starts.{Starts}
use Rattle.mc_walk.specs.declared.plan.Plan.{Plan}
use Rattle.mc_packet.specs.Choices.{is_known}
use Rattle.mc_journal.specs.Choices.{OnTrack}
use Rattle.mc_journal.specs.Films.{start_of, switch_start}
use Rattle.mc_journal.specs.Allowed.{EachStart}
use Rattle.mc_index.specs.Answers.{AreFor, AreOfBlocks, AreStarts, SeekStarts, SwitchStarts, is_lead}
use Rattle.mc_filmed.specs.Films.{plan_packets, film_for}
use Rattle.mc_tracks.specs.Selection.{knows}
use Rattle.mc_calls.specs.Film.{AreFilmStarts}
use Rattle.mc_calls.specs.Outcomes.{AreStartsFor}

pub are-for : (set : Choice) (s : Starts) → AreFor set s → AreStartsFor set s
are-for set s h = record { video = h.video; audio = h.audio; sub = h.sub; least = h.least }

on-start : (o found : Option ℕ) (place : ℕ → ℕ) → found ≡ option_map place o → OnTrack o (λ track. IfSome found (λ block. block ≡ place track))
on-start None found place e = tt
on-start (Some track) found place e = subst (λ f. IfSome f (λ block. block ≡ place track)) (sym e) refl

each-start : (set : Choice) (place : ℕ → ℕ) (s : Starts) → AreStarts set place s → EachStart set s (λ track found. IfSome found (λ block. block ≡ place track))
each-start set place s h = (on-start set.video s.video place h.video, on-start set.audio s.audio place h.audio, on-start set.sub s.sub place h.sub)

pub of-seek : (plan : Plan) (set : Choice) (dir : Dir) (t : ℤ) (s : Starts) → is_known (knows plan.tracks) set ≡ true → AreOfBlocks plan s → SeekStarts plan set dir t s
    → AreFilmStarts (film_for plan) s set (start_of (plan_packets plan) set dir t)
of-seek plan set dir t s known blocks starts =
    record { exact = λ regular. each-start set (start_of (plan_packets plan) set dir t) s (starts regular known); marked = λ regular. blocks.marked }

pub of-switch : (plan : Plan) (added : Choice) (lead : Option ℕ) (at : ℤ) (s : Starts) → is_known (knows plan.tracks) added ≡ true → is_lead plan lead ≡ true → AreOfBlocks plan s
    → SwitchStarts plan added lead at s → AreFilmStarts (film_for plan) s added (switch_start (plan_packets plan) lead added at)
of-switch plan added lead at s known listed blocks starts =
    record { exact = λ regular. each-start added (switch_start (plan_packets plan) lead added at) s (starts regular known listed); marked = λ regular. blocks.marked }
