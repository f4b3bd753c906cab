use Rattle.std.proofs.Common.{◌≡◌, true, subst, sym}
use Rattle.mc_packet.specs.declared.choice.Choice.{Choice}
use Rattle.mc_packet.specs.Choices.{is_known}
use Rattle.mc_calls.specs.Selecting.{knows}
use Rattle.mc_jobs.proofs.Opened.{default-known}
use Rattle.mc_play.proofs.Plays.{wide_limits}
use Rattle.mc_play.proofs.playing.open_demux.Goals as goal

pub new-requires : goal.new-requires
new-requires c =
    record {
      may =
          record {
            known = subst (λ (set : Choice). is_known (knows c.args.list) set ≡ true) (sym c.default_choice-set.ensures) (default-known c.args.list c.requires.list);
            limits_are = wide_limits c.args.limits c.requires.limits;
          };
    }
