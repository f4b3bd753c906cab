use Rattle.std.proofs.Common.{refl}
use Rattle.mc_cache.specs.Cache.{ranges_of}
use Rattle.mc_jobs.proofs.Standing.{own-marks}
use Rattle.mc_world.proofs.demuxing.still.Goals as goal

pub returns : goal.returns
returns c = record { same = refl; marks = own-marks (ranges_of c.args.demux.now.cache); demux = c.kept.ensures.demux }
