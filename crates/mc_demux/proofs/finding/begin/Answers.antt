use Rattle.std.proofs.Common.{◌≡◌, true, rules}
use Rattle.std.specs.Prelude.{is_some}
use Rattle.mc_cache.specs.Cache.{mark_in}
use Rattle.mc_calls.proofs.Beginning.{added_joins}
use Rattle.mc_demux.proofs.finding.begin.Goals as goal

pub returns-clause-joins : goal.returns-clause-joins
returns-clause-joins c =
    let some : is_some (mark_in c.args.cache.now.current) ≡ true = search rules in
    added_joins c.args.set c.args.added c.args.starts.now c.args.cache.now c.add_tracks.new.cache some c.add_tracks.ensures.value
