use Rattle.std.proofs.Common.{◌≡◌, ◌∙◌, rules, false, List}
use Rattle.std.specs.List.{list_any}
use Rattle.std.specs.Result.{is_err}
use Rattle.mc_journal.specs.declared.record.DemuxRecord.{DemuxRecord}
use Rattle.mc_gen.specs.Generated.{generated}
use Rattle.mc_play.specs.Run.{is_starved}
use Rattle.mc_play.specs.Summing.{sums_in}
use Rattle.mc_play.proofs.Summary.{film_counted}
use Rattle.mc_play.proofs.summing.read_sums.Goals as goal

pub returns : goal.returns
returns c =
    let played = c.in_ok-hd.field-0 in
    let hd : List DemuxRecord = played.hd in
    let octets : c.text.result.now ≡ generated c.args.n = search rules in
    let went : is_err played.halt ≡ false = search rules in
    let starved : list_any is_starved hd ≡ false = search rules in
    let counted : c.sums.result ≡ sums_in hd = search rules in
    counted ∙ film_counted c.args.n c.text.result.now played.halt hd c.requires c.generated_films.ensures octets c.in_ok-hd.ensures went starved
