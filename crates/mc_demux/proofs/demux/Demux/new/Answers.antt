use Rattle.std.proofs.Common.{ap, ◌∙◌, ◌++◌, ◌∷◌, [], List, refl}
use Rattle.mc_packet.specs.declared.choice.Starts.{Starts}
use Rattle.mc_journal.specs.declared.record.DemuxRecord.{DemuxRecord}
use Rattle.mc_journal.specs.declared.record.DemuxRecord.TheVariants.{Opened}
use Rattle.mc_calls.specs.Opening.{no_heads}
use Rattle.mc_calls.specs.Outcomes.{heads_at}
use Rattle.mc_calls.proofs.Opened.{made_is, made_stands}
use Rattle.mc_packet.specs.Choices.{nothing}
use Rattle.mc_demux.proofs.demux.Demux.new.Goals as goal

pub invariant_of-result : goal.invariant_of-result
invariant_of-result c =
    made_is c.args.list c.args.set c.args.limits c.in_ok-cache.cache c.first_heads.result nothing nothing c.push_reserved.new.self.items _ (record {
      may = c.requires.may;
      cache = c.in_ok-cache.ensures.cache;
      limits_are = c.in_ok-cache.ensures.limits;
      current = c.in_ok-cache.ensures.current;
      no_others = c.in_ok-cache.ensures.others;
      heads_are = c.first_heads.ensures ∙ ap (λ (x : Starts). heads_at x no_heads) c.first_starts-starts.ensures;
      none_wait = refl;
      none_ended = refl;
      told = c.push_reserved.ensures.items ∙ ap (λ (j : List DemuxRecord). j ++ Opened 0 c.args.set ∷ []) c.in_ok-journal.ensures.items;
    })

pub returns-clause-film : goal.returns-clause-film
returns-clause-film c =
    made_stands c.args.list c.args.set c.args.limits c.in_ok-cache.cache c.first_heads.result nothing nothing c.push_reserved.new.self.items _ (record {
      may = c.requires.may;
      cache = c.in_ok-cache.ensures.cache;
      limits_are = c.in_ok-cache.ensures.limits;
      current = c.in_ok-cache.ensures.current;
      no_others = c.in_ok-cache.ensures.others;
      heads_are = c.first_heads.ensures ∙ ap (λ (x : Starts). heads_at x no_heads) c.first_starts-starts.ensures;
      none_wait = refl;
      none_ended = refl;
      told = c.push_reserved.ensures.items ∙ ap (λ (j : List DemuxRecord). j ++ Opened 0 c.args.set ∷ []) c.in_ok-journal.ensures.items;
    })

pub returns-clause-demux : goal.returns-clause-demux
returns-clause-demux c = invariant_of-result c
