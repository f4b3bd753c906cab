use Rattle.std.proofs.lemmas.Result.{IfOk-weaker}
use Rattle.mc_film.proofs.Reopening.{mark_within, ends_at_mark}
use Rattle.mc_film.proofs.chunk.chunk_of_octets.Goals as goal

pub read_chunk-requires : goal.read_chunk-requires
read_chunk-requires c = mark_within c.args.octets.now c.in_ok-plan.plan c.args.mark c.in_ok-plan.ensures.value c.requires.mark

pub returns-clause-onward : goal.returns-clause-onward
returns-clause-onward c =
    IfOk-weaker c.read_chunk.result _ _ (λ k is. ends_at_mark c.args.octets.now c.in_ok-plan.plan c.args.mark k c.in_ok-plan.ensures.value c.requires.mark is) c.read_chunk.ensures
