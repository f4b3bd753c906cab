use Rattle.mc_gen.proofs.Read.{generated_reads_back}
use Rattle.mc_gen.proofs.law.generated_films.Goals as goal

pub returns : goal.returns
returns c = generated_reads_back c.written_films.ensures.any_tracks
