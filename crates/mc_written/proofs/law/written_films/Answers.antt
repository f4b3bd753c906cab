use Rattle.mc_written.proofs.Lower.{Lower}
use Rattle.mc_written.proofs.Whole.{any_tracks_read, films_read}
use Rattle.mc_written.proofs.law.written_films.Goals as goal

pub returns : goal.returns
returns c =
    let parts = c.written_parts.ensures in
    let law : Lower = record {
      heads = parts.heads;
      coded = parts.coded;
      integers = parts.integers;
      texts = parts.texts;
      blocks = c.plain_blocks.ensures;
      numbers = c.new_numbers.ensures;
    } in
    record { films = films_read law; any_tracks = any_tracks_read law }
