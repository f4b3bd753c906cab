use Rattle.std.proofs.Common.{◌≡◌, None, rules, ap, ◌∙◌}
use Rattle.mc_packet.specs.declared.walk.Mark.{Mark}
use Rattle.mc_cursor.specs.Heads.{head_chunk_of}
use Rattle.mc_walk.specs.Parts.{chunk_at}
use Rattle.mc_index.proofs.Noting.{entry-on}
use Rattle.mc_index.proofs.index.Index.note.Goals as goal

pub returns-clause-stands : goal.returns-clause-stands
returns-clause-stands c =
    let goes : c.args.head.now.ending ≡ None = search rules in
    let same : c.args.head.now.from ≡ c.args.self.now.front.mark = search rules in
    λ plan is head index. record {
      front = entry-on plan c.args.self.now.front c.go_on.new.self c.args.head.now is index.front (head ∙ ap (λ (m : Mark). head_chunk_of (chunk_at plan m)) same) goes
          c.go_on.ensures.value.0 c.go_on.ensures.value.1 c.go_on.ensures.tracks;
      entries = c.in_ok-keep_entry.ensures.stands plan index.front index.entries;
    }
