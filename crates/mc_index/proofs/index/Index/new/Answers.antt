use Rattle.std.proofs.Common.{sym, subst}
use Rattle.std.specs.Prelude.{All}
use Rattle.std.proofs.lemmas.List.Elements.{All-nil}
use Rattle.mc_index.specs.Scans.{IsEntry}
use Rattle.mc_index.proofs.Standing.{entry-opens}
use Rattle.mc_index.proofs.index.Index.new.Goals as goal

pub returns-clause-stands : goal.returns-clause-stands
returns-clause-stands c = λ plan tracks.
    let is = c.in_ok-opening_entry.ensures in
    record {
      front = entry-opens plan c.args.list.now c.in_ok-opening_entry.field-0 tracks is.0 is.1 is.2;
      entries = subst (All (IsEntry plan)) (sym c.new.ensures.items) (All-nil (IsEntry plan));
    }
