use Rattle.std.proofs.Common.{refl, sym, subst, ◌∙◌}
use Rattle.std.specs.Prelude.{All}
use Rattle.std.proofs.lemmas.List.Elements.{All-contains}
use Rattle.std.proofs.Math.Facts.{to_z-of_z}
use Rattle.mc_index.specs.Scans.{IsEntry}
use Rattle.mc_index.proofs.Standing.{since-is, since-opening}
use Rattle.mc_index.proofs.index.Index.nearest.Goals as goal

pub returns-in-Some : goal.returns-in-Some
returns-in-Some c = λ plan index.
    let is = rw (to_z-of_z c.ranges.t) at c.since.ensures in
    since-is plan c.args.track c.args.t c.args.self.now.front c.in-Some.since index.front (sym is ∙ c.in-Some.is)

pub returns-in-Some-since_entry : goal.returns-in-Some-since_entry
returns-in-Some-since_entry c = λ plan index.
    let found = rw (to_z-of_z c.ranges.t) at c.in-Some-since_entry.ensures in
    let all = subst (All (IsEntry plan)) (sym c.as_slice.ensures.value) index.entries in
    since-is plan c.args.track c.args.t found.0 c.in-Some-since_entry.since (All-contains (IsEntry plan) c.as_slice.result.now found.0 all found.1) found.2

pub returns-in-None : goal.returns-in-None
returns-in-None c = λ plan index. since-opening plan c.args.track c.args.t _ c.opening_mark.ensures refl
