use Rattle.std.proofs.Common.{◌≡◌, ◌-◌, ◌<◌, List, length, Option, Some, None, sym, subst, arith}
use Rattle.std.specs.Prelude.{IfSome, Contains}
use Rattle.std.proofs.lemmas.List.Elements.{Contains-get_or}
use Rattle.std.proofs.Math.Facts.{to_z-of_z}
use Rattle.mc_index.specs.declared.entry.Entry.{Entry}
use Rattle.mc_index.specs.declared.search.Since.{Since}
use Rattle.mc_index.specs.Searches.{since_in}
use Rattle.mc_index.proofs.search.since_entry.Goals as goal

by-result : (P : Entry → Option Since) (entries : List Entry) (e : Entry) (o : Option Since) → Contains entries e → o ≡ P e
    → IfSome o (λ s. (x : Entry) × Contains entries x × (P x ≡ Some s))
by-result P entries e None among is = tt
by-result P entries e (Some s) among is = (e, among, sym is)

pub returns : goal.returns
returns c =
    let e = c.index-entries-passed.result in
    let at : c.passed-passed.result - 1 < length c.args.entries.now = omega (arith, c.passed-passed.ensures, c.if-passed-eq0.false) in
    let among : Contains c.args.entries.now e = subst (Contains c.args.entries.now) (sym c.index-entries-passed.is) (Contains-get_or c.args.entries.now (c.passed-passed.result - 1) e at) in
    let is = rw (to_z-of_z c.ranges.t) at c.since.ensures in
    by-result (since_in c.args.track c.args.t) c.args.entries.now e c.since.result among is
