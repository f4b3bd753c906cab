use Rattle.std.proofs.Common.{◌≡◌, subst, rules, List}
use Rattle.mc_props.specs.Entries.{AreEntries}
use Rattle.mc_props.specs.Standard.{standard_of, standard_table}
use Rattle.mc_props.specs.declared.entries.PropEntry.{PropEntry}
use Rattle.mc_props.proofs.Fitting.{standard_fits}
use Rattle.mc_props.proofs.properties.standard_entries.Goals as goal

pub returns-clause-fit : goal.returns-clause-fit
returns-clause-fit c =
    let same : standard_table ≡ c.loop-property.entries = search rules in
    subst (λ (es : List PropEntry). AreEntries standard_of es) same standard_fits
