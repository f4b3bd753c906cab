-- A conversion's refusal as a table's, and the numbers of refusals.
use Rattle.std.specs.Prelude.{ℤ, pos, neg_ℤ}
use Rattle.mc_value.specs.declared.value.ValueError.{ValueError}
use Rattle.mc_value.specs.declared.value.ValueError.TheVariants as failures
use Rattle.mc_props.specs.declared.refusal.PropError.{PropError}
use Rattle.mc_props.specs.declared.refusal.PropError.TheVariants as refusal

abbrev pub refused_as : ValueError → PropError
refused_as failures.NoMemory = refusal.NoMemory
refused_as failures.PropertyFormat = refusal.PropertyFormat
refused_as failures.BadSeconds = refusal.PropertyFormat

-- the errors of libmpv's `client.h`
abbrev pub error_number : PropError → ℤ
error_number refusal.NotFound = neg_ℤ (pos 8)
error_number refusal.PropertyFormat = neg_ℤ (pos 9)
error_number refusal.Unavailable = neg_ℤ (pos 10)
error_number refusal.ReadOnly = neg_ℤ (pos 11)
error_number refusal.NoSuchTrack = neg_ℤ (pos 11)
error_number refusal.Unsupported = neg_ℤ (pos 18)
error_number refusal.NoMemory = neg_ℤ (pos 2)
