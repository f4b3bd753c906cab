-- Files in memory: none has more than 2^63 - 1 octets, and all are octets.
use Rattle.std.specs.Prelude.{◌^◌, ◌<◌, List, length, Option, Some, None, IfSome, option_map}
use Rattle.mc_outside.specs.declared.named.NamedFile.{NamedFile}
use Rattle.mc_outside.specs.Shelf.{AreShort, AreBytes, HoldBytes}
use Rattle.mc_outside.specs.Named.{octets_of, first_named, file_of}

is_short : (o : Option NamedFile) → IfSome (option_map octets_of o) (λ octets. length octets < 2 ^ 63)
is_short None = tt
is_short (Some f) = f.short

pub are_short : (files : List NamedFile) → AreShort (Some (file_of files))
are_short files name = is_short (first_named files name)

is_bytes : (o : Option NamedFile) → IfSome (option_map octets_of o) AreBytes
is_bytes None = tt
is_bytes (Some f) = f.bytes

pub hold_bytes : (files : List NamedFile) → HoldBytes (Some (file_of files))
hold_bytes files name = is_bytes (first_named files name)
