-- A file that is lent: it has at most 2^63 - 1 octets, and all are octets.
use Rattle.std.specs.Prelude.{◌^◌, ◌<◌, Bool, true, false, if◌then◌else◌, length, Some, None, IfSome}
use Rattle.std.specs.Str.{bytes_eq}
use Rattle.mc_outside.specs.declared.slice.SliceShelf.{SliceShelf}
use Rattle.mc_outside.specs.Shelf.{AreShort, AreBytes, HoldBytes}
use Rattle.mc_outside.specs.SliceShelf.{name_of, octets_of, told_by}

short_where : (s : SliceShelf) (b : Bool) → IfSome (if b then Some (octets_of s) else None) (λ octets. length octets < 2 ^ 63)
short_where s true = s.short
short_where s false = tt

pub is_short : (s : SliceShelf) → AreShort (Some (told_by s))
is_short s asked = short_where s (bytes_eq (name_of s) asked)

bytes_where : (s : SliceShelf) (b : Bool) → IfSome (if b then Some (octets_of s) else None) AreBytes
bytes_where s true = s.bytes
bytes_where s false = tt

pub holds_bytes : (s : SliceShelf) → HoldBytes (Some (told_by s))
holds_bytes s asked = bytes_where s (bytes_eq (name_of s) asked)
