-- What is told of an opened file.
use Rattle.std.proofs.Common.{◌≡◌, ℕ, ◌^◌, ◌<◌, List, length, Option, Some, None, subst}
use Rattle.std.specs.Prelude.{IfSome}
use Rattle.mc_outside.specs.Shelf.{Files, Opened, AreBytes, AreShort, HoldBytes, content, octets_under}

-- a fact of every told file is one of what stands under a name
of_name : (P : List ℕ → Type 0) (files : Files) (o : Option (List ℕ)) (octets : List ℕ) → ((name : List ℕ) → IfSome (files name) P) → octets_under files o ≡ Some octets → P octets
of_name P files None octets all told = absurd (cc told)
of_name P files (Some name) octets all told =
    let Q : Option (List ℕ) → Type 0 = λ o. IfSome o P in subst Q told (all name)

pub content_short : (files : Option Files) (opened : Opened) (file : ℕ) (octets : List ℕ) → AreShort files → content files opened file ≡ Some octets → length octets < 2 ^ 63
content_short None opened file octets short told = absurd (cc told)
content_short (Some files) opened file octets short told = of_name (λ octets. length octets < 2 ^ 63) files (opened file) octets short told

pub content_bytes : (files : Option Files) (opened : Opened) (file : ℕ) (octets : List ℕ) → HoldBytes files → content files opened file ≡ Some octets → AreBytes octets
content_bytes None opened file octets bytes told = absurd (cc told)
content_bytes (Some files) opened file octets bytes told = of_name AreBytes files (opened file) octets bytes told
