-- The parts of an element (RFC 8794): its ID, its data size, and what its body stands for.
use Rattle.std.specs.Prelude.{ℕ, ◌+◌, ◌-◌, ◌*◌, ◌%◌, ◌^◌, ◌<◌, nat_lt, nat_le, ◌==◌, if◌then◌else◌, List, [], ◌∷◌, length, drop, Result, Ok, Err}
use Rattle.std.specs.List.{before_first}
use Rattle.std.specs.Str.{is_utf8}
use Rattle.byteorder.specs.Endian.{big_number}
use Rattle.mc_ebml.specs.declared.read.Size.{Size}
use Rattle.mc_ebml.specs.declared.read.Size.TheVariants.{Known, Unknown}
use Rattle.mc_ebml.specs.declared.read.Head.{Head}
use Rattle.mc_ebml.specs.declared.read.Coded.{Coded}
use Rattle.mc_ebml.specs.declared.read.EbmlError.{EbmlError}
use Rattle.mc_ebml.specs.declared.read.EbmlError.TheVariants.{Short, BadId, BadSize, BadUint, BadText}

infixl 10 ◌>>=◌
abbrev pub ◌>>=◌ : {A B : Type 0} → Result A EbmlError → (A → Result B EbmlError) → Result B EbmlError
(Ok x) >>= f = f x
(Err e) >>= f = Err e

-- how many octets a coded number takes: the leading zero bits of its first octet, and one
abbrev pub width : ℕ → ℕ
width b = if nat_le 128 b then 1 else (if nat_le 64 b then 2 else (if nat_le 32 b then 3 else (if nat_le 16 b then 4
    else (if nat_le 8 b then 5 else (if nat_le 4 b then 6 else (if nat_le 2 b then 7 else 8))))))

-- an ID keeps its marker bit
abbrev pub id_from : ℕ → List ℕ → Result (ℕ × ℕ) EbmlError
id_from at [] = Err Short
id_from at (b ∷ bs) = if nat_lt b 16 then Err BadId else (if nat_lt (length (b ∷ bs)) (width b) then Err Short
    else Ok (big_number (width b) (b ∷ bs), at + width b))

-- a coded number is what stands behind its marker bit: seven bits of each octet
abbrev pub coded_from : List ℕ → Result Coded EbmlError
coded_from [] = Err Short
coded_from (b ∷ bs) = if b == 0 then Err BadSize else (if nat_lt (length (b ∷ bs)) (width b) then Err Short
    else Ok (record { value = big_number (width b) (b ∷ bs) % 2 ^ (7 * width b); width = width b }))

-- a size whose value bits are all ones is unknown
abbrev pub size_of : Coded → Size
size_of n = if n.value == 2 ^ (7 * n.width) - 1 then Unknown else Known n.value

-- the ID at an offset, and the offset behind it
unfoldable pub id_at : List ℕ → ℕ → Result (ℕ × ℕ) EbmlError
id_at bytes at = id_from at (drop at bytes)

-- the coded number at an offset
unfoldable pub coded_at : List ℕ → ℕ → Result Coded EbmlError
coded_at bytes at = coded_from (drop at bytes)

-- the size at an offset, and the offset behind it
unfoldable pub size_at : List ℕ → ℕ → Result (Size × ℕ) EbmlError
size_at bytes at = do
  n ← coded_at bytes at
  Ok (size_of n, at + n.width)

-- the head of the element at an offset
unfoldable pub head_at : List ℕ → ℕ → Result Head EbmlError
head_at bytes at = do
  id ← id_at bytes at
  size ← size_at bytes id.1
  Ok (record { id = id.0; size = size.0; body = size.1 })

-- an unsigned integer, the highest octet first; without an octet it is 0
unfoldable pub uint_of : List ℕ → Result ℕ EbmlError
uint_of body = if nat_lt 8 (length body) then Err BadUint else Ok (big_number (length body) body)

-- octets that are UTF-8 throughout
abbrev pub whole_text : List ℕ → Result (List ℕ) EbmlError
whole_text octets = if is_utf8 octets then Ok octets else Err BadText

-- a text ends before its first zero octet
unfoldable pub text_of : List ℕ → Result (List ℕ) EbmlError
text_of body = whole_text (before_first (λ b. b == 0) body)

-- a known size fits seven octets
abbrev pub IsSmall : Size → Type 0
IsSmall Unknown = Unit {0}
IsSmall (Known n) = n < 2 ^ 56
