-- The octets of an element in its shortest form (RFC 8794, sections 4 to 7).
use Rattle.std.specs.Prelude.{◌≡◌, ℕ, ◌+◌, ◌-◌, ◌*◌, ◌^◌, ◌<◌, nat_lt, if◌then◌else◌, Bool, ◌||◌, List, [], ◌∷◌, ◌++◌, length, drop, Ok}
use Rattle.std.specs.Int.{is_in_range}
use Rattle.std.specs.List.{list_all}
use Rattle.byteorder.specs.Endian.{big_bytes}
use Rattle.mc_ebml.specs.declared.read.Size.{Size}
use Rattle.mc_ebml.specs.declared.read.Size.TheVariants.{Known, Unknown}
use Rattle.mc_ebml.specs.Element.{coded_at, head_at, uint_of, text_of}

-- the IDs that can be read: the marker bit of a coded number of one to four octets is the highest bit
abbrev pub is_id : ℕ → Bool
is_id id = is_in_range 0x80 0xFF id || (is_in_range 0x4000 0x7FFF id
    || (is_in_range 0x200000 0x3FFFFF id || is_in_range 0x10000000 0x1FFFFFFF id))

-- the fewest octets that hold a number, one at the least
abbrev pub octets_of : ℕ → ℕ
octets_of n = if nat_lt n (2 ^ 8) then 1 else (if nat_lt n (2 ^ 16) then 2 else (if nat_lt n (2 ^ 24) then 3
    else (if nat_lt n (2 ^ 32) then 4 else (if nat_lt n (2 ^ 40) then 5 else (if nat_lt n (2 ^ 48) then 6
    else (if nat_lt n (2 ^ 56) then 7 else 8))))))

-- the fewest octets whose value bits, seven in each, hold a number
abbrev pub coded_width : ℕ → ℕ
coded_width n = if nat_lt n (2 ^ 7) then 1 else (if nat_lt n (2 ^ 14) then 2 else (if nat_lt n (2 ^ 21) then 3
    else (if nat_lt n (2 ^ 28) then 4 else (if nat_lt n (2 ^ 35) then 5 else (if nat_lt n (2 ^ 42) then 6
    else (if nat_lt n (2 ^ 49) then 7 else 8))))))

-- a number behind its marker bit, in so many octets
abbrev pub marked : ℕ → ℕ → List ℕ
marked width n = big_bytes width (2 ^ (7 * width) + n)

-- a coded number in the fewest octets; its value bits may be all ones
unfoldable pub coded_octets : ℕ → List ℕ
coded_octets n = marked (coded_width n) n

-- a size that can be written
abbrev pub IsSize : Size → Type 0
IsSize Unknown = Unit {0}
IsSize (Known n) = n < 2 ^ 56 - 1

-- a known size whose value bits would be all ones takes an octet more, since all ones are an unknown one
abbrev pub size_width : Size → ℕ
size_width Unknown = 1
size_width (Known n) = coded_width (n + 1)

abbrev pub size_octets : Size → List ℕ
size_octets Unknown = 0xFF ∷ []
size_octets (Known n) = marked (coded_width (n + 1)) n

unfoldable pub head_octets : ℕ → Size → List ℕ
head_octets id size = big_bytes (octets_of id) id ++ size_octets size

-- an element of known size
unfoldable pub element_octets : ℕ → List ℕ → List ℕ
element_octets id body = head_octets id (Known (length body)) ++ body

-- an element whose body is an unsigned integer, and one whose body is a text
abbrev pub uint_octets : ℕ → ℕ → List ℕ
uint_octets id n = element_octets id (big_bytes (octets_of n) n)

abbrev pub text_octets : ℕ → List ℕ → List ℕ
text_octets id text = element_octets id text

-- a text that does not end early
abbrev pub has_no_zero : List ℕ → Bool
has_no_zero text = list_all (λ b. nat_lt 0 b) text

-- what stands behind the head that is written behind other octets
abbrev pub behind_head : List ℕ → ℕ → Size → List ℕ → List ℕ
behind_head before id size after = drop (length (before ++ head_octets id size)) after

-- behind what stood there the head of an element is read, whatever follows
abbrev pub HasHead : List ℕ → List ℕ → ℕ → Size → Type 0
HasHead before after id size =
    (rest : List ℕ) → head_at (after ++ rest) (length before) ≡ Ok (record { id = id; size = size; body = length (before ++ head_octets id size) })

-- the same of a coded number
abbrev pub HasCoded : List ℕ → List ℕ → ℕ → Type 0
HasCoded before after n = (rest : List ℕ) → coded_at (after ++ rest) (length before) ≡ Ok (record { value = n; width = coded_width n })

-- behind what stood there the head of an element of known size is read, whatever follows, and its body, up to
-- the end of the octets, is as told
abbrev pub HasElement : List ℕ → List ℕ → ℕ → ℕ → (List ℕ → Type 0) → Type 0
HasElement before after id size Body = HasHead before after id (Known size)
    × (length after ≡ length before + length (head_octets id (Known size)) + size)
    × Body (behind_head before id (Known size) after)

-- the same of an unsigned integer, and of a text
abbrev pub HasUint : List ℕ → List ℕ → ℕ → ℕ → Type 0
HasUint before after id n = HasElement before after id (octets_of n) (λ body. uint_of body ≡ Ok n)

abbrev pub HasText : List ℕ → List ℕ → ℕ → List ℕ → Type 0
HasText before after id text = HasElement before after id (length text) (λ body. text_of body ≡ Ok text)
