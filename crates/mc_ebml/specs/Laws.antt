-- What is written is read back, said of octets alone: behind whatever stands before, and whatever follows.
use Rattle.std.specs.Prelude.{◌≡◌, ℕ, ◌^◌, ◌<◌, true, List, ◌++◌, length, All, Ok, IfOk}
use Rattle.std.specs.Str.{IsUtf8}
use Rattle.byteorder.specs.Endian.{big_bytes}
use Rattle.mc_ebml.specs.declared.read.Size.{Size}
use Rattle.mc_ebml.specs.Element.{coded_at, head_at, uint_of, text_of}
use Rattle.mc_ebml.specs.Written.{is_id, octets_of, coded_width, coded_octets, IsSize, head_octets, has_no_zero}

-- the head of an element
abbrev pub HeadsReadBack : Type 0
HeadsReadBack = (id : ℕ) (size : Size) (before rest : List ℕ) → is_id id ≡ true → IsSize size
    → head_at (before ++ (head_octets id size ++ rest)) (length before)
    ≡ Ok (record { id = id; size = size; body = length (before ++ head_octets id size) })

-- a coded number
abbrev pub CodedReadBack : Type 0
CodedReadBack = (n : ℕ) (before rest : List ℕ) → n < 2 ^ 56
    → coded_at (before ++ (coded_octets n ++ rest)) (length before) ≡ Ok (record { value = n; width = coded_width n })

-- it takes so many octets
abbrev pub CodedHaveWidth : Type 0
CodedHaveWidth = (n : ℕ) → length (coded_octets n) ≡ coded_width n

-- the body of an unsigned integer
abbrev pub IntegersReadBack : Type 0
IntegersReadBack = (n : ℕ) → n < 2 ^ 64 → uint_of (big_bytes (octets_of n) n) ≡ Ok n

-- the body of a text
abbrev pub TextsReadBack : Type 0
TextsReadBack = (text : List ℕ) → IsUtf8 text → has_no_zero text ≡ true → text_of text ≡ Ok text

-- an unsigned integer of octets fits 64 bits
abbrev pub IntegersFit : Type 0
IntegersFit = (body : List ℕ) → All (λ b. b < 256) body → IfOk (uint_of body) (λ n. n < 2 ^ 64)
