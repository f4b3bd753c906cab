-- The frames of a block (RFC 9559, section 10.3): where each begins and ends behind the block's flags.
use Rattle.std.specs.Prelude.{Bool, true, false, ℕ, zero, suc, ◌+◌, ◌-◌, ◌*◌, ◌/◌, ◌%◌, ◌^◌, ◌≤◌, ◌≡◌, nat_lt, nat_le, ◌==◌, if◌then◌else◌, List, [], ◌∷◌, length, drop, sum, replicate, Option, Some, None, option_map, Result, Ok, Err, ℤ, pos, negsuc, ◌+ℤ◌, ◌-ℤ◌}
use Rattle.mc_ebml.specs.declared.read.Size.{Size}
use Rattle.mc_ebml.specs.declared.read.Size.TheVariants.{Known, Unknown}
use Rattle.mc_ebml.specs.declared.read.Coded.{Coded}
use Rattle.mc_ebml.specs.declared.read.EbmlError.{EbmlError}
use Rattle.mc_ebml.specs.Element.{coded_at, size_at}
use Rattle.mc_block.specs.declared.error.BlockError.{BlockError}
use Rattle.mc_block.specs.declared.error.BlockError.TheVariants.{BadLace}
use Rattle.mc_block.specs.declared.lace.Lacing.{Lacing}
use Rattle.mc_block.specs.declared.lace.Lacing.TheVariants.{Single, Xiph, Fixed, Ebml}

-- something that is read at the front of octets, and what is left behind it
abbrev pub Front : Type 0 → Type 0
Front A = Option (A × List ℕ)

-- the same, told by how many octets it takes
abbrev pub front : {A : Type 0} → List ℕ → Option (A × ℕ) → Front A
front octets found = option_map (λ x. (x.0, drop x.1 octets)) found

-- read one thing, and then more out of what is left
infixl 10 ◌then◌
abbrev pub ◌then◌ : {A B : Type 0} → Front A → (A → List ℕ → Front B) → Front B
None then next = None
(Some x) then next = next x.0 x.1

-- ---- Xiph lacing

abbrev pub longer : ℕ → Front ℕ → Front ℕ
longer b None = None
longer b (Some x) = Some (b + x.0, x.1)

-- a size is the sum of octets up to and with the first below 255
abbrev pub xiph_size : List ℕ → Front ℕ
xiph_size [] = None
xiph_size (b ∷ bs) = if nat_lt b 255 then Some (b, bs) else longer b (xiph_size bs)

-- ---- EBML lacing

-- the first size, which may not be all ones
abbrev pub known : Size → List ℕ → Front ℕ
known Unknown left = None
known (Known n) left = Some (n, left)

abbrev pub sized : Result (Size × ℕ) EbmlError → List ℕ → Front ℕ
sized (Err e) octets = None
sized (Ok x) octets = known x.0 (drop x.1 octets)

abbrev pub first_size : List ℕ → Front ℕ
first_size octets = sized (size_at octets 0) octets

-- a difference is as many value bits, and the middle of their range stands for 0
abbrev pub difference : Coded → ℤ
difference n = pos n.value -ℤ pos (2 ^ (7 * n.width - 1) - 1)

-- a size that is not negative
abbrev pub natural : ℤ → List ℕ → Front ℕ
natural (negsuc n) left = None
natural (pos n) left = Some (n, left)

abbrev pub changed : ℕ → Result Coded EbmlError → List ℕ → Front ℕ
changed size (Err e) octets = None
changed size (Ok n) octets = natural (pos size +ℤ difference n) (drop n.width octets)

-- the size after one of so many octets
abbrev pub changed_size : ℕ → List ℕ → Front ℕ
changed_size size octets = changed size (coded_at octets 0) octets

-- ---- the sizes of the first n frames of a lace

-- the next size, behind the one before it, if any
abbrev pub next_size : Lacing → Option ℕ → List ℕ → Front ℕ
next_size Ebml None octets = first_size octets
next_size Ebml (Some size) octets = changed_size size octets
next_size other before octets = xiph_size octets

abbrev pub size_in_front : ℕ → Front (List ℕ) → Front (List ℕ)
size_in_front size None = None
size_in_front size (Some x) = Some (size ∷ x.0, x.1)

abbrev pub coded_sizes : Lacing → ℕ → Option ℕ → List ℕ → Front (List ℕ)
coded_sizes lacing zero before octets = Some ([], octets)
coded_sizes lacing (suc n) before octets =
    next_size lacing before octets then λ size left. size_in_front size (coded_sizes lacing n (Some size) left)

-- what is left is divided evenly
abbrev pub fixed_sizes : ℕ → List ℕ → Front (List ℕ)
fixed_sizes n octets =
    if length octets % (n + 1) == 0 then Some (replicate n (length octets / (n + 1)), octets) else None

abbrev pub lace_sizes : Lacing → ℕ → List ℕ → Front (List ℕ)
lace_sizes Fixed n octets = fixed_sizes n octets
lace_sizes lacing n octets = coded_sizes lacing n None octets

-- ---- the frames

-- frames of these sizes lie one behind another from a place on, and one more is what is left up to the end
abbrev pub spans : ℕ → ℕ → List ℕ → List (ℕ × ℕ)
spans at stop [] = (at, stop) ∷ []
spans at stop (size ∷ sizes) = (at, at + size) ∷ spans (at + size) stop sizes

-- the sizes may not exceed what is left
abbrev pub fitted : ℕ → Front (List ℕ) → Result (List (ℕ × ℕ)) BlockError
fitted stop None = Err BadLace
fitted stop (Some x) = if nat_le (sum x.0) (length x.1) then Ok (spans (stop - length x.1) stop x.0) else Err BadLace

-- a lace begins with the number of its frames minus one
abbrev pub laced : Lacing → List ℕ → Result (List (ℕ × ℕ)) BlockError
laced lacing [] = Err BadLace
laced lacing (n ∷ octets) = fitted (length (n ∷ octets)) (lace_sizes lacing n octets)

-- bits 1 and 2 of the flags
abbrev pub lacing_of : ℕ → Lacing
lacing_of flags = let bits = flags / 2 % 4 in
    if bits == 0 then Single else (if bits == 1 then Xiph else (if bits == 2 then Fixed else Ebml))

abbrev pub has_lace : Lacing → Bool
has_lace Single = false
has_lace other = true

-- whether a block with these flags has a lace
abbrev pub is_laced : ℕ → Bool
is_laced flags = has_lace (lacing_of flags)

abbrev pub frames_in : Lacing → List ℕ → Result (List (ℕ × ℕ)) BlockError
frames_in Single rest = Ok ((0, length rest) ∷ [])
frames_in lacing rest = laced lacing rest

-- the frames of a block with these flags, in what stands behind them
unfoldable pub frames_of : ℕ → List ℕ → Result (List (ℕ × ℕ)) BlockError
frames_of flags rest = frames_in (lacing_of flags) rest

-- a frame lies in so many octets
abbrev pub LiesIn : ℕ → ℕ × ℕ → Type 0
LiesIn len span = (span.0 ≤ span.1) × (span.1 ≤ len)

-- frames lie one behind another, from a place up to an end
abbrev pub AreRun : ℕ → ℕ → List (ℕ × ℕ) → Type 0
AreRun at stop [] = at ≡ stop
AreRun at stop (span ∷ spans) = (span.0 ≡ at) × (at ≤ span.1) × (span.1 ≤ stop) × AreRun span.1 stop spans

-- there is a frame, and the last ends where the octets do
abbrev pub FillUp : ℕ → List (ℕ × ℕ) → Type 0
FillUp len [] = ⊥
FillUp len (span ∷ spans) = AreRun span.0 len (span ∷ spans)
