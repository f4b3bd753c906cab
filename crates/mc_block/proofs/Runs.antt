-- The frames of a lace lie one behind another up to the block's end.
use Rattle.std.proofs.Common.{◌≡◌, ℕ, zero, suc, ◌+◌, ◌-◌, ◌≤◌, ◌%◌, ◌/◌, ◌==◌, Bool, true, false, cond, List, [], ◌∷◌, length, drop, sum, Option, Some, None, Result, Ok, Err, refl, arith, length-drop, IfOk, leb, ltb, ℤ, pos, negsuc}
use Rattle.std.specs.Prelude.{IfSome, ◌+ℤ◌, replicate}
use Rattle.std.proofs.lemmas.Bool.{leb-true}
use Rattle.std.proofs.lemmas.List.Sums.{sum_by-cons}
use Rattle.mc_ebml.specs.declared.read.Size.{Size}
use Rattle.mc_ebml.specs.declared.read.Size.TheVariants.{Known, Unknown}
use Rattle.mc_ebml.specs.declared.read.Coded.{Coded}
use Rattle.mc_ebml.specs.declared.read.EbmlError.{EbmlError}
use Rattle.mc_ebml.specs.Element.{coded_at, size_at}
use Rattle.mc_block.specs.declared.lace.Lacing.{Lacing}
use Rattle.mc_block.specs.declared.lace.Lacing.TheVariants.{Single, Xiph, Fixed, Ebml}
use Rattle.mc_block.specs.declared.error.BlockError.TheVariants.{BadLace}
use Rattle.mc_block.specs.Frames.{Front, ◌then◌, longer, xiph_size, known, sized, first_size, difference, natural, changed, changed_size, next_size, size_in_front, coded_sizes, lace_sizes, spans, fitted, laced, lacing_of, frames_in, frames_of, AreRun, FillUp}

-- what is left behind something is no longer than the whole
abbrev pub Leaves : {A : Type 0} → ℕ → Front A → Type 0
Leaves len r = IfSome r (λ x. length x.1 ≤ len)

leaves_longer : (b len : ℕ) (r : Front ℕ) → Leaves len r → Leaves (suc len) (longer b r)
leaves_longer b len None h = tt
leaves_longer b len (Some x) h = omega arith

either : {A : Type 0} (b : Bool) (len : ℕ) (r s : Front A) → Leaves len r → Leaves len s → Leaves len (cond b r s)
either true len r s hr hs = hr
either false len r s hr hs = hs

xiph_leaves : (octets : List ℕ) → Leaves (length octets) (xiph_size octets)
xiph_leaves [] = tt
xiph_leaves (b ∷ bs) = either (ltb b 255) (suc (length bs)) (Some (b, bs)) (longer b (xiph_size bs)) (omega arith) (leaves_longer b (length bs) (xiph_size bs) (xiph_leaves bs))

known_leaves : (size : Size) (len : ℕ) (left : List ℕ) → length left ≤ len → Leaves len (known size left)
known_leaves Unknown len left h = tt
known_leaves (Known n) len left h = h

first_leaves : (octets : List ℕ) → Leaves (length octets) (first_size octets)
first_leaves octets = go (size_at octets 0)
  where
    go : (r : Result (Size × ℕ) EbmlError) → Leaves (length octets) (sized r octets)
    go (Err e) = tt
    go (Ok x) = known_leaves x.0 (length octets) (drop x.1 octets) (omega (arith, length-drop x.1 octets))

natural_leaves : (z : ℤ) (len : ℕ) (left : List ℕ) → length left ≤ len → Leaves len (natural z left)
natural_leaves (pos n) len left h = h
natural_leaves (negsuc n) len left h = tt

changed_leaves : (size : ℕ) (octets : List ℕ) → Leaves (length octets) (changed_size size octets)
changed_leaves size octets = go (coded_at octets 0)
  where
    go : (r : Result Coded EbmlError) → Leaves (length octets) (changed size r octets)
    go (Err e) = tt
    go (Ok n) = natural_leaves (pos size +ℤ difference n) (length octets) (drop n.width octets) (omega (arith, length-drop n.width octets))

next_leaves : (lacing : Lacing) (before : Option ℕ) (octets : List ℕ) → Leaves (length octets) (next_size lacing before octets)
next_leaves Ebml None octets = first_leaves octets
next_leaves Ebml (Some size) octets = changed_leaves size octets
next_leaves Single before octets = xiph_leaves octets
next_leaves Xiph before octets = xiph_leaves octets
next_leaves Fixed before octets = xiph_leaves octets

within : {A : Type 0} (small len : ℕ) (r : Front A) → small ≤ len → Leaves small r → Leaves len r
within small len None le h = tt
within small len (Some x) le h = omega arith

size_leaves : (size len : ℕ) (r : Front (List ℕ)) → Leaves len r → Leaves len (size_in_front size r)
size_leaves size len None h = tt
size_leaves size len (Some x) h = h

then_leaves : {A B : Type 0} (len : ℕ) (r : Front A) (next : A → List ℕ → Front B) → Leaves len r → ((x : A) (left : List ℕ) → Leaves (length left) (next x left)) → Leaves len (r then next)
then_leaves len None next h more = tt
then_leaves len (Some x) next h more = within (length x.1) len (next x.0 x.1) h (more x.0 x.1)

pub coded_leaves : (lacing : Lacing) (n : ℕ) (before : Option ℕ) (octets : List ℕ) → Leaves (length octets) (coded_sizes lacing n before octets)
coded_leaves lacing zero before octets = omega arith
coded_leaves lacing (suc n) before octets =
    then_leaves (length octets) (next_size lacing before octets) (λ size left. size_in_front size (coded_sizes lacing n (Some size) left)) (next_leaves lacing before octets)
    (λ size left. size_leaves size (length left) (coded_sizes lacing n (Some size) left) (coded_leaves lacing n (Some size) left))

lace_leaves : (lacing : Lacing) (n : ℕ) (octets : List ℕ) → Leaves (length octets) (lace_sizes lacing n octets)
lace_leaves Fixed n octets = either (length octets % (n + 1) == 0) (length octets) (Some (replicate n (length octets / (n + 1)), octets)) None (omega arith) tt
lace_leaves Single n octets = coded_leaves Single n None octets
lace_leaves Xiph n octets = coded_leaves Xiph n None octets
lace_leaves Ebml n octets = coded_leaves Ebml n None octets

-- frames of these sizes
run_of : (at stop : ℕ) (sizes : List ℕ) → at + sum sizes ≤ stop → AreRun at stop (spans at stop sizes)
run_of at stop [] h = (refl, omega arith, omega arith, refl)
run_of at stop (size ∷ sizes) h =
    let all = sum_by-cons (λ (x : ℕ). x) size sizes in
    (refl, omega arith, omega (arith, all), run_of (at + size) stop sizes (omega (arith, all)))

fills_of : (at stop : ℕ) (sizes : List ℕ) → at + sum sizes ≤ stop → FillUp stop (spans at stop sizes)
fills_of at stop [] h = run_of at stop [] h
fills_of at stop (size ∷ sizes) h = run_of at stop (size ∷ sizes) h

fitted_fills : (stop : ℕ) (r : Front (List ℕ)) → Leaves stop r → IfOk (fitted stop r) (FillUp stop)
fitted_fills stop None h = tt
fitted_fills stop (Some x) h = go (leb (sum x.0) (length x.1)) refl
  where
    go : (fits : Bool) → leb (sum x.0) (length x.1) ≡ fits → IfOk (cond fits (Ok (spans (stop - length x.1) stop x.0)) (Err BadLace)) (FillUp stop)
    go true e = let fit : sum x.0 ≤ length x.1 = leb-true (sum x.0) (length x.1) e in fills_of (stop - length x.1) stop x.0 (omega (arith, h))
    go false e = tt

laced_fills : (lacing : Lacing) (rest : List ℕ) → IfOk (laced lacing rest) (FillUp (length rest))
laced_fills lacing [] = tt
laced_fills lacing (n ∷ octets) =
    fitted_fills (suc (length octets)) (lace_sizes lacing n octets) (within (length octets) (suc (length octets)) (lace_sizes lacing n octets) (omega arith) (lace_leaves lacing n octets))

-- in any lacing
pub in_fills : (lacing : Lacing) (rest : List ℕ) → IfOk (frames_in lacing rest) (FillUp (length rest))
in_fills Single rest = (refl, omega arith, omega arith, refl)
in_fills Xiph rest = laced_fills Xiph rest
in_fills Fixed rest = laced_fills Fixed rest
in_fills Ebml rest = laced_fills Ebml rest

-- the frames of a block fill it up to its end
pub frames_fill : (flags : ℕ) (rest : List ℕ) → IfOk (frames_of flags rest) (FillUp (length rest))
unfolding frames_of
frames_fill flags rest = in_fills (lacing_of flags) rest
