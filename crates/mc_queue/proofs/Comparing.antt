-- Two lists of packets in rising order, compared head by head.
use Rattle.std.proofs.Common.{◌≡◌, ℕ, ◌+◌, ◌<◌, ◌≤◌, true, false, suc, zero, List, [], ◌∷◌, length, drop, arith, refl, ap, sym, ◌∙◌, length-drop}
use Rattle.std.specs.Prelude.{Option, Some, None, slice_get}
use Rattle.std.proofs.lemmas.Bool.{true≢false}
use Rattle.std.proofs.lemmas.List.{drop-drop}
use Rattle.mc_packet.specs.declared.packet.Packet.{Packet}
use Rattle.mc_queue.specs.Differences.{Head, head_by, head_upto, are_same, told_of, difference_of}

pub head_is : (end : ℕ) (ps : List Packet) (at : ℕ) → head_upto end (drop at ps) ≡ head_by end (slice_get ps at)
head_is end [] zero = refl
head_is end [] (suc at) = refl
head_is end (p ∷ ps) zero = refl
head_is end (p ∷ ps) (suc at) = head_is end ps at

-- ---- the heads are the same, or tell the answer

no_head : (a : Option Head) → are_same a None ≡ true → ⊥
no_head None e = true≢false (sym e)
no_head (Some h) e = true≢false (sym e)

pub same_goes_on : (end : ℕ) (ps qs : List Packet) → are_same (head_upto end ps) (head_upto end qs) ≡ true → difference_of end (drop 1 ps) (drop 1 qs) ≡ difference_of end ps qs
same_goes_on end [] qs e = absurd (true≢false (sym e))
same_goes_on end (p ∷ ps) [] e = absurd (no_head _ e)
same_goes_on end (p ∷ ps) (q ∷ qs) e = rw e refl

pub other_tells : (end : ℕ) (ps qs : List Packet) → are_same (head_upto end ps) (head_upto end qs) ≡ false → told_of (head_upto end ps) (head_upto end qs) ≡ difference_of end ps qs
other_tells end [] qs e = refl
other_tells end (p ∷ ps) [] e = refl
other_tells end (p ∷ ps) (q ∷ qs) e = rw e refl

-- where they are the same, both lists have one
pub has_head : (end : ℕ) (ps qs : List Packet) → are_same (head_upto end ps) (head_upto end qs) ≡ true → (0 < length ps) × (0 < length qs)
has_head end [] qs e = absurd (true≢false (sym e))
has_head end (p ∷ ps) [] e = absurd (no_head _ e)
has_head end (p ∷ ps) (q ∷ qs) e = (omega arith, omega arith)

pub steps_on : (end : ℕ) (ps qs : List Packet) (i j : ℕ) → are_same (head_upto end (drop i ps)) (head_upto end (drop j qs)) ≡ true
    → (difference_of end (drop (i + 1) ps) (drop (j + 1) qs) ≡ difference_of end (drop i ps) (drop j qs)) × (i + 1 ≤ length ps) × (j + 1 ≤ length qs)
steps_on end ps qs i j e =
    let a = drop-drop 1 i ps in
    let b = drop-drop 1 j qs in
    let h = has_head end (drop i ps) (drop j qs) e in
    let l = length-drop i ps in
    let m = length-drop j qs in
    let h0 = h.0 in
    let h1 = h.1 in
    (ap (λ rs. difference_of end rs (drop (j + 1) qs)) (sym a) ∙ ap (λ rs. difference_of end (drop 1 (drop i ps)) rs) (sym b) ∙ same_goes_on end (drop i ps) (drop j qs) e, omega arith, omega arith)
