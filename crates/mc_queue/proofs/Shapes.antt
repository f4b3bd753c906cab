-- How many blocks there are, and what stands before and behind one.
use Rattle.std.proofs.Common.{◌≡◌, ℕ, ◌+◌, ◌*◌, ◌/◌, ◌<◌, ◌≤◌, List, [], ◌∷◌, ◌++◌, length, take, drop, get_or, arith, refl, ap, sym, ◌∙◌}
use Rattle.std.proofs.lemmas.List.{drop_more, take-append-drop, length-append}
use Rattle.mc_packet.specs.declared.packet.Packet.{Packet}
use Rattle.mc_queue.specs.Blocks.{flat, Inner, Shape, bound}

two_long : (ps qs : List Packet) → length (ps ++ qs) ≡ length ps + length qs
two_long ps qs = length-append ps qs

pub flat_two : (bs cs : List (List Packet)) → flat (bs ++ cs) ≡ flat bs ++ flat cs
flat_two [] cs = refl
flat_two (b ∷ bs) cs = ap (λ ps. b ++ ps) (flat_two bs cs) ∙ sym (more b (flat bs) (flat cs))
  where
    more : (a b c : List Packet) → (a ++ b) ++ c ≡ a ++ (b ++ c)
    more [] b c = refl
    more (p ∷ a) b c = ap (λ ps. p ∷ ps) (more a b c)

-- the blocks behind one at an index begin with it
pub flat_from : (bs : List (List Packet)) (i : ℕ) (d : List Packet) → i < length bs → flat (drop i bs) ≡ get_or bs i d ++ flat (drop (i + 1) bs)
flat_from bs i d l = ap (λ cs. flat cs) (drop_more bs i d l)

pub flat_parted : (bs : List (List Packet)) (i : ℕ) → flat bs ≡ flat (take i bs) ++ flat (drop i bs)
flat_parted bs i = ap (λ cs. flat cs) (sym (take-append-drop i bs)) ∙ flat_two (take i bs) (drop i bs)

-- 256 for each block but one
inner_long : (b : List Packet) (bs : List (List Packet)) → Inner (b ∷ bs) → 256 * length bs ≤ length (flat (b ∷ bs))
inner_long b [] i = omega arith
inner_long b (c ∷ cs) i =
    let m = inner_long c cs i.1 in
    let n = two_long b (flat (c ∷ cs)) in
    let e = i.0 in
    omega arith

-- and for each but two
pub few : (bs : List (List Packet)) → Shape bs → 256 * length bs ≤ length (flat bs) + 512
few [] s = omega arith
few (b ∷ []) s = omega arith
few (b ∷ c ∷ cs) s =
    let m = inner_long c cs s.2 in
    let n = two_long b (flat (c ∷ cs)) in
    omega arith

pub few_blocks : (bs : List (List Packet)) → Shape bs → length bs ≤ length (flat bs) / 256 + 2
few_blocks bs s = let m = few bs s in omega arith

pub within_bound : (bs : List (List Packet)) → Shape bs → 2 * length bs + 256 ≤ bound (length (flat bs))
within_bound bs s = let m = few_blocks bs s in omega arith
