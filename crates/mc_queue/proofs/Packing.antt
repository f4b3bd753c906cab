-- Where blocks begin, and what they weigh.
use Rattle.std.proofs.Common.{◌≡◌, ℕ, false, zero, suc, ◌+◌, ◌-◌, ◌*◌, ◌<◌, ◌≤◌, List, [], ◌∷◌, ◌++◌, length, take, drop, get_or, arith, refl, ap, subst, sym, ◌∙◌}
use Rattle.std.proofs.lemmas.List.{drop-drop, take_more, take-append-drop, get_or-take, get_or-drop, length-append, length-take, length-drop}
use Rattle.mc_packet.specs.declared.packet.Packet.{Packet}
use Rattle.mc_queue.specs.Places.{weights, weight_of}
use Rattle.mc_queue.specs.declared.kept.Kept.{Kept}
use Rattle.mc_queue.specs.Blocks.{flat, parts, block_at, Inner, Shape, IsOf, AreOf, IsAdded, Stands, is_open, stand_before}
use Rattle.mc_queue.proofs.Rising.{more_weight, weights_of_two}
use Rattle.mc_queue.proofs.Filling.{are_long, opens_within, stands_more}

-- ---- where a block begins

part_at : (i : ℕ) (d : Kept) (ks : List Kept) (ps : List Packet) → i < length ks → take (get_or ks i d).count (drop (stand_before i ks) ps) ≡ block_at i (parts ks ps)
part_at i d [] ps l = absurd (omega arith)
part_at zero d (k ∷ ks) ps l = refl
part_at (suc i) d (k ∷ ks) ps l =
    ap (λ qs. take (get_or ks i d).count qs) (sym (drop-drop (stand_before i ks) k.count ps)) ∙ part_at i d ks (drop k.count ps) (omega arith)

is_at : (i : ℕ) (d : Kept) (ks : List Kept) (bs : List (List Packet)) → AreOf ks bs → i < length ks → IsOf (get_or ks i d) (block_at i bs)
is_at i d [] bs h l = absurd (omega arith)
is_at i d (k ∷ ks) [] h l = absurd h
is_at zero d (k ∷ ks) (b ∷ bs) h l = h.0
is_at (suc i) d (k ∷ ks) (b ∷ bs) h l = is_at i d ks bs h.1 (omega arith)

inner_front : (i : ℕ) (ks : List Kept) (bs : List (List Packet)) → AreOf ks bs → Inner bs → i < length ks → stand_before i ks ≡ 256 * i
inner_front i [] bs h s l = absurd (omega arith)
inner_front i (k ∷ ks) [] h s l = absurd h
inner_front zero (k ∷ ks) (b ∷ bs) h s l = refl
inner_front (suc i) (k ∷ []) (b ∷ bs) h s l = absurd (omega arith)
inner_front (suc i) (k ∷ m ∷ ks) (b ∷ []) h s l = absurd h.1
inner_front (suc i) (k ∷ m ∷ ks) (b ∷ c ∷ cs) h s l =
    let n = inner_front i (m ∷ ks) (c ∷ cs) h.1 s.1 (omega arith) in
    let e = h.0.count_is in
    let f = s.0 in
    omega arith

-- of the first block none, and of another those of the first and 256 for each between
pub begins : (i : ℕ) (k : Kept) (ks : List Kept) (ps : List Packet) → Stands ks ps → 0 < i → i < length ks → k ≡ get_or ks 0 k → stand_before i ks ≡ k.count + 256 * (i - 1)
begins zero k ks ps s z l e = absurd (omega arith)
begins (suc i) k [] ps s z l e = absurd (omega arith)
begins (suc i) k (f ∷ ks) ps s z l e =
    let n = inner_front i ks (parts ks (drop f.count ps)) s.each.1 s.shape.2 (omega arith) in
    let c : k.count ≡ f.count = ap (λ (x : Kept). x.count) e in
    omega arith

-- the block at an index, as it is made
pub block_is : (i start : ℕ) (k : Kept) (ks : List Kept) (ps : List Packet) → Stands ks ps → i < length ks → start ≡ stand_before i ks → k ≡ get_or ks i k
    → take k.count (drop start ps) ≡ block_at i (parts ks ps)
block_is i start k ks ps s l e f =
    ap (λ j. take k.count (drop j ps)) e ∙ ap (λ (x : Kept). take x.count (drop (stand_before i ks) ps)) f ∙ part_at i k ks ps l

pub kept_is : (i start : ℕ) (k : Kept) (ks : List Kept) (ps : List Packet) → Stands ks ps → i < length ks → start ≡ stand_before i ks → k ≡ get_or ks i k
    → IsOf k (take k.count (drop start ps))
kept_is i start k ks ps s l e f =
    let b = block_is i start k ks ps s l e f in
    let h : IsOf k (block_at i (parts ks ps)) = subst (λ (x : Kept). IsOf x (block_at i (parts ks ps))) (sym f) (is_at i k ks (parts ks ps) s.each l) in
    subst (λ qs. IsOf k qs) (sym b) h

inner_few : (i : ℕ) (bs : List (List Packet)) → Inner bs → length (block_at i bs) ≤ 256
inner_few i [] s = none i
  where
    none : (i : ℕ) → length (block_at i []) ≤ 256
    none zero = omega arith
    none (suc i) = omega arith
inner_few zero (b ∷ []) s = s.1
inner_few (suc i) (b ∷ []) s = inner_few i [] tt
inner_few zero (b ∷ c ∷ cs) s = let e = s.0 in omega arith
inner_few (suc i) (b ∷ c ∷ cs) s = inner_few i (c ∷ cs) s.1

block_few : (i : ℕ) (bs : List (List Packet)) → Shape bs → length (block_at i bs) ≤ 256
block_few i [] s = inner_few i [] tt
block_few zero (b ∷ bs) s = s.1
block_few (suc i) (b ∷ bs) s = inner_few i bs s.2

pub kept_few : (i : ℕ) (k : Kept) (ks : List Kept) (ps : List Packet) → Stands ks ps → i < length ks → k ≡ get_or ks i k → k.count ≤ 256
kept_few i k ks ps s l f =
    let h : IsOf k (block_at i (parts ks ps)) = subst (λ (x : Kept). IsOf x (block_at i (parts ks ps))) (sym f) (is_at i k ks (parts ks ps) s.each l) in
    let c = h.count_is in
    let m = block_few i (parts ks ps) s.shape in
    omega arith

pub many : (ks : List Kept) (ps : List Packet) → Stands ks ps → length ks ≡ length (parts ks ps)
many ks ps s = are_long ks (parts ks ps) s.each

-- ---- a packet of a block

pub index_in : (i start count : ℕ) (ps : List Packet) → i < length (take count (drop start ps)) → start + i < length ps
index_in i start count ps l =
    let a = length-take count (drop start ps) in
    let b = length-drop start ps in
    omega arith

pub packet_in : (i start count : ℕ) (x : Packet) (ps : List Packet) → i < length (take count (drop start ps)) → x ≡ get_or ps (start + i) x
    → x ≡ get_or (take count (drop start ps)) i x
packet_in i start count x ps l e =
    let a = length-take count (drop start ps) in
    e ∙ sym (get_or-drop start ps i x) ∙ sym (get_or-take count (drop start ps) i x (omega arith))

-- ---- what the last block weighs

weights_flat : (ks : List Kept) (k : Kept) (bs : List (List Packet)) → AreOf (ks ++ k ∷ []) bs → k.weight ≤ weights (flat bs)
weights_flat [] k [] h = absurd h
weights_flat [] k (b ∷ bs) h = let w = h.0.weight_is in let n = weights_of_two b (flat bs) in omega arith
weights_flat (l ∷ ks) k [] h = absurd h
weights_flat (l ∷ ks) k (b ∷ bs) h = let m = weights_flat ks k bs h.1 in let n = weights_of_two b (flat bs) in omega arith

pub last_fits : (front ks : List Kept) (k : Kept) (ps : List Packet) (i : ℕ) (d : Packet) → Stands ks (take i ps) → i < length ps → ks ≡ front ++ k ∷ [] → k.weight + weight_of (get_or ps i d) ≤ weights ps
last_fits front ks k ps i d s l e =
    let h = weights_flat front k (parts ks (take i ps)) (subst (λ ls. AreOf ls (parts ks (take i ps))) e s.each) in
    let f : weights (flat (parts ks (take i ps))) ≡ weights (take i ps) = ap (λ qs. weights qs) s.all in
    let m = more_weight ps i d l in
    omega arith

-- ---- no block begins behind the packets

front_in : (i : ℕ) (ks : List Kept) (bs : List (List Packet)) → AreOf ks bs → stand_before i ks ≤ length (flat bs)
front_in zero ks bs h = omega arith
front_in (suc i) [] bs h = omega arith
front_in (suc i) (k ∷ ks) [] h = absurd h
front_in (suc i) (k ∷ ks) (b ∷ bs) h =
    let m = front_in i ks bs h.1 in
    let c = h.0.count_is in
    let n = length-append b (flat bs) in
    omega arith

pub front_within : (i : ℕ) (ks : List Kept) (ps : List Packet) → Stands ks ps → stand_before i ks ≤ length ps
front_within i ks ps s =
    let m = front_in i ks (parts ks ps) s.each in
    let e : length (flat (parts ks ps)) ≡ length ps = ap (λ qs. length qs) s.all in
    omega arith

-- ---- a packet more is packed

pub packed_on : (ps : List Packet) (i : ℕ) (x : Packet) (ks new : List Kept) → i < length ps → x ≡ get_or ps i x → Stands ks (take i ps) → IsAdded x ks new → Stands new (take (i + 1) ps)
packed_on ps i x ks new l e s a =
    let t : take (i + 1) ps ≡ take i ps ++ x ∷ [] = take_more ps i x l ∙ ap (λ (p : Packet). take i ps ++ p ∷ []) (sym e) in
    subst (λ qs. Stands new qs) (sym t) (stands_more x (take i ps) ks new s a)

pub room_on : (ps : List Packet) (i : ℕ) (x : Packet) (ks : List Kept) (cap : ℕ) → i < length ps → Stands ks (take i ps) → is_open ks ≡ false → length ps ≤ 256 * (cap - 2) → length ks < cap
room_on ps i x ks cap l s o m =
    let n = length-take i ps in
    opens_within x (take i ps) ks (length ps) cap s o (omega arith) m

pub fits_on : (ps : List Packet) (i : ℕ) (x : Packet) (front : List Kept) (k : Kept) (ks : List Kept) → i < length ps → x ≡ get_or ps i x → Stands ks (take i ps) → ks ≡ front ++ k ∷ []
    → k.weight + weight_of x ≤ weights ps
fits_on ps i x front k ks l e s f =
    let m = last_fits front ks k ps i x s l f in
    let w : weight_of x ≡ weight_of (get_or ps i x) = ap (λ (p : Packet). weight_of p) e in
    omega arith

-- ---- strides

block_some : (i : ℕ) (bs : List (List Packet)) → Shape bs → i < length bs → 0 < length (block_at i bs)
block_some i [] s l = absurd (omega arith)
block_some zero (b ∷ bs) s l = s.0
block_some (suc i) (b ∷ bs) s l = by i bs s.2 (omega arith)
  where
    by : (i : ℕ) (bs : List (List Packet)) → Inner bs → i < length bs → 0 < length (block_at i bs)
    by i [] s l = absurd (omega arith)
    by zero (b ∷ []) s l = s.0
    by (suc i) (b ∷ []) s l = absurd (omega arith)
    by zero (b ∷ c ∷ cs) s l = let e = s.0 in omega arith
    by (suc i) (b ∷ c ∷ cs) s l = by i (c ∷ cs) s.1 (omega arith)

-- the packets from where a block begins on are its own and those behind it
pub stride_is : (i at : ℕ) (k : Kept) (ks : List Kept) (ps : List Packet) → Stands ks ps → i < length ks → stand_before i ks ≡ at → k ≡ get_or ks i k
    → (0 < k.count) × (k.weight + weights (drop (at + k.count) ps) ≡ weights (drop at ps))
stride_is i at k ks ps s l e f =
    let o = kept_is i at k ks ps s l (sym e) f in
    let b = block_is i at k ks ps s l (sym e) f in
    let n = many ks ps s in
    let z = block_some i (parts ks ps) s.shape (omega arith) in
    let y : length (take k.count (drop at ps)) ≡ length (block_at i (parts ks ps)) = ap (λ qs. length qs) b in
    let c = o.count_is in
    let w = o.weight_is in
    let t : weights (drop at ps) ≡ weights (take k.count (drop at ps) ++ drop k.count (drop at ps)) = ap (λ qs. weights qs) (sym (take-append-drop k.count (drop at ps))) in
    let u = weights_of_two (take k.count (drop at ps)) (drop k.count (drop at ps)) in
    let v : weights (drop k.count (drop at ps)) ≡ weights (drop (at + k.count) ps) = ap (λ qs. weights qs) (drop-drop k.count at ps) in
    (omega arith, omega arith)

pub in_kept : (i n : ℕ) (ks : List Kept) (ps : List Packet) → Stands ks ps → n ≡ length (parts ks ps) → i < n → i < length ks
in_kept i n ks ps s e l = let m = many ks ps s in omega arith
