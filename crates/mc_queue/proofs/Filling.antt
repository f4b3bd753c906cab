-- What is kept of blocks stays true as a packet is put behind the others, or dropped in front.
use Rattle.std.proofs.Common.{◌≡◌, ℕ, zero, suc, ◌-◌, ◌*◌, ◌<◌, ◌≤◌, false, List, [], ◌∷◌, ◌++◌, length, take, drop, arith, refl, ap, subst, sym, ◌∙◌, inl, inr}
use Rattle.std.specs.Prelude.{nat_lt}
use Rattle.std.proofs.lemmas.Bool.{ltb-false}
use Rattle.std.proofs.lemmas.List.{append-nil, length-append}
use Rattle.mc_packet.specs.declared.packet.Packet.{Packet}
use Rattle.mc_queue.specs.declared.kept.Kept.{Kept}
use Rattle.mc_queue.specs.Blocks.{flat, parts, Inner, Shape, IsOf, AreOf, Told, Stands, IsAdded, is_open, grown, of_one}
use Rattle.mc_queue.proofs.Shapes.{flat_two, few_blocks}
use Rattle.mc_queue.proofs.Renewed.{is_grown, is_of_one}

-- ---- blocks are the parts that what is kept of them counts

take_front : (ps qs : List Packet) → take (length ps) (ps ++ qs) ≡ ps
take_front [] qs = refl
take_front (p ∷ ps) qs = ap (λ rs. p ∷ rs) (take_front ps qs)

drop_front : (ps qs : List Packet) → drop (length ps) (ps ++ qs) ≡ qs
drop_front [] qs = refl
drop_front (p ∷ ps) qs = drop_front ps qs

pub parts_of : (ks : List Kept) (bs : List (List Packet)) → AreOf ks bs → parts ks (flat bs) ≡ bs
parts_of [] [] h = refl
parts_of [] (b ∷ bs) h = absurd h
parts_of (k ∷ ks) [] h = absurd h
parts_of (k ∷ ks) (b ∷ bs) h =
    let c = h.0.count_is in
    let t = take_front b (flat bs) in
    let d = drop_front b (flat bs) in
    rw (c, t, d) (ap (λ cs. b ∷ cs) (parts_of ks bs h.1))

pub stands : (ks : List Kept) (ps : List Packet) (bs : List (List Packet)) → Told ks ps bs → Stands ks ps
stands ks ps bs t = subst (λ cs. Told ks ps cs) (sym (ap (λ qs. parts ks qs) (sym t.all) ∙ parts_of ks bs t.each)) t

pub are_long : (ks : List Kept) (bs : List (List Packet)) → AreOf ks bs → length ks ≡ length bs
are_long [] [] h = refl
are_long [] (b ∷ bs) h = absurd h
are_long (k ∷ ks) [] h = absurd h
are_long (k ∷ ks) (b ∷ bs) h = let m = are_long ks bs h.1 in omega arith

pub none_stand : Stands [] []
none_stand = record { each = tt; all = refl; shape = tt }

-- ---- one packet more

split_last : (front : List Kept) (k : Kept) (bs : List (List Packet)) → AreOf (front ++ k ∷ []) bs
    → (fs : List (List Packet)) × (b : List Packet) × (bs ≡ fs ++ b ∷ []) × AreOf front fs × IsOf k b
split_last [] k [] h = absurd h
split_last [] k (b ∷ []) h = ([], b, refl, tt, h.0)
split_last [] k (b ∷ c ∷ cs) h = absurd h.1
split_last (f ∷ front) k [] h = absurd h
split_last (f ∷ front) k (b ∷ bs) h =
    let m = split_last front k bs h.1 in
    (b ∷ m.0, m.1, ap (λ cs. b ∷ cs) m.2, (h.0, m.3), m.4)

with_last : (front : List Kept) (k : Kept) (fs : List (List Packet)) (b : List Packet) → AreOf front fs → IsOf k b → AreOf (front ++ k ∷ []) (fs ++ b ∷ [])
with_last [] k [] b h i = (i, tt)
with_last [] k (f ∷ fs) b h i = absurd h
with_last (l ∷ front) k [] b h i = absurd h
with_last (l ∷ front) k (f ∷ fs) b h i = (h.0, with_last front k fs b h.1 i)

flat_last : (fs : List (List Packet)) (b : List Packet) → flat (fs ++ b ∷ []) ≡ flat fs ++ b
flat_last fs b = flat_two fs (b ∷ []) ∙ ap (λ ps. flat fs ++ ps) (append-nil b)

inner_last : (fs : List (List Packet)) (b c : List Packet) → Inner (fs ++ b ∷ []) → 0 < length c → length c ≤ 256 → Inner (fs ++ c ∷ [])
inner_last [] b c i l m = (l, m)
inner_last (f ∷ []) b c i l m = (i.0, (l, m))
inner_last (f ∷ g ∷ fs) b c i l m = (i.0, inner_last (g ∷ fs) b c i.1 l m)

shape_last : (fs : List (List Packet)) (b c : List Packet) → Shape (fs ++ b ∷ []) → 0 < length c → length c ≤ 256 → Shape (fs ++ c ∷ [])
shape_last [] b c s l m = (l, m, tt)
shape_last (f ∷ fs) b c s l m = (s.0, s.1, inner_last fs b c s.2 l m)

inner_more : (ks : List Kept) (bs : List (List Packet)) (p : Packet) → AreOf ks bs → is_open ks ≡ false → Inner bs → Inner (bs ++ (p ∷ []) ∷ [])
inner_more [] [] p h o i = (omega arith, omega arith)
inner_more [] (b ∷ bs) p h o i = absurd h
inner_more (k ∷ ks) [] p h o i = absurd h
inner_more (k ∷ []) (b ∷ []) p h o i =
    let n = ltb-false k.count 256 o in
    let c = h.0.count_is in
    let m = i.1 in
    (omega arith, (omega arith, omega arith))
inner_more (k ∷ []) (b ∷ c ∷ cs) p h o i = absurd h.1
inner_more (k ∷ l ∷ ls) (b ∷ []) p h o i = absurd h.1
inner_more (k ∷ l ∷ ls) (b ∷ c ∷ cs) p h o i = (i.0, inner_more (l ∷ ls) (c ∷ cs) p h.1 o i.1)

shape_more : (ks : List Kept) (bs : List (List Packet)) (p : Packet) → AreOf ks bs → is_open ks ≡ false → Shape bs → Shape (bs ++ (p ∷ []) ∷ [])
shape_more [] [] p h o s = (omega arith, omega arith, tt)
shape_more [] (b ∷ bs) p h o s = absurd h
shape_more (k ∷ ks) [] p h o s = absurd h
shape_more (k ∷ []) (b ∷ []) p h o s = (s.0, s.1, (omega arith, omega arith))
shape_more (k ∷ []) (b ∷ c ∷ cs) p h o s = absurd h.1
shape_more (k ∷ l ∷ ls) (b ∷ []) p h o s = absurd h.1
shape_more (k ∷ l ∷ ls) (b ∷ c ∷ cs) p h o s = (s.0, s.1, inner_more (l ∷ ls) (c ∷ cs) p h.1 o s.2)

-- in a block that has room
in_last : (p : Packet) (ps : List Packet) (bs : List (List Packet)) (front : List Kept) (k : Kept) → Told (front ++ k ∷ []) ps bs → k.count < 256 → Stands (front ++ grown p k ∷ []) (ps ++ p ∷ [])
in_last p ps bs front k t l =
    let s = split_last front k bs t.each in
    let n = length-append s.1 (p ∷ []) in
    let c = s.4.count_is in
    let f : flat s.0 ++ s.1 ≡ ps = sym (flat_last s.0 s.1) ∙ ap (λ cs. flat cs) (sym s.2) ∙ t.all in
    stands (front ++ grown p k ∷ []) (ps ++ p ∷ []) (s.0 ++ (s.1 ++ p ∷ []) ∷ []) (record {
      each = with_last front (grown p k) s.0 (s.1 ++ p ∷ []) s.3 (is_grown k s.1 p s.4);
      all = flat_last s.0 (s.1 ++ p ∷ []) ∙ sym (more (flat s.0) s.1 (p ∷ [])) ∙ ap (λ qs. qs ++ p ∷ []) f;
      shape = shape_last s.0 s.1 (s.1 ++ p ∷ []) (subst (λ cs. Shape cs) s.2 t.shape) (omega arith) (omega arith);
    })
  where
    more : (a b c : List Packet) → (a ++ b) ++ c ≡ a ++ (b ++ c)
    more [] b c = refl
    more (q ∷ a) b c = ap (λ qs. q ∷ qs) (more a b c)

-- or in one of its own
in_new : (p : Packet) (ps : List Packet) (bs : List (List Packet)) (ks : List Kept) → Told ks ps bs → is_open ks ≡ false → Stands (ks ++ of_one p ∷ []) (ps ++ p ∷ [])
in_new p ps bs ks t o =
    stands (ks ++ of_one p ∷ []) (ps ++ p ∷ []) (bs ++ (p ∷ []) ∷ []) (record {
      each = with_last ks (of_one p) bs (p ∷ []) t.each (is_of_one p);
      all = flat_last bs (p ∷ []) ∙ ap (λ qs. qs ++ p ∷ []) t.all;
      shape = shape_more ks bs p t.each o t.shape;
    })

pub stands_more : (p : Packet) (ps : List Packet) (ks new : List Kept) → Stands ks ps → IsAdded p ks new → Stands new (ps ++ p ∷ [])
stands_more p ps ks new s (inl a) =
    let t : Told (a.0 ++ a.1 ∷ []) ps (parts ks ps) = subst (λ ls. Told ls ps (parts ks ps)) a.2 s in
    subst (λ ls. Stands ls (ps ++ p ∷ [])) (sym a.4) (in_last p ps (parts ks ps) a.0 a.1 t a.3)
stands_more p ps ks new s (inr a) = subst (λ ls. Stands ls (ps ++ p ∷ [])) (sym a.1) (in_new p ps (parts ks ps) ks s a.0)

-- where a block is begun, there is room for what is kept of it
pub opens_within : (p : Packet) (ps : List Packet) (ks : List Kept) (most cap : ℕ) → Stands ks ps → is_open ks ≡ false → length ps < most → most ≤ 256 * (cap - 2) → length ks < cap
opens_within p ps ks most cap s o l m =
    let n = shape_more ks (parts ks ps) p s.each o s.shape in
    let f = few_blocks (parts ks ps ++ (p ∷ []) ∷ []) n in
    let e : length (flat (parts ks ps ++ (p ∷ []) ∷ [])) ≡ length (ps ++ p ∷ []) = ap (λ qs. length qs) (flat_last (parts ks ps) (p ∷ []) ∙ ap (λ qs. qs ++ p ∷ []) s.all) in
    let a = length-append ps (p ∷ []) in
    let b = length-append (parts ks ps) ((p ∷ []) ∷ []) in
    let c = are_long ks (parts ks ps) s.each in
    omega arith

-- ---- one packet less

some_two : (n : ℕ) → 0 < n → n ≡ suc (n - 1)
some_two n l = omega arith

-- what is kept first is of the first packet and others
pub record FrontIs (k : Kept) (ks : List Kept) (gone : Packet) (left : List Packet) : Type 0 where
  pub some : 0 < k.count
  pub few : k.count ≤ 256
  pub is : IsOf k (gone ∷ take (k.count - 1) left)
  pub within : k.count - 1 ≤ length left
  pub others : AreOf ks (parts ks (drop (k.count - 1) left))
  pub all : take (k.count - 1) left ++ flat (parts ks (drop (k.count - 1) left)) ≡ left
  pub inner : Inner (parts ks (drop (k.count - 1) left))

front_by : (n : ℕ) (k : Kept) (ks : List Kept) (gone : Packet) (left : List Packet) → k.count ≡ n → Told (k ∷ ks) (gone ∷ left) (take n (gone ∷ left) ∷ parts ks (drop n (gone ∷ left))) → FrontIs k ks gone left
front_by zero k ks gone left e t = absurd (let z = t.shape.0 in omega arith)
front_by (suc m) k ks gone left e t =
    let o : k.count - 1 ≡ m = omega arith in
    let c = t.each.0.count_is in
    let f = t.shape.1 in
    let l : length (take m left) ≤ length left = shorter m left in
    record {
      some = omega arith;
      few = omega arith;
      is = rw o t.each.0;
      within = omega arith;
      others = rw o t.each.1;
      all = rw o (rest t.all);
      inner = rw o t.shape.2;
    }
  where
    shorter : (m : ℕ) (ps : List Packet) → length (take m ps) ≤ length ps
    shorter zero ps = omega arith
    shorter (suc m) [] = omega arith
    shorter (suc m) (p ∷ ps) = let n = shorter m ps in omega arith

    rest : {a b : List Packet} → gone ∷ a ≡ gone ∷ b → a ≡ b
    rest e = cc

pub front_is : (k : Kept) (ks : List Kept) (gone : Packet) (left : List Packet) → Stands (k ∷ ks) (gone ∷ left) → FrontIs k ks gone left
front_is k ks gone left s = front_by k.count k ks gone left refl s

inner_shape : (bs : List (List Packet)) → Inner bs → Shape bs
inner_shape [] i = tt
inner_shape (b ∷ []) i = (i.0, i.1, tt)
inner_shape (b ∷ c ∷ cs) i = let e = i.0 in (omega arith, omega arith, i.1)

-- the first block had others
pub stays : (k new : Kept) (ks : List Kept) (gone : Packet) (left : List Packet) → Stands (k ∷ ks) (gone ∷ left) → 1 < k.count → IsOf new (take (k.count - 1) left) → Stands (new ∷ ks) left
stays k new ks gone left s l n =
    let f = front_is k ks gone left s in
    let c = f.is.count_is in
    let m = f.few in
    stands (new ∷ ks) left (take (k.count - 1) left ∷ parts ks (drop (k.count - 1) left)) (record {
      each = (n, f.others);
      all = f.all;
      shape = (omega arith, omega arith, f.inner);
    })

-- or it had none
pub goes : (k : Kept) (ks : List Kept) (gone : Packet) (left : List Packet) → Stands (k ∷ ks) (gone ∷ left) → k.count ≤ 1 → Stands ks left
goes k ks gone left s l =
    let f = front_is k ks gone left s in
    let z : k.count - 1 ≡ 0 = omega arith in
    by (k.count - 1) z f.others f.all f.inner
  where
    by : (n : ℕ) → n ≡ 0 → AreOf ks (parts ks (drop n left)) → take n left ++ flat (parts ks (drop n left)) ≡ left → Inner (parts ks (drop n left)) → Stands ks left
    by zero e a b i = record { each = a; all = b; shape = inner_shape (parts ks left) i }
    by (suc n) e a b i = absurd (omega arith)

pub open_last : (front : List Kept) (k : Kept) → is_open (front ++ k ∷ []) ≡ nat_lt k.count 256
open_last [] k = refl
open_last (f ∷ []) k = refl
open_last (f ∷ g ∷ front) k = open_last (g ∷ front) k
