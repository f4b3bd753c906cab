-- A coded number and the head of an element are read from the octets with which they begin.
use Rattle.std.proofs.Common.{◌≡◌, ℕ, zero, suc, ◌+◌, ◌-◌, ◌≤◌, Bool, true, false, List, [], ◌∷◌, length, take, drop, Result, Ok, Err, refl, sym, ap, ◌∙◌, arith, zero-add, add_assoc, lit≤, length-take}
use Rattle.std.specs.Prelude.{⊤, nat_lt, ◌==◌}
use Rattle.std.proofs.lemmas.List.{drop-take, drop-drop}
use Rattle.std.proofs.lemmas.Bool.Decides.{nat_tests}
use Rattle.byteorder.specs.Numbers.{big_from-take}
use Rattle.mc_ebml.specs.declared.read.Size.{Size}
use Rattle.mc_ebml.specs.declared.read.Head.{Head}
use Rattle.mc_ebml.specs.declared.read.Coded.{Coded}
use Rattle.mc_ebml.specs.declared.read.EbmlError.{EbmlError}
use Rattle.mc_ebml.specs.Element.{width, id_from, coded_from, size_of, id_at, coded_at, size_at, head_at, ◌>>=◌}
use Rattle.mc_block.specs.Fronts.{moved_by}

-- ---- a coded number is read from the octets with which it begins

-- whether octets are wanting is seen in a window of them that is wide enough
pub enough : (m w : ℕ) (r : List ℕ) → w ≤ m → nat_lt (length (take m r)) w ≡ nat_lt (length r) w
enough m w r h = grind (arith, nat_tests, length-take m r)

width_all : (b : ℕ) → width b ≤ 8
width_all b = grind (arith, nat_tests)

coded_room : (m b : ℕ) (bs : List ℕ) (c : Bool) → nat_lt (length (b ∷ bs)) (width b) ≡ c → b == 0 ≡ false → 8 ≤ suc m
    → coded_from (b ∷ bs) ≡ coded_from (take (suc m) (b ∷ bs))
coded_room m b bs true h f le =
    rw (f, enough (suc m) (width b) (b ∷ bs) (omega (arith, width_all b)), h) refl
coded_room m b bs false h f le =
    rw (f, enough (suc m) (width b) (b ∷ bs) (omega (arith, width_all b)), h, big_from-take 0 (width b) (suc m) (b ∷ bs) (omega (arith, width_all b))) refl

coded_first : (m b : ℕ) (bs : List ℕ) (c : Bool) → b == 0 ≡ c → 8 ≤ suc m → coded_from (b ∷ bs) ≡ coded_from (take (suc m) (b ∷ bs))
coded_first m b bs true h le = rw h refl
coded_first m b bs false h le = coded_room m b bs (nat_lt (length (b ∷ bs)) (width b)) refl h le

pub coded_window : (m : ℕ) (r : List ℕ) → 8 ≤ m → coded_from r ≡ coded_from (take m r)
coded_window zero r le = absurd (omega arith)
coded_window (suc m) [] le = refl
coded_window (suc m) (b ∷ bs) le = coded_first m b bs (b == 0) refl le

-- ---- the ID

width_id : (b : ℕ) → nat_lt b 16 ≡ false → width b ≤ 4
width_id b h = grind (arith, nat_tests)

abbrev pub shifted : ℕ → Result (ℕ × ℕ) EbmlError → Result (ℕ × ℕ) EbmlError
shifted at (Ok x) = Ok (x.0, at + x.1)
shifted at (Err e) = Err e

id_room : (at m b : ℕ) (bs : List ℕ) (c : Bool) → nat_lt (length (b ∷ bs)) (width b) ≡ c → nat_lt b 16 ≡ false → 4 ≤ suc m
    → id_from at (b ∷ bs) ≡ shifted at (id_from 0 (take (suc m) (b ∷ bs)))
id_room at m b bs true h f le =
    rw (f, enough (suc m) (width b) (b ∷ bs) (omega (arith, width_id b f)), h) refl
id_room at m b bs false h f le =
    rw (f, enough (suc m) (width b) (b ∷ bs) (omega (arith, width_id b f)), h, big_from-take 0 (width b) (suc m) (b ∷ bs) (omega (arith, width_id b f)), zero-add) refl

id_first : (at m b : ℕ) (bs : List ℕ) (c : Bool) → nat_lt b 16 ≡ c → 4 ≤ suc m → id_from at (b ∷ bs) ≡ shifted at (id_from 0 (take (suc m) (b ∷ bs)))
id_first at m b bs true h le = rw h refl
id_first at m b bs false h le = id_room at m b bs (nat_lt (length (b ∷ bs)) (width b)) refl h le

id_window : (at m : ℕ) (r : List ℕ) → 4 ≤ m → id_from at r ≡ shifted at (id_from 0 (take m r))
id_window at zero r le = absurd (omega arith)
id_window at (suc m) [] le = refl
id_window at (suc m) (b ∷ bs) le = id_first at m b bs (nat_lt b 16) refl le

-- ---- the head

-- an ID has at most four octets
abbrev pub IsNear : Result (ℕ × ℕ) EbmlError → Type 0
IsNear (Ok x) = x.1 ≤ 4
IsNear (Err e) = ⊤

near_room : (b : ℕ) (bs : List ℕ) (c : Bool) → nat_lt (length (b ∷ bs)) (width b) ≡ c → nat_lt b 16 ≡ false → IsNear (id_from 0 (b ∷ bs))
near_room b bs true h f = rw (f, h) tt
near_room b bs false h f = rw (f, h) (omega (arith, width_id b f))

near_first : (b : ℕ) (bs : List ℕ) (c : Bool) → nat_lt b 16 ≡ c → IsNear (id_from 0 (b ∷ bs))
near_first b bs true h = rw h tt
near_first b bs false h = near_room b bs (nat_lt (length (b ∷ bs)) (width b)) refl h

near : (r : List ℕ) → IsNear (id_from 0 r)
near [] = tt
near (b ∷ bs) = near_first b bs (nat_lt b 16) refl

-- a size behind an ID, and then the head
abbrev pub sized : ℕ → ℕ → Result Coded EbmlError → Result Head EbmlError
sized id at (Ok n) = Ok (record { id = id; size = size_of n; body = at + n.width })
sized id at (Err e) = Err e

abbrev pub headed_by : Result (ℕ × ℕ) EbmlError → List ℕ → Result Head EbmlError
headed_by (Ok x) octets = sized x.0 x.1 (coded_from (drop x.1 octets))
headed_by (Err e) octets = Err e

abbrev size_behind : ℕ → Coded → Result (Size × ℕ) EbmlError
size_behind at c = Ok (size_of c, at + c.width)

abbrev head_with : ℕ → Size × ℕ → Result Head EbmlError
head_with id size = Ok (record { id = id; size = size.0; body = size.1 })

size_join : (id at : ℕ) (n : Result Coded EbmlError) → (n >>= size_behind at) >>= head_with id ≡ sized id at n
size_join id at (Ok n) = refl
size_join id at (Err e) = refl

pub head_join : (octets : List ℕ) (at : ℕ) → head_at octets at ≡ headed_by (id_from at (drop at octets)) octets
unfolding head_at id_at size_at coded_at
head_join octets at = by_id (id_from at (drop at octets))
  where
    by_id : (x : Result (ℕ × ℕ) EbmlError) → x >>= (λ id. size_at octets id.1 >>= head_with id.0) ≡ headed_by x octets
    by_id (Ok x) = size_join x.0 x.1 (coded_from (drop x.1 octets))
    by_id (Err e) = refl

size_moved : (place id at : ℕ) (n : Result Coded EbmlError) → sized id (place + at) n ≡ moved_by place (sized id at n)
size_moved place id at (Ok n) = rw add_assoc refl
size_moved place id at (Err e) = refl

cut_front : (n m k : ℕ) (octets : List ℕ) → k ≡ n + m → drop n (take k octets) ≡ take m (drop n octets)
cut_front n m k octets e = rw e (drop-take n m octets)

cut_window : (n place : ℕ) (octets : List ℕ) → n ≤ 4 → drop n (take 12 (drop place octets)) ≡ take (12 - n) (drop (place + n) octets)
cut_window n place octets le = cut_front n (12 - n) 12 (drop place octets) (omega arith) ∙ ap (take (12 - n)) (drop-drop n place octets)

id_moved : (octets : List ℕ) (place : ℕ) (x : Result (ℕ × ℕ) EbmlError) → IsNear x
    → headed_by (shifted place x) octets ≡ moved_by place (headed_by x (take 12 (drop place octets)))
id_moved octets place (Err e) le = refl
id_moved octets place (Ok x) le =
    let e = cut_window x.1 place octets le in
    rw (coded_window (12 - x.1) (drop (place + x.1) octets) (omega arith), e) (size_moved place x.0 x.1 (coded_from (take (12 - x.1) (drop (place + x.1) octets))))

pub head_window : (octets : List ℕ) (place : ℕ) → head_at octets place ≡ moved_by place (head_at (take 12 (drop place octets)) 0)
head_window octets place =
    let window = take 12 (drop place octets) in
    let one = head_join octets place ∙ ap (λ x. headed_by x octets) (id_window place 12 (drop place octets) (lit≤ tt)) in
    one ∙ id_moved octets place (id_from 0 window) (near window) ∙ ap (moved_by place) (sym (head_join window 0))
