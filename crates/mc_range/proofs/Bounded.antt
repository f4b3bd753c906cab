-- The first served time on a way, found step by step, and the bounds by what is found.
use Rattle.std.proofs.Common.{◌≡◌, ℕ, ◌<◌, ◌≤◌, Bool, true, false, ◌&&◌, List, [], ◌∷◌, length, Option, Some, None, ℤ, arith, refl, subst, inl, inr}
use Rattle.std.specs.Prelude.{not}
use Rattle.std.specs.List.{filter, AllByRecursion}
use Rattle.std.proofs.lemmas.Bool.{cases_Bool, and_parts, not-true}
use Rattle.mc_packet.specs.declared.packet.Packet.{Packet}
use Rattle.mc_packet.specs.declared.choice.Dir.{Dir}
use Rattle.mc_queue.specs.Times.{comes_first, is_past, is_wanted, AnyOf, IsNearest}
use Rattle.mc_queue.proofs.Timing.{first_refl, first_total, first_trans, first_same}
use Rattle.mc_range.specs.Bounds.{is_point}

-- ---- all and some of a list

all_with : (P Q R : Packet → Type 0) → ((p : Packet) → P p → Q p → R p) → (ps : List Packet) → AllByRecursion P ps → AllByRecursion Q ps → AllByRecursion R ps
all_with P Q R f [] h k = tt
all_with P Q R f (p ∷ ps) h k = (f p h.0 k.0, all_with P Q R f ps h.1 k.1)

all_so : (P : Packet → Type 0) → ((p : Packet) → P p) → (ps : List Packet) → AllByRecursion P ps
all_so P f [] = tt
all_so P f (p ∷ ps) = (f p, all_so P f ps)

any_to : (P Q : Packet → Type 0) → ((p : Packet) → P p → Q p) → (ps : List Packet) → AnyOf P ps → AnyOf Q ps
any_to P Q f [] h = absurd h
any_to P Q f (p ∷ ps) (inl h) = inl (f p h)
any_to P Q f (p ∷ ps) (inr h) = inr (any_to P Q f ps h)

-- ---- the steps

-- what does not lie past a time is no point
abbrev pub NoneYet : Dir → (ℤ → Bool) → Option ℤ → List Packet → Type 0
NoneYet dir test past ps = AllByRecursion (λ p. is_wanted dir false past p ≡ false → is_point test p ≡ false) ps

no_sync : (a b : Bool) → a ≡ false → (a && b) ≡ false
no_sync a b e = rw e refl

pub none_at_first : (dir : Dir) (test : ℤ → Bool) (ps : List Packet) → NoneYet dir test None ps
none_at_first dir test ps = all_so (λ p. is_wanted dir false None p ≡ false → is_point test p ≡ false) (λ p e. by p.sync (test p.time) e) ps
  where
    by : (s t : Bool) → (s && true) ≡ false → (s && t) ≡ false
    by true t e = absurd (cc)
    by false t e = refl

point_at : (test : ℤ → Bool) (t u : ℤ) (s : Bool) → u ≡ t → test t ≡ false → (s && test u) ≡ false
point_at test t u true e f = rw e f
point_at test t u false e f = refl

-- the next one isn't served
pub none_on : (dir : Dir) (test : ℤ → Bool) (past : Option ℤ) (t : ℤ) (ps : List Packet) → NoneYet dir test past ps → IsNearest dir (is_wanted dir false past) ps (Some t)
    → test t ≡ false → NoneYet dir test (Some t) ps
none_on dir test past t ps h n f =
    all_with (λ p. is_wanted dir false past p ≡ false → is_point test p ≡ false) (λ p. is_wanted dir false past p ≡ true → comes_first dir t p.time ≡ true)
    (λ p. is_wanted dir false (Some t) p ≡ false → is_point test p ≡ false)
    (λ p a b e. elim (cases_Bool (is_wanted dir false past p)) [
      | inl y ↦ by p.sync p.time (and_parts p.sync (is_past dir past p.time) y).0 (b y) e
      | inr z ↦ a z
    ]) ps h n.first
  where
    by : (s : Bool) (u : ℤ) → s ≡ true → comes_first dir t u ≡ true → (s && not (comes_first dir u t)) ≡ false → (s && test u) ≡ false
    by s u x y e = elim (cases_Bool (comes_first dir u t)) [
      | inl z ↦ point_at test t u s (first_same dir u t z y) f
      | inr z ↦ absurd (let g : (true && true) ≡ false = rw (x, z) at e in cc)
    ]

-- the next one is served
pub served_next : (dir : Dir) (test : ℤ → Bool) (past : Option ℤ) (t : ℤ) (ps : List Packet) → NoneYet dir test past ps → IsNearest dir (is_wanted dir false past) ps (Some t)
    → test t ≡ true → IsNearest dir (is_point test) ps (Some t)
served_next dir test past t ps h n f = record {
  first = all_with (λ p. is_wanted dir false past p ≡ false → is_point test p ≡ false) (λ p. is_wanted dir false past p ≡ true → comes_first dir t p.time ≡ true)
      (λ p. is_point test p ≡ true → comes_first dir t p.time ≡ true)
      (λ p a b e. elim (cases_Bool (is_wanted dir false past p)) [ inl y ↦ b y | inr z ↦ absurd (let g = a z in cc) ]) ps h n.first;
  met = any_to (λ p. (is_wanted dir false past p ≡ true) × (p.time ≡ t)) (λ p. (is_point test p ≡ true) × (p.time ≡ t))
      (λ p h. let s = (and_parts p.sync (is_past dir past p.time) h.0).0 in let g = h.1 in (rw (s, g) f, g)) ps n.met;
}

-- there is no next one
pub none_served : (dir : Dir) (test : ℤ → Bool) (past : Option ℤ) (ps : List Packet) → NoneYet dir test past ps → IsNearest dir (is_wanted dir false past) ps None
    → IsNearest dir (is_point test) ps None
none_served dir test past ps h n = record {
  first = all_with (λ p. is_wanted dir false past p ≡ false → is_point test p ≡ false) (λ p. is_wanted dir false past p ≡ true → ⊥)
      (λ p. is_point test p ≡ true → ⊥)
      (λ p a b e. elim (cases_Bool (is_wanted dir false past p)) [ inl y ↦ b y | inr z ↦ absurd (let g = a z in cc) ]) ps h n.first;
  met = tt;
}

-- ---- the steps end

abbrev pub left : Dir → Option ℤ → List Packet → ℕ
left dir past ps = length (filter (is_wanted dir false past) ps)

-- a later time is past what is past the next
narrower : (dir : Dir) (past : Option ℤ) (t u : ℤ) → is_past dir past t ≡ true → comes_first dir u t ≡ false → is_past dir past u ≡ true
narrower dir None t u h e = refl
narrower dir (Some s) t u h e = elim (cases_Bool (comes_first dir u s)) [
  | inl y ↦
      let n = not-true (comes_first dir t s) h in
      let m = first_total dir t s n in
      let k = first_trans dir u s t y m in
      absurd (cc)
  | inr z ↦ rw z refl
]

still : (dir : Dir) (past : Option ℤ) (t : ℤ) → is_past dir past t ≡ true → (p : Packet) → is_wanted dir false (Some t) p ≡ true → is_wanted dir false past p ≡ true
still dir past t h p e =
    let a = and_parts p.sync (not (comes_first dir p.time t)) e in
    let n = not-true (comes_first dir p.time t) a.1 in
    let s = a.0 in
    let g = narrower dir past t p.time h n in
    rw (s, g) refl

not_more : (dir : Dir) (past : Option ℤ) (t : ℤ) (ps : List Packet) → is_past dir past t ≡ true → left dir (Some t) ps ≤ left dir past ps
not_more dir past t [] h = omega arith
not_more dir past t (p ∷ ps) h =
    let more = not_more dir past t ps h in
    elim (cases_Bool (is_wanted dir false (Some t) p)) [
      | inl y ↦ let z = still dir past t h p y in rw (y, z) (omega arith)
      | inr n ↦ elim (cases_Bool (is_wanted dir false past p)) [ inl z ↦ rw (n, z) (omega arith) | inr z ↦ rw (n, z) more ]
    ]

one_less : (dir : Dir) (past : Option ℤ) (t : ℤ) (ps : List Packet) → is_past dir past t ≡ true → AnyOf (λ p. (is_wanted dir false past p ≡ true) × (p.time ≡ t)) ps
    → left dir (Some t) ps < left dir past ps
one_less dir past t [] h a = absurd a
one_less dir past t (p ∷ ps) h (inl a) =
    let more = not_more dir past t ps h in
    let y = a.0 in
    let g = a.1 in
    let r = first_refl dir t in
    let n : is_wanted dir false (Some t) p ≡ false = gone p.sync p.time g in
    rw (n, y) (omega arith)
  where
    gone : (s : Bool) (u : ℤ) → u ≡ t → (s && not (comes_first dir u t)) ≡ false
    gone true u e = rw e (rw (first_refl dir t) refl)
    gone false u e = refl
one_less dir past t (p ∷ ps) h (inr a) =
    let more = one_less dir past t ps h a in
    elim (cases_Bool (is_wanted dir false (Some t) p)) [
      | inl y ↦ let z = still dir past t h p y in rw (y, z) (omega arith)
      | inr n ↦ elim (cases_Bool (is_wanted dir false past p)) [ inl z ↦ rw (n, z) (omega arith) | inr z ↦ rw (n, z) more ]
    ]

met_past : (dir : Dir) (past : Option ℤ) (t : ℤ) (ps : List Packet) → AnyOf (λ p. (is_wanted dir false past p ≡ true) × (p.time ≡ t)) ps → is_past dir past t ≡ true
met_past dir past t [] a = absurd a
met_past dir past t (p ∷ ps) (inl a) = let g = a.1 in subst (λ u. is_past dir past u ≡ true) g (and_parts p.sync (is_past dir past p.time) a.0).1
met_past dir past t (p ∷ ps) (inr a) = met_past dir past t ps a

pub fewer_left : (dir : Dir) (past : Option ℤ) (t : ℤ) (ps : List Packet) → IsNearest dir (is_wanted dir false past) ps (Some t) → left dir (Some t) ps < left dir past ps
fewer_left dir past t ps n = one_less dir past t ps (met_past dir past t ps n.met) n.met
