-- The time past another that comes first on the way, block by block.
use Rattle.std.proofs.Common.{◌≡◌, ℕ, ◌+◌, ◌<◌, ◌≤◌, Bool, true, false, List, [], ◌∷◌, ◌++◌, take, length, Option, Some, None, ℤ, arith, refl, ap, sym, ◌∙◌, inl, inr}
use Rattle.std.specs.Prelude.{IfSome}
use Rattle.std.specs.List.{AllByRecursion}
use Rattle.std.proofs.lemmas.Bool.{cases_Bool}
use Rattle.std.proofs.lemmas.Int.{ints}
use Rattle.std.proofs.lemmas.List.{take_all, take_more, append-nil}
use Rattle.mc_packet.specs.declared.packet.Packet.{Packet}
use Rattle.mc_packet.specs.declared.choice.Dir.{Dir}
use Rattle.mc_packet.specs.declared.choice.Dir.TheVariants.{Back, Forward}
use Rattle.mc_queue.specs.Queue.{is_sync}
use Rattle.mc_queue.specs.Times.{comes_first, is_past, is_wanted, AnyOf, IsReached, IsNearest}
use Rattle.mc_queue.specs.Blocks.{block_at, extreme, first_two, flat, foremost, farthest, passes, summary_of}
use Rattle.mc_queue.proofs.Timing.{first_refl, first_total, first_trans}
use Rattle.mc_queue.proofs.Extremes.{of_two}
use Rattle.mc_queue.proofs.Shapes.{flat_two}

-- ---- the extreme time is the nearest

all_reach : (dir : Dir) (test : Packet → Bool) (best best' : Option ℤ) → ((u : ℤ) → IsReached dir best u → IsReached dir best' u) → (ps : List Packet)
    → AllByRecursion (λ p. test p ≡ true → IsReached dir best p.time) ps → AllByRecursion (λ p. test p ≡ true → IsReached dir best' p.time) ps
all_reach dir test best best' f [] h = tt
all_reach dir test best best' f (p ∷ ps) h = ((λ e. f p.time (h.0 e)), all_reach dir test best best' f ps h.1)

reach_rest : (dir : Dir) (a b : Option ℤ) (u : ℤ) → IsReached dir b u → IsReached dir (first_two dir a b) u
reach_rest dir None b u h = h
reach_rest dir (Some x) None u h = absurd h
reach_rest dir (Some x) (Some y) u h = elim (cases_Bool (comes_first dir x y)) [
  | inl e ↦ rw e (first_trans dir x y u e h)
  | inr n ↦ rw n h
]

reach_here : (dir : Dir) (x : ℤ) (b : Option ℤ) → IsReached dir (first_two dir (Some x) b) x
reach_here dir x None = first_refl dir x
reach_here dir x (Some y) = elim (cases_Bool (comes_first dir x y)) [ inl e ↦ rw e (first_refl dir x) | inr n ↦ rw n (first_total dir x y n) ]

met_two : (dir : Dir) (P : ℤ → Type 0) (x : ℤ) (b : Option ℤ) → P x → IfSome b P → IfSome (first_two dir (Some x) b) P
met_two dir P x None h k = h
met_two dir P x (Some y) h k = elim (cases_Bool (comes_first dir x y)) [ inl e ↦ rw e h | inr n ↦ rw n k ]

if_some : (P Q : ℤ → Type 0) → ((t : ℤ) → P t → Q t) → (o : Option ℤ) → IfSome o P → IfSome o Q
if_some P Q f None h = tt
if_some P Q f (Some t) h = f t h

pub nearest_of : (dir : Dir) (test : Packet → Bool) (ps : List Packet) → IsNearest dir test ps (extreme dir test ps)
nearest_of dir test [] = record { first = tt; met = tt }
nearest_of dir test (p ∷ ps) =
    let n = nearest_of dir test ps in
    let more : IfSome (extreme dir test ps) (λ t. AnyOf (λ q. (test q ≡ true) × (q.time ≡ t)) (p ∷ ps)) =
    if_some (λ t. AnyOf (λ q. (test q ≡ true) × (q.time ≡ t)) ps) (λ t. AnyOf (λ q. (test q ≡ true) × (q.time ≡ t)) (p ∷ ps)) (λ t h. inr h) (extreme dir test ps) n.met in
    elim (cases_Bool (test p)) [
      | inl y ↦ rw y (record {
        first = ((λ e. reach_here dir p.time (extreme dir test ps)), all_reach dir test (extreme dir test ps) (first_two dir (Some p.time) (extreme dir test ps)) (λ u h. reach_rest dir (Some p.time) (extreme dir test ps) u h) ps n.first);
        met = met_two dir (λ t. AnyOf (λ q. (test q ≡ true) × (q.time ≡ t)) (p ∷ ps)) p.time (extreme dir test ps) (inl (y, refl)) more;
      })
      | inr z ↦ rw z (record { first = ((λ e. absurd (no (sym z ∙ e))), n.first); met = more })
    ]
  where
    no : false ≡ true → ⊥
    no e = cc

pub nearest_is : (dir : Dir) (test : Packet → Bool) (ps : List Packet) (best : Option ℤ) → best ≡ extreme dir test ps → IsNearest dir test ps best
nearest_is dir test ps best e = rw e (nearest_of dir test ps)

pub greatest_is : (ps : List Packet) (best : Option ℤ) → best ≡ extreme Back (λ p. true) ps → IsNearest Back (is_wanted Back true None) ps best
greatest_is ps best e = rw e (nearest_of Back (is_wanted Back true None) ps)

-- ---- what a summary answers

-- a time behind one that is past is past too
past_on : (dir : Dir) (past : Option ℤ) (x u : ℤ) → comes_first dir x u ≡ true → is_past dir past x ≡ true → is_past dir past u ≡ true
past_on dir None x u e h = refl
past_on Forward (Some t) x u e h = grind (arith, ints)
past_on Back (Some t) x u e h = grind (arith, ints)

-- and one before one that is not is not
not_past : (dir : Dir) (past : Option ℤ) (x u : ℤ) → comes_first dir x u ≡ true → is_past dir past u ≡ false → is_past dir past x ≡ false
not_past dir None x u e h = h
not_past Forward (Some t) x u e h = grind (arith, ints)
not_past Back (Some t) x u e h = grind (arith, ints)

abbrev IsPast : Dir → Option ℤ → Option ℤ → Type 0
IsPast dir past o = IfSome o (λ t. is_past dir past t ≡ true)

past_first : (dir : Dir) (past : Option ℤ) (x : ℤ) (o : Option ℤ) → IsPast dir past (first_two dir (Some x) o) → (is_past dir past x ≡ true) × IsPast dir past o
past_first dir past x None h = (h, tt)
past_first dir past x (Some u) h = elim (cases_Bool (comes_first dir x u)) [
  | inl y ↦ let a : is_past dir past x ≡ true = rw y at h in (a, past_on dir past x u y a)
  | inr n ↦ let a : is_past dir past u ≡ true = rw n at h in (past_on dir past u x (first_total dir x u n) a, a)
]

-- where the first time is past the other, all are wanted
pub all_wanted : (dir : Dir) (past : Option ℤ) (ps : List Packet) → IsPast dir past (extreme dir is_sync ps) → extreme dir (is_wanted dir false past) ps ≡ extreme dir is_sync ps
all_wanted dir past [] h = refl
all_wanted dir past (p ∷ ps) h = elim (cases_Bool p.sync) [
  | inl y ↦
      let m = past_first dir past p.time (extreme dir is_sync ps) (rw y at h) in
      let i = all_wanted dir past ps m.1 in
      let a = m.0 in
      rw (y, a, i) refl
  | inr n ↦ let i = all_wanted dir past ps (rw n at h) in rw (n, i) refl
]

-- the other way
abbrev pub turned : Dir → Dir
turned Forward = Back
turned Back = Forward

turned_first : (dir : Dir) (x u : ℤ) → comes_first (turned dir) x u ≡ comes_first dir u x
turned_first Forward x u = refl
turned_first Back x u = refl

abbrev IsNotPast : Dir → Option ℤ → Option ℤ → Type 0
IsNotPast dir past o = IfSome o (λ t. is_past dir past t ≡ false)

not_first : (dir : Dir) (past : Option ℤ) (x : ℤ) (o : Option ℤ) → IsNotPast dir past (first_two (turned dir) (Some x) o) → (is_past dir past x ≡ false) × IsNotPast dir past o
not_first dir past x None h = (h, tt)
not_first dir past x (Some u) h = elim (cases_Bool (comes_first (turned dir) x u)) [
  | inl y ↦ let a : is_past dir past x ≡ false = rw y at h in (a, not_past dir past u x (sym (turned_first dir x u) ∙ y) a)
  | inr n ↦ let a : is_past dir past u ≡ false = rw n at h in (not_past dir past x u (first_total dir u x (sym (turned_first dir x u) ∙ n)) a, a)
]

-- where the last time is not past the other, none is
pub none_wanted : (dir : Dir) (past : Option ℤ) (ps : List Packet) → IsNotPast dir past (extreme (turned dir) is_sync ps) → extreme dir (is_wanted dir false past) ps ≡ None
none_wanted dir past [] h = refl
none_wanted dir past (p ∷ ps) h = elim (cases_Bool p.sync) [
  | inl y ↦
      let m = not_first dir past p.time (extreme (turned dir) is_sync ps) (rw y at h) in
      let i = none_wanted dir past ps m.1 in
      let a = m.0 in
      rw (y, a, i) refl
  | inr n ↦ let i = none_wanted dir past ps (rw n at h) in rw (n, i) refl
]

foremost_is : (dir : Dir) (ps : List Packet) → foremost dir (summary_of ps) ≡ extreme dir is_sync ps
foremost_is Forward ps = refl
foremost_is Back ps = refl

farthest_is : (dir : Dir) (ps : List Packet) → farthest dir (summary_of ps) ≡ extreme (turned dir) is_sync ps
farthest_is Forward ps = refl
farthest_is Back ps = refl

past_some : (dir : Dir) (past o : Option ℤ) → passes (is_past dir past) o ≡ true → IsPast dir past o
past_some dir past None h = tt
past_some dir past (Some t) h = h

past_none : (dir : Dir) (past o : Option ℤ) → passes (is_past dir past) o ≡ false → IsNotPast dir past o
past_none dir past None h = tt
past_none dir past (Some t) h = h

pub all_past : (dir : Dir) (past : Option ℤ) (ps : List Packet) → passes (is_past dir past) (foremost dir (summary_of ps)) ≡ true → foremost dir (summary_of ps) ≡ extreme dir (is_wanted dir false past) ps
all_past dir past ps h =
    let f = foremost_is dir ps in
    f ∙ sym (all_wanted dir past ps (past_some dir past (extreme dir is_sync ps) (ap (λ o. passes (is_past dir past) o) (sym f) ∙ h)))

pub none_past : (dir : Dir) (past : Option ℤ) (ps : List Packet) → passes (is_past dir past) (farthest dir (summary_of ps)) ≡ false → None ≡ extreme dir (is_wanted dir false past) ps
none_past dir past ps h =
    let f = farthest_is dir ps in
    sym (none_wanted dir past ps (past_none dir past (extreme (turned dir) is_sync ps) (ap (λ o. passes (is_past dir past) o) (sym f) ∙ h)))

-- ---- one block more

pub block_more : (dir : Dir) (test : Packet → Bool) (bs : List (List Packet)) (i : ℕ) → i < length bs
    → extreme dir test (flat (take (i + 1) bs)) ≡ first_two dir (extreme dir test (flat (take i bs))) (extreme dir test (block_at i bs))
block_more dir test bs i l =
    let t : flat (take (i + 1) bs) ≡ flat (take i bs) ++ block_at i bs = ap (λ cs. flat cs) (take_more bs i [] l) ∙ flat_two (take i bs) (block_at i bs ∷ []) ∙ ap (λ ps. flat (take i bs) ++ ps) (append-nil (block_at i bs)) in
    ap (λ ps. extreme dir test ps) t ∙ of_two dir test (flat (take i bs)) (block_at i bs)

-- the walk of all blocks ends at the greatest time of all
pub greatest_of_all : (bs : List (List Packet)) (ps : List Packet) (i : ℕ) (best : Option ℤ) → flat bs ≡ ps → length bs ≤ i → best ≡ extreme Back (λ p. true) (flat (take i bs)) → IsNearest Back (is_wanted Back true None) ps best
greatest_of_all bs ps i best a l e =
    greatest_is ps best (e ∙ ap (λ cs. extreme Back (λ p. true) (flat cs)) (take_all i bs l) ∙ ap (λ qs. extreme Back (λ p. true) qs) a)

pub nearest_of_all : (dir : Dir) (test : Packet → Bool) (bs : List (List Packet)) (ps : List Packet) (i : ℕ) (best : Option ℤ) → flat bs ≡ ps → length bs ≤ i → best ≡ extreme dir test (flat (take i bs)) → IsNearest dir test ps best
nearest_of_all dir test bs ps i best a l e =
    nearest_is dir test ps best (e ∙ ap (λ cs. extreme dir test (flat cs)) (take_all i bs l) ∙ ap (λ qs. extreme dir test qs) a)
