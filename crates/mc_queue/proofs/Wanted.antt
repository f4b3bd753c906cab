-- Look-ups of sync points in a block and among blocks, for any question that a summary answers.
use Rattle.std.proofs.Common.{◌≡◌, ℕ, ◌+◌, ◌-◌, ◌<◌, ◌≤◌, Bool, true, false, List, [], ◌∷◌, ◌++◌, length, take, drop, get_or, arith, refl, ap, sym, ◌∙◌, inl, inr}
use Rattle.std.specs.Prelude.{Option, Some, None, if◌then◌else◌, ℤ, ◌&&◌, ◌||◌, int_le, int_lt, is_some}
use Rattle.std.specs.List.{list_any}
use Rattle.std.specs.Option.{option_map}
use Rattle.std.proofs.lemmas.Bool.{cases_Bool}
use Rattle.std.proofs.lemmas.Int.{ints}
use Rattle.std.proofs.lemmas.List.{drop_more}
use Rattle.mc_packet.specs.declared.packet.Packet.{Packet}
use Rattle.mc_packet.specs.declared.packet.Pos.{Pos}
use Rattle.mc_packet.specs.declared.choice.Dir.{Dir}
use Rattle.mc_packet.specs.declared.choice.Dir.TheVariants.{Back, Forward}
use Rattle.mc_packet.specs.Choices.{or_else}
use Rattle.mc_queue.specs.Queue.{last_that, first_that, is_sync}
use Rattle.mc_queue.specs.Times.{comes_first}
use Rattle.mc_queue.specs.declared.wants.Want.{Want}
use Rattle.mc_queue.specs.declared.wants.Want.TheVariants.{Any, Upto, From, Before}
use Rattle.mc_queue.specs.Blocks.{flat, extreme, first_two, summary_of, passes}
use Rattle.mc_queue.specs.Wants.{wanted, has_wanted}
use Rattle.mc_queue.proofs.Shapes.{flat_from, flat_parted}
use Rattle.mc_queue.proofs.FromBlocks.{block_back, block_found, here, not_here, no_last, a_last}

-- ---- a summary answers

turned : (dir : Dir) (x u : ℤ) → comes_first dir x u ≡ false → comes_first dir u x ≡ true
turned Forward x u e = grind (arith, ints)
turned Back x u e = grind (arith, ints)

-- what passes goes on to pass towards the front of the way
abbrev pub Downward : Dir → (ℤ → Bool) → Type 0
Downward dir c = (x u : ℤ) → comes_first dir x u ≡ true → c u ≡ true → c x ≡ true

one_time : (dir : Dir) (c : ℤ → Bool) → Downward dir c → (x : ℤ) (sync : Bool) (o : Option ℤ) → passes c (first_two dir (if sync then Some x else None) o) ≡ ((sync && c x) || passes c o)
one_time dir c d x false o = refl
one_time dir c d x true None = elim (cases_Bool (c x)) [ inl y ↦ rw y refl | inr n ↦ rw n refl ]
one_time dir c d x true (Some u) = elim (cases_Bool (comes_first dir x u)) [
  | inl y ↦ rw y (elim (cases_Bool (c u)) [ inl a ↦ let b = d x u y a in rw (a, b) refl | inr a ↦ rw a (elim (cases_Bool (c x)) [ inl b ↦ rw b refl | inr b ↦ rw b refl ]) ])
  | inr n ↦ rw n (elim (cases_Bool (c x)) [ inl b ↦ let a = d u x (turned dir x u n) b in rw (a, b) refl | inr b ↦ rw b refl ])
]

any_passes : (dir : Dir) (c : ℤ → Bool) → Downward dir c → (ps : List Packet) → passes c (extreme dir is_sync ps) ≡ list_any (λ p. p.sync && c p.time) ps
any_passes dir c d [] = refl
any_passes dir c d (p ∷ ps) = one_time dir c d p.time p.sync (extreme dir is_sync ps) ∙ ap (λ b. (p.sync && c p.time) || b) (any_passes dir c d ps)

is_passed : (o : Option ℤ) → is_some o ≡ passes (λ x. true) o
is_passed None = refl
is_passed (Some x) = refl

any_sync : (ps : List Packet) → list_any (λ (p : Packet). p.sync && true) ps ≡ list_any (λ (p : Packet). p.sync) ps
any_sync [] = refl
any_sync (p ∷ ps) = elim (cases_Bool p.sync) [ inl y ↦ rw y refl | inr n ↦ rw n (any_sync ps) ]

pub any_wanted : (w : Want) (ps : List Packet) → has_wanted w (summary_of ps) ≡ list_any (wanted w) ps
any_wanted Any ps = is_passed (extreme Forward is_sync ps) ∙ any_passes Forward (λ x. true) (λ x u e f. refl) ps ∙ any_sync ps
any_wanted (Upto t) ps = any_passes Forward (λ x. int_le x t) (λ x u e f. grind (arith, ints)) ps
any_wanted (From t) ps = any_passes Back (λ x. int_le t x) (λ x u e f. grind (arith, ints)) ps
any_wanted (Before t) ps = any_passes Forward (λ x. int_lt x t) (λ x u e f. grind (arith, ints)) ps

-- ---- from the back

pub back_hit : (test : Packet → Bool) (ps : List Packet) (at : ℕ) (p : Packet) → at ≤ length ps → 0 < at → last_that test (drop at ps) ≡ None → p ≡ get_or ps (at - 1) p → test p ≡ true
    → Some p.pos ≡ last_that test ps
back_hit test ps at p l z n e y =
    let one : at - 1 + 1 ≡ at = omega arith in
    let m : last_that test (drop (at - 1 + 1) ps) ≡ None = rw one n in
    sym (here test ps (at - 1) p (omega arith) m (ap (λ q. test q) (sym e) ∙ y) ∙ ap (λ (q : Packet). Some q.pos) (sym e))

pub back_miss : (test : Packet → Bool) (ps : List Packet) (at : ℕ) (p : Packet) → at ≤ length ps → 0 < at → last_that test (drop at ps) ≡ None → p ≡ get_or ps (at - 1) p → test p ≡ false
    → last_that test (drop (at - 1) ps) ≡ None
back_miss test ps at p l z n e y =
    let one : at - 1 + 1 ≡ at = omega arith in
    let m : last_that test (drop (at - 1 + 1) ps) ≡ None = rw one n in
    not_here test ps (at - 1) p (omega arith) m (ap (λ q. test q) (sym e) ∙ y)

pub back_block : (test : Packet → Bool) (bs : List (List Packet)) (at : ℕ) (b : List Packet) → at ≤ length bs → 0 < at → last_that test (flat (drop at bs)) ≡ None → b ≡ get_or bs (at - 1) []
    → list_any test b ≡ true → last_that test b ≡ last_that test (flat bs)
back_block test bs at b l z n e y =
    let one : at - 1 + 1 ≡ at = omega arith in
    let m : last_that test (flat (drop (at - 1 + 1) bs)) ≡ None = rw one n in
    let s = a_last test b y in
    let t : last_that test b ≡ Some s.0.pos = ap (λ o. option_map (λ (p : Packet). p.pos) o) s.1 in
    let f : last_that test (flat (drop (at - 1) bs)) ≡ Some s.0.pos = block_back test bs (at - 1) [] (omega arith) m ∙ ap (λ c. last_that test c) (sym e) ∙ t in
    t ∙ sym (block_found test bs (at - 1) s.0.pos f)

pub back_other : (test : Packet → Bool) (bs : List (List Packet)) (at : ℕ) (b : List Packet) → at ≤ length bs → 0 < at → last_that test (flat (drop at bs)) ≡ None → b ≡ get_or bs (at - 1) []
    → list_any test b ≡ false → last_that test (flat (drop (at - 1) bs)) ≡ None
back_other test bs at b l z n e y =
    let one : at - 1 + 1 ≡ at = omega arith in
    let m : last_that test (flat (drop (at - 1 + 1) bs)) ≡ None = rw one n in
    block_back test bs (at - 1) [] (omega arith) m ∙ ap (λ c. last_that test c) (sym e) ∙ ap (λ o. option_map (λ (p : Packet). p.pos) o) (no_last test b y)

-- ---- from the front

pub first_both : (test : Packet → Bool) (ps qs : List Packet) → first_that test (ps ++ qs) ≡ or_else (first_that test ps) (first_that test qs)
first_both test [] qs = refl
first_both test (p ∷ ps) qs = elim (cases_Bool (test p)) [ inl y ↦ rw y refl | inr n ↦ rw n (first_both test ps qs) ]

no_first : (test : Packet → Bool) (ps : List Packet) → list_any test ps ≡ false → first_that test ps ≡ None
no_first test [] e = refl
no_first test (p ∷ ps) e = elim (cases_Bool (test p)) [ inl y ↦ absurd (no (rw y at e)) | inr n ↦ rw n (no_first test ps (rw n at e)) ]
  where
    no : true ≡ false → ⊥
    no e = cc

a_first : (test : Packet → Bool) (ps : List Packet) → list_any test ps ≡ true → (p : Pos) × (first_that test ps ≡ Some p)
a_first test [] e = absurd (no e)
  where
    no : false ≡ true → ⊥
    no e = cc
a_first test (p ∷ ps) e = elim (cases_Bool (test p)) [ inl y ↦ (p.pos, rw y refl) | inr n ↦ let m = a_first test ps (rw n at e) in (m.0, rw n m.1) ]

pub front_hit : (test : Packet → Bool) (o : Option Pos) (ps : List Packet) (at : ℕ) (p : Packet) → at < length ps → o ≡ first_that test (drop at ps) → p ≡ get_or ps at p → test p ≡ true
    → Some p.pos ≡ o
front_hit test o ps at p l n e y =
    let t : test (get_or ps at p) ≡ true = ap (λ q. test q) (sym e) ∙ y in
    let f : first_that test (drop at ps) ≡ Some (get_or ps at p).pos = ap (λ qs. first_that test qs) (drop_more ps at p l) ∙ by (get_or ps at p) (drop (at + 1) ps) t in
    sym (n ∙ f ∙ ap (λ (q : Packet). Some q.pos) (sym e))
  where
    by : (q : Packet) (qs : List Packet) → test q ≡ true → first_that test (q ∷ qs) ≡ Some q.pos
    by q qs t = rw t refl

pub front_miss : (test : Packet → Bool) (o : Option Pos) (ps : List Packet) (at : ℕ) (p : Packet) → at < length ps → o ≡ first_that test (drop at ps) → p ≡ get_or ps at p → test p ≡ false
    → o ≡ first_that test (drop (at + 1) ps)
front_miss test o ps at p l n e y =
    let t : test (get_or ps at p) ≡ false = ap (λ q. test q) (sym e) ∙ y in
    n ∙ ap (λ qs. first_that test qs) (drop_more ps at p l) ∙ by (get_or ps at p) (drop (at + 1) ps) t
  where
    by : (q : Packet) (qs : List Packet) → test q ≡ false → first_that test (q ∷ qs) ≡ first_that test qs
    by q qs t = rw t refl

front_on : (test : Packet → Bool) (o : Option Pos) (bs : List (List Packet)) (at : ℕ) (b : List Packet) → at < length bs → o ≡ first_that test (flat (drop at bs)) → b ≡ get_or bs at []
    → o ≡ or_else (first_that test b) (first_that test (flat (drop (at + 1) bs)))
front_on test o bs at b l n e =
    n ∙ ap (λ ps. first_that test ps) (flat_from bs at [] l) ∙ first_both test (get_or bs at []) (flat (drop (at + 1) bs)) ∙ ap (λ c. or_else (first_that test c) (first_that test (flat (drop (at + 1) bs)))) (sym e)

pub front_block : (test : Packet → Bool) (o : Option Pos) (bs : List (List Packet)) (at : ℕ) (b : List Packet) → at < length bs → o ≡ first_that test (flat (drop at bs)) → b ≡ get_or bs at []
    → list_any test b ≡ true → first_that test b ≡ o
front_block test o bs at b l n e y =
    let s = a_first test b y in
    s.1 ∙ sym (front_on test o bs at b l n e ∙ ap (λ r. or_else r (first_that test (flat (drop (at + 1) bs)))) s.1)

pub front_other : (test : Packet → Bool) (o : Option Pos) (bs : List (List Packet)) (at : ℕ) (b : List Packet) → at < length bs → o ≡ first_that test (flat (drop at bs)) → b ≡ get_or bs at []
    → list_any test b ≡ false → o ≡ first_that test (flat (drop (at + 1) bs))
front_other test o bs at b l n e y = front_on test o bs at b l n e ∙ ap (λ r. or_else r (first_that test (flat (drop (at + 1) bs)))) (no_first test b y)

-- ---- whether there is one

any_both : (test : Packet → Bool) (ps qs : List Packet) → list_any test (ps ++ qs) ≡ (list_any test ps || list_any test qs)
any_both test [] qs = refl
any_both test (p ∷ ps) qs = elim (cases_Bool (test p)) [ inl y ↦ rw y refl | inr n ↦ rw n (any_both test ps qs) ]

any_on : (test : Packet → Bool) (bs : List (List Packet)) (at : ℕ) (b : List Packet) → at ≤ length bs → 0 < at → b ≡ get_or bs (at - 1) []
    → list_any test (flat (drop (at - 1) bs)) ≡ (list_any test b || list_any test (flat (drop at bs)))
any_on test bs at b l z e =
    let one : at - 1 + 1 ≡ at = omega arith in
    let f : flat (drop (at - 1) bs) ≡ get_or bs (at - 1) [] ++ flat (drop at bs) = flat_from bs (at - 1) [] (omega arith) ∙ ap (λ i. get_or bs (at - 1) [] ++ flat (drop i bs)) one in
    ap (λ ps. list_any test ps) f ∙ any_both test (get_or bs (at - 1) []) (flat (drop at bs)) ∙ ap (λ c. list_any test c || list_any test (flat (drop at bs))) (sym e)

or_true : (a : Bool) → (a || true) ≡ true
or_true true = refl
or_true false = refl

pub any_block : (test : Packet → Bool) (bs : List (List Packet)) (at : ℕ) (b : List Packet) → at ≤ length bs → 0 < at → b ≡ get_or bs (at - 1) [] → list_any test b ≡ true → true ≡ list_any test (flat bs)
any_block test bs at b l z e y =
    let f : list_any test (flat (drop (at - 1) bs)) ≡ true = any_on test bs at b l z e ∙ ap (λ c. c || list_any test (flat (drop at bs))) y in
    sym (ap (λ ps. list_any test ps) (flat_parted bs (at - 1)) ∙ any_both test (flat (take (at - 1) bs)) (flat (drop (at - 1) bs)) ∙ ap (λ c. list_any test (flat (take (at - 1) bs)) || c) f ∙ or_true (list_any test (flat (take (at - 1) bs))))

pub any_other : (test : Packet → Bool) (bs : List (List Packet)) (at : ℕ) (b : List Packet) → at ≤ length bs → 0 < at → list_any test (flat (drop at bs)) ≡ false → b ≡ get_or bs (at - 1) [] → list_any test b ≡ false
    → list_any test (flat (drop (at - 1) bs)) ≡ false
any_other test bs at b l z n e y = any_on test bs at b l z e ∙ ap (λ c. c || list_any test (flat (drop at bs))) y ∙ n
