-- The sight that is served first.
use Rattle.std.proofs.Common.{◌≡◌, ℕ, ◌≤◌, nat_lt, Bool, true, false, refl, sym, subst, ◌∙◌, ◌⊎◌, inl, inr, arith}
use Rattle.std.specs.Prelude.{⊤, Option, Some, None, IfSome, if◌then◌else◌}
use Rattle.std.proofs.lemmas.Bool.Decides.{nat_tests}
use Rattle.mc_packet.specs.declared.choice.Kind.{Kind}
use Rattle.mc_packet.specs.declared.choice.Kind.TheVariants.{Video, Audio, Sub}
use Rattle.mc_packet.specs.declared.choice.Choice.{Choice}
use Rattle.mc_lines.specs.declared.next.Next.TheVariants.{Give, Tell}
use Rattle.mc_lines.specs.declared.next.Sight.{Sight}
use Rattle.mc_lines.specs.declared.next.Sight.TheVariants.{Packet, Finish, Wait}
use Rattle.mc_packet.specs.declared.packet.Pos.{Pos}
use Rattle.mc_journal.specs.Films.{rank}
use Rattle.mc_packet.specs.Choices.{track_of}
use Rattle.mc_lines.specs.Calls.{Ahead}
use Rattle.mc_lines.specs.Nexts.{IsNextBy, Sees, chosen}

-- the second is served before the first, or as it
abbrev pub Under : Sight → Sight → Type 0
Under (Packet i j p) (Packet k l q) = rank q ≤ rank p
Under (Packet i j p) (Finish k l) = ⊥
Under (Packet i j p) Wait = ⊥
Under (Finish i j) (Packet k l q) = ⊤
Under (Finish i j) (Finish k l) = l ≤ j
Under (Finish i j) Wait = ⊥
Under Wait b = ⊤

abbrev IsOne : Sight → Sight → Sight → Type 0
IsOne a b r = ((r ≡ a) ⊎ (r ≡ b)) × Under a r × Under b r

pick : (a b : Sight) (t : Bool) → Under a a → Under b b → (t ≡ true → Under a b) → (t ≡ false → Under b a) → IsOne a b (if t then b else a)
pick a b true ha hb h g = (inr refl, h refl, hb)
pick a b false ha hb h g = (inl refl, ha, g refl)

packets : (p q : ℕ) → (nat_lt q p ≡ true → q ≤ p) × (nat_lt q p ≡ false → p ≤ q)
packets p q = (λ e. grind (arith, nat_tests), λ e. grind (arith, nat_tests))

pub is_one : (a b : Sight) → IsOne a b (chosen a b)
is_one (Packet i j p) (Packet k l q) = pick (Packet i j p) (Packet k l q) (nat_lt (rank q) (rank p)) (omega arith) (omega arith) (packets (rank p) (rank q)).0 (packets (rank p) (rank q)).1
is_one (Packet i j p) (Finish k l) = (inl refl, omega arith, tt)
is_one (Packet i j p) Wait = (inl refl, omega arith, tt)
is_one (Finish i j) (Packet k l q) = (inr refl, tt, omega arith)
is_one (Finish i j) (Finish k l) = pick (Finish i j) (Finish k l) (nat_lt l j) (omega arith) (omega arith) (packets j l).0 (packets j l).1
is_one (Finish i j) Wait = (inl refl, omega arith, tt)
is_one Wait (Packet k l q) = (inr refl, tt, omega arith)
is_one Wait (Finish k l) = (inr refl, tt, omega arith)
is_one Wait Wait = (inr refl, tt, tt)

under-trans : (a b c : Sight) → Under a b → Under b c → Under a c
under-trans (Packet i j p) (Packet k l q) (Packet m n s) h g = omega arith
under-trans (Packet i j p) (Packet k l q) (Finish m n) h g = g
under-trans (Packet i j p) (Packet k l q) Wait h g = g
under-trans (Packet i j p) (Finish k l) c h g = absurd h
under-trans (Packet i j p) Wait c h g = absurd h
under-trans (Finish i j) b (Packet m n s) h g = tt
under-trans (Finish i j) (Packet k l q) (Finish m n) h g = absurd g
under-trans (Finish i j) (Finish k l) (Finish m n) h g = omega arith
under-trans (Finish i j) Wait (Finish m n) h g = absurd h
under-trans (Finish i j) (Packet k l q) Wait h g = absurd g
under-trans (Finish i j) (Finish k l) Wait h g = absurd g
under-trans (Finish i j) Wait Wait h g = absurd h
under-trans Wait b c h g = tt

-- a track that was looked at, against one that is served before it
before_packet : (w : Ahead) (kind : Kind) (o : Option ℕ) (s : Sight) (i : Kind) (j : ℕ) (p : Pos) → Sees w kind o s → Under s (Packet i j p) → IfSome o (λ k. IfSome (w.front k) (λ q. rank p ≤ q))
before_packet w kind None s i j p sees under = tt
before_packet w kind (Some k) (Packet l m q) i j p sees under = rw sees.2 under
before_packet w kind (Some k) (Finish l m) i j p sees under = rw sees.2 tt
before_packet w kind (Some k) Wait i j p sees under = rw sees.0 tt

before_finish : (w : Ahead) (kind : Kind) (o : Option ℕ) (s : Sight) (i : Kind) (j : ℕ) → Sees w kind o s → Under s (Finish i j) → IfSome o (λ k. w.front k ≡ None) × IfSome o (λ k. w.tells k ≡ true → j ≤ k)
before_finish w kind None s i j sees under = (tt, tt)
before_finish w kind (Some k) (Packet l m q) i j sees under = absurd under
before_finish w kind (Some k) (Finish l m) i j sees under = (sees.2, λ told. subst (λ (x : ℕ). j ≤ x) sees.1 under)
before_finish w kind (Some k) Wait i j sees under = (sees.0, λ told. let both : true ≡ false = sym told ∙ sees.1 in absurd (cc))

-- what is seen is of its track
sees_packet : (w : Ahead) (left : Choice) (kind i : Kind) (j : ℕ) (p : Pos) → Sees w kind (track_of left kind) (Packet i j p) → (track_of left i ≡ Some j) × (w.front j ≡ Some (rank p))
sees_packet w left kind i j p sees = at (track_of left kind) refl sees where
  at : (o : Option ℕ) → track_of left kind ≡ o → Sees w kind o (Packet i j p) → (track_of left i ≡ Some j) × (w.front j ≡ Some (rank p))
  at None e s = let no : Packet i j p ≡ Wait = s in absurd (cc)
  at (Some k) e s = (rw (s.0, s.1) e, rw s.1 s.2)

sees_finish : (w : Ahead) (left : Choice) (kind i : Kind) (j : ℕ) → Sees w kind (track_of left kind) (Finish i j) → (track_of left i ≡ Some j) × (w.tells j ≡ true)
sees_finish w left kind i j sees = at (track_of left kind) refl sees where
  at : (o : Option ℕ) → track_of left kind ≡ o → Sees w kind o (Finish i j) → (track_of left i ≡ Some j) × (w.tells j ≡ true)
  at None e s = let no : Finish i j ≡ Wait = s in absurd (cc)
  at (Some k) e s = (rw (s.0, s.1) e, rw s.1 s.3)

-- the first of three
abbrev IsFirst : Sight → Sight → Sight → Sight → Type 0
IsFirst a b c r = ((r ≡ a) ⊎ ((r ≡ b) ⊎ (r ≡ c))) × Under a r × Under b r × Under c r

is_first : (a b c : Sight) → IsFirst a b c (chosen (chosen a b) c)
is_first a b c =
    let ab = is_one a b in
    let abc = is_one (chosen a b) c in (
      elim abc.0 [ inl e ↦ elim ab.0 [ inl f ↦ inl (e ∙ f) | inr f ↦ inr (inl (e ∙ f)) ] | inr e ↦ inr (inr e) ],
      under-trans _ _ _ ab.1 abc.1,
      under-trans _ _ _ ab.2 abc.1,
      abc.2,
    )

pub gives : (w : Ahead) (left : Choice) (a b c : Sight) (i : Kind) (j : ℕ) (p : Pos) → Sees w Video left.video a → Sees w Audio left.audio b → Sees w Sub left.sub c → chosen (chosen a b) c ≡ Packet i j p → IsNextBy w left (Give i j)
gives w left a b c i j p va au su e =
    let f : IsFirst a b c (Packet i j p) = rw e at (is_first a b c) in
    let one = elim f.0 as (λ _. (track_of left i ≡ Some j) × (w.front j ≡ Some (rank p))) [
      | inl x ↦ sees_packet w left Video i j p (rw (sym x) at va)
      | inr y ↦ elim y as (λ _. (track_of left i ≡ Some j) × (w.front j ≡ Some (rank p))) [ inl x ↦ sees_packet w left Audio i j p (rw (sym x) at au) | inr x ↦ sees_packet w left Sub i j p (rw (sym x) at su) ]
    ] in
    (one.0, (rank p, one.1, (before_packet w Video left.video a i j p va f.1, before_packet w Audio left.audio b i j p au f.2, before_packet w Sub left.sub c i j p su f.3)))

pub tells : (w : Ahead) (left : Choice) (a b c : Sight) (i : Kind) (j : ℕ) → Sees w Video left.video a → Sees w Audio left.audio b → Sees w Sub left.sub c → chosen (chosen a b) c ≡ Finish i j → IsNextBy w left (Tell i j)
tells w left a b c i j va au su e =
    let f : IsFirst a b c (Finish i j) = rw e at (is_first a b c) in
    let one = elim f.0 as (λ _. (track_of left i ≡ Some j) × (w.tells j ≡ true)) [
      | inl x ↦ sees_finish w left Video i j (rw (sym x) at va)
      | inr y ↦ elim y as (λ _. (track_of left i ≡ Some j) × (w.tells j ≡ true)) [ inl x ↦ sees_finish w left Audio i j (rw (sym x) at au) | inr x ↦ sees_finish w left Sub i j (rw (sym x) at su) ]
    ] in
    let v = before_finish w Video left.video a i j va f.1 in
    let u = before_finish w Audio left.audio b i j au f.2 in
    let s = before_finish w Sub left.sub c i j su f.3 in
    (one.0, (v.0, u.0, s.0), one.1, (v.1, u.1, s.1))
