-- Sync points whose times rise, and a time among them.
use Rattle.std.proofs.Common.{◌≡◌, Bool, true, false, List, [], ◌∷◌, ◌++◌, Option, Some, None, ℤ, refl, sym, subst, arith}
use Rattle.std.specs.Prelude.{not, ◌||◌, ◌<ℤ◌, int_le, IfSome}
use Rattle.std.specs.Option.{option_map}
use Rattle.std.specs.List.{AllByRecursion}
use Rattle.mc_walk.specs.declared.plan.Plan.{Plan}
use Rattle.mc_packet.specs.Choices.{or_else}
use Rattle.mc_journal.specs.Films.{TimesRise, last}
use Rattle.mc_packet.specs.declared.packet.Packet.{Packet}
use Rattle.mc_index.specs.declared.entry.Point.{Point}
use Rattle.mc_index.specs.Entries.{is_upto}
use Rattle.mc_index.specs.Fronts.{any_past}
use Rattle.mc_index.specs.Scans.{point_of}

abbrev IsBefore : Packet → Packet → Type 0
IsBefore p q = p.time <ℤ q.time

all-front : (P : Packet → Type 0) (xs ys : List Packet) → AllByRecursion P (xs ++ ys) → AllByRecursion P xs
all-front P [] ys all = tt
all-front P (x ∷ xs) ys all = (all.0, all-front P xs ys all.1)

all-back : (P : Packet → Type 0) (xs ys : List Packet) → AllByRecursion P (xs ++ ys) → AllByRecursion P ys
all-back P [] ys all = all
all-back P (x ∷ xs) ys all = all-back P xs ys all.1

pub rise-front : (xs ys : List Packet) → TimesRise (xs ++ ys) → TimesRise xs
rise-front [] ys rise = tt
rise-front (x ∷ xs) ys rise = (all-front (IsBefore x) xs ys rise.0, rise-front xs ys rise.1)

pub rise-back : (xs ys : List Packet) → TimesRise (xs ++ ys) → TimesRise ys
rise-back [] ys rise = rise
rise-back (x ∷ xs) ys rise = rise-back xs ys rise.1

or-assoc : (a b c : Bool) → ((a || b) || c) ≡ (a || (b || c))
or-assoc true b c = refl
or-assoc false b c = refl

or-true : (a b : Bool) → a ≡ true → (a || b) ≡ true
or-true true b e = refl
or-true false b e = absurd (cc e)

or-none : (a b : Bool) → (a || b) ≡ false → (a ≡ false) × (b ≡ false)
or-none true b e = absurd (cc e)
or-none false b e = (refl, e)

pub past-front : (t : ℤ) (xs ys : List Packet) → any_past t xs ≡ true → any_past t (xs ++ ys) ≡ true
past-front t [] ys e = absurd (cc e)
past-front t (x ∷ xs) ys e =
    elim (int_le x.time t) as (λ b. (not b || any_past t xs) ≡ true → (not b || any_past t (xs ++ ys)) ≡ true) [ true ↦ λ h. past-front t xs ys h | false ↦ λ h. refl ] e

-- the last at a time or before it, or none
abbrev pub IsUpto : ℤ → Option Packet → Type 0
IsUpto t o = IfSome o (λ p. int_le p.time t ≡ true)

le-before : (x y t : ℤ) → x <ℤ y → int_le y t ≡ true → int_le x t ≡ true
le-before x y t less le = grind arith

not-false : (b : Bool) → not b ≡ false → b ≡ true
not-false true e = refl
not-false false e = absurd (cc e)

-- where the last is not past a time, none is
pub none-past : (t : ℤ) (xs : List Packet) → TimesRise xs → IsUpto t (last xs) → any_past t xs ≡ false
none-past t [] rise upto = refl
none-past t (x ∷ []) rise upto = rw upto refl
none-past t (x ∷ y ∷ ys) rise upto =
    let same : last (y ∷ ys) ≡ last (x ∷ y ∷ ys) = last-behind x y ys in
    let rest : any_past t (y ∷ ys) ≡ false = none-past t (y ∷ ys) rise.1 (subst (IsUpto t) (sym same) upto) in
    let at : int_le y.time t ≡ true = not-false (int_le y.time t) (or-none (not (int_le y.time t)) (any_past t ys) rest).0 in
    let le : int_le x.time t ≡ true = le-before x.time y.time t rise.0.0 at in
    rw (le, rest) refl
  where
    some-behind : (o : Option Packet) (x y : Packet) → or_else o (Some y) ≡ or_else (or_else o (Some y)) (Some x)
    some-behind None x y = refl
    some-behind (Some z) x y = refl

    last-behind : (x y : Packet) (ys : List Packet) → last (y ∷ ys) ≡ last (x ∷ y ∷ ys)
    last-behind x y ys = some-behind (last ys) x y

-- ---- in short

pub upto-point : (plan : Plan) (t : ℤ) (o : Option Packet) (p : Option Point) → p ≡ option_map (point_of plan) o → is_upto t p ≡ true → IsUpto t o
upto-point plan t None p e upto = tt
upto-point plan t (Some q) p e upto = rw e at upto

pub past-point : (plan : Plan) (t : ℤ) (o : Option Packet) (p : Point) → Some p ≡ option_map (point_of plan) o → int_le p.time t ≡ false → IfSome o (λ q. int_le q.time t ≡ false)
past-point plan t None p e past = tt
past-point plan t (Some q) p e past = let same : p ≡ point_of plan q = cc e in rw same at past
