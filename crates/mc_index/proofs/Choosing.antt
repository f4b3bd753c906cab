-- Which sync point a seek asks for, by those next to its time.
use Rattle.std.proofs.Common.{◌≡◌, ℕ, Bool, true, false, List, [], ◌∷◌, ◌++◌, Option, Some, None, ℤ, refl, sym, ap, subst, ◌∙◌, arith}
use Rattle.std.specs.Prelude.{not, ◌||◌, ◌<ℤ◌, int_le, IfSome, if◌then◌else◌}
use Rattle.std.specs.Option.{option_map}
use Rattle.mc_packet.specs.declared.choice.Dir.{Dir}
use Rattle.mc_packet.specs.declared.choice.Dir.TheVariants.{Back, Forward}
use Rattle.mc_walk.specs.declared.plan.Plan.{Plan}
use Rattle.mc_packet.specs.Choices.{or_else}
use Rattle.mc_journal.specs.Films.{TimesRise, first, last, last_upto, first_from, sync_for, track_sync, time_or}
use Rattle.mc_packet.specs.declared.packet.Packet.{Packet}
use Rattle.mc_index.specs.declared.entry.Point.{Point}
use Rattle.mc_index.specs.declared.search.Around.{Around}
use Rattle.mc_index.specs.Answers.{IsAround}
use Rattle.mc_index.specs.Fronts.{any_past, film_points}
use Rattle.mc_index.specs.Scans.{point_of}
use Rattle.mc_index.specs.Searches.{IsNear, Rises, chosen, point_time}
use Rattle.mc_index.proofs.Timing.{rise-front, rise-back, none-past, IsUpto}

abbrev IsPast : ℤ → Option Packet → Type 0
IsPast t o = IfSome o (λ p. int_le p.time t ≡ false)

-- ---- lists

or_else-none : {A : Type 0} (o : Option A) → or_else o None ≡ o
or_else-none None = refl
or_else-none (Some x) = refl

or_else-assoc : {A : Type 0} (a b c : Option A) → or_else (or_else a b) c ≡ or_else a (or_else b c)
or_else-assoc None b c = refl
or_else-assoc (Some x) b c = refl

upto-append : (t : ℤ) (xs ys : List Packet) → last_upto t (xs ++ ys) ≡ or_else (last_upto t ys) (last_upto t xs)
upto-append t [] ys = sym (or_else-none (last_upto t ys))
upto-append t (x ∷ xs) ys =
    let here : Option Packet = if int_le x.time t then Some x else None in
    ap (λ o. or_else o here) (upto-append t xs ys) ∙ or_else-assoc (last_upto t ys) (last_upto t xs) here

from-append : (t : ℤ) (xs ys : List Packet) → first_from t (xs ++ ys) ≡ or_else (first_from t xs) (first_from t ys)
from-append t [] ys = refl
from-append t (x ∷ xs) ys =
    elim (int_le t x.time) as (λ b. (if b then Some x else first_from t (xs ++ ys)) ≡ or_else (if b then Some x else first_from t xs) (first_from t ys))
    [ true ↦ refl | false ↦ from-append t xs ys ]

last-append : (xs ys : List Packet) → last (xs ++ ys) ≡ or_else (last ys) (last xs)
last-append [] ys = sym (or_else-none (last ys))
last-append (x ∷ xs) ys = ap (λ o. or_else o (Some x)) (last-append xs ys) ∙ or_else-assoc (last ys) (last xs) (Some x)

first-append : (xs ys : List Packet) → first (xs ++ ys) ≡ or_else (first xs) (first ys)
first-append [] ys = refl
first-append (x ∷ xs) ys = refl

-- ---- times

le-least : (x y t : ℤ) → x <ℤ y → int_le x t ≡ false → int_le y t ≡ false
le-least x y t less past = grind arith

past-le : (x t : ℤ) → int_le x t ≡ false → int_le t x ≡ true
past-le x t past = grind arith

before-not : (x y t : ℤ) → x <ℤ y → int_le y t ≡ true → int_le t x ≡ false
before-not x y t less le = grind arith

or-none : (a b : Bool) → (a || b) ≡ false → (a ≡ false) × (b ≡ false)
or-none true b e = absurd (cc e)
or-none false b e = (refl, e)

not-false : (b : Bool) → not b ≡ false → b ≡ true
not-false true e = refl
not-false false e = absurd (cc e)

-- where none is past the time, the last at it or before it is the last
last-whole : (t : ℤ) (xs : List Packet) → any_past t xs ≡ false → last_upto t xs ≡ last xs
last-whole t [] none = refl
last-whole t (x ∷ xs) none =
    let both = or-none (not (int_le x.time t)) (any_past t xs) none in
    let le : int_le x.time t ≡ true = not-false (int_le x.time t) both.0 in
    rw (le, last-whole t xs both.1) refl

-- where the first is past it, none is at it or before it
none-upto : (t : ℤ) (ys : List Packet) → TimesRise ys → IsPast t (first ys) → last_upto t ys ≡ None
none-upto t [] rise past = refl
none-upto t (y ∷ []) rise past = rw past refl
none-upto t (y ∷ z ∷ zs) rise past =
    let next : int_le z.time t ≡ false = le-least y.time z.time t rise.0.0 past in
    let none = none-upto t (z ∷ zs) rise.1 next in
    rw (none, past) refl

abbrev is_told_at : ℤ → Option Packet → Bool
is_told_at t None = false
is_told_at t (Some p) = int_le t p.time

-- only the last of those that are not past it can be at it
from-last : (t : ℤ) (xs : List Packet) → TimesRise xs → IsUpto t (last xs) → first_from t xs ≡ (if is_told_at t (last xs) then last xs else None)
from-last t [] rise upto = refl
from-last t (x ∷ []) rise upto = refl
from-last t (x ∷ y ∷ ys) rise upto =
    let same : last (y ∷ ys) ≡ last (x ∷ y ∷ ys) = some-behind (last ys) x y in
    let upto' = subst (IsUpto t) (sym same) upto in
    let none : any_past t (y ∷ ys) ≡ false = none-past t (y ∷ ys) rise.1 upto' in
    let le : int_le y.time t ≡ true = not-false (int_le y.time t) (or-none (not (int_le y.time t)) (any_past t ys) none).0 in
    let off : int_le t x.time ≡ false = before-not x.time y.time t rise.0.0 le in
    let on : first_from t (x ∷ y ∷ ys) ≡ first_from t (y ∷ ys) = rw off refl in
    on ∙ from-last t (y ∷ ys) rise.1 upto' ∙ ap (λ (o : Option Packet). if is_told_at t o then o else None) same
  where
    some-behind : (o : Option Packet) (x y : Packet) → or_else o (Some y) ≡ or_else (or_else o (Some y)) (Some x)
    some-behind None x y = refl
    some-behind (Some z) x y = refl

from-first : (t : ℤ) (ys : List Packet) → IsPast t (first ys) → first_from t ys ≡ first ys
from-first t [] past = refl
from-first t (y ∷ ys) past = let at : int_le t y.time ≡ true = past-le y.time t past in rw at refl

-- ---- both directions

-- where two runs meet at the time
abbrev told_for : Dir → ℤ → Option Packet → Option Packet → Option Packet
told_for Back t before after = or_else before after
told_for Forward t before after = if is_told_at t before then before else or_else after before

last-or_first : (xs : List Packet) (o : Option Packet) → or_else (last xs) o ≡ or_else (last xs) (or_else (first xs) o)
last-or_first [] o = refl
last-or_first (x ∷ xs) o = some-last (last xs) x o
  where
    some-last : (p : Option Packet) (x : Packet) (o : Option Packet) → or_else (or_else p (Some x)) o ≡ or_else (or_else p (Some x)) (Some x)
    some-last None x o = refl
    some-last (Some z) x o = refl

first-or_last : (ys : List Packet) (o : Option Packet) → or_else (first ys) o ≡ or_else (first ys) (or_else (last ys) o)
first-or_last [] o = refl
first-or_last (y ∷ ys) o = refl

at-cases : (t : ℤ) (o f l : Option Packet) → or_else (or_else (if is_told_at t o then o else None) f) l ≡ (if is_told_at t o then o else or_else f l)
at-cases t None f l = refl
at-cases t (Some p) f l =
    elim (int_le t p.time) as (λ b. or_else (or_else (if b then Some p else None) f) l ≡ (if b then Some p else or_else f l)) [ true ↦ refl | false ↦ refl ]

pub sync-by : (dir : Dir) (t : ℤ) (xs ys : List Packet) → TimesRise (xs ++ ys) → IsUpto t (last xs) → IsPast t (first ys)
    → sync_for dir t (xs ++ ys) ≡ told_for dir t (last xs) (first ys)
sync-by Back t xs ys rise upto past =
    let rise' = rise-front xs ys rise in
    let none = none-upto t ys (rise-back xs ys rise) past in
    let all = last-whole t xs (none-past t xs rise' upto) in
    let before : last_upto t (xs ++ ys) ≡ last xs = upto-append t xs ys ∙ ap (λ o. or_else o (last_upto t xs)) none ∙ all in
    ap (λ o. or_else o (first (xs ++ ys))) before ∙ ap (or_else (last xs)) (first-append xs ys) ∙ sym (last-or_first xs (first ys))
sync-by Forward t xs ys rise upto past =
    let rise' = rise-front xs ys rise in
    let from : first_from t (xs ++ ys) ≡ or_else (if is_told_at t (last xs) then last xs else None) (first ys) =
    from-append t xs ys ∙ ap (λ o. or_else o (first_from t ys)) (from-last t xs rise' upto) ∙ ap (or_else (if is_told_at t (last xs) then last xs else None)) (from-first t ys past) in
    ap (λ o. or_else o (last (xs ++ ys))) from ∙ at-cases t (last xs) (first ys) (last (xs ++ ys))
    ∙ ap (λ (o : Option Packet). if is_told_at t (last xs) then last xs else o) (ap (or_else (first ys)) (last-append xs ys) ∙ sym (first-or_last ys (last xs)))

-- ---- in short

map-or_else : {A B : Type 0} (f : A → B) (a b : Option A) → option_map f (or_else a b) ≡ or_else (option_map f a) (option_map f b)
map-or_else f None b = refl
map-or_else f (Some x) b = refl

chosen-told : (plan : Plan) (dir : Dir) (t : ℤ) (before after : Option Packet)
    → chosen dir t (record { before = option_map (point_of plan) before; after = option_map (point_of plan) after }) ≡ option_map (point_of plan) (told_for dir t before after)
chosen-told plan Back t before after = sym (map-or_else (point_of plan) before after)
chosen-told plan Forward t None after = sym (map-or_else (point_of plan) after None)
chosen-told plan Forward t (Some p) after =
    elim (int_le t p.time) as (λ b. (if b then Some (point_of plan p) else or_else (option_map (point_of plan) after) (Some (point_of plan p)))
    ≡ option_map (point_of plan) (if b then Some p else or_else after (Some p)))
    [ true ↦ refl | false ↦ sym (map-or_else (point_of plan) after (Some p)) ]

around-is : (a : Around) (before after : Option Point) → a.before ≡ before → a.after ≡ after → a ≡ record { before = before; after = after }
around-is a before after e f =
    ap (λ (p : Option Point). let x : Around = record { before = p; after = a.after } in x) e ∙ ap (λ (p : Option Point). let x : Around = record { before = before; after = p } in x) f

-- by the sync points next to a time, the one that a seek asks for
pub around-chosen : (plan : Plan) (track : ℕ) (dir : Dir) (t : ℤ) (a : Around) → IsAround plan track t a → TimesRise (film_points plan track)
    → chosen dir t a ≡ option_map (point_of plan) (sync_for dir t (film_points plan track))
around-chosen plan track dir t a around rise =
    let rise' = subst TimesRise around.whole rise in
    let same = around-is a (option_map (point_of plan) (last around.earlier)) (option_map (point_of plan) (first around.later)) around.before around.after in
    ap (chosen dir t) same ∙ chosen-told plan dir t (last around.earlier) (first around.later)
    ∙ ap (option_map (point_of plan)) (sym (sync-by dir t around.earlier around.later rise' around.upto around.past))
    ∙ ap (λ ts. option_map (point_of plan) (sync_for dir t ts)) (sym around.whole)

pub near-chosen : (plan : Plan) (track : Option ℕ) (dir : Dir) (t : ℤ) (a : Around) → IsNear plan track t a → Rises plan track
    → chosen dir t a ≡ option_map (point_of plan) (track_sync (film_points plan) dir t track)
near-chosen plan None Back t a near rise = ap (chosen Back t) near
near-chosen plan None Forward t a near rise = ap (chosen Forward t) near
near-chosen plan (Some track) dir t a near rise = around-chosen plan track dir t a near rise

-- the last one at the time or before it
pub near-before : (plan : Plan) (track : ℕ) (t : ℤ) (a : Around) → IsAround plan track t a → TimesRise (film_points plan track)
    → a.before ≡ option_map (point_of plan) (last_upto t (film_points plan track))
near-before plan track t a around rise =
    let rise' = subst TimesRise around.whole rise in
    let none = none-upto t around.later (rise-back around.earlier around.later rise') around.past in
    let all = last-whole t around.earlier (none-past t around.earlier (rise-front around.earlier around.later rise') around.upto) in
    let upto : last_upto t (around.earlier ++ around.later) ≡ last around.earlier =
    upto-append t around.earlier around.later ∙ ap (λ o. or_else o (last_upto t around.earlier)) none ∙ all in
    around.before ∙ ap (option_map (point_of plan)) (sym upto ∙ ap (last_upto t) (sym around.whole))

pub time-of : (plan : Plan) (t : ℤ) (o : Option Packet) (p : Option Point) → p ≡ option_map (point_of plan) o → point_time t p ≡ time_or t o
time-of plan t None p e = ap (point_time t) e
time-of plan t (Some q) p e = ap (point_time t) e
