-- Each step leaves a list, and so do any steps, one after the other.
use Rattle.std.proofs.Common.{◌≡◌, ◌∙◌, ℕ, zero, suc, ◌+◌, ◌-◌, ◌<◌, ◌≤◌, ◌^◌, min, Bool, true, false, cond, List, [], ◌∷◌, ◌++◌, length, map, filter, Option, Some, None, Result, Ok, Err, refl, ap, sym, subst, arith, length-append}
use Rattle.std.specs.Prelude.{nat_lt, nat_le, ◌==◌, IfSome, fold, remove, slice_get}
use Rattle.std.proofs.lemmas.Bool.Decides.{nat_tests}
use Rattle.std.proofs.lemmas.List.Edits.{length-insert, length-remove}
use Rattle.std.proofs.lemmas.Option.{slice_get-get_or}
use Rattle.mc_playlist.specs.Law.{Done, KeepsLaw, Runs, after, steps_of, was_done}
use Rattle.mc_playlist.specs.Records.{left_by}
use Rattle.mc_playlist.specs.Steps.{IsList, Steps, alone, cleared, count, empty_list, kept_place, moved, next_place, place_before, place_moved, place_without, placed, played, pos_moved, pos_without, put_in, removed, reordered, stepped, with_names}
use Rattle.mc_playlist.specs.declared.facts.ListFacts.{ListFacts}
use Rattle.mc_playlist.specs.declared.steps.ListStep.{ListStep}
use Rattle.mc_playlist.specs.declared.steps.ListStep.TheVariants.{Add, Remove, Move, Clear, Next, Prev, Jump, Played}
use Rattle.mc_playlist.specs.declared.steps.ListError.{ListError}
use Rattle.mc_playlist.specs.declared.steps.ListError.TheVariants as errors

-- ---- names

pub place_in : (i j n m : ℕ) → i < n → j ≤ n → m + 1 ≡ n → place_without i j ≤ m
place_in i j n m lt le e = by_test (nat_lt i j) refl
  where
    by_test : (b : Bool) → nat_lt i j ≡ b → cond b (j - 1) j ≤ m
    by_test true is = grind (arith, nat_tests)
    by_test false is = grind (arith, nat_tests)

pub length_moved : (i j : ℕ) (names : List (List ℕ)) → i < length names → j ≤ length names → length (moved i j names) ≡ length names
length_moved i j names lt le =
    let one : length (remove names i) + 1 ≡ length names = length-remove names i lt in
    let to : place_without i j ≤ length (remove names i) = place_in i j (length names) (length (remove names i)) lt le one in
    rw (slice_get-get_or names i [] lt) (length-insert (remove names i) (place_without i j) _ to ∙ one)

pub length_alone : (p : ℕ) (names : List (List ℕ)) → p < length names → length (alone p names) ≡ 1
length_alone p names lt = rw (slice_get-get_or names p [] lt) refl

-- ---- places

pub kept_inside : (n m p : ℕ) → n ≤ m → IfSome (kept_place n p) (λ q. q < m)
kept_inside n m p le = by_test (nat_lt p n) refl
  where
    by_test : (b : Bool) → nat_lt p n ≡ b → IfSome (cond b (Some p) None) (λ q. q < m)
    by_test true is = grind (arith, nat_tests)
    by_test false is = tt

inside_more : (o : Option ℕ) (n m : ℕ) → n ≤ m → IfSome o (λ p. p < n) → IfSome o (λ p. p < m)
inside_more None n m le h = tt
inside_more (Some p) n m le h = omega arith

without_inside : (i n m : ℕ) (o : Option ℕ) → i < n → m + 1 ≡ n → IfSome o (λ p. p < n) → IfSome (pos_without i n o) (λ p. p < m)
without_inside i n m None lt e h = tt
without_inside i n m (Some p) lt e h = by_tests (nat_lt i p) (i == p) refl refl
  where
    by_tests : (b d : Bool) → nat_lt i p ≡ b → (i == p) ≡ d → IfSome (cond b (Some (p - 1)) (cond d (kept_place (n - 1) p) (Some p))) (λ q. q < m)
    by_tests true d is is' = grind (arith, nat_tests)
    by_tests false true is is' = kept_inside (n - 1) m p (omega arith)
    by_tests false false is is' = grind (arith, nat_tests)

moved_at : (i j n p : ℕ) → i < n → j ≤ n → p < n → place_moved i j p < n
moved_at i j n p lt le h = by_tests (i == p) (nat_lt i j) (nat_lt i p) refl refl refl
  where
    shifted : (k q : ℕ) (b : Bool) → nat_le k q ≡ b → k ≤ n - 1 → q < n → (k ≤ q → q + 1 < n) → cond b (q + 1) q < n
    shifted k q true is small less more = grind (arith, nat_tests)
    shifted k q false is small less more = less

    by_tests : (a b d : Bool) → (i == p) ≡ a → nat_lt i j ≡ b → nat_lt i p ≡ d
        → cond a (cond b (j - 1) j) (cond (nat_le (cond b (j - 1) j) (cond d (p - 1) p)) (cond d (p - 1) p + 1) (cond d (p - 1) p)) < n
    by_tests true true d is is' is'' = grind (arith, nat_tests)
    by_tests true false d is is' is'' = grind (arith, nat_tests)
    by_tests false true true is is' is'' = shifted (j - 1) (p - 1) _ refl (grind (arith, nat_tests)) (grind (arith, nat_tests)) (λ le. grind (arith, nat_tests))
    by_tests false true false is is' is'' = shifted (j - 1) p _ refl (grind (arith, nat_tests)) (grind (arith, nat_tests)) (λ le. grind (arith, nat_tests))
    by_tests false false true is is' is'' = shifted j (p - 1) _ refl (grind (arith, nat_tests)) (grind (arith, nat_tests)) (λ le. grind (arith, nat_tests))
    by_tests false false false is is' is'' = shifted j p _ refl (grind (arith, nat_tests)) (grind (arith, nat_tests)) (λ le. grind (arith, nat_tests))

moved_inside : (i j n : ℕ) (o : Option ℕ) → i < n → j ≤ n → IfSome o (λ p. p < n) → IfSome (pos_moved i j o) (λ p. p < n)
moved_inside i j n None lt le h = tt
moved_inside i j n (Some p) lt le h = moved_at i j n p lt le h

before_inside : (o : Option ℕ) (n : ℕ) → IfSome o (λ p. p < n) → IfSome (place_before o) (λ p. p < n)
before_inside None n h = tt
before_inside (Some zero) n h = tt
before_inside (Some (suc p)) n h = omega arith

-- ---- lists

inner : (f g : ListFacts) → ◌≡◌ {A = Result ListFacts ListError} (Ok f) (Ok g) → f ≡ g
inner f g e = cc

-- a list comes of a test that passed
of_test : (b : Bool) (x f' : ListFacts) (e : ListError) → (b ≡ true → IsList x) → cond b (Ok x) (Err e) ≡ Ok f' → IsList f'
of_test true x f' e list is = subst IsList (inner x f' is) (list refl)
of_test false x f' e list is = absurd (cc)

of_placed : (o : Option ℕ) (wanted : ℕ) (f f' : ListFacts) → IsList f → IfSome o (λ p. p < length f.names) → placed o wanted f ≡ Ok f' → IsList f'
of_placed None wanted f f' list inside is = absurd (cc)
of_placed (Some p) wanted f f' list inside is =
    subst IsList (inner (with_names f f.names (Some p)) f' is) (record { few = list.few; inside = inside })

of_cleared : (o : Option ℕ) (f : ListFacts) → IfSome o (λ p. p < length f.names) → IsList (cleared o f)
of_cleared None f inside = record { few = omega arith; inside = tt }
of_cleared (Some p) f inside =
    let one : length (alone p f.names) ≡ 1 = length_alone p f.names inside in
    record { few = omega arith; inside = omega arith }

of_played : (o : Option ℕ) (f f' : ListFacts) → IsList f → played o f ≡ Ok f' → IsList f'
of_played None f f' list is = absurd (cc)
of_played (Some p) f f' list is =
    let after : ListFacts = record { names = f.names; pos = kept_place (count f) (p + 1); plays = min (f.plays + 1) (2 ^ 32 - 1) } in
    subst IsList (inner after f' is) (record { few = list.few; inside = kept_inside (count f) (count f) (p + 1) (omega arith) })

added : (name : List ℕ) (f : ListFacts) → IsList f → nat_lt (count f) 10000 ≡ true → IsList (with_names f (f.names ++ name ∷ []) f.pos)
added name f list is =
    let more : length (f.names ++ name ∷ []) ≡ length f.names + 1 = length-append f.names (name ∷ []) in
    let few : length f.names < 10000 = grind (arith, nat_tests) in
    record { few = omega arith; inside = inside_more f.pos (length f.names) (length (f.names ++ name ∷ [])) (omega arith) list.inside }

of_removed : (i : ℕ) (f : ListFacts) → IsList f → nat_lt i (count f) ≡ true → IsList (removed i f)
of_removed i f list is =
    let lt : i < length f.names = grind (arith, nat_tests) in
    let one : length (remove f.names i) + 1 ≡ length f.names = length-remove f.names i lt in
    let most : length f.names ≤ 10000 = list.few in
    record { few = omega (arith, most, one); inside = without_inside i (length f.names) (length (remove f.names i)) f.pos lt one list.inside }

of_reordered : (i j : ℕ) (f : ListFacts) → IsList f → nat_lt i (count f) ≡ true → nat_le j (count f) ≡ true → IsList (reordered i j f)
of_reordered i j f list is is' =
    let lt : i < length f.names = grind (arith, nat_tests) in
    let le : j ≤ length f.names = grind (arith, nat_tests) in
    let same : length (moved i j f.names) ≡ length f.names = length_moved i j f.names lt le in
    record {
      few = subst (λ n. n ≤ 10000) (sym same) list.few;
      inside = subst (λ n. IfSome (pos_moved i j f.pos) (λ p. p < n)) (sym same) (moved_inside i j (length f.names) f.pos lt le list.inside);
    }

of_move : (i j : ℕ) (f f' : ListFacts) (a b : Bool) → nat_lt i (count f) ≡ a → nat_le j (count f) ≡ b → IsList f
    → cond a (cond b (Ok (reordered i j f)) (Err (errors.NoEntry j (count f)))) (Err (errors.NoEntry i (count f))) ≡ Ok f' → IsList f'
of_move i j f f' true true is is' list e = subst IsList (inner (reordered i j f) f' e) (of_reordered i j f list is is')
of_move i j f f' true false is is' list e = absurd (cc)
of_move i j f f' false b is is' list e = absurd (cc)

pub keeps_list : (step : ListStep) (f f' : ListFacts) → IsList f → stepped step f ≡ Ok f' → IsList f'
keeps_list (Add name) f f' list e = of_test (nat_lt (count f) 10000) (with_names f (f.names ++ name ∷ []) f.pos) f' errors.TooMany (added name f list) e
keeps_list (Remove i) f f' list e = of_test (nat_lt i (count f)) (removed i f) f' (errors.NoEntry i (count f)) (of_removed i f list) e
keeps_list (Move i j) f f' list e = of_move i j f f' (nat_lt i (count f)) (nat_le j (count f)) refl refl list e
keeps_list Clear f f' list e = subst IsList (inner (cleared f.pos f) f' e) (of_cleared f.pos f list.inside)
keeps_list Next f f' list e = of_placed (kept_place (count f) (next_place f.pos)) (next_place f.pos) f f' list (kept_inside (count f) (count f) (next_place f.pos) (omega arith)) e
keeps_list Prev f f' list e = of_placed (place_before f.pos) 0 f f' list (before_inside f.pos (count f) list.inside) e
keeps_list (Jump i) f f' list e = of_placed (kept_place (count f) i) i f f' list (kept_inside (count f) (count f) i (omega arith)) e
keeps_list Played f f' list e = of_played f.pos f f' list e

-- ---- any steps

-- one step that was done, and then what it leaves
one_done : (step : ListStep) (f g : ListFacts) (answer : Result (Unit {0}) ListError) → IsList f → Steps step f g answer
    → was_done answer ≡ true → (g ≡ after f step) × IsList g
one_done step f g (Ok done) list s is = (sym (ap (λ (r : Result ListFacts ListError). left_by r f) s), keeps_list step f g list s)
one_done step f g (Err errors.NotFound) list s is = (s.1 ∙ sym (ap (λ (r : Result ListFacts ListError). left_by r f) s.0), subst IsList (sym s.1) list)
one_done step f g (Err (errors.NoEntry i n)) list s is = (s.1 ∙ sym (ap (λ (r : Result ListFacts ListError). left_by r f) s.0), subst IsList (sym s.1) list)
one_done step f g (Err errors.TooMany) list s is = (s.1 ∙ sym (ap (λ (r : Result ListFacts ListError). left_by r f) s.0), subst IsList (sym s.1) list)
one_done step f g (Err errors.TooLong) list s is = (s.1 ∙ sym (ap (λ (r : Result ListFacts ListError). left_by r f) s.0), subst IsList (sym s.1) list)
one_done step f g (Err errors.NotUtf8) list s is = (s.1 ∙ sym (ap (λ (r : Result ListFacts ListError). left_by r f) s.0), subst IsList (sym s.1) list)
one_done step f g (Err (errors.BadLine n)) list s is = (s.1 ∙ sym (ap (λ (r : Result ListFacts ListError). left_by r f) s.0), subst IsList (sym s.1) list)
one_done step f g (Err errors.NoMemory) list s is = absurd (cc)

not_done : (step : ListStep) (f g : ListFacts) (answer : Result (Unit {0}) ListError) → Steps step f g answer → was_done answer ≡ false → g ≡ f
not_done step f g (Ok done) s is = absurd (cc)
not_done step f g (Err errors.NotFound) s is = absurd (cc)
not_done step f g (Err (errors.NoEntry i n)) s is = absurd (cc)
not_done step f g (Err errors.TooMany) s is = absurd (cc)
not_done step f g (Err errors.TooLong) s is = absurd (cc)
not_done step f g (Err errors.NotUtf8) s is = absurd (cc)
not_done step f g (Err (errors.BadLine n)) s is = absurd (cc)
not_done step f g (Err errors.NoMemory) s is = s.1

Folds : ListFacts → List Done → ListFacts → Type 0
Folds f ds f' = (f' ≡ fold after f (steps_of ds)) × IsList f'

runs_on : (step : ListStep) (answer : Result (Unit {0}) ListError) (ds : List Done) (f g f' : ListFacts) (b : Bool) → was_done answer ≡ b → IsList f
    → Steps step f g answer → ((h : ListFacts) → IsList h → Runs h ds f' → Folds h ds f') → Runs g ds f'
    → (f' ≡ fold after f (map (λ (d : Done). d.0) (cond b ((step, answer) ∷ filter (λ (d : Done). was_done d.1) ds) (filter (λ (d : Done). was_done d.1) ds)))) × IsList f'
unfolding Folds
runs_on step answer ds f g f' true is list s more runs =
    let one = one_done step f g answer list s is in
    let rest : Folds g ds f' = more g one.1 runs in
    (rest.0 ∙ ap (λ (x : ListFacts). fold after x (steps_of ds)) one.0, rest.1)
runs_on step answer ds f g f' false is list s more runs =
    let same : g ≡ f = not_done step f g answer s is in
    more f list (subst (λ (x : ListFacts). Runs x ds f') same runs)

folds : (ds : List Done) (f f' : ListFacts) → IsList f → Runs f ds f' → Folds f ds f'
unfolding Folds
folds [] f f' list runs = (runs, subst IsList (sym runs) list)
folds ((step, answer) ∷ ds) f f' list (g, s, runs) =
    runs_on step answer ds f g f' (was_done answer) refl list s (λ h is r. folds ds h f' is r) runs

empty_is_list : IsList empty_list
empty_is_list = record { few = omega arith; inside = tt }

pub keeps_law : (f : ListFacts) → f ≡ empty_list → KeepsLaw f
unfolding Folds
keeps_law f e = λ ds f' runs. folds ds f f' (subst IsList (sym e) empty_is_list) runs
