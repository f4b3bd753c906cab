-- Which entry the list's place is that of: steps that change the names keep it.
use Rattle.std.proofs.Common.{◌≡◌, ◌∙◌, ℕ, ◌+◌, ◌-◌, ◌<◌, ◌≤◌, ◌^◌, min, Bool, true, false, cond, List, [], ◌∷◌, ◌++◌, length, get_or, Option, Some, None, Result, Ok, Err, refl, ap, sym, subst, arith, length-append}
use Rattle.std.specs.Prelude.{nat_lt, nat_le, ◌==◌, IfSome, insert, remove, slice_get}
use Rattle.std.proofs.lemmas.Bool.Decides.{nat_tests}
use Rattle.std.proofs.lemmas.Bool.{eqb-false, eqb-true}
use Rattle.std.proofs.lemmas.List.{get_or_append_left}
use Rattle.std.proofs.lemmas.List.Edits.{get_or-insert_above, get_or-insert_at, get_or-insert_below, get_or-remove_above, get_or-remove_below, length-insert, length-remove}
use Rattle.std.proofs.lemmas.Option.{slice_get-get_or}
use Rattle.mc_playlist.specs.Law.{KeepsEntry, entry_at, entry_now}
use Rattle.mc_playlist.specs.Steps.{IsList, Steps, cleared, count, kept_place, moved, next_place, place_before, place_moved, place_without, placed, played, pos_moved, pos_without, removed, reordered, stepped, with_names}
use Rattle.mc_playlist.specs.declared.facts.ListFacts.{ListFacts}
use Rattle.mc_playlist.specs.declared.steps.ListStep.{ListStep}
use Rattle.mc_playlist.specs.declared.steps.ListStep.TheVariants.{Add, Remove, Move, Clear, Next, Prev, Jump, Played}
use Rattle.mc_playlist.specs.declared.steps.ListError.{ListError}
use Rattle.mc_playlist.specs.declared.steps.ListError.TheVariants as errors
use Rattle.mc_playlist.proofs.Lists.{place_in}

-- what stood at a place stands where that is without entry I
without_same : (i p : ℕ) (names : List (List ℕ)) → i < length names → p < length names → (i ≡ p → ⊥)
    → get_or (remove names i) (place_without i p) [] ≡ get_or names p []
without_same i p names lt inside apart = by_test (nat_lt i p) refl
  where
    by_test : (b : Bool) → nat_lt i p ≡ b → get_or (remove names i) (cond b (p - 1) p) [] ≡ get_or names p []
    by_test true is =
        let less : i < p = grind (arith, nat_tests) in
        let same : p - 1 + 1 ≡ p = omega arith in
        get_or-remove_above names i [] (p - 1) (omega arith) lt ∙ ap (λ n. get_or names n []) same
    by_test false is =
        let more : p ≤ i = grind (arith, nat_tests) in
        let less : p < i = omega (arith, apart) in
        get_or-remove_below names i [] p less lt

-- what stood at a place stands one further where an entry is put in before it
put_same : (ys : List (List ℕ)) (k q : ℕ) (x : List ℕ) → k ≤ length ys
    → get_or (insert ys k x) (cond (nat_le k q) (q + 1) q) [] ≡ get_or ys q []
put_same ys k q x le = by_test (nat_le k q) refl
  where
    by_test : (b : Bool) → nat_le k q ≡ b → get_or (insert ys k x) (cond b (q + 1) q) [] ≡ get_or ys q []
    by_test true is = let more : k ≤ q = grind (arith, nat_tests) in get_or-insert_above ys k x [] q more le
    by_test false is = let less : q < k = grind (arith, nat_tests) in get_or-insert_below ys k x [] q less le

place_kept : (i p n m : ℕ) → i < n → p < n → m + 1 ≡ n → (i ≡ p → ⊥) → place_without i p < m
place_kept i p n m lt inside e apart = by_test (nat_lt i p) refl
  where
    by_test : (b : Bool) → nat_lt i p ≡ b → cond b (p - 1) p < m
    by_test true is = grind (arith, nat_tests)
    by_test false is =
        let more : p ≤ i = grind (arith, nat_tests) in
        let less : p < i = omega (arith, apart) in omega (arith, less, lt, e)

put_inside : (k q m : ℕ) → q < m → cond (nat_le k q) (q + 1) q < m + 1
put_inside k q m lt = by_test (nat_le k q)
  where
    by_test : (b : Bool) → cond b (q + 1) q < m + 1
    by_test true = omega arith
    by_test false = omega arith

pub moved_same : (i j p : ℕ) (names : List (List ℕ)) → i < length names → j ≤ length names → p < length names
    → slice_get (moved i j names) (place_moved i j p) ≡ slice_get names p
moved_same i j p names lt le inside = rw (slice_get-get_or names i [] lt) (by_test (i == p) refl)
  where
    one : length (remove names i) + 1 ≡ length names
    one = length-remove names i lt

    to : place_without i j ≤ length (remove names i)
    to = place_in i j (length names) (length (remove names i)) lt le one

    long : length (insert (remove names i) (place_without i j) (get_or names i [])) ≡ length (remove names i) + 1
    long = length-insert (remove names i) (place_without i j) (get_or names i []) to

    by_test : (b : Bool) → (i == p) ≡ b → slice_get (insert (remove names i) (place_without i j) (get_or names i []))
        (cond b (place_without i j) (cond (nat_le (place_without i j) (place_without i p)) (place_without i p + 1) (place_without i p))) ≡ slice_get names p
    by_test true is =
        let same : i ≡ p = eqb-true i p is in
        slice_get-get_or (insert (remove names i) (place_without i j) (get_or names i [])) (place_without i j) [] (omega (arith, to, long))
        ∙ ap (λ (y : List ℕ). Some y) (get_or-insert_at (remove names i) (place_without i j) (get_or names i []) [] to ∙ ap (λ n. get_or names n []) same)
        ∙ sym (slice_get-get_or names p [] inside)
    by_test false is =
        let apart : i ≡ p → ⊥ = eqb-false i p is in
        let kept : place_without i p < length (remove names i) = place_kept i p (length names) (length (remove names i)) lt inside one apart in
        let there : cond (nat_le (place_without i j) (place_without i p)) (place_without i p + 1) (place_without i p) < length (remove names i) + 1 =
        put_inside (place_without i j) (place_without i p) (length (remove names i)) kept in
        slice_get-get_or (insert (remove names i) (place_without i j) (get_or names i [])) (cond (nat_le (place_without i j) (place_without i p)) (place_without i p + 1) (place_without i p)) []
        (omega (arith, there, long))
        ∙ ap (λ (y : List ℕ). Some y) (put_same (remove names i) (place_without i j) (place_without i p) (get_or names i []) to ∙ without_same i p names lt inside apart)
        ∙ sym (slice_get-get_or names p [] inside)

-- ---- the entry of the list's place

inner : (f g : ListFacts) → ◌≡◌ {A = Result ListFacts ListError} (Ok f) (Ok g) → f ≡ g
inner f g e = cc

within : (names : List (List ℕ)) (p q : ℕ) (ms : List (List ℕ)) → p < length names → q < length ms → get_or ms q [] ≡ get_or names p [] → slice_get ms q ≡ slice_get names p
within names p q ms lt lt' e = slice_get-get_or ms q [] lt' ∙ ap (λ (y : List ℕ). Some y) e ∙ sym (slice_get-get_or names p [] lt)

added_same : (o : Option ℕ) (names : List (List ℕ)) (name : List ℕ) → IfSome o (λ p. p < length names) → entry_at o (names ++ name ∷ []) ≡ entry_at o names
added_same None names name h = refl
added_same (Some p) names name h =
    let more : length (names ++ name ∷ []) ≡ length names + 1 = length-append names (name ∷ []) in
    within names p p (names ++ name ∷ []) h (omega (arith, h, more)) (get_or_append_left names (name ∷ []) [] p h)

removed_same : (o : Option ℕ) (i : ℕ) (names : List (List ℕ)) → i < length names → IfSome o (λ p. p < length names) → (o ≡ Some i → ⊥)
    → entry_at (pos_without i (length names) o) (remove names i) ≡ entry_at o names
removed_same None i names lt h apart = refl
removed_same (Some p) i names lt h apart = by_tests (nat_lt i p) (i == p) refl refl
  where
    other : i ≡ p → ⊥
    other e = apart (ap (λ n. Some n) (sym e))

    one : length (remove names i) + 1 ≡ length names
    one = length-remove names i lt

    by_tests : (b d : Bool) → nat_lt i p ≡ b → (i == p) ≡ d
        → entry_at (cond b (Some (p - 1)) (cond d (kept_place (length names - 1) p) (Some p))) (remove names i) ≡ slice_get names p
    by_tests true d is is' =
        let less : i < p = grind (arith, nat_tests) in
        within names p (p - 1) (remove names i) h (omega (arith, less, h, one)) (rw is at (without_same i p names lt h other))
    by_tests false true is is' = absurd (other (eqb-true i p is'))
    by_tests false false is is' =
        let more : p ≤ i = grind (arith, nat_tests) in
        let less : p < i = omega (arith, more, other) in
        within names p p (remove names i) h (omega (arith, less, lt, one)) (rw is at (without_same i p names lt h other))

moved_kept : (o : Option ℕ) (i j : ℕ) (names : List (List ℕ)) → i < length names → j ≤ length names → IfSome o (λ p. p < length names)
    → entry_at (pos_moved i j o) (moved i j names) ≡ entry_at o names
moved_kept None i j names lt le h = refl
moved_kept (Some p) i j names lt le h = moved_same i j p names lt le h

cleared_same : (o : Option ℕ) (f : ListFacts) → f.pos ≡ o → IfSome o (λ p. p < length f.names) → entry_now (cleared o f) ≡ entry_at o f.names
cleared_same None f e h = refl
cleared_same (Some p) f e h = rw (slice_get-get_or f.names p [] h) refl

same_names : (o : Option ℕ) (wanted : ℕ) (f f' : ListFacts) → placed o wanted f ≡ Ok f' → f'.names ≡ f.names
same_names None wanted f f' e = absurd (cc)
same_names (Some p) wanted f f' e = ap (λ (x : ListFacts). x.names) (sym (inner (with_names f f.names (Some p)) f' e))

played_names : (o : Option ℕ) (f f' : ListFacts) → played o f ≡ Ok f' → f'.names ≡ f.names
played_names None f f' e = absurd (cc)
played_names (Some p) f f' e =
    let after : ListFacts = record { names = f.names; pos = kept_place (count f) (p + 1); plays = min (f.plays + 1) (2 ^ 32 - 1) } in
    ap (λ (x : ListFacts). x.names) (sym (inner after f' e))

of_added : (name : List ℕ) (f f' : ListFacts) (b : Bool) → IsList f → cond b (Ok (with_names f (f.names ++ name ∷ []) f.pos)) (Err errors.TooMany) ≡ Ok f' → entry_now f' ≡ entry_now f
of_added name f f' true list e =
    ap entry_now (sym (inner (with_names f (f.names ++ name ∷ []) f.pos) f' e)) ∙ added_same f.pos f.names name list.inside
of_added name f f' false list e = absurd (cc)

of_removed : (i : ℕ) (f f' : ListFacts) (b : Bool) → nat_lt i (count f) ≡ b → IsList f → cond b (Ok (removed i f)) (Err (errors.NoEntry i (count f))) ≡ Ok f'
    → (f.pos ≡ Some i → ⊥) → entry_now f' ≡ entry_now f
of_removed i f f' true is list e apart =
    let lt : i < length f.names = grind (arith, nat_tests) in
    ap entry_now (sym (inner (removed i f) f' e)) ∙ removed_same f.pos i f.names lt list.inside apart
of_removed i f f' false is list e apart = absurd (cc)

of_moved : (i j : ℕ) (f f' : ListFacts) (a b : Bool) → nat_lt i (count f) ≡ a → nat_le j (count f) ≡ b → IsList f
    → cond a (cond b (Ok (reordered i j f)) (Err (errors.NoEntry j (count f)))) (Err (errors.NoEntry i (count f))) ≡ Ok f' → entry_now f' ≡ entry_now f
of_moved i j f f' true true is is' list e =
    let lt : i < length f.names = grind (arith, nat_tests) in
    let le : j ≤ length f.names = grind (arith, nat_tests) in
    ap entry_now (sym (inner (reordered i j f) f' e)) ∙ moved_kept f.pos i j f.names lt le list.inside
of_moved i j f f' true false is is' list e = absurd (cc)
of_moved i j f f' false b is is' list e = absurd (cc)

stepped_keeps : (step : ListStep) (f f' : ListFacts) → IsList f → stepped step f ≡ Ok f' → KeepsEntry step f f'
stepped_keeps (Add name) f f' list e = of_added name f f' (nat_lt (count f) 10000) list e
stepped_keeps (Remove i) f f' list e = of_removed i f f' (nat_lt i (count f)) refl list e
stepped_keeps (Move i j) f f' list e = of_moved i j f f' (nat_lt i (count f)) (nat_le j (count f)) refl refl list e
stepped_keeps Clear f f' list e = ap entry_now (sym (inner (cleared f.pos f) f' e)) ∙ cleared_same f.pos f refl list.inside
stepped_keeps Next f f' list e = same_names (kept_place (count f) (next_place f.pos)) (next_place f.pos) f f' e
stepped_keeps Prev f f' list e = same_names (place_before f.pos) 0 f f' e
stepped_keeps (Jump i) f f' list e = same_names (kept_place (count f) i) i f f' e
stepped_keeps Played f f' list e = played_names f.pos f f' e

refused_keeps : (step : ListStep) (f f' : ListFacts) → f' ≡ f → KeepsEntry step f f'
refused_keeps (Add name) f f' e = ap entry_now e
refused_keeps (Remove i) f f' e = λ apart. ap entry_now e
refused_keeps (Move i j) f f' e = ap entry_now e
refused_keeps Clear f f' e = ap entry_now e
refused_keeps Next f f' e = ap (λ (x : ListFacts). x.names) e
refused_keeps Prev f f' e = ap (λ (x : ListFacts). x.names) e
refused_keeps (Jump i) f f' e = ap (λ (x : ListFacts). x.names) e
refused_keeps Played f f' e = ap (λ (x : ListFacts). x.names) e

pub keeps_entry : (step : ListStep) (f f' : ListFacts) (answer : Result (Unit {0}) ListError) → IsList f → Steps step f f' answer → KeepsEntry step f f'
keeps_entry step f f' (Ok done) list h = stepped_keeps step f f' list h
keeps_entry step f f' (Err errors.NotFound) list h = refused_keeps step f f' h.1
keeps_entry step f f' (Err (errors.NoEntry i n)) list h = refused_keeps step f f' h.1
keeps_entry step f f' (Err errors.TooMany) list h = refused_keeps step f f' h.1
keeps_entry step f f' (Err errors.TooLong) list h = refused_keeps step f f' h.1
keeps_entry step f f' (Err errors.NotUtf8) list h = refused_keeps step f f' h.1
keeps_entry step f f' (Err (errors.BadLine n)) list h = refused_keeps step f f' h.1
keeps_entry step f f' (Err errors.NoMemory) list h = refused_keeps step f f' h.1
