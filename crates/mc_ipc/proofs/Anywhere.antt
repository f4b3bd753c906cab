-- It makes no difference where an input is cut into pieces.
use Rattle.std.proofs.Common.{◌≡◌, ◌+◌, ◌≤◌, min, ℕ, Bool, true, false, List, [], ◌∷◌, ◌++◌, Option, Some, None, length, option_map, refl, sym, ap, subst, ◌∙◌, arith, append-nil, append_assoc, length-append}
use Rattle.std.specs.List.{concat}
use Rattle.mc_ipc.specs.Lines.{CutState, CutsAnywhere, after, after_all, ended, given, given_by_all, left_at, lines_of, long_by, long_of, long_place, new_cut, numbered, open_part, parts}
use Rattle.mc_ipc.proofs.Parts.{HasFirst, ended_append, has_first, in_front, open_append, open_no_end, parts_append, split_last}
use Rattle.mc_ipc.proofs.Places.{Grows, grows, later, lines, place}

-- what an input leaves, as one piece
abbrev pub left_by : List ℕ → CutState
left_by xs = left_at 1 (parts xs) (long_place xs)

numbered_on : (n i : ℕ) → numbered (numbered 1 n) i ≡ numbered 1 (n + i)
numbered_on n i = omega arith

-- a further piece behind an input
pub record Goes (xs ys : List ℕ) : Type 0 where
  pub given : lines_of (xs ++ ys) ≡ lines_of xs ++ given (left_by xs) ys
  pub long : long_by (left_by xs) ys ≡ long_of (xs ++ ys)
  pub left : after (left_by xs) ys ≡ left_by (xs ++ ys)

abbrev Parted : List ℕ → List ℕ → List (List ℕ) → List ℕ → List (List ℕ) → Type 0
Parted xs ys es o ps = (parts xs ≡ es ++ o ∷ []) × (es ≡ ended (parts xs)) × (o ≡ open_part (parts xs)) × (parts (xs ++ ys) ≡ es ++ ps) × (parts (o ++ ys) ≡ ps) × HasFirst ps

-- what is left where no part is too long, after a further piece
left_on : (n : ℕ) (es ps : List (List ℕ)) (r : Option ℕ) → HasFirst ps → n ≡ length es → left_at (numbered 1 n) ps r ≡ left_at 1 (es ++ ps) (later n r)
left_on n es ps (Some i) h e = rw (numbered_on n i) refl
left_on n es ps None h e =
    let a = ended_append es ps h in
    let b = length-append es (ended ps) in
    let c : numbered (numbered 1 n) (length (ended ps)) ≡ numbered 1 (length (ended (es ++ ps))) = rw (a, b, ← e) (numbered_on n (length (ended ps))) in
    rw (c, open_append es ps h) refl

long_on : (n : ℕ) (r : Option ℕ) → option_map (numbered (numbered 1 n)) r ≡ option_map (numbered 1) (later n r)
long_on n None = refl
long_on n (Some i) = ap (λ x. Some x) (numbered_on n i)

goes_by : (xs ys : List ℕ) (es : List (List ℕ)) (o : List ℕ) (ps : List (List ℕ)) (r : Option ℕ) → Parted xs ys es o ps → place (es ++ o ∷ []) ≡ r → Grows r es o ps → Goes xs ys
goes_by xs ys es o ps (Some i) (whole, before, last, more, behind, first) e g =
    let here : long_place xs ≡ Some i = ap place whole ∙ e in
    let there : long_place (xs ++ ys) ≡ Some i = ap place more ∙ g.0 in
    let text : lines_of (xs ++ ys) ≡ lines_of xs = ap lines more ∙ g.1 ∙ ap lines (sym whole) in
    record {
      given = rw here (text ∙ sym (append-nil (lines_of xs)));
      long = rw (here, there) refl;
      left = rw (here, there) refl;
    }
goes_by xs ys es o ps None (whole, before, last, more, behind, first) e g =
    let here : long_place xs ≡ None = ap place whole ∙ e in
    let there : long_place (xs ++ ys) ≡ later (length es) (place ps) = ap place more ∙ g.0 in
    let text : lines_of (xs ++ ys) ≡ lines_of xs ++ lines ps = ap lines more ∙ g.1 ∙ ap (λ ls. ls ++ lines ps) (ap lines (sym whole)) in
    record {
      given = rw (here, ← last, behind) text;
      long = rw (here, there, ← last, ← before, behind) (long_on (length es) (place ps));
      left = rw (here, there, ← last, ← before, behind, more) (left_on (length es) es ps (place ps) first refl);
    }

goes : (xs ys : List ℕ) → Goes xs ys
goes xs ys =
    let es = ended (parts xs) in
    let o = open_part (parts xs) in
    let f = has_first ys in
    let behind : parts (o ++ ys) ≡ (o ++ f.0) ∷ f.1 = in_front o ys f.0 f.1 (open_no_end xs) f.2 in
    let whole : parts xs ≡ es ++ o ∷ [] = split_last (parts xs) (has_first xs) in
    let more : parts (xs ++ ys) ≡ es ++ (o ++ f.0) ∷ f.1 = parts_append xs ys ∙ ap (λ ps. es ++ ps) behind in
    goes_by xs ys es o ((o ++ f.0) ∷ f.1) (place (es ++ o ∷ [])) (whole, refl, refl, more, behind, (o ++ f.0, f.1, refl)) refl (grows es o f.0 f.1)

-- ---- lists of pieces

all_left : (xs : List ℕ) (ps : List (List ℕ)) → after_all (left_by xs) ps ≡ left_by (xs ++ concat ps)
all_left xs [] = ap left_by (sym (append-nil xs))
all_left xs (p ∷ ps) = ap (λ c. after_all c ps) ((goes xs p).left) ∙ all_left (xs ++ p) ps ∙ ap left_by (append_assoc xs p (concat ps))

all_given : (xs : List ℕ) (ps : List (List ℕ)) → lines_of xs ++ given_by_all (left_by xs) ps ≡ lines_of (xs ++ concat ps)
all_given xs [] = append-nil (lines_of xs) ∙ ap lines_of (sym (append-nil xs))
all_given xs (p ∷ ps) =
    let one = goes xs p in
    let rest : List (List ℕ) = given_by_all (left_by (xs ++ p)) ps in
    let next : given_by_all (after (left_by xs) p) ps ≡ rest = ap (λ c. given_by_all c ps) one.left in
    rw next (sym (append_assoc (lines_of xs) (given (left_by xs) p) rest) ∙ ap (λ ls. ls ++ rest) (sym one.given) ∙ all_given (xs ++ p) ps ∙ ap lines_of (append_assoc xs p (concat ps)))

pub cuts_anywhere : CutsAnywhere new_cut
cuts_anywhere ps = record {
  lines = all_given [] ps;
  long = λ p. ap (λ c. long_by c p) (all_left [] ps) ∙ (goes (concat ps) p).long;
}

pub new_cuts_anywhere : (c : CutState) → c ≡ new_cut → CutsAnywhere c
new_cuts_anywhere c is = subst CutsAnywhere (sym is) cuts_anywhere
