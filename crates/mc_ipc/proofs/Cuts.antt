-- The lines that were found so far, and what is left.
use Rattle.std.proofs.Common.{◌≡◌, ◌+◌, ◌-◌, ◌<◌, ◌≤◌, ◌==◌, ℕ, Bool, true, false, List, [], ◌∷◌, ◌++◌, Option, Some, None, length, take, drop, position, refl, sym, ap, subst, ◌∙◌, arith, append-nil, append_assoc, length-append, length-take-le, length-drop, take_all}
use Rattle.std.specs.List.{AllByRecursion}
use Rattle.std.proofs.lemmas.Bool.{lt-ltb, le-ltb, ne_eqb}
use Rattle.mc_ipc.specs.Lines.{CutState, after, ended, is_lf, is_too_long, lines_of, long_place, numbered, open_part, parts}
use Rattle.mc_ipc.specs.Cut.{CutsTo, IsOpen, kept}
use Rattle.mc_ipc.proofs.Parts.{HasFirst, NoEnd, at_lf, ended_append, has_first, in_front, no_lf, one_part, open_append}
use Rattle.mc_ipc.proofs.Places.{later, lines, lines_long, lines_short, place, place_long, place_short}

abbrev AllShort : List (List ℕ) → Type 0
AllShort ls = AllByRecursion (λ l. is_too_long l ≡ false) ls

later_zero : (r : Option ℕ) → r ≡ later 0 r
later_zero None = refl
later_zero (Some i) = let e : i ≡ 0 + i = omega arith in ap (λ x. Some x) e

later_more : (n : ℕ) (r : Option ℕ) → later 1 (later n r) ≡ later (1 + n) r
later_more n None = refl
later_more n (Some i) = let e : 1 + (n + i) ≡ 1 + n + i = omega arith in ap (λ x. Some x) e

append_first : (ls ps : List (List ℕ)) → HasFirst ps → HasFirst (ls ++ ps)
append_first [] ps h = h
append_first (l ∷ ls) ps h = (l, ls ++ ps, refl)

place_front : (ls ps : List (List ℕ)) → AllShort ls → place (ls ++ ps) ≡ later (length ls) (place ps)
place_front [] ps h = later_zero (place ps)
place_front (l ∷ ls) ps h =
    let e : 1 + length ls ≡ length (l ∷ ls) = omega arith in
    place_short l (ls ++ ps) h.0 ∙ ap (later 1) (place_front ls ps h.1) ∙ later_more (length ls) (place ps) ∙ ap (λ n. later n (place ps)) e

lines_front : (ls ps : List (List ℕ)) → AllShort ls → HasFirst ps → lines (ls ++ ps) ≡ ls ++ lines ps
lines_front [] ps h f = refl
lines_front (l ∷ ls) ps h f = lines_short l (ls ++ ps) (append_first ls ps f) h.0 ∙ ap (λ xs. l ∷ xs) (lines_front ls ps h.1 f)

short_push : (ls : List (List ℕ)) (l : List ℕ) → AllShort ls → is_too_long l ≡ false → AllShort (ls ++ l ∷ [])
short_push [] l h n = (n, tt)
short_push (x ∷ ls) l h n = (h.0, short_push ls l h.1 n)

-- the begin
pub cuts_none : (whole : List ℕ) → CutsTo whole [] whole
cuts_none whole = record { parts = refl; short = tt }

-- ---- one line more

line_at : (front rest : List ℕ) (i : ℕ) → NoEnd front → position is_lf rest ≡ Some i → parts (front ++ rest) ≡ (front ++ take i rest) ∷ parts (drop (i + 1) rest)
line_at front rest i h e = in_front front rest (take i rest) (parts (drop (i + 1) rest)) h (at_lf rest i e).parts

length_taken : (rest : List ℕ) (i : ℕ) → i < length rest → length (take i rest) ≡ i
length_taken rest i l = length-take-le i rest (omega arith)

pub cuts_more : (whole : List ℕ) (ls : List (List ℕ)) (front rest : List ℕ) (i : ℕ) → IsOpen front → CutsTo whole ls (front ++ rest)
    → position is_lf rest ≡ Some i → i < length rest → length front + i ≤ 65536 → CutsTo whole (ls ++ (front ++ take i rest) ∷ []) (drop (i + 1) rest)
cuts_more whole ls front rest i o c e l w =
    let line = front ++ take i rest in
    let t = length_taken rest i l in
    let a : length line ≡ length front + length (take i rest) = length-append front (take i rest) in
    let n : is_too_long line ≡ false = le-ltb 65536 (length line) (omega arith) in
    record {
      parts = c.parts ∙ ap (λ ps. ls ++ ps) (line_at front rest i o.no_end e) ∙ sym (append_assoc ls (line ∷ []) (parts (drop (i + 1) rest)));
      short = short_push ls line c.short n;
    }

-- ---- the end

-- the next part is too long
pub record Stops (whole : List ℕ) (ls : List (List ℕ)) : Type 0 where
  pub lines : ls ≡ lines_of whole
  pub place : long_place whole ≡ Some (length ls)

stops : (whole left : List ℕ) (ls : List (List ℕ)) (q : List ℕ) (qs : List (List ℕ)) → CutsTo whole ls left → parts left ≡ q ∷ qs → is_too_long q ≡ true → Stops whole ls
stops whole left ls q qs c e y =
    let split : parts whole ≡ ls ++ q ∷ qs = c.parts ∙ ap (λ ps. ls ++ ps) e in
    let z : length ls + 0 ≡ length ls = omega arith in
    record {
      lines = sym (ap lines split ∙ lines_front ls (q ∷ qs) c.short (q, qs, refl) ∙ ap (λ xs. ls ++ xs) (lines_long q qs y) ∙ append-nil ls);
      place = ap place split ∙ place_front ls (q ∷ qs) c.short ∙ ap (later (length ls)) (place_long q qs y) ∙ ap (λ n. Some n) z;
    }

pub stops_at : (whole : List ℕ) (ls : List (List ℕ)) (front rest : List ℕ) (i : ℕ) → IsOpen front → CutsTo whole ls (front ++ rest)
    → position is_lf rest ≡ Some i → i < length rest → 65536 < length front + i → Stops whole ls
stops_at whole ls front rest i o c e l w =
    let line = front ++ take i rest in
    let t = length_taken rest i l in
    let a : length line ≡ length front + length (take i rest) = length-append front (take i rest) in
    stops whole (front ++ rest) ls line (parts (drop (i + 1) rest)) c (line_at front rest i o.no_end e) (lt-ltb 65536 (length line) (omega arith))

no_end_append : (front rest : List ℕ) → NoEnd front → NoEnd rest → NoEnd (front ++ rest)
no_end_append [] rest h k = k
no_end_append (c ∷ front) rest h k = (h.0, no_end_append front rest h.1 k)

pub stops_open : (whole : List ℕ) (ls : List (List ℕ)) (front rest : List ℕ) → IsOpen front → CutsTo whole ls (front ++ rest) → position is_lf rest ≡ None
    → 65536 < length front + length rest → Stops whole ls
stops_open whole ls front rest o c e w =
    let line = front ++ rest in
    let a : length line ≡ length front + length rest = length-append front rest in
    stops whole line ls line [] c (one_part line (no_end_append front rest o.no_end (no_lf rest e))) (lt-ltb 65536 (length line) (omega arith))

-- no part is too long
pub record Ends (whole : List ℕ) (ls : List (List ℕ)) (rest : List ℕ) : Type 0 where
  pub lines : ls ≡ lines_of whole
  pub place : long_place whole ≡ None
  pub parts : parts whole ≡ ls ++ rest ∷ []
  pub begins : IsOpen rest

pub ends : (whole : List ℕ) (ls : List (List ℕ)) (front rest : List ℕ) → IsOpen front → CutsTo whole ls (front ++ rest) → position is_lf rest ≡ None
    → length front + length rest ≤ 65536 → Ends whole ls (front ++ rest)
ends whole ls front rest o c e w =
    let line = front ++ rest in
    let a : length line ≡ length front + length rest = length-append front rest in
    let h : NoEnd line = no_end_append front rest o.no_end (no_lf rest e) in
    let n : is_too_long line ≡ false = le-ltb 65536 (length line) (omega arith) in
    let split : parts whole ≡ ls ++ line ∷ [] = c.parts ∙ ap (λ ps. ls ++ ps) (one_part line h) in
    record {
      lines = sym (ap lines split ∙ lines_front ls (line ∷ []) c.short (line, [], refl) ∙ append-nil ls);
      place = ap place split ∙ place_front ls (line ∷ []) c.short ∙ ap (later (length ls)) (place_short line [] n);
      parts = split;
      begins = record { no_end = h; short = omega arith };
    }

-- ---- the loop

-- what holds at its head
pub record IsSoFar (held piece : List ℕ) (ls : List (List ℕ)) (front rest : List ℕ) : Type 0 where
  pub cuts : CutsTo (held ++ piece) ls (front ++ rest)
  pub is_front : front ≡ kept (length ls) held
  pub begins : IsOpen front

pub so_far_none : (held piece : List ℕ) → IsOpen held → IsSoFar held piece [] held piece
so_far_none held piece o = record { cuts = cuts_none (held ++ piece); is_front = refl; begins = o }

kept_more : (ls : List (List ℕ)) (l held : List ℕ) → [] ≡ kept (length (ls ++ l ∷ [])) held
kept_more ls l held =
    let a : length (ls ++ l ∷ []) ≡ length ls + 1 = length-append ls (l ∷ []) in
    let z : (length (ls ++ l ∷ []) == 0) ≡ false = ne_eqb (length (ls ++ l ∷ [])) 0 (λ e. absurd (omega arith)) in
    rw z refl

rest_is : (k : ℕ) (cs : List ℕ) → drop k cs ≡ take (length cs - k) (drop k cs)
rest_is k cs = sym (take_all (length cs - k) (drop k cs) (simp length-drop (omega arith)))

pub so_far_more : (held piece : List ℕ) (ls : List (List ℕ)) (front rest : List ℕ) (i : ℕ) → IsSoFar held piece ls front rest → position is_lf rest ≡ Some i → i < length rest
    → i ≤ 65536 - length front → IsSoFar held piece (ls ++ (front ++ take i rest) ∷ []) [] (take (length rest - (i + 1)) (drop (i + 1) rest))
so_far_more held piece ls front rest i s e l w =
    let short = s.begins.short in
    record {
      cuts = rw (← rest_is (i + 1) rest) (cuts_more (held ++ piece) ls front rest i s.begins s.cuts e l (omega arith));
      is_front = kept_more ls (front ++ take i rest) held;
      begins = record { no_end = tt; short = omega arith };
    }

pub so_far_stops : (held piece : List ℕ) (ls : List (List ℕ)) (front rest : List ℕ) (i : ℕ) → IsSoFar held piece ls front rest → position is_lf rest ≡ Some i → i < length rest
    → 65536 - length front < i → Stops (held ++ piece) ls
so_far_stops held piece ls front rest i s e l w = stops_at (held ++ piece) ls front rest i s.begins s.cuts e l (omega arith)

pub so_far_stops_open : (held piece : List ℕ) (ls : List (List ℕ)) (front rest : List ℕ) → IsSoFar held piece ls front rest → position is_lf rest ≡ None
    → 65536 - length front < length rest → Stops (held ++ piece) ls
so_far_stops_open held piece ls front rest s e w = stops_open (held ++ piece) ls front rest s.begins s.cuts e (omega arith)

pub so_far_ends : (held piece : List ℕ) (ls : List (List ℕ)) (front rest : List ℕ) → IsSoFar held piece ls front rest → position is_lf rest ≡ None
    → length rest ≤ 65536 - length front → Ends (held ++ piece) ls (kept (length ls) held ++ rest)
so_far_ends held piece ls front rest s e w =
    let short = s.begins.short in
    rw (← s.is_front) (ends (held ++ piece) ls front rest s.begins s.cuts e (omega arith))

-- ---- what is left behind a piece

made : (t : CutState) (h : List ℕ) (n : ℕ) (b : Bool) → t.held ≡ h → t.number ≡ n → t.is_long ≡ b → t ≡ record { held = h; number = n; is_long = b }
made t h n b e f g = rw (← e, ← f, ← g) refl

pub after_open : (s t : CutState) (piece : List ℕ) (ls : List (List ℕ)) (rest : List ℕ) → s.is_long ≡ false → long_place (s.held ++ piece) ≡ None
    → parts (s.held ++ piece) ≡ ls ++ rest ∷ [] → t.held ≡ rest → t.number ≡ numbered s.number (length ls) → t.is_long ≡ s.is_long → t ≡ after s piece
after_open s t piece ls rest long none split held number same =
    let first : HasFirst (rest ∷ []) = (rest, [], refl) in
    let a : ended (parts (s.held ++ piece)) ≡ ls = ap ended split ∙ ended_append ls (rest ∷ []) first ∙ append-nil ls in
    let b : open_part (parts (s.held ++ piece)) ≡ rest = ap open_part split ∙ open_append ls (rest ∷ []) first in
    let is : t ≡ record { held = rest; number = numbered s.number (length ls); is_long = false } = made t rest (numbered s.number (length ls)) false held number (same ∙ long) in
    rw (long, none, a, b) is
