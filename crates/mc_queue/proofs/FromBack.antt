-- The last packet that passes is the first one from the back.
use Rattle.std.proofs.Common.{◌≡◌, Bool, List, [], ◌∷◌, ◌++◌, refl, ap, ◌∙◌, inl, inr}
use Rattle.std.specs.List.{find}
use Rattle.std.specs.Prelude.{Option, Some, None, if◌then◌else◌, reverse}
use Rattle.std.specs.Option.{option_map}
use Rattle.std.proofs.lemmas.Bool.{cases_Bool}
use Rattle.std.proofs.lemmas.List.{reverse-append}
use Rattle.mc_packet.specs.declared.packet.Packet.{Packet}
use Rattle.mc_packet.specs.Choices.{or_else}
use Rattle.mc_queue.specs.Queue.{find_last, last_that}

find_append : (test : Packet → Bool) (ps qs : List Packet) → find test (ps ++ qs) ≡ or_else (find test ps) (find test qs)
find_append test [] qs = refl
find_append test (p ∷ ps) qs = elim (cases_Bool (test p)) [ inl y ↦ rw y refl | inr n ↦ rw n (find_append test ps qs) ]

one : (test : Packet → Bool) (p : Packet) → find test (p ∷ []) ≡ (if test p then Some p else None)
one test p = elim (cases_Bool (test p)) [ inl y ↦ rw y refl | inr n ↦ rw n refl ]

pub found_back : (test : Packet → Bool) (ps : List Packet) → find test (reverse ps) ≡ find_last test ps
found_back test [] = refl
found_back test (p ∷ ps) =
    ap (λ qs. find test qs) (reverse-append (p ∷ []) ps) ∙ find_append test (reverse ps) (p ∷ []) ∙ ap (λ o. or_else o (find test (p ∷ []))) (found_back test ps) ∙ ap (λ o. or_else (find_last test ps) o) (one test p)

pub found_last : (test : Packet → Bool) (ps : List Packet) → option_map (λ (p : Packet). p.pos) (find test (reverse ps)) ≡ last_that test ps
found_last test ps = ap (λ o. option_map (λ (p : Packet). p.pos) o) (found_back test ps)

or_else_more : {A : Type 0} (a b c : Option A) → or_else (or_else a b) c ≡ or_else a (or_else b c)
or_else_more (Some x) b c = refl
or_else_more None b c = refl

found_last_append : (test : Packet → Bool) (ps qs : List Packet) → find_last test (ps ++ qs) ≡ or_else (find_last test qs) (find_last test ps)
found_last_append test [] qs = by (find_last test qs)
  where
    by : (o : Option Packet) → o ≡ or_else o None
    by (Some x) = refl
    by None = refl
found_last_append test (p ∷ ps) qs =
    ap (λ o. or_else o (if test p then Some p else None)) (found_last_append test ps qs) ∙ or_else_more (find_last test qs) (find_last test ps) (if test p then Some p else None)

-- of two lists behind one another: the last of the second, and where it has none, that of the first
pub last_of_two : (test : Packet → Bool) (ps qs : List Packet) → last_that test (ps ++ qs) ≡ or_else (last_that test qs) (last_that test ps)
last_of_two test ps qs = ap (λ o. option_map (λ (p : Packet). p.pos) o) (found_last_append test ps qs) ∙ by (find_last test qs) (find_last test ps)
  where
    by : (a b : Option Packet) → option_map (λ (p : Packet). p.pos) (or_else a b) ≡ or_else (option_map (λ (p : Packet). p.pos) a) (option_map (λ (p : Packet). p.pos) b)
    by (Some x) b = refl
    by None b = refl
