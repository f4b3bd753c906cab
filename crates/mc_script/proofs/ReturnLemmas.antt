-- A carriage return at the end of a line.
use Rattle.std.proofs.Common.{◌≡◌, ◌≢◌, ◌<◌, ◌-◌, ◌+◌, ◌++◌, ◌∷◌, [], List, ℕ, refl, ap, sym, ◌∙◌, length, take, get_or, arith, inl, inr, length-append}
use Rattle.std.specs.Prelude.{◌==◌}
use Rattle.std.specs.Str.Lines.{strip_carriage_return}
use Rattle.std.proofs.Math.Seq.{get_or-append_seam, take-append_seam, take-length}
use Rattle.std.proofs.lemmas.List.{take_more}
use Rattle.std.proofs.lemmas.Bool.{cases_Bool, eqb-true}

without : (x : List ℕ) → strip_carriage_return (x ++ 13 ∷ []) ≡ x
without x = let k : length (x ++ 13 ∷ []) - 1 ≡ length x = simp length-append (omega arith) in rw (k, get_or-append_seam x 13 [] 0, take-append_seam x (13 ∷ [])) refl

pub stripped : (x bs : List ℕ) → bs ≡ x ++ 13 ∷ [] → x ≡ strip_carriage_return bs
stripped x bs e = sym (ap strip_carriage_return e ∙ without x)

ends : (bs : List ℕ) → 0 < length bs → get_or bs (length bs - 1) 0 ≡ 13 → bs ≡ take (length bs - 1) bs ++ 13 ∷ []
ends bs some e =
    let k : length bs - 1 + 1 ≡ length bs = omega arith in
    sym (take-length bs) ∙ ap (λ n. take n bs) (sym k) ∙ take_more bs (length bs - 1) 0 (omega arith) ∙ ap (λ c. take (length bs - 1) bs ++ c ∷ []) e

pub kept : (bs : List ℕ) → ((front : List ℕ) → bs ≢ front ++ 13 ∷ []) → bs ≡ strip_carriage_return bs
kept [] none = refl
kept (b ∷ bs) none = elim (cases_Bool (get_or (b ∷ bs) (length (b ∷ bs) - 1) 0 == 13)) [ inl told ↦ absurd (none (take (length (b ∷ bs) - 1) (b ∷ bs)) (ends (b ∷ bs) (omega arith) (eqb-true _ _ told))) | inr told ↦ rw told refl ]
