-- What reads at a place tell of a film.
use Rattle.std.proofs.Common.{◌≡◌, ℕ, ◌≤◌, Bool, true, false, List, [], ◌∷◌, length, take, drop, Option, Some, refl, ap, ◌∙◌, arith, length-take, length-drop}
use Rattle.std.specs.Prelude.{◌==◌}
use Rattle.std.proofs.lemmas.Bool.Decides.{nat_tests}
use Rattle.mc_outside.specs.Shelf.{ReadsFull}
use Rattle.mc_cursor.specs.Reads.{found_in, found_at}
use Rattle.mc_block.proofs.Heads.{head_window}

-- what the window of 12 octets at a place tells
found_window : (octets window : List ℕ) (place : ℕ) → window ≡ take 12 (drop place octets) → place ≤ length octets → (end : Bool) → place == length octets ≡ end
    → found_in window place ≡ found_at octets place
found_window octets [] place e le true end = rw end refl
found_window octets (b ∷ bs) place e le true end = absurd (grind (arith, nat_tests, ap length e, length-take 12 (drop place octets), length-drop place octets))
found_window octets [] place e le false end = absurd (grind (arith, nat_tests, ap length e, length-take 12 (drop place octets), length-drop place octets))
found_window octets (b ∷ bs) place e le false end = rw (end, head_window octets place, ← e) refl

pub found_read : (content : Option (List ℕ)) (octets buf : List ℕ) (place count : ℕ) → length buf ≡ 12 → content ≡ Some octets → ReadsFull content place buf count → place ≤ length octets
    → found_in (take count buf) place ≡ found_at octets place
found_read content octets buf place count full told reads le =
    let e : take count buf ≡ take (length buf) (drop place octets) = rw told at reads in
    found_window octets (take count buf) place (e ∙ ap (λ n. take n (drop place octets)) full) le (place == length octets) refl
