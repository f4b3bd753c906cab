-- Packets moved from the rear of one list to the front of another.
use Rattle.std.proofs.Common.{◌≡◌, ℕ, ◌≤◌, List, [], ◌∷◌, ◌++◌, length, take, drop, refl, ap, sym, ◌∙◌}
use Rattle.std.proofs.lemmas.List.{take-append-le, drop-append-le}
use Rattle.mc_packet.specs.declared.packet.Packet.{Packet}

take_front : (ps qs : List Packet) → take (length ps) (ps ++ qs) ≡ ps
take_front [] qs = refl
take_front (p ∷ ps) qs = ap (λ rs. p ∷ rs) (take_front ps qs)

drop_front : (ps qs : List Packet) → drop (length ps) (ps ++ qs) ≡ qs
drop_front [] qs = refl
drop_front (p ∷ ps) qs = drop_front ps qs

-- what is left and what was moved, where both together are as before
pub moved : (from into from' into' : List Packet) (keep : ℕ) → from' ++ into' ≡ from ++ into → length from' ≡ keep → keep ≤ length from
    → (from' ≡ take keep from) × (into' ≡ drop keep from ++ into)
moved from into from' into' keep e k l =
    let t : take keep (from' ++ into') ≡ from' = ap (λ n. take n (from' ++ into')) (sym k) ∙ take_front from' into' in
    let d : drop keep (from' ++ into') ≡ into' = ap (λ n. drop n (from' ++ into')) (sym k) ∙ drop_front from' into' in
    (sym t ∙ ap (λ ps. take keep ps) e ∙ take-append-le keep from into l, sym d ∙ ap (λ ps. drop keep ps) e ∙ drop-append-le keep from into l)
