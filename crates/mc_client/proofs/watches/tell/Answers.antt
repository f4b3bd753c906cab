use Rattle.std.proofs.Common.{◌≡◌, ℕ, ◌+◌, List, ◌∷◌, ◌++◌, Some, map, drop, get_or, drop-cons, add-one, refl, ap, ◌∙◌}
use Rattle.std.specs.Prelude.{slice_get}
use Rattle.std.proofs.Math.ListN.{set}
use Rattle.std.proofs.lemmas.Option.{slice_get_within, get_or_from_slice_get}
use Rattle.mc_client.specs.declared.watch.Watch.{Watch}
use Rattle.mc_client.specs.Watches.{Shown, cleared, with_given}
use Rattle.mc_client.proofs.watches.tell.Goals as goal

from_here : (ws : List Watch) (place : ℕ) (w : Watch) → slice_get ws place ≡ Some w → drop place ws ≡ w ∷ drop (place + 1) ws
from_here ws place w e =
    let within = slice_get_within ws place w e in
    let is : get_or ws place w ≡ w = get_or_from_slice_get ws place w w e in
    rw (add-one, drop-cons ws place w, is) refl

put : (front rest tail : List Watch) (w d : Watch) (shown : Shown) → rest ≡ w ∷ tail
    → front ++ set rest 0 (with_given (get_or rest 0 d) shown) ≡ front ++ with_given w shown ∷ tail
put front rest tail w d shown e = rw e refl

pub returns-in-len1-up : goal.returns-in-len1-up
returns-in-len1-up c = λ w e.
    let ws = c.args.watches.now in
    let place = c.args.changed.place in
    let shown = c.args.changed.shown in
    let rest = c.split_at_mut-before.result.1.now in
    let back : rest ≡ drop place ws = c.split_at_mut-before.ensures.back in
    let front = c.clear_flags.ensures in
    put c.clear_flags.new.watches rest (drop (place + 1) ws) w c.index-rest-0.result shown (back ∙ from_here ws place w e)
    ∙ ap (λ (f : List Watch). f ++ with_given w shown ∷ drop (place + 1) ws) (front ∙ ap (λ (f : List Watch). map cleared f) c.split_at_mut-before.ensures.front)
