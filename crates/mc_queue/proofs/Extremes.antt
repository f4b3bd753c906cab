-- The extreme time of packets, one packet more.
use Rattle.std.proofs.Common.{◌≡◌, ℕ, ◌+◌, ◌<◌, Bool, List, [], ◌∷◌, ◌++◌, length, take, get_or, arith, refl, ap, sym, ◌∙◌}
use Rattle.std.specs.Prelude.{Option, Some, None, ℤ}
use Rattle.std.proofs.lemmas.Int.{ints}
use Rattle.std.proofs.lemmas.List.{take_more}
use Rattle.std.proofs.lemmas.List.Sums.{sum_by-append}
use Rattle.mc_packet.specs.declared.packet.Packet.{Packet}
use Rattle.mc_packet.specs.declared.choice.Dir.{Dir}
use Rattle.mc_packet.specs.declared.choice.Dir.TheVariants.{Back, Forward}
use Rattle.mc_queue.specs.Places.{weights, weight_of}
use Rattle.mc_queue.specs.Blocks.{extreme, first_two, time_if}

first_none : (dir : Dir) (a : Option ℤ) → first_two dir a None ≡ a
first_none dir None = refl
first_none dir (Some x) = refl

three : (dir : Dir) (x y z : ℤ) → first_two dir (Some x) (first_two dir (Some y) (Some z)) ≡ first_two dir (first_two dir (Some x) (Some y)) (Some z)
three Forward x y z = grind (arith, ints)
three Back x y z = grind (arith, ints)

pub first_more : (dir : Dir) (a b c : Option ℤ) → first_two dir a (first_two dir b c) ≡ first_two dir (first_two dir a b) c
first_more dir None b c = refl
first_more dir (Some x) None c = refl
first_more dir (Some x) (Some y) None = sym (first_none dir (first_two dir (Some x) (Some y)))
first_more dir (Some x) (Some y) (Some z) = three dir x y z

pub with_one : (dir : Dir) (test : Packet → Bool) (ps : List Packet) (p : Packet) → extreme dir test (ps ++ p ∷ []) ≡ first_two dir (extreme dir test ps) (time_if (test p) p.time)
with_one dir test [] p = first_none dir (time_if (test p) p.time)
with_one dir test (q ∷ ps) p =
    ap (λ o. first_two dir (time_if (test q) q.time) o) (with_one dir test ps p) ∙ first_more dir (time_if (test q) q.time) (extreme dir test ps) (time_if (test p) p.time)

-- of two lists behind one another
pub of_two : (dir : Dir) (test : Packet → Bool) (ps qs : List Packet) → extreme dir test (ps ++ qs) ≡ first_two dir (extreme dir test ps) (extreme dir test qs)
of_two dir test [] qs = refl
of_two dir test (p ∷ ps) qs =
    ap (λ o. first_two dir (time_if (test p) p.time) o) (of_two dir test ps qs) ∙ first_more dir (time_if (test p) p.time) (extreme dir test ps) (extreme dir test qs)

pub weight_with_one : (ps : List Packet) (p : Packet) → weights (ps ++ p ∷ []) ≡ weights ps + weight_of p
weight_with_one ps p = let e = sum_by-append weight_of ps (p ∷ []) in omega arith

pub one_more : (dir : Dir) (test : Packet → Bool) (ps : List Packet) (i : ℕ) (d : Packet) → i < length ps
    → extreme dir test (take (i + 1) ps) ≡ first_two dir (extreme dir test (take i ps)) (time_if (test (get_or ps i d)) (get_or ps i d).time)
one_more dir test ps i d l = ap (λ qs. extreme dir test qs) (take_more ps i d l) ∙ with_one dir test (take i ps) (get_or ps i d)
