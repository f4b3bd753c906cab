-- The mark at the block of a part.
use Rattle.std.proofs.Common.{◌≡◌, ℕ, suc, ◌+◌, ◌-◌, ◌<◌, ◌≤◌, true, false, List, [], ◌∷◌, None, refl, sym, ap, ◌∙◌, arith}
use Rattle.std.proofs.lemmas.Bool.{cond_both, ne_eqb, eq-eqb, eqb-true}
use Rattle.std.specs.Prelude.{◌==◌}
use Rattle.mc_packet.specs.declared.packet.Packet.{Packet}
use Rattle.mc_packet.specs.declared.walk.Mark.{Mark}
use Rattle.mc_walk.specs.declared.plan.Plan.{Plan}
use Rattle.mc_walk.specs.Walk.{steps}
use Rattle.mc_walk.specs.Parts.{mark, opening_mark, part_at, place_of}
use Rattle.mc_walk.proofs.Joining.{place-of}
use Rattle.mc_index.specs.Fronts.{Front}
use Rattle.mc_filmed.specs.Marks.{stands_first, level_from, mark_at}
use Rattle.mc_index.specs.Fronts.Front.{at_opening, read_on}
use Rattle.mc_index.specs.Scans.{IsPlan}
use Rattle.mc_index.proofs.Fronts.{StartsIn, front-lies, front-count, part-at, part-onward, mark-under, front-opens}

-- a block behind a part is not that part's
not-first : (from to place : ℕ) (ps : List Packet) → StartsIn from to ps → to ≤ place → stands_first place ps ≡ false
not-first from to place [] starts h = refl
not-first from to place (p ∷ ps) starts h = ne_eqb p.pos.block place (λ e. let less = starts.1 in omega arith)

first-is : (p : Packet) (ps : List Packet) → stands_first p.pos.block (p ∷ ps) ≡ true
first-is p ps = eq-eqb p.pos.block p.pos.block refl

level-on : (n : ℕ) (plan : Plan) (m : Mark) (place : ℕ) → stands_first place (part_at plan m).packets ≡ false → (part_at plan m).ending ≡ None
    → level_from (suc n) plan m place ≡ level_from n plan (part_at plan m).to place
unfolding level_from
level-on n plan m place other goes = rw (other, goes) refl

level-here : (n : ℕ) (plan : Plan) (m : Mark) (place : ℕ) → stands_first place (part_at plan m).packets ≡ true → level_from (suc n) plan m place ≡ (part_at plan m).to.level
unfolding level_from
level-here n plan m place here = rw here refl

-- before a place that was not read yet no block stands there
level-further : (plan : Plan) (n : ℕ) (m : Mark) (ps : List Packet) (place : ℕ) → IsPlan plan → Front plan n m ps → place_of plan m ≤ place
    → level_from (steps plan) plan opening_mark place ≡ level_from (steps plan - n) plan m place
level-further plan _ _ _ place is at_opening h = let e : steps plan - 0 ≡ steps plan = omega arith in rw e refl
level-further plan _ _ _ place is (read_on n m ps before goes) h =
    let p = part_at plan m in
    let behind = (part-onward plan n m ps is before).2 goes in
    let within = (part-onward plan n m ps is before).1 in
    let positive : 0 < p.to.pos = omega arith in
    let at = place-of plan p.to positive in
    let end : p.to.pos ≤ place = rw at at h in
    let count = front-count plan n m ps is before in
    let under = mark-under plan m in
    let left : steps plan - n ≡ suc (steps plan - (n + 1)) = omega arith in
    level-further plan n m ps place is before (omega arith)
    ∙ ap (λ k. level_from k plan m place) left
    ∙ level-on (steps plan - (n + 1)) plan m place (not-first (place_of plan m) p.to.pos place p.packets (part-at plan n m ps is before).starts end) goes

level-first : (plan : Plan) (m : Mark) (k : ℕ) (p : Packet) (ps : List Packet) → (part_at plan m).packets ≡ p ∷ ps → level_from (suc k) plan m p.pos.block ≡ (part_at plan m).to.level
level-first plan m k p ps has = level-here k plan m p.pos.block (ap (stands_first p.pos.block) has ∙ first-is p ps)

-- the mark at the block of a part has the level of the part's end
pub mark-first : (plan : Plan) (n : ℕ) (m : Mark) (ps : List Packet) (q : Packet) (qs : List Packet) → IsPlan plan → Front plan n m ps → (part_at plan m).packets ≡ q ∷ qs
    → mark_at plan q.pos.block ≡ mark q.pos.block (part_at plan m).to.level
mark-first plan n m ps q qs is front has =
    let p = part_at plan m in
    let starts : StartsIn (place_of plan m) p.to.pos (q ∷ qs) = rw has at (part-at plan n m ps is front).starts in
    let low = starts.0 in
    let lies = front-lies plan n m ps is front in
    let count = front-count plan n m ps is front in
    let under = mark-under plan m in
    let opens = front-opens plan n m ps is front in
    let other : (q.pos.block == 0) ≡ false = ne_eqb q.pos.block 0 (λ e. omega arith) in
    let left : steps plan - n ≡ suc (steps plan - (n + 1)) = omega arith in
    let level = level-further plan n m ps q.pos.block is front low ∙ ap (λ k. level_from k plan m q.pos.block) left ∙ level-first plan m (steps plan - (n + 1)) q qs has in
    rw (other, level) refl

-- the mark at a place stands there
pub mark-pos : (plan : Plan) (place : ℕ) → (mark_at plan place).pos ≡ place
mark-pos plan place = cond_both (place == 0) opening_mark (mark place (level_from (steps plan) plan opening_mark place)) (λ (m : Mark). m.pos ≡ place) (λ e. sym (eqb-true place 0 e)) (λ e. refl)
