-- A cursor stands for its film at each mark of it.
use Rattle.std.proofs.Common.{◌≡◌, ℕ, ◌<◌, ◌≤◌, List, length, Result, subst}
use Rattle.std.proofs.lemmas.Bool.{cond_both}
use Rattle.std.specs.Prelude.{◌==◌, IfOk}
use Rattle.mc_packet.specs.declared.walk.Mark.{Mark}
use Rattle.mc_tracks.specs.declared.refused.Refused.{Refused}
use Rattle.mc_walk.specs.declared.plan.Plan.{Plan}
use Rattle.mc_walk.specs.Walk.{steps}
use Rattle.mc_walk.specs.Parts.{part_at, place_of, level_of, IsMark}
use Rattle.mc_walk.proofs.Enough.{part-to}
use Rattle.mc_walk.proofs.Joining.{mark-lies}
use Rattle.mc_walk.proofs.Opened.{opened-lies}
use Rattle.mc_cursor.specs.declared.cursor.Cursor.{Cursor}
use Rattle.mc_cursor.specs.Standing.{plan_for, at_mark, IsKnown, StandsFor}

-- an offset that is the opening's or within the film
place_within : (plan : Plan) (m : Mark) → plan.opening ≤ length plan.octets → m.pos ≤ length plan.octets → place_of plan m ≤ length plan.octets
place_within plan m opening within = cond_both (m.pos == 0) _ _ (λ p. p ≤ length plan.octets) (λ e. opening) (λ e. within)

part_within : (plan : Plan) (m : Mark) → plan.opening ≤ length plan.octets → place_of plan m ≤ length plan.octets → place_of plan (part_at plan m).to ≤ length plan.octets
part_within plan m opening within =
    let onward = part-to (steps plan) plan (place_of plan m) (level_of m) within in
    place_within plan (part_at plan m).to opening onward.1

known_lies : (octets : List ℕ) (cursor : Cursor) → IsKnown octets cursor → (0 < cursor.opening) × (cursor.opening ≤ length octets)
known_lies octets cursor known =
    subst (λ (r : Result Plan Refused). IfOk r (λ plan. (0 < plan.opening) × (plan.opening ≤ length plan.octets))) known (opened-lies octets)

pub opening_lies : (octets : List ℕ) (cursor : Cursor) → StandsFor octets cursor → (0 < cursor.opening) × (cursor.opening ≤ length octets)
opening_lies octets cursor stands = known_lies octets cursor stands.opened

opening_within : (octets : List ℕ) (cursor : Cursor) → StandsFor octets cursor → cursor.opening ≤ length octets
opening_within octets cursor stands = (opening_lies octets cursor stands).1

-- it stands for it at the end of the part that was read
pub stands_after : (octets : List ℕ) (cursor : Cursor) (to : Mark) → StandsFor octets cursor → to ≡ (part_at (plan_for octets cursor) cursor.mark).to
    → StandsFor octets (at_mark cursor to)
stands_after octets cursor to stands is = record {
  opened = stands.opened;
  within = rw is (part_within (plan_for octets cursor) cursor.mark (opening_within octets cursor stands) stands.within);
}

-- and at each mark, wherever it stood before
pub stands_at_mark : (octets : List ℕ) (cursor : Cursor) (m : Mark) → IsKnown octets cursor → IsMark (plan_for octets cursor) m → StandsFor octets (at_mark cursor m)
stands_at_mark octets cursor m known is = record {
  opened = known;
  within = mark-lies (plan_for octets cursor) m (known_lies octets cursor known).1 is;
}
