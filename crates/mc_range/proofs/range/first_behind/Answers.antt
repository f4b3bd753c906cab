use Rattle.std.proofs.Common.{◌≡◌, ℕ, ◌+◌, ◌^◌, ◌<◌, ◌≤◌, rules, Option, Some, None, arith, subst, sym}
use Rattle.std.specs.Prelude.{IfSome}
use Rattle.std.specs.List.{find}
use Rattle.mc_packet.specs.declared.packet.Packet.{Packet}
use Rattle.mc_packet.specs.declared.packet.Pos.{Pos}
use Rattle.std.specs.Option.{option_map}
use Rattle.mc_journal.specs.Films.{rank}
use Rattle.mc_queue.specs.Places.{is_from}
use Rattle.mc_queue.specs.Queue.{QueueState, IsQueue}
use Rattle.mc_queue.proofs.Cutting.{found_within}
use Rattle.mc_queue.proofs.Rising.{rank_is}
use Rattle.mc_range.proofs.range.first_behind.Goals as goal

before_end : (o : Option Packet) (from : ℕ) (to : Pos) → to.block < 2 ^ 64 → to.lane < 65536 → IfSome (option_map (λ p. p.pos) o) (λ x. (from ≤ rank x) × (rank x < rank to))
    → IfSome o (λ p. rank p.pos + 1 < 2 ^ 80)
before_end None from to b l h = tt
before_end (Some p) from to b l h = let e = rank_is to in let m = h.1 in omega arith

pub returns-clause-below : goal.returns-clause-below
returns-clause-below c =
    let q : QueueState = c.args.queue.now in
    let end : Pos = c.to-end.result in
    let block : end.block < 2 ^ 64 = search rules in
    let lane : end.lane < 65536 = search rules in
    let i : IsQueue q = c.to-end.ensures.queue in
    let to : end ≡ q.to = c.to-end.ensures.value in
    let f = found_within (is_from (rank c.args.place)) q.track (rank q.from) (rank q.to) q.packets i.rise in
    let g = subst (λ (x : Pos). IfSome (option_map (λ p. p.pos) (find (is_from (rank c.args.place)) q.packets)) (λ p. (rank q.from ≤ rank p) × (rank p < rank x))) (sym to) f in
    subst (λ (o : Option Packet). IfSome o (λ p. rank p.pos + 1 < 2 ^ 80)) (sym c.first_at.ensures)
    (before_end (find (is_from (rank c.args.place)) q.packets) (rank q.from) end block lane g)
