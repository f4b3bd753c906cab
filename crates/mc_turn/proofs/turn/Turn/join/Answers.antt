use Rattle.std.proofs.Common.{rules, arith, ap, subst, ◌∙◌, ◌+◌, ◌≡◌, length}
use Rattle.mc_turn.proofs.Keeps.{learns}
use Rattle.mc_turn.proofs.Passes.{joins}
use Rattle.mc_turn.proofs.Rest.{rests_outside, sum_of, rests_after, carried_both}
use Rattle.mc_turn.specs.Passes.{Known, Carried}
use Rattle.mc_turn.specs.Rule.{known_of}
use Rattle.mc_turn.proofs.turn.Turn.join.Goals as goal

pub join_seat-requires : goal.join_seat-requires
join_seat-requires g c =
    let mine = rests_outside _ _ _ c.pass.invariant.1 (ap (λ k. k.inside) c.pass.view_is ∙ c.requires.outside.0) in
    let his = rests_outside _ _ _ c.other.invariant.1 (ap (λ k. k.inside) c.other.view_is ∙ c.requires.outside.1) in
    (search rules, search rules, his.1, search rules, joins _ _ _ _ _ _ mine.0 his.0)

pub load-requires : goal.load-requires
load-requires g c = (search rules, search rules, learns _ _ _ _ _)

pub overflow_add-pass : goal.overflow_add-pass
overflow_add-pass g c =
    let sum : c.pass.inside.count + c.other.inside.count ≡ length c.join_seat.new.seat.me.0.numbers = sum_of g.T.Kept.caller _ c.load.new.seat.me c.pass.inside.seat.me.0 c.other.inside.seat.me.0 _ c.join_seat.ensures.2 _ _ c.pass.invariant.0 c.other.invariant.0 in
    let small = c.load.ensures.2.1 in omega arith

pub invariant_of-pass : goal.invariant_of-pass
invariant_of-pass g c =
    let mine = rests_outside _ _ _ c.pass.invariant.1 (ap (λ k. k.inside) c.pass.view_is ∙ c.requires.outside.0) in
    rests_after g.T.Kept.caller _ _ c.pass.inside.seat.me.0 c.other.inside.seat.me.0 _ c.join_seat.ensures.2 _ _ _ c.load.ensures.2 c.pass.invariant.0 c.other.invariant.0 mine.1

pub returns-clause-mine : goal.returns-clause-mine
returns-clause-mine g c = let b = carried_both g.T.Kept.caller _ c.load.new.seat.me c.pass.inside.seat.me.0 c.other.inside.seat.me.0 _ c.join_seat.ensures.2 c.pass.inside.seat.table_id c.other.inside.seat.table_id c.load.new.seat.table_id c.load.ensures.2 in
    subst (λ (k : Known _). Carried g.T.Kept.caller k (known_of c.load.new.seat.table_id c.load.new.seat.me.0)) c.pass.view_is b.0

pub returns-clause-theirs : goal.returns-clause-theirs
returns-clause-theirs g c = let b = carried_both g.T.Kept.caller _ c.load.new.seat.me c.pass.inside.seat.me.0 c.other.inside.seat.me.0 _ c.join_seat.ensures.2 c.pass.inside.seat.table_id c.other.inside.seat.table_id c.load.new.seat.table_id c.load.ensures.2 in
    subst (λ (k : Known _). Carried g.T.Kept.caller k (known_of c.load.new.seat.table_id c.load.new.seat.me.0)) c.other.view_is b.1
