use Rattle.std.proofs.Common.{◌≡◌, ◌+◌, List, sym, subst, take, ◌++◌, ◌∷◌, [], arith, slice_index_or}
use Rattle.std.proofs.lemmas.List.{take_more}
use Rattle.mc_dispatch.specs.declared.request.ClientNo.{ClientNo}
use Rattle.mc_deeds.specs.Flags.{AreFlagged}
use Rattle.mc_deeds.proofs.Flagging.{flagged_more, placed_for}
use Rattle.mc_deeds.proofs.flags.flag_all.Goals as goal

pub flag_at-requires : goal.flag_at-requires
flag_at-requires g c = placed_for _ _ _ _ _ _ _ _ c.loop-c.invariant

pub loop-c-preserved : goal.loop-c-preserved
loop-c-preserved g c =
    let d : ClientNo = slice_index_or c.args.order.now c.loop-c.c-index (record { 0 = 0 }) in
    let more : take (c.loop-c.c-index + 1) c.args.order.now ≡ take c.loop-c.c-index c.args.order.now ++ d ∷ [] = take_more c.args.order.now c.loop-c.c-index (record { 0 = 0 }) (omega arith) in
    subst (λ (xs : List ClientNo). AreFlagged g.M.Meaning.value c.args.table.now c.args.facts.now c.args.mask xs c.args.clients.now c.flag_at.new.clients) (sym more)
    (flagged_more _ _ _ _ _ d _ _ _ c.loop-c.invariant (record { here = c.flag_at.ensures.here; none = c.flag_at.ensures.none; others = c.flag_at.ensures.others }))
