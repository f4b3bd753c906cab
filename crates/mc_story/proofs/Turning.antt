-- A turn of the core, and a wait, keep the tie.
use Rattle.std.proofs.Common.{◌≡◌, inl, inr, ℕ, true, List, Option, Some, None, sym, subst, ◌∙◌}
use Rattle.mc_journal.specs.declared.record.DemuxRecord.{DemuxRecord}
use Rattle.mc_journal.specs.Films.{Film}
use Rattle.mc_journal.specs.Used.{is_still}
use Rattle.mc_player.specs.declared.record.Order.{Order}
use Rattle.mc_player.specs.Lives.{Table}
use Rattle.mc_player.specs.Orders.{Opening}
use Rattle.mc_story.specs.Steps.{Both}
use Rattle.mc_story.specs.Tie.{IsTied}
use Rattle.mc_story.specs.Turns.{CoreTurn, TurnEnds, TurnInPart}
use Rattle.mc_story.proofs.Stepping.{carrying_tied, doing_tied, learning_tied, working_tied}

ends_tied : (n : ℕ) (film : Film) (w : Opening) (o : Option Order) (worked s' : Both)
    → is_still film.packets worked.hd ≡ true → TurnEnds w n o worked s' → IsTied n film w worked → IsTied n film w s'
ends_tied n film w None worked s' f e i = subst (λ (k : Both). IsTied n film w k) (sym e) i
ends_tied n film w (Some o) worked s' f e i = doing_tied n n film w e.0 s' e.2 (carrying_tied n film w worked e.0 f e.1 i)

-- learning and working leave the demuxer at rest
still_at : (film : Film) (hd hd' hd'' : List DemuxRecord) → hd'' ≡ hd' → hd' ≡ hd → is_still film.packets hd ≡ true → is_still film.packets hd'' ≡ true
still_at film hd hd' hd'' a b f = subst (λ (k : List DemuxRecord). is_still film.packets k ≡ true) (sym (a ∙ b)) f

pub turn_tied : (n : ℕ) (film : Film) (w : Opening) (t : Table) (s s' : Both)
    → is_still film.packets s.hd ≡ true → CoreTurn film w t n s s' → IsTied n film w s → IsTied n film w s'
turn_tied n film w t s s' f p i =
    let worked : IsTied n film w p.worked = working_tied n n film w t p.learnt p.worked p.works (learning_tied n n film w s p.learnt p.learns i) in
    ends_tied n film w p.worked.order p.worked s' (still_at film s.hd p.learnt.hd p.worked.hd p.works.demux p.learns.demux f) p.ends worked

-- a turn in part
pub part_tied : (n : ℕ) (film : Film) (w : Opening) (t : Table) (s s' : Both)
    → is_still film.packets s.hd ≡ true → TurnInPart film w t n s s' → IsTied n film w s → IsTied n film w s'
part_tied n film w t s s' f p i = elim p [
  | inl l ↦ learning_tied n n film w s s' l i
  | inr q ↦ elim q [
    | inl l ↦ working_tied n n film w t l.learnt s' l.works (learning_tied n n film w s l.learnt l.learns i)
    | inr l ↦ carrying_tied n film w l.worked s' (still_at film s.hd l.learnt.hd l.worked.hd l.works.demux l.learns.demux f) l.carries
        (working_tied n n film w t l.learnt l.worked l.works (learning_tied n n film w s l.learnt l.learns i))
  ]
]
