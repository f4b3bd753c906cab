-- Replies that are due.
use Rattle.std.specs.Prelude.{◌≡◌, ℕ, ℤ, ◌+◌, ◌≤◌, false, if◌then◌else◌, List, [], drop, length, reverse, None, IsSomeAnd}
use Rattle.mc_dispatch.specs.declared.request.ClientNo.{ClientNo}
use Rattle.mc_dispatch.specs.declared.request.Request.{Request}
use Rattle.mc_ring.specs.declared.event.Event.{Event}
use Rattle.mc_props.specs.declared.facts.Facts.{Facts}
use Rattle.mc_props.specs.declared.reading.Reading.{Reading}
use Rattle.mc_player.specs.Deeds.{command_error, deed_error, deed_value}
use Rattle.mc_player.specs.Effects.{reply_due}
use Rattle.mc_player.specs.Journals as told
use Rattle.mc_player.specs.Rules.{IsReply}
use Rattle.mc_state.specs.Pushing.{coming}
use Rattle.mc_state.specs.Stands.{CoreState}

-- the requests from a place on are due for their replies, nothing else is, and there is room
pub record IsDrained (value : ℕ → Facts → Reading) (requests : List Request) (i : ℕ)
    (s : CoreState) : Type 0 where
  pub due : told.due (reverse s.journal) ≡ drop i requests
  pub rest : coming value s ≡ []
  pub reply : reply_due (reverse s.journal) ≡ false
  pub room : length requests ≤ s.spare + i

-- the error of the reply to what is worked
abbrev pub error_now : CoreState → ℤ
error_now s = if s.refused then command_error else deed_error s.deed

-- nothing is due but the reply to what is worked, and this is it
pub record IsEnd (value : ℕ → Facts → Reading) (c : ClientNo) (n : ℕ) (e : Event)
    (s : CoreState) : Type 0 where
  pub none_due : told.due (reverse s.journal) ≡ []
  pub none_left : coming value s ≡ []
  pub none_out : s.out ≡ None
  pub reply : IsSomeAnd s.work (λ q. IsReply c n e q (error_now s) (deed_value s.deed))
