-- What ends with an order's outcome.
use Rattle.std.specs.Prelude.{◌≡◌, ℕ, IsTrue, Option, Some, None}
use Rattle.mc_client.specs.Client.{is_reply}
use Rattle.mc_props.specs.declared.facts.Facts.{Facts}
use Rattle.mc_props.specs.declared.reading.Reading.{Reading}
use Rattle.mc_deeds.specs.declared.replies.End.{End}
use Rattle.mc_state.specs.Replying.{IsEnd}
use Rattle.mc_state.specs.Stands.{CoreState}

-- nothing is due but this
abbrev pub EndsNow : (ℕ → Facts → Reading) → Option End → CoreState → Type 0
EndsNow value None s = s.work ≡ None
EndsNow value (Some e) s = IsEnd value e.client e.ticket e.reply.event s
    × (e.reply.told ≡ e.reply.event) × IsTrue (is_reply e.reply.event)
