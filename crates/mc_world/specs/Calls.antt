-- What a call of the demuxer or of the core makes of a world.
use Rattle.std.specs.Prelude.{◌≡◌, ℕ, List, ◌∷◌, Option, None, Result, Ok, Err, IfOk, OnOk, OnErr}
use Rattle.mc_packet.specs.declared.cache.CacheView.{CacheView}
use Rattle.mc_calls.specs.State.{DemuxState}
use Rattle.mc_calls.specs.declared.answer.DemuxError.{DemuxError}
use Rattle.mc_dispatch.specs.declared.request.ClientNo.{ClientNo}
use Rattle.mc_dispatch.specs.declared.call.Call.{Call}
use Rattle.mc_player.specs.declared.record.Answer.{Answer}
use Rattle.mc_player.specs.declared.record.Order.{Order}
use Rattle.mc_player.specs.declared.record.Outcome.{Outcome}
use Rattle.mc_player.specs.declared.record.CoreRecord.TheVariants.{Created, Destroyed, Did, Learned}
use Rattle.mc_player.specs.Facts.{after_did, with_view}
use Rattle.mc_core.specs.declared.core_error.CoreError.{CoreError}
use Rattle.mc_core.specs.Calls.{Answers}
use Rattle.mc_core.specs.Core.{CoreView, history, table_in}
use Rattle.mc_core.specs.Errors.{Refuses, full_or, refusal_of_call, refusal_of_client}
use Rattle.mc_state.specs.Growth.{Adds, Grew, is_effect, is_news}
use Rattle.mc_core.specs.Working.{Works, out_by}
use Rattle.mc_props.specs.declared.facts.Facts.{Facts}
use Rattle.mc_props.specs.declared.reading.Reading.{Reading}
use Rattle.mc_world.specs.declared.moves.Reply.{Reply}
use Rattle.mc_world.specs.declared.moves.WorldError.{WorldError}
use Rattle.mc_world.specs.Errors.{core_error, demux_error}
use Rattle.mc_world.specs.World.{WorldView}

-- the answer of the call, as the step's
abbrev pub told_as : {X E : Type 0} → (X → Reply) → (E → WorldError) → Result X E → Result Reply WorldError
told_as reply error (Ok x) = Ok (reply x)
told_as reply error (Err e) = Err (error e)

-- ---- the demuxer

abbrev pub DemuxCall : Type 0 → Type 1
DemuxCall X = DemuxState → Result X DemuxError → DemuxState → Type 0

-- this call of the demuxer was made, and all else is as it was
abbrev pub Demuxes : {X : Type 0} → DemuxCall X → (X → Reply) → WorldView → Result Reply WorldError → WorldView → Type 0
Demuxes {X} makes reply old r new = (answer : Result X DemuxError) × makes old.demux answer new.demux
    × (r ≡ told_as reply demux_error answer) × (new ≡ record old { demux = new.demux })

-- ---- the core

abbrev pub CoreCall : Type 0 → Type 1
CoreCall X = CoreView → Result X CoreError → CoreView → Type 0

-- this call of the core was made, the order that is out is the core's, and all else is as it was
abbrev pub Plays : {X : Type 0} → CoreCall X → (X → Reply) → WorldView → Result Reply WorldError → WorldView → Type 0
Plays {X} makes reply old r new = (answer : Result X CoreError) × makes old.core answer new.core
    × (r ≡ told_as reply core_error answer) × (new ≡ record old { core = new.core; order = new.core.out })

-- a call of this caller: when it is refused, and how, and what else is so of what it answers
pub record IsCall {X : Type 0} (by : ℕ) (refusal : Option CoreError) (fact : X → Type 0) (old : CoreView)
    (r : Result X CoreError) (new : CoreView) : Type 0 where
  pub refused : Refuses r (full_or (history old) refusal)
  pub holds : IfOk r fact
  pub grows : OnOk r (Grew by (history old) (history new))
  pub entries : new.entries ≡ old.entries
  pub err : OnErr r (new ≡ old)

-- neither the facts nor the order that is out changed
abbrev pub IsStill : CoreView → CoreView → Type 0
IsStill old new = (new.out ≡ old.out) × (new.facts ≡ old.facts)

abbrev pub Creates : ℕ → List ℕ → ℕ → CoreCall ClientNo
Creates by name size old r new = IsCall by (refusal_of_client (history old) name size)
    (λ c. (history new ≡ Created by c name size ∷ history old) × IsStill old new) old r new

abbrev pub Destroys : (ℕ → Facts → Reading) → ℕ → ClientNo → CoreCall Unit
Destroys value by c old r new = IsCall by (refusal_of_call (table_in value old) c (history old))
    (λ u. (history new ≡ Destroyed by c ∷ history old) × IsStill old new) old r new

abbrev pub Calls : (ℕ → Facts → Reading) → ℕ → ClientNo → Call → CoreCall Answer
Calls value by c call old r new = IsCall by (refusal_of_call (table_in value old) c (history old))
    (λ a. Answers by c call a (history old) (history new) × IsStill old new) old r new

-- the core learned a view, and what news it gives are told
abbrev pub Learns : ℕ → CacheView → CoreCall Unit
Learns by view old r new = IsCall by None
    (λ u. Adds is_news by (Learned by view ∷ history old) (history new) × (new.facts ≡ with_view old.facts view)
    × (new.out ≡ old.out)) old r new

abbrev pub DoesWork : (ℕ → Facts → Reading) → ℕ → CoreCall Order
DoesWork value by old r new = IsCall by None
    (λ o. Works (table_in value old) by (history old) o (history new) × (new.out ≡ out_by o)) old r new

-- the core was told an outcome, and its effects are told
abbrev pub Ends : ℕ → Outcome → CoreCall Unit
Ends by x old r new = IsCall by None
    (λ u. Adds is_effect by (Did by x ∷ history old) (history new) × (new.facts ≡ after_did x old.facts)
    × (new.out ≡ None)) old r new
