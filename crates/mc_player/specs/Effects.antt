-- What a taken request, an outcome and a learned view bring with them, beside the reply.
use Rattle.std.specs.Prelude.{ℕ, Bool, true, false, not, ◌&&◌, if◌then◌else◌, List, [], ◌∷◌, ◌++◌, drop, Option, Some, None, is_some}
use Rattle.mc_dispatch.specs.declared.request.ClientNo.{ClientNo}
use Rattle.mc_packet.specs.declared.cache.CacheView.{CacheView}
use Rattle.mc_ring.specs.declared.event.Event.{Event}
use Rattle.mc_ring.specs.declared.event.Event.TheVariants as event
use Rattle.mc_player.specs.declared.record.Order.{Order}
use Rattle.mc_player.specs.declared.record.Order.TheVariants as order
use Rattle.mc_player.specs.declared.record.Outcome.{Outcome}
use Rattle.mc_player.specs.declared.record.Outcome.TheVariants as outcome
use Rattle.mc_player.specs.declared.record.CoreRecord.{CoreRecord}
use Rattle.mc_player.specs.declared.record.CoreRecord.TheVariants.{Learned, Wrote, Took, Ordered, Did, Pushed, Replied}
use Rattle.mc_player.specs.declared.deed.Deed.{Deed}
use Rattle.mc_player.specs.declared.deed.Deed.TheVariants as deed
use Rattle.mc_player.specs.Facts.{life_of, next_deed}
use Rattle.mc_player.specs.Journals.{clients, out, worked}
use Rattle.mc_player.specs.Lives.{Life, Table, has_on}

-- the facts are written with a mask, an event is pushed to a client, an order is given
pub data Effect : Type 0 where
  Write : ℕ → Effect
  Push : ClientNo → Event → Effect
  Give : Order → Effect

-- ---- pushes

-- a living client that has not switched the event off
abbrev pub hears : Event → Option Life → Bool
hears e None = false
hears e (Some l) = has_on e l

-- a push of the event to each of these clients that hears it
abbrev pub pushes_to : Table → Event → List CoreRecord → List ClientNo → List Effect
pushes_to t e h [] = []
pushes_to t e h (c ∷ cs) =
    if hears e (life_of t c.0 h) then Push c e ∷ pushes_to t e h cs else pushes_to t e h cs

-- to each client, in order of creation
abbrev pub pushes : Table → Event → List CoreRecord → List Effect
pushes t e h = pushes_to t e h (clients h)

-- ---- a restart

abbrev pub restart_after : Outcome → Bool → Bool
restart_after (outcome.Loaded path tracks set) before = true
restart_after outcome.Sought before = true
restart_after x before = before

-- the clients are still to be told that reading began anew: since an opening or a seek no view was
-- learned that plays
abbrev pub restart : List CoreRecord → Bool
restart [] = false
restart (Did by x ∷ h) = restart_after x (restart h)
restart (Learned by view ∷ h) = restart h && not view.playing
restart (_ ∷ h) = restart h

-- ---- plans

-- a quit tells each client that the file ends, with reason 3, and then of the shutdown
abbrev pub plan_deed : Table → List CoreRecord → Deed → List Effect
plan_deed t h (deed.Pauses on) = Write 1 ∷ []
plan_deed t h (deed.Mutes on) = Write 2 ∷ []
plan_deed t h (deed.Seeks time dir) = Give (order.Seek time dir) ∷ []
plan_deed t h (deed.Selects set at) = Give (order.Select set at) ∷ []
plan_deed t h (deed.Sends words) = pushes t (event.Message words) h
plan_deed t h (deed.SendsTo c words) = pushes_to t (event.Message words) h (c ∷ [])
plan_deed t h deed.Quits = pushes t (event.EndFile 3) h ++ pushes t event.Shutdown h
plan_deed t h d = []

-- a loaded file is told before and behind the writing of it; fields 4 and 8 are the file and the
-- selection
abbrev pub plan_did : Table → List CoreRecord → Outcome → List Effect
plan_did t h (outcome.Loaded path tracks set) =
    pushes t event.StartFile h ++ Write 12 ∷ pushes t event.FileLoaded h
plan_did t h outcome.Sought = pushes t event.Seek h
plan_did t h (outcome.Selected set) = Write 8 ∷ []
plan_did t h (outcome.Refused why) = []

abbrev pub plan_restart : Table → List CoreRecord → Bool → List Effect
plan_restart t h false = []
plan_restart t h true = pushes t event.PlaybackRestart h

-- the view is written, and tells of the restart that is due where it plays
abbrev pub plan_view : Table → List CoreRecord → CacheView → List Effect
plan_view t h view = Write 16 ∷ plan_restart t h (restart h && view.playing)

-- what is still to come of the last of them
abbrev pub rest : Table → List CoreRecord → List Effect
rest t [] = []
rest t (Took by c n id ∷ h) = plan_deed t h (next_deed t h)
rest t (Did by x ∷ h) = plan_did t h x
rest t (Learned by view ∷ h) = plan_view t h view
rest t (Wrote by mask f ∷ h) = drop 1 (rest t h)
rest t (Pushed by c e kept ∷ h) = drop 1 (rest t h)
rest t (Ordered by o ∷ h) = drop 1 (rest t h)
rest t (Replied by c n e ∷ h) = rest t h
rest t (_ ∷ h) = []

-- a request is worked and no order is out, so that its reply is due
abbrev pub reply_due : List CoreRecord → Bool
reply_due h = is_some (worked h) && not (is_some (out h))
