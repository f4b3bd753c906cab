-- The steps of a world of a demuxer and a player, over its two journals alone: what each step adds
-- to them, and what it does to the order that is out. Journals have their newest record first.
use Rattle.std.specs.Prelude.{◌≡◌, ◌⊎◌, ℕ, ◌==◌, Bool, true, false, not, List, [], ◌∷◌, ◌++◌, Option, Some, None, ℤ}
use Rattle.std.specs.List.{AllByRecursion}
use Rattle.mc_packet.specs.declared.choice.Choice.{Choice}
use Rattle.mc_packet.specs.declared.choice.Dir.{Dir}
use Rattle.mc_packet.specs.declared.choice.Why.{Why}
use Rattle.mc_packet.specs.declared.choice.Why.TheVariants.{NoTrack}
use Rattle.mc_dispatch.specs.declared.request.ClientNo.{ClientNo}
use Rattle.mc_journal.specs.declared.record.Sought.{Sought as How}
use Rattle.mc_journal.specs.declared.record.Sought.TheVariants.{Sent}
use Rattle.mc_journal.specs.declared.record.DemuxRecord.{DemuxRecord}
use Rattle.mc_journal.specs.declared.record.DemuxRecord.TheVariants.{Sought, Switched, Refused}
use Rattle.mc_journal.specs.Films.{Film}
use Rattle.mc_journal.specs.Readings.{selected, pending}
use Rattle.mc_journal.specs.Views.{view}
use Rattle.mc_player.specs.declared.record.Order.{Order}
use Rattle.mc_player.specs.declared.record.Order.TheVariants as order
use Rattle.mc_player.specs.declared.record.Outcome.{Outcome}
use Rattle.mc_player.specs.declared.record.Outcome.TheVariants as outcome
use Rattle.mc_player.specs.declared.record.CoreRecord.{CoreRecord}
use Rattle.mc_player.specs.declared.record.CoreRecord.TheVariants.{Learned, Wrote, Took, Ordered, Did, Pushed, Replied}
use Rattle.mc_player.specs.Facts.{quits}
use Rattle.mc_player.specs.Journals.{loading, queued}
use Rattle.mc_player.specs.Lives.{Table}
use Rattle.mc_player.specs.Orders.{Opening, opened}

-- ---- what is added

-- no seek, selection or refusal
abbrev pub is_plain : DemuxRecord → Bool
is_plain (Sought by set t dir how) = false
is_plain (Switched by set added at) = false
is_plain (Refused by why) = false
is_plain r = true

-- a seek, a selection or a refusal bears another number
abbrev pub is_foreign : ℕ → DemuxRecord → Bool
is_foreign n (Sought by set t dir how) = not (by == n)
is_foreign n (Switched by set added at) = not (by == n)
is_foreign n (Refused by why) = not (by == n)
is_foreign n r = true

-- neither a view, nor an order, nor an outcome
abbrev pub is_inner : CoreRecord → Bool
is_inner (Learned by v) = false
is_inner (Ordered by o) = false
is_inner (Did by x) = false
is_inner r = true

-- what a view, a request or an outcome brings
abbrev pub is_effect : CoreRecord → Bool
is_effect (Wrote by mask facts) = true
is_effect (Pushed by client e kept) = true
is_effect (Replied by client ticket e) = true
is_effect r = false

-- only such records come in front
pub record Adds {R : Type 0} (test : R → Bool) (old new : List R) : Type 0 where
  pub extras : List R
  pub are : AllByRecursion (λ r. test r ≡ true) extras
  pub grows : new ≡ extras ++ old

-- ---- what the demuxer adds

-- a seek: its record, and drops; or a refusal
abbrev pub SeekAdds : ℕ → ℤ → Dir → List DemuxRecord → Outcome → List DemuxRecord → Type 0
SeekAdds by t dir hd outcome.Sought new =
    (how : How) × Adds is_plain (Sought by (selected hd) t dir how ∷ hd) new
SeekAdds by t dir hd (outcome.Refused NoTrack) new = new ≡ Refused by NoTrack ∷ hd
SeekAdds by t dir hd x new = ⊥

-- a pending seek is sought again, of the new set
abbrev pub Again : ℕ → Choice → Bool → List DemuxRecord → List DemuxRecord → Type 0
Again by set false old new = new ≡ old
Again by set true old new = (t : ℤ) × (dir : Dir) × (new ≡ Sought by set t dir Sent ∷ old)

-- a selection of another set
pub record Switching (by : ℕ) (set : Choice) (at : ℤ) (hd new : List DemuxRecord) : Type 0 where
  pub added : Choice
  pub asked : List DemuxRecord
  pub again : Again by set (pending hd) (Switched by set added at ∷ hd) asked
  pub adds : Adds is_plain asked new

-- a selection: of the set that is selected it leaves all as it was
abbrev pub SelectAdds : ℕ → Choice → ℤ → List DemuxRecord → Outcome → List DemuxRecord → Type 0
SelectAdds by set at hd (outcome.Selected s) new =
    (s ≡ set) × (((set ≡ selected hd) × (new ≡ hd)) ⊎ Switching by set at hd new)
SelectAdds by set at hd x new = ⊥

-- what the driver's selection adds, which may also be refused
abbrev pub SwitchAdds : ℕ → Choice → ℤ → List DemuxRecord → List DemuxRecord → Type 0
SwitchAdds by set at hd new = (new ≡ hd) ⊎ Switching by set at hd new
    ⊎ ((why : Why) × (new ≡ Refused by why ∷ hd))

-- what a carried order comes to
abbrev pub Carries : Opening → ℕ → Order → List DemuxRecord → Outcome → List DemuxRecord → Type 0
Carries w by order.Load hd x new = (x ≡ opened w) × (new ≡ hd)
Carries w by (order.Seek t dir) hd x new = SeekAdds by t dir hd x new
Carries w by (order.Select set at) hd x new = SelectAdds by set at hd x new
Carries w by o hd x new = ⊥

-- ---- what the player adds

-- a request is taken, and what it brings follows
abbrev pub TookOne : ℕ → List CoreRecord → List CoreRecord → Type 0
TookOne by hc new = (client : ClientNo) × (ticket : ℕ) × (id : ℕ)
    × Adds is_effect (Took by client ticket id ∷ hc) new

-- there is nothing to do: the file was ordered, and no request waits or the player ends
abbrev pub Idles : Table → List CoreRecord → Type 0
Idles t hc = (loading hc ≡ true) × ((quits t hc ≡ true) ⊎ (queued hc ≡ []))

-- work gives no order where there is nothing to do, or where a request is answered at once; else it
-- gives that of the file, or a request's
abbrev pub Works : Table → ℕ → List CoreRecord → Option Order → List CoreRecord → Type 0
Works t by hc None new = ((new ≡ hc) × Idles t hc) ⊎ TookOne by hc new
Works t by hc (Some order.Load) new = new ≡ Ordered by order.Load ∷ hc
Works t by hc (Some o) new =
    (mid : List CoreRecord) × TookOne by hc mid × (new ≡ Ordered by o ∷ mid)

-- ---- steps

-- the two journals of a world, the order that is out, and what it came to where it was carried
pub record Both : Type 0 where
  pub hd : List DemuxRecord
  pub hc : List CoreRecord
  pub order : Option Order
  pub carried : Option Outcome

-- the player learns what the demuxer's cache is
pub record Learning (film : Film) (by : ℕ) (s s' : Both) : Type 0 where
  pub demux : s'.hd ≡ s.hd
  pub adds : Adds is_effect (Learned by (view film.packets s.hd) ∷ s.hc) s'.hc
  pub order : s'.order ≡ s.order
  pub carried : s'.carried ≡ s.carried

-- the player works, where no order is out
pub record Working (t : Table) (by : ℕ) (s s' : Both) : Type 0 where
  pub free : s.order ≡ None
  pub demux : s'.hd ≡ s.hd
  pub works : Works t by s.hc s'.order s'.hc
  pub carried : s'.carried ≡ s.carried

-- the order that is out is carried to the demuxer, once
pub record Carrying (w : Opening) (by : ℕ) (s s' : Both) : Type 0 where
  pub order : Order
  pub outcome : Outcome
  pub is_out : s.order ≡ Some order
  pub once : s.carried ≡ None
  pub carries : Carries w by order s.hd outcome s'.hd
  pub still : s'.hc ≡ s.hc
  pub same_order : s'.order ≡ s.order
  pub is_carried : s'.carried ≡ Some outcome

-- the player is told what the order came to
pub record Doing (by : ℕ) (s s' : Both) : Type 0 where
  pub order : Order
  pub outcome : Outcome
  pub is_out : s.order ≡ Some order
  pub was_carried : s.carried ≡ Some outcome
  pub demux : s'.hd ≡ s.hd
  pub adds : Adds is_effect (Did by outcome ∷ s.hc) s'.hc
  pub free : s'.order ≡ None
  pub fresh : s'.carried ≡ None

-- a client of the player calls, comes or goes
pub record Calling (s s' : Both) : Type 0 where
  pub demux : s'.hd ≡ s.hd
  pub adds : Adds is_inner s.hc s'.hc
  pub order : s'.order ≡ s.order
  pub carried : s'.carried ≡ s.carried

-- the demuxer does something for another caller
pub record Demuxing (P : List DemuxRecord → List DemuxRecord → Type 0) (s s' : Both) : Type 0 where
  pub adds : P s.hd s'.hd
  pub still : s'.hc ≡ s.hc
  pub order : s'.order ≡ s.order
  pub carried : s'.carried ≡ s.carried

-- all that others than caller n did since it last looked
pub record Seeing (n : ℕ) (s s' : Both) : Type 0 where
  pub demux : Adds (is_foreign n) s.hd s'.hd
  pub core : Adds is_inner s.hc s'.hc
  pub order : s'.order ≡ s.order
  pub carried : s'.carried ≡ s.carried
