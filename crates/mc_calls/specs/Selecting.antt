-- What a selection answers and leaves.
use Rattle.std.specs.Prelude.{◌≡◌, ℕ, false, ◌||◌, not, List, [], ◌∷◌, ◌++◌, map, Option, Some, None, Result, Ok, Err, ℤ}
use Rattle.mc_packet.specs.declared.choice.Choice.{Choice}
use Rattle.mc_journal.specs.declared.record.DemuxRecord.{DemuxRecord}
use Rattle.mc_journal.specs.declared.record.DemuxRecord.TheVariants.{Dropped, Sought, Switched}
use Rattle.mc_journal.specs.declared.record.Removal.{Removal}
use Rattle.mc_journal.specs.declared.record.Sought.TheVariants.{Sent}
use Rattle.mc_packet.specs.Choices.{has, lead_of, nothing}
use Rattle.mc_journal.specs.Choices.{kept_of}
pub use Rattle.mc_tracks.specs.Selection.{choice_of, first_twin, is_coded, is_listed_as, is_same_kind, is_twin, knows, refusal_of}
use Rattle.mc_cache.specs.Cache.{CacheState, IsCache}
use Rattle.mc_cache.specs.Changing.{IsRetracked}
use Rattle.mc_calls.specs.declared.answer.Selected.{Selected}
use Rattle.mc_calls.specs.declared.answer.Selected.TheVariants.{Same, Changed}
use Rattle.mc_calls.specs.declared.answer.DemuxError.{DemuxError}
use Rattle.mc_calls.specs.declared.answer.DemuxError.TheVariants.{Refused, JournalFull, NoMemory}
use Rattle.mc_calls.specs.declared.waiting.Target.{Target}
use Rattle.mc_calls.specs.State.{DemuxState, renewed}
use Rattle.mc_calls.specs.Keeping.{IsAsBefore}
use Rattle.mc_calls.specs.Records.{HasRoom, IsFull, WroteAll}
use Rattle.mc_calls.specs.Seeking.{IsRefused}
use Rattle.mc_calls.specs.Trimming.{Trims}

-- ---- what is left

-- the tracks of a set that were not selected, or that wait
abbrev pub added_to : Choice → DemuxState → Choice
added_to set d = kept_of set (λ track. not (has d.set track) || has d.waiting track)

-- they wait, unless a seek is pending, which finds all starts
abbrev pub waiting_after : Option Target → Choice → Choice
waiting_after (Some s) added = nothing
waiting_after None added = added

-- a pending seek is sent again, of the new set
abbrev pub sought_again : ℕ → Choice → Option Target → List DemuxRecord
sought_again by set None = []
sought_again by set (Some s) = Sought by set s.t s.dir Sent ∷ []

-- the selection's own records: itself, and a pending seek again
abbrev pub own_records : ℕ → Choice → ℤ → DemuxState → List DemuxRecord
own_records by set at d = Switched by set (added_to set d) at ∷ sought_again by set d.seeking

-- the records of packets that went
abbrev pub told_drops : ℕ → List Removal → List DemuxRecord
told_drops by drops = map (λ (m : Removal). Dropped by m) drops

-- A selection that is carried out. By steps: the cache keeps the queues of tracks that stay, its drops are told behind the
-- selection's own records, and then packets went as the limit asks. In all: the set is selected, what is added waits, nothing
-- failed, no end was told, and what a job brings under an older number is stale
pub record Switches (by : ℕ) (set : Choice) (at : ℤ) (old new : DemuxState) : Type 0 where
  pub drops : List Removal
  pub left : CacheState
  pub left_is : IsCache left
  pub retracked : IsRetracked set drops old.cache left
  pub trims :
      Trims by old.heads left (old.journal ++ (own_records by set at old ++ told_drops by drops)) new.cache new.journal
  pub changed : new ≡ record (renewed false new old) {
    set = set;
    waiting = waiting_after old.seeking (added_to set old);
    switch = record { lead = lead_of set; at = at };
    failure = None;
    ended = nothing;
  }
  pub limits_are : new.cache.limits ≡ old.cache.limits
  pub wrote : WroteAll by (own_records by set at old) old.journal new.journal

-- a selection of the tracks of these numbers
abbrev pub Selects : ℕ → List ℕ → ℤ → DemuxState → Result Selected DemuxError → DemuxState → Type 0
Selects by numbers at old (Ok Same) new =
    HasRoom old.journal × (refusal_of old.list numbers ≡ None) × (choice_of old.list numbers ≡ old.set) × (new ≡ old)
Selects by numbers at old (Ok Changed) new =
    HasRoom old.journal × (refusal_of old.list numbers ≡ None) × (choice_of old.list numbers ≡ old.set → ⊥)
    × Switches by (choice_of old.list numbers) at old new
Selects by numbers at old (Err (Refused why)) new =
    HasRoom old.journal × (refusal_of old.list numbers ≡ Some why) × IsRefused by why old new
Selects by numbers at old (Err JournalFull) new = IsFull old.journal × (new ≡ old)
Selects by numbers at old (Err NoMemory) new = HasRoom old.journal × IsAsBefore old new
