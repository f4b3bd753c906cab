-- What holds after each record of an allowed journal.
use Rattle.std.proofs.Common.{◌≡◌, ℕ, ◌<◌, ◌≤◌, Bool, true, false, ◌||◌, List, [], ◌++◌, Option, None}
use Rattle.std.specs.Prelude.{IfSome, map}
use Rattle.std.specs.List.{filter, AllByRecursion}
use Rattle.mc_packet.specs.declared.choice.Choice.{Choice}
use Rattle.mc_packet.specs.declared.choice.Kind.{Kind}
use Rattle.mc_packet.specs.declared.walk.Ending.{Ending}
use Rattle.mc_packet.specs.declared.packet.Packet.{Packet}
use Rattle.mc_journal.specs.Told.{Told, told}
use Rattle.mc_journal.specs.declared.record.DemuxRecord.{DemuxRecord}
use Rattle.mc_packet.specs.Choices.{has, is_known}
use Rattle.mc_journal.specs.Films.{fresh, Film, at, first_lane, IsRegular}
use Rattle.mc_journal.specs.Ranges.{Range}
use Rattle.mc_journal.specs.Readings.{selected, read_from, given, pending, waits}
use Rattle.mc_journal.specs.Stands.{stand}
use Rattle.mc_journal.specs.Views.{head}
use Rattle.mc_journal.proofs.Lists.{all_kept}
use Rattle.mc_journal.proofs.Rests.{rest}

-- of any range: with the ending all the film lies before the mark, each span reaches the mark, and its tracks are selected
pub record IsSound (ps : List Packet) (E : Ending) (set : Choice) (r : Range) : Type 0 where
  pub ended : IfSome r.ending (λ e. (e ≡ E) × AllByRecursion (λ p. at p < first_lane r.mark) ps)
  pub marked : (k : ℕ) → IfSome (r.spans k) (λ s. first_lane r.mark ≤ s.to)
  pub owned : (k : ℕ) → IfSome (r.spans k) (λ s. has set k ≡ true)

-- of the current range: each head lies past its span's begin, and a track that waits has no span
pub record IsRead (set : Choice) (waiting : ℕ → Bool) (place : ℕ → ℕ) (r : Range) : Type 0 where
  pub ahead : (k : ℕ) → has set k ≡ true → IfSome (r.spans k) (λ s. s.from ≤ place k)
  pub blank : (k : ℕ) → has set k ≡ true → waiting k ≡ true → r.spans k ≡ None

-- of a track that is read: what was given and what is left are a reading from one place, which on a regular film is the right one
pub record IsGoing (ps : List Packet) (known : Kind → ℕ → Bool) (k : ℕ) (gave : List Told) (place from : ℕ) : Type 0 where
  pub start : ℕ
  pub told : gave ++ map told (rest k place ps) ≡ map told (rest k start ps)
  pub exact : IsRegular ps known → rest k start ps ≡ fresh k from ps

pub record Facts (ps : List Packet) (E : Ending) (known : Kind → ℕ → Bool) (set : Choice) (current : Option Range) (others : List Range)
    (pend : Bool) (waiting : ℕ → Bool) (place : ℕ → ℕ) (gave : ℕ → List Told) (from : ℕ → ℕ) : Type 0 where
  pub fits : is_known known set ≡ true
  pub here : IfSome current (λ r. IsSound ps E set r × (pend ≡ false) × IsRead set waiting place r)
  pub there : AllByRecursion (IsSound ps E set) others
  pub blank : (k : ℕ) → has set k ≡ true → (pend || waiting k) ≡ true → gave k ≡ []
  pub going : (k : ℕ) → has set k ≡ true → (pend || waiting k) ≡ false → IsGoing ps known k (gave k) (place k) (from k)

-- they hold of a journal
abbrev pub Holds : Film → List DemuxRecord → Type 0
Holds film h = Facts film.packets film.ending film.known (selected h) (stand film.packets h).current (stand film.packets h).others
    (pending h) (λ k. waits k h) (λ k. head film.packets k h) (λ k. given k h) (λ k. read_from film.packets k h)

-- fewer other ranges
pub facts_kept : {ps : List Packet} {E : Ending} {known : Kind → ℕ → Bool} {set : Choice} {current : Option Range} {others : List Range}
    {pend : Bool} {waiting : ℕ → Bool} {place : ℕ → ℕ} {gave : ℕ → List Told} {from : ℕ → ℕ} (test : Range → Bool)
    → Facts ps E known set current others pend waiting place gave from → Facts ps E known set current (filter test others) pend waiting place gave from
facts_kept {ps} {E} {set = set} {others = others} test f = record { fits = f.fits; here = f.here; there = all_kept (IsSound ps E set) test others f.there; blank = f.blank; going = f.going }
