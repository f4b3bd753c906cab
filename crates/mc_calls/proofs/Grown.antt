-- What a call writes bears its caller's number.
use Rattle.std.proofs.Common.{◌≡◌, ℕ, ℤ, Some, None, Option, List, [], ◌∷◌, ◌++◌, refl, ap, sym, ◌∙◌}
use Rattle.std.proofs.lemmas.List.{append-nil}
use Rattle.std.specs.Prelude.{IfSome}
use Rattle.std.specs.List.{AllByRecursion}
use Rattle.mc_packet.specs.declared.choice.Choice.{Choice}
use Rattle.mc_packet.specs.declared.choice.Why.{Why}
use Rattle.mc_journal.specs.Callers.{Grew, by_of}
use Rattle.mc_journal.specs.declared.record.DemuxRecord.{DemuxRecord}
use Rattle.mc_journal.specs.declared.record.DemuxRecord.TheVariants.{Dropped, Joined}
use Rattle.mc_calls.specs.declared.answer.Reading.{Reading}
use Rattle.mc_calls.specs.declared.answer.Reading.TheVariants.{Gave, NotYet, End, Overfull, Fault, Wanting, Unselected}
use Rattle.mc_calls.specs.declared.waiting.Target.{Target}
use Rattle.mc_calls.specs.State.{DemuxState}
use Rattle.mc_calls.specs.Keeping.{IsAsBefore, IsRoomy}
use Rattle.mc_calls.specs.Readings.{record_of}
use Rattle.mc_calls.specs.Records.{IsExtra, IsLimitDrop, Wrote, WroteAll}
use Rattle.mc_calls.specs.Seeking.{IsRefused}
use Rattle.mc_calls.specs.Selecting.{Switches, own_records, sought_again}

-- ---- nothing

pub none_grew : (by : ℕ) (j : List DemuxRecord) → Grew by j j
none_grew by j = record { more = []; grows = sym (append-nil j); are = tt }

same_grew : (by : ℕ) (old new : List DemuxRecord) → new ≡ old → Grew by old new
same_grew by old new e = record { more = []; grows = e ∙ sym (append-nil old); are = tt }

pub journal_grew : (by : ℕ) (old new : DemuxState) → new.journal ≡ old.journal → Grew by old.journal new.journal
journal_grew by old new e = same_grew by old.journal new.journal e

pub roomy_grew : (by : ℕ) (old new : DemuxState) → IsRoomy old new → Grew by old.journal new.journal
roomy_grew by old new r = same_grew by old.journal new.journal (ap (λ (d : DemuxState). d.journal) r.changed)

pub before_grew : (by : ℕ) (old new : DemuxState) → IsAsBefore old new → Grew by old.journal new.journal
before_grew by old new b = same_grew by old.journal new.journal (ap (λ (d : DemuxState). d.journal) b.changed)

-- ---- one record, and drops or joins behind it

pub one_grew : (by : ℕ) (own : DemuxRecord) (old new : List DemuxRecord) → by_of own ≡ by → new ≡ old ++ own ∷ [] → Grew by old new
one_grew by own old new is e = record { more = own ∷ []; grows = e; are = (is, tt) }

weaker : (P Q : DemuxRecord → Type 0) → ((r : DemuxRecord) → P r → Q r) → (rs : List DemuxRecord) → AllByRecursion P rs → AllByRecursion Q rs
weaker P Q f [] all = tt
weaker P Q f (r ∷ rs) all = (f r all.0, weaker P Q f rs all.1)

both : (P : DemuxRecord → Type 0) (xs ys : List DemuxRecord) → AllByRecursion P xs → AllByRecursion P ys → AllByRecursion P (xs ++ ys)
both P [] ys p q = q
both P (x ∷ xs) ys p q = (p.0, both P xs ys p.1 q)

drop_by : (by : ℕ) (r : DemuxRecord) → IsLimitDrop by r → by_of r ≡ by
drop_by by (Dropped n removal) d = d.0
drop_by by _ d = absurd d

extra_by : (by : ℕ) (r : DemuxRecord) → IsExtra by r → by_of r ≡ by
extra_by by (Dropped n removal) d = d
extra_by by (Joined n) d = d
extra_by by _ d = absurd d

pub wrote_grew : (by : ℕ) (own : DemuxRecord) (old new : List DemuxRecord) → by_of own ≡ by → Wrote by own old new → Grew by old new
wrote_grew by own old new is w = record {
  more = own ∷ w.drops;
  grows = w.grows;
  are = (is, weaker (IsLimitDrop by) (λ r. by_of r ≡ by) (drop_by by) w.drops w.are);
}

pub wrote_all_grew : (by : ℕ) (own old new : List DemuxRecord) → AllByRecursion (λ r. by_of r ≡ by) own → WroteAll by own old new → Grew by old new
wrote_all_grew by own old new is w = record {
  more = own ++ w.extras;
  grows = w.grows;
  are = both (λ r. by_of r ≡ by) own w.extras is (weaker (IsExtra by) (λ r. by_of r ≡ by) (extra_by by) w.extras w.are);
}

-- ---- a refusal, an answer, a selection

pub refused_grew : (by : ℕ) (why : Why) (old new : DemuxState) → IsRefused by why old new → Grew by old.journal new.journal
refused_grew by why old new r = record { more = _; grows = ap (λ (d : DemuxState). d.journal) r.changed; are = (refl, tt) }

record_by : (by track : ℕ) (r : Reading) → IfSome (record_of by track r) (λ own. by_of own ≡ by)
record_by by track (Gave p) = refl
record_by by track NotYet = tt
record_by by track (End ending) = refl
record_by by track (Overfull forward max) = refl
record_by by track (Fault before after) = refl
record_by by track Wanting = refl
record_by by track Unselected = tt

own_by : (by : ℕ) (own : DemuxRecord) (o : Option DemuxRecord) → Some own ≡ o → IfSome o (λ r. by_of r ≡ by) → by_of own ≡ by
own_by by own None e h = absurd (cc)
own_by by own (Some r) e h = ap by_of (same own r e) ∙ h
  where
    same : (a b : DemuxRecord) → Some a ≡ Some b → a ≡ b
    same a b e = cc

pub told_grew : (by track : ℕ) (reading : Reading) (own : DemuxRecord) (old new : List DemuxRecord) → Some own ≡ record_of by track reading → Wrote by own old new → Grew by old new
told_grew by track reading own old new e w = wrote_grew by own old new (own_by by own (record_of by track reading) e (record_by by track reading)) w

again_by : (by : ℕ) (set : Choice) (o : Option Target) → AllByRecursion (λ r. by_of r ≡ by) (sought_again by set o)
again_by by set None = tt
again_by by set (Some s) = (refl, tt)

pub switches_grew : (by : ℕ) (set : Choice) (at : ℤ) (old new : DemuxState) → Switches by set at old new → Grew by old.journal new.journal
switches_grew by set at old new k = wrote_all_grew by (own_records by set at old) old.journal new.journal (refl, again_by by set old.seeking) k.wrote
