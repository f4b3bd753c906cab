-- From the relations of the demuxer's calls to the steps of a world.
use Rattle.std.proofs.Common.{◌≡◌, inl, inr, ℕ, ℤ, Bool, true, List, [], ◌∷◌, ◌++◌, Option, Some, None, refl, sym, ap, subst, ◌∙◌, append_assoc}
use Rattle.std.specs.Prelude.{reverse, is_some, Result, Ok, Err}
use Rattle.std.specs.List.{AllByRecursion}
use Rattle.std.proofs.lemmas.List.{reverse-append}
use Rattle.mc_packet.specs.declared.choice.Choice.{Choice}
use Rattle.mc_packet.specs.declared.choice.Dir.{Dir}
use Rattle.mc_packet.specs.declared.choice.Starts.{Starts}
use Rattle.mc_packet.specs.declared.choice.Why.{Why}
use Rattle.mc_packet.specs.declared.cache.CacheView.{CacheView}
use Rattle.mc_packet.specs.declared.walk.Chunk.{Chunk}
use Rattle.mc_journal.specs.Films.{Film}
use Rattle.mc_journal.specs.Readings.{pending}
use Rattle.mc_journal.specs.declared.record.Sought.{Sought as How}
use Rattle.mc_journal.specs.declared.record.Sought.TheVariants.{Sent}
use Rattle.mc_journal.specs.declared.record.DemuxRecord.{DemuxRecord}
use Rattle.mc_journal.specs.declared.record.DemuxRecord.TheVariants.{Sought, Switched, Dropped, Joined, Shown, Found, Refused as RefusedRecord}
use Rattle.mc_calls.specs.declared.answer.DemuxError.{DemuxError}
use Rattle.mc_calls.specs.declared.answer.DemuxError.TheVariants.{Refused, JournalFull, NoMemory}
use Rattle.mc_calls.specs.declared.answer.Selected.{Selected}
use Rattle.mc_calls.specs.declared.answer.Selected.TheVariants.{Same, Changed}
use Rattle.mc_calls.specs.declared.answer.Reading.{Reading}
use Rattle.mc_calls.specs.declared.answer.Reading.TheVariants.{Gave, NotYet, End, Overfull, Fault, Wanting, Unselected}
use Rattle.mc_calls.specs.declared.answer.Taken.{Taken}
use Rattle.mc_calls.specs.declared.answer.Taken.TheVariants.{Taken as WasTaken, Stale}
use Rattle.mc_calls.specs.declared.waiting.Failure.{Failure}
use Rattle.mc_calls.specs.declared.waiting.Failure.TheVariants.{Failed, Starved}
use Rattle.mc_calls.specs.declared.waiting.Target.{Target}
use Rattle.mc_calls.specs.State.{DemuxState}
use Rattle.mc_calls.specs.Keeping.{IsAsBefore}
use Rattle.mc_calls.specs.Film.{StandsFor, failure_record}
use Rattle.mc_calls.specs.Outcomes.{Fails, Feeds, Finds}
use Rattle.mc_calls.specs.Readings.{Reads}
use Rattle.mc_calls.specs.Records.{IsExtra, IsLimitDrop, Wrote, WroteAll}
use Rattle.mc_calls.specs.Seeking.{Seeks}
use Rattle.mc_calls.specs.Selecting.{Selects, added_to, sought_again}
use Rattle.mc_calls.specs.Viewing.{Shows}
use Rattle.mc_tracks.specs.Selection.{choice_of, refusal_of}
use Rattle.mc_steps.specs.Calls.{newest_first}
use Rattle.mc_player.specs.declared.record.Outcome.TheVariants as outcome
use Rattle.mc_packet.specs.declared.choice.Why.TheVariants.{NoTrack}
use Rattle.mc_story.specs.Steps.{Adds, Again, SeekAdds, SelectAdds, SwitchAdds, Switching, is_plain}

-- ---- either journal

all_last : {R : Type 0} (test : R → Bool) (rs : List R) (r : R) → AllByRecursion (λ r. test r ≡ true) rs → test r ≡ true → AllByRecursion (λ r. test r ≡ true) (rs ++ r ∷ [])
all_last test [] r a e = (e, tt)
all_last test (q ∷ rs) r a e = (a.0, all_last test rs r a.1 e)

all_reversed : {R : Type 0} (test : R → Bool) (rs : List R) → AllByRecursion (λ r. test r ≡ true) rs → AllByRecursion (λ r. test r ≡ true) (reverse rs)
all_reversed test [] a = tt
all_reversed {R} test (r ∷ rs) a =
    subst (λ (l : List R). AllByRecursion (λ r. test r ≡ true) l) (sym (reverse-append (r ∷ []) rs)) (all_last test (reverse rs) r (all_reversed test rs a.1) a.0)

-- a call's own records, the oldest first, and what comes behind them: of either journal
pub reversed_adds : {R : Type 0} (test : R → Bool) (own extras old new : List R) → new ≡ old ++ (own ++ extras) → AllByRecursion (λ r. test r ≡ true) extras
    → Adds test (reverse own ++ reverse old) (reverse new)
reversed_adds {R} test own extras old new e a = record {
  extras = reverse extras;
  are = all_reversed test extras a;
  grows = ap (λ (l : List R). reverse l) e ∙ reverse-append old (own ++ extras) ∙ ap (λ (l : List R). l ++ reverse old) (reverse-append own extras)
      ∙ append_assoc (reverse extras) (reverse own) (reverse old);
}

-- ---- what a call of the demuxer writes

limit_plain : (by : ℕ) (r : DemuxRecord) → IsLimitDrop by r → is_plain r ≡ true
limit_plain by (Dropped n removal) e = refl
limit_plain by r e = absurd e

limits_plain : (by : ℕ) (rs : List DemuxRecord) → AllByRecursion (IsLimitDrop by) rs → AllByRecursion (λ r. is_plain r ≡ true) rs
limits_plain by [] a = tt
limits_plain by (r ∷ rs) a = (limit_plain by r a.0, limits_plain by rs a.1)

extra_plain : (by : ℕ) (r : DemuxRecord) → IsExtra by r → is_plain r ≡ true
extra_plain by (Dropped n removal) e = refl
extra_plain by (Joined n) e = refl
extra_plain by r e = absurd e

extras_plain : (by : ℕ) (rs : List DemuxRecord) → AllByRecursion (IsExtra by) rs → AllByRecursion (λ r. is_plain r ≡ true) rs
extras_plain by [] a = tt
extras_plain by (r ∷ rs) a = (extra_plain by r a.0, extras_plain by rs a.1)

wrote : (by : ℕ) (own : DemuxRecord) (old new : List DemuxRecord) → Wrote by own old new → Adds is_plain (own ∷ reverse old) (reverse new)
wrote by own old new w = reversed_adds is_plain (own ∷ []) w.drops old new w.grows (limits_plain by w.drops w.are)

wrote_all : (by : ℕ) (own old new : List DemuxRecord) → WroteAll by own old new → Adds is_plain (reverse own ++ reverse old) (reverse new)
wrote_all by own old new w = reversed_adds is_plain own w.extras old new w.grows (extras_plain by w.extras w.are)

-- one more plain record
with_own : (own : DemuxRecord) (old new : List DemuxRecord) → is_plain own ≡ true → Adds is_plain (own ∷ old) new → Adds is_plain old new
with_own own old new e a = record {
  extras = a.extras ++ own ∷ [];
  are = all_last a.extras a.are;
  grows = a.grows ∙ sym (append_assoc a.extras (own ∷ []) old);
}
  where
    all_last : (rs : List DemuxRecord) → AllByRecursion (λ r. is_plain r ≡ true) rs → AllByRecursion (λ r. is_plain r ≡ true) (rs ++ own ∷ [])
    all_last [] b = (e, tt)
    all_last (r ∷ rs) b = (b.0, all_last rs b.1)

nothing_added : (old new : List DemuxRecord) → new ≡ old → Adds is_plain (reverse old) (reverse new)
nothing_added old new e = record { extras = []; are = tt; grows = ap (λ (l : List DemuxRecord). reverse l) e }

one_added : (own : DemuxRecord) (old new : List DemuxRecord) → is_plain own ≡ true → new ≡ old ++ own ∷ [] → Adds is_plain (reverse old) (reverse new)
one_added own old new p e = with_own own (reverse old) (reverse new) p (reversed_adds is_plain (own ∷ []) [] old new e tt)

journal_of : (old new : DemuxState) → new ≡ old → new.journal ≡ old.journal
journal_of old new e = ap (λ (d : DemuxState). d.journal) e

-- ---- seek and select

pub sought : (film : Film) (by : ℕ) (t : ℤ) (dir : Dir) (old new : DemuxState) (how : How) → StandsFor film old → Seeks by t dir old (Ok how) new
    → SeekAdds by t dir (reverse old.journal) outcome.Sought (reverse new.journal)
sought film by t dir old new how f s = (
  how,
  subst (λ (c : Choice). Adds is_plain (Sought by c t dir how ∷ reverse old.journal) (reverse new.journal)) (sym f.fits.set_is)
      (wrote by (Sought by old.set t dir how) old.journal new.journal s.3.wrote),
)

pub refused : (by : ℕ) (t : ℤ) (dir : Dir) (old new : DemuxState) (why : Why) → Seeks by t dir old (Err (Refused why)) new
    → SeekAdds by t dir (reverse old.journal) (outcome.Refused why) (reverse new.journal)
refused by t dir old new why s =
    subst (λ (w : Why). SeekAdds by t dir (reverse old.journal) (outcome.Refused w) (reverse new.journal)) (sym s.2)
    (ap (λ (l : List DemuxRecord). reverse l) (ap (λ (d : DemuxState). d.journal) s.3.changed ∙ ap (λ (w : Why). old.journal ++ RefusedRecord by w ∷ []) s.2)
    ∙ reverse-append old.journal (RefusedRecord by NoTrack ∷ []))

switching : (by : ℕ) (set : Choice) (at : ℤ) (added : Choice) (o : Option Target) (old new : List DemuxRecord) → pending (reverse old) ≡ is_some o
    → WroteAll by (Switched by set added at ∷ sought_again by set o) old new → Switching by set at (reverse old) (reverse new)
switching by set at added None old new e w = record {
  added = added;
  asked = Switched by set added at ∷ reverse old;
  again = subst (λ (b : Bool). Again by set b (Switched by set added at ∷ reverse old) (Switched by set added at ∷ reverse old)) (sym e) refl;
  adds = wrote_all by (Switched by set added at ∷ []) old new w;
}
switching by set at added (Some s) old new e w = record {
  added = added;
  asked = Sought by set s.t s.dir Sent ∷ Switched by set added at ∷ reverse old;
  again = subst (λ (b : Bool). Again by set b (Switched by set added at ∷ reverse old) (Sought by set s.t s.dir Sent ∷ Switched by set added at ∷ reverse old)) (sym e) (s.t, s.dir, refl);
  adds = wrote_all by (Switched by set added at ∷ Sought by set s.t s.dir Sent ∷ []) old new w;
}

pub selects : (film : Film) (by : ℕ) (numbers : List ℕ) (at : ℤ) (old new : DemuxState) (answer : Selected) → StandsFor film old → Selects by numbers at old (Ok answer) new
    → SelectAdds by (choice_of old.list numbers) at (reverse old.journal) (outcome.Selected (choice_of old.list numbers)) (reverse new.journal)
selects film by numbers at old new Same f s =
    (refl, inl (s.2 ∙ sym f.fits.set_is, ap (λ (l : List DemuxRecord). reverse l) (journal_of old new s.3)))
selects film by numbers at old new Changed f s =
    (refl, inr (switching by (choice_of old.list numbers) at (added_to (choice_of old.list numbers) old) old.seeking old.journal new.journal f.fits.seeks s.3.wrote))

pub accepted : (by : ℕ) (numbers : List ℕ) (at : ℤ) (old new : DemuxState) (why : Why) → refusal_of old.list numbers ≡ None → Selects by numbers at old (Err (Refused why)) new → ⊥
accepted by numbers at old new why e s = none_some (sym e ∙ s.1)
  where
    none_some : ◌≡◌ {A = Option Why} None (Some why) → ⊥
    none_some e = cc

-- ---- calls that only make room

pub left : (old new : DemuxState) → IsAsBefore old new → newest_first new ≡ newest_first old
left old new e = ap newest_first e.changed

nothing_left : (old new : DemuxState) → IsAsBefore old new → Adds is_plain (reverse old.journal) (reverse new.journal)
nothing_left old new e = record { extras = []; are = tt; grows = left old new e }

-- ---- a selection of the driver

refusal_adds : (by : ℕ) (why : Why) (old new : List DemuxRecord) → new ≡ old ++ RefusedRecord by why ∷ [] → reverse new ≡ RefusedRecord by why ∷ reverse old
refusal_adds by why old new e = ap (λ (l : List DemuxRecord). reverse l) e ∙ reverse-append old (RefusedRecord by why ∷ [])

pub switches : (film : Film) (by : ℕ) (numbers : List ℕ) (at : ℤ) (old new : DemuxState) (answer : Result Selected DemuxError) → StandsFor film old → Selects by numbers at old answer new
    → SwitchAdds by (choice_of old.list numbers) at (reverse old.journal) (reverse new.journal)
switches film by numbers at old new (Ok Same) f s = inl (ap newest_first s.3)
switches film by numbers at old new (Ok Changed) f s =
    inr (inl (switching by (choice_of old.list numbers) at (added_to (choice_of old.list numbers) old) old.seeking old.journal new.journal f.fits.seeks s.3.wrote))
switches film by numbers at old new (Err (Refused why)) f s =
    inr (inr (why, refusal_adds by why old.journal new.journal (ap (λ (d : DemuxState). d.journal) s.2.changed)))
switches film by numbers at old new (Err JournalFull) f s = inl (ap newest_first s.1)
switches film by numbers at old new (Err NoMemory) f s = inl (left old new s.1)

-- ---- all other calls

pub reads : (by track : ℕ) (old new : DemuxState) (answer : Result Reading DemuxError) → Reads by track old answer new → Adds is_plain (reverse old.journal) (reverse new.journal)
reads by track old new (Ok (Gave p)) r = with_own _ (reverse old.journal) (reverse new.journal) refl (wrote by _ old.journal new.journal r.2.wrote)
reads by track old new (Ok (End ending)) r = with_own _ (reverse old.journal) (reverse new.journal) refl (wrote by _ old.journal new.journal r.2.wrote)
reads by track old new (Ok (Overfull forward max)) r = with_own _ (reverse old.journal) (reverse new.journal) refl (wrote by _ old.journal new.journal r.2.wrote)
reads by track old new (Ok (Fault before after)) r = with_own _ (reverse old.journal) (reverse new.journal) refl (wrote by _ old.journal new.journal r.2.wrote)
reads by track old new (Ok Wanting) r = with_own _ (reverse old.journal) (reverse new.journal) refl (wrote by _ old.journal new.journal r.2.wrote)
reads by track old new (Ok NotYet) r = nothing_added old.journal new.journal (journal_of old new r.2)
reads by track old new (Ok Unselected) r = nothing_added old.journal new.journal (journal_of old new r.2)
reads by track old new (Err (Refused why)) r = absurd r
reads by track old new (Err JournalFull) r = nothing_added old.journal new.journal (journal_of old new r.1)
reads by track old new (Err NoMemory) r = nothing_left old new r.1

pub shows : (by : ℕ) (old new : DemuxState) (answer : Result CacheView DemuxError) → Shows by old answer new → Adds is_plain (reverse old.journal) (reverse new.journal)
shows by old new (Ok view) s = one_added (Shown by view) old.journal new.journal refl (ap (λ (d : DemuxState). d.journal) s.2.changed)
shows by old new (Err (Refused why)) s = absurd s
shows by old new (Err JournalFull) s = nothing_added old.journal new.journal (journal_of old new s.1)
shows by old new (Err NoMemory) s = nothing_left old new s.1

pub finds : (n : ℕ) (starts : Starts) (old new : DemuxState) (answer : Result Taken DemuxError) → Finds n starts old answer new → Adds is_plain (reverse old.journal) (reverse new.journal)
finds n starts old new (Ok WasTaken) f = with_own (Found 5 starts) (reverse old.journal) (reverse new.journal) refl (wrote_all 5 (Found 5 starts ∷ []) old.journal new.journal f.2.wrote)
finds n starts old new (Ok (Stale asked now)) f = nothing_added old.journal new.journal (journal_of old new f.1.same)
finds n starts old new (Err (Refused why)) f = absurd f
finds n starts old new (Err JournalFull) f = nothing_added old.journal new.journal (journal_of old new f.1)
finds n starts old new (Err NoMemory) f = nothing_left old new f.1

pub feeds : (n : ℕ) (chunk : Chunk) (old new : DemuxState) (answer : Result Taken DemuxError) → Feeds n chunk old answer new → Adds is_plain (reverse old.journal) (reverse new.journal)
feeds n chunk old new (Ok WasTaken) f = with_own _ (reverse old.journal) (reverse new.journal) refl (wrote_all 5 (_ ∷ []) old.journal new.journal f.2.wrote)
feeds n chunk old new (Ok (Stale asked now)) f = nothing_added old.journal new.journal (journal_of old new f.1.same)
feeds n chunk old new (Err (Refused why)) f = absurd f
feeds n chunk old new (Err JournalFull) f = nothing_added old.journal new.journal (journal_of old new f.1)
feeds n chunk old new (Err NoMemory) f = nothing_left old new f.1

failure_plain : (failure : Failure) → is_plain (failure_record failure) ≡ true
failure_plain (Failed before after) = refl
failure_plain Starved = refl

pub fails : (n : ℕ) (failure : Failure) (old new : DemuxState) (taken : Taken) → Fails n failure (failure_record failure) old taken new → Adds is_plain (reverse old.journal) (reverse new.journal)
fails n failure old new WasTaken f = one_added (failure_record failure) old.journal new.journal (failure_plain failure) (ap (λ (d : DemuxState). d.journal) f.1)
fails n failure old new (Stale asked now) f = nothing_added old.journal new.journal (journal_of old new f.same)
