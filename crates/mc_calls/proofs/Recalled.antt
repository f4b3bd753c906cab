-- What a demuxer remembers of its journal for the next job, call by call.
use Rattle.std.proofs.Common.{◌≡◌, ℕ, ◌+◌, Bool, false, Option, Some, None, List, [], ◌∷◌, ◌++◌, append_assoc, append-nil, refl, ap, sym, subst, ◌∙◌}
use Rattle.std.specs.Prelude.{ℤ, Contains, reverse, is_some, IsSomeAnd}
use Rattle.std.specs.List.{AllByRecursion}
use Rattle.std.proofs.lemmas.List.{reverse-append}
use Rattle.mc_packet.specs.declared.choice.Choice.{Choice}
use Rattle.mc_packet.specs.declared.choice.Dir.{Dir}
use Rattle.mc_packet.specs.declared.choice.Starts.{Starts}
use Rattle.mc_packet.specs.declared.cache.Heads.{Heads}
use Rattle.mc_packet.specs.declared.walk.Chunk.{Chunk}
use Rattle.mc_packet.specs.declared.walk.Mark.{Mark}
use Rattle.mc_journal.specs.declared.record.Sought.{Sought as How}
use Rattle.mc_journal.specs.declared.record.DemuxRecord.{DemuxRecord}
use Rattle.mc_journal.specs.declared.record.DemuxRecord.TheVariants.{Opened, Sought, Switched, Found, Fed, Failed, Starved, Dropped, Joined, Gave, Ended, Overfull, Faulted, Wanting, Shown, Refused}
use Rattle.mc_packet.specs.Choices.{lead_of, nothing}
use Rattle.mc_journal.specs.Readings.{follows, pending}
use Rattle.mc_range.specs.Range.{RangeState}
use Rattle.mc_cache.specs.Cache.{CacheState, mark_in, ranges_of}
use Rattle.mc_cache.specs.Changing.{IsSameButRoom}
use Rattle.mc_calls.specs.declared.waiting.Switch.{Switch}
use Rattle.mc_calls.specs.declared.waiting.Target.{Target}
use Rattle.mc_calls.specs.State.{DemuxState}
use Rattle.mc_calls.specs.Demuxers.{IsDemux}
use Rattle.mc_calls.specs.Feeding.{TakesPart}
use Rattle.mc_calls.specs.Finding.{TakesStarts}
use Rattle.mc_calls.specs.Marks.{AreAmong}
use Rattle.mc_calls.specs.Opening.{opening}
use Rattle.mc_calls.specs.Outcomes.{StartsFit, heads_at, is_at, took_in}
use Rattle.mc_calls.specs.Readings.{Gives}
use Rattle.mc_calls.specs.Records.{IsExtra}
use Rattle.mc_calls.specs.Seeking.{Goes, heads_after}
use Rattle.mc_calls.specs.Selecting.{Switches, added_to, own_records, sought_again, told_drops}
use Rattle.mc_calls.specs.Tied.{IsTied, is_upto, last_switch, no_switch, number_of, read_upto, told_marks}
use Rattle.mc_calls.specs.Trimming.{Trims}
use Rattle.mc_calls.proofs.Among.{head_in, trims-among}
use Rattle.mc_calls.proofs.Beginning.{begun}
use Rattle.mc_calls.proofs.Remarked.{goes_within, part_among, roomy_among, starts_among, switches_within}
use Rattle.mc_calls.proofs.Roomy.{mark_roomier}
use Rattle.mc_calls.proofs.Settled.{WritesExtras, drops_extras, extras_both, limit_extras, settled}
use Rattle.mc_calls.proofs.Trimmed.{trimmed}

-- ---- two journals of which the same is remembered

pub record SaysSame (h h' : List DemuxRecord) : Type 0 where
  pub switch : last_switch h ≡ last_switch h'
  pub number : number_of h ≡ number_of h'
  pub upto : read_upto h ≡ read_upto h'
  pub marks : told_marks h ≡ told_marks h'

says_both : (a b d : List DemuxRecord) → SaysSame a b → SaysSame b d → SaysSame a d
says_both a b d x y = record { switch = x.switch ∙ y.switch; number = x.number ∙ y.number; upto = x.upto ∙ y.upto; marks = x.marks ∙ y.marks }

says_self : (a b : List DemuxRecord) → a ≡ b → SaysSame a b
says_self a b e = record { switch = ap last_switch e; number = ap number_of e; upto = ap read_upto e; marks = ap told_marks e }

-- a drop or a join says nothing of it
extra_says : (by : ℕ) (r : DemuxRecord) (h : List DemuxRecord) → IsExtra by r → SaysSame (r ∷ h) h
extra_says by (Dropped n removal) h e = record { switch = refl; number = refl; upto = refl; marks = refl }
extra_says by (Joined n) h e = record { switch = refl; number = refl; upto = refl; marks = refl }
extra_says by (Opened n set) h e = absurd e
extra_says by (Sought n set t dir how) h e = absurd e
extra_says by (Switched n set added t) h e = absurd e
extra_says by (Found n starts) h e = absurd e
extra_says by (Fed n from to took ending) h e = absurd e
extra_says by (Failed n before after) h e = absurd e
extra_says by (Starved n) h e = absurd e
extra_says by (Gave n track pos time len sum sync key) h e = absurd e
extra_says by (Ended n track ending) h e = absurd e
extra_says by (Overfull n track forward max) h e = absurd e
extra_says by (Faulted n track before after) h e = absurd e
extra_says by (Wanting n track) h e = absurd e
extra_says by (Shown n view) h e = absurd e
extra_says by (Refused n why) h e = absurd e

extras_say : (by : ℕ) (xs j : List DemuxRecord) → AllByRecursion (IsExtra by) xs → SaysSame (reverse (j ++ xs)) (reverse j)
extras_say by [] j e = says_self (reverse (j ++ [])) (reverse j) (ap (λ (l : List DemuxRecord). reverse l) (append-nil j))
extras_say by (x ∷ xs) j e =
    let again = says_self (reverse (j ++ x ∷ xs)) (reverse ((j ++ x ∷ []) ++ xs)) (ap (λ (l : List DemuxRecord). reverse l) (sym (append_assoc j (x ∷ []) xs))) in
    let more = extras_say by xs (j ++ x ∷ []) e.1 in
    let pushed = says_self (reverse (j ++ x ∷ [])) (x ∷ reverse j) (reverse-append j (x ∷ [])) in
    says_both (reverse (j ++ x ∷ xs)) (reverse ((j ++ x ∷ []) ++ xs)) (reverse j) again
    (says_both (reverse ((j ++ x ∷ []) ++ xs)) (reverse (j ++ x ∷ [])) (reverse j) more (says_both (reverse (j ++ x ∷ [])) (x ∷ reverse j) (reverse j) pushed (extra_says by x (reverse j) e.0)))

-- a call's own records, and drops and joins behind them
pub written : (by : ℕ) (own old new : List DemuxRecord) → WritesExtras by (old ++ own) new → SaysSame (reverse new) (reverse own ++ reverse old)
written by own old new w =
    says_both (reverse new) (reverse ((old ++ own) ++ w.extras)) (reverse own ++ reverse old) (says_self (reverse new) (reverse ((old ++ own) ++ w.extras)) (ap (λ (l : List DemuxRecord). reverse l) w.grows))
    (says_both (reverse ((old ++ own) ++ w.extras)) (reverse (old ++ own)) (reverse own ++ reverse old) (extras_say by w.extras (old ++ own) w.are)
    (says_self (reverse (old ++ own)) (reverse own ++ reverse old) (reverse-append old own)))

trims_extras : (by : ℕ) (heads : Heads) (c₀ : CacheState) (j₀ : List DemuxRecord) (c : CacheState) (j : List DemuxRecord) → Trims by heads c₀ j₀ c j → WritesExtras by j₀ j
trims_extras by heads c₀ j₀ c j t =
    let d = trimmed by nothing heads nothing None c₀ j₀ c j t in
    record { extras = d.drops; grows = d.grows; are = limit_extras by d.drops d.are }

trims_mark : (by : ℕ) (heads : Heads) (c₀ : CacheState) (j₀ : List DemuxRecord) (c : CacheState) (j : List DemuxRecord) → Trims by heads c₀ j₀ c j → mark_in c.current ≡ mark_in c₀.current
trims_mark by heads c₀ j₀ c j t = (trimmed by nothing heads nothing None c₀ j₀ c j t).mark_is

tie : (switch : Switch) (number : ℕ) (fed : Bool) (c : CacheState) (h h' : List DemuxRecord) → SaysSame h h' → switch ≡ last_switch h' → number ≡ number_of h'
    → fed ≡ is_upto (read_upto h') (mark_in c.current) → AreAmong (told_marks h') c → IsTied switch number fed c h
tie switch number fed c h h' s a b f m = record {
  switch_is = a ∙ sym s.switch;
  number_is = b ∙ sym s.number;
  fed_is = f ∙ ap (λ (o : Option ℕ). is_upto o (mark_in c.current)) (sym s.upto);
  marks_are = subst (λ (ms : List Mark). AreAmong ms c) (sym s.marks) m;
}

one_more : (m n : ℕ) → m ≡ n → m + 1 ≡ n + 1
one_more m n e = ap (λ k. k + 1) e

-- what was tied to a demuxer's journal
abbrev pub Was : DemuxState → Type 0
Was d = IsTied d.switch d.number d.fed d.cache (reverse d.journal)

-- ---- nothing but room, or a record that says nothing of it

pub roomy_tied : (d : DemuxState) (c : CacheState) → IsSameButRoom d.cache c → Was d → IsTied d.switch d.number d.fed c (reverse d.journal)
roomy_tied d c r k = record {
  switch_is = k.switch_is;
  number_is = k.number_is;
  fed_is = k.fed_is ∙ ap (λ (m : Option Mark). is_upto (read_upto (reverse d.journal)) m) (sym (mark_roomier d.cache.current c.current r.current));
  marks_are = roomy_among (told_marks (reverse d.journal)) d.cache c r k.marks_are;
}

pub own_tied : (d : DemuxState) (own : DemuxRecord) (c : CacheState) → c ≡ d.cache → SaysSame (own ∷ reverse d.journal) (reverse d.journal) → Was d
    → IsTied d.switch d.number d.fed c (reverse (d.journal ++ own ∷ []))
own_tied d own c e s k =
    let h = reverse d.journal in
    let all = says_both (reverse (d.journal ++ own ∷ [])) (own ∷ h) h (says_self (reverse (d.journal ++ own ∷ [])) (own ∷ h) (reverse-append d.journal (own ∷ []))) s in
    subst (λ (x : CacheState). IsTied d.switch d.number d.fed x (reverse (d.journal ++ own ∷ []))) (sym e)
    (tie d.switch d.number d.fed d.cache (reverse (d.journal ++ own ∷ [])) h all k.switch_is k.number_is k.fed_is k.marks_are)

pub gives_tied : (old new : DemuxState) (by : ℕ) (own : DemuxRecord) (heads : Heads) (ended : Choice) → Gives by own heads ended old new
    → SaysSame (own ∷ reverse old.journal) (reverse old.journal) → Was old → IsTied old.switch old.number old.fed new.cache (reverse new.journal)
gives_tied old new by own heads ended g s k =
    let h = reverse old.journal in
    let w = trims_extras by heads old.cache (old.journal ++ own ∷ []) new.cache new.journal g.trims in
    let m = trims_mark by heads old.cache (old.journal ++ own ∷ []) new.cache new.journal g.trims in
    let all = says_both (reverse new.journal) (own ∷ h) h (written by (own ∷ []) old.journal new.journal w) s in
    tie old.switch old.number old.fed new.cache (reverse new.journal) h all k.switch_is k.number_is (k.fed_is ∙ ap (λ (x : Option Mark). is_upto (read_upto h) x) (sym m))
    (trims-among (told_marks h) by heads old.cache (old.journal ++ own ∷ []) new.cache new.journal g.trims k.marks_are)

-- ---- seeks and switches

pub goes_tied : (old new : DemuxState) (by : ℕ) (t : ℤ) (dir : Dir) (how : How) → Goes by t dir how old new → follows (reverse old.journal) ≡ false → Was old
    → IsTied old.switch (old.number + 1) false new.cache (reverse new.journal)
goes_tied old new by t dir how g off k =
    let h = reverse old.journal in
    let own : DemuxRecord = Sought by old.set t dir how in
    let w = trims_extras by (heads_after t dir old) g.turned (old.journal ++ own ∷ []) new.cache new.journal g.trims in
    let next : number_of h + 1 ≡ number_of (own ∷ h) = rw off refl in
    tie old.switch (old.number + 1) false new.cache (reverse new.journal) (own ∷ h) (written by (own ∷ []) old.journal new.journal w) k.switch_is
    (one_more old.number (number_of h) k.number_is ∙ next) refl (goes_within (told_marks h) by t dir how old new g k.marks_are)

-- the selection's own records
abbrev owns : ℕ → Choice → Choice → ℤ → Option Target → List DemuxRecord
owns by set added at o = Switched by set added at ∷ sought_again by set o

pub record OwnSay (by : ℕ) (set added : Choice) (at : ℤ) (own h : List DemuxRecord) : Type 0 where
  pub switch : (let s : Switch = record { lead = lead_of set; at = at } in s) ≡ last_switch (reverse own ++ h)
  pub number : number_of h + 1 ≡ number_of (reverse own ++ h)
  pub upto : None ≡ read_upto (reverse own ++ h)
  pub marks : told_marks h ≡ told_marks (reverse own ++ h)

own_say : (by : ℕ) (set added : Choice) (at : ℤ) (o : Option Target) (h : List DemuxRecord) → pending h ≡ is_some o → OwnSay by set added at (owns by set added at o) h
own_say by set added at None h e = record { switch = refl; number = refl; upto = refl; marks = refl }
own_say by set added at (Some s) h e = record { switch = refl; number = rw e refl; upto = refl; marks = refl }

pub switches_tied : (old new : DemuxState) (by : ℕ) (set : Choice) (at : ℤ) → Switches by set at old new → pending (reverse old.journal) ≡ is_some old.seeking → Was old
    → IsTied (record { lead = lead_of set; at = at }) (old.number + 1) false new.cache (reverse new.journal)
switches_tied old new by set at g e k =
    let h = reverse old.journal in
    let own = own_records by set at old in
    let said = own_say by set (added_to set old) at old.seeking h e in
    let told = told_drops by g.drops in
    let limits = trims_extras by old.heads g.left (old.journal ++ (own ++ told)) new.cache new.journal g.trims in
    let due = drops_extras by (old.journal ++ own) g.drops in
    let w = extras_both by (old.journal ++ own) (old.journal ++ (own ++ told)) new.journal
    (subst (λ (l : List DemuxRecord). WritesExtras by (old.journal ++ own) l) (append_assoc old.journal own told) due) limits in
    tie (record { lead = lead_of set; at = at }) (old.number + 1) false new.cache (reverse new.journal) (reverse own ++ h) (written by own old.journal new.journal w)
    said.switch (one_more old.number (number_of h) k.number_is ∙ said.number) (ap (λ (o : Option ℕ). is_upto o (mark_in new.cache.current)) said.upto)
    (subst (λ (ms : List Mark). AreAmong ms new.cache) said.marks (switches_within (told_marks h) by set at old new g k.marks_are))

-- ---- outcomes

pub starts_tied : (old new : DemuxState) (starts : Starts) → IsDemux old → IsSomeAnd old.kept (StartsFit starts) → TakesStarts starts old new → Was old
    → IsTied old.switch (old.number + 1) false new.cache (reverse new.journal)
starts_tied old new starts i kept t k =
    let h = reverse old.journal in
    let own : DemuxRecord = Found 5 starts in
    let b = begun old starts t.begun t.journal i kept t.is_cache t.begins in
    let d = settled 5 old.set (heads_at starts old.heads) nothing None t.begun t.journal new.cache new.journal t.is_cache t.settles in
    let w = extras_both 5 (old.journal ++ own ∷ []) t.journal new.journal b.wrote d.wrote in
    tie old.switch (old.number + 1) false new.cache (reverse new.journal) (own ∷ h) (written 5 (own ∷ []) old.journal new.journal w) k.switch_is
    (one_more old.number (number_of h) k.number_is) refl (starts_among starts old new (told_marks h) t k.marks_are)

at_mark : (to : Mark) (o : Option Mark) → is_at to o ≡ is_upto (Some to.pos) o
at_mark to None = refl
at_mark to (Some m) = refl

pub part_tied : (old new : DemuxState) (chunk : Chunk) → TakesPart chunk old new → Was old
    → IsTied old.switch (old.number + 1) (is_at chunk.to (mark_in new.cache.current)) new.cache (reverse new.journal)
part_tied old new chunk t k =
    let h = reverse old.journal in
    let own : DemuxRecord = Fed 5 chunk.from chunk.to (took_in chunk old.cache.current) chunk.ending in
    let d = settled 5 old.set old.heads old.waiting old.seeking t.fed (old.journal ++ own ∷ []) new.cache new.journal t.is_cache t.settles in
    tie old.switch (old.number + 1) (is_at chunk.to (mark_in new.cache.current)) new.cache (reverse new.journal) (own ∷ h) (written 5 (own ∷ []) old.journal new.journal d.wrote) k.switch_is
    (one_more old.number (number_of h) k.number_is) (at_mark chunk.to (mark_in new.cache.current)) (part_among chunk old new (told_marks h) t k.marks_are)

pub record StopSays (own : DemuxRecord) (h : List DemuxRecord) : Type 0 where
  pub switch : last_switch (own ∷ h) ≡ last_switch h
  pub number : number_of (own ∷ h) ≡ number_of h + 1
  pub upto : read_upto (own ∷ h) ≡ None
  pub marks : told_marks (own ∷ h) ≡ told_marks h

pub stop_tied : (d : DemuxState) (own : DemuxRecord) → StopSays own (reverse d.journal) → Was d → IsTied d.switch (d.number + 1) false d.cache (reverse (d.journal ++ own ∷ []))
stop_tied d own s k =
    let h = reverse d.journal in
    tie d.switch (d.number + 1) false d.cache (reverse (d.journal ++ own ∷ [])) (own ∷ h) (says_self (reverse (d.journal ++ own ∷ [])) (own ∷ h) (reverse-append d.journal (own ∷ [])))
    (k.switch_is ∙ sym s.switch) (one_more d.number (number_of h) k.number_is ∙ sym s.number) (ap (λ (o : Option ℕ). is_upto o (mark_in d.cache.current)) (sym s.upto))
    (subst (λ (ms : List Mark). AreAmong ms d.cache) (sym s.marks) k.marks_are)

-- ---- the opening

pub made_tied : (c : CacheState) (journal : List DemuxRecord) (set : Choice) (r : RangeState) → ranges_of c ≡ r ∷ [] → r.mark ≡ opening → journal ≡ Opened 0 set ∷ []
    → IsTied no_switch 1 false c (reverse journal)
made_tied c journal set r all mark e =
    let h : List DemuxRecord = Opened 0 set ∷ [] in
    let first : Contains (opening ∷ []) r.mark = subst (λ (m : Mark). Contains (opening ∷ []) m) (sym mark) (head_in opening []) in
    tie no_switch 1 false c (reverse journal) h (says_self (reverse journal) h (ap (λ (j : List DemuxRecord). reverse j) e)) refl refl refl
    (subst (λ (rs : List RangeState). AllByRecursion (λ (q : RangeState). Contains (opening ∷ []) q.mark) rs) (sym all) (first, tt))
