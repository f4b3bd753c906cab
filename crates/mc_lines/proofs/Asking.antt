-- A reader's reads.
use Rattle.std.proofs.Common.{◌≡◌, ℕ, ◌+◌, ◌<◌, true, false, List, [], ◌∷◌, ◌++◌, refl, sym, subst, ap, ◌∙◌, inl, inr}
use Rattle.std.proofs.lemmas.List.{append-nil}
use Rattle.std.specs.Prelude.{Option, Some, None, Result, Ok, Err, IfSome}
use Rattle.std.specs.List.{list_any}
use Rattle.mc_packet.specs.declared.choice.Choice.{Choice}
use Rattle.mc_packet.specs.declared.choice.Kind.{Kind}
use Rattle.mc_packet.specs.declared.packet.Packet.{Packet}
use Rattle.mc_journal.specs.declared.record.DemuxRecord.{DemuxRecord}
use Rattle.mc_journal.specs.declared.record.DemuxRecord.TheVariants.{Ended, Overfull, Faulted, Wanting}
use Rattle.mc_journal.specs.Films.{rank}
use Rattle.mc_journal.specs.Told.{gave_by}
use Rattle.mc_calls.specs.declared.answer.DemuxError.{DemuxError}
use Rattle.mc_calls.specs.declared.answer.DemuxError.TheVariants as errors
use Rattle.mc_calls.specs.declared.answer.Reading.{Reading}
use Rattle.mc_calls.specs.declared.answer.Reading.TheVariants as reads
use Rattle.mc_calls.specs.Records.{WroteAll}
use Rattle.mc_script.specs.declared.acts.Act.TheVariants as acts
use Rattle.mc_journal.specs.Drives.{Asks, Readings, gaves, is_answer, is_gave, selection}
use Rattle.mc_script.specs.Plays.{Begins, Leaves, May}
use Rattle.mc_journal.specs.Callers.{by_of, reader}
use Rattle.mc_packet.specs.Choices.{track_of}
use Rattle.mc_lines.specs.Calls.{Ahead, AnswersOn, Jobs, Reads, at}
use Rattle.mc_lines.specs.Lines.{Orders, ReadsOn, ReadsOne, Stands, halt_of, halted, is_packet}
use Rattle.mc_lines.proofs.Parts.{begin, more}
use Rattle.mc_lines.proofs.Counts.{any-one, count-one}
use Rattle.mc_lines.proofs.Growing.{orders_none, orders_quiet}

-- a read line after some packets
pub record Given (rd : Readings) (kind : Kind) (count : ℕ) (old now : List DemuxRecord) (packets : ℕ) : Type 0 where
  pub begins : Begins rd (acts.Read kind count) old now
  pub so_many : gaves begins.part ≡ packets
  pub on : list_any is_answer begins.part ≡ false

pub start : (rd : Readings) (kind : Kind) (count : ℕ) (old : List DemuxRecord) → Given rd kind count old old 0
start rd kind count old = record { begins = begin rd (acts.Read kind count) old; so_many = refl; on = refl }

asks : (rd : Readings) (kind : Kind) (count : ℕ) (old now : List DemuxRecord) (n k : ℕ) (t : Given rd kind count old now n) → track_of (selection old) kind ≡ Some k → n < count
    → Asks kind count old t.begins.part (reader kind) k
asks rd kind count old now n k t track lt = record { under = refl; track = track; fewer = rw t.so_many lt; on = t.on }

-- the packet's record, of the track that was asked
may_give : (rd : Readings) (kind : Kind) (count : ℕ) (old a : List DemuxRecord) (k : ℕ) (p : Packet) → p.track ≡ k → Asks kind count old a (reader kind) k
    → rd.front (old ++ a) k ≡ Some (rank p.pos) → May rd (acts.Read kind count) old a (gave_by (reader kind) p)
may_give rd kind count old a k p e ask front =
    (subst (λ (n : ℕ). Asks kind count old a (reader kind) n) (sym e) ask, subst (λ (n : ℕ). rd.front (old ++ a) n ≡ Some (rank p.pos)) (sym e) front)

pub next : (rd : Readings) (kind : Kind) (count : ℕ) (old now new : List DemuxRecord) (n k : ℕ) (r : Reading) (t : Given rd kind count old now n) → track_of (selection old) kind ≡ Some k → n < count
    → Reads (at rd now) (reader kind) k now new (Ok r) → AnswersOn rd k now new (Ok r) → is_packet r ≡ true → Given rd kind count old new (n + 1)
next rd kind count old now new n k (reads.Gave p) t track lt h a is =
    let w : WroteAll (reader kind) (gave_by (reader kind) p ∷ []) now new = h.1.1 in
    let front : rd.front (old ++ t.begins.part) k ≡ Some (rank p.pos) = rw (← t.begins.grows) h.0 in
    record {
      begins = more rd (acts.Read kind count) old now new (reader kind) (gave_by (reader kind) p) t.begins w refl
          (may_give rd kind count old t.begins.part k p a (asks rd kind count old now n k t track lt) front);
      so_many = count-one is_gave (λ n m. refl, λ n. refl) (gave_by (reader kind) p) w t.begins.part ∙ ap (λ (m : ℕ). m + 1) t.so_many;
      on = any-one is_answer (λ n m. refl, λ n. refl) (gave_by (reader kind) p) w t.begins.part ∙ rw t.on refl;
    }
next rd kind count old now new n k _ t track lt h a is = absurd (cc)

no_head : (rd : Readings) (old part now : List DemuxRecord) (k : ℕ) (o : Option ℕ) → o ≡ Some k → now ≡ old ++ part → rd.front now k ≡ None → IfSome o (λ j. rd.front (old ++ part) j ≡ None)
no_head rd old part now k o e grows h = rw (e, ← grows) h

-- a line that ends without a record
quiet : (rd : Readings) (kind : Kind) (count : ℕ) (old now new : List DemuxRecord) (n k : ℕ) (t : Given rd kind count old now n) → track_of (selection old) kind ≡ Some k
    → rd.front now k ≡ None → new ≡ now → Leaves rd (acts.Read kind count) None old new
quiet rd kind count old now new n k t track none e = record {
  part = t.begins.part;
  grows = e ∙ t.begins.grows;
  each = t.begins.each;
  ends = inr (no_head rd old t.begins.part now k (track_of (selection old) kind) track t.begins.grows none);
}

-- a line that ends with one
told : (rd : Readings) (kind : Kind) (count : ℕ) (old now new : List DemuxRecord) (k : ℕ) (own : DemuxRecord) (b : Begins rd (acts.Read kind count) old now) → track_of (selection old) kind ≡ Some k
    → rd.front new k ≡ None → (w : WroteAll (reader kind) (own ∷ []) now new) → reader kind ≡ by_of own → May rd (acts.Read kind count) old b.part own
    → Leaves rd (acts.Read kind count) None old new
told rd kind count old now new k own b track none w c may =
    let all = more rd (acts.Read kind count) old now new (reader kind) own b w c may in record {
      part = all.part;
      grows = all.grows;
      each = all.each;
      ends = inr (no_head rd old all.part new k (track_of (selection old) kind) track all.grows none);
    }

pub last : (rd : Readings) (kind : Kind) (count : ℕ) (old now new : List DemuxRecord) (n k : ℕ) (r : Reading) (t : Given rd kind count old now n) → track_of (selection old) kind ≡ Some k → n < count
    → Reads (at rd now) (reader kind) k now new (Ok r) → AnswersOn rd k now new (Ok r) → is_packet r ≡ false → Leaves rd (acts.Read kind count) None old new
last rd kind count old now new n k (reads.Gave p) t track lt h a is = absurd (cc)
last rd kind count old now new n k reads.NotYet t track lt h a is = quiet rd kind count old now new n k t track h.0 h.2
last rd kind count old now new n k reads.Unselected t track lt h a is = quiet rd kind count old now new n k t track h.0 h.2
last rd kind count old now new n k (reads.End ending) t track lt h a is =
    told rd kind count old now new k (Ended (reader kind) k ending) t.begins track (a h.0) h.2.1 refl (asks rd kind count old now n k t track lt, rw (← t.begins.grows) h.0)
last rd kind count old now new n k (reads.Overfull forward max) t track lt h a is =
    told rd kind count old now new k (Overfull (reader kind) k forward max) t.begins track (a h.0) h.2.1 refl (asks rd kind count old now n k t track lt, rw (← t.begins.grows) h.0)
last rd kind count old now new n k (reads.Fault faults faults') t track lt h a is =
    told rd kind count old now new k (Faulted (reader kind) k faults faults') t.begins track (a h.0) h.2.1 refl (asks rd kind count old now n k t track lt, rw (← t.begins.grows) h.0)
last rd kind count old now new n k reads.Wanting t track lt h a is =
    told rd kind count old now new k (Wanting (reader kind) k) t.begins track (a h.0) h.2.1 refl (asks rd kind count old now n k t track lt, rw (← t.begins.grows) h.0)

pub all_given : (rd : Readings) (kind : Kind) (count : ℕ) (old now : List DemuxRecord) (n : ℕ) → Given rd kind count old now n → n ≡ count → Leaves rd (acts.Read kind count) None old now
all_given rd kind count old now n t e = record { part = t.begins.part; grows = t.begins.grows; each = t.begins.each; ends = inl (t.so_many ∙ e) }

pub unselected : (rd : Readings) (kind : Kind) (count : ℕ) (old : List DemuxRecord) → track_of (selection old) kind ≡ None → Leaves rd (acts.Read kind count) None old old
unselected rd kind count old e = record { part = []; grows = sym (append-nil old); each = tt; ends = inr (rw e tt) }

-- a read writes no order, whatever a film says
pub read_orders : (w : Ahead) (by k : ℕ) (old new : List DemuxRecord) (j j' : Jobs) (r : Result Reading DemuxError) → j' ≡ j → Reads w by k old new r → Orders old new j j'
read_orders w by k old new j j' (Ok (reads.Gave p)) e h = orders_quiet by (gave_by by p) old new j j' refl refl h.1.1 e
read_orders w by k old new j j' (Ok reads.NotYet) e h = orders_none old new j j' h.2 e
read_orders w by k old new j j' (Ok reads.Unselected) e h = orders_none old new j j' h.2 e
read_orders w by k old new j j' (Ok (reads.End ending)) e h = orders_quiet by (Ended by k ending) old new j j' refl refl h.2.1 e
read_orders w by k old new j j' (Ok (reads.Overfull forward max)) e h = orders_quiet by (Overfull by k forward max) old new j j' refl refl h.2.1 e
read_orders w by k old new j j' (Ok (reads.Fault faults faults')) e h = orders_quiet by (Faulted by k faults faults') old new j j' refl refl h.2.1 e
read_orders w by k old new j j' (Ok reads.Wanting) e h = orders_quiet by (Wanting by k) old new j j' refl refl h.2.1 e
read_orders w by k old new j j' (Err (errors.Refused why)) e h = absurd h
read_orders w by k old new j j' (Err errors.JournalFull) e h = orders_none old new j j' h.0 e
read_orders w by k old new j j' (Err errors.NoMemory) e h = orders_none old new j j' h e

-- a read that failed wrote nothing
pub read_stands : (w : Ahead) (by k : ℕ) (old new : List DemuxRecord) (e : DemuxError) → Reads w by k old new (Err e) → Stands old new (halt_of e)
read_stands w by k old new (errors.Refused why) h = absurd h
read_stands w by k old new errors.JournalFull h = h
read_stands w by k old new errors.NoMemory h = h

-- the track that is read is the one that the journal says
pub track_read : (w : Ahead) (rd : Readings) (old : List DemuxRecord) (set : Choice) (found : Option ℕ) (kind : Kind) → w ≡ at rd old → set ≡ w.set → found ≡ track_of set kind → track_of (selection old) kind ≡ found
track_read w rd old set found kind e f g = sym (g ∙ ap (λ (x : Choice). track_of x kind) (f ∙ ap (λ (x : Ahead). x.set) e))

-- one read
pub read_ones : (w : Ahead) (by k : ℕ) (old new : List DemuxRecord) (r : Result Reading DemuxError) → Reads w by k old new r → ReadsOne w by k old new (halted r)
read_ones w by k old new (Ok r) h = (r, h)
read_ones w by k old new (Err e) h = read_stands w by k old new e h

-- and on a film
pub read_films : (rd : Readings) (w : Ahead) (by k : ℕ) (old new : List DemuxRecord) (r : Result Reading DemuxError) → w ≡ at rd old → Reads w by k old new r → AnswersOn rd k old new r
    → ReadsOn rd by k old new (halted r)
read_films rd w by k old new (Ok r) e h a = (r, subst (λ (x : Ahead). Reads x by k old new (Ok r)) e h, a)
read_films rd w by k old new (Err x) e h a = read_stands w by k old new x h
