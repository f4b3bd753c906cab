-- The demuxer's turns.
use Rattle.std.proofs.Common.{◌≡◌, ℕ, ◌+◌, ◌<◌, ◌≤◌, Bool, true, false, List, refl, sym, subst, ap, ◌∙◌, inl, inr}
use Rattle.std.specs.Prelude.{Option, Some, None, Result, Ok, Err}
use Rattle.mc_outside.specs.Shelf.{Files, Opened, content}
use Rattle.mc_journal.specs.declared.record.DemuxRecord.{DemuxRecord}
use Rattle.mc_journal.specs.declared.record.DemuxRecord.TheVariants.{Found, Fed, Failed, Starved}
use Rattle.mc_script.specs.declared.acts.Act.{Act}
use Rattle.mc_script.specs.declared.acts.Act.TheVariants as acts
use Rattle.mc_script.specs.Plays.{Begins, Leaves, May}
use Rattle.mc_journal.specs.Drives.{Readings, is_outcome, outcomes}
use Rattle.mc_journal.specs.Callers.{by_of}
use Rattle.mc_lines.specs.declared.halt.Halt.{Halt}
use Rattle.mc_lines.specs.declared.halt.Halt.TheVariants as halts
use Rattle.mc_lines.specs.Calls.{Ahead, Fixed, Outcome, at}
use Rattle.mc_lines.specs.Lines.{Grows, Line, Stands, Turns}
use Rattle.mc_lines.proofs.Counts.{count-one}
use Rattle.mc_lines.proofs.Growing.{grows_none, grows_outcome}
use Rattle.mc_lines.proofs.Parts.{begin, more}

-- a demux line after some of its turns
pub record Turned (rd : Readings) (count : ℕ) (old now : List DemuxRecord) (turns : ℕ) : Type 0 where
  pub begins : Begins rd (acts.Demux count) old now
  pub so_many : outcomes begins.part ≡ turns

pub start : (rd : Readings) (count : ℕ) (old : List DemuxRecord) → Turned rd count old old 0
start rd count old = record { begins = begin rd (acts.Demux count) old; so_many = refl }

-- an outcome may stand there
may_demux : (rd : Readings) (n : ℕ) (before a : List DemuxRecord) (own : DemuxRecord) → is_outcome own ≡ true → by_of own ≡ 5 → outcomes a < n → May rd (acts.Demux n) before a own
may_demux rd n before a (Found by starts) is five h = (five, h)
may_demux rd n before a (Fed by from to took ending) is five h = (five, h)
may_demux rd n before a (Failed by faults faults') is five h = (five, h)
may_demux rd n before a (Starved by) is five h = (five, h)
may_demux rd n before a _ is five h = absurd (cc)

pub next : (rd : Readings) (w : Ahead) (count before after : ℕ) (old now new : List DemuxRecord) (turns : ℕ) → Turned rd count old now turns → turns < count → Turns w before after now new (Ok true)
    → Turned rd count old new (turns + 1)
next rd w count before after old now new turns t lt h =
    let o : Outcome before after now new = h.1 in
    let may : May rd (acts.Demux count) old t.begins.part o.own = may_demux rd count old t.begins.part o.own o.is o.by_demuxer (rw t.so_many lt) in
    record {
      begins = more rd (acts.Demux count) old now new 5 o.own t.begins o.wrote (sym o.by_demuxer) may;
      so_many = count-one is_outcome (λ n m. refl, λ n. refl) o.own o.wrote t.begins.part ∙ rw (o.is) (ap (λ (n : ℕ). n + 1) t.so_many);
    }

pub idle : (rd : Readings) (count before after : ℕ) (old now new : List DemuxRecord) (turns : ℕ) → Turned rd count old now turns → Turns (at rd now) before after now new (Ok false)
    → Leaves rd (acts.Demux count) None old new
idle rd count before after old now new turns t h = record {
  part = t.begins.part;
  grows = h.0 ∙ t.begins.grows;
  each = t.begins.each;
  ends = inr (rw (← t.begins.grows) h.1);
}

pub all_made : (rd : Readings) (count : ℕ) (old now : List DemuxRecord) (turns : ℕ) → Turned rd count old now turns → turns ≡ count → Leaves rd (acts.Demux count) None old now
all_made rd count old now turns t e = record { part = t.begins.part; grows = t.begins.grows; each = t.begins.each; ends = inl (t.so_many ∙ e) }

pub halted : (rd : Readings) (act : Act) (old now new : List DemuxRecord) (e : Halt) → Begins rd act old now → Stands now new e → Line rd act None old new (Err e)
halted rd act old now new halts.JournalFull b h = (subst (λ (x : List DemuxRecord). Begins rd act old x) (sym h.0) b, rw h.0 h.1)
halted rd act old now new halts.NoMemory b h = subst (λ (x : List DemuxRecord). Begins rd act old x) (sym h) b

stood : (old new : List DemuxRecord) (e : Halt) → Stands old new e → new ≡ old
stood old new halts.JournalFull h = h.0
stood old new halts.NoMemory h = h

-- a turn grows a journal, whatever came of it
pub turn_grows : (w : Ahead) (before after : ℕ) (old new : List DemuxRecord) (r : Result Bool Halt) → before ≤ after → Turns w before after old new r → Grows before after old new
turn_grows w before after old new (Ok true) l h = grows_outcome before after old new l h.1
turn_grows w before after old new (Ok false) l h = grows_none before after old new l h.0
turn_grows w before after old new (Err e) l h = grows_none before after old new l (stood old new e h)

-- a file whose octets a shelf tells is the same on the shelf that it became
pub told_still : (files files' : Option Files) (opened opened' : Opened) (fixed fixed' : Fixed) (octets : List ℕ) → files' ≡ files → opened' ≡ opened → fixed' ≡ fixed → content files opened fixed.file ≡ Some octets
    → content files' opened' fixed'.file ≡ Some octets
told_still files files' opened opened' fixed fixed' octets e f g h = rw (e, f, ap (λ (x : Fixed). x.file) g) h
