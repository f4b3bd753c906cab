-- What is known of a moment, by the readings of the film that the demuxer stands for.
use Rattle.std.proofs.Common.{◌≡◌, ℕ, Bool, List, subst}
use Rattle.std.specs.Prelude.{Result}
use Rattle.mc_packet.specs.declared.choice.Choice.{Choice}
use Rattle.mc_journal.specs.declared.record.DemuxRecord.{DemuxRecord}
use Rattle.mc_calls.specs.declared.answer.DemuxError.{DemuxError}
use Rattle.mc_calls.specs.declared.answer.Reading.{Reading}
use Rattle.mc_journal.specs.Drives.{Readings}
use Rattle.mc_lines.specs.declared.halt.Halt.{Halt}
use Rattle.mc_lines.specs.declared.next.Next.{Next}
use Rattle.mc_lines.specs.Calls.{Ahead, Reads, at}
use Rattle.mc_lines.specs.Lines.{Turns}
use Rattle.mc_lines.specs.Nexts.{IsNextBy}

pub turns_on : (rd : Readings) (w : Ahead) (before after : ℕ) (old new : List DemuxRecord) (r : Result Bool Halt) → w ≡ at rd old → Turns w before after old new r → Turns (at rd old) before after old new r
turns_on rd w before after old new r e h = subst (λ (x : Ahead). Turns x before after old new r) e h

pub next_on : (rd : Readings) (w : Ahead) (h : List DemuxRecord) (left : Choice) (n : Next) → w ≡ at rd h → IsNextBy w left n → IsNextBy (at rd h) left n
next_on rd w h left n e is = subst (λ (x : Ahead). IsNextBy x left n) e is

pub read_on : (rd : Readings) (w : Ahead) (by n k : ℕ) (old new : List DemuxRecord) (r : Result Reading DemuxError) → w ≡ at rd old → by ≡ n → Reads w by k old new r → Reads (at rd old) n k old new r
read_on rd w by n k old new r e b h = subst (λ (m : ℕ). Reads (at rd old) m k old new r) b (subst (λ (x : Ahead). Reads x by k old new r) e h)
