-- On its film a driver would answer what the journal says.
use Rattle.std.proofs.Common.{◌≡◌, ℕ, Bool, List, reverse, Option, Some, None, Result, Ok, Err, refl, sym, ap, subst, ◌∙◌}
use mathlib.Core.Path.{fun_ext}
use Rattle.std.specs.Prelude.{ℤ, IfSome, pos, unwrap_or}
use Rattle.std.specs.Option.{option_map}
use Rattle.mc_packet.specs.declared.cache.Limits.{Limits}
use Rattle.mc_packet.specs.declared.choice.Choice.{Choice}
use Rattle.mc_packet.specs.declared.choice.Dir.{Dir}
use Rattle.mc_packet.specs.declared.choice.Why.{Why}
use Rattle.mc_packet.specs.declared.packet.Packet.{Packet}
use Rattle.mc_journal.specs.declared.record.DemuxRecord.{DemuxRecord}
use Rattle.mc_packet.specs.Choices.{lead_of}
use Rattle.mc_journal.specs.Films.{Film, at as place}
use Rattle.mc_journal.specs.Readings.{selected}
use Rattle.mc_journal.specs.Views.{is_idle, next, time_of}
use Rattle.mc_calls.specs.declared.answer.DemuxError.{DemuxError}
use Rattle.mc_calls.specs.declared.answer.Reading.{Reading}
use Rattle.mc_calls.specs.declared.answer.Reading.TheVariants as reads
use Rattle.mc_calls.specs.Demuxers.{IsDemux}
use Rattle.mc_calls.specs.Film.{StandsFor}
use Rattle.mc_calls.specs.Readings.{Gives, Reads as DemuxReads, ended_after, heads_after}
use Rattle.mc_calls.specs.Shows.{GivesNone, is_idle_job}
use Rattle.mc_calls.specs.State.{DemuxState, next_in}
use Rattle.mc_calls.proofs.Showing.{front_is, own_is, pending_is, set_is, tells_is}
use Rattle.mc_calls.proofs.Idling.{idle_is}
use Rattle.mc_calls.proofs.Emptied.{quiet_is}
use Rattle.mc_journal.specs.Drives.{readings}
use Rattle.mc_lines.specs.Calls.{Ahead, AnswersOn, at}
use Rattle.mc_lines.specs.Machines.{ahead_of, place_of, would_tell}
use Rattle.mc_filmed.specs.Films.{choice_for}
use Rattle.mc_lines.proofs.Called.{next_gave, next_none}

same_ahead : (set set' : Choice) (front front' : ℕ → Option ℕ) (tells tells' : ℕ → Bool) (idle idle' : Bool) (time time' : ℤ) (choice : List ℕ → Result Choice Why) (pending pending' : Option (ℤ × Dir))
    → set ≡ set' → front ≡ front' → tells ≡ tells' → idle ≡ idle' → time ≡ time' → pending ≡ pending'
    → (let a : Ahead = record { set = set; front = front; tells = tells; idle = idle; time = time; choice = choice; pending = pending } in a)
    ≡ (let b : Ahead = record { set = set'; front = front'; tells = tells'; idle = idle'; time = time'; choice = choice; pending = pending' } in b)
same_ahead set set' front front' tells tells' idle idle' time time' choice pending pending' a b c d e f = rw (a, b, c, d, e, f) refl

pub shown : (film : Film) (d : DemuxState) → IsDemux d → StandsFor film d → ahead_of d ≡ at (readings film d.cache.limits (choice_for d.list)) d.journal
shown film d is s =
    let set = set_is film d s in
    same_ahead d.set (selected (reverse d.journal)) (λ k. option_map place_of (next_in d.set d.heads k d.cache.current)) (λ k. option_map place (next film.packets (reverse d.journal) k)) (would_tell d) _
    (is_idle_job _) (is_idle film.packets d.cache.limits (reverse d.journal)) _ (unwrap_or (time_of (lead_of (selected (reverse d.journal))) (reverse d.journal)) (pos 0)) (choice_for d.list) _ _
    set
    (fun_ext (λ k. front_is film d k s))
    (fun_ext (λ k. tells_is film d k s))
    (idle_is film d is s)
    (ap (λ (c : Choice). unwrap_or (time_of (lead_of c) (reverse d.journal)) (pos 0)) set)
    (pending_is film d s)

-- ---- reads on a film

no_front : (film : Film) (d : DemuxState) (k : ℕ) → StandsFor film d → next_in d.set d.heads k d.cache.current ≡ None → option_map place (next film.packets (reverse d.journal) k) ≡ None
no_front film d k s e = sym (front_is film d k s) ∙ rw e refl

-- an answer without a packet, which a record tells
quiet_front : (film : Film) (by k : ℕ) (own : DemuxRecord) (reading : Reading) (d e : DemuxState) → StandsFor film d → StandsFor film e → GivesNone own → Gives by own (heads_after k reading d) (ended_after k reading d) d e
    → next_in d.set d.heads k d.cache.current ≡ None → option_map place (next film.packets (reverse e.journal) k) ≡ None
quiet_front film by k own reading d e s t none on n = no_front film e k t (quiet_is film d e k by own s t on.wrote none n)

same_front : (film : Film) (k : ℕ) (d e : DemuxState) → StandsFor film d → e ≡ d → next_in d.set d.heads k d.cache.current ≡ None → option_map place (next film.packets (reverse e.journal) k) ≡ None
same_front film k d e s same n = subst (λ (x : DemuxState). option_map place (next film.packets (reverse x.journal) k) ≡ None) (sym same) (no_front film d k s n)

own_track : (o : Option Packet) (p : Packet) (k : ℕ) → IfSome o (λ q. q.track ≡ k) → o ≡ Some p → p.track ≡ k
own_track o p k h e = let all : IfSome (Some p) (λ q. q.track ≡ k) = subst (λ (x : Option Packet). IfSome x (λ q. q.track ≡ k)) e h in all

pub answers : (film : Film) (choice : List ℕ → Result Choice Why) (limits : Limits) (by k : ℕ) (d e : DemuxState) (r : Result Reading DemuxError) → IsDemux d → StandsFor film d → StandsFor film e → DemuxReads by k d r e
    → AnswersOn (readings film limits choice) k d.journal e.journal r
answers film choice limits by k d e (Ok (reads.Gave p)) is s t h = own_track (next_in d.set d.heads k d.cache.current) p k (own_is d k is) (next_gave d k p h.1)
answers film choice limits by k d e (Ok reads.NotYet) is s t h = λ f. same_front film k d e s h.2 (next_none d k reads.NotYet h.1).0
answers film choice limits by k d e (Ok reads.Unselected) is s t h = λ f. same_front film k d e s h.2 (next_none d k reads.Unselected h.1).0
answers film choice limits by k d e (Ok (reads.End ending)) is s t h = λ f. quiet_front film by k _ (reads.End ending) d e s t tt h.2 (next_none d k (reads.End ending) h.1).0
answers film choice limits by k d e (Ok (reads.Overfull forward max)) is s t h = λ f. quiet_front film by k _ (reads.Overfull forward max) d e s t tt h.2 (next_none d k (reads.Overfull forward max) h.1).0
answers film choice limits by k d e (Ok (reads.Fault before after)) is s t h = λ f. quiet_front film by k _ (reads.Fault before after) d e s t tt h.2 (next_none d k (reads.Fault before after) h.1).0
answers film choice limits by k d e (Ok reads.Wanting) is s t h = λ f. quiet_front film by k _ reads.Wanting d e s t tt h.2 (next_none d k reads.Wanting h.1).0
answers film choice limits by k d e (Err x) is s t h = tt
