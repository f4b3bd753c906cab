-- A drain, step by step.
use Rattle.std.proofs.Common.{◌≡◌, ℕ, ◌-◌, ◌<◌, Bool, true, false, not, ◌==◌, List, [], ◌∷◌, ◌++◌, length, refl, sym, subst, ap, ◌∙◌, arith}
use Rattle.std.specs.Prelude.{Option, Some, None, Result, Ok, Err, IfSome, ◌||◌, ◌&&◌, if◌then◌else◌, is_some}
use Rattle.std.specs.List.{list_any}
use Rattle.mc_packet.specs.declared.choice.Kind.{Kind}
use Rattle.mc_packet.specs.declared.choice.Kind.TheVariants.{Video, Audio, Sub}
use Rattle.mc_packet.specs.declared.choice.Choice.{Choice}
use Rattle.mc_packet.specs.declared.packet.Packet.{Packet}
use Rattle.mc_packet.specs.Choices.{is_empty, nothing, or_else}
use Rattle.mc_journal.specs.Films.{rank}
use Rattle.mc_journal.specs.Told.{gave_by}
use Rattle.mc_journal.specs.declared.record.DemuxRecord.{DemuxRecord}
use Rattle.mc_journal.specs.declared.record.DemuxRecord.TheVariants.{Found, Fed, Failed, Starved, Ended, Faulted, Wanting}
use Rattle.mc_calls.specs.declared.answer.DemuxError.{DemuxError}
use Rattle.mc_calls.specs.declared.answer.DemuxError.TheVariants as errors
use Rattle.mc_calls.specs.declared.answer.Reading.{Reading}
use Rattle.mc_calls.specs.declared.answer.Reading.TheVariants as reads
use Rattle.mc_calls.specs.Records.{HasRoom, WroteAll}
use Rattle.mc_script.specs.declared.acts.Act.TheVariants as acts
use Rattle.mc_script.specs.Plays.{Begins, Leaves, May}
use Rattle.mc_journal.specs.Drives.{OfEach, Readings, is_order, is_outcome, selection, still_left, tells_reader, untold}
use Rattle.mc_journal.specs.Callers.{by_of, reader}
use Rattle.mc_packet.specs.Choices.{track_of}
use Rattle.mc_journal.specs.Drives.{IsNextStep, Step, give, tell, turn}
use Rattle.mc_lines.specs.declared.next.Next.{Next}
use Rattle.mc_lines.specs.declared.next.Next.TheVariants as nexts
use Rattle.mc_lines.specs.Calls.{Ahead, AnswersOn, AtRest, Reads, at}
use Rattle.mc_lines.specs.declared.halt.Halt.{Halt}
use Rattle.mc_lines.specs.declared.halt.Halt.TheVariants as halts
use Rattle.mc_lines.specs.Lines.{Grows, ReadsOne, Stands, Turns}
use Rattle.mc_lines.specs.Nexts.{IsNextBy, without}
use Rattle.mc_lines.proofs.Parts.{begin, more}
use Rattle.mc_lines.proofs.Counts.{any-one, longer, or-false}
use Rattle.mc_lines.proofs.Growing.{grows_none, grows_quiet}

-- a drain after some of its steps: the tracks left are those that weren't told their end in it
pub record Drained (rd : Readings) (old now : List DemuxRecord) (left : Choice) : Type 0 where
  pub begins : Begins rd acts.Drain old now
  pub left_is : left ≡ untold (selection old) begins.part
  pub no_order : list_any is_order begins.part ≡ false

still_nil : (kind : Kind) (o : Option ℕ) → still_left kind [] o ≡ o
still_nil kind None = refl
still_nil kind (Some k) = refl

untold_nil : (set : Choice) → set ≡ untold set []
untold_nil set = rw (still_nil Video set.video, still_nil Audio set.audio, still_nil Sub set.sub) refl

pub start : (rd : Readings) (old : List DemuxRecord) (left : Choice) → left ≡ selection old → Drained rd old old left
start rd old left e = record { begins = begin rd acts.Drain old; left_is = e ∙ untold_nil (selection old); no_order = refl }

or-true : (b : Bool) → (b || true) ≡ true
or-true true = refl
or-true false = refl

-- a record that tells this reader nothing
abbrev TellsNot : ℕ → DemuxRecord → Type 0
TellsNot n own = (k : ℕ) → tells_reader n k own ≡ false

-- a record that tells just this reader of this track
abbrev TellsOnly : ℕ → ℕ → DemuxRecord → Type 0
TellsOnly n k own = (m j : ℕ) → tells_reader m j own ≡ ((n == m) && (k == j))

still_same : {by : ℕ} {now new : List DemuxRecord} (kind : Kind) (part : List DemuxRecord) (own : DemuxRecord) (w : WroteAll by (own ∷ []) now new) → TellsNot (reader kind) own → (o : Option ℕ)
    → still_left kind part o ≡ still_left kind (part ++ own ∷ w.extras) o
still_same kind part own w none None = refl
still_same kind part own w none (Some k) =
    let e : list_any (tells_reader (reader kind) k) (part ++ own ∷ w.extras) ≡ list_any (tells_reader (reader kind) k) part =
    any-one (tells_reader (reader kind) k) (λ n m. refl, λ n. refl) own w part ∙ rw (none k) (or-false _) in
    rw e refl

chosen_is : (b : Bool) (j k : ℕ) → (if b then None else Some j) ≡ Some k → j ≡ k
chosen_is true j k e = absurd (cc)
chosen_is false j k e = cc

still_told : {by : ℕ} {now new : List DemuxRecord} (kind : Kind) (part : List DemuxRecord) (own : DemuxRecord) (w : WroteAll by (own ∷ []) now new) (k : ℕ) → TellsOnly (reader kind) k own → (o : Option ℕ)
    → still_left kind part o ≡ Some k → None ≡ still_left kind (part ++ own ∷ w.extras) o
still_told kind part own w k only None e = refl
still_told kind part own w k only (Some j) e =
    let same : j ≡ k = chosen_is (list_any (tells_reader (reader kind) j) part) j k e in
    let mine : tells_reader (reader kind) j own ≡ true = only (reader kind) j ∙ rw same (grind arith) in
    let told : list_any (tells_reader (reader kind) j) (part ++ own ∷ w.extras) ≡ true = any-one (tells_reader (reader kind) j) (λ n m. refl, λ n. refl) own w part ∙ rw mine (or-true _) in
    rw told refl

untold_same : {by : ℕ} {now new : List DemuxRecord} (set : Choice) (part : List DemuxRecord) (own : DemuxRecord) (w : WroteAll by (own ∷ []) now new) → ((n : ℕ) → TellsNot n own)
    → untold set part ≡ untold set (part ++ own ∷ w.extras)
untold_same set part own w none = rw (still_same Video part own w (none 2) set.video, still_same Audio part own w (none 3) set.audio, still_same Sub part own w (none 4) set.sub) refl

untold_told : {by : ℕ} {now new : List DemuxRecord} (set : Choice) (part : List DemuxRecord) (own : DemuxRecord) (w : WroteAll by (own ∷ []) now new) (kind : Kind) (k : ℕ) → TellsOnly (reader kind) k own
    → track_of (untold set part) kind ≡ Some k → without (untold set part) kind ≡ untold set (part ++ own ∷ w.extras)
untold_told set part own w Video k only e = rw (still_told Video part own w k only set.video e, still_same Audio part own w (λ j. only 3 j) set.audio, still_same Sub part own w (λ j. only 4 j) set.sub) refl
untold_told set part own w Audio k only e = rw (still_told Audio part own w k only set.audio e, still_same Video part own w (λ j. only 2 j) set.video, still_same Sub part own w (λ j. only 4 j) set.sub) refl
untold_told set part own w Sub k only e = rw (still_told Sub part own w k only set.sub e, still_same Video part own w (λ j. only 2 j) set.video, still_same Audio part own w (λ j. only 3 j) set.audio) refl

no_order-call : {by : ℕ} {now new : List DemuxRecord} (part : List DemuxRecord) (own : DemuxRecord) (w : WroteAll by (own ∷ []) now new) → list_any is_order part ≡ false → is_order own ≡ false
    → list_any is_order (part ++ own ∷ w.extras) ≡ false
no_order-call part own w e f = any-one is_order (λ n m. refl, λ n. refl) own w part ∙ rw (e, f) refl

-- the room in a journal
abbrev pub room : List DemuxRecord → ℕ
room h = 16000000 - length h

less_room : {by : ℕ} {now new : List DemuxRecord} {own : DemuxRecord} → HasRoom now → WroteAll by (own ∷ []) now new → room new < room now
less_room h w = omega (arith, longer w)

-- one more call that tells nobody
quiet : (rd : Readings) (old now new : List DemuxRecord) (left : Choice) (by : ℕ) (own : DemuxRecord) (d : Drained rd old now left) (w : WroteAll by (own ∷ []) now new) → by ≡ by_of own
    → ((n : ℕ) → TellsNot n own) → is_order own ≡ false → May rd acts.Drain old d.begins.part own → Drained rd old new left
quiet rd old now new left by own d w c none f may = record {
  begins = more rd acts.Drain old now new by own d.begins w c may;
  left_is = d.left_is ∙ untold_same (selection old) d.begins.part own w none;
  no_order = no_order-call d.begins.part own w d.no_order f;
}

-- one more call that tells a track's reader
loud : (rd : Readings) (old now new : List DemuxRecord) (left : Choice) (by : ℕ) (own : DemuxRecord) (kind : Kind) (k : ℕ) (d : Drained rd old now left) (w : WroteAll by (own ∷ []) now new) → by ≡ by_of own
    → TellsOnly (reader kind) k own → is_order own ≡ false → track_of left kind ≡ Some k → May rd acts.Drain old d.begins.part own → Drained rd old new (without left kind)
loud rd old now new left by own kind k d w c only f track may = record {
  begins = more rd acts.Drain old now new by own d.begins w c may;
  left_is = ap (λ (set : Choice). without set kind) d.left_is ∙ untold_told (selection old) d.begins.part own w kind k only (rw (← d.left_is) track);
  no_order = no_order-call d.begins.part own w d.no_order f;
}

-- ---- the step that comes next

abbrev step_of : Next → Step
step_of (nexts.Give kind k) = give kind k
step_of (nexts.Tell kind k) = tell kind k
step_of nexts.Turn = turn

is_next : (rd : Readings) (h : List DemuxRecord) (left : Choice) (n : Next) → IsNextBy (at rd h) left n → IsNextStep rd h left (step_of n)
is_next rd h left (nexts.Give kind k) e = e
is_next rd h left (nexts.Tell kind k) e = e
is_next rd h left nexts.Turn e = e

-- the step is one of the drain so far
here : (rd : Readings) (old now : List DemuxRecord) (left : Choice) (n : Next) (d : Drained rd old now left) → IsNextBy (at rd now) left n
    → IsNextStep rd (old ++ d.begins.part) (untold (selection old) d.begins.part) (step_of n)
here rd old now left n d h =
    let one : IsNextStep rd (old ++ d.begins.part) left (step_of n) = subst (λ (x : List DemuxRecord). IsNextStep rd x left (step_of n)) d.begins.grows (is_next rd now left n h) in
    subst (λ (x : Choice). IsNextStep rd (old ++ d.begins.part) x (step_of n)) d.left_is one

if_some : (o : Option ℕ) (k : ℕ) (P : ℕ → Type 0) → IfSome o P → o ≡ Some k → P k
if_some o k P h e = let at : IfSome (Some k) P = subst (λ (x : Option ℕ). IfSome x P) e h in at

of_each : (set : Choice) (kind : Kind) (k : ℕ) (P : ℕ → Type 0) → OfEach set P → track_of set kind ≡ Some k → P k
of_each set Video k P h e = if_some set.video k P h.0 e
of_each set Audio k P h e = if_some set.audio k P h.1 e
of_each set Sub k P h e = if_some set.sub k P h.2 e

-- ---- where a packet is given

gave_packet : (rd : Readings) (old now new : List DemuxRecord) (left : Choice) (kind : Kind) (k : ℕ) (p : Packet) → p.track ≡ k → (d : Drained rd old now left) → IsNextBy (at rd now) left (nexts.Give kind k)
    → rd.front now k ≡ Some (rank p.pos) → WroteAll (reader kind) (gave_by (reader kind) p ∷ []) now new → Drained rd old new left
gave_packet rd old now new left kind k p same d n front w =
    let place : rd.front (old ++ d.begins.part) k ≡ Some (rank p.pos) = rw (← d.begins.grows) front in
    let next : IsNextStep rd (old ++ d.begins.part) (untold (selection old) d.begins.part) (give kind k) = here rd old now left (nexts.Give kind k) d n in
    quiet rd old now new left (reader kind) (gave_by (reader kind) p) d w refl (λ n j. refl) refl (
      kind,
      refl,
      subst (λ (x : ℕ). rd.front (old ++ d.begins.part) x ≡ Some (rank p.pos)) (sym same) place,
      subst (λ (x : ℕ). IsNextStep rd (old ++ d.begins.part) (untold (selection old) d.begins.part) (give kind x)) (sym same) next,
    )

pub gave : (rd : Readings) (old now new : List DemuxRecord) (left : Choice) (kind : Kind) (k : ℕ) (r : Reading) → Drained rd old now left → IsNextBy (at rd now) left (nexts.Give kind k)
    → Reads (at rd now) (reader kind) k now new (Ok r) → AnswersOn rd k now new (Ok r) → Drained rd old new left
gave rd old now new left kind k (reads.Gave p) d n h a = gave_packet rd old now new left kind k p a d n h.0 h.1.1
gave rd old now new left kind k reads.NotYet d n h a = let e = sym n.1.1 ∙ h.0 in absurd (cc)
gave rd old now new left kind k reads.Unselected d n h a = let e = sym n.1.1 ∙ h.0 in absurd (cc)
gave rd old now new left kind k (reads.End ending) d n h a = let e = sym n.1.1 ∙ h.0 in absurd (cc)
gave rd old now new left kind k (reads.Overfull forward max) d n h a = let e = sym n.1.1 ∙ h.0 in absurd (cc)
gave rd old now new left kind k (reads.Fault faults faults') d n h a = let e = sym n.1.1 ∙ h.0 in absurd (cc)
gave rd old now new left kind k reads.Wanting d n h a = let e = sym n.1.1 ∙ h.0 in absurd (cc)

-- ---- where an end or a failure is told

pub told : (rd : Readings) (old now new : List DemuxRecord) (left : Choice) (kind : Kind) (k : ℕ) (r : Reading) → Drained rd old now left → IsNextBy (at rd now) left (nexts.Tell kind k)
    → Reads (at rd now) (reader kind) k now new (Ok r) → Drained rd old new (without left kind)
told rd old now new left kind k (reads.Gave p) d n h = let e = sym (of_each left kind k (λ j. rd.front now j ≡ None) n.1 n.0) ∙ h.0 in absurd (cc)
told rd old now new left kind k reads.NotYet d n h = let e = sym n.2 ∙ h.1 in absurd (cc)
told rd old now new left kind k reads.Unselected d n h = let e = sym n.2 ∙ h.1 in absurd (cc)
told rd old now new left kind k (reads.Overfull forward max) d n h = let e = sym n.2 ∙ h.1 in absurd (cc)
told rd old now new left kind k (reads.End ending) d n h =
    loud rd old now new left (reader kind) (Ended (reader kind) k ending) kind k d h.2.1 refl (λ m j. refl) refl n.0 (kind, refl, here rd old now left (nexts.Tell kind k) d n)
told rd old now new left kind k (reads.Fault faults faults') d n h =
    loud rd old now new left (reader kind) (Faulted (reader kind) k faults faults') kind k d h.2.1 refl (λ m j. refl) refl n.0 (kind, refl, here rd old now left (nexts.Tell kind k) d n)
told rd old now new left kind k reads.Wanting d n h =
    loud rd old now new left (reader kind) (Wanting (reader kind) k) kind k d h.2.1 refl (λ m j. refl) refl n.0 (kind, refl, here rd old now left (nexts.Tell kind k) d n)

-- ---- where the demuxer turns

turned_by : (rd : Readings) (old now new : List DemuxRecord) (left : Choice) (own : DemuxRecord) → Drained rd old now left → IsNextBy (at rd now) left nexts.Turn → is_outcome own ≡ true → by_of own ≡ 5
    → WroteAll 5 (own ∷ []) now new → Drained rd old new left
turned_by rd old now new left (Found by starts) d n is five w = quiet rd old now new left 5 (Found by starts) d w (sym five) (λ n j. refl) refl (five, here rd old now left nexts.Turn d n)
turned_by rd old now new left (Fed by from to took ending) d n is five w = quiet rd old now new left 5 (Fed by from to took ending) d w (sym five) (λ n j. refl) refl (five, here rd old now left nexts.Turn d n)
turned_by rd old now new left (Failed by faults faults') d n is five w = quiet rd old now new left 5 (Failed by faults faults') d w (sym five) (λ n j. refl) refl (five, here rd old now left nexts.Turn d n)
turned_by rd old now new left (Starved by) d n is five w = quiet rd old now new left 5 (Starved by) d w (sym five) (λ n j. refl) refl (five, here rd old now left nexts.Turn d n)
turned_by rd old now new left _ d n is five w = absurd (cc)

pub turned : (rd : Readings) (before after : ℕ) (old now new : List DemuxRecord) (left : Choice) → Drained rd old now left → IsNextBy (at rd now) left nexts.Turn → Turns (at rd now) before after now new (Ok true)
    → Drained rd old new left
turned rd before after old now new left d n h = turned_by rd old now new left h.1.own d n h.1.is h.1.by_demuxer h.1.wrote

-- an idle demuxer leaves no track untold
no_track : (v a s : Option ℕ) (p : ℕ → Bool) → not (is_some (or_else s (or_else v a))) ≡ false → IfSome v (λ k. p k ≡ true) × IfSome a (λ k. p k ≡ true) × IfSome s (λ k. p k ≡ true)
    → IfSome v (λ k. p k ≡ false) × IfSome a (λ k. p k ≡ false) × IfSome s (λ k. p k ≡ false) → ⊥
no_track (Some k) a s p e h g = let f : true ≡ false = sym h.0 ∙ g.0 in cc
no_track None (Some k) s p e h g = let f : true ≡ false = sym h.1 ∙ g.1 in cc
no_track None None (Some k) p e h g = let f : true ≡ false = sym h.2 ∙ g.2 in cc
no_track None None None p e h g = cc

pub not_idle : (rd : Readings) (before after : ℕ) (old now new : List DemuxRecord) (left : Choice) → Drained rd old now left → is_empty left ≡ false → IsNextBy (at rd now) left nexts.Turn
    → Turns (at rd now) before after now new (Ok false) → AtRest rd now → ⊥
not_idle rd before after old now new left d e n h rest =
    let quiet_heads : OfEach (untold (selection old) d.begins.part) (λ k. rd.front now k ≡ None) = subst (λ (x : Choice). OfEach x (λ k. rd.front now k ≡ None)) d.left_is n.0 in
    let all = rest.told old d.begins.part d.begins.grows d.no_order quiet_heads in
    let all_left : OfEach left (λ k. rd.tells now k ≡ true) = subst (λ (x : Choice). OfEach x (λ k. rd.tells now k ≡ true)) (sym d.left_is) all in
    no_track left.video left.audio left.sub (λ k. rd.tells now k) e all_left n.1

empty_nothing : (v a s : Option ℕ) → not (is_some (or_else s (or_else v a))) ≡ true → record { video = v; audio = a; sub = s } ≡ nothing
empty_nothing None None None e = refl
empty_nothing v a (Some k) e = absurd (cc)
empty_nothing (Some k) a None e = absurd (cc)
empty_nothing None (Some k) None e = absurd (cc)

pub finished : (rd : Readings) (old now : List DemuxRecord) (left : Choice) → Drained rd old now left → is_empty left ≡ true → Leaves rd acts.Drain None old now
finished rd old now left d e = record {
  part = d.begins.part;
  grows = d.begins.grows;
  each = d.begins.each;
  ends = sym d.left_is ∙ empty_nothing left.video left.audio left.sub e;
}

-- ---- the end of it, on any shelf

-- a read that was seen to give a packet, or to tell an end or a failure, writes a record where it answers
pub given_room : (w : Ahead) (by k : ℕ) (left : Choice) (kind : Kind) (now new : List DemuxRecord) (r : Reading) → IsNextBy w left (nexts.Give kind k) → Reads w by k now new (Ok r) → room new < room now
given_room w by k left kind now new (reads.Gave p) n h = less_room h.1.0 h.1.1
given_room w by k left kind now new reads.NotYet n h = let e = sym n.1.1 ∙ h.0 in absurd (cc)
given_room w by k left kind now new reads.Unselected n h = let e = sym n.1.1 ∙ h.0 in absurd (cc)
given_room w by k left kind now new (reads.End ending) n h = less_room h.2.0 h.2.1
given_room w by k left kind now new (reads.Overfull forward max) n h = less_room h.2.0 h.2.1
given_room w by k left kind now new (reads.Fault faults faults') n h = less_room h.2.0 h.2.1
given_room w by k left kind now new reads.Wanting n h = less_room h.2.0 h.2.1

pub told_room : (w : Ahead) (by k : ℕ) (left : Choice) (kind : Kind) (now new : List DemuxRecord) (r : Reading) → IsNextBy w left (nexts.Tell kind k) → Reads w by k now new (Ok r) → room new < room now
told_room w by k left kind now new (reads.Gave p) n h = less_room h.1.0 h.1.1
told_room w by k left kind now new reads.NotYet n h = let e = sym n.2 ∙ h.1 in absurd (cc)
told_room w by k left kind now new reads.Unselected n h = let e = sym n.2 ∙ h.1 in absurd (cc)
told_room w by k left kind now new (reads.End ending) n h = less_room h.2.0 h.2.1
told_room w by k left kind now new (reads.Overfull forward max) n h = less_room h.2.0 h.2.1
told_room w by k left kind now new (reads.Fault faults faults') n h = less_room h.2.0 h.2.1
told_room w by k left kind now new reads.Wanting n h = less_room h.2.0 h.2.1

pub turned_room : (w : Ahead) (before after : ℕ) (now new : List DemuxRecord) → Turns w before after now new (Ok true) → room new < room now
turned_room w before after now new h = less_room h.0 h.1.wrote

-- a read brings no outcome
pub read_grows : (w : Ahead) (by k a : ℕ) (old new : List DemuxRecord) (r : Result Reading DemuxError) → Reads w by k old new r → Grows a a old new
read_grows w by k a old new (Ok (reads.Gave p)) h = grows_quiet a by (gave_by by p) old new refl h.1.1
read_grows w by k a old new (Ok reads.NotYet) h = grows_none a a old new (omega arith) h.2
read_grows w by k a old new (Ok reads.Unselected) h = grows_none a a old new (omega arith) h.2
read_grows w by k a old new (Ok (reads.End ending)) h = grows_quiet a by (Ended by k ending) old new refl h.2.1
read_grows w by k a old new (Ok (reads.Overfull forward max)) h = grows_quiet a by _ old new refl h.2.1
read_grows w by k a old new (Ok (reads.Fault faults faults')) h = grows_quiet a by (Faulted by k faults faults') old new refl h.2.1
read_grows w by k a old new (Ok reads.Wanting) h = grows_quiet a by (Wanting by k) old new refl h.2.1
read_grows w by k a old new (Err (errors.Refused why)) h = absurd h
read_grows w by k a old new (Err errors.JournalFull) h = grows_none a a old new (omega arith) h.0
read_grows w by k a old new (Err errors.NoMemory) h = grows_none a a old new (omega arith) h

stands_grows : (a : ℕ) (old new : List DemuxRecord) (e : Halt) → Stands old new e → Grows a a old new
stands_grows a old new halts.JournalFull h = grows_none a a old new (omega arith) h.0
stands_grows a old new halts.NoMemory h = grows_none a a old new (omega arith) h

pub one_grows : (w : Ahead) (by k a : ℕ) (old new : List DemuxRecord) (r : Result Unit Halt) → ReadsOne w by k old new r → Grows a a old new
one_grows w by k a old new (Ok u) h = read_grows w by k a old new (Ok h.0) h.1
one_grows w by k a old new (Err e) h = stands_grows a old new e h

-- the tracks that are left first are the selected ones
pub start_on : (rd : Readings) (w : Ahead) (old : List DemuxRecord) (left : Choice) → w ≡ at rd old → left ≡ w.set → Drained rd old old left
start_on rd w old left e f = start rd old left (f ∙ ap (λ (x : Ahead). x.set) e)
