-- How a run ends, by what was played and written.
use Rattle.std.proofs.Common.{◌≡◌, ℕ, ◌≤◌, ◌⊎◌, Bool, true, false, List, [], ◌∷◌, length, take, Option, Some, None, Result, Ok, Err, refl, sym, ap, subst, inl, inr, arith}
use Rattle.std.specs.Prelude.{◌||◌}
use Rattle.std.specs.List.{list_any, AllByRecursion}
use Rattle.std.proofs.lemmas.Bool.{cases_Bool}
use Rattle.std.proofs.lemmas.List.{append-nil, take_all}
use Rattle.mc_outside.specs.Causes.{Rose}
use Rattle.mc_outside.specs.Shelf.{Files}
use Rattle.mc_outside.specs.Sink.{Grows as TextGrows, GrowsByFront}
use Rattle.mc_outside.specs.declared.sink.SinkError.{SinkError}
use Rattle.mc_outside.specs.declared.sink.SinkError.TheVariants as faults
use Rattle.mc_journal.specs.declared.record.DemuxRecord.{DemuxRecord}
use Rattle.mc_journal.specs.declared.record.DemuxRecord.TheVariants.{Opened, Failed}
use Rattle.mc_calls.specs.Outcomes.{HasRisen}
use Rattle.mc_script.specs.declared.exit.Exit.{Exit}
use Rattle.mc_script.specs.declared.exit.Exit.TheVariants as exits
use Rattle.mc_script.specs.declared.options.RunLine.{RunLine}
use Rattle.mc_script.specs.Transcript.{transcript}
use Rattle.mc_lines.specs.declared.halt.Halt.{Halt}
use Rattle.mc_lines.specs.declared.halt.Halt.TheVariants as halts
use Rattle.mc_lines.specs.Calls.{FailsIn}
use Rattle.mc_lines.specs.Lines.{Grows}
use Rattle.mc_play.specs.Asked.{Stopped}
use Rattle.mc_play.specs.Run.{Counts, EndsLine, Stepped, WriteFits, Written, WroteWell, exit_for, halt_exit, is_failed, is_starved, shelf_exit, wants_memory, write_exit}

-- ---- a failure among the records has a cause

risen : (b a before now : ℕ) → HasRisen b a → before ≤ b → a ≤ now → Rose before now
risen b a before now (inl l) h g = omega (arith, l, h, g)
risen b a before now (inr e) h g = omega (arith, e.0, e.1, h, g)

fails_rose : (before now : ℕ) (r : DemuxRecord) → FailsIn before now r → is_failed r ≡ true → Rose before now
fails_rose before now (Failed by b a) h e = risen b a before now h.0 h.1 h.2
fails_rose before now _ h e = absurd (cc)

or_true : (a b : Bool) → (a || b) ≡ true → (a ≡ true) ⊎ (b ≡ true)
or_true true b e = inl refl
or_true false b e = inr e

any_rose : (before now : ℕ) (rs : List DemuxRecord) → AllByRecursion (FailsIn before now) rs → list_any is_failed rs ≡ true → Rose before now
any_rose before now [] h e = absurd (cc)
any_rose before now (r ∷ rs) h e = elim (or_true (is_failed r) (list_any is_failed rs) e) [
  | inl f ↦ fails_rose before now r h.0 f
  | inr f ↦ any_rose before now rs h.1 f
]

pub failed_rose : (before now : ℕ) (hd : List DemuxRecord) (set : _) → Grows before now (Opened 0 set ∷ []) hd → list_any is_failed hd ≡ true → Rose before now
failed_rose before now hd set g e =
    let here : list_any is_failed (Opened 0 set ∷ g.part) ≡ true = subst (λ (x : List DemuxRecord). list_any is_failed x ≡ true) g.grows e in
    any_rose before now g.part g.fails here

-- ---- the way to end

shelf_ends : (files : Option Files) (words : List (List ℕ)) (line : RunLine) (n : Counts) (hd : List DemuxRecord) → Stepped files words line n.shelf_before n.shelf_now (Ok tt) hd → list_any is_starved hd ≡ false
    → EndsLine files words line n hd (shelf_exit (list_any is_failed hd) n.shelf_before n.shelf_now)
shelf_ends files words line n hd s starved = elim (cases_Bool (list_any is_failed hd)) [
  | inl y ↦ rw y (inr (s, y, refl, failed_rose n.shelf_before n.shelf_now hd s.set s.grows y))
  | inr o ↦ rw o (s, o, starved)
]

halt_ends : (files : Option Files) (words : List (List ℕ)) (line : RunLine) (n : Counts) (hd : List DemuxRecord) (halt : Result Unit Halt) → Stepped files words line n.shelf_before n.shelf_now halt hd
    → list_any is_starved hd ≡ false → EndsLine files words line n hd (halt_exit halt (list_any is_failed hd) n.shelf_before n.shelf_now)
halt_ends files words line n hd (Ok u) s starved = shelf_ends files words line n hd s starved
halt_ends files words line n hd (Err halts.JournalFull) s starved = s
halt_ends files words line n hd (Err halts.NoMemory) s starved = inr (Err halts.NoMemory, s)

write_ends : (files : Option Files) (words : List (List ℕ)) (line : RunLine) (n : Counts) (hd : List DemuxRecord) (halt : Result Unit Halt) (wrote : Result Unit SinkError)
    → Stepped files words line n.shelf_before n.shelf_now halt hd → WriteFits n.sink_before n.sink_now wrote → list_any is_starved hd ≡ false
    → EndsLine files words line n hd (write_exit wrote halt (list_any is_failed hd) n.shelf_before n.shelf_now)
write_ends files words line n hd halt (Ok u) s fits starved = halt_ends files words line n hd halt s starved
write_ends files words line n hd halt (Err faults.NoMemory) s fits starved = inr (halt, s)
write_ends files words line n hd halt (Err faults.Failed) s fits starved = ((halt, s), fits)

pub run_ends : (files : Option Files) (words : List (List ℕ)) (line : RunLine) (n : Counts) (hd : List DemuxRecord) (halt : Result Unit Halt) (wrote : Result Unit SinkError)
    → Stepped files words line n.shelf_before n.shelf_now halt hd → WriteFits n.sink_before n.sink_now wrote → EndsLine files words line n hd (exit_for hd halt wrote n.shelf_before n.shelf_now)
run_ends files words line n hd halt wrote s fits = elim (cases_Bool (wants_memory halt)) [
  | inl y ↦ rw y (inr (halt, s))
  | inr o ↦ rw o (elim (cases_Bool (list_any is_starved hd)) [
    | inl z ↦ rw z (inr (halt, s))
    | inr p ↦ rw p (write_ends files words line n hd halt wrote s fits p)
  ])
]

pub stopped_ends : (files : Option Files) (words : List (List ℕ)) (line : RunLine) (n : Counts) (exit : Exit) → Stopped files words line n.shelf_before n.shelf_now exit → EndsLine files words line n [] exit
stopped_ends files words line n exits.NoMemory h = inl refl
stopped_ends files words line n exits.Usage h = absurd h
stopped_ends files words line n (exits.Shelf cause) h = inl (refl, h)
stopped_ends files words line n (exits.File refused) h = (refl, h)
stopped_ends files words line n (exits.Script at why) h = (refl, h)
stopped_ends files words line n exits.Done h = absurd h
stopped_ends files words line n exits.Sink h = absurd h
stopped_ends files words line n exits.JournalFull h = absurd h

-- ---- the text

grows_front : (old new : Option (List ℕ)) (by : List ℕ) → TextGrows old new by → GrowsByFront old new by
grows_front old new by grew =
    let all : take (length by) by ≡ by = take_all (length by) by (omega arith) in
    (length by, subst (λ (x : List ℕ). TextGrows old new x) (sym all) grew)

any_front : (old new : Option (List ℕ)) (hd : List DemuxRecord) (wrote : Result Unit SinkError) → WroteWell old new hd wrote → GrowsByFront old new (transcript hd)
any_front old new hd (Ok u) well = grows_front old new (transcript hd) well
any_front old new hd (Err e) well = well

shelf_written : (old new : Option (List ℕ)) (hd : List DemuxRecord) (failed : Bool) (before now : ℕ) → TextGrows old new (transcript hd) → Written old new hd (shelf_exit failed before now)
shelf_written old new hd true before now well = well
shelf_written old new hd false before now well = well

halt_written : (old new : Option (List ℕ)) (hd : List DemuxRecord) (halt : Result Unit Halt) (failed : Bool) (before now : ℕ) → TextGrows old new (transcript hd) → Written old new hd (halt_exit halt failed before now)
halt_written old new hd (Ok u) failed before now well = shelf_written old new hd failed before now well
halt_written old new hd (Err halts.JournalFull) failed before now well = well
halt_written old new hd (Err halts.NoMemory) failed before now well = grows_front old new (transcript hd) well

write_written : (old new : Option (List ℕ)) (hd : List DemuxRecord) (halt : Result Unit Halt) (wrote : Result Unit SinkError) (failed : Bool) (before now : ℕ) → WroteWell old new hd wrote
    → Written old new hd (write_exit wrote halt failed before now)
write_written old new hd halt (Ok u) failed before now well = halt_written old new hd halt failed before now well
write_written old new hd halt (Err faults.NoMemory) failed before now well = well
write_written old new hd halt (Err faults.Failed) failed before now well = well

pub run_written : (old new : Option (List ℕ)) (hd : List DemuxRecord) (halt : Result Unit Halt) (wrote : Result Unit SinkError) (before now : ℕ) → WroteWell old new hd wrote
    → Written old new hd (exit_for hd halt wrote before now)
run_written old new hd halt wrote before now well = elim (cases_Bool (wants_memory halt)) [
  | inl y ↦ rw y (any_front old new hd wrote well)
  | inr o ↦ rw o (elim (cases_Bool (list_any is_starved hd)) [
    | inl z ↦ rw z (any_front old new hd wrote well)
    | inr p ↦ rw p (write_written old new hd halt wrote (list_any is_failed hd) before now well)
  ])
]

same_text : (text : Option (List ℕ)) → TextGrows text text []
same_text None = refl
same_text (Some old) = ap (λ (x : List ℕ). Some x) (sym (append-nil old))

pub stopped_written : (files : Option Files) (words : List (List ℕ)) (line : RunLine) (before now : ℕ) (text : Option (List ℕ)) (exit : Exit) → Stopped files words line before now exit → Written text text [] exit
stopped_written files words line before now text exits.NoMemory h = (0, same_text text)
stopped_written files words line before now text exits.Usage h = absurd h
stopped_written files words line before now text (exits.Shelf cause) h = same_text text
stopped_written files words line before now text (exits.File refused) h = refl
stopped_written files words line before now text (exits.Script at why) h = refl
stopped_written files words line before now text exits.Done h = absurd h
stopped_written files words line before now text exits.Sink h = absurd h
stopped_written files words line before now text exits.JournalFull h = absurd h
