-- Where nothing stands in the way of a run, all lines are played, and drains go to the ends: a failure is told only behind one.
use Rattle.std.proofs.Common.{◌≡◌, ℕ, ◌<◌, ◌≤◌, Bool, true, false, List, [], ◌∷◌, ◌++◌, length, Option, Some, None, Ok, refl, sym, ap, ◌∙◌, subst, inl, inr, arith}
use Rattle.std.specs.Prelude.{◌||◌, ◌&&◌, ◌==◌, reverse}
use Rattle.std.specs.List.{list_any}
use Rattle.std.proofs.lemmas.Bool.{cases_Bool}
use Rattle.std.proofs.lemmas.List.{append-nil, append_assoc}
use Rattle.std.proofs.lemmas.List.Folds.{list_any-append}
use Rattle.std.proofs.lemmas.List.Sorted.{IsPermutation-reverse, list_any-IsPermutation}
use Rattle.mc_packet.specs.declared.choice.Choice.{Choice}
use Rattle.mc_packet.specs.declared.choice.Kind.{Kind}
use Rattle.mc_packet.specs.declared.choice.Kind.TheVariants.{Video, Audio, Sub}
use Rattle.mc_packet.specs.declared.cache.Limits.{Limits}
use Rattle.mc_outside.specs.Causes.{Rose}
use Rattle.mc_outside.specs.Shelf.{Files}
use Rattle.mc_journal.specs.declared.record.DemuxRecord.{DemuxRecord}
use Rattle.mc_journal.specs.declared.record.DemuxRecord.TheVariants.{Opened, Sought, Switched, Found, Fed, Failed, Starved, Dropped, Joined, Gave, Ended, Overfull, Faulted, Wanting, Shown, Refused}
use Rattle.mc_journal.specs.Films.{Film}
use Rattle.mc_journal.specs.Readings.{last_fault}
use Rattle.mc_journal.specs.Used.{IsFailure, IsUsed, IsWant, Tells}
use Rattle.mc_script.specs.declared.acts.Act.{Act}
use Rattle.mc_script.specs.declared.acts.Act.TheVariants as acts
use Rattle.mc_script.specs.declared.acts.ScriptWhy.{ScriptWhy}
use Rattle.mc_script.specs.declared.exit.Exit.{Exit}
use Rattle.mc_script.specs.declared.exit.Exit.TheVariants as exits
use Rattle.mc_script.specs.declared.exit.ShelfCause.{ShelfCause}
use Rattle.mc_script.specs.declared.exit.ShelfCause.TheVariants as causes
use Rattle.mc_script.specs.declared.options.RunLine.{RunLine}
use Rattle.mc_filmed.specs.Films.{film_for}
use Rattle.mc_script.specs.Plays.{Leaves, Played, taken_after}
use Rattle.mc_journal.specs.Drives.{Readings, selection, still_left, tells_reader}
use Rattle.mc_journal.specs.Callers.{reader}
use Rattle.mc_play.specs.Asked.{CausedBy, ScriptIs, ScriptIsRefused, name_at}
use Rattle.mc_play.specs.Run.{Counts, Ends, EndsLine, Stepped, is_failed, is_starved}
use Rattle.mc_play.specs.Completing.{Completes, EndsAll, Fulfils, HasAll, IsEnded, IsQuiet, PlayedOut, ends_reader}

or_false : (a b : Bool) → (a || b) ≡ false → (a ≡ false) × (b ≡ false)
or_false true b e = absurd (let f : true ≡ false = e in cc)
or_false false b e = (refl, e)

-- ---- a failure is told only behind one

-- a failure told to a reader
abbrev is_told : DemuxRecord → Bool
is_told (Faulted by track before after) = true
is_told (Wanting by track) = true
is_told _ = false

failed_in : (h : List DemuxRecord) (b a : ℕ) → IsFailure (last_fault h) b a → list_any is_failed h ≡ true
failed_in [] b a x = absurd x
failed_in (Opened by set ∷ h) b a x = absurd x
failed_in (Sought by set t dir how ∷ h) b a x = absurd x
failed_in (Switched by set added t ∷ h) b a x = absurd x
failed_in (Failed by before after ∷ h) b a x = refl
failed_in (Starved by ∷ h) b a x = absurd x
failed_in (Found by starts ∷ h) b a x = failed_in h b a x
failed_in (Fed by from to took ending ∷ h) b a x = failed_in h b a x
failed_in (Dropped by removal ∷ h) b a x = failed_in h b a x
failed_in (Joined by ∷ h) b a x = failed_in h b a x
failed_in (Gave by track place time len sum sync key ∷ h) b a x = failed_in h b a x
failed_in (Ended by track ending ∷ h) b a x = failed_in h b a x
failed_in (Overfull by track forward max ∷ h) b a x = failed_in h b a x
failed_in (Faulted by track before after ∷ h) b a x = failed_in h b a x
failed_in (Wanting by track ∷ h) b a x = failed_in h b a x
failed_in (Shown by view ∷ h) b a x = failed_in h b a x
failed_in (Refused by why ∷ h) b a x = failed_in h b a x

starved_in : (h : List DemuxRecord) → IsWant (last_fault h) → list_any is_starved h ≡ true
starved_in [] x = absurd x
starved_in (Opened by set ∷ h) x = absurd x
starved_in (Sought by set t dir how ∷ h) x = absurd x
starved_in (Switched by set added t ∷ h) x = absurd x
starved_in (Failed by before after ∷ h) x = absurd x
starved_in (Starved by ∷ h) x = refl
starved_in (Found by starts ∷ h) x = starved_in h x
starved_in (Fed by from to took ending ∷ h) x = starved_in h x
starved_in (Dropped by removal ∷ h) x = starved_in h x
starved_in (Joined by ∷ h) x = starved_in h x
starved_in (Gave by track place time len sum sync key ∷ h) x = starved_in h x
starved_in (Ended by track ending ∷ h) x = starved_in h x
starved_in (Overfull by track forward max ∷ h) x = starved_in h x
starved_in (Faulted by track before after ∷ h) x = starved_in h x
starved_in (Wanting by track ∷ h) x = starved_in h x
starved_in (Shown by view ∷ h) x = starved_in h x
starved_in (Refused by why ∷ h) x = starved_in h x

tells_none : (film : Film) (limits : Limits) (h : List DemuxRecord) (r : DemuxRecord) → Tells film limits h r → list_any is_failed h ≡ false → list_any is_starved h ≡ false → is_told r ≡ false
tells_none film limits h (Faulted by track b a) t f s = absurd (let y = failed_in h b a t.0 in let x : true ≡ false = sym y ∙ f in cc)
tells_none film limits h (Wanting by track) t f s = absurd (let y = starved_in h t.0 in let x : true ≡ false = sym y ∙ s in cc)
tells_none film limits h (Opened by set) t f s = refl
tells_none film limits h (Sought by set time dir how) t f s = refl
tells_none film limits h (Switched by set added time) t f s = refl
tells_none film limits h (Failed by before after) t f s = refl
tells_none film limits h (Starved by) t f s = refl
tells_none film limits h (Found by starts) t f s = refl
tells_none film limits h (Fed by from to took ending) t f s = refl
tells_none film limits h (Dropped by removal) t f s = refl
tells_none film limits h (Joined by) t f s = refl
tells_none film limits h (Gave by track place time len sum sync key) t f s = refl
tells_none film limits h (Ended by track ending) t f s = refl
tells_none film limits h (Overfull by track forward max) t f s = refl
tells_none film limits h (Shown by view) t f s = refl
tells_none film limits h (Refused by why) t f s = refl

used_quiet : (film : Film) (limits : Limits) (h : List DemuxRecord) → IsUsed film limits h → list_any is_failed h ≡ false → list_any is_starved h ≡ false → list_any is_told h ≡ false
used_quiet film limits [] u f s = refl
used_quiet film limits (r ∷ h) u f s =
    let g = (or_false (is_failed r) (list_any is_failed h) f).1 in
    let w = (or_false (is_starved r) (list_any is_starved h) s).1 in
    let here = tells_none film limits h r u.0.2 g w in
    let there = used_quiet film limits h u.1 g w in
    rw (here, there) refl

reversed : (test : DemuxRecord → Bool) (h : List DemuxRecord) → list_any test h ≡ list_any test (reverse h)
reversed test h = list_any-IsPermutation test h (reverse h) (IsPermutation-reverse h)

-- a journal without a failure tells none
quiet : (film : Film) (limits : Limits) (hd : List DemuxRecord) → IsUsed film limits (reverse hd) → list_any is_failed hd ≡ false → list_any is_starved hd ≡ false → list_any is_told hd ≡ false
quiet film limits hd u f s = reversed is_told hd ∙ used_quiet film limits (reverse hd) u (sym (reversed is_failed hd) ∙ f) (sym (reversed is_starved hd) ∙ s)

-- ---- drains

ended_in : (n k : ℕ) (part : List DemuxRecord) → list_any is_told part ≡ false → list_any (tells_reader n k) part ≡ true → list_any (ends_reader n k) part ≡ true
ended_in n k [] q e = e
ended_in n k (Ended by track ending ∷ rs) q e = elim (cases_Bool (by == n && track == k)) [
  | inl y ↦ rw y refl
  | inr z ↦ rw z (ended_in n k rs q (rw z at e))
]
ended_in n k (Faulted by track b a ∷ rs) q e = absurd (let x : true ≡ false = q in cc)
ended_in n k (Wanting by track ∷ rs) q e = absurd (let x : true ≡ false = q in cc)
ended_in n k (Opened by set ∷ rs) q e = ended_in n k rs q e
ended_in n k (Sought by set time dir how ∷ rs) q e = ended_in n k rs q e
ended_in n k (Switched by set added time ∷ rs) q e = ended_in n k rs q e
ended_in n k (Failed by before after ∷ rs) q e = ended_in n k rs q e
ended_in n k (Starved by ∷ rs) q e = ended_in n k rs q e
ended_in n k (Found by starts ∷ rs) q e = ended_in n k rs q e
ended_in n k (Fed by from to took ending ∷ rs) q e = ended_in n k rs q e
ended_in n k (Dropped by removal ∷ rs) q e = ended_in n k rs q e
ended_in n k (Joined by ∷ rs) q e = ended_in n k rs q e
ended_in n k (Gave by track place time len sum sync key ∷ rs) q e = ended_in n k rs q e
ended_in n k (Overfull by track forward max ∷ rs) q e = ended_in n k rs q e
ended_in n k (Shown by view ∷ rs) q e = ended_in n k rs q e
ended_in n k (Refused by why ∷ rs) q e = ended_in n k rs q e

ends_kind : (kind : Kind) (part : List DemuxRecord) (track : Option ℕ) → list_any is_told part ≡ false → still_left kind part track ≡ None → IsEnded part kind track
ends_kind kind part None q e = tt
ends_kind kind part (Some k) q e = elim (cases_Bool (list_any (tells_reader (reader kind) k) part)) [
  | inl y ↦ ended_in (reader kind) k part q y
  | inr z ↦ absurd (let x : Some k ≡ None = rw z at e in cc)
]

ends_all : (rd : Readings) (act : Act) (out : Option (List DemuxRecord)) (old mid : List DemuxRecord) (l : Leaves rd act out old mid) → list_any is_told l.part ≡ false → EndsAll act old l.part
ends_all rd acts.Drain out old mid l q =
    let e = l.ends in (
      ends_kind Video l.part (selection old).video q (ap (λ (c : Choice). c.video) e),
      ends_kind Audio l.part (selection old).audio q (ap (λ (c : Choice). c.audio) e),
      ends_kind Sub l.part (selection old).sub q (ap (λ (c : Choice). c.sub) e),
    )
ends_all rd (acts.Seek t dir) out old mid l q = tt
ends_all rd (acts.Switch numbers time) out old mid l q = tt
ends_all rd acts.Show out old mid l q = tt
ends_all rd (acts.Demux count) out old mid l q = tt
ends_all rd acts.DemuxTake out old mid l q = tt
ends_all rd acts.DemuxGive out old mid l q = tt
ends_all rd (acts.Read kind count) out old mid l q = tt

-- ---- all lines

played_on : (rd : Readings) (lines : List (ℕ × Act)) (out : Option (List DemuxRecord)) (old new : List DemuxRecord) → Played rd lines out old new → (tail : List DemuxRecord) × (new ≡ old ++ tail)
played_on rd [] out old new p = ([], p ∙ sym (append-nil old))
played_on rd (line ∷ lines) out old new p =
    let m = played_on rd lines (taken_after line.1 out old) p.0 new p.2 in
    (p.1.part ++ m.0, m.1 ∙ (ap (λ (x : List DemuxRecord). x ++ m.0) p.1.grows ∙ append_assoc old p.1.part m.0))

-- in a journal that grew by a part and more, no failure is told in the part
part_quiet : (old part tail mid new : List DemuxRecord) → mid ≡ old ++ part → new ≡ mid ++ tail → list_any is_told new ≡ false → list_any is_told part ≡ false
part_quiet old part tail mid new g e q =
    let all : list_any is_told (mid ++ tail) ≡ false = subst (λ (x : List DemuxRecord). list_any is_told x ≡ false) e q in
    let front = (or_false (list_any is_told mid) (list_any is_told tail) (sym (list_any-append is_told mid tail) ∙ all)).0 in
    let both : list_any is_told (old ++ part) ≡ false = subst (λ (x : List DemuxRecord). list_any is_told x ≡ false) g front in
    (or_false (list_any is_told old) (list_any is_told part) (sym (list_any-append is_told old part) ∙ both)).1

played_out : (rd : Readings) (lines : List (ℕ × Act)) (out : Option (List DemuxRecord)) (old new : List DemuxRecord) → Played rd lines out old new → list_any is_told new ≡ false → PlayedOut rd lines out old new
played_out rd [] out old new p q = p
played_out rd (line ∷ lines) out old new p q =
    let m = played_on rd lines (taken_after line.1 out old) p.0 new p.2 in
    let here = part_quiet old p.1.part m.0 p.0 new p.1.grows m.1 q in
    (p.0, (p.1, ends_all rd line.1 out old p.0 p.1 here), played_out rd lines (taken_after line.1 out old) p.0 new p.2 q)

-- where no read failed and no memory was wanting, drains went to the ends
pub ended_out : (film : Film) (limits : Limits) (rd : Readings) (lines : List (ℕ × Act)) (old hd : List DemuxRecord) → IsUsed film limits (reverse hd) → Played rd lines None old hd → list_any is_failed hd ≡ false → list_any is_starved hd ≡ false
    → PlayedOut rd lines None old hd
ended_out film limits rd lines old hd u p f w = played_out rd lines None old hd p (quiet film limits hd u f w)

fulfils_done : (files : Option Files) (words : List (List ℕ)) (line : RunLine) (before now : ℕ) (hd : List DemuxRecord) → Stepped files words line before now (Ok tt) hd → list_any is_failed hd ≡ false → list_any is_starved hd ≡ false
    → Fulfils files words line hd exits.Done
fulfils_done None words line before now hd s f w = (s.lines, s.script, tt)
fulfils_done (Some files) words line before now hd s f w =
    let film = s.film in (
      s.lines,
      s.script,
      (
        film.0,
        film.1,
        (
          film.2.0,
          film.2.1,
          let plays = film.2.2 in
              played_out _ s.lines None _ hd plays.runs (quiet (film_for film.2.0) line.limits hd plays.used f w),
        ),
      ),
    )

-- ---- what else may come

script_stands : (files : Files) (words : List (List ℕ)) (named : Option ℕ) (lines : List (ℕ × Act)) (n : ℕ) (why : ScriptWhy) → ScriptIs (Some files) words named lines → ScriptIsRefused (Some files) words named n why → ⊥
script_stands files words None lines n why s r = r
script_stands files words (Some k) lines n why s r =
    let same : s.0 ≡ r.0 = let e = sym s.1 ∙ r.1 in cc in
    let x = s.2 in
    let y = r.2 in
    cc

named_stands : (files : Files) (words : List (List ℕ)) (named : Option ℕ) (lines : List (ℕ × Act)) (n : ℕ) → ScriptIs (Some files) words named lines → Some n ≡ named → files (name_at words n) ≡ None → ⊥
named_stands files words None lines n s e l = absurd (cc)
named_stands files words (Some k) lines n s e l =
    let same : n ≡ k = cc in
    let here : files (name_at words k) ≡ None = subst (λ (j : ℕ). files (name_at words j) ≡ None) same l in
    let x = s.1 in
    cc

no_shelf : (files : Files) (words : List (List ℕ)) (line : RunLine) (before now : ℕ) (cause : ShelfCause) → HasAll (Some files) words line → (Rose before now → ⊥) → CausedBy (Some files) words line before now cause → ⊥
no_shelf files words line before now (causes.Rose b n) a q c = q c.2
no_shelf files words line before now (causes.NoFile n) a q c = elim c.0 [
  | inl e ↦
      let here : files (name_at words line.file) ≡ None = subst (λ (j : ℕ). files (name_at words j) ≡ None) e c.1 in
      let x = a.1.1 in
      cc
  | inr e ↦ named_stands files words line.script a.0.0 n a.0.1 e c.1
]

completes_line : (files : Option Files) (words : List (List ℕ)) (line : RunLine) (n : Counts) (hd : List DemuxRecord) (exit : Exit) → EndsLine files words line n hd exit → HasAll files words line → IsQuiet n → length hd < 16000000
    → Fulfils files words line hd exit
completes_line files words line n hd exits.Done e a q l = fulfils_done files words line n.shelf_before n.shelf_now hd e.0 e.1 e.2
completes_line files words line n hd exits.NoMemory e a q l = tt
completes_line files words line n hd exits.Usage e a q l = absurd e
completes_line files words line n hd exits.Sink e a q l = absurd (q.1 e.1)
completes_line files words line n hd exits.JournalFull e a q l = let f : 16000000 ≤ length hd = e.full in absurd (omega arith)
completes_line None words line n hd (exits.Shelf cause) e a q l = absurd a
completes_line None words line n hd (exits.Script at why) e a q l = absurd a
completes_line None words line n hd (exits.File refused) e a q l = absurd a
completes_line (Some files) words line n hd (exits.Shelf cause) e a q l = elim e [
  | inl x ↦ absurd (no_shelf files words line n.shelf_before n.shelf_now cause a q.0 x.1)
  | inr x ↦ absurd (q.0 x.3)
]
completes_line (Some files) words line n hd (exits.Script at why) e a q l = absurd (script_stands files words line.script a.0.0 at why a.0.1 e.1)
completes_line (Some files) words line n hd (exits.File refused) e a q l =
    let f = e.1.1 in
    let same : f.0 ≡ a.1.0 = let x = sym f.1 ∙ a.1.1 in cc in
    let y = f.2 in
    let z = a.1.2.1 in
    absurd (cc)

pub completes : (files : Option Files) (words : List (List ℕ)) (line : Option RunLine) (n : Counts) (hd : List DemuxRecord) (exit : Exit) → Ends files words line n hd exit → Completes files words line n hd exit
completes files words None n hd exit e = tt
completes files words (Some line) n hd exit e = completes_line files words line n hd exit e
