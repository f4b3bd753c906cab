-- Lines one after the other.
use Rattle.std.proofs.Common.{◌≡◌, ℕ, ◌<◌, ◌≤◌, Bool, true, false, List, [], ◌∷◌, ◌++◌, drop, length, refl, sym, subst, ap, ◌∙◌, inl, inr, arith, append_assoc}
use Rattle.std.proofs.lemmas.Bool.{cases_Bool}
use Rattle.std.proofs.lemmas.List.{append-nil}
use Rattle.std.proofs.lemmas.List.Folds.{list_any-append}
use Rattle.std.proofs.Math.Seq.{drop-append_seam}
use Rattle.std.specs.Prelude.{Option, Some, None, Result, Ok, Err, ◌||◌, not, ⊤}
use Rattle.std.specs.List.{list_any}
use Rattle.mc_journal.specs.declared.record.DemuxRecord.{DemuxRecord}
use Rattle.mc_journal.specs.declared.record.DemuxRecord.TheVariants.{Found, Fed, Failed, Starved}
use Rattle.mc_calls.specs.declared.answer.DemuxError.{DemuxError}
use Rattle.mc_calls.specs.declared.answer.DemuxError.TheVariants as errors
use Rattle.mc_calls.specs.declared.answer.Taken.{Taken}
use Rattle.mc_calls.specs.declared.answer.Taken.TheVariants as takens
use Rattle.mc_calls.specs.declared.job.Job.{Job}
use Rattle.mc_script.specs.declared.acts.Act.{Act}
use Rattle.mc_script.specs.declared.acts.Act.TheVariants as acts
use Rattle.mc_script.specs.Pairing.{IsPaired}
use Rattle.mc_script.specs.Plays.{Begins, Leaves, May, Played, PlayedInPart, taken_after}
use Rattle.mc_journal.specs.Drives.{Readings, gives_none, is_order, is_outcome}
use Rattle.mc_journal.specs.Callers.{by_of}
use Rattle.mc_lines.specs.declared.halt.Halt.{Halt}
use Rattle.mc_lines.specs.declared.halt.Halt.TheVariants as halts
use Rattle.mc_jobs.specs.Doing.{number_of}
use Rattle.mc_lines.specs.Calls.{Ahead, Bears, Brings, Jobs, Outcome, at}
use Rattle.mc_lines.specs.Lines.{Grows, Line, Orders, Stands, settled}
use Rattle.mc_lines.specs.Runs.{Goes, IsAged, IsAwaited, IsFree, IsOut, Keeps, Took}
use Rattle.mc_lines.proofs.Counts.{count-one}
use Rattle.mc_lines.proofs.Growing.{grows_none, grows_outcome}
use Rattle.mc_lines.proofs.Parts.{call_each, none}

-- ---- the job that is out

same_number : (m n : ℕ) → Some m ≡ Some n → m ≡ n
same_number m n e = cc

-- it is the one whose outcome is awaited, where it is not stale
pub bears : (job : Job) (taken now : List DemuxRecord) (j : Jobs) → IsAged job taken now j → Bears job j
bears job taken now j a e = elim (cases_Bool (list_any is_order a.between)) [
  | inl y ↦
      let same : a.number ≡ j.number = same_number a.number j.number (sym a.bears ∙ e) in
      let less : a.number < j.number = a.stale y in
      absurd (omega (arith, same, less))
  | inr n ↦ (a.awaited n).1
]

pub awaited_bears : (job : Job) (now : List DemuxRecord) (j : Jobs) → IsAwaited (Some job) now j → Bears job j
awaited_bears job now j a = bears job a.0 now j a.1

-- it was just taken
pub taken_now : (job : Job) (h : List DemuxRecord) (j : Jobs) → number_of job ≡ Some j.number → j.kept ≡ Some job → IsAged job h h j
taken_now job h j n k = record { between = []; grows = sym (append-nil h); number = j.number; bears = n; awaited = λ q. (refl, k); stale = λ q. absurd (cc) }

-- ---- over other lines

or_left : (a b : Bool) → (a || b) ≡ false → a ≡ false
or_left true b e = e
or_left false b e = refl

or_right : (a b : Bool) → (a || b) ≡ false → b ≡ false
or_right true b e = absurd (cc)
or_right false b e = e

older : (job : Job) (taken old new : List DemuxRecord) (j j' : Jobs) (a : IsAged job taken old j) (o : Orders old new j j') → IsAged job taken new j'
older job taken old new j j' a o = record {
  between = a.between ++ o.part;
  grows = o.grows ∙ ap (λ (x : List DemuxRecord). x ++ o.part) a.grows ∙ append_assoc taken a.between o.part;
  number = a.number;
  bears = a.bears;
  awaited = λ q.
      let both : (list_any is_order a.between || list_any is_order o.part) ≡ false = sym (list_any-append is_order a.between o.part) ∙ q in
      let first = a.awaited (or_left (list_any is_order a.between) (list_any is_order o.part) both) in
      let same : j' ≡ j = o.same (or_right (list_any is_order a.between) (list_any is_order o.part) both) in
      (first.0 ∙ sym (ap (λ (x : Jobs). x.number) same), ap (λ (x : Jobs). x.kept) same ∙ first.1);
  stale = λ q. rose (list_any is_order a.between) (list_any is_order o.part) refl refl (sym (list_any-append is_order a.between o.part) ∙ q);
} where
  rose : (b c : Bool) → list_any is_order a.between ≡ b → list_any is_order o.part ≡ c → (list_any is_order a.between || list_any is_order o.part) ≡ true → a.number < j'.number
  rose true true e f q = let l : a.number < j.number = a.stale e in let m : j.number < j'.number = o.newer f in omega (arith, l, m)
  rose true false e f q = let l : a.number < j.number = a.stale e in let s : j'.number ≡ j.number = ap (λ (x : Jobs). x.number) (o.same f) in omega (arith, l, s)
  rose false true e f q = let s : a.number ≡ j.number = (a.awaited e).0 in let m : j.number < j'.number = o.newer f in omega (arith, s, m)
  rose false false e f q = let no_one : false ≡ true = rw (e, f) at q in absurd (cc)

pub still_awaited : (job : Option Job) (old new : List DemuxRecord) (j j' : Jobs) → IsAwaited job old j → Orders old new j j' → IsAwaited job new j'
still_awaited None old new j j' a o = tt
still_awaited (Some job) old new j j' a o = (a.0, older job a.0 old new j j' a.1 o)

still_out : (rd : Readings) (job : Option Job) (taken : Option (List DemuxRecord)) (old new : List DemuxRecord) (j j' : Jobs) → Orders old new j j' → IsOut rd job taken old j → IsOut rd job taken new j'
still_out rd None None old new j j' o h = tt
still_out rd (Some job) None old new j j' o h = absurd h
still_out rd None (Some taken) old new j j' o h =
    (h.0, record { between = h.1.between ++ o.part; grows = o.grows ∙ ap (λ (x : List DemuxRecord). x ++ o.part) h.1.grows ∙ append_assoc taken h.1.between o.part })
still_out rd (Some job) (Some taken) old new j j' o h = (h.0, older job taken old new j j' h.1 o)

-- where no job is out, none is, whatever number comes
none_out : (rd : Readings) (taken : Option (List DemuxRecord)) (old new part : List DemuxRecord) (j j' : Jobs) → new ≡ old ++ part → IsOut rd None taken old j → IsOut rd None taken new j'
none_out rd None old new part j j' e h = tt
none_out rd (Some taken) old new part j j' e h =
    (h.0, record { between = h.1.between ++ part; grows = e ∙ ap (λ (x : List DemuxRecord). x ++ part) h.1.grows ∙ append_assoc taken h.1.between part })

-- ---- a give

-- a give of a job that is out, by what stands between
gives : (rd : Readings) (old taken between : List DemuxRecord) → rd.idle taken ≡ false → old ≡ taken ++ between → gives_none rd old (Some taken) ≡ list_any is_order between
gives rd old taken between e f = rw (f, drop-append_seam taken between, e) (or-false (list_any is_order between)) where
  or-false : (b : Bool) → (b || false) ≡ b
  or-false true = refl
  or-false false = refl

or-true : (b : Bool) → (b || true) ≡ true
or-true true = refl
or-true false = refl

may_give : (rd : Readings) (old : List DemuxRecord) (own : DemuxRecord) → is_outcome own ≡ true → by_of own ≡ 5 → May rd acts.DemuxGive old [] own
may_give rd old (Found by starts) is five = (five, omega arith)
may_give rd old (Fed by from to took ending) is five = (five, omega arith)
may_give rd old (Failed by faults faults') is five = (five, omega arith)
may_give rd old (Starved by) is five = (five, omega arith)
may_give rd old _ is five = absurd (cc)

pub given_none : (rd : Readings) (taken : Option (List DemuxRecord)) (old : List DemuxRecord) (j : Jobs) → IsOut rd None taken old j → Leaves rd acts.DemuxGive taken old old
given_none rd None old j h = record { part = []; grows = sym (append-nil old); each = tt; ends = refl }
given_none rd (Some taken) old j h = record { part = []; grows = sym (append-nil old); each = tt; ends = rw (h.0, or-true (list_any is_order (drop (length taken) old))) refl }

brought_fresh : (rd : Readings) (job : Job) (taken old new : List DemuxRecord) (j : Jobs) (before after : ℕ) → rd.idle taken ≡ false → (a : IsAged job taken old j) → number_of job ≡ Some j.number
    → Outcome before after old new → Leaves rd acts.DemuxGive (Some taken) old new
brought_fresh rd job taken old new j before after idle a e o =
    let none_between : list_any is_order a.between ≡ false = elim (cases_Bool (list_any is_order a.between)) [
      | inl y ↦
          let same : a.number ≡ j.number = same_number a.number j.number (sym a.bears ∙ e) in
          let less : a.number < j.number = a.stale y in
          absurd (omega (arith, same, less))
      | inr n ↦ n
    ] in
    let fresh : gives_none rd old (Some taken) ≡ false = gives rd old taken a.between idle a.grows ∙ none_between in
    record {
      part = o.own ∷ o.wrote.extras;
      grows = o.wrote.grows;
      each = call_each rd acts.DemuxGive old [] old new 5 o.own o.wrote (sym o.by_demuxer) (may_give rd old o.own o.is o.by_demuxer);
      ends = rw fresh (count-one is_outcome (λ n m. refl, λ n. refl) o.own o.wrote [] ∙ rw o.is refl);
    }

brought_stale : (rd : Readings) (job : Job) (taken old new : List DemuxRecord) (j : Jobs) → rd.idle taken ≡ false → (a : IsAged job taken old j) → (number_of job ≡ Some j.number → ⊥) → new ≡ old
    → Leaves rd acts.DemuxGive (Some taken) old new
brought_stale rd job taken old new j idle a differ e =
    let some_between : list_any is_order a.between ≡ true = elim (cases_Bool (list_any is_order a.between)) [
      | inl y ↦ y
      | inr n ↦ absurd (differ (a.bears ∙ ap (λ (x : ℕ). Some x) (a.awaited n).0))
    ] in
    let stale : gives_none rd old (Some taken) ≡ true = gives rd old taken a.between idle a.grows ∙ some_between in
    record { part = []; grows = e ∙ sym (append-nil old); each = tt; ends = rw stale refl }

pub given : (rd : Readings) (job : Job) (taken : Option (List DemuxRecord)) (before after : ℕ) (old new : List DemuxRecord) (j j' : Jobs) (r : Result Taken DemuxError) → IsOut rd (Some job) taken old j
    → Brings job before after old new j j' r → Line rd acts.DemuxGive taken old new (settled r)
given rd job None before after old new j j' r h b = absurd h
given rd job (Some taken) before after old new j j' (Ok takens.Taken) h b = brought_fresh rd job taken old new j before after h.0 h.1 b.0 b.1
given rd job (Some taken) before after old new j j' (Ok (takens.Stale asked now)) h b = brought_stale rd job taken old new j h.0 h.1 b.0 b.1
given rd job (Some taken) before after old new j j' (Err (errors.Refused why)) h b = absurd b
given rd job (Some taken) before after old new j j' (Err errors.JournalFull) h b = (none rd acts.DemuxGive old new b.0, rw b.0 b.2)
given rd job (Some taken) before after old new j j' (Err errors.NoMemory) h b = none rd acts.DemuxGive old new b.0

pub given_grows : (job : Job) (before after : ℕ) (old new : List DemuxRecord) (j j' : Jobs) (r : Result Taken DemuxError) → before ≤ after → Brings job before after old new j j' r → Grows before after old new
given_grows job before after old new j j' (Ok takens.Taken) l b = grows_outcome before after old new l b.1
given_grows job before after old new j j' (Ok (takens.Stale asked now)) l b = grows_none before after old new l b.1
given_grows job before after old new j j' (Err (errors.Refused why)) l b = absurd b
given_grows job before after old new j j' (Err errors.JournalFull) l b = grows_none before after old new l b.0
given_grows job before after old new j j' (Err errors.NoMemory) l b = grows_none before after old new l b.0

-- ---- one line

-- neither a take nor a give
abbrev pub IsPlain : Act → Type 0
IsPlain acts.DemuxTake = ⊥
IsPlain acts.DemuxGive = ⊥
IsPlain _ = ⊤

-- a plain line does not ask which job is out
plain : (rd : Readings) (act : Act) (taken : Option (List DemuxRecord)) (old new : List DemuxRecord) → IsPlain act → Leaves rd act None old new → Leaves rd act taken old new × (taken_after act taken old ≡ taken)
plain rd (acts.Seek t dir) taken old new p l = (record { part = l.part; grows = l.grows; each = l.each; ends = l.ends }, refl)
plain rd (acts.Switch numbers time) taken old new p l = (record { part = l.part; grows = l.grows; each = l.each; ends = l.ends }, refl)
plain rd acts.Show taken old new p l = (record { part = l.part; grows = l.grows; each = l.each; ends = l.ends }, refl)
plain rd (acts.Demux count) taken old new p l = (record { part = l.part; grows = l.grows; each = l.each; ends = l.ends }, refl)
plain rd acts.DemuxTake taken old new p l = absurd p
plain rd acts.DemuxGive taken old new p l = absurd p
plain rd (acts.Read kind count) taken old new p l = (record { part = l.part; grows = l.grows; each = l.each; ends = l.ends }, refl)
plain rd acts.Drain taken old new p l = (record { part = l.part; grows = l.grows; each = l.each; ends = l.ends }, refl)

-- a line that calls for no outcome, whatever job is out
pub goes : (rd : Readings) (act : Act) (old new : List DemuxRecord) (job : Option Job) (j j' : Jobs) (r : Result Unit Halt) → IsPlain act → Line rd act None old new r → Orders old new j j'
    → (taken : Option (List DemuxRecord)) → IsOut rd job taken old j → Goes rd act taken old new job j' r
goes rd act old new job j j' (Ok u) p l o taken h =
    let q = plain rd act taken old new p l in
    (q.0, subst (λ (x : Option (List DemuxRecord)). IsOut rd job x new j') (sym q.1) (still_out rd job taken old new j j' o h))
goes rd act old new job j j' (Err halts.JournalFull) p l o taken h = l
goes rd act old new job j j' (Err halts.NoMemory) p l o taken h = l

-- a line that does jobs of its own, while none is out
pub goes_free : (rd : Readings) (act : Act) (old new : List DemuxRecord) (job : Option Job) (j j' : Jobs) (r : Result Unit Halt) → IsPlain act → job ≡ None → Line rd act None old new r
    → (taken : Option (List DemuxRecord)) → IsOut rd job taken old j → Goes rd act taken old new job j' r
goes_free rd act old new job j j' (Ok u) p e l taken h =
    let q = plain rd act taken old new p l in
    let free : IsOut rd None taken old j = subst (λ (x : Option Job). IsOut rd x taken old j) e h in
    let now : IsOut rd None taken new j' = none_out rd taken old new l.part j j' l.grows free in
    (q.0, subst (λ (x : Option (List DemuxRecord)). IsOut rd job x new j') (sym q.1) (subst (λ (x : Option Job). IsOut rd x taken new j') (sym e) now))
goes_free rd act old new job j j' (Err halts.JournalFull) p e l taken h = l
goes_free rd act old new job j j' (Err halts.NoMemory) p e l taken h = l

pub free_awaited : (job : Option Job) (h : List DemuxRecord) (j : Jobs) → job ≡ None → IsAwaited job h j
free_awaited job h j e = subst (λ (x : Option Job). IsAwaited x h j) (sym e) tt

-- a take
pub goes_take : (rd : Readings) (old new : List DemuxRecord) (job : Option Job) (j' : Jobs) (taken : Option (List DemuxRecord)) → Took (at rd old) old new j' (Ok job)
    → Goes rd acts.DemuxTake taken old new job j' (Ok tt)
goes_take rd old new None j' taken h =
    (record { part = []; grows = h.0 ∙ sym (append-nil old); each = tt; ends = tt }, (h.1, record { between = []; grows = h.0 ∙ sym (append-nil old) }))
goes_take rd old new (Some job) j' taken h = (
  record { part = []; grows = h.0 ∙ sym (append-nil old); each = tt; ends = tt },
  (h.1, subst (λ (x : List DemuxRecord). IsAged job old x j') (sym h.0) (taken_now job old j' h.2 h.3)),
)

pub take_awaited : (w : Ahead) (old new : List DemuxRecord) (job : Option Job) (j' : Jobs) → Took w old new j' (Ok job) → IsAwaited job new j'
take_awaited w old new None j' h = tt
take_awaited w old new (Some job) j' h = (new, taken_now job new j' h.2 h.3)

pub no_take : (rd : Readings) (old new : List DemuxRecord) (job : Option Job) (j' : Jobs) (taken : Option (List DemuxRecord)) (e : Halt) → Stands old new e → Goes rd acts.DemuxTake taken old new job j' (Err e)
no_take rd old new job j' taken halts.JournalFull h = (none rd acts.DemuxTake old new h.0, rw h.0 h.1)
no_take rd old new job j' taken halts.NoMemory h = none rd acts.DemuxTake old new h

pub took_on : (rd : Readings) (w : Ahead) (old new : List DemuxRecord) (j' : Jobs) (r : Result (Option Job) Halt) → w ≡ at rd old → Took w old new j' r → Took (at rd old) old new j' r
took_on rd w old new j' r e h = subst (λ (x : Ahead). Took x old new j' r) e h

pub goes_give : (rd : Readings) (old new : List DemuxRecord) (j' : Jobs) (taken : Option (List DemuxRecord)) (r : Result Unit Halt) → Line rd acts.DemuxGive taken old new r
    → Goes rd acts.DemuxGive taken old new None j' r
goes_give rd old new j' taken (Ok u) l = (l, tt)
goes_give rd old new j' taken (Err halts.JournalFull) l = l
goes_give rd old new j' taken (Err halts.NoMemory) l = l

-- ---- all lines

-- Some lines were played. Where the others are played from there, all are.
pub record Reached (rd : Readings) (lines rest : List (ℕ × Act)) (old now : List DemuxRecord) (job : Option Job) (j : Jobs) : Type 0 where
  pub taken : Option (List DemuxRecord)
  pub is_out : IsOut rd job taken now j
  pub whole : (new : List DemuxRecord) → Played rd rest taken now new → Played rd lines None old new
  pub part : (new : List DemuxRecord) → PlayedInPart rd rest taken now new → PlayedInPart rd lines None old new

pub start : (rd : Readings) (lines : List (ℕ × Act)) (old : List DemuxRecord) (j : Jobs) → Reached rd lines (drop 0 lines) old old None j
start rd lines old j = record { taken = None; is_out = tt; whole = λ new h. h; part = λ new h. h }

pub onward : (rd : Readings) (lines rest rest' : List (ℕ × Act)) (n : ℕ) (act : Act) (old now new : List DemuxRecord) (job job' : Option Job) (j j' : Jobs) (t : Reached rd lines rest old now job j)
    → rest ≡ (n, act) ∷ rest' → Goes rd act t.taken now new job' j' (Ok tt) → Reached rd lines rest' old new job' j'
onward rd lines rest rest' n act old now new job job' j j' t e h = record {
  taken = taken_after act t.taken now;
  is_out = h.1;
  whole = λ last g. t.whole last (rw e (new, h.0, g));
  part = λ last g. t.part last (rw e (inr (new, h.0, g)));
}

pub stops : (rd : Readings) (lines rest rest' : List (ℕ × Act)) (n : ℕ) (act : Act) (old now new : List DemuxRecord) (job : Option Job) (j : Jobs) (t : Reached rd lines rest old now job j)
    → rest ≡ (n, act) ∷ rest' → Begins rd act now new → PlayedInPart rd lines None old new
stops rd lines rest rest' n act old now new job j t e b = t.part new (rw e (inl b))

pub done : (rd : Readings) (lines rest : List (ℕ × Act)) (old now : List DemuxRecord) (job : Option Job) (j : Jobs) → Reached rd lines rest old now job j → rest ≡ [] → Played rd lines None old now
done rd lines rest old now job j t e = t.whole now (rw e refl)

-- ---- takes and gives

-- where the job stands among takes and gives
pub record Paired (rest : List (ℕ × Act)) (job : Option Job) : Type 0 where
  pub taken : Bool
  pub lines : IsPaired taken rest
  pub free : taken ≡ false → job ≡ None

not_true : (b : Bool) → not b ≡ true → b ≡ false
not_true true e = absurd (cc)
not_true false e = refl

pub is_free : (rest rest' : List (ℕ × Act)) (n : ℕ) (act : Act) (job : Option Job) → Paired rest job → rest ≡ (n, act) ∷ rest' → IsFree act job
is_free rest rest' n act job p e = at act (rw e at p.lines) where
  at : (a : Act) → IsPaired p.taken ((n, a) ∷ rest') → IsFree a job
  at acts.DemuxTake h = p.free (not_true p.taken h.0)
  at (acts.Demux count) h = p.free (not_true p.taken h.0)
  at acts.Drain h = p.free (not_true p.taken h.0)
  at acts.DemuxGive h = tt
  at _ h = tt

pub paired_on : (rest rest' : List (ℕ × Act)) (n : ℕ) (act : Act) (job job' : Option Job) → Paired rest job → rest ≡ (n, act) ∷ rest' → Keeps act job job' → Paired rest' job'
paired_on rest rest' n act job job' p e k = at act (rw e at p.lines) k where
  at : (a : Act) → IsPaired p.taken ((n, a) ∷ rest') → Keeps a job job' → Paired rest' job'
  at acts.DemuxTake h k = record { taken = true; lines = h.1; free = λ f. absurd (cc) }
  at acts.DemuxGive h k = record { taken = false; lines = h.1; free = λ f. k }
  at (acts.Demux count) h k = record { taken = p.taken; lines = h.1; free = λ f. k ∙ p.free f }
  at acts.Drain h k = record { taken = p.taken; lines = h.1; free = λ f. k ∙ p.free f }
  at (acts.Seek t dir) h k = record { taken = p.taken; lines = h.1; free = λ f. k ∙ p.free f }
  at (acts.Switch ns t) h k = record { taken = p.taken; lines = h.1; free = λ f. k ∙ p.free f }
  at acts.Show h k = record { taken = p.taken; lines = h.1; free = λ f. k ∙ p.free f }
  at (acts.Read kind count) h k = record { taken = p.taken; lines = h.1; free = λ f. k ∙ p.free f }
