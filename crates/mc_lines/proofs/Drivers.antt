-- The driver's lines are one call each.
use Rattle.std.proofs.Common.{◌≡◌, ℕ, ◌<◌, Bool, true, false, List, [], ◌∷◌, ◌++◌, reverse, refl, sym, subst, ap, ◌∙◌, inl, inr, arith, append_assoc}
use Rattle.std.proofs.lemmas.List.{append-nil, reverse-append}
use Rattle.std.specs.Prelude.{ℤ, Option, Some, None, Result, Ok, Err, unwrap_or, if◌then◌else◌, is_some}
use Rattle.std.specs.Option.{option_map}
use Rattle.std.specs.List.{list_any, AllByRecursion}
use Rattle.mc_packet.specs.declared.cache.CacheView.{CacheView}
use Rattle.mc_packet.specs.declared.choice.Choice.{Choice}
use Rattle.mc_packet.specs.declared.choice.Dir.{Dir}
use Rattle.mc_journal.specs.declared.record.Sought.{Sought as How}
use Rattle.mc_journal.specs.declared.record.Sought.TheVariants.{Cached, Sent}
use Rattle.mc_journal.specs.declared.record.DemuxRecord.{DemuxRecord}
use Rattle.mc_journal.specs.declared.record.DemuxRecord.TheVariants.{Opened, Sought, Switched, Found, Dropped, Joined, Shown, Refused}
use Rattle.mc_journal.specs.Readings.{direction, follows, pending, target}
use Rattle.mc_calls.specs.declared.answer.DemuxError.{DemuxError}
use Rattle.mc_calls.specs.declared.answer.DemuxError.TheVariants as errors
use Rattle.mc_calls.specs.declared.answer.Selected.{Selected}
use Rattle.mc_calls.specs.declared.answer.Selected.TheVariants.{Same, Changed}
use Rattle.mc_calls.specs.Records.{IsExtra, WroteAll}
use Rattle.mc_script.specs.declared.acts.Act.{Act}
use Rattle.mc_script.specs.declared.acts.Act.TheVariants as acts
use Rattle.mc_script.specs.Plays.{Ends, Leaves, May}
use Rattle.mc_journal.specs.Drives.{IsRepeated, Readings, is_order, is_outcome, newest}
use Rattle.mc_journal.specs.Callers.{by_of}
use Rattle.mc_lines.specs.Calls.{Ahead, Fails, Jobs, Seeks, Selects, Shows, at, pending_of, switch_records}
use Rattle.mc_lines.specs.Lines.{Line, Orders, settled}
use Rattle.mc_lines.proofs.Counts.{any-call}
use Rattle.mc_lines.proofs.Parts.{call_each, extras_each, none}
use Rattle.mc_lines.proofs.Growing.{orders_none, orders_quiet}

-- a line of one call with one record of its own
one : (rd : Readings) (act : Act) (old new : List DemuxRecord) (own : DemuxRecord) (w : WroteAll 0 (own ∷ []) old new) → 0 ≡ by_of own → May rd act old [] own
    → Ends rd act None old (own ∷ w.extras) → Leaves rd act None old new
one rd act old new own w c h e = record { part = own ∷ w.extras; grows = w.grows; each = call_each rd act old [] old new 0 own w c h; ends = e }

-- ---- a call that failed

failed_line : (rd : Readings) (act : Act) (old new : List DemuxRecord) (j j' : Jobs) (e : DemuxError) → Fails old new j j' e → Line rd act None old new (settled {T = Unit} (Err e))
failed_line rd act old new j j' (errors.Refused why) h = absurd h
failed_line rd act old new j j' errors.JournalFull h = (none rd act old new h.0, rw h.0 h.2)
failed_line rd act old new j j' errors.NoMemory h = none rd act old new h.0

failed_orders : (old new : List DemuxRecord) (j j' : Jobs) (e : DemuxError) → Fails old new j j' e → Orders old new j j'
failed_orders old new j j' (errors.Refused why) h = absurd h
failed_orders old new j j' errors.JournalFull h = orders_none old new j j' h.0 h.1
failed_orders old new j j' errors.NoMemory h = orders_none old new j j' h.0 h.1

-- a call with an order
order : (by : ℕ) (owns : List DemuxRecord) (old new : List DemuxRecord) (j j' : Jobs) → list_any is_order owns ≡ true → list_any is_outcome owns ≡ false → WroteAll by owns old new
    → j.number < j'.number → Orders old new j j'
order by owns old new j j' e f w newer =
    let some : list_any is_order (owns ++ w.extras) ≡ true = any-call is_order (λ n m. refl, λ n. refl) w [] ∙ e in
    record {
      part = owns ++ w.extras;
      grows = w.grows;
      quiet = any-call is_outcome (λ n m. refl, λ n. refl) w [] ∙ f;
      same = λ q. let both : true ≡ false = sym some ∙ q in absurd (cc);
      newer = λ q. newer;
    }

-- ---- seek

sought_at : (rd : Readings) (t : ℤ) (dir : Dir) (old new : List DemuxRecord) (j j' : Jobs) (r : Result How DemuxError) → Seeks (at rd old) 0 t dir old new j j' r
    → Line rd (acts.Seek t dir) None old new (settled r)
sought_at rd t dir old new j j' (Ok how) h = one rd (acts.Seek t dir) old new _ h.1 refl (refl, refl, refl, refl, refl, h.0) (omega arith)
sought_at rd t dir old new j j' (Err (errors.Refused why)) h = one rd (acts.Seek t dir) old new _ h.2 refl (refl, refl, h.1, h.0) (omega arith)
sought_at rd t dir old new j j' (Err errors.JournalFull) h = failed_line rd (acts.Seek t dir) old new j j' errors.JournalFull h
sought_at rd t dir old new j j' (Err errors.NoMemory) h = failed_line rd (acts.Seek t dir) old new j j' errors.NoMemory h

pub sought : (rd : Readings) (w : Ahead) (t : ℤ) (dir : Dir) (old new : List DemuxRecord) (j j' : Jobs) (r : Result How DemuxError) → w ≡ at rd old → Seeks w 0 t dir old new j j' r
    → Line rd (acts.Seek t dir) None old new (settled r)
sought rd w t dir old new j j' r e h = sought_at rd t dir old new j j' r (subst (λ (x : Ahead). Seeks x 0 t dir old new j j' r) e h)

pub sought_orders : (w : Ahead) (by : ℕ) (t : ℤ) (dir : Dir) (old new : List DemuxRecord) (j j' : Jobs) (r : Result How DemuxError) → Seeks w by t dir old new j j' r → Orders old new j j'
sought_orders w by t dir old new j j' (Ok how) h = order by (Sought by w.set t dir how ∷ []) old new j j' refl refl h.1 h.2
sought_orders w by t dir old new j j' (Err (errors.Refused why)) h = orders_quiet by (Refused by why) old new j j' refl refl h.2 h.3
sought_orders w by t dir old new j j' (Err errors.JournalFull) h = failed_orders old new j j' errors.JournalFull h
sought_orders w by t dir old new j j' (Err errors.NoMemory) h = failed_orders old new j j' errors.NoMemory h

-- ---- show

pub shown : (rd : Readings) (old new : List DemuxRecord) (j j' : Jobs) (r : Result CacheView DemuxError) → Shows 0 old new j j' r → Line rd acts.Show None old new (settled r)
shown rd old new j j' (Ok view) h = one rd acts.Show old new _ h.0 refl (refl, refl) (omega arith)
shown rd old new j j' (Err (errors.Refused why)) h = absurd h
shown rd old new j j' (Err errors.JournalFull) h = failed_line rd acts.Show old new j j' errors.JournalFull h
shown rd old new j j' (Err errors.NoMemory) h = failed_line rd acts.Show old new j j' errors.NoMemory h

pub shown_orders : (by : ℕ) (old new : List DemuxRecord) (j j' : Jobs) (r : Result CacheView DemuxError) → Shows by old new j j' r → Orders old new j j'
shown_orders by old new j j' (Ok view) h = orders_quiet by (Shown by view) old new j j' refl refl h.0 h.1
shown_orders by old new j j' (Err e) h = failed_orders old new j j' e h

-- ---- switch

all_append : (P : DemuxRecord → Type 0) (xs ys : List DemuxRecord) → AllByRecursion P xs → AllByRecursion P ys → AllByRecursion P (xs ++ ys)
all_append P [] ys h g = g
all_append P (x ∷ xs) ys h g = (h.0, all_append P xs ys h.1 g)

all_reversed : (by : ℕ) (es : List DemuxRecord) → AllByRecursion (IsExtra by) es → AllByRecursion (IsExtra by) (reverse es)
all_reversed by [] h = tt
all_reversed by (x ∷ es) h =
    subst (λ (l : List DemuxRecord). AllByRecursion (IsExtra by) l) (sym (reverse-append (x ∷ []) es)) (all_append (IsExtra by) (reverse es) (x ∷ []) (all_reversed by es h.1) (h.0, tt))

-- a journal whose newest records are drops and joins has no switch that is still to be followed
not_followed : (by : ℕ) (es h : List DemuxRecord) → AllByRecursion (IsExtra by) es → follows h ≡ false → follows (es ++ h) ≡ false
not_followed by [] h are e = e
not_followed by (Dropped n m ∷ es) h are e = refl
not_followed by (Joined n ∷ es) h are e = refl
not_followed by (_ ∷ es) h are e = absurd are.0

newest_of : (old owns es : List DemuxRecord) → newest (old ++ (owns ++ es)) ≡ reverse es ++ (reverse owns ++ reverse old)
newest_of old owns es = reverse-append old (owns ++ es) ∙ ap (λ (l : List DemuxRecord). l ++ reverse old) (reverse-append owns es) ∙ append_assoc (reverse es) (reverse owns) (reverse old)

follows_after : (by : ℕ) (old owns new : List DemuxRecord) (w : WroteAll by owns old new) → follows (reverse owns ++ reverse old) ≡ false → follows (newest (old ++ (owns ++ w.extras))) ≡ false
follows_after by old owns new w e =
    subst (λ (l : List DemuxRecord). follows l ≡ false) (sym (newest_of old owns w.extras)) (not_followed by (reverse w.extras) (reverse owns ++ reverse old) (all_reversed by w.extras w.are) e)

has_target : (h : List DemuxRecord) → pending h ≡ true → is_some (target h) ≡ true
has_target [] e = absurd (cc)
has_target (Opened by set ∷ h) e = absurd (cc)
has_target (Sought by set t dir Cached ∷ h) e = absurd (cc)
has_target (Sought by set t dir Sent ∷ h) e = refl
has_target (Found by starts ∷ h) e = absurd (cc)
has_target (_ ∷ h) e = has_target h e

none_pending : (b : Bool) (o : Option ℤ) (d : Dir) → (b ≡ true → is_some o ≡ true) → (if b then option_map {U = ℤ × Dir} (λ t. (t, d)) o else None) ≡ None → b ≡ false
none_pending false o d h e = refl
none_pending true None d h e = let f : false ≡ true = h refl in absurd (cc)
none_pending true (Some t) d h e = absurd (cc)

some_pending : (b : Bool) (o : Option ℤ) (d : Dir) (s : ℤ × Dir) → (if b then option_map {U = ℤ × Dir} (λ t. (t, d)) o else None) ≡ Some s → (b ≡ true) × (o ≡ Some s.0) × (d ≡ s.1)
some_pending false o d s e = absurd (cc)
some_pending true None d s e = absurd (cc)
some_pending true (Some t) d s e =
    let pair : ℤ × Dir = (t, d) in
    let p : pair ≡ s = cc in
    (refl, ap (λ (q : ℤ × Dir). Some q.0) p, ap (λ (q : ℤ × Dir). q.1) p)

repeated : (old : List DemuxRecord) (set added : Choice) (at : ℤ) (s : ℤ × Dir) → pending_of old ≡ Some s → IsRepeated (old ++ Switched 0 set added at ∷ []) set s.0 s.1
repeated old set added at s e =
    let p = some_pending (pending (newest old)) (target (newest old)) (direction (newest old)) s e in
    let top : reverse (old ++ Switched 0 set added at ∷ []) ≡ Switched 0 set added at ∷ reverse old = reverse-append old (Switched 0 set added at ∷ []) in
    record { due = rw top p.0; tracks = rw top refl; time = rw top p.1; way = rw top (sym p.2) }

changed : (rd : Readings) (ns : List ℕ) (time : Option ℤ) (old new : List DemuxRecord) (set added : Choice) (o : Option (ℤ × Dir)) → pending_of old ≡ o → rd.choice ns ≡ Ok set
    → WroteAll 0 (switch_records 0 set added (unwrap_or time (rd.time old)) o) old new → Leaves rd (acts.Switch ns time) None old new
changed rd ns time old new set added None e chosen w =
    let own = Switched 0 set added (unwrap_or time (rd.time old)) in
    let still : pending (newest old) ≡ false = none_pending (pending (newest old)) (target (newest old)) (direction (newest old)) (has_target (newest old)) e in
    record {
      part = own ∷ w.extras;
      grows = w.grows;
      each = call_each rd (acts.Switch ns time) old [] old new 0 own w refl (refl, refl, refl, chosen);
      ends = inl (omega arith, follows_after 0 old (own ∷ []) new w still);
    }
changed rd ns time old new set added (Some s) e chosen w =
    let own = Switched 0 set added (unwrap_or time (rd.time old)) in
    let again = Sought 0 set s.0 s.1 Sent in
    record {
      part = own ∷ again ∷ w.extras;
      grows = w.grows;
      each = (
        (refl, refl, refl, chosen),
        ((refl, refl, repeated old set added (unwrap_or time (rd.time old)) s e), extras_each rd (acts.Switch ns time) old 0 (own ∷ again ∷ []) w.extras refl w.are),
      );
      ends = inl (omega arith, follows_after 0 old (own ∷ again ∷ []) new w refl);
    }

switched_at : (rd : Readings) (ns : List ℕ) (time : Option ℤ) (old new : List DemuxRecord) (j j' : Jobs) (r : Result Selected DemuxError)
    → Selects (at rd old) 0 ns (unwrap_or time (rd.time old)) old new j j' r → Line rd (acts.Switch ns time) None old new (settled r)
switched_at rd ns time old new j j' (Ok Same) h = record { part = []; grows = h.1 ∙ sym (append-nil old); each = tt; ends = inr (refl, h.0) }
switched_at rd ns time old new j j' (Ok Changed) h = changed rd ns time old new h.0.set h.0.added (pending_of old) refl h.0.chosen h.0.wrote
switched_at rd ns time old new j j' (Err (errors.Refused why)) h =
    let w : WroteAll 0 (Refused 0 why ∷ []) old new = h.1 in
    one rd (acts.Switch ns time) old new (Refused 0 why) w refl (refl, refl, h.0) (inl (omega arith, follows_after 0 old (Refused 0 why ∷ []) new w refl))
switched_at rd ns time old new j j' (Err errors.JournalFull) h = failed_line rd (acts.Switch ns time) old new j j' errors.JournalFull h
switched_at rd ns time old new j j' (Err errors.NoMemory) h = failed_line rd (acts.Switch ns time) old new j j' errors.NoMemory h

pub switched : (rd : Readings) (w : Ahead) (ns : List ℕ) (time : Option ℤ) (t : ℤ) (old new : List DemuxRecord) (j j' : Jobs) (r : Result Selected DemuxError) → w ≡ at rd old
    → t ≡ unwrap_or time (rd.time old) → Selects w 0 ns t old new j j' r → Line rd (acts.Switch ns time) None old new (settled r)
switched rd w ns time t old new j j' r e f h =
    switched_at rd ns time old new j j' r (subst (λ (x : ℤ). Selects (at rd old) 0 ns x old new j j' r) f (subst (λ (x : Ahead). Selects x 0 ns t old new j j' r) e h))

changed_orders : (by : ℕ) (set added : Choice) (t : ℤ) (o : Option (ℤ × Dir)) (old new : List DemuxRecord) (j j' : Jobs) → WroteAll by (switch_records by set added t o) old new → j.number < j'.number
    → Orders old new j j'
changed_orders by set added t None old new j j' w h = order by (switch_records by set added t None) old new j j' refl refl w h
changed_orders by set added t (Some s) old new j j' w h = order by (switch_records by set added t (Some s)) old new j j' refl refl w h

pub switched_orders : (w : Ahead) (by : ℕ) (ns : List ℕ) (t : ℤ) (old new : List DemuxRecord) (j j' : Jobs) (r : Result Selected DemuxError) → Selects w by ns t old new j j' r → Orders old new j j'
switched_orders w by ns t old new j j' (Ok Same) h = orders_none old new j j' h.1 h.2
switched_orders w by ns t old new j j' (Ok Changed) h = changed_orders by h.0.set h.0.added t w.pending old new j j' h.0.wrote h.1
switched_orders w by ns t old new j j' (Err (errors.Refused why)) h = orders_quiet by (Refused by why) old new j j' refl refl h.1 h.2
switched_orders w by ns t old new j j' (Err errors.JournalFull) h = failed_orders old new j j' errors.JournalFull h
switched_orders w by ns t old new j j' (Err errors.NoMemory) h = failed_orders old new j j' errors.NoMemory h
