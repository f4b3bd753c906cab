-- Where nothing is to be done, each track that was not told its end since the last order can be told it.
use Rattle.std.proofs.Common.{◌≡◌, ℕ, ◌==◌, Bool, true, false, not, List, [], ◌∷◌, ◌++◌, reverse, Option, Some, None, refl, sym, ap, subst, ◌∙◌, ◌⊎◌, inl, inr, arith}
use Rattle.std.proofs.lemmas.Bool.{cases_Bool}
use Rattle.std.proofs.lemmas.Bool.Decides.{eqb_tells}
use Rattle.std.proofs.lemmas.List.{reverse-append}
use Rattle.std.proofs.lemmas.List.Folds.{list_any-append}
use Rattle.std.specs.Prelude.{IfSome, ◌&&◌, ◌||◌, if◌then◌else◌, is_some}
use Rattle.std.specs.Option.{option_map}
use Rattle.std.specs.List.{list_any}
use Rattle.mc_packet.specs.declared.choice.Choice.{Choice}
use Rattle.mc_packet.specs.declared.choice.Kind.{Kind}
use Rattle.mc_packet.specs.declared.choice.Kind.TheVariants.{Video, Audio, Sub}
use Rattle.mc_packet.specs.declared.packet.Packet.{Packet}
use Rattle.mc_packet.specs.declared.cache.Limits.{Limits}
use Rattle.mc_journal.specs.declared.record.DemuxRecord.{DemuxRecord}
use Rattle.mc_journal.specs.declared.record.DemuxRecord.TheVariants.{Opened, Sought, Switched, Failed, Starved, Ended, Faulted, Wanting}
use Rattle.mc_packet.specs.Choices.{has, is_track}
use Rattle.mc_journal.specs.Choices.{kept_of, kept_track}
use Rattle.mc_journal.specs.Films.{Film, at as place}
use Rattle.mc_journal.specs.Readings.{failed, last_fault, selected}
use Rattle.mc_journal.specs.Used.{IsFailure, IsUsed, IsWant, can_end}
use Rattle.mc_journal.specs.Views.{next, was_ended}
use Rattle.mc_calls.specs.declared.job.Job.{Job}
use Rattle.mc_calls.specs.declared.job.Job.TheVariants.{Idle}
use Rattle.mc_calls.specs.Film.{StandsFor}
use Rattle.mc_calls.specs.Readings.{peek_at, reading_of}
use Rattle.mc_calls.specs.Shows.{is_finish, is_idle_job}
use Rattle.mc_calls.specs.State.{DemuxState, next_in}
use Rattle.mc_calls.specs.declared.answer.Peek.{Peek}
use Rattle.mc_calls.specs.declared.answer.Peek.TheVariants.{Finish}
use Rattle.mc_calls.proofs.Showing.{front_is, tells_is}
use Rattle.mc_journal.specs.Drives.{OfEach, is_order, readings, selection, still_left, tells_reader, untold}
use Rattle.mc_journal.specs.Callers.{reader}
use Rattle.mc_lines.specs.Calls.{AtRest}
use Rattle.mc_filmed.specs.Films.{choice_for}

-- ---- what stands among records

abbrev is_opened : DemuxRecord → Bool
is_opened (Opened by set) = true
is_opened _ = false

abbrev is_end : ℕ → DemuxRecord → Bool
is_end k (Ended by n ending) = n == k
is_end k _ = false

abbrev is_fault : DemuxRecord → Bool
is_fault (Faulted by n before after) = true
is_fault (Wanting by n) = true
is_fault _ = false

or_left : (a b : Bool) → (a || b) ≡ false → a ≡ false
or_left true b e = e
or_left false b e = refl

or_right : (a b : Bool) → (a || b) ≡ false → b ≡ false
or_right true b e = absurd (cc)
or_right false b e = e

or_false : (b : Bool) → (b || false) ≡ b
or_false true = refl
or_false false = refl

or_true : (b : Bool) → (b || true) ≡ true
or_true true = refl
or_true false = refl

or_swap : (a b : Bool) → (a || b) ≡ (b || a)
or_swap true b = sym (or_true b)
or_swap false b = sym (or_false b)

any_reversed : (p : DemuxRecord → Bool) (rs : List DemuxRecord) → list_any p (reverse rs) ≡ list_any p rs
any_reversed p [] = refl
any_reversed p (r ∷ rs) =
    ap (list_any p) (reverse-append (r ∷ []) rs) ∙ list_any-append p (reverse rs) (r ∷ []) ∙ ap (λ (b : Bool). list_any p (reverse rs) || b) (or_false (p r))
    ∙ or_swap (list_any p (reverse rs)) (p r) ∙ ap (λ (b : Bool). p r || b) (any_reversed p rs)

-- ---- a track that was told

told_split : (n k : ℕ) (r : DemuxRecord) → tells_reader n k r ≡ true → (is_end k r ≡ true) ⊎ (is_fault r ≡ true)
told_split n k (Ended by j ending) e = inl (and_right (by == n) (j == k) e) where
  and_right : (a b : Bool) → (a && b) ≡ true → b ≡ true
  and_right true b e = e
  and_right false b e = absurd (cc)
told_split n k (Faulted by j before after) e = inr refl
told_split n k (Wanting by j) e = inr refl
told_split n k _ e = absurd (cc)

any_more : (p : DemuxRecord → Bool) (r : DemuxRecord) (rs : List DemuxRecord) → list_any p rs ≡ true → list_any p (r ∷ rs) ≡ true
any_more p r rs e = ap (λ (b : Bool). p r || b) e ∙ or_true (p r)

any_first : (p : DemuxRecord → Bool) (r : DemuxRecord) (rs : List DemuxRecord) → p r ≡ true → list_any p (r ∷ rs) ≡ true
any_first p r rs e = rw e refl

or_elim : (a b : Bool) → (a || b) ≡ true → (a ≡ true) ⊎ (b ≡ true)
or_elim true b e = inl refl
or_elim false b e = inr e

any_told : (n k : ℕ) (rs : List DemuxRecord) → list_any (tells_reader n k) rs ≡ true → (list_any (is_end k) rs ≡ true) ⊎ (list_any is_fault rs ≡ true)
any_told n k [] e = absurd (cc)
any_told n k (r ∷ rs) e = elim (or_elim (tells_reader n k r) (list_any (tells_reader n k) rs) e) [
  | inl f ↦ elim (told_split n k r f) [
    | inl g ↦ inl (any_first (is_end k) r rs g)
    | inr g ↦ inr (any_first is_fault r rs g)
  ]
  | inr f ↦ elim (any_told n k rs f) [
    | inl g ↦ inl (any_more (is_end k) r rs g)
    | inr g ↦ inr (any_more is_fault r rs g)
  ]
]

-- ---- records behind which nothing was ordered

-- neither an order nor an opening
abbrev IsPlain : DemuxRecord → Bool
IsPlain r = not (is_order r || is_opened r)

same_selected : (r : DemuxRecord) (h : List DemuxRecord) → is_order r ≡ false → is_opened r ≡ false → selected (r ∷ h) ≡ selected h
same_selected (Opened by set) h e f = absurd (cc)
same_selected (Sought by set t dir how) h e f = absurd (cc)
same_selected (Switched by set added t) h e f = absurd (cc)
same_selected _ h e f = refl

kept_selected : (rs b : List DemuxRecord) → list_any is_order rs ≡ false → list_any is_opened rs ≡ false → selected (rs ++ b) ≡ selected b
kept_selected [] b e f = refl
kept_selected (r ∷ rs) b e f =
    same_selected r (rs ++ b) (or_left (is_order r) (list_any is_order rs) e) (or_left (is_opened r) (list_any is_opened rs) f)
    ∙ kept_selected rs b (or_right (is_order r) (list_any is_order rs) e) (or_right (is_opened r) (list_any is_opened rs) f)

-- an end that was told is still told
still_ended : (k : ℕ) (r : DemuxRecord) (h : List DemuxRecord) → is_order r ≡ false → is_opened r ≡ false → was_ended h k ≡ true → was_ended (r ∷ h) k ≡ true
still_ended k (Opened by set) h e f w = absurd (cc)
still_ended k (Sought by set t dir how) h e f w = absurd (cc)
still_ended k (Switched by set added t) h e f w = absurd (cc)
still_ended k (Ended by n ending) h e f w = ap (λ (b : Bool). (n == k) || b) w ∙ or_true (n == k)
still_ended k _ h e f w = w

now_ended : (k : ℕ) (r : DemuxRecord) (h : List DemuxRecord) → is_end k r ≡ true → was_ended (r ∷ h) k ≡ true
now_ended k (Ended by n ending) h e = rw e refl
now_ended k _ h e = absurd (cc)

ended_among : (k : ℕ) (rs b : List DemuxRecord) → list_any is_order rs ≡ false → list_any is_opened rs ≡ false → list_any (is_end k) rs ≡ true → was_ended (rs ++ b) k ≡ true
ended_among k [] b e f t = absurd (cc)
ended_among k (r ∷ rs) b e f t = elim (or_elim (is_end k r) (list_any (is_end k) rs) t) [
  | inl g ↦ now_ended k r (rs ++ b) g
  | inr g ↦
      still_ended k r (rs ++ b) (or_left (is_order r) (list_any is_order rs) e) (or_left (is_opened r) (list_any is_opened rs) f)
      (ended_among k rs b (or_right (is_order r) (list_any is_order rs) e) (or_right (is_opened r) (list_any is_opened rs) f) g)
]

-- what failed has failed still
has_failed : (o : Option DemuxRecord) (before after : ℕ) → IsFailure o before after → is_some o ≡ true
has_failed None before after h = absurd h
has_failed (Some r) before after h = refl

has_starved : (o : Option DemuxRecord) → IsWant o → is_some o ≡ true
has_starved None h = absurd h
has_starved (Some r) h = refl

still_failed : (r : DemuxRecord) (h : List DemuxRecord) → is_order r ≡ false → is_opened r ≡ false → failed h ≡ true → failed (r ∷ h) ≡ true
still_failed (Opened by set) h e f w = absurd (cc)
still_failed (Sought by set t dir how) h e f w = absurd (cc)
still_failed (Switched by set added t) h e f w = absurd (cc)
still_failed (Failed by before after) h e f w = refl
still_failed (Starved by) h e f w = refl
still_failed _ h e f w = w

now_failed : (film : Film) (limits : Limits) (r : DemuxRecord) (h : List DemuxRecord) → IsUsed film limits (r ∷ h) → is_fault r ≡ true → failed (r ∷ h) ≡ true
now_failed film limits (Faulted by n before after) h u e = has_failed (last_fault h) before after u.0.2.0
now_failed film limits (Wanting by n) h u e = has_starved (last_fault h) u.0.2.0
now_failed film limits _ h u e = absurd (cc)

failed_among : (film : Film) (limits : Limits) (rs b : List DemuxRecord) → IsUsed film limits (rs ++ b) → list_any is_order rs ≡ false → list_any is_opened rs ≡ false → list_any is_fault rs ≡ true → failed (rs ++ b) ≡ true
failed_among film limits [] b u e f t = absurd (cc)
failed_among film limits (r ∷ rs) b u e f t = elim (or_elim (is_fault r) (list_any is_fault rs) t) [
  | inl g ↦ now_failed film limits r (rs ++ b) u g
  | inr g ↦
      still_failed r (rs ++ b) (or_left (is_order r) (list_any is_order rs) e) (or_left (is_opened r) (list_any is_opened rs) f)
      (failed_among film limits rs b u.1 (or_right (is_order r) (list_any is_order rs) e) (or_right (is_opened r) (list_any is_opened rs) f) g)
]

-- an opening stands behind nothing
append_empty : (rs t : List DemuxRecord) → rs ++ t ≡ [] → t ≡ []
append_empty [] t e = e
append_empty (r ∷ rs) t e = absurd (cc)

not_opened : (film : Film) (limits : Limits) (r : DemuxRecord) (h : List DemuxRecord) → (h ≡ [] → ⊥) → IsUsed film limits (r ∷ h) → is_opened r ≡ false
not_opened film limits (Opened by set) h some u = absurd (some u.0.0.0)
not_opened film limits _ h some u = refl

none_opened : (film : Film) (limits : Limits) (rs t : List DemuxRecord) → (t ≡ [] → ⊥) → IsUsed film limits (rs ++ t) → list_any is_opened rs ≡ false
none_opened film limits [] t some u = refl
none_opened film limits (r ∷ rs) t some u = rw (not_opened film limits r (rs ++ t) (λ e. some (append_empty rs t e)) u) (none_opened film limits rs t some u.1)

-- ---- of each track

same_track : (j k : ℕ) → is_track (Some j) k ≡ true → j ≡ k
same_track j k e = elim (eqb_tells j k) [
  | inl y ↦ y.1
  | inr n ↦ let f : false ≡ true = sym n.0 ∙ e in absurd (cc)
]

track_kept : (o : Option ℕ) (test : ℕ → Bool) (k : ℕ) → is_track o k ≡ true → test k ≡ true → is_track (kept_track test o) k ≡ true
track_kept None test k e f = absurd (cc)
track_kept (Some j) test k e f = let same : j ≡ k = same_track j k e in rw (same, f) (grind arith)

has_kept : (set : Choice) (test : ℕ → Bool) (k : ℕ) → has set k ≡ true → test k ≡ true → has (kept_of set test) k ≡ true
has_kept set test k e f = elim (or_elim (is_track set.video k) (is_track set.audio k || is_track set.sub k) e) [
  | inl g ↦ rw (track_kept set.video test k g f) refl
  | inr o ↦ elim (or_elim (is_track set.audio k) (is_track set.sub k) o) [
    | inl g ↦ rw (track_kept set.audio test k g f) (or_true (is_track (kept_track test set.video) k))
    | inr g ↦
        let last : (is_track (kept_track test set.audio) k || is_track (kept_track test set.sub) k) ≡ true = rw (track_kept set.sub test k g f) (or_true (is_track (kept_track test set.audio) k)) in
        rw last (or_true (is_track (kept_track test set.video) k))
  ]
]

is_its : (k : ℕ) → is_track (Some k) k ≡ true
is_its k = grind arith

-- a fact of each track that a kind may have left
each_left : (set : Choice) (part : List DemuxRecord) (P : ℕ → Type 0) → ((k : ℕ) → has set k ≡ true → P k) → OfEach (untold set part) P
each_left set part P all = (
  one Video set.video (λ k e. all k (rw e refl)),
  one Audio set.audio (λ k e. all k (rw e (or_true (is_track set.video k)))),
  one Sub set.sub (λ k e. all k (let last : (is_track set.audio k || is_track set.sub k) ≡ true = rw e (or_true (is_track set.audio k)) in rw last (or_true (is_track set.video k)))),
) where
  chosen : (b : Bool) (k : ℕ) → P k → IfSome (if b then None else Some k) P
  chosen true k p = tt
  chosen false k p = p

  one : (kind : Kind) (o : Option ℕ) → ((k : ℕ) → is_track o k ≡ true → P k) → IfSome (still_left kind part o) P
  one kind None h = tt
  one kind (Some k) h = chosen (list_any (tells_reader (reader kind) k) part) k (h k (is_its k))

-- a selected track has no packet next: one that is left by what is said of these, one that was told its end by that
by_kind : (kind : Kind) (o : Option ℕ) (part : List DemuxRecord) (k : ℕ) (P : ℕ → Type 0) → IfSome (still_left kind part o) P → (list_any (tells_reader (reader kind) k) part ≡ true → P k) → is_track o k ≡ true → P k
by_kind kind None part k P left told e = absurd (cc)
by_kind kind (Some j) part k P left told e =
    let same : j ≡ k = same_track j k e in
    elim (cases_Bool (list_any (tells_reader (reader kind) k) part)) [
      | inl y ↦ told y
      | inr n ↦
          let here : IfSome (if list_any (tells_reader (reader kind) k) part then None else Some k) P =
          subst (λ (m : ℕ). IfSome (if list_any (tells_reader (reader kind) m) part then None else Some m) P) same left in
          let all : IfSome (Some k) P = rw n at here in all
    ]

each_told : (set : Choice) (part : List DemuxRecord) (P : ℕ → Type 0) → OfEach (untold set part) P → ((n k : ℕ) → has set k ≡ true → list_any (tells_reader n k) part ≡ true → P k) → (k : ℕ) → has set k ≡ true → P k
each_told set part P left told k e = elim (or_elim (is_track set.video k) (is_track set.audio k || is_track set.sub k) e) as (λ _. P k) [
  | inl g ↦ by_kind Video set.video part k P left.0 (told 2 k e) g
  | inr o ↦ elim (or_elim (is_track set.audio k) (is_track set.sub k) o) as (λ _. P k) [
    | inl g ↦ by_kind Audio set.audio part k P left.1 (told 3 k e) g
    | inr g ↦ by_kind Sub set.sub part k P left.2 (told 4 k e) g
  ]
]

if_each : (set : Choice) (P Q : ℕ → Type 0) → ((k : ℕ) → P k → Q k) → OfEach set P → OfEach set Q
if_each set P Q f h = (one set.video h.0, one set.audio h.1, one set.sub h.2) where
  one : (o : Option ℕ) → IfSome o P → IfSome o Q
  one None p = tt
  one (Some k) p = f k p

-- ---- the whole

none_back : (o : Option Packet) (f : Packet → ℕ) → option_map f o ≡ None → o ≡ None
none_back None f e = refl
none_back (Some p) f e = absurd (cc)

none_is : {A : Type 0} (o : Option A) (f : A → ℕ) → option_map f o ≡ None → is_some o ≡ false
none_is None f e = refl
none_is (Some p) f e = absurd (cc)

pub idle_is_idle : (job : Job) → is_idle_job job ≡ true → job ≡ Idle
idle_is_idle Idle e = refl
idle_is_idle _ e = absurd (cc)

-- the laws of a resting demuxer
pub record Rests (film : Film) (d : DemuxState) : Type 0 where
  pub ended : (track : ℕ) → has d.ended track ≡ true → next_in d.set d.heads track d.cache.current ≡ None
  pub told : ((k : ℕ) → has d.set k ≡ true → next_in d.set d.heads k d.cache.current ≡ None) → (track : ℕ) → has d.set track ≡ true → peek_at (reading_of track d) ≡ Finish

abbrev Front : Film → DemuxState → ℕ → Type 0
Front film d k = option_map place (next film.packets (reverse d.journal) k) ≡ None

abbrev Tells : Film → DemuxState → ℕ → Type 0
Tells film d k = (has (selected (reverse d.journal)) k && (not (is_some (next film.packets (reverse d.journal) k)) && (can_end film.packets (reverse d.journal) k || failed (reverse d.journal)))) ≡ true

front_none : (film : Film) (d : DemuxState) (k : ℕ) → StandsFor film d → Front film d k → next_in d.set d.heads k d.cache.current ≡ None
front_none film d k s e = none_back (next_in d.set d.heads k d.cache.current) _ (front_is film d k s ∙ e)

-- where a read failed
tells_failed : (film : Film) (d : DemuxState) (k : ℕ) → has (selected (reverse d.journal)) k ≡ true → failed (reverse d.journal) ≡ true → Front film d k → Tells film d k
tells_failed film d k h f e = rw (h, none_is (next film.packets (reverse d.journal) k) place e, f) (or_true (can_end film.packets (reverse d.journal) k))

-- where none did, all is read
tells_rested : (film : Film) (d : DemuxState) (k : ℕ) → StandsFor film d → has d.set k ≡ true → peek_at (reading_of k d) ≡ Finish → Tells film d k
tells_rested film d k s h e =
    sym (tells_is film d k s) ∙ ap (λ (b : Bool). b && is_finish (peek_at (reading_of k d))) h ∙ ap (λ (p : Peek). is_finish p) e

both_each : (set : Choice) (P Q : ℕ → Type 0) → OfEach set P → OfEach set Q → OfEach set (λ k. P k × Q k)
both_each set P Q h g = (one set.video h.0 g.0, one set.audio h.1 g.1, one set.sub h.2 g.2) where
  one : (o : Option ℕ) → IfSome o P → IfSome o Q → IfSome o (λ k. P k × Q k)
  one None p q = tt
  one (Some k) p q = (p, q)

some_reversed : (b : DemuxRecord) (bs : List DemuxRecord) → reverse (b ∷ bs) ≡ [] → ⊥
some_reversed b bs e = let last : b ∷ [] ≡ [] = append_empty (reverse bs) (b ∷ []) (sym (reverse-append (b ∷ []) bs) ∙ e) in cc

-- a track whose end was told since has no packet next
ended_none : (film : Film) (d : DemuxState) (k : ℕ) → StandsFor film d → Rests film d → has d.set k ≡ true → was_ended (reverse d.journal) k ≡ true → next_in d.set d.heads k d.cache.current ≡ None
ended_none film d k s r h w =
    let told : has (kept_of d.set (was_ended (reverse d.journal))) k ≡ true = has_kept d.set (was_ended (reverse d.journal)) k h w in
    r.ended k (subst (λ (c : Choice). has c k ≡ true) (sym s.fits.ended_are) told)

told_in : (film : Film) (d : DemuxState) → StandsFor film d → Rests film d → (before part : List DemuxRecord) → d.journal ≡ before ++ part → list_any is_order part ≡ false
    → OfEach (untold (selection before) part) (Front film d) → OfEach (untold (selection before) part) (Tells film d)
told_in film d s r [] part split quiet fronts = (tt, tt, tt)
told_in film d s r (b ∷ bs) part split quiet fronts =
    let t = reverse (b ∷ bs) in
    let rs = reverse part in
    let all : reverse d.journal ≡ rs ++ t = ap (λ (x : List DemuxRecord). reverse x) split ∙ reverse-append (b ∷ bs) part in
    let used : IsUsed film d.cache.limits (rs ++ t) = subst (λ (x : List DemuxRecord). IsUsed film d.cache.limits x) all s.fits.used in
    let orders : list_any is_order rs ≡ false = any_reversed is_order part ∙ quiet in
    let opened : list_any is_opened rs ≡ false = none_opened film d.cache.limits rs t (some_reversed b bs) used in
    let same : selected (reverse d.journal) ≡ selected t = ap selected all ∙ kept_selected rs t orders opened in
    let here : d.set ≡ selected t = sym s.fits.set_is ∙ same in
    elim (cases_Bool (failed (reverse d.journal))) [
      | inl y ↦
          let had = each_left (selected t) part (λ k. has (selected t) k ≡ true) (λ k h. h) in
          if_each (untold (selected t) part) (λ k. Front film d k × (has (selected t) k ≡ true)) (Tells film d)
          (λ k p. tells_failed film d k (subst (λ (c : Choice). has c k ≡ true) (sym same) p.1) y p.0)
          (both_each (untold (selected t) part) (Front film d) (λ k. has (selected t) k ≡ true) fronts had)
      | inr n ↦
          let is_told : (n' k : ℕ) → has (selected t) k ≡ true → list_any (tells_reader n' k) part ≡ true → next_in d.set d.heads k d.cache.current ≡ None =
          λ n' k h e. elim (any_told n' k part e) [
            | inl g ↦
                let last : was_ended (reverse d.journal) k ≡ true =
                subst (λ (x : List DemuxRecord). was_ended x k ≡ true) (sym all) (ended_among k rs t orders opened (any_reversed (is_end k) part ∙ g)) in
                ended_none film d k s r (subst (λ (c : Choice). has c k ≡ true) (sym here) h) last
            | inr g ↦
                let fault : failed (reverse d.journal) ≡ true =
                subst (λ (x : List DemuxRecord). failed x ≡ true) (sym all) (failed_among film d.cache.limits rs t used orders opened (any_reversed is_fault part ∙ g)) in
                absurd (let both : false ≡ true = sym n ∙ fault in cc)
          ] in
          let left = if_each (untold (selected t) part) (Front film d) (λ k. next_in d.set d.heads k d.cache.current ≡ None) (λ k e. front_none film d k s e) fronts in
          let none = each_told (selected t) part (λ k. next_in d.set d.heads k d.cache.current ≡ None) left is_told in
          let none_set : (k : ℕ) → has d.set k ≡ true → next_in d.set d.heads k d.cache.current ≡ None = λ k h. none k (subst (λ (c : Choice). has c k ≡ true) here h) in
          each_left (selected t) part (Tells film d)
          (λ k h. let mine : has d.set k ≡ true = subst (λ (c : Choice). has c k ≡ true) (sym here) h in tells_rested film d k s mine (r.told none_set k mine))
    ]

pub rests : (film : Film) (d : DemuxState) → StandsFor film d → Rests film d → (idle : Bool) → idle ≡ (readings film d.cache.limits (choice_for d.list)).idle d.journal → idle ≡ true
    → AtRest (readings film d.cache.limits (choice_for d.list)) d.journal
rests film d s r idle e is = record { idle = sym e ∙ is; told = told_in film d s r }
