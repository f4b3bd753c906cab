-- The rule of a ticket lock whose value has a journal, and what each step of the lock tells its pass. Word 0 is the next ticket, word 1 the one that is served, and slot 0 has the value.
use Rattle.std.specs.Prelude.{◌≡◌, ◌≢◌, ℕ, ◌-◌, ◌^◌, ◌<◌, ◌≤◌, ◌⊎◌, Bool, true, false, List, [], ◌∷◌, length, take, drop, slice_index, Option, Some, None}
use mathlib.Core.Option.{some}
use mathlib.Core.List.{IsPrefix}
use lib.ListN.{get_elem?}
use Rattle.atomic_table.specs.Table.{State, Me}
use Rattle.atomic_table.specs.Seated.{TableId}
use Rattle.mc_views.specs.Views.{Each, Apart}
use Rattle.mc_turn.specs.Callers.{Has, Rising, SameOwn, Within, Below, count_from, merged}
use Rattle.mc_turn.specs.Passes.{Known, known, lock_of, longer}
use Rattle.mc_turn.specs.declared.view.View.{View}
use Rattle.mc_turn.specs.declared.view.Part.{Part}
use Rattle.mc_turn.specs.declared.view.Stage.{Stage}
use Rattle.mc_turn.specs.declared.view.Stage.TheVariants.{Out, Waiting, Inside}

-- Stages

abbrev pub is_inside : Stage → Bool
is_inside Out = false
is_inside (Waiting k) = false
is_inside (Inside k) = true

-- between two calls a pass is outside, or inside with its ticket and the empty slot
abbrev pub Rests : {T : Type 0} → ℕ → List (ℕ × Option T) → Stage → Type 0
Rests ticket slots Out = slots ≡ []
Rests ticket slots (Waiting k) = ⊥
Rests ticket slots (Inside k) = (k ≡ ticket) × (k < 2 ^ 64 - 1) × (slots ≡ (0, None) ∷ [])

-- the ticket of the pass is t
abbrev pub Bears : Stage → ℕ → Type 0
Bears Out t = ⊥
Bears (Waiting k) t = k ≡ t
Bears (Inside k) t = k ≡ t

-- Views

abbrev pub view_of : {E : Type 0} → ℕ → List E → List ℕ → Stage → View E
view_of callers seen numbers stage = record { callers = callers; seen = seen; numbers = numbers; stage = stage; parts = [] }

-- the view of the first pass
abbrev pub opened : {E : Type 0} → List E → ℕ → View E
opened seen count = view_of count seen (count_from 0 count) Out

-- the view that a joined pass leaves behind; no lock hands out more numbers
abbrev pub spent : {E : Type 0} → View E
spent = view_of (2 ^ 32) [] [] Out

abbrev pub part_of : {E : Type 0} → View E → Part E
part_of v = record { numbers = v.numbers; seen = v.seen }

abbrev pub joined : {E : Type 0} → View E → View E → View E
joined v w = record { callers = v.callers; seen = longer v.seen w.seen; numbers = merged v.numbers w.numbers; stage = Out; parts = part_of v ∷ part_of w ∷ [] }

-- the first part of a split pass has the first numbers, and the second the others
abbrev pub first_part : {E : Type 0} → ℕ → View E → View E
first_part keep v = view_of v.callers v.seen (take keep v.numbers) Out

abbrev pub second_part : {E : Type 0} → ℕ → View E → View E
second_part keep v = view_of v.callers v.seen (drop keep v.numbers) Out

abbrev pub Cuts : {E : Type 0} → ℕ → (View E → View E) → (View E → View E) → Type 0
Cuts {E} keep left right = (v : View E) → (left v ≡ first_part keep v) × (right v ≡ second_part keep v)

-- what a contract sees of the pass with this view
abbrev pub known_of : {E : Type 0} → TableId → View E → Known E
known_of table v = known (lock_of table v.callers) v.numbers v.seen (is_inside v.stage)

-- between two calls: the pass has so many numbers, and is outside, or inside with its ticket
abbrev pub Stands : {T E : Type 0} → ℕ → ℕ → Me (Option T) (View E) → Type 0
Stands count ticket m = (count ≡ length m.0.numbers) × Rests ticket m.1 m.0.stage

-- the table of a lock has two words and one slot
abbrev pub IsLockTable : TableId → Type 0
IsLockTable table = (table.words ≡ 2) × (table.slots ≡ 1)

abbrev pub Owns : {E : Type 0} → View E → ℕ → Type 0
Owns v n = Has v.numbers n

abbrev pub Ticket : {E : Type 0} → View E → ℕ → Type 0
Ticket v t = Bears v.stage t

abbrev pub NotInside : {E : Type 0} → View E → Type 0
NotInside v = (t : ℕ) → v.stage ≢ Inside t

-- The rule

module _ {E : Type 0} (by : E → ℕ) where
  -- each part's journal is a prefix of the history, and its callers, all of whom are among ns, have the same entries in both
  abbrev pub Parts : List ℕ → List E → List (Part E) → Type 0
  Parts ns history [] = Unit {0}
  Parts ns history (p ∷ ps) = (IsPrefix p.seen history × SameOwn by p.numbers p.seen history × ((n : ℕ) → Has p.numbers n → Has ns n)) × Parts ns history ps

  module _ (callers : ℕ) (history : List E) (ticket serving : ℕ) where
    -- one who waits has a ticket that was drawn and not yet served, and who is inside has the one that is served and has seen all
    abbrev pub AtStage : List E → Stage → Type 0
    AtStage seen Out = Unit {0}
    AtStage seen (Waiting k) = (serving ≤ k) × (k < ticket)
    AtStage seen (Inside k) = (k ≡ serving) × (k < ticket) × (seen ≡ history)

    pub record Fits (v : View E) : Type 0 where
      pub knows : callers ≤ v.callers
      pub seen : IsPrefix v.seen history
      pub own : SameOwn by v.numbers v.seen history
      pub rising : Rising v.numbers
      pub below : Below callers v.numbers
      pub stage : AtStage v.seen v.stage
      pub parts : Parts v.numbers history v.parts

module _ {T E : Type 0} (kept : T → List E) where
  -- the value is at home with its journal, and nobody is inside
  abbrev pub AtHome : List E → State (Option T) (View E) → Type 0
  AtHome history s = (value : T) × (get_elem? s.homes 0 ≡ some (some (Some value))) × (kept value ≡ history) × Each NotInside s.views

  -- somebody is inside
  abbrev pub IsOut : State (Option T) (View E) → Type 0
  IsOut s = (j : ℕ) × (t : ℕ) × (v : View E) × (get_elem? s.views j ≡ some v) × (v.stage ≡ Inside t)

  -- the journal of the value in the slot that was taken last
  abbrev pub journal_of : List (ℕ × Option T) → List E
  journal_of [] = []
  journal_of (x ∷ xs) = elim x.1 [ Some value ↦ kept value | None ↦ [] ]

  -- a step: the pass is outside, and has seen the journal that it left
  abbrev pub Gives : Me (Option T) (View E) → Me (Option T) (View E) → Type 0
  Gives m n = n ≡ (view_of m.0.callers (journal_of m.1) m.0.numbers Out, [])

module _ {T E : Type 0} (kept : T → List E) (by : E → ℕ) where
  -- there is one history, each entry of which bears a number that was handed out, with which all views fit, no two with a caller number or a ticket in common; where nobody is inside it is the journal of the value
  pub record Ruled (s : State (Option T) (View E)) : Type 0 where
    pub callers : ℕ
    pub few : callers < 2 ^ 32
    pub history : List E
    pub within : Within by callers history
    pub wide : length s.words ≡ 2
    pub long : length s.homes ≡ 1
    pub ordered : slice_index s.words 1 ≤ slice_index s.words 0
    pub each : Each (Fits by callers history (slice_index s.words 0) (slice_index s.words 1)) s.views
    pub numbers : Apart Owns s.views
    pub tickets : Apart Ticket s.views
    pub place : AtHome kept history s ⊎ IsOut kept s

  -- the value was taken by a pass with the view v and the ticket k, which has now seen the value's journal
  pub record Entered (v : View E) (k : ℕ) (n : Me (Option T) (View E)) : Type 0 where
    pub value : T
    pub held : n.1 ≡ (0, Some value) ∷ []
    pub view : n.0 ≡ view_of v.callers (kept value) v.numbers (Inside k)
    pub seen : IsPrefix v.seen (kept value)
    pub own : SameOwn by v.numbers v.seen (kept value)
    pub within : Within by v.callers (kept value)

  -- a pass that waits enters where the number served is its ticket, and only there
  abbrev pub Takes : Me (Option T) (View E) → ℕ → Me (Option T) (View E) → Type 0
  Takes m r n = (k : ℕ) → m.0.stage ≡ Waiting k → m.1 ≡ [] → (r ≡ k → Entered m.0 k n) × (r ≢ k → n ≡ m)

-- the pass waits with this ticket
abbrev pub with_ticket : {S E : Type 0} → ℕ → Me S (View E) → Me S (View E)
with_ticket k m = (view_of m.0.callers m.0.seen m.0.numbers (Waiting k), m.1)

-- the pass waits with the ticket that it drew, or nothing changed
abbrev pub Draws : {S E : Type 0} → ℕ → Me S (View E) → ℕ → Me S (View E) → Type 0
Draws old m r n = (r ≡ old → n ≡ with_ticket old m) × (r ≢ old → n ≡ m)

-- the parts are let go, after they were told to be prefixes of one history that the pass fits
abbrev pub Learns : {S E : Type 0} → (E → ℕ) → Me S (View E) → Me S (View E) → Type 0
Learns {S} {E} by m n = (n ≡ (view_of m.0.callers m.0.seen m.0.numbers m.0.stage, m.1)) × (length m.0.numbers < 2 ^ 32)
    × ((history : List E) × IsPrefix m.0.seen history × SameOwn by m.0.numbers m.0.seen history × Parts by m.0.numbers history m.0.parts)
