-- What a poll finds and leaves.
use Rattle.std.proofs.Common.{◌≡◌, ℕ, ◌+◌, ◌<◌, inl, inr, List, ◌∷◌, length, map, take, drop, get_or, Some, refl, sym, ap, subst, ◌∙◌}
use Rattle.std.specs.Prelude.{All, slice_get}
use Rattle.std.proofs.lemmas.List.Elements.{All-append, All-cons, All-drop, All-get_or, All-map, All-take, All-weaker}
use Rattle.std.proofs.lemmas.Option.{slice_get_within, get_or_from_slice_get}
use Rattle.mc_ring.specs.declared.event.Event.{Event}
use Rattle.mc_ring.specs.declared.event.Event.TheVariants.{None as Nothing}
use Rattle.mc_props.specs.declared.facts.Facts.{Facts}
use Rattle.mc_props.specs.declared.entries.PropEntry.{PropEntry}
use Rattle.mc_props.specs.declared.reading.Reading.{Reading}
use Rattle.mc_client.specs.Polls.{Finds, WatchesPolled, change_of, told_at}
use Rattle.mc_client.specs.Watches.{Fresh, IsPlaced, IsSettled, IsSure, Shown, cleared, present, with_given}
use Rattle.mc_client.specs.declared.watch.Watch.{Watch}
use Rattle.mc_client.specs.declared.watches.Changed.{Changed}

-- ---- what a search found is what a poll tells

pub tells : (now : Watch → Shown) (ws : List Watch) (c : Changed) (f : Finds now ws (Some c)) (e : Event) (ws' : List Watch)
    → e ≡ change_of f.0 c.shown → ws' ≡ told_at ws c.place f.0 c.shown → WatchesPolled now ws e ws'
tells now ws c f e ws' event after =
    let shown : c.shown ≡ now f.0 = f.2 in
    inl (record {
      place = c.place;
      watch = f.0;
      first = f.1;
      event = event ∙ ap (λ (s : Shown). change_of f.0 s) shown;
      after = after ∙ ap (λ (s : Shown). told_at ws c.place f.0 s) shown;
    })

pub within : (now : Watch → Shown) (ws : List Watch) (c : Changed) → Finds now ws (Some c) → c.place < length ws
within now ws c f = slice_get_within ws c.place f.0 f.1.stands

pub stands_at : (now : Watch → Shown) (ws : List Watch) (c : Changed) (f : Finds now ws (Some c)) (d : Watch) → get_or ws c.place d ≡ f.0
stands_at now ws c f d = get_or_from_slice_get ws c.place f.0 d f.1.stands

-- ---- a fresh client stays fresh

pub of_one : (P : Watch → Type 0) (ws : List Watch) (place : ℕ) (w : Watch) → slice_get ws place ≡ Some w → All P ws → P w
of_one P ws place w e all = subst P (get_or_from_slice_get ws place w w e) (All-get_or P ws place w (slice_get_within ws place w e) all)

pub stays_fresh : (stated : ℕ → Facts → Reading) (entries : List PropEntry) (facts : Facts) (ws : List Watch) (e : Event) (ws' : List Watch)
    → Fresh stated entries facts ws → WatchesPolled (present stated facts) ws e ws' → Fresh stated entries facts ws'
stays_fresh stated entries facts ws e ws' h (inl t) =
    let now = present stated facts in
    let Placed : Watch → Type 0 = IsPlaced entries in
    let Sure : Watch → Type 0 = IsSure now in
    let front = take t.place ws in
    let back = drop (t.place + 1) ws in
    let w = with_given t.watch (now t.watch) in
    let placed : All Placed (told_at ws t.place t.watch (now t.watch)) =
    All-append Placed (map cleared front) (w ∷ back) (All-map Placed cleared front (All-take Placed t.place ws h.placed))
    (All-cons Placed w back (of_one Placed ws t.place t.watch t.first.stands h.placed) (All-drop Placed (t.place + 1) ws h.placed)) in
    let sure : All Sure (told_at ws t.place t.watch (now t.watch)) =
    All-append Sure (map cleared front) (w ∷ back)
    (All-map Sure cleared front (All-weaker (IsSettled now) (λ x. Sure (cleared x)) (λ x s f. s) front t.first.before))
    (All-cons Sure w back (λ f. refl) (All-drop Sure (t.place + 1) ws h.sure)) in
    record { placed = subst (All Placed) (sym t.after) placed; sure = subst (All Sure) (sym t.after) sure }
stays_fresh stated entries facts ws e ws' h (inr q) =
    let now = present stated facts in
    let Placed : Watch → Type 0 = IsPlaced entries in
    let Sure : Watch → Type 0 = IsSure now in
    let placed : All Placed (map cleared ws) = All-map Placed cleared ws h.placed in
    let sure : All Sure (map cleared ws) = All-map Sure cleared ws (All-weaker (IsSettled now) (λ x. Sure (cleared x)) (λ x s f. s) ws q.settled) in
    record { placed = subst (All Placed) (sym q.after) placed; sure = subst (All Sure) (sym q.after) sure }

-- ---- no event means that each observer was last given what it has

pub quiet : (stated : ℕ → Facts → Reading) (facts : Facts) (ws : List Watch) (e : Event) (ws' : List Watch)
    → WatchesPolled (present stated facts) ws e ws' → e ≡ Nothing → All (IsSettled (present stated facts)) ws'
quiet stated facts ws e ws' (inl t) is = absurd (no_change t.watch (present stated facts t.watch) (sym t.event ∙ is))
  where
    no_change : (w : Watch) (s : Shown) → change_of w s ≡ Nothing → ⊥
    no_change w s e = cc
quiet stated facts ws e ws' (inr q) is =
    let now = present stated facts in
    let Settled : Watch → Type 0 = IsSettled now in
    subst (All Settled) (sym q.after) (All-map Settled cleared ws q.settled)
